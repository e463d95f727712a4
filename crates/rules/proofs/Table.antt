-- The table's part of 10, as facts: how long a sound table is, that its used places can be assembled, and that the others are zero.
-- Assumes nothing.
use Prim.Native.Nat.{ℕ, ◌-◌, ◌≤◌, ◌<◌}
use mathlib.Core.Path.{◌≡◌, refl, ap, sym, ◌∙◌}
use mathlib.Core.Bool.{Bool, true, ◌&&◌}
use mathlib.Core.List.{List, [], ◌∷◌, ◌++◌}
use native.Mathlib.Omega.{arith}
use lib.Dec.{leb, ltb, eqb}
use lib.ListN.{length, get_or, take, drop, replicate, length-drop, take-append-drop}
use lib.Seq.{get_or-take, length-take-le}
use borrow.Author.Tests.{leb-true, ltb-true, eqb-true}
use Rattle.rules.specs.Lists.{all}
use Rattle.rules.specs.Sizes.{max_program}
use Rattle.rules.specs.Instructions.{codes, kind_of}
use Rattle.rules.specs.Table.{Program, code_of, operand_of, within, sound_place, is_zero, sound_table}
use Rattle.rules.proofs.Tests.{and_left, and_right, all_at}

zeros : (l : List ℕ) → all is_zero l ≡ true → l ≡ replicate (length l) 0
unfolding all
zeros [] f = refl
zeros (x ∷ l) f =
    rw (eqb-true x 0 (and_left (is_zero x) (all is_zero l) f)) (ap (λ (t : List ℕ). 0 ∷ t) (zeros l (and_right (is_zero x) (all is_zero l) f)))

module _ (p : Program) (h : sound_table p ≡ true) where
  abbrev used : List ℕ
  used = take p.count p.places

  abbrev unused : List ℕ
  unused = drop p.count p.places

  abbrev placed : Bool
  placed = all (sound_place p.count) used && all is_zero unused

  abbrev sized : Bool
  sized = eqb (length p.places) max_program && placed

  -- ---- how long it is

  pub table_short : p.count ≤ max_program
  unfolding sound_table
  table_short = leb-true p.count max_program (and_left (leb p.count max_program) sized h)

  table_sized : sized ≡ true
  unfolding sound_table
  table_sized = and_right (leb p.count max_program) sized h

  pub table_long : length p.places ≡ max_program
  table_long = eqb-true (length p.places) max_program (and_left (eqb (length p.places) max_program) placed table_sized)

  table_placed : placed ≡ true
  table_placed = and_right (eqb (length p.places) max_program) placed table_sized

  -- ---- the used places

  pub used_sound : all (sound_place p.count) (take p.count p.places) ≡ true
  used_sound = and_left (all (sound_place p.count) used) (all is_zero unused) table_placed

  pub used_count : length (take p.count p.places) ≡ p.count
  used_count = length-take-le p.count p.places (omega (arith, table_short, table_long))

  -- a place below the program's length can be assembled
  pub place_sound : (k : ℕ) → k < p.count → sound_place p.count (get_or p.places k 0) ≡ true
  place_sound k kc =
      ap (sound_place p.count) (sym (get_or-take p.count p.places k 0 kc))
      ∙ all_at (sound_place p.count) used k used_sound (omega (arith, used_count))

  -- and holds an instruction
  pub place_coded : (k : ℕ) → k < p.count → code_of (get_or p.places k 0) < codes
  unfolding sound_place
  place_coded k kc =
      let q = get_or p.places k 0 in
      ltb-true (code_of q) codes (and_left (ltb (code_of q) codes) (within (kind_of (code_of q)) p.count (operand_of q)) (place_sound k kc))

  -- ---- the others

  -- the used places and as many zeros as there are others: the whole table
  pub used_whole : take p.count p.places ++ replicate (max_program - p.count) 0 ≡ p.places
  used_whole =
      let e : max_program - p.count ≡ length unused = omega (arith, length-drop p.count p.places, table_long) in
      ap (λ (k : ℕ). used ++ replicate k 0) e
      ∙ ap (λ (l : List ℕ). used ++ l) (sym (zeros unused (and_right (all (sound_place p.count) used) (all is_zero unused) table_placed)))
      ∙ take-append-drop p.count p.places
