-- The laws of the unpacker's definitions: each answer of each part, and a turn of a loop over the instructions. Assumes nothing.
use Rattle.std.specs.Prelude.{Ok, Err}
use Prim.Native.Nat.{ℕ, suc, ◌+◌, ◌-◌, ◌≤◌, ◌<◌}
use mathlib.Core.Path.{◌≡◌, refl, sym, ap, ap₂, ◌∙◌}
use mathlib.Core.Bool.{Bool, true, false, cond}
use mathlib.Core.List.{List, [], ◌∷◌, ◌++◌, append_assoc, append-nil}
use native.Mathlib.Numerals.{add-one}
use native.Mathlib.Omega.{arith}
use borrow.Author.Tests.{lt-ltb, le-ltb, le-leb, lt-leb, eq-eqb, ne_eqb}
use lib.Dec.{ltb}
use lib.ListN.{length, take, drop, set, replicate, take-append-drop}
use lib.Seq.{take-suc-set, length-take-le, drop-drop}
use Rattle.rules.specs.Sizes.{max_program}
use Rattle.rules.specs.Fields.{value, bits_of, padded}
use Rattle.rules.specs.Instructions.{codes, kind_of}
use Rattle.rules.specs.Table.{place_of, within}
use Rattle.rules.specs.Image.{count_width, code_width, width_of, extended, take_operand, take_one, Unpacking, places, unfit, prepend, at_end, followed, unpack_from, unpacked, denied, filed, unpack}
use Rattle.rules.specs.declared.ImageRefusal.{ImageRefusal}
use Rattle.rules.specs.declared.ImageRefusal.TheVariants.{OutputLength, EndsEarly, CountTooHigh, CodeTooHigh, OperandOutside, BadPadding}
use Rattle.rules.specs.Answers.{Decoded}
use Rattle.rules.proofs.Outputs.{blanked_right}

-- two tests, each of which is known
conds : {A : Type 0} (a b c : A) {x y u v : Bool} → x ≡ u → y ≡ v → cond x a (cond y b c) ≡ cond u a (cond v b c)
conds a b c e f = ap₂ (λ (s t : Bool). cond s a (cond t b c)) e f

-- ---- an operand
module _ (count code : ℕ) (bits : List ℕ) where
  -- the 32 bits that it has in a table
  abbrev pub operand_at : ℕ
  operand_at = extended (kind_of code) (value (take (width_of (kind_of code)) bits))

  pub operand_short : length bits < width_of (kind_of code) → take_operand count code bits ≡ Err EndsEarly
  unfolding take_operand
  operand_short h = simp (lt-ltb (length bits) (width_of (kind_of code)) h)

  pub operand_outside : width_of (kind_of code) ≤ length bits → within (kind_of code) count operand_at ≡ false → take_operand count code bits ≡ Err OperandOutside
  unfolding take_operand
  operand_outside h e = conds _ _ _ (le-ltb _ _ h) e

  pub operand_taken : width_of (kind_of code) ≤ length bits → within (kind_of code) count operand_at ≡ true
      → take_operand count code bits ≡ Ok (record { place = place_of code operand_at; width = code_width + width_of (kind_of code) })
  unfolding take_operand
  operand_taken h e = conds _ _ _ (le-ltb _ _ h) e

-- ---- an instruction
module _ (count : ℕ) (bits : List ℕ) where
  pub one_short : length bits < code_width → take_one count bits ≡ Err EndsEarly
  unfolding take_one
  one_short h = simp (lt-ltb (length bits) code_width h)

  pub one_code : code_width ≤ length bits → codes ≤ value (take code_width bits) → take_one count bits ≡ Err CodeTooHigh
  unfolding take_one
  one_code h g = conds _ _ _ (le-ltb _ _ h) (le-leb codes _ g)

  pub one_operand : code_width ≤ length bits → value (take code_width bits) < codes → take_one count bits ≡ take_operand count (value (take code_width bits)) (drop code_width bits)
  unfolding take_one
  one_operand h g = conds _ _ _ (le-ltb _ _ h) (lt-leb codes _ g)

-- ---- the whole image
module _ (image : List ℕ) where
  pub unpacked_short : length (bits_of image) < count_width → unpacked image ≡ unfit EndsEarly
  unfolding unpacked
  unpacked_short h = simp (lt-ltb (length (bits_of image)) count_width h)

  module _ (n : ℕ) (l : count_width ≤ length (bits_of image)) (e : n ≡ value (take count_width (bits_of image))) where
    pub unpacked_count : max_program < n → unpacked image ≡ unfit CountTooHigh
    unfolding unpacked
    unpacked_count h = conds _ _ _ (le-ltb _ _ l) (ap (ltb max_program) (sym e) ∙ lt-ltb max_program n h)

    pub unpacked_from : n ≤ max_program → unpacked image ≡ unpack_from n n (drop count_width (bits_of image))
    unfolding unpacked
    unpacked_from h =
        conds _ _ _ (le-ltb _ _ l) (ap (ltb max_program) (sym e) ∙ le-ltb max_program n h)
        ∙ ap (λ (k : ℕ). unpack_from k k (drop count_width (bits_of image))) (sym e)

  -- a refusal, and the zeros that go with it
  pub unfit_filed : (lent : List ℕ) → length lent ≡ max_program → (k : ImageRefusal) (x : List ℕ) → unpacked image ≡ unfit k → x ≡ replicate max_program 0
      → (Err k ≡ (filed lent (unpacked image)).answer) × (x ≡ (filed lent (unpacked image)).output)
  unfit_filed lent l k x e h = (
    sym (ap (λ (u : Unpacking). (filed lent u).answer) e),
    h ∙ sym (ap (λ (u : Unpacking). (filed lent u).output) e ∙ blanked_right max_program lent l),
  )

pub prepend_none : (u : Unpacking) → prepend [] u ≡ u
prepend_none (places ps) = refl
prepend_none (unfit k) = refl

pub prepend_prepend : (xs ys : List ℕ) (u : Unpacking) → prepend xs (prepend ys u) ≡ prepend (xs ++ ys) u
prepend_prepend xs ys (places ps) = ap places (sym (append_assoc xs ys ps))
prepend_prepend xs ys (unfit k) = refl

pub from_one : (count m : ℕ) (bits : List ℕ) {o : Decoded} → take_one count bits ≡ o → unpack_from count (suc m) bits ≡ followed o (λ k. unpack_from count m (drop k bits))
unfolding unpack_from
from_one count m bits e = ap (λ (o : Decoded). followed o (λ k. unpack_from count m (drop k bits))) e

-- one turn of a loop that holds the first i places, at bit `at`
module _ (u : Unpacking) (n i at : ℕ) (table bits : List ℕ) (hn : i < n)
    (e : u ≡ prepend (take i table) (unpack_from n (n - i) (drop at bits))) where
  next : {o : Decoded} → take_one n (drop at bits) ≡ o → u ≡ prepend (take i table) (followed o (λ k. unpack_from n (n - (i + 1)) (drop k (drop at bits))))
  next r =
      let f : n - i ≡ suc (n - (i + 1)) = omega arith in
      e ∙ ap (λ (k : ℕ). prepend (take i table) (unpack_from n k (drop at bits))) f ∙ ap (prepend (take i table)) (from_one n (n - (i + 1)) (drop at bits) r)

  pub turn_unfit : (k : ImageRefusal) → take_one n (drop at bits) ≡ Err k → u ≡ unfit k
  turn_unfit k r = next r

  pub turn_place : (p taken : ℕ) → i < length table → take_one n (drop at bits) ≡ Ok (record { place = p; width = taken })
      → u ≡ prepend (take (i + 1) (set table i p)) (unpack_from n (n - (i + 1)) (drop (at + taken) bits))
  turn_place p taken h r =
      next r ∙ prepend_prepend (take i table) (p ∷ []) (unpack_from n (n - (i + 1)) (drop taken (drop at bits)))
      ∙ ap₂ (λ (ps l : List ℕ). prepend ps (unpack_from n (n - (i + 1)) l))
      (sym (take-suc-set table i p h) ∙ ap (λ (k : ℕ). take k (set table i p)) (sym (add-one i)))
      (drop-drop taken at bits)

-- the end of that loop
module _ (image table : List ℕ) (n at : ℕ) (e : unpacked image ≡ prepend (take n table) (unpack_from n 0 (drop at (bits_of image)))) where
  pub end_unfit : padded (drop at (bits_of image)) ≡ false → unpacked image ≡ unfit BadPadding
  unfolding unpack_from at_end
  end_unfit p = e ∙ ap (λ (b : Bool). prepend (take n table) (cond b (places []) (unfit BadPadding))) p

  pub end_filed : (lent : List ℕ) → padded (drop at (bits_of image)) ≡ true → n ≤ max_program → length table ≡ max_program → drop n table ≡ replicate (max_program - n) 0
      → (Ok n ≡ (filed lent (unpacked image)).answer) × (table ≡ (filed lent (unpacked image)).output)
  unfolding unpack_from at_end
  end_filed lent p h l z =
      let f : unpacked image ≡ places (take n table) =
      e ∙ ap (λ (b : Bool). prepend (take n table) (cond b (places []) (unfit BadPadding))) p ∙ ap places (append-nil (take n table)) in
      let k : length (take n table) ≡ n = length-take-le n table (omega arith) in (
        sym (ap (λ (u : Unpacking). (filed lent u).answer) f ∙ ap Ok k),
        sym (ap (λ (u : Unpacking). (filed lent u).output) f ∙ ap (λ (m : ℕ). take n table ++ replicate (max_program - m) 0) k
            ∙ ap (λ (r : List ℕ). take n table ++ r) (sym z) ∙ take-append-drop n table),
      )

-- ---- the answers
module _ (image table : List ℕ) where
  -- 31
  pub unpack_length : (length table ≡ max_program → ⊥) → unpack image table ≡ record { answer = Err OutputLength; output = table }
  unfolding unpack
  unpack_length h = rw (ne_eqb (length table) max_program h)

  pub unpack_filed : length table ≡ max_program → unpack image table ≡ filed table (unpacked image)
  unfolding unpack
  unpack_filed h = ap (λ (b : Bool). cond b (filed table (unpacked image)) (denied max_program OutputLength table)) (eq-eqb (length table) max_program h)
