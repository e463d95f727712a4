-- What a load is refused with, or that it is accepted, from what the judging functions tell. Assumes nothing.
use Rattle.std.proofs.Common.{◌≡◌, ◌*◌, ◌≤◌, ℕ, Bool, true, false, List, Ok, Err, length, drop, sym, ap, ap₂, subst, ◌∙◌, arith}
use mathlib.Core.Bool.{◌&&◌}
use Rattle.rules.specs.Lists.{every}
use Rattle.rules.specs.Fields.{bits_of, padded}
use Rattle.rules.specs.Table.{Program}
use Rattle.rules.specs.State.{Memory, sound_cells, range_tests}
use Rattle.rules.specs.SavedState.{told_cells, told_bytes, registers_in, cells_in, announced, not_loaded, loaded, lent_sizes, entry, load}
use Rattle.rules.specs.declared.Registers.{Registers}
use Rattle.rules.specs.declared.LoadRefusal.TheVariants.{OutsideRanges, StatePadding, OtherSizes}
use Rattle.rules.proofs.FairEffects.{sound_facts}
use Rattle.rules.proofs.SavedState.{entry_sizes, entry_going, Entered, entry_facts, entry_of, registers_held, is_sound, is_padded, load_ranges, load_padding, load_done}
use Rattle.state.proofs.Parts.{sound_parts}
use Rattle.saved.proofs.OneNumber.{head_announces}
use Rattle.saved.proofs.Columns.{column_length}

-- ---- 67, of an image with all that it announces
module _ (image : List ℕ) (h : ℕ) (r : Registers) (er : r ≡ registers_in h (bits_of image)) (whole : announced r.n r.written ≤ length image * 8) (bits tags history output : ℕ) where
  there : announced (told_cells (bits_of image)) (told_bytes (bits_of image)) ≤ length image * 8
  there = omega (arith, head_announces h (bits_of image) r er)

  lent_is : every (lent_sizes (told_cells (bits_of image)) bits tags history output) ≡ every (lent_sizes r.n bits tags history output)
  unfolding registers_in
  lent_is = sym (ap (λ (q : Registers). every (lent_sizes q.n bits tags history output)) er)

  pub other_sizes : every (lent_sizes r.n bits tags history output) ≡ false → entry image bits tags history output ≡ Err OtherSizes
  other_sizes f = entry_sizes image bits tags history output there (lent_is ∙ f)

  pub let_in : every (lent_sizes r.n bits tags history output) ≡ true → entry image bits tags history output ≡ Ok tt
  let_in f = entry_going image bits tags history output there (lent_is ∙ f)

-- ---- 10 and 45, of an image that is let in
module _ (image : List ℕ) (p : Program) (m : Memory) (going : entry_of image p m ≡ Ok tt) (r : Registers) (er : r ≡ registers_held image p m) where
  abbrev l : List ℕ
  l = bits_of image

  entered : Entered image (length m.cells.bits) (length m.cells.tags) (length m.history) (length m.output)
  entered = entry_facts image (length m.cells.bits) (length m.cells.tags) (length m.history) (length m.output) going

  pub taken_bits : length m.cells.bits ≡ r.n
  unfolding registers_in
  taken_bits = entered.cells ∙ ap (λ (q : Registers). q.n) (sym er)

  pub taken_tags : length m.cells.tags ≡ r.n
  unfolding registers_in
  taken_tags = entered.tagged ∙ ap (λ (q : Registers). q.n) (sym er)

  -- the state that is judged
  abbrev judged_by : Registers → Bool
  judged_by q = every (range_tests p q q.n q.n q.h (length m.output)) && sound_cells p.count (cells_in q.n l).tags (cells_in q.n l).bits

  sound_is : is_sound image p m ≡ judged_by r
  unfolding registers_in
  sound_is =
      let q : Registers = registers_held image p m in
      sound_parts p q (record { cells = cells_in q.n l; history = m.history; output = m.output })
      ∙ ap₂ (λ (b t : ℕ). every (range_tests p q b t (length m.history) (length m.output)) && sound_cells p.count (cells_in q.n l).tags (cells_in q.n l).bits)
      (column_length 1 q.n (drop 51 l)) (column_length 0 q.n (drop 51 l))
      ∙ ap judged_by (sym er)

  pub not_judged : judged_by r ≡ false → load image p m ≡ not_loaded m OutsideRanges
  not_judged f = load_ranges image p m going (sound_is ∙ f)

  module _ (f : judged_by r ≡ true) where
    padded_is : is_padded image p m ≡ padded (drop (announced r.n r.written) l)
    padded_is = sym (ap (λ (q : Registers). padded (drop (announced q.n q.written) l)) er)

    pub not_padded : padded (drop (announced r.n r.written) l) ≡ false → load image p m ≡ not_loaded m StatePadding
    not_padded g = load_padding image p m going (sound_is ∙ f) (padded_is ∙ g)

    pub taken : padded (drop (announced r.n r.written) l) ≡ true → load image p m ≡ loaded r l m
    taken g = load_done image p m going (sound_is ∙ f) (padded_is ∙ g) ∙ ap (λ (q : Registers). loaded q l m) (sym er)

    pub taken_written : r.written ≤ length m.output
    taken_written = subst (λ (q : Registers). q.written ≤ length m.output) (sym er) (sound_facts p (registers_held image p m) _ (sound_is ∙ f)).written
