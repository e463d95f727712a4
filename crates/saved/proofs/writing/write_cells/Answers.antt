-- The first cells stand behind the head. Assumes nothing.
use Rattle.std.proofs.Common.{◌≡◌, ◌≤◌, ◌*◌, ℕ, List, [], ◌∷◌, length, take, get_or, length-drop, sym, ap, ap₂, ◌∙◌, arith, rules, inl, inr}
use lib.Dec.{lit≤}
use Rattle.rules.specs.Lists.{splice}
use Rattle.rules.specs.Sizes.{state_size}
use Rattle.rules.specs.Fields.{field, bits_of, side}
use Rattle.rules.specs.SavedState.{head_width, saved_cell_layout, saved_cell_width, cells_saved}
use Rattle.rules.proofs.Fields.{bits_of_length}
use Rattle.rules.proofs.Layouts.{laid_out}
use Rattle.rules.proofs.Splice.{splice_none}
use Rattle.std.proofs.lemmas.List.{take_all}
use Rattle.saved.proofs.Columns.{written_behind, cells_more, cells_so_far, given_next}
use Rattle.saved.proofs.writing.write_cells.Goals as goal

pub loop-i-init : goal.loop-i-init
loop-i-init c =
    let none : c.into_iter-i-iterator.result.count ≡ 0 = search rules in
    rw none (record { within = omega arith; tags_left = search rules; bits_left = search rules; written = sym (splice_none (bits_of c.args.image.now) head_width) })

pub loop-i-preserved : goal.loop-i-preserved
loop-i-preserved c =
    let a = c.args in
    let t = c.loop-i in
    let i : ℕ = t.i-iterator.count in
    let ts : List ℕ = a.tags.now in
    let bs : List ℕ = a.bits.now in
    let z : List ℕ = bits_of a.image.now in
    let f : List ℕ = cells_saved (take i ts) (take i bs) in
    let g : List ℕ = side saved_cell_layout (get_or ts i 0 ∷ get_or bs i 0 ∷ []) in
    let step = c.in-Some.ensures.steps in
    let tag = given_next ts i c.in-Some.tag.now _ (sym t.invariant.tags_left ∙ step.0.0) in
    let bits = given_next bs i c.in-Some.bits.now _ (sym t.invariant.bits_left ∙ step.0.1) in
    let lf : length f ≡ i * saved_cell_width = cells_so_far ts bs i c.requires.0 t.invariant.within in
    let lz : length z ≡ state_size * 8 = bits_of_length a.image.now ∙ ap (λ (k : ℕ). k * 8) c.requires.2 in
    rw step.2
    (record {
      within = omega (arith, tag.0);
      tags_left = tag.2;
      bits_left = bits.2;
      written =
          written_behind z (bits_of t.image) _ f g head_width _ saved_cell_width _ (lit≤ tt)
          (c.behind_cells.ensures ∙ omega (arith, lf, step.1)) (omega (arith, lf, lz, tag.0, c.requires.1))
          (ap (field saved_cell_width) c.cell_number.ensures ∙ laid_out saved_cell_layout (c.in-Some.tag.now ∷ c.in-Some.bits.now ∷ []) ∙ rw (tag.1, bits.1))
          t.invariant.written c.put.ensures
          ∙ ap (splice z head_width) (sym (cells_more ts bs i c.requires.0 tag.0));
    })

pub returns : goal.returns
returns c =
    let t = c.loop-i.invariant in
    let i : ℕ = c.loop-i.i-iterator.count in
    let far : length c.args.tags.now ≤ i =
    elim c.in-None.ensures.steps.0 [
      | inl e ↦ omega (arith, e.1, ap length t.tags_left, length-drop i c.args.tags.now)
      | inr e ↦ omega (arith, e.1, ap length t.bits_left, length-drop i c.args.bits.now, c.requires.0)
    ] in
    t.written
    ∙ ap₂ (λ (ts bs : List ℕ). splice (bits_of c.args.image.now) head_width (cells_saved ts bs)) (take_all i c.args.tags.now far) (take_all i c.args.bits.now (omega (arith, far, c.requires.0)))
