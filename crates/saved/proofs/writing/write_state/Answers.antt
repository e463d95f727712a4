-- The head, the cells and the bytes stand side by side over the zeros. Assumes nothing.
use Rattle.std.proofs.Common.{◌≡◌, ℕ, length, ap, ◌∙◌, arith}
use Rattle.std.proofs.lemmas.List.{length-replicate}
use Rattle.rules.specs.Sizes.{state_size}
use Rattle.rules.specs.Cells.{cells}
use Rattle.rules.proofs.SavedState.{state_length}
use Rattle.saved.proofs.States.{state_written}
use Rattle.saved.proofs.writing.write_state.Goals as goal

pub returns : goal.returns
returns c =
    let a = c.args in
    let lent = cells a.bits.now a.tags.now in
    let blank : length a.image.now ≡ state_size = ap length c.requires.5 ∙ length-replicate {A = ℕ} state_size 0 in
    record {
      bytes = state_written a.r lent a.output.now a.image.now _ _ _ _ _ c.requires.0 c.requires.1 c.requires.2 c.requires.5
          (c.write_output.auto.image ∙ c.write_cells.auto.image ∙ c.put.auto.out ∙ blank) (λ k. (c.type_inv.image k).fits)
          c.head_of.ensures c.put.ensures c.write_cells.ensures c.behind_cells.ensures c.write_output.ensures;
      told = omega (arith, c.div_ceil.ensures, c.announced.ensures, state_length a.r lent a.output.now c.requires.0 c.requires.1 c.requires.3);
    }
