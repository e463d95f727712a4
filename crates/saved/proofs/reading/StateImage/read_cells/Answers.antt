-- The first i cells are those of the image. Assumes nothing.
use Rattle.std.proofs.Common.{ℕ, List, drop, ap, sym, ◌∙◌, arith, ◌<◌}
use Rattle.std.proofs.lemmas.List.{take_all}
use Rattle.rules.specs.Fields.{bits_of}
use Rattle.rules.specs.SavedState.{head_width, cells_in}
use Rattle.rules.specs.declared.Cell.{Cell}
use Rattle.saved.specs.Cells.{cell_in}
use Rattle.saved.proofs.Columns.{column_length, cell_at, filled_more}
use Rattle.saved.proofs.reading.StateImage.read_cells.Goals as goal

pub loop-i-preserved : goal.loop-i-preserved
unfolding cell_in
loop-i-preserved c =
    let t = c.loop-i in
    let cell = c.cell-cell in
    let n : ℕ = c.args.self.now.registers.n in
    let l : List ℕ = bits_of c.args.self.now.image.now in
    let h : t.i < n = c.loop-i-test.true in
    record {
      bits_read = filled_more t.bits (cells_in n l).bits t.i cell.result.bits (omega arith) (omega (arith, column_length 1 n (drop head_width l))) t.invariant.bits_read
          (ap (λ (x : Cell). x.bits) cell.ensures ∙ sym (cell_at 1 n l t.i h));
      tags_read = filled_more t.tags (cells_in n l).tags t.i cell.result.tag (omega arith) (omega (arith, column_length 0 n (drop head_width l))) t.invariant.tags_read
          (ap (λ (x : Cell). x.tag) cell.ensures ∙ sym (cell_at 0 n l t.i h));
    }

pub returns : goal.returns
returns c =
    let t = c.loop-i in
    let n : ℕ = c.args.self.now.registers.n in
    let l : List ℕ = bits_of c.args.self.now.image.now in
    record {
      bits = sym (take_all t.i t.bits (omega arith)) ∙ t.invariant.bits_read ∙ take_all t.i (cells_in n l).bits (omega (arith, column_length 1 n (drop head_width l)));
      tags = sym (take_all t.i t.tags (omega arith)) ∙ t.invariant.tags_read ∙ take_all t.i (cells_in n l).tags (omega (arith, column_length 0 n (drop head_width l)));
    }
