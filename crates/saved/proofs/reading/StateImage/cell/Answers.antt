-- A cell is read as one number. Assumes nothing.
use Rattle.std.proofs.Common.{◌+◌, ◌*◌, ◌≤◌, ℕ, List, length, ap, ◌∙◌, arith}
use lib.Dec.{lit≤}
use Rattle.rules.specs.Fields.{field, bits_of}
use Rattle.rules.specs.SavedState.{head_width, saved_cell_width}
use Rattle.rules.proofs.Fields.{bits_of_length}
use Rattle.rules.proofs.Bits.{bits_bytes}
use Rattle.fields.specs.Within.{read_at}
use Rattle.fields.proofs.Within.{read_inside}
use Rattle.saved.specs.Cells.{saved_cell, cell_in}
use Rattle.saved.proofs.OneNumber.{cell_read}
use Rattle.saved.proofs.reading.StateImage.cell.Goals as goal

pub returns : goal.returns
unfolding cell_in
returns c =
    let image : List ℕ = c.args.self.now.image.now in
    let l : List ℕ = bits_of image in
    let at : ℕ = head_width + c.args.i * saved_cell_width in
    let long : at + saved_cell_width ≤ length l = omega (arith, bits_of_length image, c.args.self.now.whole) in
    c.cell_of.ensures
    ∙ ap (λ (v : ℕ). saved_cell (field saved_cell_width v))
    (c.get.ensures ∙ ap (λ (k : ℕ). read_at l k saved_cell_width) c.behind_cells.ensures ∙ read_inside l at saved_cell_width (lit≤ tt) long)
    ∙ cell_read l (bits_bytes image) at long
