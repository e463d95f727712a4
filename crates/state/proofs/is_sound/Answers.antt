-- `state::is_sound` meets its contract: there is a tag for each cell. Assumes nothing.
use mathlib.Core.Path.{sym, ◌∙◌}
use Rattle.program.specs.Lent.{program_of}
use Rattle.rules.specs.State.{memory}
use Rattle.state.proofs.Parts.{cells_equal}
use Rattle.state.proofs.is_sound.Goals as goal

pub are_sound_cells-requires : goal.are_sound_cells-requires
are_sound_cells-requires c =
    cells_equal (program_of c.args.p) c.args.r (memory c.args.bits.now c.args.tags.now c.args.history.now c.args.output.now)
    (sym (rw c.of.ensures at c.is_in_range.ensures) ∙ c.if-is_in_range.true)
