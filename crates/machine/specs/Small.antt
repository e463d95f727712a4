-- Registers of a sound state are small, so that sums of them fit, and that they fit the fields of a history place; and SP is below N. Assumes nothing.
use Rattle.std.specs.Prelude.{◌<◌}
use Rattle.rules.specs.declared.Registers.{Registers}
use Rattle.machine.specs.Spans.{cell_span, pc_span}

abbrev pub Small : Registers → Type 0
Small r = (r.pc < pc_span) × (r.sp < cell_span) × (r.fbr < cell_span) × (r.sp < r.n)
