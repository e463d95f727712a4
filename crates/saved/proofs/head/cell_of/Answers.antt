-- Each field of a cell, by the law `field_in_lem`. Assumes nothing.
use mathlib.Core.Path.{◌≡◌, refl, sym}
use Prim.Native.Nat.{◌%◌, ◌^◌}
use native.Mathlib.Omega.{arith}
use Rattle.rules.specs.Fields.{field, field_in}
use Rattle.rules.specs.SavedState.{saved_cell_layout, saved_cell_width}
use Rattle.rules.proofs.Layouts.{field_in_lem}
use Rattle.saved.proofs.head.cell_of.Goals as goal

pub returns : goal.returns
returns c i =
    let number = c.args.number in
    let low : number % 2 ^ 32 ≡ field_in saved_cell_layout 1 (field saved_cell_width number) = omega (arith, field_in_lem saved_cell_layout 1 saved_cell_width number refl) in
    record { bits = low i; tag = sym (field_in_lem saved_cell_layout 0 saved_cell_width number refl) i }
