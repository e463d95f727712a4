-- Each cell is judged. Assumes nothing.
use Rattle.std.proofs.Common.{ℕ, List, rules, true, false, refl}
use native.Mathlib.Nat.{sub-zero}
use Rattle.std.proofs.lemmas.Iterator.{cases_from_all, YieldsList-from_range}
use Rattle.rules.specs.Fields.{bits_of}
use Rattle.saved.proofs.Columns.{cell_is, cells_judged}
use Rattle.saved.proofs.reading.StateImage.are_sound_cells.Goals as goal

pub returns : goal.returns
returns c =
    let a = c.args in
    let n : ℕ = a.self.now.registers.n in
    let l : List ℕ = bits_of a.self.now.image.now in
    cells_judged a.count n l c.all.result
    (cases_from_all _ _ c.all.result (cell_is a.count n l true) (cell_is a.count n l false) c.all.ensures.ran (YieldsList-from_range 0 n n refl (sub-zero n))
    (λ k q h. search rules) (λ k q h. search rules))
