-- A well-formed top record of a sound state can be taken back, where what it shows can be dropped. Assumes nothing.
use mathlib.Core.Path.{◌≡◌, sym, ◌∙◌}
use mathlib.Core.Bool.{Bool, true, not, ◌||◌}
use native.Mathlib.Omega.{arith}
use lib.Dec.{ltb}
use Rattle.rules.specs.Table.{Program}
use Rattle.rules.specs.State.{Memory}
use Rattle.rules.specs.Back.{top_record, top_place, formed_top}
use Rattle.rules.specs.declared.Registers.{Registers}
use Rattle.rules.proofs.Records.{cells_within, addresses_below}
use Rattle.state.specs.Held.{Held}
use Rattle.back.specs.Undoable.{Undoable}

pub undoable : (p : Program) (r : Registers) (m : Memory) (shows : Bool) → formed_top p r m ≡ true → (r.used ≡ 0 → ⊥) → Held p r m
    → (not shows || ltb 0 r.written) ≡ true → Undoable (top_place r m) shows r m
undoable p r m shows formed used held can =
    let some : r.kept ≡ 0 → ⊥ = λ q. used (held.none q) in
    record {
      tagged = held.cells ∙ sym held.tagged;
      kept = omega (arith, some);
      count = omega (arith, used, cells_within r.n p.count (top_record r m) formed);
      used = omega (arith, held.places, held.used);
      addresses = λ k h. omega (arith, held.cells, addresses_below r.n p.count (top_record r m) formed k h);
      drops = can;
      written = held.written;
    }
