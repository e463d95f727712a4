-- A why, answer by answer. Assumes nothing.
use Rattle.std.specs.Prelude.{Err}
use Prim.Native.Nat.{ℕ, ◌≤◌, ◌<◌}
use mathlib.Core.Path.{◌≡◌, refl}
use mathlib.Core.Bool.{true, false}
use borrow.Author.Tests.{lt-ltb, le-ltb}
use Rattle.rules.specs.Lists.{every}
use Rattle.rules.specs.Table.{Program}
use Rattle.rules.specs.State.{Memory}
use Rattle.rules.specs.Records.{records_in_use, record_tests}
use Rattle.rules.specs.Why.{newest, why}
use Rattle.rules.specs.declared.Registers.{Registers}
use Rattle.rules.specs.declared.WhyRefusal.TheVariants.{NoSuchCell, HistoryBroken}

module _ (p : Program) (cell : ℕ) (r : Registers) (m : Memory) where
  -- "10 as in i)"
  pub why_broken : every (record_tests p r m) ≡ false → why p cell r m ≡ Err HistoryBroken
  unfolding why
  why_broken fails = rw fails refl

  module _ (passes : every (record_tests p r m) ≡ true) where
    -- "then 6 for a cell not below N"
    pub why_outside : r.n ≤ cell → why p cell r m ≡ Err NoSuchCell
    unfolding why
    why_outside h = rw (passes, le-ltb cell r.n h) refl

    pub why_newest : cell < r.n → why p cell r m ≡ newest p.places cell 1 (records_in_use r m)
    unfolding why
    why_newest h = rw (passes, lt-ltb cell r.n h) refl
