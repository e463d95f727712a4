-- The rule of a place, test by test, in the numbers that the code has. Assumes nothing.
use Prim.Native.Nat.{ℕ, ◌≤◌, ◌<◌}
use mathlib.Core.Path.{◌≡◌, sym, ap₂}
use mathlib.Core.Bool.{true}
use mathlib.Core.List.{List}
use native.Mathlib.Omega.{arith}
use lib.ListN.{length, get_or}
use borrow.Author.Tests.{not-true}
use Rattle.rules.specs.Sizes.{not_reached}
use Rattle.rules.specs.Table.{Program, code_of, sound_table}
use Rattle.rules.specs.DepthList.{allowed_at, rule_of, rule}
use Rattle.depths.specs.Judged.{Known, Judgeable}
use Rattle.rules.proofs.Table.{table_short, table_long, place_coded}
use Rattle.rules.proofs.Enough.{le_enough, lt_enough}
use Rattle.depths.proofs.Failing.{none_failing}
use Rattle.std.proofs.lemmas.List.{get_or_default}
use Rattle.depths.proofs.Codes.{depth_moved}

-- the tests of a rule, in the numbers that the code has
pub ruleset rule_steps = (le_enough, lt_enough, depth_moved)

-- ---- what is known where the rules are asked

pub table_longer : (p : Program) → sound_table p ≡ true → p.count ≤ length p.places
table_longer p h = omega (arith, table_short p h, table_long p h)

pub known_at : (p : Program) (depths : List ℕ) → Judgeable p depths → (k : ℕ) → k < p.count → Known (code_of (get_or p.places k 0))
unfolding allowed_at
known_at p depths j k h =
    record {
      coded = place_coded p j.table k h;
      allows = not-true _ (none_failing (allowed_at p) p.count j.allows k h);
    }

pub rule_read : (p : Program) (n : ℕ) (depths : List ℕ) → Judgeable p depths → (k : ℕ) → k < p.count
    → rule p n depths k ≡ rule_of (length depths) n depths (get_or p.places k 0) k (get_or depths k 0)
unfolding rule
rule_read p n depths j k h =
    ap₂ (λ (c d : ℕ). rule_of c n depths (get_or p.places k 0) k d) (sym j.long) (get_or_default depths k not_reached 0 (omega (arith, h, j.long)))
