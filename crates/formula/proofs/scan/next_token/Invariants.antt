-- `formula::scan::next_token` meets its contract. Invariant: the tokens from `at` are those from `i`. Assumes nothing.
use mathlib.Core.Path.{◌≡◌}
use Rattle.formula.specs.Scans.{tokens_from}
use Rattle.formula.proofs.scan.next_token.Given as goal

abbrev pub invariant-loop-i : goal.invariant-loop-i
invariant-loop-i l = tokens_from l.formula l.at ≡ tokens_from l.formula l.i
