-- `depths::first_failing` meets its contract: each place before the one that is found passes. Assumes nothing.
use mathlib.Core.Path.{sym, ◌∙◌}
use native.Mathlib.Omega.{arith}
use borrow.Author.Count.{below_more}
use Rattle.depths.proofs.Rules.{rule_read, known_at}
use Rattle.depths.proofs.Failing.{failing_none, failing_some}
use Rattle.depths.proofs.first_failing.Goals as goal

pub passes_rule-requires : goal.passes_rule-requires
passes_rule-requires c = (known_at _ _ c.requires c.loop-place.place (omega arith), omega (arith, c.requires.long))

pub returns-then-not-passes_rule : goal.returns-then-not-passes_rule
returns-then-not-passes_rule c =
    failing_some _ _ c.loop-place.place (omega arith)
    (rule_read _ c.args.n _ c.requires c.loop-place.place (omega arith) ∙ sym c.passes_rule.ensures ∙ c.if-not-passes_rule.true) c.loop-place.invariant

pub loop-place-preserved : goal.loop-place-preserved
loop-place-preserved c =
    below_more _ _ c.loop-place.invariant
    (rule_read _ c.args.n _ c.requires c.loop-place.place (omega arith) ∙ sym c.passes_rule.ensures ∙ c.if-not-passes_rule.false)

pub returns : goal.returns
returns c = failing_none _ _ (λ k h. c.loop-place.invariant k (omega arith))
