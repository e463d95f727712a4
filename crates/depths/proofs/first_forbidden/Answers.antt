-- `depths::first_forbidden` meets its contract: each instruction before the one that is found is allowed. Assumes nothing.
use Prim.Native.Nat.{ℕ}
use mathlib.Core.Path.{refl, ◌∙◌}
use mathlib.Core.Bool.{Bool}
use Rattle.std.proofs.Common.{rules, tests}
use Rattle.std.proofs.lemmas.Iterator.Search.{position_from_yields_List}
use Rattle.std.proofs.lemmas.Iterator.{YieldsList-from_slice}
use Rattle.rules.specs.Instructions.{row_of}
use Rattle.rules.specs.Table.{code_of}
use Rattle.rules.specs.DepthList.{forbidden, allowed_at}
use Rattle.depths.proofs.Failing.{position_failing}
use Rattle.depths.proofs.first_forbidden.Goals as goal

pub returns : goal.returns
unfolding allowed_at
returns c =
    let bad : ℕ → Bool = λ w. forbidden (row_of (code_of w)) in
    position_from_yields_List bad _ _ c.position.result c.position.ensures.ran (YieldsList-from_slice _ (search rules)) (λ x b q k. search (rules, tests))
    ∙ position_failing _ c.args.p.length bad c.args.p.table.now c.requires (λ k h. refl)
