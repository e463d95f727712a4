-- A chain answers the test of each digit. Assumes nothing.
use lib.Dec.{ltb}
use Rattle.std.proofs.Common.{rules, tests, ◌∙◌}
use Rattle.std.proofs.lemmas.Iterator.{YieldsList-from_slice}
use Rattle.std.proofs.lemmas.Iterator.Search.{all_from_yields_List}
use Rattle.rules.specs.Operands.{digit_of}
use Rattle.operands.proofs.Laws.{all_is}
use Rattle.operands.proofs.all_digits.Goals as goal

pub returns : goal.returns
returns c =
    all_from_yields_List (λ b. ltb (digit_of b) c.args.base) _ _ _ c.all.ensures.ran (YieldsList-from_slice _ c.iter.ensures.rest) (λ x b q k. search (rules, tests))
    ∙ all_is c.args.base _
