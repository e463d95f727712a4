-- `assembler::classes::label_name` meets its contract. Assumes nothing.
use Rattle.std.proofs.Common.{rules, tests, ◌∷◌, []}
use Rattle.std.proofs.lemmas.Slice.Eq.{strip_suffix_is}
use Rattle.std.proofs.lemmas.Bool.Decides.{Decides-eqb}
use Rattle.assembler.proofs.Bytes.{named_is}
use Rattle.assembler.proofs.classes.label_name.Goals as goal

pub returns : goal.returns
returns c =
    let t = c.args.t.now in
    named_is t c.strip_suffix.result c.filter.result _ (λ x b q. search (rules, tests))
    (strip_suffix_is Decides-eqb t (58 ∷ []) c.strip_suffix.result c.strip_suffix.ensures.cases)
    c.filter.ensures
