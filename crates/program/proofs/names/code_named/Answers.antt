-- The codes' words are looked through in order. Assumes nothing.
use mathlib.Core.Path.{refl, sym, ◌∙◌}
use Rattle.std.proofs.Common.{rules, tests}
use Rattle.std.proofs.lemmas.Iterator.{YieldsList-from_range}
use Rattle.std.proofs.lemmas.Iterator.Adapters.{option_map_id}
use Rattle.std.proofs.lemmas.Iterator.Search.{find_from_yields_List}
use Rattle.rules.specs.Instructions.{codes}
use Rattle.program.proofs.NameTable.{has_word, word_found, none_found}
use Rattle.program.proofs.names.code_named.Goals as goal

pub returns : goal.returns
returns c =
    let w = c.in_ok-word.word in
    let f = find_from_yields_List (has_word w) _ _ c.find.result c.find.ensures.ran (YieldsList-from_range 0 codes codes refl refl) (λ x b q k. search (rules, tests)) in
    sym (option_map_id c.find.result) ∙ f ∙ word_found c.args.t.now w (sym c.text_word.ensures ∙ c.in_ok-word.was)

pub returns-in_err-word : goal.returns-in_err-word
returns-in_err-word c = c.from_residual.ensures ∙ sym (none_found c.args.t.now (sym c.text_word.ensures ∙ c.in_err-word.was))
