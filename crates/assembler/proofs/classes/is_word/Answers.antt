-- `assembler::classes::is_word` meets its contract. Assumes nothing.
use Rattle.std.proofs.Common.{◌≡◌, drop, sym, ◌∙◌, rules, tests}
use Rattle.std.specs.List.{list_all}
use Rattle.std.proofs.lemmas.List.{take_rest}
use Rattle.std.proofs.lemmas.Iterator.{YieldsList-from_slice}
use Rattle.std.proofs.lemmas.Iterator.Search.{all_from_yields_List}
use Rattle.rules.specs.Bytes.{letter, word_byte}
use Rattle.rules.proofs.Judging.{no_word}
use Rattle.assembler.proofs.Bytes.{word_none, word_yes}
use Rattle.assembler.proofs.classes.is_word.Goals as goal

pub returns-in-empty : goal.returns-in-empty
returns-in-empty c = sym (word_none c.args.t.now c.in-empty.len_below)

pub returns-then-is_ascii_alphabetic : goal.returns-then-is_ascii_alphabetic
unfolding letter
returns-then-is_ascii_alphabetic c =
    let t = c.args.t.now in
    let e : c.all.result ≡ list_all word_byte (drop 1 t) =
    all_from_yields_List word_byte _ _ _ c.all.ensures.ran (YieldsList-from_slice (drop 1 t) (cc (take_rest t 1))) (λ x b q k. search (rules, tests)) in
    e ∙ sym (word_yes t c.in-len1-up.len_at_least (sym c.is_ascii_alphabetic.ensures.value ∙ c.if-is_ascii_alphabetic.true))

pub returns-else-is_ascii_alphabetic : goal.returns-else-is_ascii_alphabetic
unfolding letter
returns-else-is_ascii_alphabetic c =
    c.if-is_ascii_alphabetic.false ∙ sym (no_word c.args.t.now (sym c.is_ascii_alphabetic.ensures.value ∙ c.if-is_ascii_alphabetic.false))
