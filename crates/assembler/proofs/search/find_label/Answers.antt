-- `assembler::search::find_label` meets its contract. Assumes nothing.
use Rattle.std.proofs.Common.{◌≡◌, sym, ap, ◌∙◌, rules, Bor, tests}
use Rattle.std.specs.List.{find}
use Rattle.std.specs.Option.{option_map}
use Rattle.std.proofs.lemmas.Iterator.{YieldsList-from_slice}
use Rattle.std.proofs.lemmas.Iterator.Search.{find_from_yields_List}
use Rattle.assembler.specs.declared.held.Label.{Label}
use Rattle.assembler.specs.Held.{labels_of, found_of}
use Rattle.assembler.proofs.Labels.{has_name, lookup_is, address_is}
use Rattle.assembler.proofs.search.find_label.Goals as goal

pub returns : goal.returns
unfolding labels_of
returns c =
    let ls = c.args.labels.now in
    let has = has_name c.args.source.now c.args.name.now in
    let e : option_map (λ (l : Bor Label). l.now) c.find.result ≡ find has ls =
    find_from_yields_List has _ _ _ c.find.ensures.ran (YieldsList-from_slice ls cc) (λ x b q k. search (rules, tests)) in
    let f : c.map.result ≡ option_map (λ (l : Bor Label). l.now.address) c.find.result = search rules in
    lookup_is c.args.source.now c.args.name.now ls ∙ ap found_of (sym (f ∙ address_is c.find.result ∙ ap (option_map (λ l. l.address)) e))
