-- `put_out` meets its contract: nothing, or a word and the bytes. Assumes nothing.
use mathlib.Core.Path.{refl, sym, ◌∙◌}
use Rattle.std.proofs.lemmas.Bool.{eqb-true, eqb-false}
use Rattle.rules.specs.Lists.{text}
use Rattle.digits.proofs.Laws.{put_append}
use Rattle.console.proofs.OutLine as law
use Rattle.console.proofs.panel.put_out.Goals as goal

pub returns-then-is_empty : goal.returns-then-is_empty
returns-then-is_empty c =
    rw (law.out_none c.args.bytes.now (eqb-true _ _ (sym c.is_empty.ensures ∙ c.if-is_empty.true))) (record { length_told = refl; written = refl })

pub returns : goal.returns
unfolding text
returns c =
    rw (law.out_some c.args.bytes.now (eqb-false _ _ (sym c.is_empty.ensures ∙ c.if-is_empty.false)))
    (put_append c.put_text-n.ensures c.put_bytes.ensures)
