-- `put_refused` meets its contract: a word with its number, and three numbers. Assumes nothing.
use Rattle.rules.specs.Lists.{text}
use Rattle.digits.proofs.Laws.{put_next}
use Rattle.console.proofs.Writing as law
use Rattle.console.proofs.lines.put_refused.Goals as goal

pub returns : goal.returns
unfolding text
returns c =
    let named = rw c.number.ensures at c.put_named-a.ensures.0 in
    let place = c.put_number.ensures.0 in
    let line = c.put_number-2.ensures.0 in
    let column = c.put_number-3.ensures.0 in
    rw law.line_five (put_next (put_next (put_next named place) line) column)
