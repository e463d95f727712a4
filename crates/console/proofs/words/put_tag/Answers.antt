-- `put_tag` meets its contract: the tag's name, and a space after it. Assumes nothing.
use native.Mathlib.Omega.{arith}
use Rattle.rules.specs.Bytes.{space}
use Rattle.console.proofs.Writing.{tag_short}
use Rattle.console.proofs.words.put_tag.Goals as goal

pub returns : goal.returns
returns c =
    let name = rw c.name_of.ensures at c.put_word.ensures.0 in
    (name, omega (arith, name.length_told, tag_short c.args.tag space))
