-- Past the last code there is no name; the words of the other arms are computed from the table. Assumes nothing.
use mathlib.Core.Path.{sym}
use Rattle.std.proofs.Common.{rules}
use Rattle.rules.specs.Instructions.{codes}
use Rattle.program.proofs.NameTable.{none_below, word_past}
use Rattle.program.proofs.names.name_word.Goals as goal

pub returns-in_default : goal.returns-in_default
returns-in_default c = sym (word_past _ (none_below codes _ (search rules)))
