-- The loop's invariant: the text is what is left and the capital letters read, and `word` is theirs. Assumes nothing.
use Rattle.program.proofs.NameWords.{ReadTo}
use Rattle.program.proofs.names.text_word.Given as goal

abbrev pub invariant-loop-b : goal.invariant-loop-b
invariant-loop-b l = ReadTo l.t l.b-iterator.iter.rest.now l.word
