-- What is left of the goals of `program::names::text_word`. Assumes nothing.
use mathlib.Core.Path.{sym}
use native.Mathlib.Omega.{arith}
use Rattle.program.specs.NameWords.{capital}
use Rattle.program.proofs.NameWords.{word_room, all_read, read_other}
use Rattle.program.proofs.names.text_word.Goals as goal

pub returns-then-not-is_ascii_uppercase : goal.returns-then-not-is_ascii_uppercase
unfolding capital
returns-then-not-is_ascii_uppercase c =
    read_other c.loop-b.invariant _ c.in-Some.b.now c.in-Some.ensures.steps (sym c.if-not-is_ascii_uppercase.ensures.value)

pub overflow_mul-word : goal.overflow_mul-word
overflow_mul-word c = omega (arith, word_room c.loop-b.invariant)

pub overflow_add-word : goal.overflow_add-word
overflow_add-word c = omega (arith, word_room c.loop-b.invariant)

pub returns : goal.returns
returns c = all_read c.loop-b.invariant c.in-None.ensures.steps.0
