-- Assumes nothing.
use mathlib.Core.Path.{sym}
use native.Mathlib.Omega.{arith}
use lib.ListN.{get_or-eq_default}
use Rattle.rules.specs.Instructions.{name_of}
use Rattle.program.proofs.NameWords.{no_letter, a_letter}
use Rattle.program.proofs.NameTable.{name_capital, name_short}
use Rattle.program.proofs.names.name_byte.Goals as goal

pub returns-then-i-ge-NAME_SIZE : goal.returns-then-i-ge-NAME_SIZE
returns-then-i-ge-NAME_SIZE c =
    let a = c.args in
    sym (get_or-eq_default (name_of a.code) 0 (omega (arith, name_short a.code)))

pub returns-then-letter-eq0 : goal.returns-then-letter-eq0
returns-then-letter-eq0 c =
    let a = c.args in
    sym (no_letter (name_of a.code) a.i (name_capital a.code) c.name_word.ensures c.if-letter-eq0.true)

pub returns-else-letter-eq0 : goal.returns-else-letter-eq0
returns-else-letter-eq0 c =
    let a = c.args in
    a_letter (name_of a.code) a.i (name_capital a.code) c.name_word.ensures c.if-letter-eq0.false
