-- Assumes nothing.
use Prim.Native.Nat.{◌<◌}
use mathlib.Core.Path.{sym, ◌∙◌}
use native.Mathlib.Omega.{arith}
use lib.ListN.{length}
use Rattle.rules.specs.Instructions.{name_of}
use Rattle.program.proofs.NameWords.{word_done, word_more, word_rest}
use Rattle.program.proofs.NameTable.{name_capital, name_short}
use Rattle.program.proofs.names.name_length.Goals as goal

pub returns-then-rest-eq0 : goal.returns-then-rest-eq0
returns-then-rest-eq0 c =
    let code = c.args.code in
    let v = c.loop-n in
    omega (arith, word_done (name_of code) v.n (name_capital code) (sym v.invariant.1 ∙ c.if-rest-eq0.true))

pub loop-n-preserved : goal.loop-n-preserved
loop-n-preserved c =
    let code = c.args.code in
    let v = c.loop-n in
    let l : v.n < length (name_of code) = word_more (name_of code) v.n (name_capital code) (λ e. c.if-rest-eq0.false (v.invariant.1 ∙ e)) in
    (omega arith, rw v.invariant.1 (word_rest (name_of code) v.n (name_capital code) l))

pub returns : goal.returns
returns c = omega (arith, name_short c.args.code)
