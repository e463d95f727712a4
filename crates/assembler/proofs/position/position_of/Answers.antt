-- The goals of `assembler::position::position_of`, answered. Assumes nothing.
use Rattle.std.proofs.Common.{◌≡◌, ◌<◌, length, get_or, take, refl, ◌∙◌, arith}
use Rattle.std.proofs.lemmas.Bool.{eq-eqb, ne_eqb}
use Rattle.std.proofs.lemmas.List.{take_all, take_min}
use Rattle.rules.specs.Bytes.{LF}
use Rattle.rules.specs.Positions.{line_feeds, since_lf, position_of}
use Rattle.rules.proofs.Positions as law
use Rattle.assembler.proofs.position.position_of.Goals as goal
use Rattle.assembler.proofs.position.position_of.Goals.{then-b-eq10, else-b-eq10}

pub loop-b-init : goal.loop-b-init
unfolding line_feeds since_lf
loop-b-init c = (refl, refl, omega arith, omega arith)

pub loop-b-preserved : goal.loop-b-preserved
loop-b-preserved c =
    let s = take c.min.result c.args.source.now in
    let i = c.loop-b.b-index in
    let h : i < length s = c.loop-b-test.true in
    elim c.if-b-eq10.branch [
      | then-b-eq10 w ↦ let k = eq-eqb (get_or s i 0) LF w.if-b-eq10.true in (
        omega (arith, law.line_lf s i h k),
        omega (arith, law.column_lf s i h k),
        omega arith,
        omega arith,
      )
      | else-b-eq10 w ↦ let k = ne_eqb (get_or s i 0) LF w.if-b-eq10.false in (
        omega (arith, law.line_other s i h k),
        omega (arith, law.column_other s i h k),
        omega arith,
        omega arith,
      )
    ]

pub returns : goal.returns
unfolding position_of
returns c =
    let a = c.args in
    let s = take c.min.result a.source.now in
    let all : take c.loop-b.b-index s ≡ take a.place a.source.now = take_all c.loop-b.b-index s c.loop-b-test.false ∙ rw (c.min.ensures, take_min) in
    rw (c.loop-b.invariant.0, c.loop-b.invariant.1, all)
