-- `assembler::assemble` meets its contract. Assumes nothing.
use Rattle.std.proofs.Common.{◌≡◌, ℕ, List, ◌++◌, length, take, replicate, refl, ap, ◌∙◌, arith}
use Rattle.rules.specs.Sizes.{max_program}
use Rattle.assembler.proofs.Filled as filled
use Rattle.assembler.proofs.assemble.Goals as goal

pub returns-then-table-ne-MAX_PROGRAM : goal.returns-then-table-ne-MAX_PROGRAM
returns-then-table-ne-MAX_PROGRAM c = rw (filled.answer_31 c.args.source.now c.args.table.now c.if-table-ne-MAX_PROGRAM.true) (refl, refl)

pub returns-then-source-gt-MAX_SOURCE : goal.returns-then-source-gt-MAX_SOURCE
returns-then-source-gt-MAX_SOURCE c =
    let a = c.args in
    let h = c.if-table-ne-MAX_PROGRAM.false in
    rw (filled.answer_21 a.source.now a.table.now h c.if-source-gt-MAX_SOURCE.true) (refl, c.fill.ensures.after (λ y e. e) ∙ rw h)

pub returns-in-Ok : goal.returns-in-Ok
returns-in-Ok c =
    let a = c.args in
    let h = c.if-table-ne-MAX_PROGRAM.false in
    let t = c.translate.new.table in
    let n = c.in-Ok.n in
    let l : length t ≡ max_program = c.translate.auto.table ∙ h in
    rw (filled.answer_made a.source.now a.table.now h c.if-source-gt-MAX_SOURCE.false t n (omega (arith, c.in-Ok.ensures.0)) c.in-Ok.ensures.1)
    (refl, filled.rest_written t c.fill-in-Ok.new.self n ∙ ap (λ (r : List ℕ). take n t ++ r) (c.fill-in-Ok.ensures.after (λ y e. e) ∙ ap (λ (k : ℕ). replicate k 0) (omega arith)))

pub returns-in-Err : goal.returns-in-Err
returns-in-Err c =
    let a = c.args in
    let h = c.if-table-ne-MAX_PROGRAM.false in
    let l : length c.translate.new.table ≡ max_program = c.translate.auto.table ∙ h in
    rw (filled.answer_fault a.source.now a.table.now h c.if-source-gt-MAX_SOURCE.false _ _ c.in-Err.ensures, c.position_of.ensures)
    (refl, c.fill-in-Err.ensures.after (λ y e. e) ∙ rw l)
