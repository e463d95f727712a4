-- `assembler::held::FirstPass::take_name` meets its contract. Assumes nothing.
use Rattle.std.proofs.Common.{sym, ◌∙◌, arith}
use Rattle.assembler.specs.Held.{state_of}
use Rattle.assembler.proofs.Items.{item_bare, items_more, length_items}
use Rattle.assembler.proofs.Steps.{named_none, named_some}
use Rattle.assembler.proofs.Steps as st
use Rattle.assembler.proofs.held.FirstPass.take_name.Goals as goal

pub returns-in_default : goal.returns-in_default
returns-in_default c = λ source start. st.name_none _ start _ (named_none _ (sym c.in_default.ensures))

pub returns-then-self-eq-MAX_PROGRAM : goal.returns-then-self-eq-MAX_PROGRAM
unfolding state_of
returns-then-self-eq-MAX_PROGRAM c = λ source start.
    let a = c.args in
    let k = named_some _ _ (sym c.in-Some.ensures) in
    st.name_many _ start _ k.0 (omega (arith, length_items source a.table.now a.self.now.items (omega arith)))

pub returns-in-Bare : goal.returns-in-Bare
unfolding state_of
returns-in-Bare c = λ source start.
    let a = c.args in
    let k = named_some _ _ (sym c.in-Some.ensures) in
    rw k.1
    (st.name_alone _ start c.in-Some.code (omega (arith, k.0, k.1)) (omega (arith, length_items source a.table.now a.self.now.items (omega arith))) (sym c.in-Bare.ensures)
    ∙ rw (items_more source a.table.now a.self.now.items _ (omega arith), item_bare source c.in-Some.code (omega (arith, k.0, k.1)), c.requires.1))

pub returns-in_default-kind_of : goal.returns-in_default-kind_of
unfolding state_of
returns-in_default-kind_of c = λ source start.
    let a = c.args in
    let k = named_some _ _ (sym c.in-Some.ensures) in
    rw k.1
    (st.name_waits _ start c.in-Some.code (omega (arith, k.0, k.1)) (omega (arith, length_items source a.table.now a.self.now.items (omega arith))) (λ b. c.in_default-kind_of.not-Bare (c.kind_of.ensures ∙ b)))
