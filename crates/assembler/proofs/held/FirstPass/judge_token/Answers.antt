-- `assembler::held::FirstPass::judge_token` meets its contract. Assumes nothing.
use Rattle.std.proofs.Common.{◌+◌, sym, ap, ◌∙◌, arith, rules}
use Rattle.rules.specs.Assemble.{stop, new_label}
use Rattle.rules.specs.declared.TextRefusal.TheVariants.{ForbiddenByte}
use Rattle.tokens.specs.Next.{between}
use Rattle.assembler.specs.Held.{awaited_of, state_of, judged_of}
use Rattle.assembler.proofs.Bytes as law
use Rattle.assembler.proofs.Steps as st
use Rattle.assembler.proofs.Placed.{placed_is}
use Rattle.assembler.proofs.held.FirstPass.judge_token.Goals as goal

pub returns-in-Some : goal.returns-in-Some
unfolding between
returns-in-Some c =
    let h = law.run_at (between c.args.source.now c.args.token.start c.args.token.end) c.in-Some.at (sym c.in-Some.ensures) in
    st.step_bad _ _ h.0 ∙ ap (λ n. stop ForbiddenByte (c.args.token.start + n)) h.1

pub returns-in-Some-awaited : goal.returns-in-Some-awaited
unfolding between state_of
returns-in-Some-awaited c =
    let a = c.args in
    let s = a.source.now in
    let h = law.run_all (between s a.token.start a.token.end) (sym c.in_default.ensures) in
    st.step_operand (state_of s a.table.now a.self.now) _ h c.in-Some-awaited.code (ap awaited_of c.in-Some-awaited.is)
    ∙ c.take_operand.ensures s (law.piece_token s a.token.start a.token.end (omega arith) (omega arith))
    ∙ ap (judged_of s c.take_operand.new.table c.take_operand.new.self) (placed_is a.token.start c.take_operand.result c.map_err.result _ (λ e d q. search rules) c.map_err.ensures.cases)

pub take_label-requires : goal.take_label-requires
unfolding between
take_label-requires c =
    let a = c.args in
    (omega arith, rw c.in-Some-label_name.ensures.1 (law.piece_body a.source.now a.token.start a.token.end (omega arith) (omega arith)))

pub returns-in-Some-label_name : goal.returns-in-Some-label_name
unfolding between state_of
returns-in-Some-label_name c =
    let a = c.args in
    let s = a.source.now in
    let h = law.run_all (between s a.token.start a.token.end) (sym c.in_default.ensures) in
    let z = state_of s a.table.now a.self.now in
    st.step_label z _ h (ap awaited_of c.in_default-awaited.is) c.in-Some-label_name.ensures.0
    ∙ ap (new_label z a.token.start) (sym c.in-Some-label_name.ensures.1)
    ∙ c.take_label.ensures a.table.now c.requires.0
    ∙ ap (judged_of s a.table.now c.take_label.new.self) (placed_is a.token.start c.take_label.result c.map_err-in-Some-label_name.result _ (λ e d q. search rules) c.map_err-in-Some-label_name.ensures.cases)

pub returns : goal.returns
unfolding between state_of
returns c =
    let a = c.args in
    let s = a.source.now in
    let h = law.run_all (between s a.token.start a.token.end) (sym c.in_default.ensures) in
    st.step_name (state_of s a.table.now a.self.now) _ h (ap awaited_of c.in_default-awaited.is) c.in_default-label_name.ensures
    ∙ c.take_name.ensures s a.token.start
    ∙ ap (judged_of s c.take_name.new.table c.take_name.new.self) (placed_is a.token.start c.take_name.result c.map_err-2.result _ (λ e d q. search rules) c.map_err-2.ensures.cases)
