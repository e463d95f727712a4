-- `assembler::held::FirstPass::take_label` meets its contract. Assumes nothing.
use Rattle.std.proofs.Common.{◌≡◌, take, sym, ap, ◌∙◌, arith}
use Rattle.rules.specs.Assemble.{lookup}
use Rattle.assembler.specs.Held.{labels_of, found_of, state_of}
use Rattle.assembler.proofs.Items.{length_items}
use Rattle.assembler.proofs.Labels.{labels_more, length_labels}
use Rattle.assembler.proofs.Steps as st
use Rattle.assembler.proofs.held.FirstPass.take_label.Goals as goal
use Rattle.assembler.proofs.held.FirstPass.take_label.Goals.{After-find_label}

-- the search was among the labels of the state
sought : (c : After-find_label) → lookup (labels_of c.args.source.now (take c.args.self.now.named c.args.self.now.labels)) c.args.name.now ≡ found_of c.find_label.result
sought c = ap (λ ls. lookup (labels_of c.args.source.now ls) c.args.name.now) (sym c.labels.ensures) ∙ c.find_label.ensures

pub returns-then-name-gt-MAX_LABEL : goal.returns-then-name-gt-MAX_LABEL
returns-then-name-gt-MAX_LABEL c = λ table h. st.label_long _ _ _ c.if-name-gt-MAX_LABEL.true

pub returns-then-is_some : goal.returns-then-is_some
unfolding state_of
returns-then-is_some c = λ table h.
    let e = sought (goal.at.returns-then-is_some c).After-find_label in
    st.label_twice _ _ _ c.if-name-gt-MAX_LABEL.false c.find_label.result e (sym c.is_some.ensures ∙ c.if-is_some.true)

pub returns-then-self-eq-MAX_LABELS : goal.returns-then-self-eq-MAX_LABELS
unfolding state_of
returns-then-self-eq-MAX_LABELS c = λ table h.
    let p = c.args.self.now in
    let e = sought (goal.at.returns-then-self-eq-MAX_LABELS c).After-find_label in
    st.label_many _ _ _ c.if-name-gt-MAX_LABEL.false c.find_label.result e (sym c.is_some.ensures ∙ c.if-is_some.false)
    (omega (arith, length_labels c.args.source.now p.labels p.named (omega arith)))

pub returns : goal.returns
unfolding state_of
returns c = λ table h.
    let s = c.args.source.now in
    let p = c.args.self.now in
    let e = sought (goal.at.returns c).After-find_label in
    st.label_new _ _ _ c.if-name-gt-MAX_LABEL.false c.find_label.result e (sym c.is_some.ensures ∙ c.if-is_some.false)
    (omega (arith, length_labels s p.labels p.named (omega arith)))
    ∙ rw (labels_more s p.labels p.named _ (omega arith), c.requires.1, length_items s table p.items (omega (arith, p.few_items)))
