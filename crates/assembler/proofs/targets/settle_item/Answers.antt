-- `assembler::targets::settle_item` meets its contract. Assumes nothing.
use Rattle.std.proofs.Common.{◌≡◌, ◌/◌, ◌%◌, ◌^◌, arith, rules}
use Rattle.rules.specs.declared.TextRefusal.TheVariants.{OperandRange, LabelUnknown}
use Rattle.assembler.proofs.Settle as settled
use Rattle.assembler.proofs.targets.settle_item.Goals as goal
use Rattle.assembler.proofs.targets.settle_item.Goals.{in_default-via-in-1+else-low-n, in_default-via-in_default-1}

pub returns-in-0 : goal.returns-in-0
returns-in-0 c = λ is. settled.settle_word _ _ _ _ is c.in-0.is

pub returns-in-1 : goal.returns-in-1
returns-in-1 c = λ is. settled.settle_number _ _ _ _ is c.in-1.is c.if-low-n.true

pub returns-in-Some : goal.returns-in-Some
returns-in-Some c = λ is. rw c.from.ensures (settled.settle_labelled _ _ _ _ is c.in-2.is _ _ c.piece_of-name.ensures c.in-Some.ensures)

pub returns-in-None : goal.returns-in-None
returns-in-None c = λ is.
    let r : c.stop.result ≡ record { refusal = LabelUnknown; place = c.args.item / 2 ^ 40 % 2 ^ 20 } = search rules in
    rw r (settled.settle_labelled _ _ _ _ is c.in-2.is _ _ c.piece_of-name.ensures c.in-None.ensures)

pub returns-in_default : goal.returns-in_default
returns-in_default c = λ is.
    let r : c.stop-in_default.result ≡ record { refusal = OperandRange; place = c.args.item / 2 ^ 40 % 2 ^ 20 } = search rules in
    rw r
    elim c.in_default.branch [
      | in_default-via-in-1+else-low-n w ↦ settled.settle_high _ _ _ _ is w.in-1.is w.if-low-n.false
      | in_default-via-in_default-1 w ↦ settled.settle_beyond _ _ _ _ is (λ e. omega arith) (λ e. omega arith) (λ e. omega arith)
    ]
