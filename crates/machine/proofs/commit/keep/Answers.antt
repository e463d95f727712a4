-- The answers of `machine::commit::keep`, without history and with it, with room for the record and without. Assumes nothing.
use mathlib.Core.Path.{ap, ◌∙◌}
use mathlib.Core.List.{[]}
use Rattle.rules.specs.State.{memory}
use Rattle.rules.specs.declared.Step.TheVariants.{Next}
use Rattle.machine.proofs.Blocks.{history_none, history_more}
use Rattle.machine.proofs.Commits.{room_none, room_full, room_left, after_none, after_kept, with_room, without_room}
use Rattle.machine.proofs.commit.keep.Goals as goal

pub returns-then-r-eq0 : goal.returns-then-r-eq0
returns-then-r-eq0 c =
    let a = c.args in
    let none = c.if-r-eq0.true in
    let done = with_room a.r a.e (memory a.bits.now a.tags.now a.history.now []) (room_none a.r a.e none) in
    record {
      value = ap Next (c.registers_with.ensures ∙ after_none a.r a.e none) ∙ ap (λ s. s.answer) done;
      history_after = history_none a.r.h a.history.now a.r.used _ none ∙ ap (λ s. s.memory.history) done;
    }

pub returns-then-r-used : goal.returns-then-r-used
returns-then-r-used c =
    let a = c.args in
    let left = without_room a.r a.e (memory a.bits.now a.tags.now a.history.now []) (room_full a.r a.e c.if-r-eq0.false c.if-r-used.true) in
    record { value = ap (λ s. s.answer) left; history_after = ap (λ s. s.memory.history) left }

pub returns : goal.returns
returns c =
    let a = c.args in
    let some = c.if-r-eq0.false in
    let done = with_room a.r a.e (memory a.bits.now a.tags.now a.history.now []) (room_left a.r a.e some c.if-r-used.false) in
    record {
      value = ap Next (c.registers_with-2.ensures ∙ after_kept a.r a.e some) ∙ ap (λ s. s.answer) done;
      history_after = c.add_record.ensures ∙ history_more a.r.h a.history.now a.r.used _ some ∙ ap (λ s. s.memory.history) done;
    }
