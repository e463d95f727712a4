-- `machine::decide::by_code` meets its contract, code by code. Assumes nothing.
use Rattle.std.proofs.Common.{rules, of_calls, refl}
use Rattle.rules.specs.Instructions.{rows, row_of, action_of}
use Rattle.rules.specs.Decide.{decide}
use Rattle.machine.specs.Stack.{cells_of}
use Rattle.machine.proofs.Values.{by_values}
use Rattle.machine.proofs.decide.by_code.Goals as goal

pub returns-in-0 : goal.returns-in-0
unfolding decide action_of row_of rows
returns-in-0 c = let a = c.args in rw (c.in-0.is, c.halted.ensures (cells_of a.s))

pub returns-in-1 : goal.returns-in-1
unfolding decide action_of row_of rows
returns-in-1 c = let a = c.args in rw (c.in-1.is, c.pushed.ensures (cells_of a.s), c.int_cell.ensures)

pub returns-in-2 : goal.returns-in-2
unfolding decide action_of row_of rows
returns-in-2 c = let a = c.args in rw (c.in-2.is, c.pushed-in-2.ensures (cells_of a.s), c.float_cell.ensures)

pub returns-in-3 : goal.returns-in-3
unfolding action_of row_of rows
returns-in-3 c =
    let a = c.args in
    rw c.in-3.is
    (by_values a.s a.n (action_of 3) 0 refl c.one.result c.one.ensures.few
    (λ h. let p = c.one.ensures.values h in search (rules, of_calls)))

pub returns-in-4 : goal.returns-in-4
unfolding decide action_of row_of rows
returns-in-4 c = let a = c.args in rw (c.in-4.is, c.on_swap.ensures (cells_of a.s))

pub returns-in-5 : goal.returns-in-5
unfolding action_of row_of rows
returns-in-5 c =
    let a = c.args in
    rw c.in-5.is
    (by_values a.s a.n (action_of 5) 1 refl c.two.result c.two.ensures.few (λ h. let p = c.two.ensures.values h in search (rules, of_calls)))

pub returns-in-6 : goal.returns-in-6
unfolding action_of row_of rows
returns-in-6 c =
    let a = c.args in
    rw c.in-6.is
    (by_values a.s a.n (action_of 6) 1 refl c.two-in-6.result c.two-in-6.ensures.few
    (λ h. let p = c.two-in-6.ensures.values h in search (rules, of_calls)))

pub returns-in-7 : goal.returns-in-7
unfolding action_of row_of rows
returns-in-7 c =
    let a = c.args in
    rw c.in-7.is
    (by_values a.s a.n (action_of 7) 1 refl c.two-in-7.result c.two-in-7.ensures.few
    (λ h. let p = c.two-in-7.ensures.values h in search (rules, of_calls)))

pub returns-in-8 : goal.returns-in-8
unfolding action_of row_of rows
returns-in-8 c =
    let a = c.args in
    rw c.in-8.is
    (by_values a.s a.n (action_of 8) 1 refl c.two-in-8.result c.two-in-8.ensures.few
    (λ h. let p = c.two-in-8.ensures.values h in search (rules, of_calls)))

pub returns-in-9 : goal.returns-in-9
unfolding action_of row_of rows
returns-in-9 c =
    let a = c.args in
    rw c.in-9.is
    (by_values a.s a.n (action_of 9) 1 refl c.two-in-9.result c.two-in-9.ensures.few
    (λ h. let p = c.two-in-9.ensures.values h in search (rules, of_calls)))

pub returns-in-10 : goal.returns-in-10
unfolding action_of row_of rows
returns-in-10 c =
    let a = c.args in
    rw c.in-10.is
    (by_values a.s a.n (action_of 10) 1 refl c.two-in-10.result c.two-in-10.ensures.few
    (λ h. let p = c.two-in-10.ensures.values h in search (rules, of_calls)))

pub returns-in-11 : goal.returns-in-11
unfolding action_of row_of rows
returns-in-11 c =
    let a = c.args in
    rw c.in-11.is
    (by_values a.s a.n (action_of 11) 1 refl c.two-in-11.result c.two-in-11.ensures.few
    (λ h. let p = c.two-in-11.ensures.values h in search (rules, of_calls)))

pub returns-in-12 : goal.returns-in-12
unfolding action_of row_of rows
returns-in-12 c =
    let a = c.args in
    rw c.in-12.is
    (by_values a.s a.n (action_of 12) 1 refl c.two-in-12.result c.two-in-12.ensures.few
    (λ h. let p = c.two-in-12.ensures.values h in search (rules, of_calls)))

pub returns-in-13 : goal.returns-in-13
unfolding action_of row_of rows
returns-in-13 c =
    let a = c.args in
    rw c.in-13.is
    (by_values a.s a.n (action_of 13) 1 refl c.two-in-13.result c.two-in-13.ensures.few
    (λ h. let p = c.two-in-13.ensures.values h in search (rules, of_calls)))

pub returns-in-14 : goal.returns-in-14
unfolding action_of row_of rows
returns-in-14 c =
    let a = c.args in
    rw c.in-14.is
    (by_values a.s a.n (action_of 14) 1 refl c.two-in-14.result c.two-in-14.ensures.few
    (λ h. let p = c.two-in-14.ensures.values h in search (rules, of_calls)))

pub returns-in-15 : goal.returns-in-15
unfolding action_of row_of rows
returns-in-15 c =
    let a = c.args in
    rw c.in-15.is
    (by_values a.s a.n (action_of 15) 1 refl c.two-in-15.result c.two-in-15.ensures.few
    (λ h. let p = c.two-in-15.ensures.values h in search (rules, of_calls)))

pub returns-in-16 : goal.returns-in-16
unfolding action_of row_of rows
returns-in-16 c =
    let a = c.args in
    rw c.in-16.is
    (by_values a.s a.n (action_of 16) 1 refl c.two-in-16.result c.two-in-16.ensures.few
    (λ h. let p = c.two-in-16.ensures.values h in search (rules, of_calls)))

pub returns-in-17 : goal.returns-in-17
unfolding action_of row_of rows
returns-in-17 c =
    let a = c.args in
    rw c.in-17.is
    (by_values a.s a.n (action_of 17) 1 refl c.two-in-17.result c.two-in-17.ensures.few
    (λ h. let p = c.two-in-17.ensures.values h in search (rules, of_calls)))

pub returns-in-18 : goal.returns-in-18
unfolding action_of row_of rows
returns-in-18 c =
    let a = c.args in
    rw c.in-18.is
    (by_values a.s a.n (action_of 18) 1 refl c.two-in-18.result c.two-in-18.ensures.few
    (λ h. let p = c.two-in-18.ensures.values h in search (rules, of_calls)))

pub returns-in-19 : goal.returns-in-19
unfolding action_of row_of rows
returns-in-19 c =
    let a = c.args in
    rw c.in-19.is
    (by_values a.s a.n (action_of 19) 0 refl c.one-in-19.result c.one-in-19.ensures.few
    (λ h. let p = c.one-in-19.ensures.values h in search (rules, of_calls)))

pub returns-in-20 : goal.returns-in-20
unfolding action_of row_of rows
returns-in-20 c =
    let a = c.args in
    rw c.in-20.is
    (by_values a.s a.n (action_of 20) 1 refl c.two-in-20.result c.two-in-20.ensures.few
    (λ h. let p = c.two-in-20.ensures.values h in search (rules, of_calls)))

pub returns-in-21 : goal.returns-in-21
unfolding action_of row_of rows
returns-in-21 c =
    let a = c.args in
    rw c.in-21.is
    (by_values a.s a.n (action_of 21) 1 refl c.two-in-21.result c.two-in-21.ensures.few
    (λ h. let p = c.two-in-21.ensures.values h in search (rules, of_calls)))

pub returns-in-22 : goal.returns-in-22
unfolding action_of row_of rows
returns-in-22 c =
    let a = c.args in
    rw c.in-22.is
    (by_values a.s a.n (action_of 22) 1 refl c.two-in-22.result c.two-in-22.ensures.few
    (λ h. let p = c.two-in-22.ensures.values h in search (rules, of_calls)))

pub returns-in-23 : goal.returns-in-23
unfolding action_of row_of rows
returns-in-23 c =
    let a = c.args in
    rw c.in-23.is
    (by_values a.s a.n (action_of 23) 1 refl c.two-in-23.result c.two-in-23.ensures.few
    (λ h. let p = c.two-in-23.ensures.values h in search (rules, of_calls)))

pub returns-in-24 : goal.returns-in-24
unfolding action_of row_of rows
returns-in-24 c =
    let a = c.args in
    rw c.in-24.is
    (by_values a.s a.n (action_of 24) 1 refl c.two-in-24.result c.two-in-24.ensures.few
    (λ h. let p = c.two-in-24.ensures.values h in search (rules, of_calls)))

pub returns-in-25 : goal.returns-in-25
unfolding action_of row_of rows
returns-in-25 c =
    let a = c.args in
    rw c.in-25.is
    (by_values a.s a.n (action_of 25) 0 refl c.one-in-25.result c.one-in-25.ensures.few
    (λ h. let p = c.one-in-25.ensures.values h in search (rules, of_calls)))

pub returns-in-26 : goal.returns-in-26
unfolding action_of row_of rows
returns-in-26 c =
    let a = c.args in
    rw c.in-26.is
    (by_values a.s a.n (action_of 26) 1 refl c.two-in-26.result c.two-in-26.ensures.few
    (λ h. let p = c.two-in-26.ensures.values h in search (rules, of_calls)))

pub returns-in-27 : goal.returns-in-27
unfolding action_of row_of rows
returns-in-27 c =
    let a = c.args in
    rw c.in-27.is
    (by_values a.s a.n (action_of 27) 1 refl c.two-in-27.result c.two-in-27.ensures.few
    (λ h. let p = c.two-in-27.ensures.values h in search (rules, of_calls)))

pub returns-in-28 : goal.returns-in-28
unfolding action_of row_of rows
returns-in-28 c =
    let a = c.args in
    rw c.in-28.is
    (by_values a.s a.n (action_of 28) 1 refl c.two-in-28.result c.two-in-28.ensures.few
    (λ h. let p = c.two-in-28.ensures.values h in search (rules, of_calls)))

pub returns-in-29 : goal.returns-in-29
unfolding action_of row_of rows
returns-in-29 c =
    let a = c.args in
    rw c.in-29.is
    (by_values a.s a.n (action_of 29) 1 refl c.two-in-29.result c.two-in-29.ensures.few
    (λ h. let p = c.two-in-29.ensures.values h in search (rules, of_calls)))

pub returns-in-30 : goal.returns-in-30
unfolding action_of row_of rows
returns-in-30 c =
    let a = c.args in
    rw c.in-30.is
    (by_values a.s a.n (action_of 30) 1 refl c.two-in-30.result c.two-in-30.ensures.few
    (λ h. let p = c.two-in-30.ensures.values h in search (rules, of_calls)))

pub returns-in-31 : goal.returns-in-31
unfolding action_of row_of rows
returns-in-31 c =
    let a = c.args in
    rw c.in-31.is
    (by_values a.s a.n (action_of 31) 0 refl c.one-in-31.result c.one-in-31.ensures.few
    (λ h. let p = c.one-in-31.ensures.values h in search (rules, of_calls)))

pub returns-in-32 : goal.returns-in-32
unfolding action_of row_of rows
returns-in-32 c =
    let a = c.args in
    rw c.in-32.is
    (by_values a.s a.n (action_of 32) 0 refl c.one-in-32.result c.one-in-32.ensures.few
    (λ h. let p = c.one-in-32.ensures.values h in search (rules, of_calls)))

pub returns-in-33 : goal.returns-in-33
unfolding action_of row_of rows
returns-in-33 c =
    let a = c.args in
    rw c.in-33.is
    (by_values a.s a.n (action_of 33) 0 refl c.one-in-33.result c.one-in-33.ensures.few
    (λ h. let p = c.one-in-33.ensures.values h in search (rules, of_calls)))

pub returns-in-34 : goal.returns-in-34
unfolding decide action_of row_of rows
returns-in-34 c = let a = c.args in rw (c.in-34.is, c.pushed-in-34.ensures (cells_of a.s), c.memory_cell.ensures)

pub returns-in-35 : goal.returns-in-35
unfolding action_of row_of rows
returns-in-35 c =
    let a = c.args in
    rw c.in-35.is
    (by_values a.s a.n (action_of 35) 0 refl c.one-in-35.result c.one-in-35.ensures.few
    (λ h. let p = c.one-in-35.ensures.values h in search (rules, of_calls)))

pub returns-in-36 : goal.returns-in-36
unfolding decide action_of row_of rows
returns-in-36 c = let a = c.args in rw (c.in-36.is, c.pushed-in-36.ensures (cells_of a.s), c.memory_cell-in-36.ensures)

pub returns-in-37 : goal.returns-in-37
unfolding action_of row_of rows
returns-in-37 c =
    let a = c.args in
    rw c.in-37.is
    (by_values a.s a.n (action_of 37) 0 refl c.one-in-37.result c.one-in-37.ensures.few
    (λ h. let p = c.one-in-37.ensures.values h in search (rules, of_calls)))

pub returns-in-38 : goal.returns-in-38
unfolding decide action_of row_of rows
returns-in-38 c = let a = c.args in rw (c.in-38.is, c.linked.ensures (cells_of a.s))

pub returns-in-39 : goal.returns-in-39
unfolding decide action_of row_of rows
returns-in-39 c = let a = c.args in rw (c.in-39.is, c.on_add_sp.ensures (cells_of a.s))

pub returns-in-40 : goal.returns-in-40
unfolding decide action_of row_of rows
returns-in-40 c = let a = c.args in rw (c.in-40.is, c.on_push_ind.ensures (cells_of a.s))

pub returns-in-41 : goal.returns-in-41
unfolding decide action_of row_of rows
returns-in-41 c = let a = c.args in rw (c.in-41.is, c.on_store_ind.ensures (cells_of a.s))

pub returns-in-42 : goal.returns-in-42
unfolding decide action_of row_of rows
returns-in-42 c = let a = c.args in rw (c.in-42.is, c.on_push_off.ensures (cells_of a.s))

pub returns-in-43 : goal.returns-in-43
unfolding decide action_of row_of rows
returns-in-43 c = let a = c.args in rw (c.in-43.is, c.on_store_off.ensures (cells_of a.s))

pub returns-in-44 : goal.returns-in-44
unfolding decide action_of row_of rows
returns-in-44 c = let a = c.args in rw (c.in-44.is, c.jumped.ensures (cells_of a.s))

pub returns-in-45 : goal.returns-in-45
unfolding action_of row_of rows
returns-in-45 c =
    let a = c.args in
    rw c.in-45.is
    (by_values a.s a.n (action_of 45) 0 refl c.one-in-45.result c.one-in-45.ensures.few
    (λ h. let p = c.one-in-45.ensures.values h in search (rules, of_calls)))

pub returns-in-46 : goal.returns-in-46
unfolding action_of row_of rows
returns-in-46 c =
    let a = c.args in
    rw c.in-46.is
    (by_values a.s a.n (action_of 46) 0 refl c.one-in-46.result c.one-in-46.ensures.few
    (λ h. let p = c.one-in-46.ensures.values h in search (rules, of_calls)))

pub returns-in-47 : goal.returns-in-47
unfolding decide action_of row_of rows
returns-in-47 c = let a = c.args in rw (c.in-47.is, c.called.ensures (cells_of a.s))

pub returns-in-48 : goal.returns-in-48
unfolding action_of row_of rows
returns-in-48 c =
    let a = c.args in
    rw c.in-48.is
    (by_values a.s a.n (action_of 48) 0 refl c.one-in-48.result c.one-in-48.ensures.few
    (λ h. let p = c.one-in-48.ensures.values h in search (rules, of_calls)))

pub returns-in-49 : goal.returns-in-49
unfolding decide action_of row_of rows
returns-in-49 c = let a = c.args in rw (c.in-49.is, c.pushed-in-49.ensures (cells_of a.s), c.program_cell.ensures)

pub returns-in-50 : goal.returns-in-50
unfolding action_of row_of rows
returns-in-50 c =
    let a = c.args in
    rw c.in-50.is
    (by_values a.s a.n (action_of 50) 0 refl c.one-in-50.result c.one-in-50.ensures.few
    (λ h. let p = c.one-in-50.ensures.values h in search (rules, of_calls)))

pub returns-in-51 : goal.returns-in-51
unfolding action_of row_of rows
returns-in-51 c =
    let a = c.args in
    rw c.in-51.is
    (by_values a.s a.n (action_of 51) 0 refl c.one-in-51.result c.one-in-51.ensures.few
    (λ h. let p = c.one-in-51.ensures.values h in search (rules, of_calls)))

pub returns-in-52 : goal.returns-in-52
unfolding decide action_of row_of rows
returns-in-52 c = let a = c.args in rw (c.in-52.is, c.pushed-in-52.ensures (cells_of a.s), c.character_cell.ensures)

pub returns-in-53 : goal.returns-in-53
unfolding action_of row_of rows
returns-in-53 c =
    let a = c.args in
    rw c.in-53.is
    (by_values a.s a.n (action_of 53) 0 refl c.one-in-53.result c.one-in-53.ensures.few
    (λ h. let p = c.one-in-53.ensures.values h in search (rules, of_calls)))
