-- The answers of `machine::commit::add_record`: the cell places left to write give what all of them give. Assumes nothing.
use Prim.Native.Nat.{ℕ, ◌+◌, ◌≤◌}
use mathlib.Core.Path.{sym, ap, ◌∙◌}
use mathlib.Core.List.{[], ◌∷◌, ◌++◌}
use native.Mathlib.Omega.{arith}
use lib.ListN.{length}
use Rattle.rules.specs.Lists.{part, splice}
use Rattle.rules.specs.Commit.{cell_places}
use Rattle.rules.proofs.Stored.{stored_more, stored_all}
use Rattle.machine.proofs.Blocks.{kept_length, kept_at, record_ends}
use Rattle.machine.proofs.commit.add_record.Goals as goal

pub loop-i-preserved : goal.loop-i-preserved
loop-i-preserved c =
    let a = c.args in
    let l = c.loop-i in
    let test = c.loop-i-test.true in
    let ht : a.e.at + a.e.count ≤ length a.tags.now = omega (arith, c.requires.tags_len) in
    let hb : a.e.at + a.e.count ≤ length a.bits.now = c.requires.tags_len.1.0 in
    let n = kept_length a.e.at a.e.count a.tags.now a.bits.now ht hb in
    stored_more c.cell_place.result l.invariant (omega (arith, test, n))
    (c.cell_place.ensures ∙ sym (kept_at a.e.at a.e.count a.tags.now a.bits.now ht hb l.i test))

pub returns : goal.returns
returns c =
    let a = c.args in
    let l = c.loop-i in
    let ht : a.e.at + a.e.count ≤ length a.tags.now = omega (arith, c.requires.tags_len) in
    let hb : a.e.at + a.e.count ≤ length a.bits.now = c.requires.tags_len.1.0 in
    let n = kept_length a.e.at a.e.count a.tags.now a.bits.now ht hb in
    let room : a.r.used + (a.e.count + 1) ≤ length a.history.now = c.requires.tags_len.1.1 in
    record_ends a.history.now l.history
    (cell_places a.e.at (part a.e.at a.e.count a.tags.now) (part a.e.at a.e.count a.bits.now))
    a.r.used a.e.count _ n room l.invariant.len
    (stored_all l.invariant (omega (arith, c.loop-i-test.false, n)) (omega (arith, room, n)))
    ∙ ap (λ (s : ℕ). splice a.history.now a.r.used ((cell_places a.e.at (part a.e.at a.e.count a.tags.now) (part a.e.at a.e.count a.bits.now)) ++ (s ∷ []))) c.step_place.ensures
