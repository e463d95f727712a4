-- `records::judge` meets its contract: each record on top is well formed, or the walk ends. Assumes nothing.
use mathlib.Core.Path.{sym, ◌∙◌}
use Rattle.std.proofs.Common.{rules}
use Prim.Native.Nat.{◌-◌, ◌<◌}
use lib.ListN.{length}
use Rattle.records.proofs.Formed.{record_inside}
use Rattle.records.proofs.Walks.{walk_broken, walking_new, walking_old, walk_end}
use Rattle.records.proofs.judge.Goals as goal

pub returns-then-not-is_formed_record : goal.returns-then-not-is_formed_record
returns-then-not-is_formed_record c =
    walk_broken _ _ _ _ _ c.loop-left.invariant c.loop-left-test.true _
    (sym c.is_formed_record.ensures ∙ c.if-not-is_formed_record.true)

pub offset_bounds-history-last : goal.offset_bounds-history-last
offset_bounds-history-last c =
    let inside : c.loop-left.left - 1 < length c.args.history.now =
    record_inside _ _ _ _ (sym c.is_formed_record.ensures ∙ c.if-not-is_formed_record.false) in
    search rules

pub bounds-history-last : goal.bounds-history-last
bounds-history-last c = record_inside _ _ _ _ (sym c.is_formed_record.ensures ∙ c.if-not-is_formed_record.false)

pub loop-left-preserved-then-passed-stay : goal.loop-left-preserved-then-passed-stay
loop-left-preserved-then-passed-stay c =
    walking_new _ _ _ _ _ c.loop-left.invariant c.loop-left-test.true
    (sym c.is_formed_record.ensures ∙ c.if-not-is_formed_record.false) c.step_count.ensures c.if-passed-stay.true

pub loop-left-preserved : goal.loop-left-preserved
loop-left-preserved c =
    walking_old _ _ _ _ _ c.loop-left.invariant c.loop-left-test.true
    (sym c.is_formed_record.ensures ∙ c.if-not-is_formed_record.false) c.step_count.ensures c.if-passed-stay.false

pub returns : goal.returns
returns c = search (rules, walk_end c.args.n c.args.count c.args.stay c.args.used c.args.history.now c.args.kept c.loop-left.invariant c.loop-left-test.false)
