-- The answers of `machine::commit::put`, for a block of no cell, of one, and of more. Assumes nothing.
use Prim.Native.Nat.{◌+◌, ◌≤◌}
use mathlib.Core.Path.{◌∙◌}
use native.Mathlib.Omega.{arith}
use lib.ListN.{length}
use Rattle.machine.proofs.Blocks.{put_none, put_one, put_more}
use Rattle.machine.proofs.commit.put.Goals as goal

pub returns-then-count-eq0 : goal.returns-then-count-eq0
returns-then-count-eq0 c =
    let a = c.args in
    let e = a.e in
    let none = c.if-count-eq0.true in
    record {
      bits_after = put_none a.bits.now e.at e.count e.first.bits e.second.bits none;
      tags_after = put_none a.tags.now e.at e.count e.first.tag e.second.tag none;
    }

pub returns-then-count-eq1 : goal.returns-then-count-eq1
returns-then-count-eq1 c =
    let a = c.args in
    let e = a.e in
    let fits : e.at + e.count ≤ length a.tags.now = omega (arith, c.requires) in
    let one = c.if-count-eq1.true in
    record {
      bits_after = put_one a.bits.now e.at e.count e.first.bits e.second.bits c.requires.1 one;
      tags_after = put_one a.tags.now e.at e.count e.first.tag e.second.tag fits one;
    }

pub returns : goal.returns
returns c =
    let a = c.args in
    let e = a.e in
    let fits : e.at + e.count ≤ length a.tags.now = omega (arith, c.requires) in
    let two : 2 ≤ e.count = omega (arith, c.if-count-eq0.false, c.if-count-eq1.false) in
    let zeros = c.zero_cells.ensures in
    record {
      bits_after = zeros.bits_after ∙ put_more a.bits.now e.at e.count e.first.bits e.second.bits c.requires.1 two;
      tags_after = zeros.tags_after ∙ put_more a.tags.now e.at e.count e.first.tag e.second.tag fits two;
    }
