-- The answers of `machine::commit::zero_cells`: the zeros left to write give what all of them give. Assumes nothing.
use Prim.Native.Nat.{ℕ, ◌<◌}
use mathlib.Core.Path.{sym}
use native.Mathlib.Omega.{arith}
use lib.ListN.{length, replicate, length-replicate, get_or-replicate}
use Rattle.rules.proofs.Stored.{stored_more, stored_all}
use Rattle.machine.proofs.commit.zero_cells.Goals as goal

pub loop-i-preserved : goal.loop-i-preserved
loop-i-preserved c =
    let l = c.loop-i in
    let n = c.args.count in
    let test = c.loop-i-test.true in
    let inside : l.i < length (replicate {A = ℕ} n 0) = omega (arith, test, length-replicate {A = ℕ} n 0) in (
      stored_more 0 l.invariant.0 inside (sym (get_or-replicate n l.i 0 0 test)),
      stored_more 0 l.invariant.1 inside (sym (get_or-replicate n l.i 0 0 test)),
    )

pub returns : goal.returns
returns c =
    let l = c.loop-i in
    let n = c.args.count in
    let all = length-replicate {A = ℕ} n 0 in
    record {
      bits_after = stored_all l.invariant.0 (omega (arith, c.loop-i-test.false, all)) (omega (arith, all, c.requires));
      tags_after = stored_all l.invariant.1 (omega (arith, c.loop-i-test.false, all)) (omega (arith, all, c.requires));
    }
