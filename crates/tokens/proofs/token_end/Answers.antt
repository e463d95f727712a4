-- The goals of `tokens::token_end`, answered. Assumes nothing.
use Rattle.tokens.proofs.Scan.{last_colon, last_stops, last_other, ended_last, ended_more, stops_end}
use Rattle.rules.specs.Tokens.{stops}
use lib.ListN.{get_or, drop, length}
use Prim.Native.Nat.{◌+◌, ◌-◌}
use mathlib.Core.Bool.{false}
use mathlib.Core.Path.{◌≡◌, sym, ◌∙◌}
use native.Mathlib.Omega.{arith}
use Rattle.tokens.proofs.token_end.Goals.{then-src-i-eq58-via-then-src-i-eq58, then-src-i-eq58-via-else-src-i-eq58+then-stops_at}
use Rattle.tokens.proofs.token_end.Goals as goal

pub returns-then-src-i-eq58 : goal.returns-then-src-i-eq58
returns-then-src-i-eq58 c =
    let s = c.args.src.now in
    let v = c.loop-i.invariant in
    let k = c.loop-i.i - 1 in
    let e : c.loop-i.i ≡ k + 1 = omega arith in
    rw e (v.3 (k + 1) (ended_last s k (omega arith) v.2
    (elim c.then-src-i-eq58.branch [
      | then-src-i-eq58-via-then-src-i-eq58 w ↦ last_colon (get_or s k 0) (drop (k + 1) s) w.if-src-i-eq58.true
      | then-src-i-eq58-via-else-src-i-eq58+then-stops_at w ↦
          last_stops (get_or s k 0) (drop (k + 1) s) (rw (← e) (sym w.stops_at.ensures ∙ w.if-stops_at.true))
    ])))

pub loop-i-preserved : goal.loop-i-preserved
loop-i-preserved c = let s = c.args.src.now in
    let v = c.loop-i.invariant in
    let i = c.loop-i.i in
    let k = i - 1 in
    let e : i ≡ k + 1 = omega arith in
    let d : i + 1 - 1 ≡ k + 1 = omega arith in
    let f : stops (drop (k + 1) s) ≡ false = rw (← e) (sym c.stops_at.ensures ∙ c.if-stops_at.false) in
    let o = last_other (get_or s k 0) (drop (k + 1) s) c.if-src-i-eq58.false ∙ f in (
      omega arith,
      omega arith,
      rw d f,
      rw d (λ j t. v.3 j (ended_more s k (omega arith) v.2 o j t)),
    )

pub returns : goal.returns
returns c = let s = c.args.src.now in
    let v = c.loop-i.invariant in
    let k = length s - 1 in
    let l : length s ≡ k + 1 = omega arith in
    let j : c.loop-i.i - 1 ≡ k = omega arith in
    let n = stops_end s (k + 1) (omega arith) in
    rw l (v.3 (k + 1) (rw j (ended_last s k (omega arith) (rw j at v.2) (last_stops (get_or s k 0) (drop (k + 1) s) n))))
