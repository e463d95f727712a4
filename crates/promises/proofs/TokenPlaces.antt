-- The tokens of a source lie in it: each has a byte, and none reaches behind the source's last byte. Assumes nothing.
use Prim.Native.Nat.{ℕ, ◌+◌, ◌≤◌, ◌<◌}
use mathlib.Core.Path.{◌≡◌}
use mathlib.Core.List.{List, [], ◌∷◌}
use native.Mathlib.Omega.{arith}
use lib.Dec.{eqb}
use lib.ListN.{length}
use Rattle.rules.specs.Bytes.{LF, blank}
use Rattle.rules.specs.Tokens.{Token, opens, last, extend, tokens, comment}
use Rattle.rules.proofs.Tests.{either}
use Rattle.promises.specs.Each.{Each}

-- a token has a byte, and its bytes lie from low on and below high
pub record Between (low high : ℕ) (t : Token) : Type 0 where
  pub from : low ≤ t.at
  pub some : 1 ≤ length t.text
  pub to : t.at + length t.text ≤ high

abbrev pub Lie : ℕ → ℕ → List Token → Type 0
Lie low high ts = Each (Between low high) ts

lie_lower : (low high : ℕ) (ts : List Token) → Lie (low + 1) high ts → Lie low high ts
lie_lower low high [] w = tt
lie_lower low high (t ∷ ts) w =
    (record { from = omega (arith, w.0.from); some = w.0.some; to = w.0.to }, lie_lower low high ts w.1)

-- a byte before the first token: that one begins later, so it has room
lie_extend : (at high b : ℕ) (ts : List Token) → at < high → Lie (at + 1) high ts → Lie at high (extend at b ts)
unfolding extend
lie_extend at high b [] h w = (record { from = omega arith; some = omega arith; to = omega arith }, tt)
lie_extend at high b (t ∷ ts) h w =
    (record { from = omega arith; some = omega arith; to = omega (arith, w.0.from, w.0.to) }, lie_lower at high ts w.1)

mutual
  unfolding tokens comment

  pub tokens_lie : (s : List ℕ) (at high : ℕ) → at + length s ≡ high → Lie at high (tokens at s)
  tokens_lie [] at high e = tt
  tokens_lie (b ∷ s) at high e =
      let rest = tokens_lie s (at + 1) high (omega arith) in
      let after = comment_lie s (at + 1) high (omega arith) in
      let low = lie_lower at high (tokens (at + 1) s) rest in
      let one : Between at high (record { at = at; text = b ∷ [] }) = record { from = omega arith; some = omega arith; to = omega arith } in
      either (Lie at high) (blank b) low
      (either (Lie at high) (opens (b ∷ s)) (lie_lower at high (comment (at + 1) s) after)
      (either (Lie at high) (last b s) (one, low) (lie_extend at high b (tokens (at + 1) s) (omega arith) rest)))

  comment_lie : (s : List ℕ) (at high : ℕ) → at + length s ≡ high → Lie at high (comment at s)
  comment_lie [] at high e = tt
  comment_lie (b ∷ s) at high e =
      either (Lie at high) (eqb b LF)
      (lie_lower at high (tokens (at + 1) s) (tokens_lie s (at + 1) high (omega arith)))
      (lie_lower at high (comment (at + 1) s) (comment_lie s (at + 1) high (omega arith)))
