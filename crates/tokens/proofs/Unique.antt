-- One answer alone meets the scanner's contract. Assumes nothing.
use Prim.Native.Nat.{ℕ, ◌-◌, ◌≤◌}
use mathlib.Core.Path.{◌≡◌, refl, ap, ap₂, sym, ◌∙◌}
use mathlib.Core.List.{List, [], ◌∷◌}
use native.Mathlib.Omega.{arith}
use lib.ListN.{length}
use Rattle.rules.proofs.Splice.{length_part}
use Rattle.rules.specs.Tokens as rules
use Rattle.std.proofs.Common.{Option, Some, None}
use Rattle.tokens.specs.declared.Token.{Token}
use Rattle.tokens.specs.Next.{from, between, FoundAt, NextIs}

pub length_between : (src : List ℕ) (a e : ℕ) → a ≤ e → e ≤ length src → length (between src a e) ≡ e - a
unfolding between
length_between src a e h k = length_part a (e - a) src (omega arith)

-- the place of the first token, and the bytes of it
abbrev first_at : List rules.Token → ℕ
first_at [] = 0
first_at (t ∷ ts) = t.at

abbrev first_size : List rules.Token → ℕ
first_size [] = 0
first_size (t ∷ ts) = length t.text

found_size : (src : List ℕ) (at s e : ℕ) → FoundAt src at s e → first_size (from src at) ≡ e - s
found_size src at s e h = ap first_size h.first ∙ length_between src s e (omega (arith, h.some)) h.high

pub next_unique : (src : List ℕ) (at : ℕ) (a b : Option Token) → NextIs src at a → NextIs src at b → a ≡ b
next_unique src at None None h k = refl
next_unique src at None (Some t) h k = absurd (omega (arith, k.some, found_size src at t.start t.end k, ap first_size h))
next_unique src at (Some t) None h k = absurd (omega (arith, h.some, found_size src at t.start t.end h, ap first_size k))
next_unique src at (Some t) (Some u) h k =
    let p : t.start ≡ u.start = sym (ap first_at h.first) ∙ ap first_at k.first in
    let q : t.end ≡ u.end = omega (arith, h.some, k.some, found_size src at t.start t.end h, found_size src at u.start u.end k) in
    ap₂ (λ (i j : ℕ). Some (record { start = i; end = j })) p q
