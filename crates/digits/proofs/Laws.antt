-- Texts written after texts, a byte before and a byte after, a text over zeros, and hex zeros past the end. Assumes nothing.
use Prim.Native.Nat.{ℕ, zero, suc, ◌+◌, ◌-◌, ◌≤◌, ◌<◌}
use mathlib.Core.Path.{◌≡◌, refl, sym, ap, ◌∙◌}
use mathlib.Core.List.{List, [], ◌∷◌, ◌++◌}
use native.Mathlib.Nat.{add-zero, zero-add, min-le_left, eq-or-lt_of_le}
use Rattle.std.proofs.Common.{min, ◌⊎◌, inl, inr}
use native.Mathlib.Numerals.{add-one}
use native.Mathlib.Omega.{arith}
use lib.ListN.{length, take, get_or, set, replicate, length-append, length-replicate}
use lib.Seq.{sets, take-suc, length-take-le}
use Rattle.std.proofs.Math.Seq.{length-sets}
use Rattle.std.proofs.lemmas.List.{set_past}
use Rattle.rules.specs.Listing.{hex, hex_byte}
use Rattle.rules.proofs.Texts.{length_hex}
use Rattle.rules.proofs.Zeros.{drop_zeros}
use Rattle.rules.proofs.Splice.{sets_splice}
use Rattle.digits.specs.Put.{Put}

pub sets_append : (l xs ys : List ℕ) (i : ℕ) → sets (sets l i xs) (i + length xs) ys ≡ sets l i (xs ++ ys)
sets_append l [] ys i = rw add-zero
sets_append l (x ∷ xs) ys i =
    let q : i + suc (length xs) ≡ suc i + length xs = omega arith in
    rw q (sets_append (set l i x) xs ys (suc i))

-- one byte more of a text
pub put_more : (old t : List ℕ) (at i : ℕ) → i < length t → set (sets old at (take i t)) (at + i) (get_or t i 0) ≡ sets old at (take (i + 1) t)
put_more old t at i h =
    let q : length (take i t) ≡ i = length-take-le i t (omega arith) in
    rw (add-one i, take-suc t i 0 h) (rw q at (sets_append old (take i t) (get_or t i 0 ∷ []) at))

-- a text put after a text
pub put_append : {l₀ l₁ l₂ s t : List ℕ} {at m n : ℕ} → Put l₀ l₁ at s m → Put l₁ l₂ (at + m) t n → Put l₀ l₂ at (s ++ t) (m + n)
put_append {l₀} {l₁} {l₂} {s} {t} {at} {m} {n} p q =
    record {
      length_told = rw length-append (omega (arith, p.length_told, q.length_told));
      written = q.written ∙ rw (p.written, p.length_told) (sets_append l₀ s t at);
    }

-- and one after a text from the start on
pub put_next : {l₀ l₁ l₂ s t : List ℕ} {m n : ℕ} → Put l₀ l₁ 0 s m → Put l₁ l₂ m t n → Put l₀ l₂ 0 (s ++ t) (m + n)
put_next p q = put_append p (rw zero-add q)

-- a byte in front of a text, and one after it
pub put_front : {old mid new t : List ℕ} {at i j b r : ℕ} → mid ≡ set old i b → Put mid new j t r → i ≡ at → j ≡ at + 1 → Put old new at (b ∷ t) (r + 1)
put_front {t = t} e p ei ej =
    record { length_told = rw p.length_told (add-one (length t)); written = p.written ∙ rw (e, ei, ej, add-one) }

pub put_last : {old mid new t : List ℕ} {at r : ℕ} (b : ℕ) → Put old mid at t r → new ≡ set mid (at + r) b → Put old new at (t ++ b ∷ []) (r + 1)
put_last b p e = put_append p (record { length_told = refl; written = e })

-- a text written over zeros, from the first on
pub put_zeros : {n r : ℕ} {new t : List ℕ} → length t ≤ n → Put (replicate n 0) new 0 t r → new ≡ t ++ replicate (n - length t) 0
put_zeros {n} {r} {new} {t} h p =
    p.written
    ∙ sets_splice t (replicate n 0) 0 (rw (zero-add, length-replicate) h)
    ∙ ap (λ (l : List ℕ). t ++ l) (rw zero-add (drop_zeros (length t) n))

-- one hex zero more; and those past the end of the lent bytes are left out
pub hex_zero_more : (l : List ℕ) (at k : ℕ) → set (sets l at (hex k 0)) (at + k) 48 ≡ sets l at (hex (k + 1) 0)
unfolding hex hex_byte
hex_zero_more l at k =
    let e : hex (suc k) 0 ≡ hex k 0 ++ 48 ∷ [] = refl in
    rw (add-one, e) (rw (length_hex k 0) at (sets_append l (hex k 0) (48 ∷ []) at))

pub hex_zeros_in : (l : List ℕ) (at k : ℕ) → sets l at (hex k 0) ≡ sets l at (hex (min k (length l)) 0)
hex_zeros_in l at zero = ap (λ (m : ℕ). sets l at (hex m 0)) (omega arith)
hex_zeros_in l at (suc k) = go (hex_zeros_in l at k) (eq-or-lt_of_le (min-le_left (suc k) (length l)))
  where
    go : sets l at (hex k 0) ≡ sets l at (hex (min k (length l)) 0) → (min (suc k) (length l) ≡ suc k) ⊎ (min (suc k) (length l) < suc k)
        → sets l at (hex (suc k) 0) ≡ sets l at (hex (min (suc k) (length l)) 0)
    go before (inl e) = rw e refl
    go before (inr h) =
        let past : length l ≤ k = omega arith in
        let same : min (suc k) (length l) ≡ min k (length l) = omega arith in
        let more : set (sets l at (hex k 0)) (at + k) 48 ≡ sets l at (hex (suc k) 0) = hex_zero_more l at k ∙ ap (λ (m : ℕ). sets l at (hex m 0)) (add-one k) in
        let left_out : set (sets l at (hex k 0)) (at + k) 48 ≡ sets l at (hex k 0) =
        set_past (sets l at (hex k 0)) (at + k) 48 (omega (arith, length-sets l at (hex k 0))) in
        rw same (sym more ∙ left_out ∙ before)
