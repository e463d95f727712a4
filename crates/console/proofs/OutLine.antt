-- The line of what was written: byte by byte, and how long it is. Assumes nothing.
use Prim.Native.Nat.{ℕ, ◌+◌, ◌*◌, ◌≤◌, ◌<◌}
use mathlib.Core.Path.{◌≡◌, refl}
use mathlib.Core.List.{List, [], ◌∷◌, ◌++◌, append_assoc, append-nil}
use native.Mathlib.Numerals.{add-one}
use native.Mathlib.Omega.{arith}
use lib.ListN.{length, take, get_or, length-append}
use lib.Seq.{take-suc}
use Rattle.rules.specs.Lists.{text}
use Rattle.rules.specs.Bytes.{space, LF}
use Rattle.rules.specs.Listing.{hex}
use Rattle.rules.specs.Console.{bytes_text, out_line}
use Rattle.rules.proofs.Texts.{length_hex}

-- the bytes, each as a space and two hex digits
pub shown : List ℕ → List ℕ
shown [] = []
shown (b ∷ bs) = (space ∷ hex 2 b) ++ shown bs

pub shown_none : shown [] ≡ []
unfolding shown
shown_none = refl

shown_append : (xs ys : List ℕ) → shown (xs ++ ys) ≡ shown xs ++ shown ys
unfolding shown
shown_append [] ys = refl
shown_append (x ∷ xs) ys = rw (shown_append xs ys, append_assoc)

shown_one : (b : ℕ) → shown (b ∷ []) ≡ space ∷ hex 2 b
unfolding shown
shown_one b = append-nil (space ∷ hex 2 b)

-- one byte more
pub shown_next : (l : List ℕ) (i : ℕ) → i < length l → shown (take (i + 1) l) ≡ shown (take i l) ++ (space ∷ hex 2 (get_or l i 0))
shown_next l i h = rw (add-one i, take-suc l i 0 h, shown_append, shown_one)

-- the text of the bytes is that, and LF
pub bytes_shown : (l : List ℕ) → bytes_text l ≡ shown l ++ LF ∷ []
unfolding bytes_text shown
bytes_shown [] = refl
bytes_shown (b ∷ bs) = rw (bytes_shown bs, append_assoc)

length_shown : (l : List ℕ) → length (shown l) ≡ 3 * length l
unfolding shown
length_shown [] = refl
length_shown (b ∷ bs) = rw length-append (omega (arith, length_hex 2 b, length_shown bs))

pub length_bytes : (l : List ℕ) → length (bytes_text l) ≡ 3 * length l + 1
length_bytes l = rw (bytes_shown l, length-append) (omega (arith, length_shown l))

-- ---- the line, of no bytes and of some

pub out_none : (l : List ℕ) → length l ≡ 0 → out_line l ≡ []
unfolding out_line
out_none [] e = refl
out_none (b ∷ bs) e = absurd (let z : ⊥ = omega (arith, e) in z)

pub out_some : (l : List ℕ) → (length l ≡ 0 → ⊥) → out_line l ≡ text "out" ++ bytes_text l
unfolding out_line
out_some [] f = absurd (f refl)
out_some (b ∷ bs) f = refl

pub out_short : (l : List ℕ) → length (out_line l) ≤ 3 * length l + 4
unfolding out_line text
out_short [] = omega arith
out_short (b ∷ bs) = omega (arith, length_bytes (b ∷ bs))
