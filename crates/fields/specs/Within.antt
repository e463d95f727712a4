-- A field of bits written into a list of bits, and read from it, at any place and of any width. Assumes nothing.
use Rattle.std.specs.Prelude.{ℕ, ◌+◌, Bool, cond, ◌&&◌, List, leb, length}
use Rattle.rules.specs.Lists.{part, splice}
use Rattle.rules.specs.Fields.{field, value}

-- the widest field: one number of 64 bits
abbrev pub widest : ℕ
widest = 64

-- whether a field of w bits from bit `at` is no wider, and lies in the bits
abbrev pub inside : List ℕ → (at w : ℕ) → Bool
inside l at w = leb w widest && leb (at + w) (length l)

-- the low w bits of v written there, where it is inside; else nothing changes
unfoldable pub put_at : List ℕ → (at w v : ℕ) → List ℕ
put_at l at w v = cond (inside l at w) (splice l at (field w v)) l

-- the number in it, where it is inside; else 0
unfoldable pub read_at : List ℕ → (at w : ℕ) → ℕ
read_at l at w = cond (inside l at w) (value (part at w l)) 0

-- the widest field that is one number of 64 bits together with up to 7 bits before it
abbrev pub widest_short : ℕ
widest_short = 57
