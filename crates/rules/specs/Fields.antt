-- Fields of bits, "packed most significant bit first": in history places, in images, and in saved states. A bit is the number 0 or 1. Assumes nothing.
use Rattle.std.specs.Prelude.{ℕ, zero, suc, ◌+◌, ◌-◌, ◌*◌, ◌/◌, ◌%◌, ◌^◌, Bool, ◌&&◌, List, [], ◌∷◌, ◌++◌, ltb, eqb, length, get_or, take, drop, replicate}
use Rattle.rules.specs.Lists.{part}

-- the w low bits of v
unfoldable pub field : ℕ → ℕ → List ℕ
field zero v = []
field (suc w) v = v / 2 ^ w % 2 ∷ field w v

-- the number that bits stand for
unfoldable pub value : List ℕ → ℕ
value [] = 0
value (b ∷ bs) = b * 2 ^ length bs + value bs

-- the bits of bytes
unfoldable pub bits_of : List ℕ → List ℕ
bits_of [] = []
bits_of (b ∷ bs) = field 8 b ++ bits_of bs

-- the first n bytes of bits
unfoldable pub bytes_of : ℕ → List ℕ → List ℕ
bytes_of zero l = []
bytes_of (suc n) l = value (take 8 l) ∷ bytes_of n (drop 8 l)

-- n bytes that hold the bits and then zeros
unfoldable pub packed_to : ℕ → List ℕ → List ℕ
packed_to n l = bytes_of n (l ++ replicate (n * 8 - length l) 0)

-- how many bytes hold so many bits: "zeros to a byte"
abbrev pub bytes_for : ℕ → ℕ
bytes_for n = (n + 7) / 8

-- not "padding not zero or bytes left over": fewer than 8 bits, all zero
unfoldable pub padded : List ℕ → Bool
padded bits = ltb (length bits) 8 && eqb (value bits) 0

-- ---- a layout: the widths of fields side by side

-- numbers, each in its width; past the last number there are zeros
abbrev pub side : List ℕ → List ℕ → List ℕ
side [] vs = []
side (w ∷ ws) [] = field w 0 ++ side ws []
side (w ∷ ws) (v ∷ vs) = field w v ++ side ws vs

-- how many bits it has
abbrev pub total : List ℕ → ℕ
total [] = 0
total (w ∷ ws) = w + total ws

-- the number in field i of bits that are laid out so
abbrev pub field_in : List ℕ → ℕ → List ℕ → ℕ
field_in ws i bits = value (part (total (take i ws)) (get_or ws i 0) bits)
