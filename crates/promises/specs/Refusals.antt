-- Request a: "Tell the technician the line." What the place, the line and the column that are told with a refusal of a source promise, for whoever
-- looks the line up in an editor; proofs/Refusals.antt shows it. Assumes nothing.
use Rattle.std.specs.Prelude.{ℕ, ◌+◌, ◌-◌, ◌≤◌, ◌<◌, ◌≡◌, Bool, true, false, cond, ◌||◌, List, [], ◌∷◌, eqb, length, take, get_or}
use Rattle.rules.specs.Bytes.{LF}
use Rattle.rules.specs.Positions.{no_position}
use Rattle.rules.specs.declared.Position.{Position}

-- ---- a source as lines

-- a byte put before the first of the lines
unfoldable pub before : ℕ → List (List ℕ) → List (List ℕ)
before b [] = (b ∷ []) ∷ []
before b (l ∷ ls) = (b ∷ l) ∷ ls

-- the lines of a source: it is cut at each LF, which belongs to no line; there is always a last one, though it may be empty
unfoldable pub lines : List ℕ → List (List ℕ)
lines [] = [] ∷ []
lines (b ∷ s) =
    let rest = lines s in
    cond (eqb b LF) ([] ∷ rest) (before b rest)

-- the line of a number, from 1
abbrev pub line_of : List ℕ → ℕ → List ℕ
line_of source k = get_or (lines source) (k - 1) []

-- how many bytes lines take in a source, each with its LF
unfoldable pub bytes_of : List (List ℕ) → ℕ
bytes_of [] = 0
bytes_of (l ∷ ls) = length l + 1 + bytes_of ls

-- ---- what is promised

-- place, line and column name the same byte
pub record SameByte (source : List ℕ) (p : Position) : Type 0 where
  -- the source has that line, counted from 1
  pub line_from : 1 ≤ p.line
  pub line_to : p.line ≤ length (lines source)
  -- the line has that column, counted from 1; the one behind its last byte is that of its LF, or of the source's end
  pub column_from : 1 ≤ p.column
  pub column_to : p.column ≤ length (line_of source p.line) + 1
  -- who goes down the lines above it, and along it to the column, comes to the place
  pub arrives : bytes_of (take (p.line - 1) (lines source)) + (p.column - 1) ≡ p.place
  -- and finds the byte of that place
  pub byte : get_or (line_of source p.line) (p.column - 1) LF ≡ get_or source p.place LF

-- 31 and 21 are about no byte
abbrev pub of_no_byte : ℕ → Bool
of_no_byte number = eqb number 31 || eqb number 21

-- what is promised of a refusal by its number
pub record Placed (source : List ℕ) (number : ℕ) (p : Position) : Type 0 where
  pub none : of_no_byte number ≡ true → p ≡ no_position
  pub same : of_no_byte number ≡ false → SameByte source p
  -- 24, an operand missing, stands at the source's end, and every other refusal at one of its bytes
  pub end : number ≡ 24 → p.place ≡ length source
  pub inside : of_no_byte number ≡ false → (number ≡ 24 → ⊥) → p.place < length source
