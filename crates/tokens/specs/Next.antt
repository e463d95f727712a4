-- What stands next in a source: the tokens from a place on, and what each function of the scanner answers of them. Assumes nothing.
use Rattle.std.specs.Prelude.{ℕ, ◌-◌, ◌≤◌, ◌<◌, ◌≡◌, false, List, [], ◌∷◌, length, drop, Option, Some, None}
use Rattle.rules.specs.Lists.{part}
use Rattle.rules.specs.Tokens.{Token, stops, tokens, comment}
use Rattle.tokens.specs.declared.Token as declared

-- the tokens of a source from the place i on, and those after a comment that is open there
unfoldable pub from : List ℕ → ℕ → List Token
from src i = tokens i (drop i src)

unfoldable pub inside : List ℕ → ℕ → List Token
inside src i = comment i (drop i src)

-- the bytes of a source from the place a to just before e
unfoldable pub between : List ℕ → ℕ → ℕ → List ℕ
between src a e = part a (e - a) src

-- r is where the next token starts, or the length where none is left
pub record Skipped (src : List ℕ) (i r : ℕ) : Type 0 where
  pub low : i ≤ r
  pub high : r ≤ length src
  pub same : from src i ≡ from src r
  pub token : r < length src → stops (drop r src) ≡ false

-- the token at i ends before r
pub record Ended (src : List ℕ) (i r : ℕ) : Type 0 where
  pub low : i < r
  pub high : r ≤ length src
  pub first : from src i ≡ record { at = i; text = between src i r } ∷ from src r

-- the comment that is open at i ends before r
pub record Closed (src : List ℕ) (i r : ℕ) : Type 0 where
  pub low : i ≤ r
  pub high : r ≤ length src
  pub same : inside src i ≡ from src r

-- the token from start to end is the next one from at, and those from end follow
pub record FoundAt (src : List ℕ) (at start end : ℕ) : Type 0 where
  pub low : at ≤ start
  pub some : start < end
  pub high : end ≤ length src
  pub first : from src at ≡ record { at = start; text = between src start end } ∷ from src end

-- what the scanner answers: the next token, or that none is left
abbrev pub NextIs : List ℕ → ℕ → Option declared.Token → Type 0
NextIs src at (Some t) = FoundAt src at t.start t.end
NextIs src at None = from src at ≡ []
