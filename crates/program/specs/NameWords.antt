-- A name as one number, its word: the letters in base 32, the first lowest, A = 1 to Z = 26. Assumes nothing.
use Rattle.std.specs.Prelude.{ℕ, ◌+◌, ◌-◌, ◌*◌, Bool, cond, ◌&&◌, List, [], ◌∷◌, leb, ltb, length, Option, Some, None}
use Prim.Native.Char.{code}
use Rattle.rules.specs.Lists.{all}
use Rattle.rules.specs.Instructions.{codes}

unfoldable pub capital : ℕ → Bool
capital b = leb (code "A") b && leb b (code "Z")

unfoldable pub word_of : List ℕ → ℕ
word_of [] = 0
word_of (b ∷ t) = (b - 64) + 32 * word_of t

-- at most nine capital letters, as every name is
unfoldable pub name_like : List ℕ → Bool
name_like t = leb (length t) 9 && all capital t

-- the word of a text that is like a name; every other has none
unfoldable pub text_word : List ℕ → Option ℕ
text_word t = cond (name_like t) (Some (word_of t)) None

-- the code of a name, which has none past the last
abbrev pub named : ℕ → Option ℕ
named k = cond (ltb k codes) (Some k) None
