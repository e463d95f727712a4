-- Document 01, "Text, table, image": the bytes of a source, by their names. Assumes nothing.
use Rattle.std.specs.Prelude.{ℕ, Bool, true, false, ◌&&◌, ◌||◌, List, [], ◌∷◌, leb, eqb}
use Prim.Native.Char.{code}

abbrev pub tab : ℕ
tab = 9

abbrev pub LF : ℕ
LF = 10

abbrev pub CR : ℕ
CR = 13

abbrev pub space : ℕ
space = code " "

abbrev pub hash : ℕ
hash = code "#"

abbrev pub minus_sign : ℕ
minus_sign = code "-"

abbrev pub slash : ℕ
slash = code "/"

-- the digits 0 to 9 follow this one
abbrev pub zero_digit : ℕ
zero_digit = code "0"

abbrev pub colon : ℕ
colon = code ":"

abbrev pub point : ℕ
point = code "."

abbrev pub underscore : ℕ
underscore = code "_"

-- "Separators: space, tab, CR, LF."
unfoldable pub blank : ℕ → Bool
blank b = eqb b space || eqb b tab || eqb b CR || eqb b LF

-- A to Z, a to z
unfoldable pub letter : ℕ → Bool
letter b = (leb (code "A") b && leb b (code "Z")) || (leb (code "a") b && leb b (code "z"))

-- "letters, digits or `_`"
unfoldable pub word_byte : ℕ → Bool
word_byte b = letter b || (leb (code "0") b && leb b (code "9")) || eqb b underscore

-- "Other bytes allowed: letters, digits, `_ - # :`."; "the point becomes an allowed byte" (02 e)
unfoldable pub allowed : ℕ → Bool
allowed b = word_byte b || eqb b minus_sign || eqb b hash || eqb b colon || eqb b point

-- every byte of a text is one of a word
unfoldable pub all_word : List ℕ → Bool
all_word [] = true
all_word (b ∷ s) = word_byte b && all_word s

-- "A word is a letter, then letters, digits or `_`."
unfoldable pub is_word : List ℕ → Bool
is_word [] = false
is_word (b ∷ s) = letter b && all_word s
