-- Document 02, letter a: the line and the column of a place in a source, "both from 1". Assumes nothing.
use Rattle.std.specs.Prelude.{ℕ, suc, ◌+◌, cond, List, [], ◌∷◌, eqb, length, take}
use Rattle.rules.specs.Bytes.{LF}
use Rattle.rules.specs.declared.Position.{Position}

-- how many LFs a text has, those of its comments too
unfoldable pub line_feeds : List ℕ → ℕ
line_feeds [] = 0
line_feeds (b ∷ s) =
    let rest = line_feeds s in
    cond (eqb b LF) (suc rest) rest

-- what stands behind the last LF of a text: all of it where it has none
unfoldable pub since_lf : List ℕ → List ℕ
since_lf [] = []
since_lf (b ∷ s) =
    let rest = since_lf s in
    cond (eqb (line_feeds (b ∷ s)) 0) (b ∷ s) rest

-- "line and column besides, both from 1; a column counts bytes since the last LF": both are read off what stands before the place
unfoldable pub position_of : List ℕ → ℕ → Position
position_of source at =
    record { place = at; line = line_feeds (take at source) + 1; column = length (since_lf (take at source)) + 1 }

-- "31 and 21 have line 0 column 0", and place 0
abbrev pub no_position : Position
no_position = record { place = 0; line = 0; column = 0 }
