-- Document 01, "Numbers given back": what a refused writer (assembler, lister, packer, unpacker, saver, translator) leaves in the output that it was lent. Assumes nothing.
use Rattle.std.specs.Prelude.{ℕ, cond, List, eqb, length, replicate}

-- "Refused writers leave an output of wrong length untouched, zero one of right length": whatever it is refused for
abbrev pub blanked : (size : ℕ) → List ℕ → List ℕ
blanked size out = cond (eqb (length out) size) (replicate size 0) out
