-- Document 02, letter b: "EQUAL of two FLOATs shall follow IEEE 754 comparison: both zeros equal, a NaN equal to nothing." What that says of the bits of
-- two cells: nothing here is taken from a library of floats. Assumes nothing.
use Rattle.std.specs.Prelude.{ℕ, Bool, true, false, ◌&&◌, ◌||◌, cond, eqb}
use Rattle.rules.specs.Exact.{stands_for_nan}

-- "both zeros"
abbrev pub is_zero : ℕ → Bool
is_zero b = eqb b 0x0000_0000 || eqb b 0x8000_0000

-- every other value has bits that are its own
abbrev pub same_float : ℕ → ℕ → Bool
same_float b t = cond (stands_for_nan b || stands_for_nan t) false (cond (is_zero b && is_zero t) true (eqb b t))
