-- Document 02, letter f, "A dwell reader for the door board": how long the doors stay open, in tenths of a second, read off "cell 0 of a halted machine".
-- Assumes nothing.
use Rattle.std.specs.Prelude.{ℕ, Bool, not, ◌&&◌, ◌||◌, cond, ltb, eqb, ℤ, pos, nat_abs, ◌*ℤ◌, Ok, Err}
use Rattle.std.specs.Int.Signed.{lt_z, shr_z}
use Rattle.rules.specs.Tags.{INT, FLOAT, has}
use Rattle.rules.specs.Words.{signed}
use Rattle.rules.specs.Exact.{negative, exponent, no_value, stands_for_nan, scale, exact}
use Rattle.rules.specs.Table.{Program}
use Rattle.rules.specs.Cells.{cell_at}
use Rattle.rules.specs.State.{Memory, sound}
use Rattle.rules.specs.declared.Cell.{Cell}
use Rattle.rules.specs.declared.Registers.{Registers}
use Rattle.rules.specs.Answers.{Dwell}
use Rattle.rules.specs.declared.DwellRefusal.{DwellRefusal}
use Rattle.rules.specs.declared.DwellRefusal.TheVariants.{StateBroken, NotHalted, StackEmpty, OtherTag, NotANumber}

-- ---- the tenths

abbrev pub shortest : ℕ
shortest = 10

abbrev pub longest : ℕ
longest = 300

-- "The result is held between 10 and 300 tenths"
unfoldable pub held : ℤ → ℕ
held z = cond (lt_z z (pos shortest)) shortest (cond (lt_z (pos longest) z) longest (nat_abs z))

-- "FLOAT is seconds, taken as the largest whole tenth not above the exact ten times that number": of finite bits; `shr_z z c` is z / c rounded down
unfoldable pub whole_tenths : ℕ → ℤ
whole_tenths b = shr_z (pos 10 *ℤ exact b) scale

-- "infinities go to the nearer end"
abbrev pub nearer_end : ℕ → ℕ
nearer_end b = cond (negative b) shortest longest

unfoldable pub held_seconds : ℕ → ℕ
held_seconds b = cond (ltb (exponent b) no_value) (held (whole_tenths b)) (nearer_end b)

-- "INT is tenths of a second; FLOAT is seconds": of a cell that is one of them and no NaN
abbrev pub tenths_of : Cell → ℕ
tenths_of c = cond (has INT c) (held (signed c.bits)) (held_seconds c.bits)

-- ---- the call, which writes nothing

abbrev pub read_if : Bool → DwellRefusal → Dwell → Dwell
read_if test e d = cond test d (Err e)

-- "62 tag neither INT nor FLOAT, 63 NaN"
abbrev pub read_cell : Cell → Dwell
read_cell c =
    read_if (has INT c || has FLOAT c) OtherTag
    (read_if (not (has FLOAT c && stands_for_nan c.bits)) NotANumber
    (Ok (tenths_of c)))

-- "10 as for step, then 60 not halted, 61 SP is 0", and then of cell 0
unfoldable pub dwell : Program → Registers → Memory → Dwell
dwell p r m =
    read_if (sound p r m) StateBroken
    (read_if (eqb r.halt 1) NotHalted
    (read_if (not (eqb r.sp 0)) StackEmpty
    (read_cell (cell_at m.cells (record { 0 = 0 })))))
