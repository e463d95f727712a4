-- How long an instruction can be in an image, so that no sum of places overflows. Assumes nothing.
use Rattle.std.specs.Prelude.{ℕ, ◌+◌}
use Rattle.rules.specs.Image.{code_width}

-- a code, and 32 bits
abbrev pub longest : ℕ
longest = code_width + 32
