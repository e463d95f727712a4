-- How many bytes are lent for what is printed. Assumes nothing.
use Rattle.std.specs.Prelude.{ℕ}

abbrev pub print_room : ℕ
print_room = 32_768
