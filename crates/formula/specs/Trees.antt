-- What a formula's tree may hold. Assumes nothing.
use Rattle.std.specs.Prelude.{◌≤◌, ◌<◌}
use Rattle.rules.specs.Sizes.{max_integer, name_cells}
use Rattle.rules.specs.Grammar.{Tree, number, name, negative, joined}

-- "integers 0 to 2147483647, names a to h"
abbrev pub Proper : Tree → Type 0
Proper (number n) = n ≤ max_integer
Proper (name k) = k < name_cells
Proper (negative t) = Proper t
Proper (joined o left right) = Proper left × Proper right
