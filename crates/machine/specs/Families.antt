-- What an action decides where it does not look at the rest: on the top value, on two values, and with an operand. Assumes nothing.
use Rattle.std.specs.Prelude.{ℕ, []}
use Rattle.rules.specs.Tags.{int}
use Rattle.rules.specs.Cells.{cells}
use Rattle.rules.specs.Decide.{Action, on_values}
use Rattle.rules.specs.declared.Cell.{Cell}
use Rattle.rules.specs.declared.Registers.{Registers}
use Rattle.rules.specs.Answers.{Decision}

abbrev pub on_pair : Action → Registers → Cell → Cell → Decision
on_pair a r vb vt = on_values r (cells [] []) 0 vb vt a

abbrev pub on_top : Action → Registers → Cell → Decision
on_top a r vt = on_pair a r (int 0) vt

abbrev pub on_operand : Action → Registers → ℕ → Cell → Decision
on_operand a r n vt = on_values r (cells [] []) n (int 0) vt a
