-- The rules' program that a lent one is. Assumes nothing.
use Rattle.rules.specs.Table.{program}
use Rattle.rules.specs.Table.{Program as RulesProgram}
use Rattle.program.specs.declared.Program.{Program}

abbrev pub program_of : Program → RulesProgram
program_of p = program p.table.now p.length
