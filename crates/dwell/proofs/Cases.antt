-- The cases of the tenths, of an INT's bits and of a FLOAT's. Assumes nothing.
use Rattle.rules.proofs.Dwells.{int_minus, int_few, int_between, int_many}
use Rattle.nearest.proofs.Tenths.{seconds_minus, seconds_few, seconds_many, seconds_between}

pub ruleset int_cases = (int_minus, int_few, int_between, int_many)

pub ruleset seconds_cases = (seconds_minus, seconds_few, seconds_many, seconds_between)
