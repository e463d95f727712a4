-- Where a base and an offset lead: to an address, or nowhere, where that is below 0. Assumes nothing.
use Rattle.std.specs.Prelude.{ℤ, pos, negsuc, Option, Some, None}
use Rattle.rules.specs.declared.MemoryAddress.{MemoryAddress}

abbrev pub reach_of : ℤ → Option MemoryAddress
reach_of (pos a) = Some (record { 0 = a })
reach_of (negsuc a) = None
