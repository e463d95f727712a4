-- The loop's invariant: `rest` is the word of the letters from `n` on. Assumes nothing.
use Prim.Native.Nat.{◌≤◌}
use mathlib.Core.Path.{◌≡◌}
use lib.ListN.{length, drop}
use Rattle.rules.specs.Instructions.{name_of}
use Rattle.program.specs.NameWords.{word_of}
use Rattle.program.proofs.names.name_length.Given as goal

abbrev pub invariant-loop-n : goal.invariant-loop-n
invariant-loop-n l = (l.n ≤ length (name_of l.code)) × (l.rest ≡ word_of (drop l.n (name_of l.code)))
