-- `word::integers::times` meets its contract. Assumes nothing.
use Rattle.std.proofs.Common.{arith}
use Rattle.word.proofs.Halves.{product}
use Rattle.word.proofs.integers.times.Goals as goal

pub returns : goal.returns
returns c =
    omega (arith, product c.args.b c.args.t)
