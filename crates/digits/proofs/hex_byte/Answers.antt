-- `digits::hex_byte` meets its contract. Assumes nothing.
use mathlib.Core.Path.{sym}
use native.Mathlib.Omega.{arith}
use Rattle.rules.proofs.Texts as texts
use Rattle.digits.proofs.hex_byte.Goals as goal

pub returns-then-digit-lt10 : goal.returns-then-digit-lt10
returns-then-digit-lt10 c = sym (texts.hex_low c.args.digit c.if-digit-lt10.true)

pub returns-else-digit-lt10 : goal.returns-else-digit-lt10
returns-else-digit-lt10 c = omega (arith, texts.hex_high c.args.digit c.if-digit-lt10.false)
