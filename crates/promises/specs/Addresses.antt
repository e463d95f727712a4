-- Request d: "An address went past 32 bits and came round to a legal cell." What is promised of an address that ADD or SUB makes;
-- proofs/Addresses.antt shows it. Assumes nothing.
use Rattle.std.specs.Prelude.{ℕ, ◌+◌, ◌-◌, ◌≡◌, ℤ, Ok, Err}
use Rattle.rules.specs.Tags.{ma}
use Rattle.rules.specs.Words.{signed}
use Rattle.rules.specs.Effects.{cell, effect}
use Rattle.rules.specs.declared.Registers.{Registers}
use Rattle.rules.specs.declared.Effect.{Effect}
use Rattle.rules.specs.Answers.{Decision}
use Rattle.rules.specs.declared.MachineRefusal.TheVariants.{BadAddress}

-- in place of the two values stands an MA whose bits stand for just the number: SP is one less, PC goes on, and nothing else is written or set
pub record Pushes (r : Registers) (z : ℤ) (e : Effect) : Type 0 where
  pub bits : ℕ
  pub stands : signed bits ≡ z
  pub whole : e ≡ effect (r.pc + 1) (r.sp - 1) r.fbr 0 (cell (r.sp - 2) (ma bits))

-- that; or it is 6, and no bits stand for the number
abbrev pub Exact : Registers → ℤ → Decision → Type 0
Exact r z (Ok e) = Pushes r z e
Exact r z (Err x) = (x ≡ BadAddress) × ((b : ℕ) → signed b ≡ z → ⊥)
