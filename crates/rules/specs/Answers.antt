-- What each call answers: what it made, or what it refused with. A step and a run have types of their own in `src`, as document 01 names their forms. Assumes nothing.
use Rattle.std.specs.Prelude.{ℕ, Option, Result, ⊤}
use Rattle.rules.specs.declared.Registers.{Registers}
use Rattle.rules.specs.declared.Effect.{Effect}
use Rattle.rules.specs.declared.NamedStep.{NamedStep}
use Rattle.rules.specs.declared.Translated.{Translated}
use Rattle.rules.specs.declared.Taken.{Taken}
use Rattle.rules.specs.declared.SourceFault.{SourceFault}
use Rattle.rules.specs.declared.DepthFault.{DepthFault}
use Rattle.rules.specs.declared.NumeralFault.{NumeralFault}
use Rattle.rules.specs.declared.MachineRefusal.{MachineRefusal}
use Rattle.rules.specs.declared.TextRefusal.{TextRefusal}
use Rattle.rules.specs.declared.ImageRefusal.{ImageRefusal}
use Rattle.rules.specs.declared.DwellRefusal.{DwellRefusal}
use Rattle.rules.specs.declared.ForgetRefusal.{ForgetRefusal}
use Rattle.rules.specs.declared.SaveRefusal.{SaveRefusal}
use Rattle.rules.specs.declared.LoadRefusal.{LoadRefusal}
use Rattle.rules.specs.declared.WhyRefusal.{WhyRefusal}
use Rattle.rules.specs.declared.FormulaRefusal.{FormulaRefusal}

-- what a step decides before it writes anything: its effect, or its refusal
abbrev pub Decision : Type 0
Decision = Result Effect MachineRefusal

-- a reset's registers
abbrev pub Begun : Type 0
Begun = Result Registers MachineRefusal

-- the number of a source's instructions
abbrev pub Assembled : Type 0
Assembled = Result ℕ SourceFault

-- the length of a listing
abbrev pub Listed : Type 0
Listed = Result ℕ TextRefusal

-- the length of an image, or of a program in one
abbrev pub Packed : Type 0
Packed = Result ℕ ImageRefusal

-- tenths of a second
abbrev pub Dwell : Type 0
Dwell = Result ℕ DwellRefusal

-- the registers after a forget
abbrev pub Forgot : Type 0
Forgot = Result Registers ForgetRefusal

-- a list of depths is accepted, or not
abbrev pub Checked : Type 0
Checked = Result ⊤ DepthFault

-- the length of a saved state
abbrev pub Saved : Type 0
Saved = Result ℕ SaveRefusal

-- the registers that a load leaves
abbrev pub Resumed : Type 0
Resumed = Result Registers LoadRefusal

-- whether a load is let in, before its state is judged
abbrev pub Entry : Type 0
Entry = Result ⊤ LoadRefusal

-- the newest kept step that wrote a cell, if any
abbrev pub Why : Type 0
Why = Result (Option NamedStep) WhyRefusal

-- the program of a formula
abbrev pub Formulated : Type 0
Formulated = Result Translated FormulaRefusal

-- the 32 bits of a number operand
abbrev pub Numeral : Type 0
Numeral = Result ℕ NumeralFault

-- what the unpacker finds at one instruction
abbrev pub Decoded : Type 0
Decoded = Result Taken ImageRefusal
