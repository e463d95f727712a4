-- An effect carried out, with 8 asked of it, and what a step leaves of the output, which only the way of WRITECH takes. Assumes nothing.
use Rattle.std.specs.Prelude.{ℕ, List, set, Option, Some, None, Ok}
use Rattle.rules.specs.State.{Memory}
use Rattle.rules.specs.Step.{Stepped, in_history, carried}
use Rattle.rules.specs.declared.Registers.{Registers}
use Rattle.rules.specs.declared.Effect.{Effect}
use Rattle.rules.specs.declared.Step.{Step}
use Rattle.rules.specs.declared.Step.TheVariants.{Next, Refused}

-- an effect carried out, where there is room for its record
abbrev pub committed : Registers → Memory → Effect → Stepped
committed r m e = carried r m (in_history r (Ok e))

-- the output after a step that shows this and answers so: as it was, where it shows nothing, whatever the answer
abbrev pub output_by : Option ℕ → Step → ℕ → List ℕ → List ℕ
output_by None a w o = o
output_by (Some b) (Next r) w o = set o w b
output_by (Some b) (Refused x) w o = o
