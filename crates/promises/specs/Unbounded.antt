-- Request i: "Demand 3's fresh run is now made with room for all its records, even above 8,192 (no refusal judges that room), its other sizes the same." It is made
-- by a machine that keeps its records in a list of their own, which has no end. proofs/Agrees.antt shows that it does what `step` does wherever a history has
-- room. Assumes nothing.
use Rattle.std.specs.Prelude.{ℕ, zero, suc, List, [], ◌∷◌, length, Ok, Err}
use Rattle.rules.specs.Table.{Program}
use Rattle.rules.specs.Cells.{Cells}
use Rattle.rules.specs.State.{Memory, others}
use Rattle.rules.specs.Commit.{record_of, registers_with, cells_after, output_after}
use Rattle.rules.specs.Step.{judged}
use Rattle.rules.specs.declared.Registers.{Registers}
use Rattle.rules.specs.Answers.{Decision}

-- registers, of which nobody reads H, U and the kept number; cells with their tags; the output; and the record of each step made, the newest first
pub record Unbounded : Type 0 where
  pub registers : Registers
  pub cells : Cells
  pub output : List ℕ
  pub records : List (List ℕ)

-- as it begins: no step is made
abbrev pub unmoved : Registers → Memory → Unbounded
unmoved r m = record { registers = r; cells = m.cells; output = m.output; records = [] }

-- a step that is decided, made: its record, exactly as a history would have it, is one more of the list; a refused one changes nothing
abbrev pub moves : Unbounded → Decision → Unbounded
moves x (Ok e) =
    record {
      registers = registers_with x.registers e 0 0;
      cells = cells_after x.cells e;
      output = output_after e.shows x.registers.written x.output;
      records = record_of x.registers x.cells e ∷ x.records;
    }
moves x (Err y) = x

-- what is decided: "1 to 8 in order", with 12 (02 h), of a machine whose H is 0, so that 8, "H above 0 and fewer than .. places free", is never given. 10 is not
-- asked: in a state that a series reaches it is not given (specs/Series.antt)
abbrev pub decided : Program → Unbounded → Decision
decided p x = judged p (others x.registers) x.cells (length x.output)

-- so many steps, one after the other
abbrev pub moved : Program → ℕ → Unbounded → Unbounded
moved p zero x = x
moved p (suc k) x = let y = moved p k x in moves y (decided p y)
