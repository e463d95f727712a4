-- Demand 3 in its own words, for series in which nothing is forgotten: "registers, cells, tags and history equal those of a fresh reset of the same sizes followed by S
-- minus B steps under demand 2", or "a fresh load in place of a fresh reset" (02 k). proofs/Whole.antt shows it. Assumes nothing.
use Rattle.std.specs.Prelude.{◌≤◌, ◌≡◌, ◌||◌, cond, List, [], ◌∷◌, ltb, eqb}
use Rattle.rules.specs.Table.{Program}
use Rattle.rules.specs.Numbers.{machine_number, number_of_step}
use Rattle.rules.specs.Back as Back
use Rattle.rules.specs.declared.MachineRefusal.TheVariants.{NoHistory}
use Rattle.promises.specs.Series.{Request, step, run, back, forget, State, Session, afresh, ahead}

-- "any series of steps, limited runs and step-backs"
abbrev pub NoForgets : List Request → Type 0
NoForgets [] = Unit {0}
NoForgets (step ∷ qs) = NoForgets qs
NoForgets (run limit ∷ qs) = NoForgets qs
NoForgets (back ∷ qs) = NoForgets qs
NoForgets (forget k ∷ qs) = ⊥

-- what is promised of a session s, beside the steps from a fresh reset or load of the same sizes, which leaves o
pub record Whole (p : Program) (o : State) (s : Session) : Type 0 where
  -- no more is taken back than was made
  pub within : s.undone ≤ s.made
  -- "registers, cells, tags and history equal those of a fresh reset .. followed by S minus B steps", and so do "output bytes and their count" (02 h)
  pub registers : s.registers ≡ (afresh p o (ahead s)).registers
  pub memory : s.memory ≡ (afresh p o (ahead s)).memory
  -- each of which is accepted
  pub steps : (afresh p o (ahead s)).made ≡ ahead s
  -- "With history room above zero, a step-back is refused exactly when S equals B; with none, always.": with 9; else it is done, with 0
  pub refused : number_of_step (Back.back p s.registers s.memory).answer
      ≡ cond (eqb s.registers.h 0 || eqb s.made s.undone) (machine_number NoHistory) 0
  -- request g: "With H above 0 it equals S minus B; with H = 0 it is 0."
  pub kept : s.registers.kept ≡ cond (ltb 0 s.registers.h) (ahead s) 0
