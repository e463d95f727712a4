-- Request l. "Given a cell, the tool names the newest kept step which wrote it .. Under demand 3's premise the named step did write that cell and no later kept one did."
-- What is promised of the answer, beside demand 3's fresh run: which cells a step wrote is read off its effect in that run, and not off a record.
-- proofs/Wrote.antt shows it. Assumes nothing.
use Rattle.std.specs.Prelude.{ℕ, ◌+◌, ◌-◌, ◌≤◌, ◌<◌, ◌≡◌, get_or, Some, None, Ok, Err}
use Rattle.rules.specs.Table.{Program}
use Rattle.rules.specs.Cells.{cell_at}
use Rattle.rules.specs.Why.{why}
use Rattle.rules.specs.declared.Cell.{Cell}
use Rattle.rules.specs.Answers.{Decision}
use Rattle.rules.specs.declared.NamedStep.{NamedStep}
use Rattle.rules.specs.Answers.{Why}
use Rattle.rules.specs.declared.WhyRefusal.TheVariants.{NoSuchCell}
use Rattle.promises.specs.Unbounded.{Unbounded, decided, moved}
use Rattle.promises.specs.Series.{Session, ahead}

-- ---- the steps of a run, counted back

-- where a run of `far` steps from x stood before the step that is so many steps back, "newest 1"; 0 steps back is where it stands
abbrev pub stood : Program → Unbounded → (far back : ℕ) → Unbounded
stood p x far back = moved p (far - back) x

-- "what the cell held .. with its tag"
abbrev pub holding : Unbounded → (cell : ℕ) → Cell
holding y cell = cell_at y.cells (record { 0 = cell })

-- "Cells written": those of the block that a step's effect has; a step that is refused writes none
abbrev pub Writes : Decision → (cell : ℕ) → Type 0
Writes (Ok e) cell = (e.at ≤ cell) × (cell < e.at + e.count)
Writes (Err y) cell = ⊥

-- the step that is so many steps back "wrote it"
abbrev pub Wrote : Program → Unbounded → (far cell back : ℕ) → Type 0
Wrote p x far cell back = Writes (decided p (stood p x far back)) cell

-- ---- what is told of a cell, by the steps that are more than `from` and at most `upto` steps back: of a session `from` is 0, and `upto` its kept number

pub record NewestOf (p : Program) (x : Unbounded) (far from upto cell : ℕ) (a : NamedStep) : Type 0 where
  -- it is one of them
  pub above : from < a.back
  pub within : a.back ≤ upto
  -- "the named step did write that cell"
  pub wrote : Wrote p x far cell a.back
  -- "and no later kept one did"
  pub newest : (later : ℕ) → from < later → later < a.back → Wrote p x far cell later → ⊥
  -- "its PC, the instruction, and what the cell held before with its tag"
  pub pc : a.pc ≡ (stood p x far a.back).registers.pc
  pub instruction : a.instruction ≡ get_or p.places (stood p x far a.back).registers.pc 0
  pub held : a.before ≡ holding (stood p x far a.back) cell
  -- "Why does this cell hold that?": what it holds where the run stands is what that step left there
  pub holds : holding (stood p x far from) cell ≡ holding (stood p x far (a.back - 1)) cell

pub record NoneOf (p : Program) (x : Unbounded) (far from upto cell : ℕ) : Type 0 where
  -- "no kept step wrote the cell"
  pub none : (back : ℕ) → from < back → back ≤ upto → Wrote p x far cell back → ⊥
  -- it holds where the run stands what it held before them all
  pub holds : holding (stood p x far from) cell ≡ holding (stood p x far upto) cell

abbrev pub ToldOf : Program → Unbounded → (far from upto cell : ℕ) → Why → Type 0
ToldOf p x far from upto cell (Ok (Some a)) = NewestOf p x far from upto cell a
ToldOf p x far from upto cell (Ok None) = NoneOf p x far from upto cell
ToldOf p x far from upto cell (Err e) = ⊥

-- ---- what is promised of a session, beside the fresh run from x

pub record Explained (p : Program) (x : Unbounded) (s : Session) (cell : ℕ) : Type 0 where
  -- cells and tags are those where the fresh run stands, after S minus B steps
  pub cells : s.memory.cells ≡ (stood p x (ahead s) 0).cells
  -- of which no more are kept than there are
  pub kept : s.registers.kept ≤ ahead s
  -- of a cell below N one of them is named, or none
  pub told : cell < s.registers.n → ToldOf p x (ahead s) 0 s.registers.kept cell (why p cell s.registers s.memory)
  -- "6 for a cell not below N"; no other refusal is met
  pub refused : s.registers.n ≤ cell → why p cell s.registers s.memory ≡ Err NoSuchCell
