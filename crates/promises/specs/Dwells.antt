-- Request f: "A dwell reader for the door board." What is promised of the dwell to whoever answers for the doors: which tenths a FLOAT is, between which ends a
-- dwell lies, and that what was tried and taken back leaves it alone. proofs/Tenths.antt and proofs/Dwells.antt show it. Assumes nothing.
use Rattle.std.specs.Prelude.{ℕ, ◌≤◌, ◌≡◌, List, ℤ, pos, ◌*ℤ◌, ◌≤ℤ◌, Ok, Err}
use Rattle.rules.specs.Exact.{scale, exact}
use Rattle.rules.specs.Table.{Program}
use Rattle.rules.specs.Dwell.{dwell}
use Rattle.rules.specs.Answers.{Dwell}
use Rattle.promises.specs.Unbounded.{Unbounded}
use Rattle.promises.specs.Series.{Request, Session, plain, series, from_here, fresh_run}

-- ---- the tenths

-- "the largest whole tenth not above the exact ten times that number": of finite bits b, whose value is exact b / scale seconds, both sides times the scale
pub record LargestTenth (b : ℕ) (t : ℤ) : Type 0 where
  pub not_above : (t *ℤ pos scale) ≤ℤ (pos 10 *ℤ exact b)
  pub largest : (w : ℤ) → (w *ℤ pos scale) ≤ℤ (pos 10 *ℤ exact b) → w ≤ℤ t

-- "held between 10 and 300 tenths": a dwell that is read is 1 second at least and 30 at most; of a refusal nothing is said
abbrev pub Held : Dwell → Type 0
Held (Ok t) = (10 ≤ t) × (t ≤ 300)
Held (Err e) = Unit {0}

-- ---- what is read in a session

-- tenths or a refusal, as the door board reads it there
abbrev pub read_in : Program → Session → Dwell
read_in p s = dwell p s.registers s.memory

-- of a machine of no history, as the fresh run leaves it
abbrev pub read_off : Program → Unbounded → Dwell
read_off p x = dwell p (plain x).registers (plain x).memory

-- the dwell, or its refusal, is the one read after the fresh run of S minus B steps
abbrev pub ReadAfresh : Program → Unbounded → Session → Type 0
ReadAfresh p x s = read_in p s ≡ read_off p (fresh_run p x s)

-- of the trial's requests as many step-backs as steps are accepted, counted from where it begins
abbrev pub Even : Program → Session → List Request → Type 0
Even p s trial = (series p trial (from_here s)).made ≡ (series p trial (from_here s)).undone

-- after the trial what is read, tenths or a refusal, is what was read before it
abbrev pub ReadAlike : Program → Session → List Request → Type 0
ReadAlike p s trial = read_in p (series p trial s) ≡ read_in p s

-- the same, and nothing is forgotten
abbrev pub TakenBack : Program → Session → List Request → Type 0
TakenBack p s trial = Even p s trial × ((series p trial (from_here s)).forgotten ≡ 0)

-- after the trial everything is as it was before it, and so is what is read: tenths or a refusal
pub record LeftAlone (p : Program) (s : Session) (trial : List Request) : Type 0 where
  pub registers : (series p trial s).registers ≡ s.registers
  pub memory : (series p trial s).memory ≡ s.memory
  pub dwell : ReadAlike p s trial
