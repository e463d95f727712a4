-- Request j. "Accept exactly if place 0 has depth 0, every place with a depth has enough values for its instruction, its depth after is below N, and each place that
-- may follow has that same depth." "From a reset, no run of an accepted program meets 2, 3 or 7. Each place such a run reaches has SP as its listed depth." Here is what
-- is promised of a list and of a session; proofs/Acceptable.antt, proofs/Told.antt and proofs/Delivered.antt show it. Assumes nothing.
use Rattle.std.specs.Prelude.{ℕ, ◌≤◌, ◌<◌, ◌≡◌, Bool, true, false, ◌||◌, ◌⊎◌, List, [], ◌∷◌, length, get_or, replicate, eqb}
use Rattle.rules.specs.Sizes.{max_cells, not_reached}
use Rattle.rules.specs.Decide.{Action}
use Rattle.rules.specs.Instructions.{row_of, action_of}
use Rattle.rules.specs.Table.{Program, code_of, operand_of, sound_table}
use Rattle.rules.specs.Numbers.{machine_number, number_of_step, number_of_ending}
use Rattle.rules.specs.Step as Step
use Rattle.rules.specs.Run as Run
use Rattle.rules.specs.DepthList.{depth_after, followers, forbidden}
use Rattle.rules.specs.declared.Registers.{Registers}
use Rattle.rules.specs.declared.MachineRefusal.TheVariants.{AtEnd, TooFewValues, StackFull}
use Rattle.promises.specs.Each.{Each}
use Rattle.promises.specs.Series.{State, Session, state_of, series, step as oneStep}

-- ---- a list that is accepted

-- the depth of a place, or the mark
abbrev pub depth_at : List ℕ → (place : ℕ) → ℕ
depth_at depths place = get_or depths place not_reached

-- "the program's end may never follow": it is no place
pub record HasDepth (p : Program) (depths : List ℕ) (depth place : ℕ) : Type 0 where
  pub inside : place < p.count
  pub listed : depth_at depths place ≡ depth

-- the instruction at a place, what it does and its operand
abbrev pub instruction_at : Program → (place : ℕ) → ℕ
instruction_at p place = get_or p.places place 0

abbrev pub action_at : Program → (place : ℕ) → Action
action_at p place = action_of (code_of (instruction_at p place))

abbrev pub operand_at : Program → (place : ℕ) → ℕ
operand_at p place = operand_of (instruction_at p place)

-- "programs without JSR, JSRIND, JUMPIND and POPSP"
abbrev pub AllowedAt : Program → (place : ℕ) → Type 0
AllowedAt p place = forbidden (row_of (code_of (instruction_at p place))) ≡ false

-- the rule of a place with that depth
pub record OwnRule (p : Program) (n : ℕ) (depths : List ℕ) (place depth : ℕ) : Type 0 where
  -- "has enough values for its instruction"
  pub enough : (action_at p place).needs (operand_at p place) ≤ depth
  -- "its depth after is below N"
  pub low : depth_after (action_at p place) (operand_at p place) depth < n
  -- "and each place that may follow has that same depth"
  pub follow : Each (HasDepth p depths (depth_after (action_at p place) (operand_at p place) depth)) (followers (action_at p place) (operand_at p place) place)

-- "every place with a depth"
abbrev pub RuleAt : Program → (n : ℕ) → List ℕ → (place : ℕ) → Type 0
RuleAt p n depths place = (depth_at depths place ≡ not_reached → ⊥) → OwnRule p n depths place (depth_at depths place)

pub record Acceptable (p : Program) (n : ℕ) (depths : List ℕ) : Type 0 where
  -- not 10, 11 or 64
  pub table : sound_table p ≡ true
  pub some : 1 ≤ n
  pub few : n ≤ max_cells
  pub long : length depths ≡ p.count
  -- not 65
  pub allows : (place : ℕ) → place < p.count → AllowedAt p place
  -- "place 0 has depth 0"
  pub start : HasDepth p depths 0 0
  pub rules : (place : ℕ) → place < p.count → RuleAt p n depths place

-- "both with their first place": the first of the program's at which it does not hold
pub record FirstNot (p : Program) (Holds : (place : ℕ) → Type 0) (place : ℕ) : Type 0 where
  pub inside : place < p.count
  pub fails : Holds place → ⊥
  pub before : (k : ℕ) → k < place → Holds k

-- ---- what the table of instructions tells of a step

abbrev pub Among : ℕ → List ℕ → Type 0
Among x [] = ⊥
Among x (y ∷ ys) = (x ≡ y) ⊎ Among x ys

-- of an accepted step of the instruction at PC, from these registers to those
pub record StepTold (p : Program) (r r' : Registers) : Type 0 where
  -- it had as many values as it needs
  pub needs : (action_at p r.pc).needs (operand_at p r.pc) ≤ r.sp
  pub sp : r'.sp ≡ depth_after (action_at p r.pc) (operand_at p r.pc) r.sp
  -- it halted, where it stood; or PC is one of the places that may follow
  pub goes : ((r'.halt ≡ 1) × (r'.pc ≡ r.pc) × (r'.sp ≡ r.sp)) ⊎ Among r'.pc (followers (action_at p r.pc) (operand_at p r.pc) r.pc)

-- ---- a session of a program whose list is accepted

-- "Each place such a run reaches has SP as its listed depth", which is a depth and not the mark
pub record Reached (p : Program) (depths : List ℕ) (s : State) : Type 0 where
  pub place : HasDepth p depths s.registers.sp s.registers.pc
  pub reached : depth_at depths s.registers.pc ≡ not_reached → ⊥

-- "meets 2, 3 or 7"
abbrev pub meets : (number : ℕ) → Bool
meets k = eqb k (machine_number AtEnd) || (eqb k (machine_number TooFewValues) || eqb k (machine_number StackFull))

-- what is promised of a session s
pub record AsListed (p : Program) (depths : List ℕ) (s : Session) : Type 0 where
  -- where it stands
  pub here : Reached p depths (state_of s)
  -- the next step, and a run of any limit, does not meet 2, 3 or 7
  pub step : meets (number_of_step (Step.step p s.registers s.memory).answer) ≡ false
  pub run : (limit : ℕ) → meets (number_of_ending (Run.run p limit s.registers s.memory).answer.ending) ≡ false
  -- and so it stands after any further steps, one after the other: at every state that a run passes through, since a run is its steps (proofs/Runs.antt)
  pub passes : (k : ℕ) → Reached p depths (state_of (series p (replicate k oneStep) s))
