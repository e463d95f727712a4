-- Request m: "With those cells in place below SP, FBR, PC and HALT 0, room and limit enough, a plain run leaves the formula's number on top and all eight cells as
-- they were, with arithmetic as in document 01; it meets 5 exactly when the formula divides by zero. .. The depth told with it is the most values it ever holds above
-- the SP it began with." What is promised of every formula that is translated; proofs/Formulas.antt shows it. Assumes nothing.
use Rattle.std.specs.Prelude.{ℕ, ◌+◌, ◌-◌, ◌*◌, ◌^◌, ◌≤◌, ◌<◌, max, ◌≡◌, true, ◌⊎◌, List, [], ◌∷◌, length, get_or, take}
use Rattle.rules.specs.Sizes.{max_history, max_limit, name_cells}
use Rattle.rules.specs.Tags.{INT, int}
use Rattle.rules.specs.Instructions.{action_of}
use Rattle.rules.specs.Table.{Program, program, code_of, operand_of, sound_table}
use Rattle.rules.specs.Cells.{cell_at}
use Rattle.rules.specs.State.{Memory, sound}
use Rattle.rules.specs.Run.{Ran}
use Rattle.rules.specs.Run as Run
use Rattle.rules.specs.Numbers.{number_of_ending}
use Rattle.rules.specs.DepthList.{depth_after}
use Rattle.rules.specs.Grammar.{Tree, formula, parse}
use Rattle.rules.specs.Evaluate.{Value, value, no_value, worth}
use Rattle.rules.specs.Translate.{cost, depth}
use Rattle.promises.specs.Series.{State, afresh, left_by_run}

-- ---- where the program may be run

-- the word of a name, a to h as 0 to 7: "Names are read by PUSHOFF 0 to 7 from eight INT cells."
abbrev pub names_in : Memory → (name : ℕ) → ℕ
names_in m k = get_or m.cells.bits k 0

-- of a program with that depth told, and a state with any output and any bytes written
pub record Ready (p : Program) (deep : ℕ) (s : State) : Type 0 where
  -- not 10
  pub healthy : sound p s.registers s.memory ≡ true
  -- "FBR, PC and HALT 0"
  pub fbr : s.registers.fbr ≡ 0
  pub pc : s.registers.pc ≡ 0
  pub halt : s.registers.halt ≡ 0
  -- "eight INT cells", "in place below SP"
  pub below : name_cells ≤ s.registers.sp
  pub ints : (k : ℕ) → k < name_cells → get_or s.memory.cells.tags k 0 ≡ INT
  -- each of 32 bits, as the lent slice has them by its type: 10 does not ask it of an INT
  pub words : (k : ℕ) → k < name_cells → names_in s.memory k < 2 ^ 32
  -- "room .. enough": for the told depth; and, where there is a history, for the records of all the steps, which are two places for each instruction but one for STOP
  pub room : s.registers.sp + deep < s.registers.n
  pub history : (s.registers.h ≡ 0) ⊎ (2 * p.count - 1 ≤ s.registers.h - s.registers.used)

-- ---- what a run of it leaves

-- "all eight cells as they were", and so every cell below an address, its bits and its tag; and a formula writes no output
pub record Untouched (low : ℕ) (s s' : State) : Type 0 where
  pub cells : (k : ℕ) → k < low → cell_at s'.memory.cells (record { 0 = k }) ≡ cell_at s.memory.cells (record { 0 = k })
  pub output : s'.memory.output ≡ s.memory.output
  pub written : s'.registers.written ≡ s.registers.written

-- "leaves the formula's number on top", as an INT, by one step for each instruction
pub record Leaves (p : Program) (v : ℕ) (s : State) (a : Ran) : Type 0 where
  pub number : number_of_ending a.answer.ending ≡ 0
  pub steps : a.answer.steps ≡ p.count
  pub sp : a.answer.registers.sp ≡ s.registers.sp + 1
  pub top : cell_at a.memory.cells (record { 0 = s.registers.sp }) ≡ int v
  pub rest : Untouched s.registers.sp s (left_by_run a)

-- "it meets 5"
pub record MeetsFive (s : State) (a : Ran) : Type 0 where
  pub number : number_of_ending a.answer.ending ≡ 5
  pub rest : Untouched s.registers.sp s (left_by_run a)

-- "exactly when the formula divides by zero": then it has no value, and in no other case
abbrev pub Ends : Program → Value → State → Ran → Type 0
Ends p (value v) s a = Leaves p v s a
Ends p no_value s a = MeetsFive s a

-- ---- the values that it holds

-- SP after an instruction, by its row in the table of instructions
abbrev pub sp_behind : (instruction sp : ℕ) → ℕ
sp_behind w sp = depth_after (action_of (code_of w)) (operand_of w) sp

-- the highest SP of all, over instructions one after the other, from that SP on
unfoldable pub most_held : (sp : ℕ) → List ℕ → ℕ
most_held sp [] = sp
most_held sp (w ∷ ws) = max sp (most_held (sp_behind w sp) ws)

-- SP after so many steps, one after the other; one that is refused changes nothing
abbrev pub sp_after : Program → State → (steps : ℕ) → ℕ
sp_after p s k = (afresh p s k).registers.sp

-- "the most values it ever holds above the SP it began with": never more; and as many, where nothing divides by zero
pub record Deepest (p : Program) (deep : ℕ) (x : Value) (s : State) : Type 0 where
  pub never : (k : ℕ) → sp_after p s k ≤ s.registers.sp + deep
  pub reached : (v : ℕ) → x ≡ value v → (k : ℕ) × (sp_after p s k ≡ s.registers.sp + deep)

-- ---- what is promised of a formula, the table that its translation leaves, and the length and the depth that are told

pub record WorkedOut (source table : List ℕ) (count deep : ℕ) : Type 0 where
  pub tree : Tree
  pub parsed : parse source ≡ formula tree
  -- "Each number, name and two-sided operator costs one instruction, unary minus two .., STOP one."
  pub costs : count ≡ cost tree + 1
  pub depths : deep ≡ depth tree
  -- the depth is that of the code as it stands, whether a division stops it earlier or not
  pub held : (sp : ℕ) → most_held sp (take count table) ≡ sp + deep
  -- no state is 10 for its table
  pub healthy : sound_table (program table count) ≡ true
  -- "With those cells in place .., room and limit enough"
  pub runs : (limit : ℕ) (s : State) → Ready (program table count) deep s → count ≤ limit → limit ≤ max_limit
      → Ends (program table count) (worth (names_in s.memory) tree) s (Run.run (program table count) limit s.registers s.memory)
  pub holds : (s : State) → Ready (program table count) deep s → Deepest (program table count) deep (worth (names_in s.memory) tree) s
  -- there is such a state, whatever the eight words are, without a history and with one of every length that has room enough
  pub somewhere : (words : List ℕ) → length words ≡ name_cells → ((k : ℕ) → k < name_cells → get_or words k 0 < 2 ^ 32)
      → (h : ℕ) → (h ≡ 0) ⊎ (2 * count - 1 ≤ h) → h ≤ max_history
      → (s : State) × Ready (program table count) deep s × ((k : ℕ) → k < name_cells → names_in s.memory k ≡ get_or words k 0) × (s.registers.h ≡ h)
