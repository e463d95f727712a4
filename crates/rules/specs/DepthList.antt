-- Document 02, letter j, "A depth list with each delivered program": "a list of stack depths beside a program, for a small checker to judge". What an instruction
-- needs, how it moves SP and where it goes on are read from its row in the one table of instructions. Assumes nothing.
use Rattle.std.specs.Prelude.{ℕ, zero, suc, Bool, false, not, ◌&&◌, ◌||◌, cond, List, [], ◌∷◌, length, get_or, leb, ltb, eqb, Ok, Err}
use Prim.Native.String.{String}
use Rattle.rules.specs.Lists.{text, same, all, every}
use Rattle.rules.specs.Sizes.{max_cells, not_reached}
use Rattle.rules.specs.Tags.{int}
use Rattle.rules.specs.Cells.{cells}
use Rattle.rules.specs.Decide.{Action, enough}
use Rattle.rules.specs.Instructions.{Row, row_of, action_of}
use Rattle.rules.specs.Table.{Program, code_of, operand_of, sound_table}
use Rattle.rules.specs.declared.Registers.{Registers}
use Rattle.rules.specs.declared.Effect.{Effect}
use Rattle.rules.specs.declared.DepthRefusal.{DepthRefusal}
use Rattle.rules.specs.declared.DepthRefusal.TheVariants.{UnsoundTable, OutsideCells, ListLength, ForbiddenInstruction, RuleFailed}
use Rattle.rules.specs.Answers.{Checked}

-- ---- what the table of instructions tells of one: by its operand, its place, its depth and the bits of an INT on top

-- registers of which PC and SP alone are known
abbrev known_at : (place depth : ℕ) → Registers
known_at place depth = record { n = 0; h = 0; pc = place; sp = depth; fbr = 0; halt = 0; used = 0; kept = 0; written = 0 }

abbrev effect_at : Action → (operand place depth top : ℕ) → Effect
effect_at a v place depth top = a.effect (known_at place depth) (cells [] []) v (int 0) (int top)

-- "its depth after"
unfoldable pub depth_after : Action → (operand depth : ℕ) → ℕ
depth_after a v depth = (effect_at a v 0 depth 0).sp

-- "each place that may follow": PC after it with 0 on top, and with 1. "Both ways of JUMPC count"; of any other allowed one they are one place, twice. "STOP has no
-- follower": where it halts, there is none.
unfoldable pub followers : Action → (operand place : ℕ) → List ℕ
followers a v place =
    cond (eqb (effect_at a v place 0 0).halt 1) [] ((effect_at a v place 0 0).pc ∷ (effect_at a v place 0 1).pc ∷ [])

-- it has one of these names
abbrev pub is_named : Row → List String → Bool
is_named w [] = false
is_named w (name ∷ names) = same (text w.name) (text name) || is_named w names

-- "It applies to programs without JSR, JSRIND, JUMPIND and POPSP."
unfoldable pub forbidden : Row → Bool
forbidden w = is_named w ("JSR" ∷ "JSRIND" ∷ "JUMPIND" ∷ "POPSP" ∷ [])

unfoldable pub allowed_at : Program → (place : ℕ) → Bool
allowed_at p place = not (forbidden (row_of (code_of (get_or p.places place 0))))

-- ---- the rule of a place

-- it "has that same depth": it is a place of the program, of so many instructions, since "the program's end may never follow", and is listed with it
unfoldable pub listed : (count : ℕ) → List ℕ → (depth place : ℕ) → Bool
listed count depths depth place = ltb place count && eqb (get_or depths place not_reached) depth

-- "enough values for its instruction, its depth after is below N, and each place that may follow has that same depth"
abbrev pub rule_tests : (count n : ℕ) → List ℕ → Action → (operand place depth : ℕ) → List Bool
rule_tests count n depths a v place depth =
    enough (a.needs v) depth
    ∷ ltb (depth_after a v depth) n
    ∷ all (listed count depths (depth_after a v depth)) (followers a v place)
    ∷ []

-- "Each place has a depth or the mark "not reached"": the rule is one for "every place with a depth"
abbrev pub rule_of : (count n : ℕ) → List ℕ → (instruction place depth : ℕ) → Bool
rule_of count n depths w place depth =
    eqb depth not_reached || every (rule_tests count n depths (action_of (code_of w)) (operand_of w) place depth)

unfoldable pub rule : Program → (n : ℕ) → List ℕ → (place : ℕ) → Bool
rule p n depths place = rule_of p.count n depths (get_or p.places place 0) place (get_or depths place not_reached)

-- ---- the judgement, which writes nothing

-- the first place that fails a test, of so many from this one on; the one behind them where none does
unfoldable pub first_failing : (ℕ → Bool) → (left place : ℕ) → ℕ
first_failing test zero place = place
first_failing test (suc left) place = cond (test place) (first_failing test left (suc place)) place

abbrev pub accept_if : Bool → DepthRefusal → (place : ℕ) → Checked → Checked
accept_if test e place d = cond test d (Err (record { refusal = e; place = place }))

-- every place of the program passes the test; else a refusal "with [its] first place"
abbrev accept_each : Program → (ℕ → Bool) → DepthRefusal → Checked → Checked
accept_each p test e d = accept_if (eqb (first_failing test p.count 0) p.count) e (first_failing test p.count 0) d

-- "10, then 11 for N outside its range, 64 list not of the program's length, 65 a forbidden instruction, 66 a failed depth rule, both with their first place,
-- others tell 0": "place 0 has depth 0", and then each place's rule. "an empty program is 66 at 0": it has no place 0.
unfoldable pub check : Program → (n : ℕ) → List ℕ → Checked
check p n depths =
    accept_if (sound_table p) UnsoundTable 0
    (accept_if (leb 1 n && leb n max_cells) OutsideCells 0
    (accept_if (eqb (length depths) p.count) ListLength 0
    (accept_each p (allowed_at p) ForbiddenInstruction
    (accept_if (listed p.count depths 0 0) RuleFailed 0
    (accept_each p (rule p n depths) RuleFailed (Ok tt))))))
