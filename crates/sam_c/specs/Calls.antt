-- The calls for C: the number that each gives, what it tells, and what it leaves in every slice lent to be written, by the rules' definitions alone.
-- Assumes nothing.
use Rattle.std.specs.Prelude.{ℕ, Bool, true, false, cond, List, [], ◌∷◌, length, get_or, leb, eqb, Ok, Err}
use Rattle.rules.specs.Lists.{every}
use Rattle.rules.specs.Sizes.{max_program, max_limit, listing_size, image_size, state_size}
use Rattle.rules.specs.Table.{Program}
use Rattle.rules.specs.State.{Memory}
use Rattle.rules.specs.Outputs.{blanked}
use Rattle.rules.specs.Assemble.{Assembly, assemble}
use Rattle.rules.specs.Listing.{Written, list}
use Rattle.rules.specs.Image.{Filed, pack, unpack}
use Rattle.rules.specs.Translate.{Translation, translate}
use Rattle.rules.specs.Reset.{Started, registers_begun, size_tests, reset}
use Rattle.rules.specs.Step.{Stepped, step}
use Rattle.rules.specs.Back.{back}
use Rattle.rules.specs.Run.{Ran, run}
use Rattle.rules.specs.Forget.{Forgets, forget}
use Rattle.rules.specs.Dwell.{dwell}
use Rattle.rules.specs.Why.{why}
use Rattle.rules.specs.DepthList.{check}
use Rattle.rules.specs.SavedState.{Saving, save, entry, Loading, registers_resumed, load}
use Rattle.rules.specs.Numbers.{machine_number, text_number, number_of_assembled, length_of_assembled, position_of_assembled, number_of_listed, length_of_listed, number_of_packed, length_of_packed, number_of_reset, number_of_step, registers_after, number_of_ending, number_of_dwell, tenths_of_dwell, number_of_forgot, registers_forgot, number_of_checked, place_of_checked, number_of_saved, length_of_saved, load_number, number_of_load, number_of_why, found_of_why, no_step, step_of_why, number_of_translated, length_of_translated, depth_of_translated}
use Rattle.rules.specs.declared.Position.{Position}
use Rattle.rules.specs.declared.Registers.{Registers}
use Rattle.rules.specs.Answers.{Dwell, Checked, Entry, Why}
use Rattle.rules.specs.declared.NamedStep.{NamedStep}
use Rattle.rules.specs.declared.MachineRefusal.TheVariants.{Broken, OutsideSizes}
use Rattle.rules.specs.declared.TextRefusal.TheVariants.{WrongLength}

-- ---- what a call gives and leaves

-- of a call that fills an output: its number, what it tells, and the output
pub record Filled : Type 0 where
  pub number : ℕ
  pub told : List ℕ
  pub output : List ℕ

abbrev pub filled : ℕ → List ℕ → List ℕ → Filled
filled k told output = record { number = k; told = told; output = output }

-- of a call on a machine: its number, the registers, and cells, history and output
pub record Moved : Type 0 where
  pub number : ℕ
  pub registers : List ℕ
  pub memory : Memory

abbrev pub moved : ℕ → List ℕ → Memory → Moved
moved k registers m = record { number = k; registers = registers; memory = m }

-- of a run: the same, and what it tells
pub record Walked : Type 0 where
  pub told : List ℕ
  pub moved : Moved

abbrev pub walked : List ℕ → ℕ → List ℕ → Memory → Walked
walked told k registers m = record { told = told; moved = moved k registers m }

-- of a call that only reads: its number, and what it tells
pub record Answered : Type 0 where
  pub number : ℕ
  pub told : List ℕ

abbrev pub answered : ℕ → List ℕ → Answered
answered k told = record { number = k; told = told }

-- ---- lent slices of one length

-- the call where the list has its length n, and else what is answered instead
unfoldable pub of_length : {A : Type 0} → ℕ → List ℕ → A → A → A
of_length n l call instead = cond (eqb (length l) n) call instead

-- "31: lent output not of its exact length", which what a call tells is lent too: so it comes first
abbrev pub not_its_length : ℕ
not_its_length = text_number WrongLength

-- "10: broken state or table"
abbrev pub broken : ℕ
broken = machine_number Broken

-- "Run: 11, then 10." "Reset: 11 before 10.": registers of another length are a 10 in 10's place, where nothing is outside its sizes
abbrev pub not_registers : (sized : Bool) → ℕ
not_registers true = broken
not_registers false = machine_number OutsideSizes

-- "Refusals for save: 31, then 10." (02 k): so they are of a save into an image of so many bytes
unfoldable pub not_registers_saved : (image : ℕ) → ℕ
not_registers_saved image = cond (eqb image state_size) broken not_its_length

-- "For load, in this order: 41 ..; 67 ..; 10 .." (02 k): and of a load that is refused with one of the first two, or not
abbrev pub not_registers_loaded : Entry → ℕ
not_registers_loaded (Ok x) = broken
not_registers_loaded (Err e) = load_number e

-- how many registers there are
abbrev pub register_count : ℕ
register_count = 9

-- the registers as a list, and a list of so many as registers
abbrev pub list_of : Registers → List ℕ
list_of r = r.n ∷ r.h ∷ r.pc ∷ r.sp ∷ r.fbr ∷ r.halt ∷ r.used ∷ r.kept ∷ r.written ∷ []

abbrev pub registers_of : List ℕ → Registers
registers_of l =
    record {
      n = get_or l 0 0;
      h = get_or l 1 0;
      pc = get_or l 2 0;
      sp = get_or l 3 0;
      fbr = get_or l 4 0;
      halt = get_or l 5 0;
      used = get_or l 6 0;
      kept = get_or l 7 0;
      written = get_or l 8 0;
    }

-- ---- the calls that fill an output: "Refused writers leave an output of wrong length untouched, zero one of right length", refused for what they tell too

-- a writer that was not lent what it tells, with an output of that size
abbrev pub untold : (size : ℕ) → List ℕ → List ℕ → Filled
untold size told output = filled not_its_length told (blanked size output)

-- a length, and the position of a refusal
abbrev pub placed : ℕ → Position → List ℕ
placed n p = n ∷ p.place ∷ p.line ∷ p.column ∷ []

abbrev pub assemble_filled : Assembly → Filled
assemble_filled a =
    filled (number_of_assembled a.answer) (placed (length_of_assembled a.answer) (position_of_assembled a.answer)) a.table

abbrev pub assemble_call : List ℕ → List ℕ → List ℕ → Filled
assemble_call source table told = of_length 4 told (assemble_filled (assemble source table)) (untold max_program told table)

abbrev pub list_filled : Written → Filled
list_filled w = filled (number_of_listed w.answer) (length_of_listed w.answer ∷ []) w.bytes

abbrev pub list_call : Program → List ℕ → List ℕ → Filled
list_call p text told = of_length 1 told (list_filled (list p text)) (untold listing_size told text)

abbrev pub pack_filled : Filed → Filled
pack_filled f = filled (number_of_packed f.answer) (length_of_packed f.answer ∷ []) f.output

abbrev pub pack_call : Program → List ℕ → List ℕ → Filled
pack_call p image told = of_length 1 told (pack_filled (pack p image)) (untold image_size told image)

abbrev pub unpack_call : List ℕ → List ℕ → List ℕ → Filled
unpack_call image table told = of_length 1 told (pack_filled (unpack image table)) (untold max_program told table)

abbrev pub translate_filled : Translation → Filled
translate_filled a = filled (number_of_translated a.answer) (length_of_translated a.answer ∷ depth_of_translated a.answer ∷ []) a.table

abbrev pub translate_call : List ℕ → List ℕ → List ℕ → Filled
translate_call formula table told = of_length 2 told (translate_filled (translate formula table)) (untold max_program told table)

-- ---- the calls on a machine

-- "A refused reset returns zero registers.", where there are nine
abbrev pub reset_moved : Started → Moved
reset_moved s = moved (number_of_reset s.answer) (list_of (registers_begun s.answer)) s.memory

abbrev pub reset_call : Program → List ℕ → Memory → Moved
reset_call p registers m =
    of_length register_count registers (reset_moved (reset p m)) (moved (not_registers (every (size_tests m))) registers m)

-- "A refused step, step-back .. changes nothing": r are the registers before
abbrev pub step_moved : Registers → Stepped → Moved
step_moved r s = moved (number_of_step s.answer) (list_of (registers_after r s.answer)) s.memory

abbrev pub step_call : Program → List ℕ → Memory → Moved
step_call p registers m =
    of_length register_count registers (step_moved (registers_of registers) (step p (registers_of registers) m)) (moved broken registers m)

abbrev pub back_call : Program → List ℕ → Memory → Moved
back_call p registers m =
    of_length register_count registers (step_moved (registers_of registers) (back p (registers_of registers) m)) (moved broken registers m)

-- "a refusal changes nothing" (02 i)
abbrev pub forget_moved : Registers → Forgets → Moved
forget_moved r f = moved (number_of_forgot f.answer) (list_of (registers_forgot r f.answer)) f.memory

abbrev pub forget_call : Program → ℕ → List ℕ → Memory → Moved
forget_call p k registers m =
    of_length register_count registers (forget_moved (registers_of registers) (forget p k (registers_of registers) m)) (moved broken registers m)

-- "It also tells the number of steps it made."
abbrev pub run_walked : Ran → Walked
run_walked r =
    walked (r.answer.steps ∷ []) (number_of_ending r.answer.ending) (list_of r.answer.registers) r.memory

abbrev pub run_call : Program → ℕ → List ℕ → Memory → List ℕ → Walked
run_call p limit registers m told =
    of_length 1 told
    (of_length register_count registers (run_walked (run p limit (registers_of registers) m))
    (walked (0 ∷ []) (not_registers (leb limit max_limit)) registers m))
    (walked told not_its_length registers m)

-- "A refused load does as a refused reset." (02 k)
abbrev pub load_moved : Loading → Moved
load_moved o = moved (number_of_load o.answer) (list_of (registers_resumed o.answer)) o.memory

abbrev pub load_call : (image : List ℕ) → Program → List ℕ → Memory → Moved
load_call image p registers m =
    let first = entry image (length m.cells.bits) (length m.cells.tags) (length m.history) (length m.output) in
    of_length register_count registers (load_moved (load image p m)) (moved (not_registers_loaded first) registers m)

-- ---- the calls that only read a machine

-- "each returns 0 tenths" (02 f), registers of another length too
abbrev pub tenths_told : Dwell → List ℕ
tenths_told d = tenths_of_dwell d ∷ []

abbrev pub dwell_call : Program → List ℕ → Memory → List ℕ → Answered
dwell_call p registers m told =
    let d = dwell p (registers_of registers) m in
    of_length 1 told
    (of_length register_count registers (answered (number_of_dwell d) (tenths_told d)) (answered broken (0 ∷ [])))
    (answered not_its_length told)

-- 1 where a step is named, else 0; and "how many steps back (newest 1), its PC, the instruction, and what the cell held before with its tag" (02 l)
abbrev pub named : ℕ → NamedStep → List ℕ
named found s = found ∷ s.back ∷ s.pc ∷ s.instruction ∷ s.before.tag ∷ s.before.bits ∷ []

abbrev pub why_told : Why → List ℕ
why_told w = named (found_of_why w) (step_of_why w)

-- "a refusal tells zeros" (02 l), registers of another length too
abbrev pub why_call : Program → (cell : ℕ) → List ℕ → Memory → List ℕ → Answered
why_call p cell registers m told =
    let w = why p cell (registers_of registers) m in
    of_length 6 told
    (of_length register_count registers (answered (number_of_why w) (why_told w)) (answered broken (named 0 no_step)))
    (answered not_its_length told)

-- the save fills an output besides: with registers of another length it tells 0, as every refused writer does
abbrev pub save_filled : Saving → Filled
save_filled o = filled (number_of_saved o.answer) (length_of_saved o.answer ∷ []) o.image

abbrev pub save_call : Program → List ℕ → Memory → List ℕ → List ℕ → Filled
save_call p registers m image told =
    of_length 1 told
    (of_length register_count registers (save_filled (save p (registers_of registers) m image))
    (filled (not_registers_saved (length image)) (0 ∷ []) (blanked state_size image)))
    (untold state_size told image)

-- ---- the call that only reads a program and its depth list

-- "both with their first place, others tell 0" (02 j)
abbrev pub depths_answered : Checked → Answered
depths_answered d = answered (number_of_checked d) (place_of_checked d ∷ [])

abbrev pub depths_call : Program → (n : ℕ) → List ℕ → List ℕ → Answered
depths_call p n depths told = of_length 1 told (depths_answered (check p n depths)) (answered not_its_length told)
