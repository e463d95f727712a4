-- A step keeps every cell at 32 bits: each word that an instruction makes of words is below 2 ^ 32. Assumes nothing.
use Rattle.std.specs.Prelude.{Ok}
use Prim.Native.Nat.{ℕ, ◌+◌, ◌-◌, ◌*◌, ◌%◌, ◌^◌, ◌<◌}
use mathlib.Core.Path.{◌≡◌, refl, subst}
use mathlib.Core.Bool.{Bool, true, false, not, ◌&&◌, ◌||◌}
use mathlib.Core.List.{List}
use native.Mathlib.Nat.{mod-lt}
use native.Mathlib.Omega.{arith}
use lib.Dec.{T, lit<}
use lib.IntN.{ℤ, pos, negsuc, nat_abs, ◌+ℤ◌, ◌-ℤ◌}
use lib.ListN.{length, get_or}
use lib.Signed.{lt_z, quot_z, rem_z}
use lib.Bits.{bit_and, bit_or, and_lt, or_lt, xor_lt}
use lib.Ieee.{Float, Format, binary32, of_bits, add, sub, mul, div, fits, lt}
use lib.Ieee.Bits.{to_bits-lt}
use lib.Ieee.Fits.{round-fits, add-fits, sub-fits, mul-fits, div-fits}
use Rattle.rules.specs.Words.{signed, word, times, quotient, remainder, bit, holds, logic, nand, nor, unlike, bit_not, bit_nand, bit_nor, less, sense, ordered}
use Rattle.rules.specs.Floats.{rounded, plus_f, minus_f, times_f, quotient_f, ordered_f, nearest_f, int_to_f, cut}
use Rattle.rules.specs.Instructions.{Row, rows, action_of}
use Rattle.rules.specs.Table.{Program, code_of, operand_of}
use Rattle.rules.specs.Cells.{cell_at}
use Rattle.rules.specs.State.{Memory, sound}
use Rattle.rules.specs.Decide.{decide}
use Rattle.rules.specs.Actions.{agree, nil}
use Rattle.rules.specs.Commit.{block, memory_of}
use Rattle.rules.specs.Step.{decide_at, judged}
use Rattle.rules.specs.declared.Cell.{Cell}
use Rattle.rules.specs.declared.Registers.{Registers}
use Rattle.rules.specs.declared.Effect.{Effect}
use Rattle.rules.proofs.Fair.{Sound, Going, Narrow}
use Rattle.rules.proofs.FairEffects.{values_does, sound_facts, judged_going, going_below}
use Rattle.rules.proofs.Rows.{EachRow, end, ◌then◌, at_code}
use Rattle.rules.proofs.Table.{table_short}
use Rattle.rules.proofs.Sound.{each_splice, each_block, length_block}

-- ---- the operations on words

-- of one word and of two
abbrev pub Word : (ℕ → ℕ) → Type 0
Word f = (t : ℕ) → t < 2 ^ 32 → f t < 2 ^ 32

abbrev pub Words : (ℕ → ℕ → ℕ) → Type 0
Words f = (b t : ℕ) → b < 2 ^ 32 → t < 2 ^ 32 → f b t < 2 ^ 32

modulo_lt : (n : ℕ) → n % 2 ^ 32 < 2 ^ 32
modulo_lt n = mod-lt n (lit< tt)

pub word_lt : (z : ℤ) → word z < 2 ^ 32
word_lt (pos n) = modulo_lt n
word_lt (negsuc n) = omega arith

bit_lt : (x : Bool) → bit x < 2 ^ 32
bit_lt true = lit< tt
bit_lt false = lit< tt

sense_lt : (x y : Bool) → sense x y < 2 ^ 32
sense_lt true y = lit< tt
sense_lt false true = lit< tt
sense_lt false false = lit< tt

times_lt : Words times
times_lt b t hb ht = modulo_lt (b * t)

quotient_lt : Words quotient
quotient_lt b t hb ht = word_lt (quot_z (signed b) (signed t))

remainder_lt : Words remainder
remainder_lt b t hb ht = word_lt (rem_z (signed b) (signed t))

logic_lt : (f : Bool → Bool → Bool) → Words (logic f)
logic_lt f b t hb ht = bit_lt (f (holds b) (holds t))

falsity_lt : Word (λ t. bit (not (holds t)))
falsity_lt t h = bit_lt (not (holds t))

not_lt : Word bit_not
not_lt t h = omega arith

nand_lt : Words bit_nand
nand_lt b t hb ht = not_lt (bit_and b t) (and_lt 32 b t hb ht)

nor_lt : Words bit_nor
nor_lt b t hb ht = not_lt (bit_or b t) (or_lt 32 b t hb ht)

ordered_lt : Words ordered
ordered_lt b t hb ht = sense_lt (less b t) (less t b)

greater_lt : Words (λ b t. bit (less t b))
greater_lt b t hb ht = bit_lt (less t b)

less_lt : Words (λ b t. bit (less b t))
less_lt b t hb ht = bit_lt (less b t)

above_lt : Word (λ t. bit (less 0 t))
above_lt t h = bit_lt (less 0 t)

below_lt : Word (λ t. bit (less t 0))
below_lt t h = bit_lt (less t 0)

-- a float's pattern, where the operation's value is one that binary32 holds
rounded_lt : (f : Format → Float → Float → Float) → ((x y : Float) → T (fits binary32 (f binary32 x y))) → Words (rounded f)
unfolding rounded
rounded_lt f h b t hb ht = to_bits-lt binary32 (f binary32 (of_bits binary32 b) (of_bits binary32 t)) (h (of_bits binary32 b) (of_bits binary32 t))

plus_f_lt : Words plus_f
unfolding plus_f
plus_f_lt = rounded_lt add (add-fits binary32)

minus_f_lt : Words minus_f
unfolding minus_f
minus_f_lt = rounded_lt sub (sub-fits binary32)

times_f_lt : Words times_f
unfolding times_f
times_f_lt = rounded_lt mul (mul-fits binary32)

quotient_f_lt : Words quotient_f
unfolding quotient_f
quotient_f_lt = rounded_lt div (div-fits binary32)

ordered_f_lt : Words ordered_f
unfolding ordered_f
ordered_f_lt b t hb ht = sense_lt (lt (of_bits binary32 b) (of_bits binary32 t)) (lt (of_bits binary32 t) (of_bits binary32 b))

nearest_f_lt : (minus : Bool) (a c : ℕ) → nearest_f minus a c < 2 ^ 32
unfolding nearest_f
nearest_f_lt minus a c = to_bits-lt binary32 _ (round-fits binary32 _ _ _)

int_to_f_lt : Word int_to_f
unfolding int_to_f
int_to_f_lt t h = nearest_f_lt (lt_z (signed t) (pos 0)) (nat_abs (signed t)) 1

-- ---- each row

-- both cells that an effect gives are words
abbrev pub Slim : Effect → Type 0
Slim e = (e.first.bits < 2 ^ 32) × (e.second.bits < 2 ^ 32)

module _ (r : Registers) (m : Memory) (sp : r.sp < 2 ^ 32) (fbr : r.fbr < 2 ^ 32) (pc : r.pc + 1 < 2 ^ 32) (cells : Narrow m)
    (n : ℕ) (vb vt : Cell) (hn : n < 2 ^ 32) (hb : vb.bits < 2 ^ 32) (ht : vt.bits < 2 ^ 32) where
  abbrev SlimRow : Row → Type 0
  SlimRow w = Slim (w.action.effect r m.cells n vb vt)

  -- one word is written, or none
  one : {b : ℕ} → b < 2 ^ 32 → (b < 2 ^ 32) × (0 < 2 ^ 32)
  one h = (h, lit< tt)

  none : (0 < 2 ^ 32) × (0 < 2 ^ 32)
  none = (lit< tt, lit< tt)

  -- the word that an operation makes of Vt, and of Vb and Vt
  word1 : {f : ℕ → ℕ} → Word f → (f vt.bits < 2 ^ 32) × (0 < 2 ^ 32)
  word1 h = one (h vt.bits ht)

  word2 : {f : ℕ → ℕ → ℕ} → Words f → (f vb.bits vt.bits < 2 ^ 32) × (0 < 2 ^ 32)
  word2 h = one (h vb.bits vt.bits hb ht)

  slim_rows : EachRow SlimRow rows
  unfolding rows
  slim_rows =
      -- STOP, PUSHIMM, PUSHIMMF, DUP, SWAP, ADD, SUB
      none then one hn then one hn then one ht then (ht, hb)
      then one (word_lt (signed vb.bits +ℤ signed vt.bits)) then one (word_lt (signed vb.bits -ℤ signed vt.bits))
      -- TIMES to BITNOT
      then word2 times_lt then word2 quotient_lt then word2 remainder_lt
      then word2 plus_f_lt then word2 minus_f_lt then word2 times_f_lt then word2 quotient_f_lt
      then word2 (logic_lt ◌&&◌) then word2 (logic_lt ◌||◌) then word2 (logic_lt nand) then word2 (logic_lt nor) then word2 (logic_lt unlike)
      then word1 falsity_lt
      then word2 (and_lt 32) then word2 (or_lt 32) then word2 nand_lt then word2 nor_lt then word2 (xor_lt 32) then word1 not_lt
      -- CMP, CMPF, GREATER, LESS, EQUAL, ISNIL, ISPOS, ISNEG
      then word2 ordered_lt then word2 ordered_f_lt then word2 greater_lt then word2 less_lt
      then one (bit_lt (agree vb vt)) then one (bit_lt (nil vt)) then word1 above_lt then word1 below_lt
      -- PUSHSP, POPSP, PUSHFBR, POPFBR, LINK, ADDSP
      then one sp then none then one fbr then none then one fbr then none
      -- PUSHIND, STOREIND, PUSHOFF, STOREOFF
      then one (cells _) then one ht then one (cells _) then one ht
      -- JUMP, JUMPC, JUMPIND, JSR, JSRIND, PUSHIMMPA, ITOF, FTOI
      then none then none then none then one pc then one pc then one hn then word1 int_to_f_lt then one (word_lt (cut vt.bits))
      -- PUSHIMMCH, WRITECH
      then one hn then none
      then end

-- the instruction at a place
slim_place : (r : Registers) (m : Memory) → r.sp < 2 ^ 32 → r.fbr < 2 ^ 32 → r.pc + 1 < 2 ^ 32 → Narrow m → (place : ℕ) (e : Effect)
    → decide_at r m.cells place ≡ Ok e → Slim e
unfolding decide_at decide action_of
slim_place r m sp fbr pc cells place e q =
    let vb = cell_at m.cells (record { 0 = r.sp - 2 }) in
    let vt = cell_at m.cells (record { 0 = r.sp - 1 }) in
    let d = values_does r m.cells (operand_of place) vb vt (action_of (code_of place)) e q in
    subst Slim d.1
    (at_code (SlimRow r m sp fbr pc cells (operand_of place) vb vt (modulo_lt place) (cells (r.sp - 2)) (cells (r.sp - 1)))
    (slim_rows r m sp fbr pc cells (operand_of place) vb vt (modulo_lt place) (cells (r.sp - 2)) (cells (r.sp - 1))) (code_of place))

-- ---- what an accepted step writes

module _ (p : Program) (r : Registers) (m : Memory) (e : Effect) (cells : Narrow m) (h : sound p r m ≡ true) (q : judged p r m.cells (length m.output) ≡ Ok e) where
  pub narrow_judged : (e.first.bits < 2 ^ 32) × (e.second.bits < 2 ^ 32)
  narrow_judged =
      let s : Sound p r m = sound_facts p r m h in
      let g : Going p r m e = judged_going p r m e q in
      slim_place r m (omega (arith, s.sp, s.few)) (omega (arith, s.fbr, s.few))
      (omega (arith, going_below p r m e s g, table_short p s.table)) cells (get_or p.places r.pc 0) e g.decides

  pub narrow_memory : Narrow (memory_of r m e)
  narrow_memory =
      let written : List ℕ = block e.count e.first.bits e.second.bits in
      let long : length written ≡ e.count = length_block e.count e.first.bits e.second.bits in
      each_splice (λ t b. b < 2 ^ 32) (lit< tt) e.at e.count m.cells.bits m.cells.bits written written refl long long cells
      (each_block (λ t b. b < 2 ^ 32) (lit< tt) e.count e.first.bits e.first.bits e.second.bits e.second.bits
      narrow_judged.0 narrow_judged.1)
