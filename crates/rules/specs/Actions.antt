-- Document 01, "Instructions", and document 02, letters b, d, e and h: what each instruction asks and does, as an action for `Decide`: those that take the same
-- values, and refuse the same, are one action, so that ADD and SUB differ in their sum alone. n is the operand. Assumes nothing.
use Rattle.std.specs.Prelude.{ℕ, suc, ◌-◌, Bool, true, false, not, ◌&&◌, ◌||◌, cond, ltb, eqb, ℤ, pos, negsuc, ◌+ℤ◌}
use Rattle.rules.specs.Tags.{INT, FLOAT, MA, PA, CH, int, float, ma, has}
use Rattle.rules.specs.Words.{signed, word, in_word, bit, holds}
use Rattle.rules.specs.Floats.{unordered, ordered_f, equal_f, int_to_f, cut, has_int}
use Rattle.rules.specs.Cells.{Cells, cell_at}
use Rattle.rules.specs.Effects.{memory_address, program_address, following, result, swapped, stored, moved, framed, linked, jumped, called, shown, halted}
use Rattle.rules.specs.Decide.{Action}
use Rattle.rules.specs.declared.Cell.{Cell}
use Rattle.rules.specs.declared.Registers.{Registers}
use Rattle.rules.specs.declared.Effect.{Effect}

-- "MA bits are read as two's complement": the number is at least 0 and below the limit
abbrev pub inside : ℤ → ℕ → Bool
inside (pos a) limit = ltb a limit
inside (negsuc a) limit = false

-- ---- how an action is put together

-- the tags that are taken: any; Vt has that one; both have it
abbrev pub any : (below top : ℕ) → Bool
any b t = true

abbrev pub top_is : ℕ → (below top : ℕ) → Bool
top_is tag b t = eqb t tag

abbrev pub both_are : ℕ → (below top : ℕ) → Bool
both_are tag b t = eqb b tag && eqb t tag

-- k values with these tags: 3 and 4 are all that it is refused with
abbrev pub acts : ℕ → ((below top : ℕ) → Bool) → ((r : Registers) (c : Cells) (n : ℕ) (vb vt : Cell) → Effect) → Action
acts k t e = record { needs = λ n. k; takes = t; results = λ b t. true; reaches = λ r n vb vt. true; effect = e }

-- the values that it needs are popped, and the cell that is made of them is pushed
abbrev pub computes : ℕ → ((below top : ℕ) → Bool) → (Cell → Cell → Cell) → Action
computes k t f = acts k t (λ r c n vb vt. result r k (f vb vt))

-- 5 too, where the bits fail the test
abbrev pub resulting : ((below top : ℕ) → Bool) → Action → Action
resulting t a = record { needs = a.needs; takes = a.takes; results = t; reaches = a.reaches; effect = a.effect }

-- 6 too, where the test fails
abbrev pub reaching : ((r : Registers) (n : ℕ) (vb vt : Cell) → Bool) → Action → Action
reaching t a = record { needs = a.needs; takes = a.takes; results = a.results; reaches = t; effect = a.effect }

-- ---- the actions

abbrev pub stop : Action
stop = acts 0 any (λ r c n vb vt. halted r)

-- the operand is pushed, as a cell of its tag
abbrev pub push : (ℕ → Cell) → Action
push cell = acts 0 any (λ r c n vb vt. result r 0 (cell n))

abbrev pub dup : Action
dup = acts 1 any (λ r c n vb vt. result r 0 vt)

abbrev pub swap : Action
swap = acts 2 any (λ r c n vb vt. swapped r vb vt)

-- "ADD and SUB on MA and INT shall be refused when the exact result, the MA's bits read as two's complement, is not within −2^31 to 2^31−1. Two INTs
-- still wrap." (02 d): whether the exact result z may be pushed in place of Vb
abbrev pub pushable : Cell → ℤ → Bool
pushable vb z = has INT vb || in_word z

-- "ADD and SUB also take Vb MA with Vt INT and give MA."; "the sum, difference .. are taken modulo 2^32"
abbrev pub sums : (ℤ → ℤ → ℤ) → Action
sums f =
    reaching (λ r n vb vt. pushable vb (f (signed vb.bits) (signed vt.bits)))
    (computes 2 (λ b t. eqb t INT && (eqb b INT || eqb b MA))
    (λ vb vt. record { bits = word (f (signed vb.bits) (signed vt.bits)); tag = vb.tag }))

-- "Logic, bitwise, CMP, GREATER, LESS, ISPOS, ISNEG, JUMPC take INT."
abbrev pub ints : (ℕ → ℕ → ℕ) → Action
ints f = computes 2 (both_are INT) (λ vb vt. int (f vb.bits vt.bits))

-- "DIV or MOD by zero"
abbrev pub divides : (ℕ → ℕ → ℕ) → Action
divides f = resulting (λ b t. holds t) (ints f)

-- "F operations take FLOATs"
abbrev pub floats : (ℕ → ℕ → ℕ) → Action
floats f = computes 2 (both_are FLOAT) (λ vb vt. float (f vb.bits vt.bits))

-- "CMPF with a NaN"
abbrev pub compare_floats : Action
compare_floats =
    resulting (λ b t. not (unordered b t)) (computes 2 (both_are FLOAT) (λ vb vt. int (ordered_f vb.bits vt.bits)))

-- "ISPOS, ISNEG .. take INT", NOT and BITNOT
abbrev pub one : (ℕ → ℕ) → Action
one f = computes 1 (top_is INT) (λ vb vt. int (f vt.bits))

-- "ITOF (code 50) rounds an INT" (02 e)
abbrev pub to_float : Action
to_float = computes 1 (top_is INT) (λ vb vt. float (int_to_f vt.bits))

-- "FTOI (code 51) cuts toward zero. .. 5 also for FTOI of a NaN or a result outside INT" (02 e)
abbrev pub to_int : Action
to_int = resulting (λ b t. has_int t) (computes 1 (top_is FLOAT) (λ vb vt. int (word (cut vt.bits))))

-- "EQUAL: 1 if tags and all 32 bits agree." "EQUAL of two FLOATs shall follow IEEE 754 comparison .. Other tags stay" (02 b): whether two words
-- that both have the tag are the same value
abbrev pub same_value : ℕ → ℕ → ℕ → Bool
same_value tag b t = cond (eqb tag FLOAT) (equal_f b t) (eqb b t)

-- "unlike tags still give 0" (02 b)
abbrev pub agree : Cell → Cell → Bool
agree vb vt = eqb vb.tag vt.tag && same_value vb.tag vb.bits vt.bits

abbrev pub equal : Action
equal = computes 2 any (λ vb vt. int (bit (agree vb vt)))

-- "ISNIL: any tag, 1 if all bits are zero." "ISNIL of a FLOAT is 1 for both zeros." (02 b): the value is that of 32 zero bits
abbrev pub nil : Cell → Bool
nil vt = same_value vt.tag vt.bits 0

abbrev pub is_nil : Action
is_nil = computes 1 any (λ vb vt. int (bit (nil vt)))

abbrev pub push_sp : Action
push_sp = acts 0 any (λ r c n vb vt. result r 0 (ma r.sp))

abbrev pub push_fbr : Action
push_fbr = acts 0 any (λ r c n vb vt. result r 0 (ma r.fbr))

abbrev pub link : Action
link = acts 0 any (λ r c n vb vt. linked r)

-- "POPSP and POPFBR take an MA in 0..N−1."
abbrev pub pop_sp : Action
pop_sp =
    reaching (λ r n vb vt. inside (signed vt.bits) r.n)
    (acts 1 (top_is MA) (λ r c n vb vt. moved r (r.sp - 1) (memory_address (signed vt.bits))))

abbrev pub pop_fbr : Action
pop_fbr =
    reaching (λ r n vb vt. inside (signed vt.bits) r.n)
    (acts 1 (top_is MA) (λ r c n vb vt. framed r (memory_address (signed vt.bits))))

-- "ADDSP below 0" is 3: as many values as it takes away
abbrev pub taken : ℤ → ℕ
taken (pos a) = 0
taken (negsuc a) = suc a

abbrev pub add_sp : Action
add_sp =
    record {
      needs = λ n. taken (signed n);
      takes = any;
      results = λ b t. true;
      reaches = λ r n vb vt. true;
      effect = λ r c n vb vt. moved r r.sp (memory_address (pos r.sp +ℤ signed n));
    }

-- "PUSHIND takes an MA at least 0 and below SP−1"; "Copies carry the tag."
abbrev pub push_ind : Action
push_ind =
    reaching (λ r n vb vt. inside (signed vt.bits) (r.sp - 1))
    (acts 1 (top_is MA) (λ r c n vb vt. result r 1 (cell_at c (memory_address (signed vt.bits)))))

-- "STOREIND stores Vt at the MA in Vb, at least 0 and below SP−2"
abbrev pub store_ind : Action
store_ind =
    reaching (λ r n vb vt. inside (signed vb.bits) (r.sp - 2))
    (acts 2 (λ b t. eqb b MA) (λ r c n vb vt. stored r 2 (memory_address (signed vb.bits)) vt))

-- FBR+n
abbrev pub frame : Registers → ℕ → ℤ
frame r n = pos r.fbr +ℤ signed n

-- "PUSHOFF needs 0 ≤ FBR+n < SP"
abbrev pub push_off : Action
push_off =
    reaching (λ r n vb vt. inside (frame r n) r.sp)
    (acts 0 any (λ r c n vb vt. result r 0 (cell_at c (memory_address (frame r n)))))

-- "STOREOFF 0 ≤ FBR+n < SP−1"
abbrev pub store_off : Action
store_off =
    reaching (λ r n vb vt. inside (frame r n) (r.sp - 1))
    (acts 1 any (λ r c n vb vt. stored r 1 (memory_address (frame r n)) vt))

abbrev pub jump : Action
jump = acts 0 any (λ r c n vb vt. jumped r 0 (program_address n))

-- "JUMPC take INT"; "Nonzero is true."
abbrev pub jump_c : Action
jump_c = acts 1 (top_is INT) (λ r c n vb vt. jumped r 1 (cond (holds vt.bits) (program_address n) (following r)))

-- "JUMPIND and JSRIND take PA."
abbrev pub jump_ind : Action
jump_ind = acts 1 (top_is PA) (λ r c n vb vt. jumped r 1 (program_address vt.bits))

abbrev pub jsr : Action
jsr = acts 0 any (λ r c n vb vt. called r 0 (program_address n))

abbrev pub jsr_ind : Action
jsr_ind = acts 1 (top_is PA) (λ r c n vb vt. called r 1 (program_address vt.bits))

-- "WRITECH (code 53), which pops a CH and appends it" (02 h)
abbrev pub write_ch : Action
write_ch = acts 1 (top_is CH) (λ r c n vb vt. shown r vt.bits)
