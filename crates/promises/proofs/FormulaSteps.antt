-- Request m: what the instructions of a formula's code decide, on INTs; what a step leaves that pushes a result; and that unary minus is a product with -1. Assumes
-- nothing.
use Rattle.std.specs.Prelude.{Ok, Err}
use Prim.Native.Nat.{ℕ, zero, suc, ◌+◌, ◌-◌, ◌*◌, ◌^◌, ◌≤◌, ◌<◌}
use mathlib.Core.Path.{◌≡◌, refl, ap, ap₂, ◌∙◌}
use mathlib.Core.Bool.{Bool, true, false}
use mathlib.Core.List.{List, [], ◌∷◌}
use native.Mathlib.Nat.{zero-add}
use native.Mathlib.Omega.{arith}
use lib.Dec.{ltb}
use lib.IntN.{pos, negsuc, neg_ℤ, ◌+ℤ◌, ◌-ℤ◌}
use lib.Signed.{quot_z}
use lib.ListN.{length, get_or, take, drop}
use lib.Seq.{length-take-le, get_or_at}
use borrow.Author.Tests.{ltb-true, ltb-false, le-leb, lt-ltb, eq-eqb, ne_eqb}
use Rattle.rules.specs.Lists.{splice}
use Rattle.rules.specs.Sizes.{name_cells}
use Rattle.rules.specs.Tags.{int}
use Rattle.rules.specs.Words.{signed, word, times, quotient, holds}
use Rattle.rules.specs.Instructions.{rows, row_of, action_of}
use Rattle.rules.specs.Table.{Program}
use Rattle.rules.specs.Cells.{Cells, cell_at}
use Rattle.rules.specs.State.{sound}
use Rattle.rules.specs.Decide.{on_values, decide}
use Rattle.rules.specs.Actions.{sums, ints, divides}
use Rattle.rules.specs.Effects.{result, halted}
use Rattle.rules.specs.Commit.{keeps, grown, registers_of, cells_after, room_on, room_in, room_for}
use Rattle.rules.specs.Step.{decide_at, judged, carried, plain_step}
use Rattle.rules.specs.Step as Step
use Rattle.rules.specs.Grammar.{Tree, number, name, negative, joined}
use Rattle.rules.specs.Evaluate.{Value, value, no_value, and_then, applied, worth}
use Rattle.rules.specs.Translate.{stop, push_number, push_name, operation}
use Rattle.rules.specs.declared.Operator.{Operator}
use Rattle.rules.specs.declared.Operator.TheVariants.{Add, Subtract, Multiply, Divide}
use Rattle.rules.specs.declared.Cell.{Cell}
use Rattle.rules.specs.declared.Registers.{Registers}
use Rattle.rules.specs.declared.Effect.{Effect}
use Rattle.rules.specs.Answers.{Decision}
use Rattle.rules.specs.declared.MachineRefusal.{MachineRefusal}
use Rattle.rules.specs.declared.MachineRefusal.TheVariants.{NoResult}
use Rattle.rules.proofs.Tests.{by_test}
use Rattle.rules.proofs.Narrow.{word_lt}
use Rattle.rules.proofs.Readings.{signed_plus}
use Rattle.rules.proofs.Sound.{step_plain}
use Rattle.formula.specs.Trees.{Proper}
use Rattle.promises.specs.Series.{State}
use Rattle.promises.proofs.FormulaTables.{code_of_place, operand_of_place}

-- ---- the decisions
module _ (r : Registers) (c : Cells) where
  -- PUSHIMM
  pub decide_number : (n : ℕ) → n < 2 ^ 32 → decide_at r c (push_number n) ≡ Ok (result r 0 (int n))
  unfolding decide_at decide action_of row_of rows
  decide_number n h = rw (code_of_place 1 n h, operand_of_place 1 n h)

  -- PUSHOFF
  pub decide_name : (k : ℕ) → k < name_cells → r.fbr ≡ 0 → k < r.sp → decide_at r c (push_name k) ≡ Ok (result r 0 (cell_at c (record { 0 = k })))
  unfolding decide_at decide action_of row_of rows
  decide_name k h f l =
      rw (code_of_place 42 k (omega arith), operand_of_place 42 k (omega arith), f, signed_plus k (omega arith), zero-add k, lt-ltb k r.sp l)

  -- STOP
  pub decide_stop : decide_at r c stop ≡ Ok (halted r)
  unfolding decide_at decide action_of row_of rows
  decide_stop = refl

  -- the decision of an operator whose two sides give the value
  abbrev pub operated : Value → Decision
  operated (value v) = Ok (result r 2 (int v))
  operated no_value = Err NoResult

  -- ADD, SUB, TIMES, DIV on two INTs
  pub decide_joined : (o : Operator) (b t : ℕ) → 2 ≤ r.sp → cell_at c (record { 0 = r.sp - 2 }) ≡ int b → cell_at c (record { 0 = r.sp - 1 }) ≡ int t
      → decide_at r c (operation o) ≡ operated (applied o b t)
  unfolding decide_at decide action_of row_of rows
  decide_joined Add b t two hb ht = ap₂ (λ (x y : Cell). on_values r c 0 x y (sums ◌+ℤ◌)) hb ht ∙ rw (le-leb 2 r.sp two)
  decide_joined Subtract b t two hb ht = ap₂ (λ (x y : Cell). on_values r c 0 x y (sums ◌-ℤ◌)) hb ht ∙ rw (le-leb 2 r.sp two)
  decide_joined Multiply b t two hb ht = ap₂ (λ (x y : Cell). on_values r c 0 x y (ints times)) hb ht ∙ rw (le-leb 2 r.sp two)
  decide_joined Divide b t two hb ht =
      ap₂ (λ (x y : Cell). on_values r c 0 x y (divides quotient)) hb ht
      ∙ rw (le-leb 2 r.sp two) (by_test (holds t) (λ e. rw e) (λ e. rw e))

-- ---- what is judged of a state, which is neither halted nor at the program's end

abbrev pub judged_at : Program → State → Decision
judged_at p s = judged p s.registers s.memory.cells (length s.memory.output)

abbrev decided_at : Program → State → Decision
decided_at p s = decide_at s.registers s.memory.cells (get_or p.places s.registers.pc 0)

module _ (p : Program) (s : State) (running : s.registers.halt ≡ 0) (inside : s.registers.pc < p.count) where
  -- with room for the new SP, for what is shown and for the record
  pub judged_does : (e : Effect) → decided_at p s ≡ Ok e → e.sp < s.registers.n → room_on (length s.memory.output) s.registers.written e.shows ≡ true
      → room_for s.registers e ≡ true → judged_at p s ≡ Ok e
  unfolding judged
  judged_does e d sp panel room =
      rw (
        eq-eqb s.registers.halt 0 running,
        ne_eqb s.registers.pc p.count (λ q. let z : ⊥ = omega arith in z),
        d,
        lt-ltb e.sp s.registers.n sp,
        panel,
        room,
      )

  pub judged_refuses : (x : MachineRefusal) → decided_at p s ≡ Err x → judged_at p s ≡ Err x
  unfolding judged
  judged_refuses x d =
      rw (eq-eqb s.registers.halt 0 running, ne_eqb s.registers.pc p.count (λ q. let z : ⊥ = omega arith in z), d)

-- a step of a sound state, by what is judged
pub step_judged : (p : Program) (s : State) → sound p s.registers s.memory ≡ true → (d : Decision) → judged_at p s ≡ d
    → Step.step p s.registers s.memory ≡ carried s.registers s.memory d
unfolding plain_step
step_judged p s h d j = step_plain p s.registers s.memory h ∙ ap (carried s.registers s.memory) j

-- ---- the history's room: each written cell and each step is a place

-- "H = 0", or so many places free
abbrev pub Free : Registers → ℕ → Type 0
Free r n = 0 < r.h → r.used + n ≤ r.h

pub free_room : (r : Registers) (e : Effect) → Free r (e.count + 1) → room_for r e ≡ true
free_room r e f = go (keeps r) refl
  where
    go : (b : Bool) → keeps r ≡ b → room_in b (r.h - r.used) (e.count + 1) ≡ true
    go true k = let l = f (ltb-true 0 r.h k) in le-leb (e.count + 1) (r.h - r.used) (omega arith)
    go false k = refl

pub free_after : (r : Registers) (e : Effect) (n k : ℕ) → Free r n → n ≡ e.count + 1 + k → Free (registers_of r e) k
free_after r e n k f q h =
    let l = f h in
    let g = most (keeps r) r.used (e.count + 1) in
    omega arith
  where
    most : (b : Bool) (u n : ℕ) → grown b u n ≤ u + n
    most true u n = omega arith
    most false u n = omega arith

-- ---- a result is on top
module _ (r : Registers) (c : Cells) (k : ℕ) (v : Cell) (bits : r.sp - k < length c.bits) (tags : r.sp - k < length c.tags) where
  written_at : (l : List ℕ) (i x : ℕ) → i < length l → get_or (splice l i (x ∷ [])) i 0 ≡ x
  written_at l i x h = get_or_at (take i l) x (drop (i + 1) l) 0 i (length-take-le i l (omega arith))

  pub result_at : cell_at (cells_after c (result r k v)) (record { 0 = r.sp - k }) ≡ v
  result_at =
      ap₂ {C = Cell} (λ (b t : ℕ). record { bits = b; tag = t })
      (written_at c.bits (r.sp - k) v.bits bits) (written_at c.tags (r.sp - k) v.tag tags)

-- ---- unary minus: "PUSHIMM -1, TIMES"

minus_one : (b : ℕ) → 1 ≤ b → b < 2 ^ 32 → times b (2 ^ 32 - 1) ≡ 2 ^ 32 - b
minus_one b l h = omega arith

pub minus_product : (b : ℕ) → b < 2 ^ 32 → times b (2 ^ 32 - 1) ≡ word (neg_ℤ (signed b))
minus_product b h =
    by_test (ltb b (2 ^ 31)) (λ e. rw e (small b (ltb-true b (2 ^ 31) e)))
    (λ e.
    let l : 2 ^ 31 ≤ b = ltb-false b (2 ^ 31) e in
    rw e (minus_one b (omega arith) h ∙ large (omega arith)))
  where
    small : (b : ℕ) → b < 2 ^ 31 → times b (2 ^ 32 - 1) ≡ word (neg_ℤ (pos b))
    small zero h = refl
    small (suc b) h = minus_one (suc b) (omega arith) (omega arith) ∙ omega arith

    large : 1 ≤ b → 2 ^ 32 - b ≡ word (neg_ℤ (negsuc (2 ^ 32 - suc b)))
    large l = omega arith

-- ---- the value of a formula is a word

abbrev pub Word : Value → Type 0
Word (value v) = v < 2 ^ 32
Word no_value = Unit

pub value_word : (names : ℕ → ℕ) → ((k : ℕ) → k < name_cells → names k < 2 ^ 32) → (t : Tree) → Proper t → Word (worth names t)
unfolding worth
value_word names h (number n) p = omega arith
value_word names h (name k) p = h k p
value_word names h (negative t) p = after (worth names t)
  where
    after : (x : Value) → Word (and_then (λ b. value (word (neg_ℤ (signed b)))) x)
    after (value b) = word_lt (neg_ℤ (signed b))
    after no_value = tt
value_word names h (joined o left right) p = left_side (worth names left)
  where
    both : (o : Operator) (b t : ℕ) → Word (applied o b t)
    both Add b t = word_lt (signed b +ℤ signed t)
    both Subtract b t = word_lt (signed b -ℤ signed t)
    both Multiply b t = word_lt (pos (b * t))
    both Divide b t = by_test (holds t) (λ e. rw e (word_lt (quot_z (signed b) (signed t)))) (λ e. rw e tt)

    right_side : (b : ℕ) (y : Value) → Word (and_then (applied o b) y)
    right_side b (value t) = both o b t
    right_side b no_value = tt

    left_side : (x : Value) → Word (and_then (λ b. and_then (applied o b) (worth names right)) x)
    left_side (value b) = right_side b (worth names right)
    left_side no_value = tt
