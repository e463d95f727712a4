-- Request m: the code of a formula's tree in its table: its depth is the highest SP over the code as it stands, by the rows of the table of instructions; and the
-- table is sound. Assumes nothing.
use Prim.Native.Nat.{ℕ, zero, suc, ◌+◌, ◌-◌, ◌^◌, ◌≤◌, ◌<◌, max}
use mathlib.Core.Path.{◌≡◌, refl, ap, ap₂, ◌∙◌}
use mathlib.Core.Bool.{Bool, true, ◌&&◌}
use mathlib.Core.List.{List, [], ◌∷◌, ◌++◌, append_assoc}
use native.Mathlib.Omega.{arith}
use lib.ListN.{length, take, replicate, length-append, length-replicate}
use lib.Seq.{take_at, drop_at}
use borrow.Author.Tests.{le-leb, eq-eqb}
use Rattle.rules.specs.Lists.{all}
use Rattle.rules.specs.Sizes.{max_program, max_offset, name_cells}
use Rattle.rules.specs.Instructions.{rows, row_of, kind_of, action_of}
use Rattle.rules.specs.Table.{place_of, code_of, operand_of, sound_place, is_zero, sound_table}
use Rattle.rules.specs.DepthList.{depth_after}
use Rattle.rules.specs.Grammar.{Tree, number, name, negative, joined}
use Rattle.rules.specs.Translate.{stop, push_number, push_name, operation, negation, code_for, instructions_for, cost, depth, table_for, program_for}
use Rattle.rules.specs.declared.Operator.{Operator}
use Rattle.rules.specs.declared.Operator.TheVariants.{Add, Subtract, Multiply, Divide}
use Rattle.rules.proofs.Tests.{and_left, and_right}
use Rattle.formula.specs.Trees.{Proper}
use Rattle.formula.proofs.Readings.{Accepted}
use Rattle.formula.proofs.Costs.{program_length, depth_some}
use Rattle.promises.specs.Formulas.{sp_behind, most_held}

-- ---- a place's code and operand

pub code_of_place : (c v : ℕ) → v < 2 ^ 32 → code_of (place_of c v) ≡ c
code_of_place c v h = omega arith

pub operand_of_place : (c v : ℕ) → v < 2 ^ 32 → operand_of (place_of c v) ≡ v
operand_of_place c v h = omega arith

-- ---- the highest SP over the code

behind_number : (n sp : ℕ) → n < 2 ^ 32 → sp_behind (push_number n) sp ≡ sp + 1
unfolding depth_after action_of row_of rows
behind_number n sp h = rw (code_of_place 1 n h) (omega arith)

behind_name : (k sp : ℕ) → k < name_cells → sp_behind (push_name k) sp ≡ sp + 1
unfolding depth_after action_of row_of rows
behind_name k sp h = rw (code_of_place 42 k (omega arith)) (omega arith)

behind_operation : (o : Operator) (sp : ℕ) → sp_behind (operation o) (sp + 1 + 1) ≡ sp + 1
unfolding depth_after action_of row_of rows
behind_operation Add sp = omega arith
behind_operation Subtract sp = omega arith
behind_operation Multiply sp = omega arith
behind_operation Divide sp = omega arith

held_start : (sp : ℕ) (ws : List ℕ) → sp ≤ most_held sp ws
unfolding most_held
held_start sp [] = omega arith
held_start sp (w ∷ ws) = omega arith

-- a push, and an operator on what two pushes left
held_push : (w sp : ℕ) (ws : List ℕ) → sp_behind w sp ≡ sp + 1 → most_held sp (w ∷ ws) ≡ most_held (sp + 1) ws
unfolding most_held
held_push w sp ws e = ap (λ (n : ℕ). max sp (most_held n ws)) e ∙ omega (arith, held_start (sp + 1) ws)

held_operation : (o : Operator) (sp : ℕ) (ws : List ℕ) → most_held (sp + 1 + 1) (operation o ∷ ws) ≡ max (sp + 2) (most_held (sp + 1) ws)
unfolding most_held
held_operation o sp ws = ap (λ (n : ℕ). max (sp + 1 + 1) (most_held n ws)) (behind_operation o sp) ∙ omega arith

-- the depth of a tree is that of its code, whatever code follows
code_held : (t : Tree) → Proper t → (sp : ℕ) (ws : List ℕ) → most_held sp (code_for t ++ ws) ≡ max (sp + depth t) (most_held (sp + 1) ws)
unfolding code_for depth
code_held (number n) h sp ws = held_push (push_number n) sp ws (behind_number n sp (omega arith)) ∙ omega (arith, held_start (sp + 1) ws)
code_held (name k) h sp ws = held_push (push_name k) sp ws (behind_name k sp h) ∙ omega (arith, held_start (sp + 1) ws)
code_held (negative t) h sp ws =
    let one = held_push (push_number (2 ^ 32 - 1)) (sp + 1) (operation Multiply ∷ ws) (behind_number (2 ^ 32 - 1) (sp + 1) (omega arith)) in
    let two = held_operation Multiply sp ws in
    ap (most_held sp) (append_assoc (code_for t) negation ws) ∙ code_held t h sp (negation ++ ws) ∙ omega (arith, one, two)
code_held (joined o left right) h sp ws =
    let some = depth_some right in
    let l = code_held left h.0 sp (code_for right ++ (operation o ∷ ws)) in
    let r = code_held right h.1 (sp + 1) (operation o ∷ ws) in
    let two = held_operation o sp ws in
    ap (most_held sp)
    (append_assoc (code_for left) (code_for right ++ (operation o ∷ [])) ws ∙ ap (λ (x : List ℕ). code_for left ++ x) (append_assoc (code_for right) (operation o ∷ []) ws))
    ∙ omega (arith, l, r, two)

-- STOP leaves SP
pub program_held : (t : Tree) → Proper t → (sp : ℕ) → most_held sp (instructions_for t) ≡ sp + depth t
unfolding most_held depth_after action_of row_of rows
program_held t h sp = let some = depth_some t in code_held t h sp (stop ∷ []) ∙ omega arith

-- ---- the table is sound

all_append : (p : ℕ → Bool) (xs ys : List ℕ) → all p xs ≡ true → all p ys ≡ true → all p (xs ++ ys) ≡ true
unfolding all
all_append p [] ys h k = k
all_append p (x ∷ xs) ys h k = let a = all_append p xs ys (and_right (p x) (all p xs) h) k in rw (and_left (p x) (all p xs) h) a

all_zeros : (n : ℕ) → all is_zero (replicate n 0) ≡ true
unfolding all
all_zeros zero = refl
all_zeros (suc n) = all_zeros n

module _ (count : ℕ) where
  number_sound : (n : ℕ) → n < 2 ^ 32 → sound_place count (push_number n) ≡ true
  unfolding sound_place kind_of row_of rows
  number_sound n h = rw (code_of_place 1 n h)

  name_sound : (k : ℕ) → k < name_cells → sound_place count (push_name k) ≡ true
  unfolding sound_place kind_of row_of rows
  name_sound k h = rw (code_of_place 42 k (omega arith), operand_of_place 42 k (omega arith), le-leb k max_offset (omega arith))

  operation_sound : (o : Operator) → sound_place count (operation o) ≡ true
  unfolding sound_place kind_of row_of rows
  operation_sound Add = refl
  operation_sound Subtract = refl
  operation_sound Multiply = refl
  operation_sound Divide = refl

  code_sound : (t : Tree) → Proper t → all (sound_place count) (code_for t) ≡ true
  unfolding code_for all
  code_sound (number n) h = rw (number_sound n (omega arith))
  code_sound (name k) h = rw (name_sound k h)
  code_sound (negative t) h =
      all_append (sound_place count) (code_for t) negation (code_sound t h) (rw (number_sound (2 ^ 32 - 1) (omega arith), operation_sound Multiply))
  code_sound (joined o left right) h =
      all_append (sound_place count) (code_for left) (code_for right ++ (operation o ∷ [])) (code_sound left h.0)
      (all_append (sound_place count) (code_for right) (operation o ∷ []) (code_sound right h.1) (rw (operation_sound o)))

  program_sound : (t : Tree) → Proper t → all (sound_place count) (instructions_for t) ≡ true
  unfolding all sound_place kind_of row_of rows
  program_sound t h = all_append (sound_place count) (code_for t) (stop ∷ []) (code_sound t h) refl

module _ (t : Tree) where
  abbrev count : ℕ
  count = length (instructions_for t)

  abbrev unused : List ℕ
  unused = replicate (max_program - count) 0

  -- the used places are the code
  pub table_used : take count (table_for t) ≡ instructions_for t
  table_used = take_at (instructions_for t) unused count refl

  pub table_sound : Accepted t → sound_table (program_for t) ≡ true
  unfolding sound_table
  table_sound a =
      let e : count ≡ cost t + 1 = program_length t in
      let f : cost t + 1 ≤ max_program = a.fits in
      let l : length (table_for t) ≡ max_program =
      length-append (instructions_for t) unused ∙ ap (λ (n : ℕ). count + n) (length-replicate {A = ℕ} (max_program - count) 0) ∙ omega arith in
      ap₂ ◌&&◌ (le-leb count max_program (omega arith))
      (ap₂ ◌&&◌ (eq-eqb (length (table_for t)) max_program l)
      (ap₂ ◌&&◌ (ap (all (sound_place count)) table_used ∙ program_sound count t a.proper)
      (ap (all is_zero) (drop_at (instructions_for t) unused count refl) ∙ all_zeros (max_program - count))))
