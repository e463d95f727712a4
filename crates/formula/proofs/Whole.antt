-- A whole formula: what is read of it to its end, over a table of zeros. Assumes nothing.
use Rattle.std.specs.Prelude.{Ok, Err}
use Prim.Native.Nat.{ℕ, suc, ◌+◌, ◌-◌, ◌≤◌}
use mathlib.Core.Path.{◌≡◌, sym, ap, ◌∙◌}
use mathlib.Core.List.{List, [], ◌∷◌, ◌++◌, append_assoc}
use native.Mathlib.Omega.{arith}
use lib.ListN.{length, drop, replicate}
use Rattle.rules.specs.Lists.{splice}
use Rattle.rules.specs.Sizes.{max_program, max_nesting}
use Rattle.rules.specs.Grammar.{Tree, Reading, read, refused, operand, whole, parse, unfit}
use Rattle.rules.specs.Translate.{stop, code_for, instructions_for, cost, table_for}
use Rattle.rules.specs.declared.FormulaRefusal.{FormulaRefusal}
use Rattle.rules.specs.Answers.{Formulated}
use Rattle.rules.proofs.Zeros.{drop_zeros}
use Rattle.formula.specs.declared.parts.Cursor.{Cursor}
use Rattle.formula.specs.declared.parts.Reached.{Reached}
use Rattle.formula.specs.declared.reading.Level.TheVariants.{Sum}
use Rattle.formula.specs.Parts.{ReadTo, reading_from, chain_of, Ended, blank, Whole}
use Rattle.formula.proofs.Costs.{code_length, program_length}

-- STOP is a place of zeros
one_more_lem : (n k : ℕ) → n ≡ k + 1 → replicate {A = ℕ} n 0 ≡ stop ∷ replicate k 0
one_more_lem n k e = ap (λ (i : ℕ). replicate {A = ℕ} i 0) (let same : n ≡ suc k = omega arith in same)

-- the code written over zeros is the tree's table
written_table : (t : Tree) → cost t + 1 ≤ max_program → splice blank 0 (code_for t) ≡ table_for t
written_table t h =
    let c : length (code_for t) ≡ cost t = code_length t in
    let n : length (instructions_for t) ≡ cost t + 1 = program_length t in
    let rest : drop (0 + length (code_for t)) blank ≡ replicate (max_program - (0 + length (code_for t))) 0 = drop_zeros (0 + length (code_for t)) max_program in
    ap (λ (l : List ℕ). code_for t ++ l)
    (rest ∙ one_more_lem (max_program - (0 + length (code_for t))) (max_program - length (instructions_for t)) (omega arith))
    ∙ sym (append_assoc (code_for t) (stop ∷ []) (replicate (max_program - length (instructions_for t)) 0))

-- a whole formula is read from there
abbrev start : Cursor
start = record { at = 0; written = 0; owed = 1; nesting = max_nesting }

module _ (f : List ℕ) where
  abbrev all : Reading
  all = reading_from f (chain_of Sum (operand max_nesting)) start

  parsed : (x : Reading) → all ≡ x → parse f ≡ whole x
  unfolding parse
  parsed x e = ap whole e

  pub whole_refused : (e : FormulaRefusal) → all ≡ refused e → parse f ≡ unfit e
  whole_refused e h = parsed (refused e) h

  pub whole_read : (after : List ℕ) (q : Reached) (r : Formulated) → ReadTo f all blank after start q → Ended f q r → Whole f after r
  whole_read after q (Ok p) r e = (
    r.tree,
    parsed (read r.tree (q.written + 1) []) (r.reading ∙ ap (read r.tree (q.written + 1)) e.2),
    omega (arith, program_length r.tree, r.count, e.0),
    e.1 ∙ r.deep,
    r.code ∙ written_table r.tree (omega (arith, r.count, r.fits)),
  )
  whole_read after q (Err c) r e =
      parsed (read r.tree (q.written + 1) (e.0 ∷ e.1)) (r.reading ∙ ap (read r.tree (q.written + 1)) e.2) ∙ ap unfit (sym e.3)
