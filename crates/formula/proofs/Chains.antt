-- A chain, read and its code written, one operator at a time: what is read of the whole is what is read on from where the loop stands. Assumes nothing.
use Prim.Native.Nat.{ℕ, suc, ◌+◌, ◌-◌, ◌≤◌, ◌<◌, max}
use mathlib.Core.Path.{◌≡◌, ap, ap₂, ◌∙◌, subst}
use mathlib.Core.Bool.{true}
use mathlib.Core.List.{List, [], ◌∷◌, ◌++◌, append_assoc}
use native.Mathlib.Omega.{arith}
use lib.ListN.{length, drop, length-append}
use Rattle.std.specs.Prelude.{Ok, Err}
use Rattle.rules.specs.Lists.{splice}
use Rattle.rules.specs.Sizes.{max_program}
use Rattle.rules.specs.Grammar as Grammar
use Rattle.rules.specs.Grammar.{Tree, joined, Token, sign, Reading, read, refused, Reader, require, affordable, is_product, operator, none, following, chain, operand}
use Rattle.rules.specs.Translate.{operation, code_for, cost, depth}
use Rattle.rules.specs.declared.Operator.{Operator}
use Rattle.rules.specs.declared.FormulaRefusal.{FormulaRefusal}
use Rattle.rules.specs.declared.FormulaRefusal.TheVariants.{CostTooHigh}
use Rattle.formula.specs.declared.parts.Cursor.{Cursor}
use Rattle.formula.specs.declared.parts.Reached.{Reached}
use Rattle.formula.specs.declared.reading.Level.{Level}
use Rattle.formula.specs.declared.reading.Level.TheVariants.{Sum, Product}
use Rattle.formula.specs.Scans.{tokens_from}
use Rattle.formula.specs.Parts.{Owing, ReadTo, reading_from, these, side, chain_of, joined_to, with_operation}
use Rattle.formula.proofs.Costs.{code_length, code_beside}
use Rattle.formula.proofs.Readings.{GoodReading, GoodReader, tokens_lettered, chained_good, deepest, operand_good}
use Rattle.formula.proofs.Turns.{chain_ends}
use Rattle.formula.proofs.Operands.{read_room}

-- ---- tokens are used up

abbrev most : Level → ℕ → ℕ
most Sum nesting = deepest nesting + 1
most Product nesting = deepest nesting

side_good : (level : Level) (nesting : ℕ) → GoodReader (most level nesting) (side level (operand nesting))
side_good Sum nesting = chained_good is_product (deepest nesting) (operand nesting) (operand_good nesting)
side_good Product nesting = operand_good nesting

fewer : (m spent : ℕ) (ts rest : List Token) (x : Reading) (t : Tree) (n : ℕ) → GoodReading m spent ts x → x ≡ read t n rest → length rest < length ts
fewer m spent ts rest x t n g e = let h = subst (GoodReading m spent ts) e g in h.shorter

-- how many tokens are left there
abbrev pub left : List ℕ → ℕ → ℕ
left f at = length (tokens_from f at)

-- a side, and a whole chain
abbrev pub side_at : Level → Cursor → Reader
side_at level from = side level (operand from.nesting)

abbrev pub all_from : List ℕ → Level → Cursor → Reading
all_from f level from = reading_from f (chain_of level (operand from.nesting)) from

side_fewer : (f : List ℕ) (level : Level) (from : Cursor) (end : ℕ) (t : Tree) (n : ℕ)
    → reading_from f (side_at level from) from ≡ read t n (tokens_from f end) → left f end < left f from.at
side_fewer f level from end t n e =
    let spent : ℕ = from.written + from.owed in
    let ts : List Token = tokens_from f from.at in
    fewer (most level from.nesting) spent ts (tokens_from f end) (side_at level from spent ts) t n
    (side_good level from.nesting spent ts (tokens_lettered (drop from.at f))) e

-- ---- where the loop stands

-- the tree so far, and what is read on from it
pub record Turning (f : List ℕ) (level : Level) (before : List ℕ) (from : Cursor) (table : List ℕ) (q : Reached) : Type 0 where
  pub tree : Tree
  pub turns : ℕ
  pub same : all_from f level from ≡ chain (these level) (side_at level from) turns tree (q.written + from.owed) (tokens_from f q.at)
  pub enough : left f q.at ≤ turns
  pub code : table ≡ splice before from.written (code_for tree)
  pub count : q.written ≡ from.written + cost tree
  pub deep : q.depth ≡ depth tree
  pub fits : q.written + from.owed ≤ max_program

-- at first it is one side
pub turning_first : {f before table : List ℕ} {from : Cursor} {q : Reached} (level : Level) → ReadTo f (reading_from f (side_at level from) from) before table from q
    → Turning f level before from table q
turning_first {f} {before} {table} {from} {q} level r =
    let less = side_fewer f level from q.at r.tree (q.written + from.owed) r.reading in
    record {
      tree = r.tree;
      turns = left f from.at;
      same = ap (Grammar.after (chain (these level) (side_at level from) (left f from.at))) r.reading;
      enough = omega arith;
      code = r.code;
      count = r.count;
      deep = r.deep;
      fits = r.fits;
    }

module _ {f before table : List ℕ} {level : Level} {from : Cursor} {q : Reached} (g : Turning f level before from table q) where
  abbrev on : ℕ → Tree → Reader
  on turns t = chain (these level) (side_at level from) turns t

  -- no operator follows
  pub turning_ends : following (these level) (tokens_from f q.at) ≡ none → ReadTo f (all_from f level from) before table from q
  turning_ends e =
      record {
        tree = g.tree;
        reading = g.same ∙ chain_ends (these level) (side_at level from) g.tree (q.written + from.owed) (tokens_from f q.at) g.turns e;
        code = g.code;
        count = g.count;
        deep = g.deep;
        fits = g.fits;
      }

  module _ (o : Operator) (end : ℕ) (stands : tokens_from f q.at ≡ sign o ∷ tokens_from f end) (is_one : these level o ≡ true) where
    -- where its right side is read from
    abbrev right : Cursor
    right = record { at = end; written = q.written; owed = from.owed + 1; nesting = from.nesting }

    -- a token was there, so that a turn is left
    one_less : left f q.at ≡ suc (left f end)
    one_less = ap length stands

    turning_on : all_from f level from
        ≡ require (affordable (q.written + from.owed + 1)) CostTooHigh
        (Grammar.after (λ t. on (g.turns - 1) (joined o g.tree t)) (reading_from f (side_at level from) right))
    unfolding chain
    turning_on =
        let turn : g.turns ≡ suc (g.turns - 1) = omega (arith, g.enough, one_less) in
        let spent : q.written + from.owed + 1 ≡ q.written + (from.owed + 1) = omega arith in
        g.same ∙ ap₂ (λ (n : ℕ) (ts : List Token). on n g.tree (q.written + from.owed) ts) turn stands ∙ rw is_one
        (ap
        (λ (n : ℕ).
        require (affordable (q.written + from.owed + 1)) CostTooHigh
        (Grammar.after (λ t. on (g.turns - 1) (joined o g.tree t)) (side_at level from n (tokens_from f end))))
        spent)

    pub turning_dear : {e : FormulaRefusal} → Owing (record right { owed = from.owed }) 1 (Err e) → all_from f level from ≡ refused e
    turning_dear a = turning_on ∙ rw (a.0, a.1)

    -- where one more may be owed
    module _ {c : Cursor} (owing : Owing (record right { owed = from.owed }) 1 (Ok c)) where
      pub turning_refused : {e : FormulaRefusal} → reading_from f (side_at level c) c ≡ refused e → all_from f level from ≡ refused e
      turning_refused r = turning_on ∙ rw owing.0 (ap (Grammar.after (λ t. on (g.turns - 1) (joined o g.tree t))) (rw owing.1 at r))

      -- a turn of the loop, with the operator's tree as the left side
      module _ {wrote : List ℕ} {p : Reached} (r : ReadTo f (reading_from f (side_at level c) c) table wrote c p) where
        read_right : ReadTo f (reading_from f (side_at level from) right) table wrote right p
        read_right = rw owing.1 at r

        less : left f p.at < left f end
        less = side_fewer f level right p.at read_right.tree (p.written + (from.owed + 1)) read_right.reading

        pub turning_less : left f p.at < left f q.at
        turning_less = omega (arith, less, one_less)

        pub turning_joined : length before ≡ max_program → Turning f level before from (with_operation wrote o p) (joined_to q p)
        unfolding code_for cost depth
        turning_joined room =
            let r = read_right in
            let spent : p.written + (from.owed + 1) ≡ p.written + 1 + from.owed = omega arith in
            let two : wrote ≡ splice before from.written (code_for g.tree ++ code_for r.tree) =
            r.code
            ∙ code_beside before table (code_for g.tree) (code_for r.tree) from.written q.written g.code (omega (arith, g.count, code_length g.tree))
            (omega (arith, room, r.fits, r.count, code_length r.tree)) in
            record {
              tree = joined o g.tree r.tree;
              turns = g.turns - 1;
              same =
                  turning_on
                  ∙ rw owing.0
                  (ap (Grammar.after (λ t. on (g.turns - 1) (joined o g.tree t))) r.reading
                  ∙ ap (λ (n : ℕ). on (g.turns - 1) (joined o g.tree r.tree) n (tokens_from f p.at)) spent);
              enough = omega (arith, one_less, less, g.enough);
              code =
                  code_beside before wrote (code_for g.tree ++ code_for r.tree) (operation o ∷ []) from.written p.written two
                  (omega (arith, g.count, r.count, code_length g.tree, code_length r.tree, length-append (code_for g.tree) (code_for r.tree)))
                  (omega (arith, room, r.fits))
                  ∙ ap (splice before from.written) (append_assoc (code_for g.tree) (code_for r.tree) (operation o ∷ []));
              count = omega (arith, g.count, r.count);
              deep = ap₂ (λ (m n : ℕ). max m (1 + n)) g.deep r.deep;
              fits = omega (arith, r.fits);
            }

pub ruleset turnings = (turning_first, turning_ends, turning_joined, read_room)
