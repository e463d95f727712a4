-- An operand, by what stands next: a leaf, unary minus before an operand, a sum in brackets; and room for what is written behind it. Assumes nothing.
use Rattle.std.specs.Prelude.{Ok, Err}
use Prim.Native.Nat.{ℕ, zero, suc, ◌+◌, ◌-◌, ◌≤◌, max}
use mathlib.Core.Path.{◌≡◌, refl, sym, ap, ap₂, ◌∙◌}
use mathlib.Core.Bool.{true}
use mathlib.Core.List.{List, [], ◌∷◌}
use native.Mathlib.Omega.{arith}
use lib.ListN.{length}
use borrow.Author.Tests.{le-leb, leb-true}
use Rattle.rules.specs.Lists.{splice}
use Rattle.rules.specs.Sizes.{max_program, max_integer}
use Rattle.rules.specs.Grammar as Grammar
use Rattle.rules.specs.Grammar.{Tree, number, name, negative, Token, digits, letter, sign, opening, Reading, read, refused, Reader, require, affordable, negated, minus, closed_by, bracketed, too_deep, operand_by, operand}
use Rattle.rules.specs.Translate.{push_number, push_name, negation, code_for, cost, depth}
use Rattle.rules.specs.declared.Operator.TheVariants.{Subtract}
use Rattle.rules.specs.declared.FormulaRefusal.{FormulaRefusal}
use Rattle.rules.specs.declared.FormulaRefusal.TheVariants.{CostTooHigh}
use Rattle.formula.specs.declared.parts.Cursor.{Cursor}
use Rattle.formula.specs.declared.parts.Reached.{Reached}
use Rattle.formula.specs.declared.reading.Level.TheVariants.{Sum}
use Rattle.formula.specs.declared.scan.Next.TheVariants.{Number, Name}
use Rattle.formula.specs.Scans.{tokens_from, Stands}
use Rattle.formula.specs.Parts.{Part, ReadTo, Reads, reading_from, chain_of, Start, Leaves, Pushed, negated_to, Closed}
use Rattle.formula.proofs.Costs.{code_length, code_beside, depth_cost}

-- what reads on behind a minus sign, and behind a bracket
abbrev pub behind_sign : ℕ → Reader
behind_sign zero = too_deep
behind_sign (suc nesting) = minus (operand nesting)

abbrev pub behind_bracket : ℕ → Reader
behind_bracket zero = too_deep
behind_bracket (suc nesting) = bracketed (operand nesting)

-- an operand by the token that stands first, however deep
pub operand_is : (nesting spent : ℕ) (ts : List Token) → operand nesting spent ts ≡ operand_by (behind_sign nesting) (behind_bracket nesting) spent ts
unfolding operand
operand_is zero spent ts = refl
operand_is (suc nesting) spent ts = refl

module _ (f before : List ℕ) (from : Cursor) (start : Start before from) where
  -- a tree of one instruction, where what is read asks for its cost alone
  pushed_reads : (reads : Reader) (t : Tree) (place end : ℕ) (after : List ℕ) (r : Part) → Pushed before after place end from r
      → code_for t ≡ place ∷ [] → cost t ≡ 1 → depth t ≡ 1
      → reading_from f reads from ≡ require (affordable (from.written + from.owed + 1)) CostTooHigh (read t (from.written + from.owed + 1) (tokens_from f end))
      → Reads f reads before after from r
  pushed_reads reads t place end after (Ok q) p hc one deep e =
      let fits : from.written + from.owed + 1 ≤ max_program = leb-true (from.written + from.owed + 1) max_program p.0 in
      let same : from.written + from.owed + 1 ≡ from.written + 1 + from.owed = omega arith in
      rw p.1
      (record {
        tree = t;
        reading = e ∙ rw p.0 (ap (λ (n : ℕ). read t n (tokens_from f end)) same);
        code = p.2 ∙ ap (splice before from.written) (sym hc);
        count = ap (λ (n : ℕ). from.written + n) (sym one);
        deep = sym deep;
        fits = omega arith;
      })
  pushed_reads reads t place end after (Err x) p hc one deep e = rw p.1 (e ∙ rw p.0)

  pub number_reads : (n place end : ℕ) (after : List ℕ) (r : Part) → Pushed before after place end from r → place ≡ push_number n
      → Stands f (tokens_from f from.at) (Number n end) → Reads f (operand from.nesting) before after from r
  unfolding code_for cost depth
  number_reads n place end after r p e ts =
      pushed_reads (operand from.nesting) (number n) place end after r p (ap (λ (p : ℕ). p ∷ []) (sym e)) refl refl
      (ap (operand from.nesting (from.written + from.owed)) ts.0 ∙ operand_is from.nesting (from.written + from.owed) (digits n ∷ tokens_from f end)
      ∙ rw (le-leb n max_integer ts.1))

  pub name_reads : (k place end : ℕ) (after : List ℕ) (r : Part) → Pushed before after place end from r → place ≡ push_name k
      → Stands f (tokens_from f from.at) (Name k end) → Reads f (operand from.nesting) before after from r
  unfolding code_for cost depth
  name_reads k place end after r p e ts =
      pushed_reads (operand from.nesting) (name k) place end after r p (ap (λ (p : ℕ). p ∷ []) (sym e)) refl refl
      (ap (operand from.nesting (from.written + from.owed)) ts.0 ∙ operand_is from.nesting (from.written + from.owed) (letter k ∷ tokens_from f end))

  -- behind a sign or a bracket that ends there
  module _ (end : ℕ) (some : from.nesting ≡ suc (from.nesting - 1)) where
    abbrev inner : Cursor
    inner = record { at = end; written = from.written; owed = from.owed; nesting = from.nesting - 1 }

    abbrev behind : Cursor
    behind = record { at = end; written = from.written; owed = from.owed + 2; nesting = from.nesting - 1 }

    minus_on : tokens_from f from.at ≡ sign Subtract ∷ tokens_from f end
        → reading_from f (operand from.nesting) from
        ≡ require (affordable (from.written + from.owed + 2)) CostTooHigh (negated (reading_from f (operand (from.nesting - 1)) behind))
    unfolding operand
    minus_on e =
        let spent : from.written + from.owed + 2 ≡ from.written + (from.owed + 2) = omega arith in
        ap₂ (λ (n : ℕ) (ts : List Token). operand n (from.written + from.owed) ts) some e
        ∙ ap
        (λ (n : ℕ).
        require (affordable (from.written + from.owed + 2)) CostTooHigh (negated (operand (from.nesting - 1) n (tokens_from f end))))
        spent

    pub minus_refused : (e : FormulaRefusal) → tokens_from f from.at ≡ sign Subtract ∷ tokens_from f end → affordable (from.written + from.owed + 2) ≡ true
        → reading_from f (operand (from.nesting - 1)) behind ≡ refused e → reading_from f (operand from.nesting) from ≡ refused e
    minus_refused c e a r = minus_on e ∙ rw a (ap negated r)

    pub minus_reads : (after : List ℕ) (q : Reached) → tokens_from f from.at ≡ sign Subtract ∷ tokens_from f end → affordable (from.written + from.owed + 2) ≡ true
        → ReadTo f (reading_from f (operand (from.nesting - 1)) behind) before after behind q
        → ReadTo f (reading_from f (operand from.nesting) from) before (splice after q.written negation) from (negated_to q)
    unfolding code_for cost depth
    minus_reads after q e a r =
        let spent : q.written + (from.owed + 2) ≡ q.written + 2 + from.owed = omega arith in
        record {
          tree = negative r.tree;
          reading = minus_on e ∙ rw a (ap negated r.reading ∙ ap (λ (n : ℕ). read (negative r.tree) n (tokens_from f q.at)) spent);
          code =
              code_beside before after (code_for r.tree) negation from.written q.written r.code (omega (arith, r.count, code_length r.tree))
              (omega (arith, r.fits, start.places));
          count = omega (arith, r.count);
          deep = ap (λ (d : ℕ). max d 2) r.deep;
          fits = omega (arith, r.fits);
        }

    bracket_on : tokens_from f from.at ≡ opening ∷ tokens_from f end
        → reading_from f (operand from.nesting) from ≡ Grammar.after closed_by (reading_from f (chain_of Sum (operand (from.nesting - 1))) inner)
    unfolding operand
    bracket_on e = ap₂ (λ (n : ℕ) (ts : List Token). operand n (from.written + from.owed) ts) some e

    pub bracket_refused : (e : FormulaRefusal) → tokens_from f from.at ≡ opening ∷ tokens_from f end
        → reading_from f (chain_of Sum (operand (from.nesting - 1))) inner ≡ refused e → reading_from f (operand from.nesting) from ≡ refused e
    bracket_refused c e r = bracket_on e ∙ ap (Grammar.after closed_by) r

    pub bracket_reads : (after : List ℕ) (p : Reached) (r : Part) → tokens_from f from.at ≡ opening ∷ tokens_from f end
        → ReadTo f (reading_from f (chain_of Sum (operand (from.nesting - 1))) inner) before after inner p → Closed f p r
        → Reads f (operand from.nesting) before after from r
    bracket_reads after p (Ok q) e r c =
        record {
          tree = r.tree;
          reading =
              bracket_on e ∙ ap (Grammar.after closed_by) r.reading ∙ c.2 r.tree (p.written + from.owed)
              ∙ ap (λ (n : ℕ). read r.tree (n + from.owed) (tokens_from f q.at)) (sym c.0);
          code = r.code;
          count = c.0 ∙ r.count;
          deep = c.1 ∙ r.deep;
          fits = omega (arith, r.fits, c.0);
        }
    bracket_reads after p (Err x) e r c = bracket_on e ∙ ap (Grammar.after closed_by) r.reading ∙ c r.tree (p.written + from.owed)

-- ---- room for what is written behind a part that was read

pub read_room : (f : List ℕ) (x : Reading) (before after : List ℕ) (from : Cursor) (q : Reached) (n : ℕ) → ReadTo f x before after from q
    → length after ≡ max_program → n ≤ from.owed → Leaves after q n
read_room f x before after from q n r l k =
    record { places = l; fits = omega (arith, r.fits); shallow = omega (arith, r.fits, r.count, r.deep, depth_cost r.tree) }

pub ruleset operands = (operand_is, number_reads, name_reads, minus_reads, bracket_reads)
