-- Request a: "Tell the technician the line." For every source and every table that is lent, a refusal of the assembler tells a place, a line and a
-- column as specs/Refusals.antt promises: 31 and 21 tell none; any other tells three that name the same byte of the source, or its end where an
-- operand is missing. Assumes nothing.
use Rattle.std.specs.Prelude.{Ok, Err}
use Prim.Native.Nat.{ℕ}
use mathlib.Core.Path.{◌≡◌, refl, sym, ap, ◌∙◌, subst}
use mathlib.Core.Bool.{true, false≢true}
use mathlib.Core.List.{List}
use lib.Dec.{eqb, leb}
use lib.ListN.{length}
use Rattle.rules.specs.Sizes.{max_source, max_program}
use Rattle.rules.specs.Positions.{position_of, no_position}
use Rattle.rules.specs.Numbers.{text_number}
use Rattle.rules.specs.Assemble.{Outcome, done, refused, Assembly, assembly, translated, assemble}
use Rattle.rules.specs.declared.TextRefusal.{TextRefusal}
use Rattle.rules.specs.declared.Position.{Position}
use Rattle.rules.specs.Answers.{Assembled}
use Rattle.rules.proofs.Tests.{either}
use Rattle.promises.specs.Refusals.{of_no_byte, Placed}
use Rattle.promises.proofs.Lines.{same_byte}
use Rattle.promises.proofs.RefusalPlaces.{Right, RightOutcome, translated_right}

module _ (source : List ℕ) where
  -- 31 and 21
  placed_nowhere : (number : ℕ) → of_no_byte number ≡ true → Placed source number no_position
  placed_nowhere number h =
      record {
        none = λ t. refl;
        same = λ f. absurd (false≢true (sym f ∙ h));
        end = λ q. absurd (false≢true (sym (ap of_no_byte q) ∙ h));
        inside = λ f q. absurd (false≢true (sym f ∙ h));
      }

  placed_right : (e : TextRefusal) (at : ℕ) → Right (length source) e at → Placed source (text_number e) (position_of source at)
  unfolding position_of
  placed_right e at w =
      record {
        none = λ t. absurd (false≢true (sym w.of_byte ∙ t));
        same = λ f. same_byte source at w.within;
        end = w.end;
        inside = λ f. w.inside;
      }

  -- what is promised of an answer, and so of the assembly that has it
  abbrev PlacedAnswer : Assembled → Type 0
  PlacedAnswer (Ok n) = Unit {0}
  PlacedAnswer (Err x) = Placed source (text_number x.refusal) x.position

  abbrev PlacedAssembly : Assembly → Type 0
  PlacedAssembly a = PlacedAnswer a.answer

  placed_outcome : (table : List ℕ) (r : Outcome) → RightOutcome (length source) r → PlacedAssembly (assembly source table r)
  placed_outcome table (done ws) w = tt
  placed_outcome table (refused e at) w = placed_right e at w

  -- the table's length, the source's length, then what is read
  placed_answer : (table : List ℕ) → PlacedAssembly (assemble source table)
  unfolding assemble
  placed_answer table =
      either PlacedAssembly (eqb (length table) max_program)
      (either PlacedAssembly (leb (length source) max_source)
      (placed_outcome table (translated source) (translated_right source)) (placed_nowhere 21 refl))
      (placed_nowhere 31 refl)

pub refusal_placed : (source table : List ℕ) (e : TextRefusal) (p : Position) → (assemble source table).answer ≡ Err (record { refusal = e; position = p })
    → Placed source (text_number e) p
refusal_placed source table e p q = subst (PlacedAnswer source) q (placed_answer source table)
