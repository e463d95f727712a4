-- Request a: where the assembler refuses a source. An operand that is missing is told at the source's end; every other refusal of a translated source
-- stands at one of its bytes, and none of them is 31 or 21, which are about no byte. Assumes nothing.
use Rattle.std.specs.Prelude.{Ok, Err}
use Prim.Native.Nat.{ℕ, ◌+◌, ◌-◌, ◌^◌, ◌≤◌, ◌<◌}
use mathlib.Core.Path.{◌≡◌, refl}
use mathlib.Core.Bool.{Bool, true, false, ◌||◌}
use mathlib.Core.List.{List, [], ◌∷◌}
use native.Mathlib.Omega.{arith}
use lib.Dec.{eqb, leb, ltb}
use lib.ListN.{length}
use borrow.Author.Tests.{ltb-true, eqb-false}
use Rattle.rules.specs.Sizes.{max_program, max_labels, max_label, max_offset, max_character}
use Rattle.rules.specs.Bytes.{is_word}
use Rattle.rules.specs.Tokens.{Token, tokens}
use Rattle.rules.specs.Operands.{number_of, float_of}
use Rattle.rules.specs.Numbers.{text_number}
use Rattle.rules.specs.Instructions.{codes, kind_of}
use Rattle.rules.specs.Table.{place_of}
use Rattle.rules.specs.Assemble.{code_named, allowed_run, body, is_label, Label, Found, nowhere, found_at, lookup, Item, finished, numbered, beyond, labelled, Awaited, instruction, operand_for, Progress, Reading, item, bad, plain_number, target_number, target_label}
use Rattle.rules.specs.Assemble.{target_of, operand_of_kind, Judged, go, stop, add_label, new_label, begun_as, new_name, new_operand, judge_as, judge_token, Outcome, done, refused, join, settle_label, settle, finish_as, finish, after, judge, nothing, translated}
use Rattle.rules.specs.declared.Kind.{Kind}
use Rattle.rules.specs.declared.Kind.TheVariants.{Bare, Immediate, Pattern, Offset, Target, Character}
use Rattle.rules.specs.Answers.{Numeral}
use Rattle.rules.specs.declared.NumeralFault.TheVariants.{WrongForm, OutOfRange}
use Rattle.rules.specs.declared.TextRefusal.{TextRefusal}
use Rattle.rules.specs.declared.TextRefusal.TheVariants.{ForbiddenByte, NoInstruction, OperandMissing, OperandRange, LabelTwice, LabelUnknown, TooManyInstructions, TooManyLabels, LabelTooLong, OperandForm}
use Rattle.rules.proofs.Tests.{by_test, either, or_left, or_right}
use Rattle.promises.specs.Refusals.{of_no_byte}
use Rattle.promises.specs.Each.{Each}
use Rattle.promises.proofs.Each.{each_one_more}
use Rattle.promises.proofs.TokenPlaces.{Between, Lie, tokens_lie}

-- ---- a refusal told at the right place of a source of that size

-- it is about a byte: 24 about the one that the source lacks at its end, and every other about one that it has
pub record Right (size : ℕ) (e : TextRefusal) (at : ℕ) : Type 0 where
  pub of_byte : of_no_byte (text_number e) ≡ false
  pub within : at ≤ size
  pub end : text_number e ≡ 24 → at ≡ size
  pub inside : (text_number e ≡ 24 → ⊥) → at < size

module _ (size : ℕ) where
  -- any number but 31, 21 and 24, at a byte
  right_inside : (e : TextRefusal) (at : ℕ) → (of_no_byte (text_number e) || eqb (text_number e) 24) ≡ false → at < size → Right size e at
  right_inside e at k h =
      let n = text_number e in
      record {
        of_byte = or_left (of_no_byte n) (eqb n 24) k;
        within = omega arith;
        end = λ q. absurd (eqb-false n 24 (or_right (of_no_byte n) (eqb n 24) k) q);
        inside = λ q. h;
      }

  right_end : Right size OperandMissing size
  right_end = record { of_byte = refl; within = omega arith; end = λ q. refl; inside = λ q. absurd (q refl) }

  -- the place at which an item may yet be refused is that of a byte
  abbrev Inside : Item → Type 0
  Inside (finished w) = Unit {0}
  Inside (numbered c at v) = at < size
  Inside (beyond at) = at < size
  Inside (labelled c at t) = at < size

  -- and so for the items so far
  abbrev Kept : Progress → Type 0
  Kept s = Each Inside s.items

  -- what a reading of the operand at that place, a judgement and an outcome may refuse is told at the right place
  abbrev RightReading : ℕ → Reading → Type 0
  RightReading at (item i) = Inside i
  RightReading at (bad e) = Right size e at

  abbrev RightJudged : Judged → Type 0
  RightJudged (go s) = Kept s
  RightJudged (stop e at) = Right size e at

  abbrev pub RightOutcome : Outcome → Type 0
  RightOutcome (done ws) = Unit {0}
  RightOutcome (refused e at) = Right size e at

  -- ---- one token, whose place is at

  module _ (at : ℕ) (h : at < size) where
    here : (e : TextRefusal) → (of_no_byte (text_number e) || eqb (text_number e) 24) ≡ false → Right size e at
    here e k = right_inside e at k h

    plain_right : (c : ℕ) (n : Numeral) → RightReading at (plain_number c n)
    plain_right c (Ok v) = tt
    plain_right c (Err WrongForm) = here OperandForm refl
    plain_right c (Err OutOfRange) = here OperandRange refl

    target_right : (c : ℕ) (n : Numeral) → RightReading at (target_number c at n)
    target_right c (Ok v) = h
    target_right c (Err WrongForm) = here OperandForm refl
    target_right c (Err OutOfRange) = h

    target_word_right : (c : ℕ) (t : List ℕ) (b : Bool) → RightReading at (target_of c at t b)
    unfolding target_label
    target_word_right c t true = either (RightReading at) (leb (length t) max_label) h (here LabelTooLong refl)
    target_word_right c t false = target_right c (number_of 0 max_program t)

    operand_right : (k : Kind) (c : ℕ) (t : List ℕ) → RightReading at (operand_of_kind k c at t)
    operand_right Bare c t = here OperandForm refl
    operand_right Immediate c t = plain_right c (number_of (2 ^ 31) (2 ^ 31 - 1) t)
    operand_right Pattern c t = plain_right c (float_of t)
    operand_right Offset c t = plain_right c (number_of max_offset max_offset t)
    operand_right Target c t = target_word_right c t (is_word t)
    operand_right Character c t = plain_right c (number_of 0 max_character t)

    module _ (s : Progress) (kept : Kept s) where
      add_right : (w : List ℕ) (f : Found) → RightJudged (add_label s at w f)
      add_right w (found_at a) = here LabelTwice refl
      add_right w nowhere = either RightJudged (leb max_labels (length s.labels)) (here TooManyLabels refl) kept

      label_right : (w : List ℕ) → RightJudged (new_label s at w)
      unfolding new_label
      label_right w = either RightJudged (ltb max_label (length w)) (here LabelTooLong refl) (add_right w (lookup s.labels w))

      begun_right : (c : ℕ) (k : Kind) → RightJudged (begun_as s c k)
      begun_right c Bare = each_one_more Inside s.items (finished (place_of c 0)) kept tt
      begun_right c Immediate = kept
      begun_right c Pattern = kept
      begun_right c Offset = kept
      begun_right c Target = kept
      begun_right c Character = kept

      name_right_lem : (c : ℕ) → RightJudged (new_name s at c)
      unfolding new_name
      name_right_lem c =
          either RightJudged (ltb c codes)
          (either RightJudged (leb max_program (length s.items)) (here TooManyInstructions refl) (begun_right c (kind_of c)))
          (here NoInstruction refl)

      read_right : (r : Reading) → RightReading at r → RightJudged (new_operand s at r)
      read_right (item i) w = each_one_more Inside s.items i kept w
      read_right (bad e) w = w

      judged_right : (w : List ℕ) (a : Awaited) → RightJudged (judge_as s at w a)
      judged_right w instruction = either RightJudged (is_label w) (label_right (body w)) (name_right_lem (code_named w))
      judged_right w (operand_for c) = read_right (operand_of_kind (kind_of c) c at w) (operand_right (kind_of c) c w)

  -- 22 is told at the byte itself, which is one of the token
  token_right : (s : Progress) (t : Token) → Kept s → Between 0 size t → RightJudged (judge_token s t)
  unfolding judge_token
  token_right s t kept w =
      let run = allowed_run t.text in
      by_test (ltb run (length t.text))
      (λ e. rw e (right_inside ForbiddenByte (t.at + run) refl (omega (arith, w.to, ltb-true run (length t.text) e))))
      (λ e. rw e (judged_right t.at (omega (arith, w.some, w.to)) s kept t.text s.awaited))

  -- ---- all tokens, and the targets after them

  join_right : (w : ℕ) (r : Outcome) → RightOutcome r → RightOutcome (join w r)
  join_right w (done ws) k = tt
  join_right w (refused e at) k = k

  settle_label_right : (c at : ℕ) (f : Found) (r : Outcome) → at < size → RightOutcome r → RightOutcome (settle_label c at f r)
  settle_label_right c at (found_at a) r h k = join_right (place_of c a) r k
  settle_label_right c at nowhere r h k = right_inside LabelUnknown at refl h

  settle_right : (n : ℕ) (ls : List Label) (is : List Item) → Each Inside is → RightOutcome (settle n ls is)
  unfolding settle
  settle_right n ls [] h = tt
  settle_right n ls (finished w ∷ is) h = join_right w (settle n ls is) (settle_right n ls is h.1)
  settle_right n ls (numbered c at v ∷ is) h =
      either RightOutcome (leb v n)
      (join_right (place_of c v) (settle n ls is) (settle_right n ls is h.1)) (right_inside OperandRange at refl h.0)
  settle_right n ls (beyond at ∷ is) h = right_inside OperandRange at refl h.0
  settle_right n ls (labelled c at t ∷ is) h =
      settle_label_right c at (lookup ls t) (settle n ls is) h.0 (settle_right n ls is h.1)

  finish_right : (s : Progress) (a : Awaited) → Kept s → RightOutcome (finish_as size s a)
  finish_right s instruction kept = settle_right (length s.items) s.labels s.items kept
  finish_right s (operand_for c) kept = right_end

  after_right : (f : Progress → Outcome) (j : Judged) → RightJudged j → ((s : Progress) → Kept s → RightOutcome (f s))
      → RightOutcome (after f j)
  after_right f (go s) w k = k s w
  after_right f (stop e at) w k = w

  judge_right : (ts : List Token) (s : Progress) → Kept s → Lie 0 size ts → RightOutcome (judge size s ts)
  unfolding judge finish
  judge_right [] s kept w = finish_right s s.awaited kept
  judge_right (t ∷ ts) s kept w =
      after_right (λ s'. judge size s' ts) (judge_token s t) (token_right s t kept w.0) (λ s' k. judge_right ts s' k w.1)

-- every refusal of a source that is translated is told at the right place
pub translated_right : (source : List ℕ) → RightOutcome (length source) (translated source)
unfolding translated
translated_right source =
    judge_right (length source) (tokens 0 source) nothing tt (tokens_lie source 0 (length source) (omega arith))
