-- Laws of the judgement of one token, for the assembler and for any text whose tokens are known. Assumes nothing.
use Rattle.std.proofs.Common.{◌≡◌, ℕ, ◌+◌, ◌<◌, ◌≤◌, true, false, ltb, List, length, Option, Some, None, refl, ap, ◌∙◌}
use Rattle.std.specs.Option.{is_some}
use Rattle.std.proofs.lemmas.Bool.{le-leb, lt-leb, lt-ltb, le-ltb, ltb-true, ltb-false}
use Rattle.std.proofs.lemmas.Option.{cond_some}
use Rattle.rules.specs.Sizes.{max_program, max_labels, max_label}
use Rattle.rules.specs.Tokens.{Token}
use Rattle.rules.specs.Instructions.{codes, kind_of}
use Rattle.rules.specs.Table.{place_of}
use Rattle.rules.specs.Assemble.{code_named, allowed_run, body, is_label, lookup, finished, instruction, operand_for, Progress, operand_of_kind, go, stop, with_label, with_item, awaiting, new_label, begun_as, new_name, new_operand, judge_token}
use Rattle.rules.specs.declared.Kind.{Kind}
use Rattle.rules.specs.declared.Kind.TheVariants.{Bare, Immediate, Pattern, Offset, Target, Character}
use Rattle.rules.specs.declared.TextRefusal.TheVariants.{ForbiddenByte, NoInstruction, LabelTwice, TooManyInstructions, TooManyLabels, LabelTooLong}
use Rattle.assembler.specs.Held.{found_of}
use Rattle.program.specs.NameWords.{named}
use Rattle.rules.proofs.Judging.{token_allowed, name_new}
use Rattle.assembler.proofs.Options.{none_is, some_is, none_false}

-- ---- a label, at the search that was made

module _ (s : Progress) (at : ℕ) (w : List ℕ) where
  pub label_long : max_label < length w → new_label s at w ≡ stop LabelTooLong at
  unfolding new_label
  label_long h = rw (lt-ltb max_label (length w) h)

  module _ (short : length w ≤ max_label) (o : Option ℕ) (found : lookup s.labels w ≡ found_of o) where
    pub label_twice : is_some o ≡ true → new_label s at w ≡ stop LabelTwice at
    unfolding new_label
    label_twice k =
        let a = some_is o k in
        rw (le-ltb max_label (length w) short, found, a.1)

    pub label_many : is_some o ≡ false → max_labels ≤ length s.labels → new_label s at w ≡ stop TooManyLabels at
    unfolding new_label
    label_many k l = rw (le-ltb max_label (length w) short, found, none_is o k, le-leb max_labels (length s.labels) l)

    pub label_new : is_some o ≡ false → length s.labels < max_labels → new_label s at w ≡ go (with_label s w)
    unfolding new_label
    label_new k l = rw (le-ltb max_label (length w) short, found, none_is o k, lt-leb max_labels (length s.labels) l)

-- ---- a name

begun_waits : (s : Progress) (c : ℕ) (k : Kind) → (k ≡ Bare → ⊥) → begun_as s c k ≡ go (awaiting s c)
begun_waits s c Bare h = absurd (h refl)
begun_waits s c Immediate h = refl
begun_waits s c Pattern h = refl
begun_waits s c Offset h = refl
begun_waits s c Target h = refl
begun_waits s c Character h = refl

module _ (s : Progress) (at c : ℕ) where
  pub name_none : codes ≤ c → new_name s at c ≡ stop NoInstruction at
  unfolding new_name
  name_none h = rw (le-ltb c codes h)

  pub name_many : c < codes → max_program ≤ length s.items → new_name s at c ≡ stop TooManyInstructions at
  unfolding new_name
  name_many h k = rw (lt-ltb c codes h, le-leb max_program (length s.items) k)

  pub name_alone : c < codes → length s.items < max_program → kind_of c ≡ Bare → new_name s at c ≡ go (with_item s (finished (place_of c 0)))
  name_alone h k l = name_new s at c h k ∙ ap (begun_as s c) l

  pub name_waits : c < codes → length s.items < max_program → (kind_of c ≡ Bare → ⊥) → new_name s at c ≡ go (awaiting s c)
  name_waits h k l = name_new s at c h k ∙ begun_waits s c (kind_of c) l

-- ---- a token

module _ (s : Progress) (t : Token) where
  pub step_bad : allowed_run t.text < length t.text → judge_token s t ≡ stop ForbiddenByte (t.at + allowed_run t.text)
  unfolding judge_token
  step_bad h = rw (lt-ltb (allowed_run t.text) (length t.text) h)

  pub step_label : length t.text ≤ allowed_run t.text → s.awaited ≡ instruction → is_label t.text ≡ true → judge_token s t ≡ new_label s t.at (body t.text)
  step_label h k l = token_allowed s t h ∙ rw (k, l)

  pub step_name : length t.text ≤ allowed_run t.text → s.awaited ≡ instruction → is_label t.text ≡ false → judge_token s t ≡ new_name s t.at (code_named t.text)
  step_name h k l = token_allowed s t h ∙ rw (k, l)

  pub step_operand : length t.text ≤ allowed_run t.text → (c : ℕ) → s.awaited ≡ operand_for c → judge_token s t ≡ new_operand s t.at (operand_of_kind (kind_of c) c t.at t.text)
  step_operand h c k = token_allowed s t h ∙ rw k

-- ---- the code of a name

pub named_none : (k : ℕ) → named k ≡ None → codes ≤ k
named_none k e = ltb-false k codes (none_false (ltb k codes) k e)

pub named_some : (k c : ℕ) → named k ≡ Some c → (k < codes) × (k ≡ c)
named_some k c e =
    let h = cond_some (ltb k codes) k c e in
    (ltb-true k codes h.0, h.1)
