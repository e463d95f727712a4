-- A listing, judged line by line: each line of a sound place becomes an item that settles to that place. Assumes nothing.
use Rattle.std.specs.Prelude.{Ok}
use Prim.Native.Nat.{ℕ, ◌+◌, ◌≤◌, ◌<◌}
use mathlib.Core.Path.{◌≡◌, refl, ap, sym, ◌∙◌}
use mathlib.Core.Bool.{true}
use mathlib.Core.List.{List, [], ◌∷◌, ◌++◌, append_assoc, append-nil}
use native.Mathlib.Omega.{arith}
use lib.Dec.{eqb}
use lib.ListN.{length, get_or, length-append}
use borrow.Author.Tests.{leb-true, eqb-true}
use Rattle.rules.specs.Lists.{all}
use Rattle.rules.specs.Sizes.{max_program, max_character}
use Rattle.rules.specs.Bytes.{LF, space, hash, is_word}
use Rattle.rules.specs.Tokens.{tokens}
use Rattle.rules.specs.Instructions.{codes, name_of, kind_of}
use Rattle.rules.specs.Table.{place_of, code_of, operand_of, within, sound_place}
use Rattle.rules.specs.Assemble.{Item, finished, numbered, instruction, Progress, item, plain_number, target_number, target_of, operand_of_kind, go, with_item, awaiting, begun_as, new_operand, judge_as, judge_token, done, settle, finish_as, judge, nothing, translated}
use Rattle.rules.specs.Listing.{decimal, signed_text, hex, operand_text, spaced, line_of, listing}
use Rattle.rules.specs.declared.Kind.{Kind}
use Rattle.rules.specs.declared.Kind.TheVariants.{Bare, Immediate, Pattern, Offset, Target, Character}
use Rattle.rules.proofs.Tests.{and_left, and_right}
use Rattle.rules.proofs.Tokens.{tokens_alone, tokens_line}
use Rattle.rules.proofs.Operands.{ranged_most}
use Rattle.rules.proofs.Texts.{decimal_first, number_decimal, number_signed, number_offset, float_hex}
use Rattle.rules.proofs.Names.{Wordlike, name_wordlike, name_no_label, code_named_lem}
use Rattle.rules.proofs.Lines.{wordlike_decimal, wordlike_signed, wordlike_pattern, sound_code, sound_operand}
use Rattle.rules.proofs.Judging.{token_allowed, name_new, judge_end, judge_go, Settles, settles_finished, settles_numbered, join_all, join_none, join_more, join_done, no_word, no_letter}

-- ---- the tokens of a line

one_token : (n : ℕ) (t rest : List ℕ) → Wordlike t → tokens n (t ++ LF ∷ rest) ≡ record { at = n; text = t } ∷ tokens (n + length t + 1) rest
one_token n [] rest f = absurd (omega (arith, f.some))
one_token n (b ∷ w) rest f = tokens_alone n b w rest f.plainly

two_tokens : (n : ℕ) (t v rest : List ℕ) → Wordlike t → Wordlike v → tokens n (t ++ space ∷ (v ++ LF ∷ rest)) ≡ record { at = n; text = t } ∷ record { at = n + length t + 1; text = v } ∷ tokens (n + length t + 1 + length v + 1) rest
two_tokens n [] v rest f g = absurd (omega (arith, f.some))
two_tokens n (b ∷ w) [] rest f g = absurd (omega (arith, g.some))
two_tokens n (b ∷ w) (d ∷ v) rest f g = tokens_line n b d w v rest f.plainly g.plainly

-- ---- one line

-- the bytes t, in front of the rest, add an item that settles to the place w
abbrev Adds : ℕ → ℕ → ℕ → Progress → ℕ → List ℕ → List ℕ → Type 0
Adds size n w s at t rest =
    (i : Item) × (m : ℕ) × (judge size s (tokens at (t ++ rest)) ≡ judge size (with_item s i) (tokens m rest)) × Settles n w i

module _ (size n w : ℕ) (s : Progress) (at : ℕ) (rest : List ℕ) (h : code_of w < codes) (hs : s.awaited ≡ instruction) (hn : length s.items < max_program) (hp : n ≤ max_program) where
  abbrev c : ℕ
  c = code_of w

  abbrev v : ℕ
  v = operand_of w

  -- where the operand stands
  abbrev m : ℕ
  m = at + length (name_of c) + 1

  whole : place_of c v ≡ w
  whole = omega arith

  named : judge_token s (record { at = at; text = name_of c }) ≡ begun_as s c (kind_of c)
  named =
      token_allowed s (record { at = at; text = name_of c }) (omega (arith, (name_wordlike c h).run))
      ∙ ap (judge_as s at (name_of c)) hs
      ∙ rw (name_no_label c h, code_named_lem c h) (name_new s at c h hn)

  read : (t : List ℕ) (i : Item) → Wordlike t → operand_of_kind (kind_of c) c m t ≡ item i → judge_token (awaiting s c) (record { at = m; text = t }) ≡ go (with_item s i)
  read t i g e =
      token_allowed (awaiting s c) (record { at = m; text = t }) (omega (arith, g.run)) ∙ ap (new_operand (awaiting s c) m) e

  alone : kind_of c ≡ Bare → eqb v 0 ≡ true → Adds size n w s at (name_of c ++ LF ∷ []) rest
  alone k f =
      let z : place_of c 0 ≡ w = omega (arith, eqb-true v 0 f) in (
        finished w,
        m,
        ap (λ (l : List ℕ). judge size s (tokens at l)) (append_assoc (name_of c) (LF ∷ []) rest)
            ∙ ap (judge size s) (one_token at (name_of c) rest (name_wordlike c h))
            ∙ judge_go size s (with_item s (finished w)) (record { at = at; text = name_of c }) (tokens m rest) (named ∙ rw (k, z)),
        settles_finished n w,
      )

  with_operand : (t : List ℕ) (i : Item) → begun_as s c (kind_of c) ≡ go (awaiting s c) → Wordlike t → operand_of_kind (kind_of c) c m t ≡ item i → Settles n w i → Adds size n w s at (name_of c ++ (spaced t ++ LF ∷ [])) rest
  with_operand [] i k g e z = absurd (omega (arith, g.some))
  with_operand (b ∷ t) i k g e z =
      let after = tokens (m + length (b ∷ t) + 1) rest in (
        i,
        m + length (b ∷ t) + 1,
        ap (λ (l : List ℕ). judge size s (tokens at l)) (append_assoc (name_of c) (space ∷ b ∷ (t ++ LF ∷ [])) rest ∙ ap (λ (l : List ℕ). name_of c ++ space ∷ b ∷ l) (append_assoc t (LF ∷ []) rest))
            ∙ ap (judge size s) (two_tokens at (name_of c) (b ∷ t) rest (name_wordlike c h) g)
            ∙ judge_go size s (awaiting s c) (record { at = at; text = name_of c }) (record { at = m; text = b ∷ t } ∷ after) (named ∙ k)
            ∙ judge_go size (awaiting s c) (with_item s i) (record { at = m; text = b ∷ t }) after (read (b ∷ t) i g e),
        z,
      )

  -- a number or bits, read as the operand
  plain_read : (t : List ℕ) → operand_of_kind (kind_of c) c m t ≡ plain_number c (Ok v) → operand_of_kind (kind_of c) c m t ≡ item (finished w)
  plain_read t e = e ∙ ap (λ (x : ℕ). item (finished x)) whole

  target_read : v ≤ n → target_of c m (decimal 9 v) (is_word (decimal 9 v)) ≡ item (numbered c m v)
  target_read l =
      ap (target_of c m (decimal 9 v)) (no_word (decimal 9 v) (no_letter (get_or (decimal 9 v) 0 0) (omega (arith, (decimal_first 9 v).1))))
      ∙ ap (target_number c m) (number_decimal 0 max_program v (omega arith) ∙ ranged_most 0 max_program v (omega arith))

  by_kind : (k : Kind) → kind_of c ≡ k → within k n v ≡ true → Adds size n w s at (name_of c ++ (spaced (operand_text k v) ++ LF ∷ [])) rest
  by_kind Bare e f = alone e f
  by_kind Immediate e f =
      with_operand (signed_text v) (finished w) (rw e) (wordlike_signed v)
      (plain_read (signed_text v) (rw (e, number_signed v (omega arith)))) (settles_finished n w)
  by_kind Pattern e f =
      with_operand (hash ∷ hex 8 v) (finished w) (rw e) (wordlike_pattern v)
      (plain_read (hash ∷ hex 8 v) (rw (e, float_hex v (omega arith)))) (settles_finished n w)
  by_kind Offset e f =
      with_operand (signed_text v) (finished w) (rw e) (wordlike_signed v)
      (plain_read (signed_text v) (rw (e, number_offset v (omega arith) f))) (settles_finished n w)
  by_kind Target e f =
      let l = leb-true v n f in
      with_operand (decimal 9 v) (numbered c m v) (rw e) (wordlike_decimal v) (rw e (target_read l)) (settles_numbered n c m v w l whole)
  by_kind Character e f =
      let l = leb-true v max_character f in
      with_operand (decimal 9 v) (finished w) (rw e) (wordlike_decimal v)
      (plain_read (decimal 9 v) (rw (e, number_decimal 0 max_character v (omega arith) ∙ ranged_most 0 max_character v l))) (settles_finished n w)

  adds_line : within (kind_of c) n v ≡ true → Adds size n w s at (line_of w) rest
  unfolding line_of
  adds_line f = by_kind (kind_of c) refl f

-- ---- all lines

-- the items so far settle to the places `before`
abbrev Settled : ℕ → Progress → List ℕ → Type 0
Settled n s before = (is : List Item) → settle n s.labels (s.items ++ is) ≡ join_all before (settle n s.labels is)

settled_more : (n w : ℕ) (s : Progress) (i : Item) (before : List ℕ) → Settled n s before → Settles n w i → Settled n (with_item s i) (before ++ w ∷ [])
settled_more n w s i before z q is =
    ap (settle n s.labels) (append_assoc s.items (i ∷ []) is)
    ∙ z (i ∷ is)
    ∙ ap (join_all before) (q s.labels is)
    ∙ sym (join_more before w (settle n s.labels is))

round : (size n : ℕ) (ws : List ℕ) (s : Progress) (at : ℕ) (before : List ℕ) → s.awaited ≡ instruction → length s.items + length ws ≡ n → n ≤ max_program → all (sound_place n) ws ≡ true → Settled n s before → judge size s (tokens at (listing ws)) ≡ done (before ++ ws)
unfolding listing all tokens
round size n [] s at before hs hl hn f z =
    judge_end size s
    ∙ ap (finish_as size s) hs
    ∙ ap (λ (k : ℕ). settle k s.labels s.items) (omega arith)
    ∙ ap (settle n s.labels) (sym (append-nil s.items))
    ∙ z []
    ∙ join_done n s.labels before
    ∙ ap done (sym (append-nil before))
round size n (w ∷ ws) s at before hs hl hn f z =
    let p = and_left (sound_place n w) (all (sound_place n) ws) f in
    let l = adds_line size n w s at (listing ws) (sound_code n w hn p) hs (omega arith) hn (sound_operand n w hn p) in
    let more : length (with_item s l.0).items + length ws ≡ n = rw length-append (omega arith) in
    l.2
    ∙ round size n ws (with_item s l.0) l.1 (before ++ w ∷ []) refl more hn (and_right (sound_place n w) (all (sound_place n) ws) f) (settled_more n w s l.0 before z l.3)
    ∙ ap done (append_assoc before (w ∷ []) ws)

-- the listing of places that are sound in a program of their number is translated to them
pub listing_translated : (ws : List ℕ) → length ws ≤ max_program → all (sound_place (length ws)) ws ≡ true → translated (listing ws) ≡ done ws
unfolding translated
listing_translated ws h f =
    round (length (listing ws)) (length ws) ws nothing 0 [] refl (omega arith) h f (λ is. sym (join_none (settle (length ws) [] is)))
