-- The lines of a listing: of operands that are each one token, and at most twenty bytes each; and the three answers of the lister. Assumes nothing.
use Rattle.std.specs.Prelude.{Err}
use Prim.Native.Nat.{ℕ, zero, suc, ◌+◌, ◌*◌, ◌-◌, ◌/◌, ◌%◌, ◌^◌, ◌≤◌, ◌<◌}
use mathlib.Core.Path.{◌≡◌, refl, ap, sym, ◌∙◌}
use mathlib.Core.Bool.{Bool, true, false, ◌||◌}
use mathlib.Core.List.{List, [], ◌∷◌, ◌++◌, append_assoc, append-nil}
use native.Mathlib.Omega.{arith}
use native.Mathlib.Numerals.{add-one}
use lib.Dec.{leb, ltb}
use lib.ListN.{length, take, get_or, replicate, length-append}
use lib.Seq.{take-suc}
use borrow.Author.Tests.{leb-true, ltb-true, eq-eqb, ne_eqb}
use Rattle.rules.specs.Lists.{text, all}
use Rattle.rules.specs.Sizes.{max_program, listing_size, max_offset, max_character}
use Rattle.rules.specs.Bytes.{hash, minus_sign, LF, blank, letter, word_byte, allowed}
use Rattle.rules.specs.Instructions.{rows, row_of, codes, names, name_of, kind_of}
use Rattle.rules.specs.Table.{Program, code_of, operand_of, within, sound_place, sound_table}
use Rattle.rules.specs.Assemble.{allowed_run}
use Rattle.rules.specs.Listing.{decimal, signed_text, hex_byte, hex, operand_text, spaced, line_of, listing, told, list}
use Rattle.rules.specs.declared.Kind.{Kind}
use Rattle.rules.specs.declared.Kind.TheVariants.{Bare, Immediate, Pattern, Offset, Target, Character}
use Rattle.rules.specs.declared.TextRefusal.TheVariants.{BrokenTable, WrongLength}
use Rattle.rules.proofs.Table.{table_short, place_sound, used_sound, used_count}
use Rattle.rules.proofs.Tests.{by_test, and_left, and_right, below, at_below}
use Rattle.rules.proofs.Tokens.{plain, all_plain}
use Rattle.rules.proofs.Texts.{last_digit, decimal_all, decimal_some, length_digits, length_signed, length_hex, signed_pos, signed_neg, hex_plain, hex_allowed, hex_low}
use Rattle.rules.proofs.Names.{Wordlike}

-- ---- operands are each one token of allowed bytes

abbrev Each : List ℕ → Type 0
Each [] = Unit {0}
Each (b ∷ s) = (plain b ≡ true) × (allowed b ≡ true) × Each s

each_append : (xs ys : List ℕ) → Each xs → Each ys → Each (xs ++ ys)
each_append [] ys h k = k
each_append (x ∷ xs) ys h k = (h.0, h.1, each_append xs ys h.2 k)

each_plain : (t : List ℕ) → Each t → all_plain t ≡ true
unfolding all_plain
each_plain [] h = refl
each_plain (b ∷ s) h = rw h.0 (each_plain s h.2)

each_run : (t : List ℕ) → Each t → allowed_run t ≡ length t
unfolding allowed_run
each_run [] h = refl
each_run (b ∷ s) h = rw h.1 (ap suc (each_run s h.2))

wordlike : (t : List ℕ) → Each t → 0 < length t → Wordlike t
wordlike t h k = record { plainly = each_plain t h; run = each_run t h; some = k }

each_digit : (n : ℕ) → Each (last_digit n)
each_digit n =
    let l : n % 10 < 16 = omega arith in
    let e = hex_low (n % 10) (omega arith) in
    (rw e at (hex_plain (n % 10) l), rw e at (hex_allowed (n % 10) l), tt)

each_decimal : (k n : ℕ) → Each (decimal k n)
each_decimal = decimal_all Each each_digit (λ xs n h. each_append xs (last_digit n) h (each_digit n))

each_hex : (k n : ℕ) → Each (hex k n)
unfolding hex
each_hex zero n = tt
each_hex (suc k) n =
    let l : n % 16 < 16 = omega arith in
    each_append (hex k (n / 16)) (hex_byte (n % 16) ∷ []) (each_hex k (n / 16)) (hex_plain (n % 16) l, hex_allowed (n % 16) l, tt)

each_minus : (t : List ℕ) → Each t → Each (minus_sign ∷ t)
unfolding plain blank allowed word_byte letter
each_minus t h = (refl, refl, h)

each_hash : (t : List ℕ) → Each t → Each (hash ∷ t)
unfolding plain blank allowed word_byte letter
each_hash t h = (refl, refl, h)

pub wordlike_decimal : (n : ℕ) → Wordlike (decimal 9 n)
wordlike_decimal n = wordlike (decimal 9 n) (each_decimal 9 n) (decimal_some 9 n)

pub wordlike_signed : (b : ℕ) → Wordlike (signed_text b)
unfolding signed_text
wordlike_signed b =
    by_test (ltb b (2 ^ 31))
    (λ e. rw e (wordlike_decimal b))
    (λ e. rw e (wordlike (minus_sign ∷ decimal 9 (2 ^ 32 - b)) (each_minus (decimal 9 (2 ^ 32 - b)) (each_decimal 9 (2 ^ 32 - b))) (omega arith)))

pub wordlike_pattern : (v : ℕ) → Wordlike (hash ∷ hex 8 v)
wordlike_pattern v = wordlike (hash ∷ hex 8 v) (each_hash (hex 8 v) (each_hex 8 v)) (omega arith)

-- ---- at most twenty bytes a line

-- the longest operand of a kind, with the space in front of it
abbrev widest : Kind → ℕ
widest Bare = 0
widest Immediate = 12
widest Pattern = 10
widest Offset = 5
widest Target = 5
widest Character = 4

line_right : ℕ → Bool
line_right c = leb (length (name_of c) + widest (kind_of c) + 1) 20

-- the names, each with the longest operand of its kind
lines_right : below line_right codes ≡ true
unfolding line_right name_of kind_of row_of names rows text
lines_right = refl

length_spaced : (t : List ℕ) → length (spaced t) ≤ length t + 1
length_spaced [] = omega arith
length_spaced (b ∷ t) = omega arith

offset_short : (v : ℕ) → v < 2 ^ 32 → (leb v max_offset || leb (2 ^ 32 - max_offset) v) ≡ true → length (signed_text v) ≤ 4
offset_short v l f =
    by_test (leb v max_offset)
    (λ e.
    let h = leb-true v max_offset e in
    rw (signed_pos v (omega arith)) (omega (arith, length_digits 2 9 v (omega arith))))
    (λ e.
    let h = leb-true (2 ^ 32 - max_offset) v (rw e at f) in
    rw (signed_neg v (omega arith)) (omega (arith, length_digits 2 9 (2 ^ 32 - v) (omega arith))))

length_operand : (k : Kind) (n v : ℕ) → n ≤ max_program → v < 2 ^ 32 → within k n v ≡ true → length (spaced (operand_text k v)) ≤ widest k
length_operand Bare n v h l f = omega arith
length_operand Immediate n v h l f = omega (arith, length_spaced (signed_text v), length_signed v)
length_operand Pattern n v h l f = omega (arith, length_hex 8 v)
length_operand Offset n v h l f = omega (arith, length_spaced (signed_text v), offset_short v l f)
length_operand Target n v h l f = omega (arith, length_spaced (decimal 9 v), length_digits 3 9 v (omega (arith, leb-true v n f)))
length_operand Character n v h l f = omega (arith, length_spaced (decimal 9 v), length_digits 2 9 v (omega (arith, leb-true v max_character f)))

module _ (n p : ℕ) (h : n ≤ max_program) (f : sound_place n p ≡ true) where
  pub sound_code : code_of p < codes
  unfolding sound_place
  sound_code = ltb-true (code_of p) codes (and_left (ltb (code_of p) codes) (within (kind_of (code_of p)) n (operand_of p)) f)

  pub sound_operand : within (kind_of (code_of p)) n (operand_of p) ≡ true
  unfolding sound_place
  sound_operand = and_right (ltb (code_of p) codes) (within (kind_of (code_of p)) n (operand_of p)) f

  name_short : length (name_of (code_of p)) + widest (kind_of (code_of p)) + 1 ≤ 20
  unfolding line_right
  name_short =
      leb-true (length (name_of (code_of p)) + widest (kind_of (code_of p)) + 1) 20 (at_below line_right codes lines_right (code_of p) sound_code)

  pub length_line : length (line_of p) ≤ 20
  unfolding line_of
  length_line =
      let o = length_operand (kind_of (code_of p)) n (operand_of p) h (omega arith) sound_operand in
      rw (length-append, length-append) (omega (arith, name_short))

pub length_listing : (n : ℕ) (ps : List ℕ) → n ≤ max_program → all (sound_place n) ps ≡ true → length (listing ps) ≤ 20 * length ps
unfolding listing all
length_listing n [] h f = omega arith
length_listing n (p ∷ ps) h f =
    let l = length_line n p h (and_left (sound_place n p) (all (sound_place n) ps) f) in
    rw length-append (omega (arith, length_listing n ps h (and_right (sound_place n p) (all (sound_place n) ps) f)))

-- ---- the parts of a line, and one line more

pub line_parts : (p : ℕ) → line_of p ≡ (name_of (code_of p) ++ spaced (operand_text (kind_of (code_of p)) (operand_of p))) ++ LF ∷ []
unfolding line_of
line_parts p = sym (append_assoc (name_of (code_of p)) (spaced (operand_text (kind_of (code_of p)) (operand_of p))) (LF ∷ []))

pub line_length : (p : ℕ) → length (line_of p) ≡ length (name_of (code_of p)) + length (spaced (operand_text (kind_of (code_of p)) (operand_of p))) + 1
line_length p = rw (line_parts p, length-append, length-append)

listing_append : (ps qs : List ℕ) → listing (ps ++ qs) ≡ listing ps ++ listing qs
unfolding listing
listing_append [] qs = refl
listing_append (p ∷ ps) qs = rw (listing_append ps qs) (sym (append_assoc (line_of p) (listing ps) (listing qs)))

pub listing_none : listing [] ≡ []
unfolding listing
listing_none = refl

listing_one : (p : ℕ) → listing (p ∷ []) ≡ line_of p
unfolding listing
listing_one p = append-nil (line_of p)

pub listing_next : (l : List ℕ) (i : ℕ) → i < length l → listing (take (i + 1) l) ≡ listing (take i l) ++ line_of (get_or l i 0)
listing_next l i h =
    rw (add-one i, take-suc l i 0 h) (listing_append (take i l) (get_or l i 0 ∷ []) ∙ rw (listing_one (get_or l i 0)))

-- ---- the listing of a sound program

module _ (p : Program) (s : sound_table p ≡ true) where
  pub line_short : (i : ℕ) → i < p.count → length (line_of (get_or p.places i 0)) ≤ 20
  line_short i h = length_line p.count (get_or p.places i 0) (table_short p s) (place_sound p s i h)

  -- 1,024 lines of twenty bytes
  pub listing_fits : length (listing (take p.count p.places)) ≤ listing_size
  listing_fits =
      omega (arith, length_listing p.count (take p.count p.places) (table_short p s) (used_sound p s), used_count p s, table_short p s)

-- ---- the three answers

module _ (p : Program) (out : List ℕ) where
  pub list_refused : (length out ≡ listing_size → ⊥) → list p out ≡ record { answer = Err WrongLength; bytes = out }
  unfolding list
  list_refused h = rw (ne_eqb (length out) listing_size h)

  pub list_broken : length out ≡ listing_size → sound_table p ≡ false → list p out ≡ record { answer = Err BrokenTable; bytes = replicate listing_size 0 }
  unfolding list
  list_broken h s = rw (eq-eqb (length out) listing_size h, s)

  pub list_told : length out ≡ listing_size → sound_table p ≡ true → list p out ≡ told (listing (take p.count p.places))
  unfolding list
  list_told h s = rw (eq-eqb (length out) listing_size h, s)
