-- Demand 2, the image: what is packed is unpacked again to what it was.
--
-- For every sound program, and any output of 4,866 bytes: the packer accepts it, and tells a length, which fits the output. Take the bytes of that
-- length. Unpacking them, into any table of 1,024 places, makes a program of the same number of instructions and leaves the same table, place by
-- place.
--
-- Assumes nothing.
use Rattle.std.specs.Prelude.{Ok}
use Prim.Native.Nat.{ℕ, suc, ◌+◌, ◌-◌, ◌%◌, ◌^◌, ◌≤◌, ◌<◌}
use mathlib.Core.Path.{◌≡◌, refl, sym, ap, ap₂, ◌∙◌, subst}
use mathlib.Core.Bool.{Bool, true, false, cond, ◌||◌}
use mathlib.Core.List.{List, [], ◌∷◌, ◌++◌, append_assoc}
use native.Mathlib.Nat.{mod-eq_of_lt, mod-lt}
use native.Mathlib.Omega.{arith}
use borrow.Author.Tests.{lt-ltb, le-ltb, ltb-true, leb-true, eqb-true}
use lib.Dec.{leb, ltb}
use lib.ListN.{length, take, drop, length-append}
use lib.Pow.{pow_pos, split}
use lib.Seq.{take_at, drop_at}
use Rattle.rules.specs.Answers.{Decoded}
use Rattle.rules.specs.Lists.{all}
use Rattle.rules.specs.Sizes.{max_program, image_size, max_offset, max_character}
use Rattle.rules.specs.Numbers.{length_of_packed}
use Rattle.rules.specs.Fields.{field, value, bits_of, packed_to, padded}
use Rattle.rules.specs.Instructions.{codes, kind_of}
use Rattle.rules.specs.Table.{Program, place_of, code_of, operand_of, within, sound_place, sound_table}
use Rattle.rules.specs.Image.{width_of, instruction_bits, program_bits, image_bits, image_length, Filed, pack, extended, take_operand, take_one, places, unfit, prepend, at_end, unpack_from, unpacked, filed, unpack}
use Rattle.rules.specs.declared.Kind.{Kind}
use Rattle.rules.specs.declared.Kind.TheVariants.{Bare, Immediate, Pattern, Offset, Target, Character}
use Rattle.rules.specs.declared.ImageRefusal.TheVariants.{BadPadding}
use Rattle.rules.proofs.Fields.{field_length, value_field}
use Rattle.rules.proofs.Tests.{and_left, and_right}
use Rattle.rules.proofs.Table.{table_short, used_sound, used_count, used_whole}
use Rattle.rules.proofs.Packing.{instruction_length, bits_image, image_fits, pack_done}
use Rattle.rules.proofs.Unpacking.{operand_taken, one_operand, from_one, unpacked_from, unpack_filed}
use Rattle.promises.proofs.Padding.{padding_of, padding_padded, told_length, told_bits}

-- ---- the statement

-- the bytes that the packer tells of: "only that length is unpacked again"
abbrev pub told_bytes : Filed → List ℕ
told_bytes f = take (length_of_packed f.answer) f.output

pub record UnpackedAgain (p : Program) (out table : List ℕ) : Type 0 where
  pub accepted : (pack p out).answer ≡ Ok (length (told_bytes (pack p out)))
  pub fits : length (told_bytes (pack p out)) ≤ image_size
  pub again : unpack (told_bytes (pack p out)) table ≡ record { answer = Ok p.count; output = p.places }

-- ---- an operand of its kind is read back

offset_back : (v : ℕ) → v < 2 ^ 32 → (leb v max_offset || leb (2 ^ 32 - max_offset) v) ≡ true → extended Offset (v % 2 ^ 11) ≡ v
offset_back v h e = go (leb v max_offset) refl e
  where
    go : (b : Bool) → leb v max_offset ≡ b → (b || leb (2 ^ 32 - max_offset) v) ≡ true → extended Offset (v % 2 ^ 11) ≡ v
    go true f g =
        let l : v ≤ max_offset = leb-true v max_offset f in
        let m : v % 2 ^ 11 < 2 ^ 10 = omega arith in
        ap (λ (b : Bool). cond b (v % 2 ^ 11) (v % 2 ^ 11 + (2 ^ 32 - 2 ^ 11))) (lt-ltb (v % 2 ^ 11) (2 ^ 10) m) ∙ omega arith
    go false f g =
        let l : 2 ^ 32 - max_offset ≤ v = leb-true (2 ^ 32 - max_offset) v g in
        let m : 2 ^ 10 ≤ v % 2 ^ 11 = omega arith in
        ap (λ (b : Bool). cond b (v % 2 ^ 11) (v % 2 ^ 11 + (2 ^ 32 - 2 ^ 11))) (le-ltb (v % 2 ^ 11) (2 ^ 10) m) ∙ omega arith

operand_back : (k : Kind) (count v : ℕ) → count ≤ max_program → v < 2 ^ 32 → within k count v ≡ true → extended k (v % 2 ^ width_of k) ≡ v
operand_back Bare count v l h e = let z : v ≡ 0 = eqb-true v 0 e in omega arith
operand_back Immediate count v l h e = mod-eq_of_lt h
operand_back Pattern count v l h e = mod-eq_of_lt h
operand_back Offset count v l h e = offset_back v h e
operand_back Target count v l h e = let z : v ≤ count = leb-true v count e in omega arith
operand_back Character count v l h e = let z : v ≤ max_character = leb-true v max_character e in omega arith

-- ---- an instruction, and then the others

value_front : (w v : ℕ) (r : List ℕ) → value (take w (field w v ++ r)) ≡ v % 2 ^ w
value_front w v r = ap value (take_at (field w v) r w (field_length w v)) ∙ value_field w v

one_back : (count p : ℕ) (r : List ℕ) → count ≤ max_program → sound_place count p ≡ true → take_one count (instruction_bits p ++ r) ≡ Ok (record { place = p; width = length (instruction_bits p) })
unfolding instruction_bits sound_place
one_back count p r l e =
    let code : ℕ = code_of p in
    let k : Kind = kind_of code in
    let w : ℕ = width_of k in
    let o : ℕ = operand_of p in
    let hc : code < codes = ltb-true code codes (and_left (ltb code codes) _ e) in
    let hw : within k count o ≡ true = and_right (ltb code codes) _ e in
    let ho : o < 2 ^ 32 = mod-lt p (pow_pos 32) in
    let rest : List ℕ = field w o ++ r in
    let bits : List ℕ = field 6 code ++ rest in
    let lb : length bits ≡ 6 + length rest = length-append (field 6 code) rest ∙ ap (λ (n : ℕ). n + length rest) (field_length 6 code) in
    let lr : length rest ≡ w + length r = length-append (field w o) r ∙ ap (λ (n : ℕ). n + length r) (field_length w o) in
    let vc : value (take 6 bits) ≡ code = value_front 6 code rest ∙ mod-eq_of_lt (omega arith) in
    let vo : extended k (value (take w rest)) ≡ o = ap (extended k) (value_front w o r) ∙ operand_back k count o l ho hw in
    ap (take_one count) (append_assoc (field 6 code) (field w o) r)
    ∙ one_operand count bits (omega arith) (omega arith)
    ∙ ap₂ (take_operand count) vc (drop_at (field 6 code) rest 6 (field_length 6 code))
    ∙ operand_taken count code rest (omega arith) (ap (within k count) vo ∙ hw)
    ∙ ap₂ {C = Decoded} (λ (a b : ℕ). Ok (record { place = a; width = b })) (ap (place_of code) vo ∙ split p 32) (sym (instruction_length p))

program_back : (count : ℕ) (ps pad : List ℕ) → count ≤ max_program → all (sound_place count) ps ≡ true → padded pad ≡ true
    → unpack_from count (length ps) (program_bits ps ++ pad) ≡ places ps
unfolding unpack_from at_end program_bits all
program_back count [] pad l e h = ap (λ (b : Bool). cond b (places []) (unfit BadPadding)) h
program_back count (p ∷ ps) pad l e h =
    ap (unpack_from count (suc (length ps))) (append_assoc (instruction_bits p) (program_bits ps) pad)
    ∙ from_one count (length ps) (instruction_bits p ++ (program_bits ps ++ pad)) (one_back count p (program_bits ps ++ pad) l (and_left (sound_place count p) _ e))
    ∙ ap (λ (x : List ℕ). prepend (p ∷ []) (unpack_from count (length ps) x)) (drop_at (instruction_bits p) (program_bits ps ++ pad) (length (instruction_bits p)) refl)
    ∙ ap (prepend (p ∷ [])) (program_back count ps pad l (and_right (sound_place count p) _ e) h)

-- ---- the whole
module _ (p : Program) (s : sound_table p ≡ true) where
  abbrev used : List ℕ
  used = take p.count p.places

  abbrev image : List ℕ
  image = take (image_length p) (packed_to image_size (image_bits p))

  abbrev pad : List ℕ
  pad = padding_of (image_bits p)

  image_bits_lem : bits_of image ≡ field 11 p.count ++ (program_bits used ++ pad)
  unfolding image_bits image_length
  image_bits_lem =
      told_bits image_size (image_bits p) (image_fits p s) (bits_image p)
      ∙ append_assoc (field 11 p.count) (program_bits used) (padding_of (image_bits p))

  unpacked_back : unpacked image ≡ places used
  unpacked_back =
      let n : ℕ = p.count in
      let rest : List ℕ = program_bits used ++ pad in
      let h = table_short p s in
      let en : n ≡ value (take 11 (bits_of image)) =
      sym (ap (λ (x : List ℕ). value (take 11 x)) image_bits_lem ∙ value_front 11 n rest ∙ mod-eq_of_lt (omega arith)) in
      let lb : 11 ≤ length (bits_of image) =
      subst (λ (x : List ℕ). 11 ≤ length x) (sym image_bits_lem) (omega (arith, length-append (field 11 n) rest, field_length 11 n)) in
      unpacked_from image n lb en h
      ∙ ap (unpack_from n n) (ap (drop 11) image_bits_lem ∙ drop_at (field 11 n) rest 11 (field_length 11 n))
      ∙ ap (λ (k : ℕ). unpack_from n k rest) (sym (used_count p s))
      ∙ program_back n used pad h (used_sound p s) (padding_padded (image_bits p))

  filed_back : (table : List ℕ) → filed table (unpacked image) ≡ record { answer = Ok p.count; output = p.places }
  filed_back table = rw (unpacked_back, used_count p s, used_whole p s)

pub image_unpacks : (p : Program) (out table : List ℕ) → sound_table p ≡ true → length out ≡ image_size → length table ≡ max_program → UnpackedAgain p out table
unfolding image_length
image_unpacks p out table s ho ht =
    let e = pack_done p out ho s in
    let b : told_bytes (pack p out) ≡ image p s = ap told_bytes e in
    let f = image_fits p s in
    let l : length (told_bytes (pack p out)) ≡ image_length p =
    ap length b ∙ told_length image_size (image_bits p) f in
    record {
      accepted = ap (λ (x : Filed). x.answer) e ∙ ap Ok (sym l);
      fits = subst (λ (n : ℕ). n ≤ image_size) (sym l) f;
      again = ap (λ (x : List ℕ). unpack x table) b ∙ unpack_filed (image p s) table ht ∙ filed_back p s table;
    }
