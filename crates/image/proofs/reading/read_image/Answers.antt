-- The first i places stand in the table, zeros after them, and what is left from bit `at` decides. Assumes nothing.
use Rattle.std.proofs.Common.{◌≡◌, ◌-◌, ◌≤◌, ℕ, List, [], ◌++◌, Ok, Err, length, take, drop, replicate, length-set, sym, ap, ap₂, subst, ◌∙◌, arith}
use native.Mathlib.Nat.{sub-zero}
use Rattle.std.proofs.lemmas.Result.{err_from_is_err_and}
use Rattle.std.proofs.lemmas.List.{length-take-le, length-replicate, length-append, length-drop, drop-replicate, take-append-le}
use Rattle.std.proofs.lemmas.Slice.{drop-append-drop}
use Rattle.rules.specs.Sizes.{max_program}
use Rattle.rules.specs.Fields.{bits_of}
use Rattle.rules.specs.Image.{bits_taken, prepend, unfit, unpack_from, unpacked, take_one, filed}
use Rattle.rules.specs.Answers.{Decoded}
use Rattle.rules.specs.declared.ImageRefusal.{ImageRefusal}
use Rattle.rules.specs.declared.ImageRefusal.TheVariants.{EndsEarly, CountTooHigh}
use Rattle.rules.proofs.Bits.{rest_length}
use Rattle.rules.proofs.Unpacking.{unpacked_short, unpacked_count, unpacked_from, prepend_none, turn_unfit, turn_place, end_unfit, end_filed}
use Rattle.image.specs.Longest.{longest}
use Rattle.image.proofs.Instructions.{taken_most}
use Rattle.image.proofs.reading.read_image.Goals as goal

-- a refusal is the answer
told : (image lent : List ℕ) (k : ImageRefusal) → unpacked image ≡ unfit k → Err k ≡ (filed lent (unpacked image)).answer
told image lent k e = rw e

-- an instruction takes no more bits than the longest
most : (count : ℕ) (bits : List ℕ) {place taken : ℕ} → Ok (record { place = place; width = taken }) ≡ take_one count bits → taken ≤ longest
most count bits e = subst (λ (t : Decoded). bits_taken t ≤ longest) (sym e) (taken_most count bits)

-- what is left to read when all places are there
read_all : (image table : List ℕ) (n i at : ℕ) → i ≡ n → unpacked image ≡ prepend (take i table) (unpack_from n (n - i) (drop at (bits_of image)))
    → unpacked image ≡ prepend (take n table) (unpack_from n 0 (drop at (bits_of image)))
read_all image table n i at ei e =
    let ez : n - i ≡ 0 = omega arith in
    e ∙ ap₂ (λ (x y : ℕ). prepend (take x table) (unpack_from n y (drop at (bits_of image)))) ei ez

pub returns-in_err-count-clause-answer : goal.returns-in_err-count-clause-answer
returns-in_err-count-clause-answer c =
    let a = c.args in
    let p = err_from_is_err_and c.from_residual.result c.from_residual.ensures.1 in
    let h = c.in_err-count.ensures.told in
    rw (p.1, p.2, h.1) (told a.image.now a.table.now EndsEarly (unpacked_short a.image.now (omega (arith, rest_length a.image.now 0, h.0))))

pub returns-then-count-gt-MAX_PROGRAM-clause-answer : goal.returns-then-count-gt-MAX_PROGRAM-clause-answer
returns-then-count-gt-MAX_PROGRAM-clause-answer c =
    let a = c.args in
    let h = c.in_ok-count.ensures.told in
    told a.image.now a.table.now CountTooHigh (unpacked_count a.image.now c.in_ok-count.count h.0 h.1 c.if-count-gt-MAX_PROGRAM.true)

pub loop-place-init : goal.loop-place-init
loop-place-init c =
    let a = c.args in
    let n : ℕ = c.in_ok-count.count in
    let h = c.in_ok-count.ensures.told in record {
      near = omega arith;
      all = length-take-le n c.fill.new.self (omega (arith, c.fill.ensures.len, c.requires));
      left = unpacked_from a.image.now n h.0 h.1 c.if-count-gt-MAX_PROGRAM.false
          ∙ sym (prepend_none _) ∙ ap (λ (m : ℕ). prepend [] (unpack_from n m (drop 11 (bits_of a.image.now)))) (sym (sub-zero n));
    }

pub returns-in_err-taken-clause-answer : goal.returns-in_err-taken-clause-answer
returns-in_err-taken-clause-answer c =
    let a = c.args in
    let t = c.loop-place in
    let p = err_from_is_err_and c.from_residual-in_err-taken.result c.from_residual-in_err-taken.ensures.1 in
    rw (p.1, p.2)
    (told a.image.now a.table.now _
    (turn_unfit (unpacked a.image.now) c.in_ok-count.count t.place-index t.at t.place-items (bits_of a.image.now) (omega arith) t.invariant.left _ (sym c.in_err-taken.ensures)))

pub overflow_add-at : goal.overflow_add-at
overflow_add-at c = omega (arith, most _ _ c.in_ok-taken.ensures)

pub loop-place-preserved : goal.loop-place-preserved
loop-place-preserved c =
    let a = c.args in
    let t = c.loop-place in
    let n : ℕ = c.in_ok-count.count in
    let i : ℕ = t.place-index in
    let k = c.in_ok-taken.taken in record {
      near = omega (arith, most _ _ c.in_ok-taken.ensures);
      all = length-set t.place-items i k.place ∙ t.invariant.all;
      left = turn_place (unpacked a.image.now) n i t.at t.place-items (bits_of a.image.now) (omega arith) t.invariant.left k.place k.width (omega arith) (sym c.in_ok-taken.ensures);
    }

pub returns-then-not-is_padded-clause-answer : goal.returns-then-not-is_padded-clause-answer
returns-then-not-is_padded-clause-answer c =
    let a = c.args in
    let t = c.loop-place in
    let n : ℕ = c.in_ok-count.count in
    let e = read_all a.image.now t.place-items n t.place-index t.at (omega arith) t.invariant.left in
    told a.image.now a.table.now _ (end_unfit a.image.now t.place-items n t.at e (sym c.is_padded.ensures ∙ c.if-not-is_padded.true))

pub returns : goal.returns
returns c =
    let a = c.args in
    let t = c.loop-place in
    let n : ℕ = c.in_ok-count.count in
    let ps : List ℕ = t.place-items in
    let blank : c.fill.new.self ≡ replicate max_program 0 = c.fill.ensures.after (λ y e. e) ∙ rw c.requires in
    let rest : List ℕ = drop n c.fill.new.self in
    let long : length (ps ++ rest) ≡ max_program =
    omega (arith, length-append ps rest, length-drop n c.fill.new.self, ap length blank, length-replicate {A = ℕ} max_program 0) in
    let zeros : drop n (ps ++ rest) ≡ replicate (max_program - n) 0 =
    drop-append-drop n c.fill.new.self ps n (omega arith) t.invariant.all ∙ ap (drop n) blank ∙ drop-replicate n max_program 0 in
    let within : t.place-index ≤ length ps = omega arith in
    let e = read_all a.image.now (ps ++ rest) n t.place-index t.at (omega arith) (rw take-append-le t.invariant.left) in
    let r = end_filed a.image.now (ps ++ rest) n t.at e a.table.now (sym c.is_padded.ensures ∙ c.if-not-is_padded.false) c.if-count-gt-MAX_PROGRAM.false long zeros in
    record { answer = r.0; output = r.1 }
