-- Each answer by its law. Assumes nothing.
use Rattle.std.proofs.Common.{◌≡◌, ◌∙◌, ℕ, true, false, List, OnOk, is_err, length, replicate, sym}
use Rattle.rules.specs.Sizes.{max_program}
use Rattle.rules.specs.Image.{Unpacking, places, unfit, filed}
use Rattle.rules.specs.Answers.{Packed}
use Rattle.rules.proofs.Outputs.{blanked_right}
use Rattle.rules.proofs.Unpacking.{unpack_length, unpack_filed}
use Rattle.image.proofs.unpack.Goals as goal

-- a refusal, and the table cleared; or the places, with zeros behind them
refused : (t : List ℕ) (u : Unpacking) (r : Packed) → length t ≡ max_program → r ≡ (filed t u).answer → is_err r ≡ true
    → (r ≡ (filed t u).answer) × (replicate max_program 0 ≡ (filed t u).output)
refused t (places ps) r l e h = let no = rw e at h in cc
refused t (unfit k) r l e h = (e, sym (blanked_right max_program t l))

taken : (t x : List ℕ) (u : Unpacking) (r : Packed) → r ≡ (filed t u).answer → is_err r ≡ false → OnOk r (x ≡ (filed t u).output)
    → (r ≡ (filed t u).answer) × (x ≡ (filed t u).output)
taken t x (places ps) r e h o = (e, rw e at o)
taken t x (unfit k) r e h o = let no = rw e at h in cc

pub returns-then-table-ne-MAX_PROGRAM : goal.returns-then-table-ne-MAX_PROGRAM
returns-then-table-ne-MAX_PROGRAM c =
    let e = unpack_length c.args.image.now c.args.table.now c.if-table-ne-MAX_PROGRAM.true in
    record { answer = rw e; output = rw e }

pub read_image-answer-requires : goal.read_image-answer-requires
read_image-answer-requires c = c.if-table-ne-MAX_PROGRAM.false

pub returns-then-is_err : goal.returns-then-is_err
returns-then-is_err c =
    let a = c.args in
    let l = c.if-table-ne-MAX_PROGRAM.false in
    let e = unpack_filed a.image.now a.table.now l in
    let r = refused a.table.now _ _ l c.read_image-answer.ensures.answer (sym c.if-is_err.ensures.value) in
    let long : length c.read_image-answer.new.table ≡ max_program = c.read_image-answer.auto.table ∙ l in
    record {
      answer = r.0 ∙ rw e;
      output = c.fill.ensures.after (λ y e. e) ∙ rw (long, e) r.1;
    }

pub returns-else-is_err : goal.returns-else-is_err
returns-else-is_err c =
    let a = c.args in
    let e = unpack_filed a.image.now a.table.now c.if-table-ne-MAX_PROGRAM.false in
    let r = taken a.table.now _ _ _ c.read_image-answer.ensures.answer (sym c.if-is_err.ensures.value) c.read_image-answer.ensures.output in
    record { answer = r.0 ∙ rw e; output = r.1 ∙ rw e }
