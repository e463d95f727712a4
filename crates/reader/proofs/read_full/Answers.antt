-- What two reads put into the buffer, one behind the other, is what the input has lost to both.
use Rattle.std.proofs.Common.{◌≡◌, ℕ, ◌+◌, ◌-◌, ◌≤◌, List, ◌++◌, rules, arith, length, take, slice_range, sym, ap, ◌∙◌, subst, le_refl, drop_at, length-take-le}
use Rattle.std.proofs.lemmas.Slice.{take-put_mid_below}
use Rattle.std.specs.Io.KnownBytes.{Consumes}
use Rattle.std.proofs.KnownBytes.{Consumes-trans}
use borrow.Rule.Slice.PartMut.{put_mid, post_of}
use lib.Seq.{take-add, take-append-le}
use Rattle.reader.proofs.read_full.Goals as goal

-- the buffer up to where the second read ended is what stood before it, and what the second read put there
filled : (done n : ℕ) (buf part : List ℕ) → done ≤ length buf → n ≤ length part
    → take done buf ++ take n part ≡ take (done + n) (put_mid done (length buf - done) buf part)
filled done n buf part within fits =
    let room = length buf - done in
    let all = put_mid done room buf part in
    let same : (done + n) - done ≡ n = omega arith in
    let sum : done + (done + n - done) ≡ done + n = omega arith in
    let read : slice_range all done (done + n) ≡ take n part =
    ap (take ((done + n) - done)) (drop_at (take done buf) (part ++ post_of done room buf) done (length-take-le done buf within)) ∙ ap (λ m. take m (part ++ post_of done room buf)) same ∙ take-append-le n part (post_of done room buf) fits in
    ap (λ l. l ++ take n part) (sym (take-put_mid_below _ _ _ _ _ (le_refl _) within))
    ∙ ap (λ l. take done all ++ l) (sym read)
    ∙ sym (take-add done ((done + n) - done) all)
    ∙ ap (λ k. take k all) sum

pub loop-done-preserved : goal.loop-done-preserved
loop-done-preserved g c = (
  search rules,
  search rules,
  subst (Consumes _ _) (filled c.loop-done.done c.in_ok-n.n c.loop-done.buf c.read.new.buf c.loop-done.invariant.1 c.in_ok-n.ensures.bound.0) (Consumes-trans _ _ _ _ _ c.loop-done.invariant.2 c.in_ok-n.ensures.bytes.0),
)
