-- `list` meets its contract: its three answers, and what each leaves. Assumes nothing.
use Rattle.std.specs.Prelude.{Ok}
use Prim.Native.Nat.{ℕ}
use mathlib.Core.List.{List}
use mathlib.Core.Bool.{true, false}
use mathlib.Core.Path.{◌≡◌, sym, ◌∙◌, ap}
use native.Mathlib.Omega.{arith}
use lib.ListN.{length, take, replicate}
use Rattle.rules.proofs.Lines.{listing_fits, list_refused, list_broken, list_told}
use Rattle.rules.specs.Listing.{Written, listing}
use Rattle.rules.specs.Table.{sound_table}
use Rattle.program.specs.Lent.{program_of}
use Rattle.rules.specs.Sizes.{listing_size}
use Rattle.digits.specs.Put.{Put}
use Rattle.digits.proofs.Laws.{put_zeros}
use Rattle.lister.proofs.list.Goals as goal

pub returns-then-text-ne-LISTING_SIZE : goal.returns-then-text-ne-LISTING_SIZE
returns-then-text-ne-LISTING_SIZE c =
    let a = c.args in
    let e = list_refused (program_of a.p) a.text.now c.if-text-ne-LISTING_SIZE.true in
    (sym (ap (λ (w : Written). w.answer) e), sym (ap (λ (w : Written). w.bytes) e))

pub returns-then-not-is_sound : goal.returns-then-not-is_sound
returns-then-not-is_sound c =
    let a = c.args in
    let n : length a.text.now ≡ listing_size = c.if-text-ne-LISTING_SIZE.false in
    let s : sound_table (program_of a.p) ≡ false = sym c.is_sound.ensures ∙ c.if-not-is_sound.true in
    let e = list_broken (program_of a.p) a.text.now n s in (
      sym (ap (λ (w : Written). w.answer) e),
      c.fill.ensures.after (λ y h. h) ∙ ap (λ (k : ℕ). replicate {A = ℕ} k 0) n ∙ sym (ap (λ (w : Written). w.bytes) e),
    )

pub returns : goal.returns
returns c =
    let a = c.args in
    let p = program_of a.p in
    let bs : List ℕ = listing (take a.p.length a.p.table.now) in
    let n : length a.text.now ≡ listing_size = c.if-text-ne-LISTING_SIZE.false in
    let s : sound_table p ≡ true = sym c.is_sound.ensures ∙ c.if-not-is_sound.false in
    let e = list_told p a.text.now n s in
    let q = c.put_lines.ensures in
    let z : Put (replicate (length a.text.now) 0) c.put_lines.new.out 0 bs c.put_lines.result = rw (c.fill.ensures.after (λ y h. h)) at q in
    let w = put_zeros {n = length a.text.now} (omega (arith, listing_fits p s, n)) z in (
      ap Ok q.length_told ∙ sym (ap (λ (w : Written). w.answer) e),
      (rw n at w) ∙ sym (ap (λ (w : Written). w.bytes) e),
    )
