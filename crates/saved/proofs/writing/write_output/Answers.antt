-- The first i bytes stand from bit `at` on. Assumes nothing.
use Rattle.std.proofs.Common.{◌≡◌, ◌*◌, ℕ, List, length, take, get_or, sym, ap, refl, ◌∙◌, arith}
use lib.Dec.{lit≤}
use Rattle.rules.specs.Lists.{splice}
use Rattle.rules.specs.Fields.{field, bits_of}
use Rattle.rules.proofs.Fields.{bits_of_length, bits_of_front}
use Rattle.rules.proofs.Splice.{splice_none}
use Rattle.std.proofs.lemmas.List.{take_all}
use Rattle.saved.proofs.Columns.{written_behind, bytes_more}
use Rattle.saved.proofs.writing.write_output.Goals as goal

pub loop-i-init : goal.loop-i-init
unfolding bits_of
loop-i-init c = sym (splice_none (bits_of c.args.image.now) c.args.at)

pub loop-i-preserved : goal.loop-i-preserved
loop-i-preserved c =
    let a = c.args in
    let t = c.loop-i in
    let xs : List ℕ = a.output.now in
    let z : List ℕ = bits_of a.image.now in
    let lf : length (bits_of (take t.i xs)) ≡ t.i * 8 = bits_of_front xs t.i (omega arith) in
    written_behind z (bits_of t.image) _ (bits_of (take t.i xs)) (field 8 (get_or xs t.i 0)) a.at _ 8 _ (lit≤ tt)
    (omega (arith, lf)) (omega (arith, lf, bits_of_length a.image.now, c.requires.1, c.requires.2)) refl t.invariant c.put.ensures
    ∙ ap (splice z a.at) (sym (bytes_more xs t.i c.loop-i-test.true))

pub returns : goal.returns
returns c = c.loop-i.invariant ∙ ap (λ (l : List ℕ). splice (bits_of c.args.image.now) c.args.at (bits_of l)) (take_all c.loop-i.i c.args.output.now c.loop-i-test.false)
