-- The first i bytes are those of the image, and the others are zero. Assumes nothing.
use Rattle.std.proofs.Common.{◌≡◌, ◌+◌, ◌-◌, ◌*◌, ◌^◌, ◌<◌, ◌≤◌, ◌++◌, ℕ, List, length, drop, replicate, sym, ap, ap₂, subst, ◌∙◌, arith}
use lib.Dec.{lit≤}
use Rattle.std.proofs.lemmas.List.{take_all}
use Rattle.rules.specs.Fields.{bits_of, bytes_of}
use Rattle.rules.specs.SavedState.{output_from, bytes_in}
use Rattle.rules.proofs.Fields.{bits_of_length}
use Rattle.rules.proofs.Bits.{bytes_length}
use Rattle.fields.proofs.Within.{read_inside, read_most}
use Rattle.fields.specs.Within.{read_at}
use Rattle.saved.proofs.Columns.{byte_at, filled_more}
use Rattle.saved.proofs.reading.StateImage.read_output.Goals as goal

pub overflow_cast-byte : goal.overflow_cast-byte
overflow_cast-byte c = record { fits = subst (λ (v : ℕ). v < 2 ^ 8) (sym c.get.ensures) (read_most c.args.self.now.image.now _ 8) }

pub loop-i-preserved : goal.loop-i-preserved
unfolding bytes_in
loop-i-preserved c =
    let s = c.args.self.now in
    let t = c.loop-i in
    let w : ℕ = s.registers.written in
    let from : ℕ = output_from s.registers.n in
    let l : List ℕ = bits_of s.image.now in
    let few : t.i < w = omega (arith, c.split_at_mut-bytes.ensures.front_len) in
    let room : from + t.i * 8 + 8 ≤ length l = omega (arith, bits_of_length s.image.now, s.whole) in
    filled_more t.bytes (bytes_of w (drop from l)) t.i c.get.result (omega arith) (omega (arith, bytes_length w (drop from l))) t.invariant
    (c.get.ensures ∙ ap (λ (k : ℕ). read_at l (k + t.i * 8) 8) c.behind_cells-at.ensures ∙ read_inside l (from + t.i * 8) 8 (lit≤ tt) room ∙ sym (byte_at w l from t.i few))

pub returns : goal.returns
unfolding bytes_in
returns c =
    let s = c.args.self.now in
    let t = c.loop-i in
    let w : ℕ = s.registers.written in
    let from : ℕ = output_from s.registers.n in
    let l : List ℕ = bits_of s.image.now in
    let far : w ≤ t.i = omega (arith, c.split_at_mut-bytes.ensures.front_len) in
    let rest : length c.split_at_mut-bytes.result.1.now ≡ length c.args.output.now - w = omega (arith, c.split_at_mut-bytes.ensures.back_len) in
    ap₂ (λ (x y : List ℕ). x ++ y)
    (sym (take_all t.i t.bytes (omega arith)) ∙ t.invariant ∙ take_all t.i (bytes_of w (drop from l)) (omega (arith, bytes_length w (drop from l))))
    (c.fill.ensures.after (λ y e. e) ∙ ap (λ (k : ℕ). replicate k 0) rest)
