-- The bytes that the field covers are written whole. Assumes nothing.
use Prim.Native.Nat.{ℕ, ◌+◌, ◌-◌, ◌*◌, ◌/◌}
use mathlib.Core.Path.{◌≡◌, sym, ap, ◌∙◌}
use mathlib.Core.List.{List}
use native.Mathlib.Omega.{arith}
use Rattle.rules.specs.Lists.{splice}
use Rattle.rules.specs.Fields.{field, bits_of}
use Rattle.rules.proofs.Splice.{splice_none}
use Rattle.fields.proofs.Pieces.{field_covered}
use Rattle.fields.proofs.inside.put_short.Goals as goal

pub returns-then-width-eq0 : goal.returns-then-width-eq0
unfolding field
-- no bit is written
returns-then-width-eq0 c =
    let a = c.args in
    let l : List ℕ = bits_of a.out.now in
    let p : ℕ = a.from * 8 + a.start in
    let e : 0 ≡ a.width = omega arith in
    sym (splice_none l p) ∙ ap (λ (n : ℕ). splice l p (field n a.v)) e

pub returns : goal.returns
returns c =
    let a = c.args in
    let covering = c.covering-covered in
    let l : List ℕ = bits_of a.out.now in
    let bytes : ℕ = (a.start + a.width + 7) / 8 in
    let to : ℕ = a.from + bytes in
    let after : ℕ = bytes * 8 - a.start - a.width in
    let e : (to - a.from) * 8 ≡ a.start + a.width + after = omega arith in
    c.put_bytes.ensures ∙ ap (λ (k : ℕ). splice l (a.from * 8) (field k covering.result)) e
    ∙ field_covered a.out.now a.from (to - 1) a.start a.width after a.v covering.result (omega arith) (omega arith) (omega arith) (omega arith) (omega arith)
    covering.ensures
