-- The number so far is that of the bytes read so far. Assumes nothing.
use Prim.Native.Nat.{ℕ, ◌+◌, ◌-◌, ◌*◌, ◌<◌}
use mathlib.Core.Path.{◌≡◌, refl, sym, ap, ap₂, ◌∙◌}
use mathlib.Core.List.{List}
use native.Mathlib.Omega.{arith}
use lib.ListN.{drop, length-take, length-drop}
use Rattle.std.proofs.lemmas.List.{get_or-take, get_or-drop}
use Rattle.rules.specs.Lists.{part}
use Rattle.rules.specs.Fields.{value, bits_of}
use Rattle.rules.proofs.Fields.{bits_of_length}
use Rattle.fields.proofs.Pieces.{byte_number, part_more, more_fits}
use Rattle.fields.proofs.whole.get_bytes.Goals as goal
use Rattle.fields.proofs.whole.get_bytes.Goals.{After-from}

-- the next byte's number
next : (c : After-from) → c.from.result ≡ value (part (c.args.from * 8 + c.loop-byte.byte-index * 8) 8 (bits_of c.args.image.now))
next c =
    let a = c.args in
    let i : ℕ = c.loop-byte.byte-index in
    let h : i < a.to - a.from = omega (arith, c.loop-byte-test.true, length-take {A = ℕ}) in
    let e : (a.from + i) * 8 ≡ a.from * 8 + i * 8 = omega arith in
    c.from.ensures ∙ get_or-take (a.to - a.from) (drop a.from a.image.now) i 0 h ∙ get_or-drop a.from a.image.now i 0
    ∙ sym (byte_number a.image.now (a.from + i) (omega arith) (omega (arith, c.type_inv.image (a.from + i))))
    ∙ ap (λ (k : ℕ). value (part k 8 (bits_of a.image.now))) e

pub loop-byte-init : goal.loop-byte-init
unfolding value
loop-byte-init c = refl

pub overflow_mul-v : goal.overflow_mul-v
overflow_mul-v c =
    let a = c.args in
    let t = c.loop-byte in
    omega (arith, t.invariant, length-take {A = ℕ}, more_fits a.image.now (a.from * 8) (t.byte-index * 8) 0 8 (omega (arith, length-take {A = ℕ})))

pub overflow_add-v : goal.overflow_add-v
overflow_add-v c =
    let a = c.args in
    let t = c.loop-byte in
    omega (arith, t.invariant, next c, more_fits a.image.now (a.from * 8) (t.byte-index * 8) (a.from * 8 + t.byte-index * 8) 8 (omega (arith, length-take {A = ℕ})))

pub loop-byte-preserved : goal.loop-byte-preserved
loop-byte-preserved c =
    let a = c.args in
    let t = c.loop-byte in
    let l : List ℕ = bits_of a.image.now in
    let d : ℕ = t.byte-index * 8 in
    let e : d + 8 ≡ (t.byte-index + 1) * 8 = omega arith in
    ap₂ (λ (x y : ℕ). x * 256 + y) t.invariant (next c)
    ∙ sym (part_more l (a.from * 8) d 8 (omega (arith, length-take {A = ℕ}, length-drop {A = ℕ}, bits_of_length a.image.now)))
    ∙ ap (λ (n : ℕ). value (part (a.from * 8) n l)) e
