-- What is left is the bits to the next byte, or nothing. Assumes nothing.
use Prim.Native.Nat.{ℕ, ◌+◌, ◌-◌, ◌*◌, ◌%◌, ◌≤◌, ◌<◌}
use mathlib.Core.Path.{◌≡◌, refl, sym, ap, ◌∙◌}
use mathlib.Core.Bool.{not}
use mathlib.Core.List.{List}
use native.Mathlib.Omega.{arith}
use borrow.Author.Tests.{leb-true, leb-false}
use lib.Dec.{leb, eqb}
use lib.ListN.{length, drop, drop_of_length-le}
use lib.Seq.{take_all}
use Rattle.rules.specs.Fields.{value, bits_of}
use Rattle.rules.proofs.Fields.{bits_of_length}
use Rattle.rules.proofs.Tests.{by_test}
use Rattle.rules.proofs.Bits.{rest_length, padded_long, padded_short}
use Rattle.fields.specs.Within.{read_at}
use Rattle.fields.proofs.Within.{read_inside, read_outside}
use Rattle.fields.proofs.is_padded.Goals as goal

-- the bits to the next byte, where no bit stands behind them
rest_read : (xs : List ℕ) (at w : ℕ) → (8 - at % 8) % 8 ≡ w → length xs * 8 < at + (w + 1) → read_at (bits_of xs) at w ≡ value (drop at (bits_of xs))
unfolding value
rest_read xs at w e h =
    let l : List ℕ = bits_of xs in
    by_test (leb (at + w) (length l))
    (λ t. read_inside l at w (omega arith) (leb-true _ _ t) ∙ ap value (take_all w (drop at l) (omega (arith, rest_length xs at))))
    (λ f. let g : length l < at + w = leb-false _ _ f in
    read_outside l at w g ∙ sym (ap value (drop_of_length-le l {i = at} (omega (arith, bits_of_length xs)))))

pub returns-else-not-has_bits : goal.returns-else-not-has_bits
returns-else-not-has_bits c =
    let a = c.args in
    let h : a.at + ((8 - a.at % 8) % 8 + 1) ≤ length a.image.now * 8 = leb-true _ _ (sym c.has_bits.ensures ∙ c.if-not-has_bits.false) in
    ap not c.if-not-has_bits.false ∙ sym (padded_long _ (omega (arith, rest_length a.image.now a.at)))

pub returns-then-not-has_bits : goal.returns-then-not-has_bits
returns-then-not-has_bits c =
    let a = c.args in
    let l : List ℕ = drop a.at (bits_of a.image.now) in
    let h : length a.image.now * 8 < a.at + ((8 - a.at % 8) % 8 + 1) = leb-false _ _ (sym c.has_bits.ensures ∙ c.if-not-has_bits.true) in
    ap (λ (n : ℕ). eqb n 0) (c.get.ensures ∙ rest_read a.image.now a.at _ refl h)
    ∙ sym (padded_short l (omega (arith, rest_length a.image.now a.at)))
