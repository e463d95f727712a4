-- `floats::is_nan` meets its contract. Assumes nothing.
use Rattle.std.proofs.Common.{◌≡◌, ℕ, ◌+◌, ◌*◌, ◌/◌, ◌%◌, ◌^◌, ltb, sym, ◌∙◌, refl, arith, ltb-false, ltb-true, le-ltb, lt-ltb}
use lib.Arith.{mod-mul}
use lib.Ieee.{binary32}
use lib.Ieee.Bits.{nan_bits_is, nan_bits_above}
use Rattle.rules.proofs.Tests.{by_test}
use Rattle.floats.proofs.is_nan.Goals as goal

-- doubling drops the sign
doubled : (b : ℕ) → (b + b) % 2 ^ 32 ≡ 2 * (b % 2147483648)
doubled b =
    let half : (b + b) / 2 ≡ b = omega arith in
    omega (arith, rw half at (mod-mul (b + b) {m = 2147483648} {c = 2} (omega arith) (omega arith)))

above : (b : ℕ) {d : ℕ} → d ≡ (b + b) % 2 ^ 32 → ltb 4278190080 d ≡ ltb 2139095040 (b % 2147483648)
above b {d} e =
    by_test (ltb 2139095040 (b % 2147483648))
    (λ h. lt-ltb 4278190080 d (omega (arith, doubled b, ltb-true 2139095040 (b % 2147483648) h)) ∙ sym h)
    (λ h. le-ltb 4278190080 d (omega (arith, doubled b, ltb-false 2139095040 (b % 2147483648) h)) ∙ sym h)

pub returns : goal.returns
returns c =
    let b = c.args.b in
    above b refl ∙ sym (nan_bits_above binary32 b) ∙ nan_bits_is binary32 b
