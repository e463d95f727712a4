-- "fewer values than needed", as an order of numbers. Assumes nothing.
use Prim.Native.Nat.{ℕ, zero, suc, ◌≤◌, ◌<◌, zero-le}
use mathlib.Core.Path.{◌≡◌, refl}
use mathlib.Core.Bool.{true, false}
use native.Mathlib.Nat.{not-suc-le-zero}
use borrow.Author.Tests.{leb-true, le-leb, lt-leb}
use Rattle.rules.specs.Decide.{enough}

pub enough_le : (k sp : ℕ) → enough k sp ≡ true → k ≤ sp
enough_le zero sp h = zero-le
enough_le (suc k) sp h = leb-true (suc k) sp h

pub le_enough : (k sp : ℕ) → k ≤ sp → enough k sp ≡ true
le_enough zero sp h = refl
le_enough (suc k) sp h = le-leb (suc k) sp h

pub lt_enough : (k sp : ℕ) → sp < k → enough k sp ≡ false
lt_enough zero sp h = absurd (not-suc-le-zero h)
lt_enough (suc k) sp h = lt-leb (suc k) sp h
