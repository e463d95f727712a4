-- `digits::put_digits` meets its contract. Assumes nothing.
use Prim.Native.Nat.{◌-◌, ◌+◌, ◌/◌, ◌%◌}
use mathlib.Core.Path.{◌≡◌, ◌∙◌}
use mathlib.Core.List.{[], ◌∷◌}
use native.Mathlib.Omega.{arith}
use lib.ListN.{length, length-append}
use Rattle.std.proofs.Common.{⊎_elim}
use Rattle.rules.specs.Listing.{decimal}
use Rattle.rules.proofs.Texts as texts
use Rattle.digits.proofs.Laws as law
use Rattle.digits.proofs.+put_digits.Goals as goal

pub returns-then-k-eq0 : goal.returns-then-k-eq0
returns-then-k-eq0 t c =
    let a = c.args in
    let e : decimal a.k a.n ≡ texts.last_digit a.n =
    ⊎_elim (λ z. texts.decimal_zero a.k a.n z) (λ w. texts.decimal_small a.k a.n (omega (arith, w.1))) c.then-k-eq0.either in
    (rw e, rw e c.put_byte.ensures)

pub overflow_add-result-2 : goal.overflow_add-result-2
overflow_add-result-2 t c =
    let a = c.args in
    omega (arith, c.put_digits-before.ensures.0, texts.length_decimal (a.k - 1) (a.n / 10), c.requires.1)

pub returns : goal.returns
returns t c =
    let a = c.args in
    let d = c.put_digits-before.ensures in
    let e = texts.decimal_more a.k a.n (omega arith) (omega arith) in
    let q : a.at + (a.i + length (decimal (a.k - 1) (a.n / 10))) ≡ a.at + a.i + length (decimal (a.k - 1) (a.n / 10)) = omega arith in (
      rw (e, length-append) (omega arith),
      c.put_byte-2.ensures
          ∙ rw (e, d.0, d.1, q) (law.sets_append a.out.now (decimal (a.k - 1) (a.n / 10)) ((48 + a.n % 10) ∷ []) (a.at + a.i)),
    )
