-- `digits::put_hex` meets its contract. Assumes nothing.
use Prim.Native.Nat.{◌-◌, ◌/◌, ◌%◌}
use mathlib.Core.Path.{refl, sym, ◌∙◌}
use mathlib.Core.List.{[], ◌∷◌}
use native.Mathlib.Omega.{arith}
use Rattle.rules.specs.Listing.{hex, hex_byte}
use Rattle.rules.proofs.Texts as texts
use Rattle.digits.proofs.Laws as law
use Rattle.digits.proofs.+put_hex.Goals as goal

pub returns-then-n-eq0 : goal.returns-then-n-eq0
returns-then-n-eq0 t c = rw (c.if-n-eq0.true) c.put_hex_zeros.ensures

pub returns-then-k-gt0 : goal.returns-then-k-gt0
returns-then-k-gt0 t c =
    let a = c.args in
    let e = texts.hex_more a.k a.n (omega arith) in
    let before = c.put_hex-before.ensures in
    record {
      length_told = sym (texts.length_hex a.k a.n);
      written =
          c.put_byte.ensures
          ∙ rw (e, c.hex_byte.ensures, before.written, before.length_told)
          (law.sets_append a.out.now (hex (a.k - 1) (a.n / 16)) (hex_byte (a.n % 16) ∷ []) a.at);
    }

pub returns-else-k-gt0 : goal.returns-else-k-gt0
returns-else-k-gt0 t c =
    let a = c.args in
    record { length_told = sym (texts.length_hex a.k a.n); written = rw (texts.hex_none a.k a.n (omega arith)) refl }
