-- Each field of the head, by the law `field_in_lem`. Assumes nothing.
use Prim.Native.Nat.{◌%◌, ◌^◌}
use mathlib.Core.Path.{◌≡◌, refl, sym}
use native.Mathlib.Omega.{arith}
use Rattle.rules.specs.Fields.{field, field_in}
use Rattle.rules.specs.SavedState.{head_layout, head_width, registers_in}
use Rattle.rules.proofs.Layouts.{field_in_lem}
use Rattle.saved.proofs.head.registers_of.Goals as goal

pub returns : goal.returns
unfolding registers_in
returns c i =
    let head = c.args.head in
    let last : head % 2 ^ 9 ≡ field_in head_layout 5 (field head_width head) = omega (arith, field_in_lem head_layout 5 head_width head refl) in
    record {
      n = sym (field_in_lem head_layout 0 head_width head refl) i;
      h = c.args.h;
      pc = sym (field_in_lem head_layout 1 head_width head refl) i;
      sp = sym (field_in_lem head_layout 2 head_width head refl) i;
      fbr = sym (field_in_lem head_layout 3 head_width head refl) i;
      halt = sym (field_in_lem head_layout 4 head_width head refl) i;
      used = 0;
      kept = 0;
      written = last i;
    }
