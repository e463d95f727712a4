-- The codes that have an operand are ten; every other code has none. Assumes nothing.
use Prim.Native.Nat.{ℕ, ◌≤◌}
use mathlib.Core.Path.{◌≡◌, refl, ap}
use mathlib.Core.Bool.{Bool, true, false, ◌||◌, false≢true}
use mathlib.Core.List.{List, [], ◌∷◌}
use lib.Dec.{ltb}
use lib.ListN.{get_or-eq_default}
use borrow.Author.Tests.{ltb-true, ltb-false}
use Rattle.rules.specs.Instructions.{Row, rows, row_of, kind_of, codes}
use Rattle.rules.specs.declared.Kind.{Kind}
use Rattle.rules.specs.declared.Kind.TheVariants.{Bare, Immediate, Pattern, Offset, Target, Character}
use Rattle.rules.proofs.Tests.{by_test, below}
use Rattle.program.proofs.OneOf.{one_of, NoneOf, elsewhere}

is_bare : Kind → Bool
is_bare Bare = true
is_bare Immediate = false
is_bare Pattern = false
is_bare Offset = false
is_bare Target = false
is_bare Character = false

bare_is : (k : Kind) → is_bare k ≡ true → k ≡ Bare
unfolding is_bare
bare_is Bare h = refl
bare_is Immediate h = absurd (false≢true h)
bare_is Pattern h = absurd (false≢true h)
bare_is Offset h = absurd (false≢true h)
bare_is Target h = absurd (false≢true h)
bare_is Character h = absurd (false≢true h)

-- the codes with an operand, the last first
abbrev pub operand_codes : List ℕ
operand_codes = 52 ∷ 49 ∷ 47 ∷ 45 ∷ 44 ∷ 43 ∷ 42 ∷ 39 ∷ 2 ∷ 1 ∷ []

codes_right : below (λ c. one_of operand_codes c || is_bare (kind_of c)) codes ≡ true
unfolding one_of is_bare kind_of row_of rows
codes_right = refl

past_bare : (c : ℕ) → codes ≤ c → kind_of c ≡ Bare
unfolding kind_of row_of rows
past_bare c h = ap (λ (r : Row). r.kind) (get_or-eq_default rows _ h)

pub bare_elsewhere : (c : ℕ) → NoneOf operand_codes c → kind_of c ≡ Bare
bare_elsewhere c n =
    by_test (ltb c codes)
    (λ h. bare_is (kind_of c) (elsewhere operand_codes (λ k. is_bare (kind_of k)) codes codes_right c (ltb-true c codes h) n))
    (λ h. past_bare c (ltb-false c codes h))
