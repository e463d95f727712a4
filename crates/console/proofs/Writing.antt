-- The console's lines, word by word: what each word is, and how long it can be. Assumes nothing.
use Prim.Native.Nat.{ℕ, zero, suc, ◌≤◌}
use mathlib.Core.Path.{◌≡◌}
use mathlib.Core.List.{List, [], ◌∷◌, ◌++◌, append_assoc}
use native.Mathlib.Omega.{arith}
use lib.Dec.{eqb}
use lib.ListN.{length, take, replicate, length-append}
use lib.Seq.{take_at}
use Rattle.rules.specs.Lists.{text}
use Rattle.rules.specs.Bytes.{space, LF}
use Rattle.rules.specs.Tags.{FLOAT, PA}
use Rattle.rules.specs.Listing.{decimal}
use Rattle.rules.specs.Console.{line, tag_name, value_text, cell_line}
use Rattle.rules.specs.declared.Cell.{Cell}
use Rattle.rules.proofs.Tests.{by_test}
use Rattle.rules.proofs.Texts.{length_decimal, length_signed, length_hex}
use Rattle.digits.specs.Put.{Put}
use Rattle.digits.proofs.Laws.{put_zeros}

-- a text that was put over zeros, from the first on, is what stands there
pub whole : (k r : ℕ) (new t : List ℕ) → length t ≤ k → Put (replicate k 0) new 0 t r → take r new ≡ t
whole k r new t h p = rw (put_zeros {n = k} h p) (take_at t _ r (omega (arith, p.length_told)))

-- ---- lines of so many words, a word with its number at a time

pub line_three : (w v u : List ℕ) → line (w ∷ v ∷ u ∷ []) ≡ ((w ++ space ∷ []) ++ (v ++ space ∷ [])) ++ (u ++ LF ∷ [])
unfolding line
line_three w v u = simp append_assoc

pub line_four : (w v u t : List ℕ) → line (w ∷ v ∷ u ∷ t ∷ []) ≡ ((w ++ space ∷ []) ++ (v ++ space ∷ [])) ++ ((u ++ space ∷ []) ++ (t ++ LF ∷ []))
unfolding line
line_four w v u t = simp append_assoc

pub line_five : (w v u t s : List ℕ) → line (w ∷ v ∷ u ∷ t ∷ s ∷ [])
    ≡ ((((w ++ space ∷ []) ++ (v ++ space ∷ [])) ++ (u ++ space ∷ [])) ++ (t ++ space ∷ [])) ++ (s ++ LF ∷ [])
unfolding line
line_five w v u t s = simp append_assoc

pub line_six : (w v u t s r : List ℕ) → line (w ∷ v ∷ u ∷ t ∷ s ∷ r ∷ [])
    ≡ (((w ++ space ∷ []) ++ (v ++ space ∷ [])) ++ ((u ++ space ∷ []) ++ (t ++ space ∷ []))) ++ ((s ++ space ∷ []) ++ (r ++ LF ∷ []))
unfolding line
line_six w v u t s r = simp append_assoc

pub cell_words : (i : ℕ) (c : Cell) → cell_line i c
    ≡ ((decimal 9 i ++ space ∷ []) ++ (tag_name c.tag ++ space ∷ [])) ++ (value_text c.bits c.tag ++ LF ∷ [])
unfolding cell_line
cell_words i c = line_three (decimal 9 i) (tag_name c.tag) (value_text c.bits c.tag)

-- ---- lengths, with the byte after

number_short : (n b : ℕ) → length (decimal 9 n ++ b ∷ []) ≤ 11
number_short n b = rw length-append (omega (arith, length_decimal 9 n))

pub tag_short : (t b : ℕ) → length (tag_name t ++ b ∷ []) ≤ 6
unfolding tag_name text
tag_short zero b = omega arith
tag_short (suc zero) b = omega arith
tag_short (suc (suc zero)) b = omega arith
tag_short (suc (suc (suc zero))) b = omega arith
tag_short (suc (suc (suc (suc zero)))) b = omega arith
tag_short (suc (suc (suc (suc (suc t))))) b = omega arith

value_short : (v t b : ℕ) → length (value_text v t ++ b ∷ []) ≤ 12
unfolding value_text
value_short v t b =
    rw length-append
    (by_test (eqb t FLOAT)
    (λ e. rw e (omega (arith, length_hex 8 v)))
    (λ e.
    rw e
    (by_test (eqb t PA)
    (λ d. rw d (omega (arith, length_decimal 9 v)))
    (λ d. rw d (omega (arith, length_signed v))))))

pub cell_short : (i : ℕ) (c : Cell) → length (cell_line i c) ≤ 29
cell_short i c =
    rw (cell_words i c, length-append, length-append)
    (omega (arith, number_short i space, tag_short c.tag space, value_short c.bits c.tag LF))
