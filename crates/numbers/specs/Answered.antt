-- Document 01, "Numbers given back": the number of an answer, from that of its refusals. Assumes nothing.
use Rattle.std.specs.Prelude.{ℕ, Result, Ok, Err}

-- "0: done", and else the number of the refusal. The rules' number_of_listed and the rest are this at each answer's refusals
abbrev pub number_of : {T E : Type 0} → (E → ℕ) → Result T E → ℕ
number_of number (Ok x) = 0
number_of number (Err e) = number e
