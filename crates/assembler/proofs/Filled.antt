-- Laws of the answer and of the table that is left. Assumes nothing.
use Rattle.std.proofs.Common.{◌≡◌, ℕ, ◌-◌, ◌<◌, ◌≤◌, List, ◌++◌, length, take, drop, Ok, Err, arith}
use Rattle.std.specs.Prelude.{replicate}
use Rattle.std.proofs.lemmas.Bool.{eq-eqb, ne_eqb, le-leb, lt-leb}
use Rattle.std.proofs.lemmas.List.{length-take-le, length-drop, drop_all, append-nil}
use borrow.Rule.Slice.PartMut.{put_mid}
use Rattle.rules.specs.Sizes.{max_source, max_program}
use Rattle.rules.specs.Positions.{position_of, no_position}
use Rattle.rules.specs.Assemble.{done, refused, translated, assemble}
use Rattle.rules.specs.declared.TextRefusal.{TextRefusal}
use Rattle.rules.specs.declared.TextRefusal.TheVariants.{SourceTooLong, WrongLength}
use Rattle.rules.proofs.Outputs.{blanked_right}

module _ (src table : List ℕ) where
  pub answer_31 : (length table ≡ max_program → ⊥) → assemble src table ≡ record { answer = Err (record { refusal = WrongLength; position = no_position }); table = table }
  unfolding assemble
  answer_31 h = rw (ne_eqb (length table) max_program h)

  module _ (h : length table ≡ max_program) where
    pub answer_21 : max_source < length src → assemble src table ≡ record { answer = Err (record { refusal = SourceTooLong; position = no_position }); table = replicate max_program 0 }
    unfolding assemble
    answer_21 k = rw (eq-eqb (length table) max_program h, lt-leb (length src) max_source k)

    module _ (k : length src ≤ max_source) where
      pub answer_made : (t : List ℕ) (n : ℕ) → n ≤ length t → translated src ≡ done (take n t) → assemble src table ≡ record { answer = Ok n; table = take n t ++ replicate (max_program - n) 0 }
      unfolding assemble
      answer_made t n l e = rw (eq-eqb (length table) max_program h, le-leb (length src) max_source k, e, length-take-le n t l)

      pub answer_fault : (e : TextRefusal) (at : ℕ) → translated src ≡ refused e at → assemble src table ≡ record { answer = Err (record { refusal = e; position = position_of src at }); table = replicate max_program 0 }
      unfolding assemble
      answer_fault e at f = rw (eq-eqb (length table) max_program h, le-leb (length src) max_source k, f, blanked_right max_program table h)

-- a table whose places from n on were written
pub rest_written : (t ys : List ℕ) (n : ℕ) → put_mid n (length t - n) t ys ≡ take n t ++ ys
rest_written t ys n = rw (drop_all (length t - n) (drop n t) (omega (arith, length-drop n t)), append-nil)
