-- Demand 2, the listing: what is listed is assembled again to what it was.
--
-- For every sound program, and any output of 20,480 bytes: the lister accepts it, and tells a length. Take the bytes of that length. They fit the
-- output and are few enough for a source; and assembling them, into any table of 1,024 places, makes a program of the same number of instructions
-- and leaves the same table, place by place.
--
-- Assumes nothing.
use Rattle.std.specs.Prelude.{Ok}
use Prim.Native.Nat.{ℕ, ◌-◌, ◌≤◌}
use mathlib.Core.Path.{◌≡◌, ap}
use mathlib.Core.Bool.{true}
use mathlib.Core.List.{List}
use native.Mathlib.Omega.{arith}
use lib.ListN.{length, take, replicate}
use lib.Seq.{take-append_seam}
use borrow.Author.Tests.{eq-eqb, le-leb}
use Rattle.rules.specs.Sizes.{max_source, max_program, listing_size}
use Rattle.rules.specs.Numbers.{length_of_listed}
use Rattle.rules.specs.Table.{Program, sound_table}
use Rattle.rules.specs.Assemble.{done, translated, assemble}
use Rattle.rules.specs.Listing.{Written, listing, list}
use Rattle.rules.proofs.Table.{table_short, used_sound, used_count, used_whole}
use Rattle.rules.proofs.Lines.{listing_fits, list_told}
use Rattle.promises.proofs.ListingRound.{listing_translated}

-- ---- the statement

-- the bytes that the lister tells of: "Only that length is assembled again."
abbrev pub told_bytes : Written → List ℕ
told_bytes w = take (length_of_listed w.answer) w.bytes

pub record AssembledAgain (p : Program) (out table : List ℕ) : Type 0 where
  pub accepted : (list p out).answer ≡ Ok (length (told_bytes (list p out)))
  pub fits : length (told_bytes (list p out)) ≤ listing_size
  pub short : length (told_bytes (list p out)) ≤ max_source
  pub again : assemble (told_bytes (list p out)) table ≡ record { answer = Ok p.count; table = p.places }

-- ---- the proof

module _ (p : Program) (s : sound_table p ≡ true) where
  abbrev used : List ℕ
  used = take p.count p.places

  told_are : (out : List ℕ) → length out ≡ listing_size → told_bytes (list p out) ≡ listing used
  told_are out h =
      rw (list_told p out h s) (take-append_seam (listing used) (replicate (listing_size - length (listing used)) 0))

  translated_again : translated (listing used) ≡ done used
  translated_again = listing_translated used (omega (arith, used_count p s, table_short p s)) (rw (used_count p s) (used_sound p s))

  assembled : (table : List ℕ) → length table ≡ max_program → assemble (listing used) table ≡ record { answer = Ok p.count; table = p.places }
  unfolding assemble
  assembled table h =
      let l : length (listing used) ≤ max_source = omega (arith, listing_fits p s) in
      rw (eq-eqb (length table) max_program h, le-leb (length (listing used)) max_source l, translated_again, used_count p s, used_whole p s)

pub listing_assembles : (p : Program) (out table : List ℕ) → sound_table p ≡ true → length out ≡ listing_size → length table ≡ max_program → AssembledAgain p out table
listing_assembles p out table s ho ht =
    let e = told_are p s out ho in
    let f : length (told_bytes (list p out)) ≤ listing_size = rw e (listing_fits p s) in
    record {
      accepted = rw e (ap (λ (w : Written). w.answer) (list_told p out ho s));
      fits = f;
      short = omega arith;
      again = rw e (assembled p s table ht);
    }
