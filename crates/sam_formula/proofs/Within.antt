-- What the lister tells of lies within the bytes that it is lent. Assumes nothing.
use Rattle.std.specs.Prelude.{ℕ, ◌≤◌, ◌≡◌, List, eqb, length}
use Rattle.std.specs.Result.{result_unwrap_or}
use Rattle.std.proofs.Common.{arith}
use Rattle.rules.specs.Sizes.{listing_size}
use Rattle.rules.specs.Table.{Program, sound_table}
use Rattle.rules.specs.Listing.{list}
use Rattle.rules.specs.Answers.{Listed}
use Rattle.rules.proofs.Tests.{by_test}
use Rattle.rules.proofs.Lines.{listing_fits}

pub listed_within : (p : Program) (out : List ℕ) (l : Listed) → l ≡ (list p out).answer → result_unwrap_or l 0 ≤ listing_size
unfolding list
listed_within p out l e =
    rw e
    (by_test (eqb (length out) listing_size)
    (λ w. by_test (sound_table p) (λ s. rw (w, s) (listing_fits p s)) (λ s. rw (w, s) (omega arith)))
    (λ w. rw w (omega arith)))
