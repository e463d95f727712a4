-- What a writer of text promises. Assumes nothing.
use Rattle.std.specs.Prelude.{ℕ, ◌≡◌, List, length}
use Rattle.std.proofs.lemmas.List.Edits.{sets}

-- the text t was written into the lent bytes, byte by byte from the place at on, those bytes past the end of the lent ones left out; and its length
-- was told
pub record Put (old new : List ℕ) (at : ℕ) (t : List ℕ) (told : ℕ) : Type 0 where
  pub length_told : told ≡ length t
  pub written : new ≡ sets old at t
