-- Laws of the labels: one sought among them, and one more of them. Assumes nothing.
use Rattle.std.proofs.Common.{◌≡◌, ℕ, ◌+◌, ◌<◌, ◌≤◌, Bool, true, false, cond, eqb, List, [], ◌∷◌, ◌++◌, length, take, set, map, Bor, Option, Some, None, refl, ◌∙◌}
use Rattle.std.specs.List.{find}
use Rattle.std.specs.Option.{option_map}
use Rattle.std.specs.Cmp.Lexicographic.{pointwise}
use Rattle.std.proofs.lemmas.List.{take_more_set, map_push, length-take-le, length-map}
use Rattle.rules.specs.Assemble.{lookup}
use Rattle.assembler.specs.declared.held.Label.{Label}
use Rattle.assembler.specs.Held.{piece, label_at, labels_of, found_of}
use Rattle.assembler.proofs.Bytes.{same_is}

-- whether a label has the name t
abbrev pub has_name : List ℕ → List ℕ → Label → Bool
has_name src t l = pointwise eqb (piece src l.start l.length) t

pub lookup_is : (src t : List ℕ) (ls : List Label) → lookup (map (label_at src) ls) t ≡ found_of (option_map (λ l. l.address) (find (has_name src t) ls))
unfolding lookup label_at
lookup_is src t [] = refl
lookup_is src t (l ∷ ls) =
    rw (same_is, lookup_is src t ls)
    (elim (has_name src t l) as (λ b. cond b (found_of (Some l.address)) (found_of (option_map (λ l. l.address) (find (has_name src t) ls))) ≡ found_of (option_map (λ l. l.address) (cond b (Some l) (find (has_name src t) ls)))) [ true ↦ refl | false ↦ refl ])

-- the address of the label that was found
pub address_is : (r : Option (Bor Label)) → option_map (λ l. l.now.address) r ≡ option_map (λ l. l.address) (option_map (λ l. l.now) r)
address_is None = refl
address_is (Some l) = refl

-- one more label
pub labels_more : (src : List ℕ) (ls : List Label) (n : ℕ) (l : Label) → n < length ls → labels_of src (take (n + 1) (set ls n l)) ≡ labels_of src (take n ls) ++ record { text = piece src l.start l.length; address = l.address } ∷ []
unfolding labels_of label_at
labels_more src ls n l h = rw take_more_set (map_push (label_at src) (take n ls) l)

pub length_labels : (src : List ℕ) (ls : List Label) (n : ℕ) → n ≤ length ls → length (labels_of src (take n ls)) ≡ n
unfolding labels_of
length_labels src ls n h = length-map (take n ls) (label_at src) ∙ length-take-le n ls h
