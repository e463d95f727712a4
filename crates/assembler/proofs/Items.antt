-- Laws of the items: how one is packed into a word, and one more of them. Assumes nothing.
use Rattle.std.proofs.Common.{◌≡◌, ℕ, ◌+◌, ◌*◌, ◌/◌, ◌^◌, ◌<◌, ◌≤◌, List, [], ◌∷◌, ◌++◌, length, take, set, ap, ◌∙◌, arith}
use Rattle.std.proofs.lemmas.List.{take_more_set, map_push, length-take-le, length-map}
use Rattle.rules.specs.Instructions.{codes}
use Rattle.rules.specs.Table.{place_of}
use Rattle.rules.specs.Assemble.{finished, numbered, beyond, labelled}
use Rattle.assembler.specs.Held.{piece, item_at, PackedAs, items_of}

-- an item by the fields of its word
module _ (src : List ℕ) (kind start code low w : ℕ) (p : PackedAs kind start code low w) where
  pub item_finished : kind ≡ 0 → start ≡ 0 → item_at src w ≡ finished (place_of code low)
  unfolding item_at
  item_finished h k =
      let z : w / 2 ^ 60 ≡ 0 = omega (arith, p.kind_in) in
      let whole : w ≡ code * 2 ^ 32 + low = omega (arith, p.kind_in, p.start_in, p.code_in, p.low_in) in
      rw z (ap finished whole)

  pub item_number : kind ≡ 1 → item_at src w ≡ numbered code start low
  unfolding item_at
  item_number h = rw (p.kind_in, p.start_in, p.code_in, p.low_in, h)

  pub item_label : kind ≡ 2 → item_at src w ≡ labelled code start (piece src start low)
  unfolding item_at
  item_label h = rw (p.kind_in, p.start_in, p.code_in, p.low_in, h)

  pub item_beyond : kind ≡ 3 → item_at src w ≡ beyond start
  unfolding item_at
  item_beyond h = rw (p.kind_in, p.start_in, h)

-- an instruction without an operand
pub item_bare : (src : List ℕ) (code : ℕ) → code < codes → item_at src (code * 2 ^ 32) ≡ finished (place_of code 0)
unfolding item_at
item_bare src code h =
    let z : code * 2 ^ 32 / 2 ^ 60 ≡ 0 = omega arith in
    let whole : code * 2 ^ 32 ≡ code * 2 ^ 32 + 0 = omega arith in
    rw z (ap finished whole)

-- one more item
pub items_more : (src table : List ℕ) (n w : ℕ) → n < length table → items_of src (take (n + 1) (set table n w)) ≡ items_of src (take n table) ++ item_at src w ∷ []
unfolding items_of
items_more src table n w h = rw take_more_set (map_push (item_at src) (take n table) w)

pub size_items : (src words : List ℕ) → length (items_of src words) ≡ length words
unfolding items_of
size_items src words = length-map words (item_at src)

pub length_items : (src table : List ℕ) (n : ℕ) → n ≤ length table → length (items_of src (take n table)) ≡ n
length_items src table n h = size_items src (take n table) ∙ length-take-le n table h
