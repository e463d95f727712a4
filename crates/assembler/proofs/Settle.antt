-- Laws of the targets, settled item by item in program order. Assumes nothing.
use Rattle.std.proofs.Common.{◌≡◌, ℕ, ◌+◌, ◌*◌, ◌/◌, ◌%◌, ◌^◌, ◌<◌, ◌≤◌, List, [], ◌∷◌, length, get_or, take, drop, set, map, refl, sym, ap, ap₂, ◌∙◌, arith}
use Rattle.std.proofs.lemmas.Bool.{eq-eqb, ne_eqb, le-leb, lt-leb}
use Rattle.std.proofs.lemmas.List.{take_more_set, drop_more, take_all, drop_all, drop-set-lt}
use Rattle.rules.specs.Assemble.{Label, Found, lookup, Item, done, refused, join, settle, settle_label}
use Rattle.rules.specs.declared.TextRefusal.{TextRefusal}
use Rattle.rules.specs.declared.TextRefusal.TheVariants.{OperandRange}
use Rattle.assembler.specs.Held.{piece, item_at, items_of}
use Rattle.rules.proofs.Judging.{join_all, join_more, join_done}

-- ---- one item in front of others, by its word

module _ (src : List ℕ) (n : ℕ) (ls : List Label) (w : ℕ) (is : List Item) where
  pub settle_word : w / 2 ^ 60 ≡ 0 → settle n ls (item_at src w ∷ is) ≡ join w (settle n ls is)
  unfolding item_at settle
  settle_word h = rw (eq-eqb (w / 2 ^ 60) 0 h)

  pub settle_number : w / 2 ^ 60 ≡ 1 → w % 2 ^ 32 ≤ n → settle n ls (item_at src w ∷ is) ≡ join (w / 2 ^ 32 % 2 ^ 8 * 2 ^ 32 + w % 2 ^ 32) (settle n ls is)
  unfolding item_at settle
  settle_number h k = rw (h, le-leb (w % 2 ^ 32) n k)

  pub settle_high : w / 2 ^ 60 ≡ 1 → n < w % 2 ^ 32 → settle n ls (item_at src w ∷ is) ≡ refused OperandRange (w / 2 ^ 40 % 2 ^ 20)
  unfolding item_at settle
  settle_high h k = rw (h, lt-leb (w % 2 ^ 32) n k)

  pub settle_beyond : (w / 2 ^ 60 ≡ 0 → ⊥) → (w / 2 ^ 60 ≡ 1 → ⊥) → (w / 2 ^ 60 ≡ 2 → ⊥) → settle n ls (item_at src w ∷ is) ≡ refused OperandRange (w / 2 ^ 40 % 2 ^ 20)
  unfolding item_at settle
  settle_beyond h k l = rw (ne_eqb (w / 2 ^ 60) 0 h, ne_eqb (w / 2 ^ 60) 1 k, ne_eqb (w / 2 ^ 60) 2 l)

  pub settle_labelled : w / 2 ^ 60 ≡ 2 → (name : List ℕ) (found : Found) → name ≡ piece src (w / 2 ^ 40 % 2 ^ 20) (w % 2 ^ 32) → lookup ls name ≡ found
      → settle n ls (item_at src w ∷ is) ≡ settle_label (w / 2 ^ 32 % 2 ^ 8) (w / 2 ^ 40 % 2 ^ 20) found (settle n ls is)
  unfolding item_at settle
  settle_labelled h name found e f = rw (h, ← e, f)

-- ---- the items, in order

-- a fault behind places
join_refused : (ws : List ℕ) (k : TextRefusal) (at : ℕ) → join_all ws (refused k at) ≡ refused k at
unfolding join_all
join_refused [] k at = refl
join_refused (w ∷ ws) k at = ap (join w) (join_refused ws k at)

-- the words before i are settled, and in front of the items from i on they give what all items give
abbrev pub Settled : List ℕ → List ℕ → List Label → List ℕ → ℕ → Type 0
Settled src old ls words i = settle (length old) ls (items_of src old) ≡ join_all (take i words) (settle (length old) ls (items_of src (drop i words)))

pub settled_none : (src old : List ℕ) (ls : List Label) → Settled src old ls old 0
unfolding join_all
settled_none src old ls = refl

module _ (src old : List ℕ) (ls : List Label) (words : List ℕ) (i : ℕ) (v : Settled src old ls words i) where
  opened : i < length words → settle (length old) ls (items_of src old) ≡ join_all (take i words) (settle (length old) ls (item_at src (get_or words i 0) ∷ items_of src (drop (i + 1) words)))
  unfolding items_of
  opened l = v ∙ ap (λ (r : List ℕ). join_all (take i words) (settle (length old) ls (map (item_at src) r))) (drop_more words i 0 l)

  pub settled_more : (w : ℕ) → i < length words → ((is : List Item) → settle (length old) ls (item_at src (get_or words i 0) ∷ is) ≡ join w (settle (length old) ls is)) → Settled src old ls (set words i w) (i + 1)
  settled_more w l e =
      let rest : List ℕ = drop (i + 1) words in
      opened l
      ∙ ap (join_all (take i words)) (e (items_of src rest))
      ∙ sym (join_more (take i words) w (settle (length old) ls (items_of src rest)))
      ∙ ap₂ (λ (ws r : List ℕ). join_all ws (settle (length old) ls (items_of src r))) (sym (take_more_set words i w l)) (sym (drop-set-lt (i + 1) words i w (omega arith)))

  pub settled_stop : (k : TextRefusal) (at : ℕ) → i < length words → ((is : List Item) → settle (length old) ls (item_at src (get_or words i 0) ∷ is) ≡ refused k at) → settle (length old) ls (items_of src old) ≡ refused k at
  settled_stop k at l e = opened l ∙ ap (join_all (take i words)) (e (items_of src (drop (i + 1) words))) ∙ join_refused (take i words) k at

  pub settled_end : length words ≤ i → settle (length old) ls (items_of src old) ≡ done words
  unfolding items_of
  settled_end l =
      v
      ∙ ap₂ (λ (ws r : List ℕ). join_all ws (settle (length old) ls (map (item_at src) r))) (take_all i words l) (drop_all i words l)
      ∙ join_done (length old) ls words
