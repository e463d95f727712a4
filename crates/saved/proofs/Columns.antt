-- Cells and bytes one by one, as the loops write and read them. Assumes nothing.
use Prim.Native.Nat.{ℕ, zero, suc, ◌+◌, ◌*◌, ◌≤◌, ◌<◌}
use mathlib.Core.Path.{◌≡◌, refl, sym, ap, ap₂, subst, ◌∙◌}
use mathlib.Core.Bool.{Bool, true, false}
use mathlib.Core.List.{List, [], ◌∷◌, ◌++◌, append_assoc, append-nil}
use native.Mathlib.Nat.{add_comm, suc-mul, zero-add}
use native.Mathlib.Numerals.{add-one}
use native.Mathlib.Omega.{arith}
use lib.ListN.{length, get_or, take, drop, set, length-drop}
use lib.Seq.{take-suc, take-suc-set, drop-drop, length-take-le}
use Rattle.std.specs.Bool.{MatchBool}
use Rattle.std.specs.List.{AllWithin, HoldsAt, range_with_len}
use Rattle.std.proofs.lemmas.List.FromFn.{length-range_with_len, get_or-range_with_len}
use Rattle.rules.specs.Lists.{part, splice}
use Rattle.rules.specs.Fields.{field, value, bits_of, bytes_of, side, field_in}
use Rattle.rules.specs.State.{sound_cell, sound_cells}
use Rattle.rules.specs.SavedState.{head_width, saved_cell_layout, saved_cell_width, cells_saved, column_in, cells_in}
use Rattle.rules.proofs.Fields.{bits_of_append}
use Rattle.rules.proofs.Splice.{length_splice, splice_beside}
use Rattle.rules.proofs.SavedState.{cells_saved_length}
use Rattle.rules.proofs.Tests.{drop_next}
use Rattle.fields.specs.Within.{put_at}
use Rattle.fields.proofs.Within.{written_inside}
use Rattle.state.proofs.Parts.{cells_each}
use Rattle.saved.specs.Cells.{cell_in}

-- ---- written

-- a field behind what is written already
pub written_behind : (z x y f g : List ℕ) (start at w v : ℕ) → w ≤ 64 → at ≡ start + length f → start + length f + w ≤ length z → field w v ≡ g
    → x ≡ splice z start f → y ≡ put_at x at w v → y ≡ splice z start (f ++ g)
written_behind z x y f g start at w v narrow here room e ex ey =
    let lx : length x ≡ length z = ap length ex ∙ length_splice z start f (omega (arith, room)) in
    ey ∙ written_inside x at w v narrow (omega (arith, lx, here, room))
    ∙ (λ i. splice (ex i) (here i) (e i)) ∙ splice_beside z start f g (omega (arith, room))

-- one cell more
pub cells_more : (ts bs : List ℕ) (i : ℕ) → length ts ≡ length bs → i < length ts
    → cells_saved (take (i + 1) ts) (take (i + 1) bs) ≡ cells_saved (take i ts) (take i bs) ++ side saved_cell_layout (get_or ts i 0 ∷ get_or bs i 0 ∷ [])
cells_more ts bs i e h = ap (λ (k : ℕ). cells_saved (take k ts) (take k bs)) (add-one i) ∙ go ts bs i e h
  where
    go : (ts bs : List ℕ) (i : ℕ) → length ts ≡ length bs → i < length ts
        → cells_saved (take (suc i) ts) (take (suc i) bs) ≡ cells_saved (take i ts) (take i bs) ++ side saved_cell_layout (get_or ts i 0 ∷ get_or bs i 0 ∷ [])
    go [] bs i e h = absurd (let z : ⊥ = omega (arith, h) in z)
    go (t ∷ ts) [] i e h = absurd (let z : ⊥ = omega (arith, e) in z)
    go (t ∷ ts) (b ∷ bs) zero e h = append-nil (side saved_cell_layout (t ∷ b ∷ []))
    go (t ∷ ts) (b ∷ bs) (suc i) e h =
        ap (λ (l : List ℕ). side saved_cell_layout (t ∷ b ∷ []) ++ l) (go ts bs i (omega (arith, e)) (omega (arith, h)))
        ∙ sym (append_assoc (side saved_cell_layout (t ∷ b ∷ [])) (cells_saved (take i ts) (take i bs)) (side saved_cell_layout (get_or ts i 0 ∷ get_or bs i 0 ∷ [])))

pub cells_so_far : (ts bs : List ℕ) (i : ℕ) → length ts ≡ length bs → i ≤ length ts → length (cells_saved (take i ts) (take i bs)) ≡ i * saved_cell_width
cells_so_far ts bs i e h =
    let lt : length (take i ts) ≡ i = length-take-le i ts h in
    cells_saved_length (take i ts) (take i bs) (lt ∙ sym (length-take-le i bs (omega (arith, e, h)))) ∙ ap (λ (k : ℕ). k * saved_cell_width) lt

-- what an iterator gives next stands at the place that it has come to
pub given_next : (xs : List ℕ) (i x : ℕ) (rest : List ℕ) → drop i xs ≡ x ∷ rest → (i < length xs) × (x ≡ get_or xs i 0) × (rest ≡ drop (i + 1) xs)
given_next xs i x rest e =
    let h : i < length xs = omega (arith, length-drop i xs, ap length e) in
    let f : x ∷ rest ≡ get_or xs i 0 ∷ drop (i + 1) xs = sym e ∙ drop_next xs i h in
    (h, cc, cc)

-- one byte more
pub bytes_more : (xs : List ℕ) (i : ℕ) → i < length xs → bits_of (take (i + 1) xs) ≡ bits_of (take i xs) ++ field 8 (get_or xs i 0)
unfolding bits_of
bytes_more xs i h =
    ap (λ (k : ℕ). bits_of (take k xs)) (add-one i) ∙ ap bits_of (take-suc xs i 0 h) ∙ bits_of_append (take i xs) (get_or xs i 0 ∷ [])
    ∙ ap (λ (l : List ℕ). bits_of (take i xs) ++ l) (append-nil (field 8 (get_or xs i 0)))

-- ---- read

-- one number more of a list that is written place after place
pub filled_more : (xs ys : List ℕ) (i v : ℕ) → i < length xs → i < length ys → take i xs ≡ take i ys → v ≡ get_or ys i 0 → take (i + 1) (set xs i v) ≡ take (i + 1) ys
filled_more xs ys i v hx hy e ev =
    ap (λ (k : ℕ). take k (set xs i v)) (add-one i) ∙ take-suc-set xs i v hx ∙ ap₂ (λ (l : List ℕ) (x : ℕ). l ++ (x ∷ [])) e ev
    ∙ sym (take-suc ys i 0 hy) ∙ ap (λ (k : ℕ). take k ys) (sym (add-one i))

-- w bits further, k times
further : (k w : ℕ) (l : List ℕ) → drop (k * w) (drop w l) ≡ drop (suc k * w) l
further k w l = drop-drop (k * w) w l ∙ ap (λ (n : ℕ). drop n l) (add_comm w (k * w) ∙ sym (suc-mul k w))

pub column_length : (f n : ℕ) (l : List ℕ) → length (column_in f n l) ≡ n
unfolding column_in
column_length f zero l = refl
column_length f (suc n) l = ap suc (column_length f n (drop saved_cell_width l))

column_at : (f n : ℕ) (l : List ℕ) (i : ℕ) → i < n → get_or (column_in f n l) i 0 ≡ field_in saved_cell_layout f (drop (i * saved_cell_width) l)
unfolding column_in
column_at f zero l i h = absurd (let z : ⊥ = omega (arith, h) in z)
column_at f (suc n) l zero h = refl
column_at f (suc n) l (suc i) h = column_at f n (drop saved_cell_width l) i (omega (arith, h)) ∙ ap (field_in saved_cell_layout f) (further i saved_cell_width l)

-- field f of cell i, behind the head
pub cell_at : (f n : ℕ) (l : List ℕ) (i : ℕ) → i < n → get_or (column_in f n (drop head_width l)) i 0 ≡ field_in saved_cell_layout f (drop (head_width + i * saved_cell_width) l)
cell_at f n l i h = column_at f n (drop head_width l) i h ∙ ap (field_in saved_cell_layout f) (drop-drop (i * saved_cell_width) head_width l)

-- byte i behind bit `at`
byte_in : (n : ℕ) (l : List ℕ) (i : ℕ) → i < n → get_or (bytes_of n l) i 0 ≡ value (take 8 (drop (i * 8) l))
unfolding bytes_of
byte_in zero l i h = absurd (let z : ⊥ = omega (arith, h) in z)
byte_in (suc n) l zero h = refl
byte_in (suc n) l (suc i) h = byte_in n (drop 8 l) i (omega (arith, h)) ∙ ap (λ (d : List ℕ). value (take 8 d)) (further i 8 l)

pub byte_at : (n : ℕ) (l : List ℕ) (at i : ℕ) → i < n → get_or (bytes_of n (drop at l)) i 0 ≡ value (part (at + i * 8) 8 l)
byte_at n l at i h = byte_in n (drop at l) i h ∙ ap (λ (d : List ℕ). value (take 8 d)) (drop-drop (i * 8) at l)

-- the verdict on the cells, by the judgement of each
module _ (count n : ℕ) (l : List ℕ) where
  abbrev pub cell_is : Bool → ℕ → Type 0
  cell_is b k = sound_cell count (cell_in k l).tag (cell_in k l).bits ≡ b

  judged_at : (b : Bool) (k d : ℕ) → k < n → cell_is b (get_or (range_with_len 0 n) k d) → sound_cell count (get_or (cells_in n l).tags k 0) (get_or (cells_in n l).bits k 0) ≡ b
  unfolding cell_in
  judged_at b k d h e =
      ap₂ (sound_cell count) (cell_at 0 n l k h) (cell_at 1 n l k h) ∙ subst (cell_is b) (get_or-range_with_len 0 n k d h ∙ zero-add k) e

  pub cells_judged : (r : Bool)
      → MatchBool r (AllWithin (cell_is true) (range_with_len 0 n) 0 (length (range_with_len 0 n))) ((k : ℕ) × (k < length (range_with_len 0 n)) × HoldsAt (cell_is false) (range_with_len 0 n) k)
      → r ≡ sound_cells count (cells_in n l).tags (cells_in n l).bits
  cells_judged r w =
      let lr : length (range_with_len 0 n) ≡ n = length-range_with_len 0 n in
      let lt : length (cells_in n l).tags ≡ n = column_length 0 n (drop head_width l) in
      let lb : length (cells_in n l).bits ≡ n = column_length 1 n (drop head_width l) in
      cells_each count (cells_in n l).tags (cells_in n l).bits r
      (λ e k ht hb. judged_at true k 0 (omega (arith, ht, lt)) ((rw e at w) k 0 (omega arith) (omega (arith, ht, lt, lr))))
      (λ e. let v = rw e at w in (v.0, omega (arith, v.1, lr, lt), omega (arith, v.1, lr, lb), judged_at false v.0 0 (omega (arith, v.1, lr)) (v.2 0)))
