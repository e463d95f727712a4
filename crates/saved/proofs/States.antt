-- The head, the cells and the bytes, written one behind the other over zeros, are the saved state. Assumes nothing.
use Prim.Native.Nat.{ℕ, ◌+◌, ◌*◌, ◌^◌, ◌≤◌, ◌<◌}
use mathlib.Core.Path.{◌≡◌, sym, ap, ap₂, ◌∙◌}
use mathlib.Core.List.{List, ◌++◌, append_assoc}
use native.Mathlib.Nat.{zero-add}
use native.Mathlib.Omega.{arith}
use lib.Dec.{lit≤}
use lib.ListN.{length, get_or, take, replicate, length-append, length-replicate}
use Rattle.rules.specs.Lists.{splice}
use Rattle.rules.specs.Sizes.{max_cells, state_size}
use Rattle.rules.specs.Fields.{field, value, bits_of, packed_to, side}
use Rattle.rules.specs.Cells.{Cells}
use Rattle.rules.specs.SavedState.{head_layout, head_of, head_width, saved_cell_width, cells_saved, state_bits}
use Rattle.rules.specs.declared.Registers.{Registers}
use Rattle.rules.proofs.Fields.{bits_of_length}
use Rattle.rules.proofs.Bits.{packed_is}
use Rattle.rules.proofs.Layouts.{side_length, laid_out}
use Rattle.rules.proofs.Splice.{splice_beside}
use Rattle.rules.proofs.SavedState.{cells_saved_length}
use Rattle.fields.specs.Within.{put_at}
use Rattle.fields.proofs.Within.{written_inside}

-- z is zero; the head, the cells and the bytes are written in turn, which makes x, y and the bits of the image xs
pub state_written : (r : Registers) (c : Cells) (output z x y xs : List ℕ) (v at : ℕ) → length c.tags ≡ r.n → length c.bits ≡ r.n → r.n ≤ max_cells
    → z ≡ replicate state_size 0 → length xs ≡ state_size → ((k : ℕ) → get_or xs k 0 < 2 ^ 8)
    → v ≡ value (side head_layout (head_of r)) → x ≡ put_at (bits_of z) 0 head_width v
    → y ≡ splice x head_width (cells_saved c.tags c.bits)
    → at ≡ head_width + r.n * saved_cell_width → bits_of xs ≡ splice y at (bits_of (take r.written output))
    → xs ≡ packed_to state_size (state_bits r c output)
unfolding state_bits
state_written r c output z x y xs v at tagged celled few ez lx bytes ev ex ey ea ew =
    let head : List ℕ = side head_layout (head_of r) in
    let body : List ℕ = cells_saved c.tags c.bits in
    let tail : List ℕ = bits_of (take r.written output) in
    let zeros : List ℕ = bits_of (replicate state_size 0) in
    let lh : length head ≡ head_width = side_length head_layout (head_of r) in
    let lb : length body ≡ r.n * saved_cell_width = cells_saved_length c.tags c.bits (tagged ∙ sym celled) ∙ ap (λ (k : ℕ). k * saved_cell_width) tagged in
    let lz : length zeros ≡ state_size * 8 = bits_of_length (replicate state_size 0) ∙ ap (λ (k : ℕ). k * 8) (length-replicate {A = ℕ} state_size 0) in
    let first : x ≡ splice zeros 0 head =
    ex ∙ ap (λ (l : List ℕ). put_at (bits_of l) 0 head_width v) ez ∙ written_inside zeros 0 head_width v (lit≤ tt) (omega (arith, lz))
    ∙ ap (splice zeros 0) (ap (field head_width) ev ∙ laid_out head_layout (head_of r)) in
    let second : y ≡ splice zeros 0 (head ++ body) =
    ey ∙ ap₂ (λ (l : List ℕ) (k : ℕ). splice l k body) first (sym (zero-add (length head) ∙ lh)) ∙ splice_beside zeros 0 head body (omega (arith, lh, lz)) in
    let here : at ≡ 0 + length (head ++ body) = omega (arith, ea, lh, lb, length-append head body) in
    packed_is state_size xs (head ++ (body ++ tail)) lx bytes
    (ew ∙ ap₂ (λ (l : List ℕ) (k : ℕ). splice l k tail) second here ∙ splice_beside zeros 0 (head ++ body) tail (omega (arith, lh, lb, lz, few, length-append head body))
    ∙ ap (splice zeros 0) (append_assoc head body tail))
