-- Request k: a state that is saved, and loaded again under the same program into slices of its N with an output of enough room, is what it was, but for its history.
-- Assumes nothing.
use Rattle.std.specs.Prelude.{Ok, is_ok}
use Prim.Native.Nat.{ℕ, zero, suc, ◌+◌, ◌-◌, ◌*◌, ◌%◌, ◌^◌, ◌≤◌, ◌<◌, zero-le}
use mathlib.Core.Path.{◌≡◌, refl, sym, ap, ap₂, ◌∙◌, subst, subst₂}
use mathlib.Core.Bool.{true}
use mathlib.Core.List.{List, [], ◌∷◌, ◌++◌, append_assoc}
use native.Mathlib.Nat.{mod-eq_of_lt}
use native.Mathlib.Omega.{arith}
use lib.Dec.{lit≤}
use lib.ListN.{length, get_or, take, drop, replicate, length-append, length-drop}
use lib.Pow.{pow_pos}
use lib.Seq.{drop_at, drop-drop, length-take-le, take-append-le, drop-append-le}
use Rattle.rules.specs.Sizes.{state_size}
use Rattle.rules.specs.Fields.{value, bits_of, bytes_of, packed_to, bytes_for, padded, side, total, field_in}
use Rattle.rules.specs.Cells.{Cells}
use Rattle.rules.specs.Table.{Program}
use Rattle.rules.specs.State.{Memory, registers_holding, sound}
use Rattle.rules.specs.SavedState.{head_layout, head_of, head_width, saved_cell_layout, saved_cell_width, cells_saved, state_bits, Saving, save, registers_in, column_in, cells_in, output_from, announced, bytes_in, told_cells, told_bytes, Loading, loaded, load}
use Rattle.rules.specs.declared.Registers.{Registers}
use Rattle.rules.proofs.Table.{table_short}
use Rattle.rules.proofs.Fields.{bits_of_length}
use Rattle.rules.proofs.Layouts.{side_length, side_read}
use Rattle.rules.proofs.Bits.{bytes_back}
use Rattle.rules.proofs.SavedState.{entry_of, is_sound, is_padded, facts_entry, save_done, load_done, cells_saved_length, state_bits_lem, state_length, state_fits}
use Rattle.rules.proofs.Fair.{Sound}
use Rattle.rules.proofs.FairEffects.{sound_facts}
use Rattle.promises.specs.Series.{left_by_load}
use Rattle.promises.specs.Carried.{Typed, RoomFor, told_image, carried_to, CarriedOver}
use Rattle.promises.proofs.Demand3Good.{sound_beside}
use Rattle.promises.proofs.Padding.{padding_of, padding_padded, told_length, told_bits}

-- ---- what is laid out is read back, whatever stands behind it

field_back : (ws vs rest : List ℕ) (i : ℕ) → total (take i ws) + get_or ws i 0 ≤ total ws → field_in ws i (side ws vs ++ rest) ≡ get_or vs i 0 % 2 ^ get_or ws i 0
field_back ws vs rest i h =
    let at : ℕ = total (take i ws) in
    let l : List ℕ = side ws vs in
    let e : length l ≡ total ws = side_length ws vs in
    ap (λ (x : List ℕ). value (take (get_or ws i 0) x)) (drop-append-le at l rest (omega (arith, e)))
    ∙ ap value (take-append-le (get_or ws i 0) (drop at l) rest (omega (arith, length-drop at l, e)))
    ∙ side_read ws vs i

take_typed : (w n : ℕ) (l : List ℕ) → ((k : ℕ) → get_or l k 0 < 2 ^ w) → (k : ℕ) → get_or (take n l) k 0 < 2 ^ w
take_typed w zero l h k = pow_pos w
take_typed w (suc n) [] h k = pow_pos w
take_typed w (suc n) (x ∷ l) h zero = h zero
take_typed w (suc n) (x ∷ l) h (suc k) = take_typed w n l (λ j. h (suc j)) k

-- a column of the cells: the tags, or the bits
column_back : (i : ℕ) → total (take i saved_cell_layout) + get_or saved_cell_layout i 0 ≤ saved_cell_width → (ts bs cs rest : List ℕ) → length ts ≡ length bs → length ts ≡ length cs
    → ((k : ℕ) → get_or (get_or ts k 0 ∷ get_or bs k 0 ∷ []) i 0 % 2 ^ get_or saved_cell_layout i 0 ≡ get_or cs k 0) → column_in i (length cs) (cells_saved ts bs ++ rest) ≡ cs
unfolding column_in
column_back i low [] bs [] rest e f same = refl
column_back i low [] bs (c ∷ cs) rest e f same = absurd (let z : ⊥ = omega (arith, f) in z)
column_back i low (t ∷ ts) [] cs rest e f same = absurd (let z : ⊥ = omega (arith, e) in z)
column_back i low (t ∷ ts) (b ∷ bs) [] rest e f same = absurd (let z : ⊥ = omega (arith, f) in z)
column_back i low (t ∷ ts) (b ∷ bs) (c ∷ cs) rest e f same =
    let first : List ℕ = side saved_cell_layout (t ∷ b ∷ []) in
    let others : List ℕ = cells_saved ts bs ++ rest in
    let whole : (first ++ cells_saved ts bs) ++ rest ≡ first ++ others = append_assoc first (cells_saved ts bs) rest in
    ap₂ (λ (x : ℕ) (l : List ℕ). x ∷ l)
    (ap (field_in saved_cell_layout i) whole ∙ field_back saved_cell_layout (t ∷ b ∷ []) others i low ∙ same zero)
    (ap (λ (l : List ℕ). column_in i (length cs) (drop saved_cell_width l)) whole
    ∙ ap (column_in i (length cs)) (drop_at first others saved_cell_width (side_length saved_cell_layout (t ∷ b ∷ [])))
    ∙ column_back i low ts bs cs rest (omega (arith, e)) (omega (arith, f)) (λ k. same (suc k)))

-- ---- of a sound state
module _ (p : Program) (r : Registers) (m : Memory) (s : Sound p r m) (t : Typed m) where
  -- what is saved of it
  abbrev saved : List ℕ
  saved = state_bits r m.cells m.output

  abbrev pad : List ℕ
  pad = padding_of saved

  -- the bits of its image
  abbrev bits : List ℕ
  bits = saved ++ pad

  abbrev head : List ℕ
  head = side head_layout (head_of r)

  abbrev body : List ℕ
  body = cells_saved m.cells.tags m.cells.bits

  abbrev bytes : List ℕ
  bytes = take r.written m.output

  parts : bits ≡ head ++ (body ++ (bits_of bytes ++ pad))
  unfolding state_bits
  parts = append_assoc head (body ++ bits_of bytes) pad ∙ ap (λ (l : List ℕ). head ++ l) (append_assoc body (bits_of bytes) pad)

  behind_head : drop head_width bits ≡ body ++ (bits_of bytes ++ pad)
  behind_head = ap (drop head_width) parts ∙ drop_at head (body ++ (bits_of bytes ++ pad)) head_width (side_length head_layout (head_of r))

  behind_body : drop (output_from r.n) bits ≡ bits_of bytes ++ pad
  behind_body =
      let l : length body ≡ r.n * saved_cell_width =
      cells_saved_length m.cells.tags m.cells.bits (s.tags ∙ sym s.bits) ∙ ap (λ (k : ℕ). k * saved_cell_width) s.tags in
      sym (drop-drop (r.n * saved_cell_width) head_width bits) ∙ ap (drop (r.n * saved_cell_width)) behind_head ∙ drop_at body (bits_of bytes ++ pad) (r.n * saved_cell_width) l

  behind_all : drop (announced r.n r.written) bits ≡ pad
  behind_all = drop_at saved pad (announced r.n r.written) (state_length r m.cells m.output s.tags s.bits s.written)

  -- its registers: each is below what its field has room for
  head_back : (i : ℕ) → total (take i head_layout) + get_or head_layout i 0 ≤ head_width → get_or (head_of r) i 0 < 2 ^ get_or head_layout i 0
      → field_in head_layout i bits ≡ get_or (head_of r) i 0
  head_back i low few =
      ap (field_in head_layout i) parts ∙ field_back head_layout (head_of r) (body ++ (bits_of bytes ++ pad)) i low ∙ mod-eq_of_lt few

  registers_back_lem : (h : ℕ) → registers_in h bits ≡ registers_holding h 0 0 r
  unfolding registers_in
  registers_back_lem h i =
      record {
        n = head_back 0 (lit≤ tt) (omega (arith, s.few)) i;
        h = h;
        pc = head_back 1 (lit≤ tt) (omega (arith, s.pc, table_short p s.table)) i;
        sp = head_back 2 (lit≤ tt) (omega (arith, s.few, s.sp)) i;
        fbr = head_back 3 (lit≤ tt) (omega (arith, s.few, s.fbr)) i;
        halt = head_back 4 (lit≤ tt) (omega (arith, s.halt)) i;
        used = 0;
        kept = 0;
        written = head_back 5 (lit≤ tt) (omega (arith, s.written, s.shown)) i;
      }

  cells_back_lem : cells_in r.n bits ≡ m.cells
  cells_back_lem =
      let same : length m.cells.tags ≡ length m.cells.bits = s.tags ∙ sym s.bits in
      let rest : List ℕ = bits_of bytes ++ pad in
      ap₂ {C = Cells} (λ (b t : List ℕ). record { bits = b; tags = t })
      (ap₂ (column_in 1) (sym s.bits) behind_head
      ∙ column_back 1 (lit≤ tt) m.cells.tags m.cells.bits m.cells.bits rest same same (λ k. mod-eq_of_lt (t.cells k)))
      (ap₂ (column_in 0) (sym s.tags) behind_head
      ∙ column_back 0 (lit≤ tt) m.cells.tags m.cells.bits m.cells.tags rest same refl (λ k. mod-eq_of_lt (omega (arith, (s.cells k).tag))))

  bytes_in_back : bytes_in r bits ≡ bytes
  unfolding bytes_in
  bytes_in_back =
      ap₂ bytes_of (sym (length-take-le r.written m.output s.written)) behind_body
      ∙ bytes_back bytes pad (take_typed 8 r.written m.output t.bytes)

  -- ---- loaded again
  module _ (image : List ℕ) (e : bits_of image ≡ bits) (lent : Memory) (takes : RoomFor r lent) where
    -- the registers that it leaves
    abbrev again : Registers
    again = registers_holding (length lent.history) 0 0 r

    again_is : registers_in (length lent.history) (bits_of image) ≡ again
    again_is = ap (registers_in (length lent.history)) e ∙ registers_back_lem (length lent.history)

    enters : entry_of image p lent ≡ Ok tt
    unfolding registers_in
    enters =
        let n : told_cells (bits_of image) ≡ r.n = ap (λ (q : Registers). q.n) again_is in
        let w : told_bytes (bits_of image) ≡ r.written = ap (λ (q : Registers). q.written) again_is in
        let whole : announced r.n r.written ≤ length image * 8 =
        omega (arith, bits_of_length image, ap length e, length-append saved pad, state_length r m.cells m.output s.tags s.bits s.written) in
        facts_entry image (length lent.cells.bits) (length lent.cells.tags) (length lent.history) (length lent.output)
        (record {
          whole = subst₂ (λ (a b : ℕ). announced a b ≤ length image * 8) (sym n) (sym w) whole;
          cells = takes.bits ∙ sym n;
          tagged = takes.tags ∙ sym n;
          short = takes.history;
          shown = takes.output;
        })

    is_judged : is_sound image p lent ≡ true
    is_judged =
        ap₂ (λ (q : Registers) (l : List ℕ). sound p q (record { cells = cells_in q.n l; history = lent.history; output = lent.output })) again_is e
        ∙ ap (λ (c : Cells). sound p again (record { cells = c; history = lent.history; output = lent.output })) cells_back_lem
        ∙ sound_beside p r m s (length lent.history) 0 0 lent.history lent.output
        (record { long = refl; short = takes.history; used = zero-le; kept = zero-le; none = λ q. refl; shown = takes.output; written = takes.room })

    is_padded_lem : is_padded image p lent ≡ true
    is_padded_lem =
        ap₂ (λ (q : Registers) (l : List ℕ). padded (drop (announced q.n q.written) l)) again_is e
        ∙ ap padded behind_all ∙ padding_padded saved

    loaded_back : load image p lent ≡ record { answer = Ok (carried_to lent r m).registers; memory = (carried_to lent r m).memory }
    unfolding bytes_in
    loaded_back =
        load_done image p lent enters is_judged is_padded_lem
        ∙ ap₂ (λ (q : Registers) (l : List ℕ). loaded q l lent) again_is e
        ∙ ap₂ {C = Loading} (λ (c : Cells) (o : List ℕ). record {
          answer = Ok again;
          memory =
              record {
                cells = c;
                history = replicate (length lent.history) 0;
                output = o ++ replicate (length lent.output - r.written) 0;
              };
        }) cells_back_lem bytes_in_back

-- ---- saved, and loaded again
pub carried_over : (p : Program) (r : Registers) (m : Memory) (image : List ℕ) (lent : Memory)
    → sound p r m ≡ true → Typed m → length image ≡ state_size → RoomFor r lent → CarriedOver p r m image lent
carried_over p r m image lent h t long takes =
    let s : Sound p r m = sound_facts p r m h in
    let saved : List ℕ = state_bits r m.cells m.output in
    let done = save_done p r m image long h in
    let fits : bytes_for (length saved) ≤ state_size = state_fits p r m s in
    let told : List ℕ = take (bytes_for (length saved)) (packed_to state_size saved) in
    let same : told_image (save p r m image) ≡ told = ap told_image done in
    let l : length (told_image (save p r m image)) ≡ bytes_for (length saved) = ap length same ∙ told_length state_size saved fits in
    let back = ap (λ (x : List ℕ). load x p lent) same ∙ loaded_back p r m s t told (told_bits state_size saved fits (state_bits_lem r m.cells m.output)) lent takes in
    record {
      saves = ap (λ (o : Saving). o.answer) done ∙ ap Ok (sym l);
      fits = subst (λ (n : ℕ). n ≤ state_size) (sym l) fits;
      loads = ap (λ (o : Loading). is_ok o.answer) back;
      keeps = ap left_by_load back;
    }
