-- The laws of the saved state's definitions: each answer of a save and of a load, and how long an image is. Assumes nothing.
use Rattle.std.specs.Prelude.{Ok, Err, is_ok, IsOk}
use Prim.Native.Nat.{ℕ, ◌+◌, ◌*◌, ◌≤◌, ◌<◌}
use mathlib.Core.Path.{◌≡◌, refl, sym, ap, ap₂, subst, ◌∙◌}
use mathlib.Core.Bool.{Bool, true, false, cond}
use mathlib.Core.List.{List, [], ◌∷◌, ◌++◌}
use native.Mathlib.Omega.{arith}
use borrow.Author.Tests.{lt-leb, le-leb, leb-true, eq-eqb, ne_eqb, eqb-true}
use lib.Dec.{leb}
use lib.ListN.{length, get_or, take, drop, replicate, length-append}
use lib.Seq.{length-take-le}
use Rattle.rules.specs.Lists.{every}
use Rattle.rules.specs.Sizes.{max_history, max_output, state_size}
use Rattle.rules.specs.Fields.{bits_of, packed_to, bytes_for, padded, side}
use Rattle.rules.specs.Cells.{Cells}
use Rattle.rules.specs.Table.{Program}
use Rattle.rules.specs.State.{Memory, sound}
use Rattle.rules.specs.SavedState.{head_layout, head_of, saved_cell_layout, saved_cell_width, cells_saved, state_bits, save, told_cells, told_bytes, registers_in, announced, Loading, not_loaded, loaded, lent_sizes, entry, entered, sound_in, load}
use Rattle.rules.specs.declared.Registers.{Registers}
use Rattle.rules.specs.declared.SaveRefusal.TheVariants.{UnsoundState, ImageLength}
use Rattle.rules.specs.declared.LoadRefusal.{LoadRefusal}
use Rattle.rules.specs.declared.LoadRefusal.TheVariants.{OutsideRanges, StateEndsEarly, StatePadding, OtherSizes}
use Rattle.rules.specs.Answers.{Resumed, Entry}
use Rattle.rules.proofs.Tests.{by_test, every_at}
use Rattle.rules.proofs.Fields.{bits_of_length}
use Rattle.rules.proofs.Bits.{Bits, bits_append, bits_bytes}
use Rattle.rules.proofs.Layouts.{side_length, side_bits}
use Rattle.rules.proofs.Fair.{Sound}

-- ---- the answers of a save
module _ (p : Program) (r : Registers) (m : Memory) (image : List ℕ) where
  -- 31
  pub save_length : (length image ≡ state_size → ⊥) → save p r m image ≡ record { answer = Err ImageLength; image = image }
  unfolding save
  save_length h = rw (ne_eqb (length image) state_size h)

  -- 10
  pub save_broken : length image ≡ state_size → sound p r m ≡ false → save p r m image ≡ record { answer = Err UnsoundState; image = replicate state_size 0 }
  unfolding save
  save_broken h e = rw (eq-eqb (length image) state_size h, e)

  pub save_done : length image ≡ state_size → sound p r m ≡ true
      → save p r m image ≡ record { answer = Ok (bytes_for (length (state_bits r m.cells m.output))); image = packed_to state_size (state_bits r m.cells m.output) }
  unfolding save
  save_done h e = rw (eq-eqb (length image) state_size h, e)

-- ---- what a load asks first

-- a refusal is no acceptance
refused_not : {A : Type 0} → false ≡ true → A
refused_not q = let z : ◌≡◌ {A = ℕ} 0 1 = cc in absurd (let y : ⊥ = omega arith in y)

apart : {A : Type 0} (e : LoadRefusal) → ◌≡◌ {A = Entry} (Err e) (Ok tt) → A
apart e q = refused_not (ap is_ok q)

module _ (image : List ℕ) (bits tags history output : ℕ) where
  abbrev l : List ℕ
  l = bits_of image

  abbrev complete : Bool
  complete = leb (announced (told_cells l) (told_bytes l)) (length l)

  abbrev lent : Bool
  lent = every (lent_sizes (told_cells l) bits tags history output)

  chosen : {x y : Bool} → complete ≡ x → lent ≡ y → entry image bits tags history output ≡ cond x (cond y (Ok tt) (Err OtherSizes)) (Err StateEndsEarly)
  unfolding entry
  chosen f g = ap₂ (λ (x y : Bool). cond x (cond y (Ok tt) (Err OtherSizes)) (Err StateEndsEarly)) f g

  pub entry_early : length image * 8 < announced (told_cells l) (told_bytes l) → entry image bits tags history output ≡ Err StateEndsEarly
  entry_early h = let f : length l < announced (told_cells l) (told_bytes l) = omega (arith, h, bits_of_length image) in chosen (lt-leb _ _ f) refl

  module _ (whole : announced (told_cells l) (told_bytes l) ≤ length image * 8) where
    is_complete : complete ≡ true
    is_complete = let f : announced (told_cells l) (told_bytes l) ≤ length l = omega (arith, whole, bits_of_length image) in le-leb _ _ f

    pub entry_sizes : lent ≡ false → entry image bits tags history output ≡ Err OtherSizes
    entry_sizes f = chosen is_complete f

    pub entry_going : lent ≡ true → entry image bits tags history output ≡ Ok tt
    entry_going f = chosen is_complete f

  -- what is so where neither 41 nor 67 is given
  pub record Entered : Type 0 where
    pub whole : announced (told_cells l) (told_bytes l) ≤ length image * 8
    pub cells : bits ≡ told_cells l
    pub tagged : tags ≡ told_cells l
    pub short : history ≤ max_history
    pub shown : output ≤ max_output

  pub facts_entry : Entered → entry image bits tags history output ≡ Ok tt
  facts_entry e =
      entry_going e.whole (simp (eq-eqb _ _ e.cells, eq-eqb _ _ e.tagged, le-leb _ _ e.short, le-leb _ _ e.shown))

  pub entry_facts : entry image bits tags history output ≡ Ok tt → Entered
  entry_facts q =
      by_test complete
      (λ f.
      by_test lent
      (λ g.
      let at : (k : ℕ) → get_or (lent_sizes (told_cells l) bits tags history output) k true ≡ true = λ k. every_at (lent_sizes (told_cells l) bits tags history output) k g in
      let t : announced (told_cells l) (told_bytes l) ≤ length l = leb-true _ _ f in
      record {
        whole = omega (arith, t, bits_of_length image);
        cells = eqb-true _ _ (at 0);
        tagged = eqb-true _ _ (at 1);
        short = leb-true _ _ (at 2);
        shown = leb-true _ _ (at 3);
      })
      (λ g. apart OtherSizes (sym (chosen f g) ∙ q)))
      (λ f. apart StateEndsEarly (sym (chosen f refl) ∙ q))

-- ---- the answers of a load
module _ (image : List ℕ) (p : Program) (m : Memory) where
  abbrev bits : List ℕ
  bits = bits_of image

  abbrev pub entry_of : Entry
  entry_of = entry image (length m.cells.bits) (length m.cells.tags) (length m.history) (length m.output)

  -- the registers that it would leave
  abbrev pub registers_held : Registers
  registers_held = registers_in (length m.history) bits

  abbrev pub is_sound : Bool
  is_sound = sound_in p registers_held bits m

  abbrev pub is_padded : Bool
  is_padded = padded (drop (announced registers_held.n registers_held.written) bits)

  -- one after the other
  abbrev ordered : Entry → (sound padded : Bool) → Loading
  ordered e z w =
      entered e m (cond z (cond w (loaded registers_held bits m) (not_loaded m StatePadding)) (not_loaded m OutsideRanges))

  load_by : {e : Entry} {z w : Bool} → entry_of ≡ e → is_sound ≡ z → is_padded ≡ w → load image p m ≡ ordered e z w
  unfolding load
  load_by {e} f g h = ap (λ (x : Entry). ordered x is_sound is_padded) f ∙ ap₂ (ordered e) g h

  pub load_entry : (e : LoadRefusal) → entry_of ≡ Err e → load image p m ≡ not_loaded m e
  load_entry e f = load_by f refl refl

  module _ (going : entry_of ≡ Ok tt) where
    pub load_ranges : is_sound ≡ false → load image p m ≡ not_loaded m OutsideRanges
    load_ranges g = load_by going g refl

    module _ (judged : is_sound ≡ true) where
      pub load_padding : is_padded ≡ false → load image p m ≡ not_loaded m StatePadding
      load_padding g = load_by going judged g

      pub load_done : is_padded ≡ true → load image p m ≡ loaded registers_held bits m
      load_done g = load_by going judged g

  -- a load that is accepted: its tests passed
  pub record AcceptedLoad : Type 0 where
    pub enters : entry_of ≡ Ok tt
    pub judged : is_sound ≡ true
    pub padding : is_padded ≡ true
    pub leaves : load image p m ≡ loaded registers_held bits m

  -- it is accepted, or refused
  data Outcome : Type 0 where
    taken : AcceptedLoad → Outcome
    refused : (e : LoadRefusal) → load image p m ≡ not_loaded m e → Outcome

  outcome : Outcome
  outcome = go entry_of refl
    where
      go : (e : Entry) → entry_of ≡ e → Outcome
      go (Err e) f = refused e (load_entry e f)
      go (Ok tt) f =
          by_test is_sound
          (λ g.
          by_test is_padded
          (λ h. taken (record { enters = f; judged = g; padding = h; leaves = load_done f g h }))
          (λ h. refused StatePadding (load_padding f g h)))
          (λ g. refused OutsideRanges (load_ranges f g))

  pub load_accepted : IsOk (load image p m).answer → AcceptedLoad
  load_accepted q = go outcome
    where
      go : Outcome → AcceptedLoad
      go (taken a) = a
      go (refused e f) = refused_not (subst (λ (o : Loading). IsOk o.answer) f q)

  pub load_refused : (k : LoadRefusal) → (load image p m).answer ≡ Err k → load image p m ≡ not_loaded m k
  load_refused k q = go outcome
    where
      go : Outcome → load image p m ≡ not_loaded m k
      go (taken a) = refused_not (subst IsOk (sym (ap (λ (o : Loading). o.answer) a.leaves) ∙ q) refl)
      go (refused e f) =
          f
          ∙ ap {B = Loading} (λ (x : Resumed). record { answer = x; memory = m })
          (sym (ap (λ (o : Loading). o.answer) f) ∙ q)

-- ---- how long an image is

pub cells_saved_length : (ts bs : List ℕ) → length ts ≡ length bs → length (cells_saved ts bs) ≡ length ts * saved_cell_width
cells_saved_length [] bs e = refl
cells_saved_length (t ∷ ts) [] e = absurd (let z : ⊥ = omega (arith, e) in z)
cells_saved_length (t ∷ ts) (b ∷ bs) e =
    length-append (side saved_cell_layout (t ∷ b ∷ [])) (cells_saved ts bs)
    ∙ ap₂ ◌+◌ (side_length saved_cell_layout (t ∷ b ∷ [])) (cells_saved_length ts bs (omega (arith, e)))
    ∙ omega arith

cells_saved_bits : (ts bs : List ℕ) → Bits (cells_saved ts bs)
cells_saved_bits [] bs = tt
cells_saved_bits (t ∷ ts) [] = tt
cells_saved_bits (t ∷ ts) (b ∷ bs) =
    bits_append (side saved_cell_layout (t ∷ b ∷ [])) (cells_saved ts bs) (side_bits saved_cell_layout (t ∷ b ∷ [])) (cells_saved_bits ts bs)

module _ (r : Registers) (c : Cells) (output : List ℕ) where
  pub state_bits_lem : Bits (state_bits r c output)
  unfolding state_bits
  state_bits_lem =
      bits_append (side head_layout (head_of r)) _ (side_bits head_layout (head_of r))
      (bits_append (cells_saved c.tags c.bits) _ (cells_saved_bits c.tags c.bits) (bits_bytes (take r.written output)))

  -- all that its N and its output count announce
  pub state_length : length c.tags ≡ r.n → length c.bits ≡ r.n → r.written ≤ length output → length (state_bits r c output) ≡ announced r.n r.written
  unfolding state_bits
  state_length tagged celled low =
      let cs : List ℕ = cells_saved c.tags c.bits in
      let ws : List ℕ = bits_of (take r.written output) in
      let lc : length cs ≡ length c.tags * saved_cell_width = cells_saved_length c.tags c.bits (tagged ∙ sym celled) in
      let lw : length ws ≡ r.written * 8 = bits_of_length (take r.written output) ∙ ap (λ (k : ℕ). k * 8) (length-take-le r.written output low) in
      length-append (side head_layout (head_of r)) (cs ++ ws) ∙ ap₂ ◌+◌ (side_length head_layout (head_of r)) (length-append cs ws ∙ ap₂ ◌+◌ lc lw)
      ∙ omega (arith, tagged)

-- of a sound state, 4,638 bytes hold it
pub state_fits : (p : Program) (r : Registers) (m : Memory) → Sound p r m → bytes_for (length (state_bits r m.cells m.output)) ≤ state_size
state_fits p r m s = omega (arith, state_length r m.cells m.output s.tags s.bits s.written, s.few, s.written, s.shown)
