-- A load that is accepted leaves a machine that holds no record, and without its history is in a good state: sound, its cells of 32 bits, its output's rest zero. So
-- it is where a series begins. Assumes nothing.
use Rattle.std.specs.Prelude.{Ok, IsOk}
use Prim.Native.Nat.{ℕ, zero, suc, ◌+◌, ◌-◌, ◌^◌, ◌<◌, zero-le}
use mathlib.Core.Path.{◌≡◌, refl, sym, ap, ap₂, ◌∙◌}
use mathlib.Core.Bool.{true}
use mathlib.Core.List.{List, [], ◌∷◌, ◌++◌}
use native.Mathlib.Nat.{sub-zero}
use native.Mathlib.Omega.{arith}
use lib.ListN.{length, get_or, take, drop, replicate, length-append, length-replicate}
use lib.Pow.{pow_pos}
use lib.Seq.{drop_at}
use Rattle.rules.specs.Lists.{every}
use Rattle.rules.specs.Fields.{bits_of, total}
use Rattle.rules.specs.Cells.{Cells}
use Rattle.rules.specs.Table.{Program}
use Rattle.rules.specs.State.{Memory, sound_cells, range_tests, sound}
use Rattle.rules.specs.SavedState.{head_width, saved_cell_layout, saved_cell_width, registers_in, column_in, cells_in, output_from, bytes_in, Loading, memory_in, loaded, entry, load}
use Rattle.rules.specs.declared.Registers.{Registers}
use Rattle.rules.proofs.Bits.{Bits, bits_drop, bits_bytes, part_most, bytes_length}
use Rattle.rules.proofs.SavedState.{entry_facts, is_sound, load_done, AcceptedLoad, load_accepted}
use Rattle.rules.proofs.Fair.{Sound}
use Rattle.rules.proofs.FairEffects.{sound_facts}
use Rattle.promises.specs.Series.{State, plain, left_by_load, SameSizes, fresh}
use Rattle.promises.proofs.Demand3Good.{Good, sound_beside}
use Rattle.promises.proofs.Demand3Held.{held, Begins}

-- ---- what an image holds

-- each number of a column of w bits
column_most : (i n w : ℕ) (l : List ℕ) → Bits l → w ≡ get_or saved_cell_layout i 0 → (k : ℕ) → get_or (column_in i n l) k 0 < 2 ^ w
unfolding column_in
column_most i zero w l x e k = pow_pos w
column_most i (suc n) w l x e zero = rw e (part_most l x (total (take i saved_cell_layout)) (get_or saved_cell_layout i 0))
column_most i (suc n) w l x e (suc k) = column_most i n w (drop saved_cell_width l) (bits_drop saved_cell_width l x) e k

-- ---- what it leaves
module _ (image : List ℕ) (p : Program) (m : Memory) (a : AcceptedLoad image p m) where
  abbrev bits : List ℕ
  bits = bits_of image

  abbrev r : Registers
  r = registers_in (length m.history) bits

  -- the state that was judged, with the lent history and output
  judged_sound : Sound p r (record { cells = cells_in r.n bits; history = m.history; output = m.output })
  judged_sound = sound_facts p r _ a.judged

  bytes_in_lem : length (bytes_in r bits) ≡ r.written
  unfolding bytes_in
  bytes_in_lem = bytes_length r.written (drop (output_from r.n) bits)

  output_long : length (memory_in r bits m).output ≡ length m.output
  output_long =
      length-append (bytes_in r bits) (replicate (length m.output - r.written) 0)
      ∙ ap₂ ◌+◌ bytes_in_lem (length-replicate (length m.output - r.written) 0)
      ∙ omega (arith, judged_sound.written)

  -- the machine that it leaves, without its history, is in a good state
  good_loaded : Good p (plain (fresh (left_by_load (loaded r bits m))))
  good_loaded =
      let s = judged_sound in
      record {
        sound =
            sound_beside p r (record { cells = cells_in r.n bits; history = m.history; output = m.output }) s 0 0 0 [] (memory_in r bits m).output
            (record {
              long = refl;
              short = zero-le;
              used = zero-le;
              kept = zero-le;
              none = λ q. refl;
              shown = omega (arith, output_long, s.shown);
              written = omega (arith, output_long, s.written);
            });
        narrow = column_most 1 r.n 32 (drop head_width bits) (bits_drop head_width bits (bits_bytes image)) refl;
        blank =
            record {
              history = refl;
              output =
                  drop_at (bytes_in r bits) (replicate (length m.output - r.written) 0) r.written bytes_in_lem
                  ∙ ap (λ (k : ℕ). replicate (k - r.written) 0) (sym output_long);
            };
      }

-- beside one of the same sizes but for the history, it holds no record
held_loaded : (bits : List ℕ) (m m' : Memory) → SameSizes m m'
    → left_by_load (loaded (registers_in (length m.history) bits) bits m)
    ≡ held (length m.history) [] (fresh (left_by_load (loaded (registers_in (length m'.history) bits) bits m')))
unfolding registers_in bytes_in
held_loaded bits m m' same =
    let r : Registers = registers_in (length m.history) bits in
    ap₂ {C = State} (λ (h o : ℕ). record {
      registers = r;
      memory = record { cells = cells_in r.n bits; history = replicate h 0; output = bytes_in r bits ++ replicate (o - r.written) 0 };
    }) (sym (sub-zero (length m.history))) same.output

-- so it is where a series begins
pub load_begins : (image : List ℕ) (p : Program) (m m' : Memory) → IsOk (load image p m).answer → IsOk (load image p m').answer → SameSizes m m'
    → Begins p (left_by_load (load image p m)) (fresh (left_by_load (load image p m')))
unfolding registers_in
load_begins image p m m' going going' same =
    let a : AcceptedLoad image p m = load_accepted image p m going in
    let b : AcceptedLoad image p m' = load_accepted image p m' going' in
    rw (a.leaves, b.leaves)
    (record {
      short = (entry_facts image (length m.cells.bits) (length m.cells.tags) (length m.history) (length m.output) a.enters).short;
      holds = held_loaded (bits_of image) m m' same;
      none = refl;
      good = good_loaded image p m' b;
    })

-- ---- of an accepted load, what is answered and left hangs on the image, the program and the sizes of the lent memory alone

sound_sized : (p : Program) (r : Registers) (c : Cells) (h h' o o' : List ℕ) → length h ≡ length h' → length o ≡ length o'
    → sound p r (record { cells = c; history = h; output = o }) ≡ sound p r (record { cells = c; history = h'; output = o' })
unfolding sound
sound_sized p r c h h' o o' e f =
    ap₂ (λ (a b : ℕ). every (range_tests p r (length c.bits) (length c.tags) a b ++ (sound_cells p.count c.tags c.bits ∷ []))) e f

pub load_sized : (image : List ℕ) (p : Program) (m m' : Memory) → IsOk (load image p m).answer → SameSizes m m' → length m.history ≡ length m'.history
    → load image p m ≡ load image p m'
load_sized image p m m' going same history =
    let a : AcceptedLoad image p m = load_accepted image p m going in
    let bits : List ℕ = bits_of image in
    let r : ℕ → Registers = λ h. registers_in h bits in
    let enters : entry image (length m'.cells.bits) (length m'.cells.tags) (length m'.history) (length m'.output) ≡ Ok tt =
    rw (sym same.bits, sym same.tags, sym history, sym same.output) a.enters in
    let judged : is_sound image p m' ≡ true =
    sym (ap (λ (h : ℕ). sound p (r h) (record { cells = cells_in (r h).n bits; history = m.history; output = m.output })) history
    ∙ sound_sized p (r (length m'.history)) (cells_in (r (length m'.history)).n bits) m.history m'.history m.output m'.output history same.output)
    ∙ a.judged in
    a.leaves
    ∙ ap₂ {C = Loading} (λ (h o : ℕ). record {
      answer = Ok (r h);
      memory = record { cells = cells_in (r h).n bits; history = replicate h 0; output = bytes_in (r h) bits ++ replicate (o - (r h).written) 0 };
    }) history same.output
    ∙ sym (load_done image p m' enters judged (rw (sym history) a.padding))
