-- A reset that is accepted leaves a machine that holds no record, and without its history is in a good state: sound, its cells of 32 bits, its output zero. So
-- it is where a series begins. Assumes nothing.
use Rattle.std.specs.Prelude.{IsOk}
use Prim.Native.Nat.{ℕ, ◌≤◌, zero-le}
use mathlib.Core.Path.{◌≡◌, refl, sym, ap, ◌∙◌}
use mathlib.Core.Bool.{Bool, true, false, cond}
use mathlib.Core.List.{[]}
use native.Mathlib.Nat.{sub-zero}
use native.Mathlib.Omega.{arith}
use lib.Dec.{lit<}
use lib.ListN.{length, get_or, replicate, length-replicate}
use borrow.Author.Tests.{leb-true, eqb-true}
use Rattle.rules.specs.Lists.{every}
use Rattle.rules.specs.Sizes.{max_history, max_output}
use Rattle.rules.specs.Table.{Program, sound_table}
use Rattle.rules.specs.Tags.{int}
use Rattle.rules.specs.State.{Memory}
use Rattle.rules.specs.Reset.{cleared, denied, size_tests, zeroed, begun, reset}
use Rattle.rules.specs.declared.MachineRefusal.TheVariants.{Broken, OutsideSizes}
use Rattle.rules.proofs.Tests.{every_at}
use Rattle.rules.proofs.Fair.{FairCell}
use Rattle.rules.proofs.FairEffects.{fair_plain}
use Rattle.rules.proofs.Sound.{facts_sound}
use Rattle.rules.proofs.Zeros.{zeros_at_lem}
use Rattle.promises.specs.Unbounded.{Unbounded}
use Rattle.promises.specs.Series.{State, plain, left, SameSizes, fresh}
use Rattle.promises.proofs.Demand3Good.{Good}
use Rattle.promises.proofs.Demand3Held.{held, Begins}

-- ---- a reset that is accepted

-- its tests passed
pub record Accepted (p : Program) (m : Memory) : Type 0 where
  pub sizes : every (size_tests m) ≡ true
  pub table : sound_table p ≡ true
  pub leaves : reset p m ≡ begun m

not_denied : {A : Type 0} → false ≡ true → A
not_denied q = let z : ◌≡◌ {A = ℕ} 0 1 = cc in absurd (let y : ⊥ = omega arith in y)

pub reset_accepted : (p : Program) (m : Memory) → IsOk (reset p m).answer → Accepted p m
unfolding reset
reset_accepted p m = go (every (size_tests m)) refl (sound_table p) refl
  where
    go : (a : Bool) → every (size_tests m) ≡ a → (b : Bool) → sound_table p ≡ b
        → IsOk (cond a (cond b (begun m) (denied m Broken)) (denied m OutsideSizes)).answer → Accepted p m
    go true x true y q = record { sizes = x; table = y; leaves = rw (x, y) refl }
    go true x false y q = not_denied q
    go false x b y q = not_denied q

-- and a reset is accepted wherever they pass, so that demand 3's premise is met by every sound table and all lent memory within "Sizes"
pub reset_ready : (p : Program) (m : Memory) → every (size_tests m) ≡ true → sound_table p ≡ true → IsOk (reset p m).answer
unfolding reset
reset_ready p m sizes table = rw (sizes, table) refl

-- ---- what it leaves

-- every memory is of its own sizes
pub own_sizes : (m : Memory) → SameSizes m m
own_sizes m = record { bits = refl; tags = refl; output = refl }

-- what it leaves hangs on the sizes of the lent memory alone
begun_sized : (m m' : Memory) → SameSizes m m' → length m.history ≡ length m'.history → begun m ≡ begun m'
begun_sized m m' same history = rw (same.bits, same.tags, history, same.output)

pub reset_sized : (p : Program) (m m' : Memory) → IsOk (reset p m).answer → SameSizes m m' → length m.history ≡ length m'.history
    → reset p m ≡ reset p m'
reset_sized p m m' ready same history =
    let a : Accepted p m = reset_accepted p m ready in
    let sizes : every (size_tests m') ≡ true = rw (sym same.bits, sym same.tags, sym history, sym same.output) a.sizes in
    let b : Accepted p m' = reset_accepted p m' (reset_ready p m' sizes a.table) in
    a.leaves ∙ begun_sized m m' same history ∙ sym b.leaves

-- the machine that it leaves, without its history, is in a good state
good_begun : (p : Program) (m : Memory) → Accepted p m → Good p (plain (fresh (left (begun m))))
good_begun p m a =
    let at : (k : ℕ) → get_or (size_tests m) k true ≡ true = λ k. every_at (size_tests m) k a.sizes in
    let some : 1 ≤ length m.cells.bits = leb-true _ _ (at 0) in
    let x : Unbounded = fresh (left (begun m)) in
    let zero-cell : FairCell p.count (int 0) = fair_plain p.count 0 0 zero-le in
    record {
      sound =
          facts_sound p (plain x).registers (plain x).memory
          (record {
            table = a.table;
            some = some;
            few = leb-true _ _ (at 1);
            short = zero-le;
            bits = length-replicate (length m.cells.bits) 0;
            tags = length-replicate (length m.cells.tags) 0 ∙ eqb-true _ _ (at 3);
            history = refl;
            sp = some;
            fbr = some;
            pc = zero-le;
            halt = zero-le;
            used = zero-le;
            kept = zero-le;
            none = λ q. refl;
            shown = let same = length-replicate {A = ℕ} (length m.output) 0 in omega (arith, same, leb-true (length m.output) max_output (at 4));
            written = zero-le;
            cells = λ k. rw (zeros_at_lem (length m.cells.bits) k, zeros_at_lem (length m.cells.tags) k) zero-cell;
          });
      narrow = λ k. rw (zeros_at_lem (length m.cells.bits) k) (lit< tt);
      blank =
          record { history = refl; output = ap (λ (k : ℕ). replicate k 0) (sym (sub-zero _ ∙ length-replicate (length m.output) 0)) };
    }

-- beside one of the same sizes but for the history, it holds no record
held_begun : (m m' : Memory) → SameSizes m m'
    → left (begun m) ≡ held (length m.history) [] (fresh (left (begun m')))
held_begun m m' same =
    ap {B = State} (λ (h : ℕ). record {
      registers = cleared (length m.cells.bits) (length m.history);
      memory = record { cells = (zeroed m).cells; history = replicate h 0; output = (zeroed m).output };
    }) (sym (sub-zero (length m.history)))
    ∙ rw (same.bits, same.tags, same.output) refl

-- so it is where a series begins
pub reset_begins : (p : Program) (m m' : Memory) → IsOk (reset p m).answer → IsOk (reset p m').answer → SameSizes m m'
    → Begins p (left (reset p m)) (fresh (left (reset p m')))
reset_begins p m m' ready ready' same =
    let a : Accepted p m = reset_accepted p m ready in
    let b : Accepted p m' = reset_accepted p m' ready' in
    rw (a.leaves, b.leaves)
    (record {
      short = leb-true (length m.history) max_history (every_at (size_tests m) 2 a.sizes);
      holds = held_begun m m' same;
      none = refl;
      good = good_begun p m' b;
    })
