-- A forget, answer by answer, and the laws of its loops: the walk down over the records, and the move down over the places. Assumes nothing.
use Prim.Native.Nat.{ℕ, suc, ◌+◌, ◌-◌, ◌≤◌, ◌<◌}
use mathlib.Core.Path.{◌≡◌, refl, sym, ap, ap₂, ◌∙◌}
use mathlib.Core.Bool.{Bool, true, false, ◌&&◌}
use mathlib.Core.List.{List, [], ◌∷◌, ◌++◌}
use native.Mathlib.Nat.{zero-add, add-zero}
use native.Mathlib.Omega.{arith}
use lib.ListN.{length, get_or, take, drop, set, replicate, length-set, length-replicate, length-drop}
use lib.Seq.{drop-drop, get_or-drop, take-suc, take-suc-set, drop-set-lt}
use borrow.Author.Tests.{le-leb, lt-leb}
use Rattle.rules.specs.Lists.{every, part, splice}
use Rattle.rules.specs.Places.{step_count}
use Rattle.rules.specs.Table.{Program}
use Rattle.rules.specs.State.{Memory}
use Rattle.rules.specs.Records.{HistoryRecord, record_at, cut_down, formed_record, formed_records, record_tests, places_taken}
use Rattle.rules.specs.Forget.{freed, moved_down, forgotten, not_forgotten, forget}
use Rattle.rules.specs.declared.Registers.{Registers}
use Rattle.rules.specs.declared.ForgetRefusal.TheVariants.{RecordsBroken, TooManySteps}
use Rattle.rules.proofs.Records.{cells_within, cut_next, cut_none, taken_from}

-- ---- the answers

module _ (p : Program) (k : ℕ) (r : Registers) (m : Memory) where
  -- "10 first"
  pub forget_broken : every (record_tests p r m) ≡ false → forget p k r m ≡ not_forgotten m RecordsBroken
  unfolding forget
  forget_broken fails = rw fails refl

  module _ (passes : every (record_tests p r m) ≡ true) where
    -- "then 14"
    pub forget_too_many : r.kept < k → forget p k r m ≡ not_forgotten m TooManySteps
    unfolding forget
    forget_too_many h = rw (passes, lt-leb k r.kept h) refl

    pub forget_done : k ≤ r.kept → forget p k r m ≡ forgotten (freed k r m) k r m
    unfolding forget
    forget_done h = rw (passes, le-leb k r.kept h) refl

-- ---- the walk down: u places are left below the records passed so far

module _ (n count : ℕ) (history : List ℕ) (used : ℕ) where
  pub record Walked (u passed : ℕ) : Type 0 where
    pub formed : formed_records n count (cut_down 0 used history) ≡ formed_records n count (cut_down 0 u history)
    pub rest : drop passed (cut_down 0 used history) ≡ cut_down 0 u history
    pub many : length (cut_down 0 used history) ≡ passed + length (cut_down 0 u history)

  pub walked_none : Walked used 0
  walked_none = record { formed = refl; rest = refl; many = sym (zero-add (length (cut_down 0 used history))) }

  -- a record that is well formed is passed
  pub walked_one : (i passed : ℕ) → Walked (suc i) passed → formed_record n count (record_at i history) ≡ true
      → Walked (i - step_count (get_or history i 0)) (passed + 1)
  walked_one i passed w f =
      let below : ℕ = i - step_count (get_or history i 0) in
      let cuts : cut_down 0 (suc i) history ≡ record_at i history ∷ cut_down 0 below history = cut_next i history (cells_within n count (record_at i history) f) in
      record {
        formed = w.formed ∙ ap (formed_records n count) cuts ∙ ap (λ (b : Bool). b && formed_records n count (cut_down 0 below history)) f;
        rest = sym (drop-drop 1 passed (cut_down 0 used history)) ∙ ap (drop 1) (w.rest ∙ cuts);
        many = w.many ∙ ap (λ (ws : List HistoryRecord). passed + length ws) cuts ∙ omega arith;
      }

  -- one that is not makes it 10
  pub walked_bad : (i passed : ℕ) → Walked (suc i) passed → formed_record n count (record_at i history) ≡ false
      → formed_records n count (cut_down 0 used history) ≡ false
  unfolding cut_down
  walked_bad i passed w f =
      w.formed ∙ ap (λ (b : Bool). b && formed_records n count (cut_down (step_count (get_or history i 0)) i history)) f

  -- at place 0 all are well formed, and counted
  pub walked_all : (passed : ℕ) → Walked 0 passed → (formed_records n count (cut_down 0 used history) ≡ true) × (length (cut_down 0 used history) ≡ passed)
  walked_all passed w = (
    w.formed ∙ ap (formed_records n count) (cut_none history),
    w.many ∙ ap (λ (ws : List HistoryRecord). passed + length ws) (cut_none history) ∙ add-zero passed,
  )

  -- where the walk stands after the records that stay is what the others take: `freed`
  pub walked_freed : (u passed : ℕ) → Walked u passed → formed_records n count (cut_down 0 used history) ≡ true
      → places_taken (drop passed (cut_down 0 used history)) ≡ u
  walked_freed u passed w f =
      let taken : 0 + places_taken (cut_down 0 u history) ≡ u = taken_from n count 0 u history (omega arith) (sym w.formed ∙ f) in
      ap places_taken w.rest ∙ omega (arith, taken)

-- ---- the move down, in place, one place each turn: the first i of l stand as they are to, and those behind are as they were

pub record MovedTo (l₀ l : List ℕ) (free i : ℕ) : Type 0 where
  pub len : length l ≡ length l₀
  pub done : take i l ≡ part free i l₀
  pub left : drop i l ≡ drop i l₀

pub moved_none : (l₀ : List ℕ) (free : ℕ) → MovedTo l₀ l₀ free 0
moved_none l₀ free = record { len = refl; done = refl; left = refl }

module _ {l₀ l : List ℕ} {free i : ℕ} (w : MovedTo l₀ l free i) where
  -- the place to be read is still as it was
  pub moved_read : get_or l (free + i) 0 ≡ get_or l₀ (free + i) 0
  moved_read =
      let at : free + i ≡ i + free = omega arith in
      ap (λ (k : ℕ). get_or l k 0) at ∙ sym (get_or-drop i l free 0) ∙ ap (λ (k : List ℕ). get_or k free 0) w.left ∙ get_or-drop i l₀ free 0
      ∙ ap (λ (k : ℕ). get_or l₀ k 0) (sym at)

  pub moved_one : free + i < length l₀ → MovedTo l₀ (set l i (get_or l (free + i) 0)) free (i + 1)
  moved_one h =
      let next : i + 1 ≡ suc i = omega arith in
      let v : ℕ = get_or l (free + i) 0 in
      record {
        len = length-set l i v ∙ w.len;
        done =
            ap (λ (k : ℕ). take k (set l i v)) next ∙ take-suc-set l i v (omega (arith, w.len))
            ∙ ap₂ (λ (a : List ℕ) (b : ℕ). a ++ (b ∷ [])) w.done (moved_read ∙ sym (get_or-drop free l₀ i 0))
            ∙ sym (take-suc (drop free l₀) i 0 (omega (arith, length-drop free l₀)))
            ∙ ap (λ (k : ℕ). part free k l₀) (sym next);
        left =
            ap (λ (k : ℕ). drop k (set l i v)) next ∙ drop-set-lt (suc i) l i v (omega arith)
            ∙ ap (λ (k : ℕ). drop k l) (sym next) ∙ sym (drop-drop 1 i l) ∙ ap (drop 1) w.left ∙ drop-drop 1 i l₀;
      }

-- all moved, and the room gained zeroed
pub moved_all : (l₀ l : List ℕ) (free used : ℕ) → free ≤ used → MovedTo l₀ l free (used - free)
    → splice l (used - free) (replicate free 0) ≡ moved_down free used l₀
moved_all l₀ l free used low w =
    let zeros : length (replicate {A = ℕ} free 0) ≡ free = length-replicate free 0 in
    let all : used - free + length (replicate {A = ℕ} free 0) ≡ used - free + free = ap (λ (k : ℕ). used - free + k) zeros in
    let back : used - free + free ≡ used = omega arith in
    ap₂ (λ (a b : List ℕ). a ++ (replicate free 0 ++ b)) w.done
    (ap (λ (k : ℕ). drop k l) all ∙ sym (drop-drop free (used - free) l) ∙ ap (drop free) w.left ∙ drop-drop free (used - free) l₀
    ∙ ap (λ (k : ℕ). drop k l₀) back)
