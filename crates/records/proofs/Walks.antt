-- The walk down over the records in use: what its loop carries, one record more and none left; and the answer at its end. Assumes nothing.
use Rattle.std.specs.Prelude.{Some, None}
use Prim.Native.Nat.{ℕ, suc, ◌+◌, ◌-◌, ◌≤◌, ◌<◌, min}
use mathlib.Core.Path.{◌≡◌, sym, ap, ◌∙◌, subst}
use mathlib.Core.Bool.{Bool, true, false, cond, and-true}
use mathlib.Core.List.{List}
use native.Mathlib.Omega.{arith}
use lib.ListN.{length, get_or, drop, drop_of_length-le}
use lib.Dec.{leb, eqb}
use borrow.Author.Tests.{leb-true, leb-false}
use Rattle.rules.specs.Places.{step_count}
use Rattle.rules.specs.Records.{HistoryRecord, record_at, cut_down, formed_record, kept_tests, places_taken}
use Rattle.rules.proofs.Tests.{by_test, every_false}
use Rattle.rules.proofs.Forgetting.{Walked, walked_one, walked_bad, walked_all, walked_freed}
use Rattle.records.specs.Judgements.{judgement}

module _ (n count stay used : ℕ) (history : List ℕ) where
  -- so many records are passed and so many places left; and so many places are below the newest `stay`, or below all that are passed where these are fewer
  pub record Walking (left passed below : ℕ) : Type 0 where
    pub far : Walked n count history used left passed
    pub newest : Walked n count history used below (min passed stay)
    pub within : passed + left ≤ used

  -- ---- a loop's turn: the record whose step place is the last of the places left
  module _ {left passed below : ℕ} (w : Walking left passed below) (some : 0 < left) where
    at_last : Walked n count history used (suc (left - 1)) passed
    at_last = let last : left ≡ suc (left - 1) = omega arith in subst (λ (k : ℕ). Walked n count history used k passed) last w.far

    pub walk_broken : (kept : ℕ) → formed_record n count (record_at (left - 1) history) ≡ false → None ≡ judgement n count kept stay (cut_down 0 used history)
    unfolding judgement
    walk_broken kept h =
        let ws : List HistoryRecord = cut_down 0 used history in
        sym
        (ap (λ (b : Bool). cond b (Some (places_taken (drop stay ws))) None)
        (every_false (kept_tests n count kept ws) 0 (walked_bad n count history used (left - 1) passed at_last h)))

    -- one that is well formed and has x cells is passed
    module _ (h : formed_record n count (record_at (left - 1) history) ≡ true) {x : ℕ} (is : x ≡ step_count (get_or history (left - 1) 0)) where
      one_more : Walked n count history used (left - 1 - x) (passed + 1)
      one_more =
          subst (λ (k : ℕ). Walked n count history used (left - 1 - k) (passed + 1)) (sym is)
          (walked_one n count history used (left - 1) passed at_last h)

      -- it is one of the newest, or not
      pub walking_new : passed + 1 ≤ stay → Walking (left - 1 - x) (passed + 1) (left - 1 - x)
      walking_new few =
          let all : passed + 1 ≡ min (passed + 1) stay = omega arith in
          record {
            far = one_more;
            newest = subst (Walked n count history used (left - 1 - x)) all one_more;
            within = omega (arith, w.within);
          }

      pub walking_old : stay < passed + 1 → Walking (left - 1 - x) (passed + 1) below
      walking_old many =
          let same : min passed stay ≡ min (passed + 1) stay = omega arith in
          record {
            far = one_more;
            newest = subst (Walked n count history used below) same w.newest;
            within = omega (arith, w.within);
          }

  -- ---- its end: every record is well formed, and they are counted
  pub walk_end : {left passed below : ℕ} (kept : ℕ) → Walking left passed below → left ≤ 0
      → cond (eqb kept passed) (Some below) None ≡ judgement n count kept stay (cut_down 0 used history)
  unfolding judgement
  walk_end {left} {passed} {below} kept w none =
      let ws : List HistoryRecord = cut_down 0 used history in
      let end : left ≡ 0 = omega arith in
      let all = walked_all n count history used passed (subst (λ (k : ℕ). Walked n count history used k passed) end w.far) in
      let freed = walked_freed n count history used below (min passed stay) w.newest all.0 in
      sym
      (rw (all.0, all.1, and-true (eqb kept passed))
      (ap (λ (k : ℕ). cond (eqb kept passed) (Some k) None) (ap places_taken (sym (dropped ws all.1)) ∙ freed)))
    where
      dropped : (ws : List HistoryRecord) → length ws ≡ passed → drop (min passed stay) ws ≡ drop stay ws
      dropped ws long =
          by_test (leb passed stay)
          (λ few.
          let all : length ws ≤ stay = omega (arith, leb-true passed stay few) in
          let most : length ws ≤ min passed stay = omega (arith, leb-true passed stay few) in
          drop_of_length-le ws most ∙ sym (drop_of_length-le ws all))
          (λ many.
          let same : min passed stay ≡ stay = omega (arith, leb-false passed stay many) in
          ap (λ (k : ℕ). drop k ws) same)
