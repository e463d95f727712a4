-- What a caller is told of records that pass. Assumes nothing.
use Rattle.std.specs.Prelude.{Some, None}
use Prim.Native.Nat.{ℕ, ◌+◌, ◌≤◌}
use mathlib.Core.Path.{◌≡◌, refl}
use mathlib.Core.Bool.{Bool, true, false, cond}
use mathlib.Core.List.{List}
use native.Mathlib.Omega.{arith}
use lib.ListN.{drop}
use Rattle.rules.specs.Lists.{every}
use Rattle.rules.specs.Records.{HistoryRecord, cut_down, formed_records, kept_tests, places_taken}
use Rattle.rules.proofs.Tests.{every_at}
use Rattle.rules.proofs.Records.{taken_from, taken_fewer}
use Rattle.records.specs.Judgements.{judgement}

module _ (n count kept stay : ℕ) (ws : List HistoryRecord) (below : ℕ) (e : Some below ≡ judgement n count kept stay ws) where
  judged : (every (kept_tests n count kept ws) ≡ true) × (below ≡ places_taken (drop stay ws))
  unfolding judgement
  judged = which (every (kept_tests n count kept ws)) e
    where
      which : (b : Bool) → Some below ≡ cond b (Some (places_taken (drop stay ws))) None → (b ≡ true) × (below ≡ places_taken (drop stay ws))
      which true same = (refl, cc)
      which false same = (cc, cc)

  pub judged_formed : formed_records n count ws ≡ true
  judged_formed = every_at (kept_tests n count kept ws) 0 judged.0

  judged_below : below ≡ places_taken (drop stay ws)
  judged_below = judged.1

-- the places below the newest of them are among those used
pub below_within : (n count kept stay used : ℕ) (history : List ℕ) (below : ℕ) → Some below ≡ judgement n count kept stay (cut_down 0 used history) → below ≤ used
below_within n count kept stay used history below e =
    let ws : List HistoryRecord = cut_down 0 used history in
    let taken : 0 + places_taken ws ≡ used =
    taken_from n count 0 used history (omega arith) (judged_formed n count kept stay ws below e) in
    omega (arith, judged_below n count kept stay ws below e, taken, taken_fewer stay ws)
