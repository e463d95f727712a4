-- Request g: "How many steps can I take back?" As many as the kept number says: step-backs one after the other are accepted until it is 0, and none
-- after that; forgets may have come before. Assumes nothing.
use Prim.Native.Nat.{ℕ, zero, suc, ◌+◌, min}
use mathlib.Core.Path.{◌≡◌, ap, ◌∙◌}
use mathlib.Core.List.{List}
use native.Mathlib.Omega.{arith}
use lib.ListN.{length, take, replicate}
use lib.Seq.{length-take-le}
use Rattle.rules.specs.Table.{Program}
use Rattle.promises.specs.Unbounded.{Unbounded}
use Rattle.promises.specs.Series.{Request, back, State, Session, ask, series, begin, Origin, TakesBack}
use Rattle.promises.proofs.Demand3Run.{Makes}
use Rattle.promises.proofs.Demand3Held.{Begins}
use Rattle.promises.proofs.Demand3Origin.{origin_begins}
use Rattle.promises.proofs.Demand3Kept.{reached, Kept, records_reached, few_made, BackOn, nothing, one, back_on, keep_back, kept_series}
use Rattle.promises.proofs.Demand3.{kept_few}

module _ (p : Program) (o : State) (x₀ : Unbounded) (begins : Begins p o x₀) where
  -- one step-back: nothing, where no step is kept; or one step more is taken back, and one less is kept
  one_more_lem : (s : Session) (w : Kept p o x₀ begins s) → BackOn p o x₀ begins s w.far w.few → (k : ℕ)
      → (ask p s back).undone + min k (ask p s back).registers.kept ≡ s.undone + min (suc k) s.registers.kept
  one_more_lem s w (nothing z e) k = rw e (omega (arith, kept_few p o x₀ begins s w, z))
  one_more_lem s w (one i j t far few some m v e) k =
      let left : t.registers.kept ≡ j = ap (λ (y : State). y.registers.kept) v.at ∙ length_kept i j m far few in
      rw e (omega (arith, kept_few p o x₀ begins s w, few, left))
    where
      length_kept : (i j : ℕ) → Makes p x₀ i → w.far ≡ suc i → w.few ≡ suc j → length (take j (reached p o x₀ begins i).records) ≡ j
      length_kept i j m far few =
          length-take-le j (reached p o x₀ begins i).records (omega (arith, records_reached p o x₀ begins i m, few_made p o x₀ begins s w, far, few))

  backs_kept : (k : ℕ) (s : Session) → Kept p o x₀ begins s → (series p (replicate k back) s).undone ≡ s.undone + min k s.registers.kept
  backs_kept zero s w = omega arith
  backs_kept (suc k) s w = backs_kept k (ask p s back) (keep_back p o x₀ begins s w) ∙ one_more_lem s w (back_on p o x₀ begins s w) k

pub takes_back : (p : Program) (o : State) (x : Unbounded) → Origin p o x → (qs : List Request) → TakesBack p (series p qs (begin o))
takes_back p o x origin qs k =
    let begins : Begins p o x = origin_begins p o x origin in backs_kept p o x begins k (series p qs (begin o)) (kept_series p o x begins qs)
