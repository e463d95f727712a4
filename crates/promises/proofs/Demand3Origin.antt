-- Where a series begins: at a reset or at a load. Assumes nothing.
use Rattle.std.specs.Prelude.{IsOk}
use Prim.Native.Nat.{ℕ}
use mathlib.Core.Path.{refl, sym, subst, subst₂}
use mathlib.Core.List.{List}
use Rattle.rules.specs.Table.{Program}
use Rattle.rules.specs.State.{Memory}
use Rattle.rules.specs.Reset as Reset
use Rattle.rules.specs.SavedState as SavedState
use Rattle.promises.specs.Unbounded.{Unbounded}
use Rattle.promises.specs.Series.{State, left, left_by_load, SameStart, reset, load, fresh, Origin}
use Rattle.promises.proofs.Demand3Held.{Begins}
use Rattle.promises.proofs.Demand3Reset.{own_sizes, reset_begins}
use Rattle.promises.proofs.Demand3Load.{load_begins}

start_begins : (p : Program) (o t : State) → SameStart p o t → Begins p o (fresh t)
start_begins p o t (reset m m' ready ready' same leaves leaves') =
    subst₂ (λ (s u : State). Begins p s (fresh u)) (sym leaves) (sym leaves') (reset_begins p m m' ready ready' same)
start_begins p o t (load image m m' going going' same leaves leaves') =
    subst₂ (λ (s u : State). Begins p s (fresh u)) (sym leaves) (sym leaves') (load_begins image p m m' going going' same)

pub origin_begins : (p : Program) (o : State) (x : Unbounded) → Origin p o x → Begins p o x
origin_begins p o x origin = subst (Begins p o) (sym origin.begins) (start_begins p o origin.other origin.start)

-- ---- the fresh run beside the same start, made twice, may begin at either: so both have one run beside them

-- the first of the two
pub one_origin : (p : Program) (s t : State) → SameStart p s t → Origin p s (fresh t)
one_origin p s t start = record { other = t; start = start; begins = refl }

-- a reset and a load, each beside itself
pub reset_origin : (p : Program) (m : Memory) → IsOk (Reset.reset p m).answer → Origin p (left (Reset.reset p m)) (fresh (left (Reset.reset p m)))
reset_origin p m ready = one_origin p _ _ (reset m m ready ready (own_sizes m) refl refl)

pub load_origin : (p : Program) (image : List ℕ) (m : Memory) → IsOk (SavedState.load image p m).answer
    → Origin p (left_by_load (SavedState.load image p m)) (fresh (left_by_load (SavedState.load image p m)))
load_origin p image m going = one_origin p _ _ (load image m m going going (own_sizes m) refl refl)

-- the second of the two
pub other_origin : (p : Program) (s t : State) → SameStart p s t → Origin p t (fresh t)
other_origin p s t (reset m m' ready ready' same leaves leaves') = one_origin p t t (reset m' m' ready' ready' (own_sizes m') leaves' leaves')
other_origin p s t (load image m m' going going' same leaves leaves') = one_origin p t t (load image m' m' going' going' (own_sizes m') leaves' leaves')
