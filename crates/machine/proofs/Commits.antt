-- An effect with room for its record and without: the registers after it, and what a commit makes of it. Assumes nothing.
use Rattle.std.specs.Prelude.{Option, Some, None, Ok}
use Prim.Native.Nat.{ℕ, ◌+◌, ◌-◌, ◌≤◌, ◌<◌}
use mathlib.Core.Path.{◌≡◌, refl, sym, ap, ap₂, ◌∙◌}
use mathlib.Core.Bool.{Bool, true, false}
use mathlib.Core.List.{List, []}
use native.Mathlib.Omega.{arith}
use borrow.Author.Tests.{lt-ltb, le-ltb, le-leb, lt-leb}
use Rattle.rules.specs.Lists.{splice}
use Rattle.rules.specs.State.{Memory, memory}
use Rattle.rules.specs.Commit.{block, room_in, room_for, output_after, registers_with, registers_of, memory_of}
use Rattle.rules.specs.Decide.{demand}
use Rattle.rules.specs.Step.{Stepped, unchanged, carried}
use Rattle.rules.specs.declared.Registers.{Registers}
use Rattle.rules.specs.declared.Effect.{Effect}
use Rattle.rules.specs.declared.MachineRefusal.{MachineRefusal}
use Rattle.rules.specs.declared.MachineRefusal.TheVariants.{HistoryFull}
use Rattle.rules.specs.declared.Step.{Step}
use Rattle.rules.specs.declared.Step.TheVariants.{Next, Refused}
use Rattle.state.specs.Outcomes.{stepped}
use Rattle.machine.specs.Committed.{committed, output_by}
use Rattle.machine.proofs.Blocks.{grown_none, grown_more}

-- ---- room for a record

module _ (r : Registers) (e : Effect) where
  pub room_none : r.h ≡ 0 → room_for r e ≡ true
  room_none none = ap (λ (t : Bool). room_in t (r.h - r.used) (e.count + 1)) (le-ltb 0 r.h (omega (arith, none)))

  module _ (some : r.h ≡ 0 → ⊥) where
    asked : room_for r e ≡ room_in true (r.h - r.used) (e.count + 1)
    asked = ap (λ (t : Bool). room_in t (r.h - r.used) (e.count + 1)) (lt-ltb 0 r.h (omega (arith, some)))

    pub room_full : r.h - r.used < e.count + 1 → room_for r e ≡ false
    room_full h = asked ∙ lt-leb _ _ h

    pub room_left : e.count + 1 ≤ r.h - r.used → room_for r e ≡ true
    room_left h = asked ∙ le-leb _ _ h

  -- ---- the registers after

  pub after_none : r.h ≡ 0 → registers_with r e r.used r.kept ≡ registers_of r e
  after_none h = ap₂ (registers_with r e) (grown_none r.h r.used (e.count + 1) h) (grown_none r.h r.kept 1 h)

  pub after_kept : (r.h ≡ 0 → ⊥) → registers_with r e (r.used + (e.count + 1)) (r.kept + 1) ≡ registers_of r e
  after_kept h = ap₂ (registers_with r e) (grown_more r.h r.used (e.count + 1) h) (grown_more r.h r.kept 1 h)

  -- ---- the commit, with room for the record and without

  pub with_room : (m : Memory) → room_for r e ≡ true → record { answer = Next (registers_of r e); memory = memory_of r m e } ≡ committed r m e
  with_room m h = ap (λ (t : Bool). carried r m (demand t HistoryFull (Ok e))) (sym h)

  pub without_room : (m : Memory) → room_for r e ≡ false → unchanged m HistoryFull ≡ committed r m e
  without_room m h = ap (λ (t : Bool). carried r m (demand t HistoryFull (Ok e))) (sym h)

  -- the record is kept, or it is refused, as the answer says: then what is left to do are the cells
  module _ (bits tags history h o : List ℕ) where
    abbrev whole : List ℕ → Bool → Stepped
    whole l t = carried r (memory bits tags history l) (demand t HistoryFull (Ok e))

    -- the output, by the answer
    left_refused : (x : MachineRefusal) → output_by e.shows (Refused x) r.written o ≡ o
    left_refused x = go e.shows
      where
        go : (z : Option ℕ) → output_by z (Refused x) r.written o ≡ o
        go None = refl
        go (Some b) = refl

    left_next : (q : Registers) → output_by e.shows (Next q) r.written o ≡ output_after e.shows r.written o
    left_next q = go e.shows
      where
        go : (z : Option ℕ) → output_by z (Next q) r.written o ≡ output_after z r.written o
        go None = refl
        go (Some b) = refl

    refused_by : (t : Bool) (x : MachineRefusal) → Refused x ≡ (whole [] t).answer → h ≡ (whole [] t).memory.history
        → stepped (Refused x) bits tags h (output_by e.shows (Refused x) r.written o) ≡ whole o t
    refused_by true x a k = absurd (let z : ◌≡◌ {A = ℕ} 0 1 = cc in let y : ⊥ = omega arith in y)
    refused_by false x a k = λ i. record { answer = a i; memory = memory bits tags (k i) (left_refused x i) }

    pub commit_refused : (s : Step) (x : MachineRefusal) → s ≡ Refused x → s ≡ (committed r (memory bits tags history []) e).answer
        → h ≡ (committed r (memory bits tags history []) e).memory.history
        → stepped (Refused x) bits tags h (output_by e.shows (Refused x) r.written o) ≡ committed r (memory bits tags history o) e
    commit_refused s x q a k = refused_by (room_for r e) x (sym q ∙ a) k

    next_by : (t : Bool) (q : Registers) (b g : List ℕ)
        → b ≡ splice bits e.at (block e.count e.first.bits e.second.bits)
        → g ≡ splice tags e.at (block e.count e.first.tag e.second.tag)
        → Next q ≡ (whole [] t).answer → h ≡ (whole [] t).memory.history
        → stepped (Next q) b g h (output_by e.shows (Next q) r.written o) ≡ whole o t
    next_by true q b g eb eg a k = λ i. record { answer = a i; memory = memory (eb i) (eg i) (k i) (left_next q i) }
    next_by false q b g eb eg a k = absurd (let z : ◌≡◌ {A = ℕ} 0 1 = cc in let y : ⊥ = omega arith in y)

    pub commit_next : (s : Step) (q : Registers) (b g : List ℕ) → s ≡ Next q
        → b ≡ splice bits e.at (block e.count e.first.bits e.second.bits)
        → g ≡ splice tags e.at (block e.count e.first.tag e.second.tag)
        → s ≡ (committed r (memory bits tags history []) e).answer → h ≡ (committed r (memory bits tags history []) e).memory.history
        → stepped (Next q) b g h (output_by e.shows (Next q) r.written o) ≡ committed r (memory bits tags history o) e
    commit_next s q b g is eb eg a k = next_by (room_for r e) q b g eb eg (sym is ∙ a) k
