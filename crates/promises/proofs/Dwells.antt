-- Request f: the door board reads what the fresh run of S minus B steps would have left, and a trial that is taken back leaves what it reads alone, also where
-- forgets came before it; what it reads lies between 10 and 300 tenths. Assumes nothing.
use Prim.Native.Nat.{ℕ}
use mathlib.Core.Path.{◌≡◌, sym, ap, ◌∙◌, subst}
use mathlib.Core.List.{List, ◌++◌}
use native.Mathlib.Omega.{arith}
use Rattle.rules.specs.Table.{Program}
use Rattle.rules.specs.State.{Memory}
use Rattle.rules.specs.Dwell.{dwell}
use Rattle.rules.specs.declared.Registers.{Registers}
use Rattle.rules.proofs.Dwells.{dwell_either, dwell_others}
use Rattle.promises.specs.Unbounded.{Unbounded, moved}
use Rattle.promises.specs.Series.{Request, State, plain, Session, state_of, series, begin, Origin, ahead, fresh_run, Promised}
use Rattle.promises.specs.Dwells.{Held, read_off, ReadAfresh, Even, ReadAlike, TakenBack, LeftAlone}
use Rattle.promises.proofs.Counts.{series_from, series_then}
use Rattle.promises.proofs.Demand3Held.{Begins}
use Rattle.promises.proofs.Demand3Origin.{origin_begins}
use Rattle.promises.proofs.Demand3Kept.{Kept, kept_series}
use Rattle.promises.proofs.Demand3.{same_held, demand3}

-- ---- the ends

pub dwell_held : (p : Program) (r : Registers) (m : Memory) → Held (dwell p r m)
dwell_held p r m = dwell_either p r m Held (λ e. tt) (λ t h. h)

-- ---- in a session

module _ (p : Program) (o : State) (x : Unbounded) (origin : Origin p o x) where
  begins : Begins p o x
  begins = origin_begins p o x origin

  -- (1) what is read after any series, or the refusal, is what is read after the fresh run of S minus B steps
  pub dwell_afresh : (qs : List Request) → ReadAfresh p x (series p qs (begin o))
  dwell_afresh qs =
      let s : Session = series p qs (begin o) in
      let v : Promised p o x s = demand3 p o x origin qs in
      let y : Unbounded = fresh_run p x s in
      dwell_others p s.registers s.memory (plain y).registers (plain y).memory v.sound v.run_sound v.registers v.cells

  -- (2) what is read is left alone by whatever takes back as many steps as it makes, forgets among it
  pub dwell_taken_back : (before trial : List Request) → Even p (series p before (begin o)) trial → ReadAlike p (series p before (begin o)) trial
  dwell_taken_back before trial even =
      let s : Session = series p before (begin o) in
      let t : Session = series p trial s in
      let made = ap (λ (u : Session). u.made) (series_from p trial s) in
      let undone = ap (λ (u : Session). u.undone) (series_from p trial s) in
      let same : ahead t ≡ ahead s = omega (arith, made, undone, even) in
      subst (ReadAfresh p x) (series_then p before trial (begin o)) (dwell_afresh (before ++ trial))
      ∙ ap (λ (k : ℕ). read_off p (moved p k x)) same ∙ sym (dwell_afresh before)

  -- (3) and a trial that is taken back, with nothing forgotten, leaves everything alone
  pub trial_taken_back : (before trial : List Request) → TakenBack p (series p before (begin o)) trial → LeftAlone p (series p before (begin o)) trial
  trial_taken_back before trial taken =
      let s : Session = series p before (begin o) in
      let t : Session = series p trial s in
      let w : Kept p o x begins s = kept_series p o x begins before in
      let v : Kept p o x begins t = subst (Kept p o x begins) (series_then p before trial (begin o)) (kept_series p o x begins (before ++ trial)) in
      let made = ap (λ (u : Session). u.made) (series_from p trial s) in
      let undone = ap (λ (u : Session). u.undone) (series_from p trial s) in
      let forgotten = ap (λ (u : Session). u.forgotten) (series_from p trial s) in
      let same : state_of t ≡ state_of s =
      same_held p o x begins t s v w (omega (arith, made, undone, taken.0)) (omega (arith, forgotten, taken.1)) in
      record {
        registers = ap (λ (u : State). u.registers) same;
        memory = ap (λ (u : State). u.memory) same;
        dwell = ap (λ (u : State). dwell p u.registers u.memory) same;
      }
