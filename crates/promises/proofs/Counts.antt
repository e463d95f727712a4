-- S, B and F add up: what a series leaves is a matter of the registers and the memory that it began with, and its counts are those before it and its own.
-- Assumes nothing.
use Prim.Native.Nat.{◌+◌}
use mathlib.Core.Path.{◌≡◌, refl, sym, ap, ◌∙◌}
use mathlib.Core.List.{List, [], ◌∷◌, ◌++◌}
use native.Mathlib.Nat.{add_assoc, add-zero}
use Rattle.rules.specs.Table.{Program}
use Rattle.rules.specs.Numbers.{registers_after, registers_forgot}
use Rattle.rules.specs.Step as Step
use Rattle.rules.specs.Back as Back
use Rattle.rules.specs.Run as Run
use Rattle.rules.specs.Forget as Forget
use Rattle.promises.specs.Series.{Request, step, run, back, forget, Session, accepted, accepted_of, ask, series, from_here}

-- where t stands, with the counts of both
abbrev pub joined : Session → Session → Session
joined s t =
    record {
      registers = t.registers;
      memory = t.memory;
      made = s.made + t.made;
      undone = s.undone + t.undone;
      forgotten = s.forgotten + t.forgotten;
    }

ask_joined : (p : Program) (s t : Session) (q : Request) → ask p (joined s t) q ≡ joined s (ask p t q)
ask_joined p s t step =
    let o = Step.step p t.registers t.memory in
    λ i. record {
      registers = registers_after t.registers o.answer;
      memory = o.memory;
      made = add_assoc s.made t.made (accepted o.answer) i;
      undone = s.undone + t.undone;
      forgotten = s.forgotten + t.forgotten;
    }
ask_joined p s t (run limit) =
    let a = Run.run p limit t.registers t.memory in
    λ i. record {
      registers = a.answer.registers;
      memory = a.memory;
      made = add_assoc s.made t.made a.answer.steps i;
      undone = s.undone + t.undone;
      forgotten = s.forgotten + t.forgotten;
    }
ask_joined p s t back =
    let o = Back.back p t.registers t.memory in
    λ i. record {
      registers = registers_after t.registers o.answer;
      memory = o.memory;
      made = s.made + t.made;
      undone = add_assoc s.undone t.undone (accepted o.answer) i;
      forgotten = s.forgotten + t.forgotten;
    }
ask_joined p s t (forget k) =
    let o = Forget.forget p k t.registers t.memory in
    λ i. record {
      registers = registers_forgot t.registers o.answer;
      memory = o.memory;
      made = s.made + t.made;
      undone = s.undone + t.undone;
      forgotten = add_assoc s.forgotten t.forgotten (accepted_of k o.answer) i;
    }

series_joined : (p : Program) (qs : List Request) (s t : Session) → series p qs (joined s t) ≡ joined s (series p qs t)
series_joined p [] s t = refl
series_joined p (q ∷ qs) s t = ap (series p qs) (ask_joined p s t q) ∙ series_joined p qs s (ask p t q)

pub series_from : (p : Program) (qs : List Request) (s : Session) → series p qs s ≡ joined s (series p qs (from_here s))
series_from p qs s = ap (series p qs) nothing_yet ∙ series_joined p qs s (from_here s)
  where
    nothing_yet : s ≡ joined s (from_here s)
    nothing_yet =
        λ i. record {
          registers = s.registers;
          memory = s.memory;
          made = sym (add-zero s.made) i;
          undone = sym (add-zero s.undone) i;
          forgotten = sym (add-zero s.forgotten) i;
        }

-- one series after another
pub series_then : (p : Program) (qs rs : List Request) (s : Session) → series p (qs ++ rs) s ≡ series p rs (series p qs s)
series_then p [] rs s = refl
series_then p (q ∷ qs) rs s = series_then p qs rs (ask p s q)
