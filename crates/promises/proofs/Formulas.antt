-- Request m: the program of a formula, run where it is ready, leaves the formula's number on top, or meets 5 where the formula divides by zero; and the told depth is
-- the most values that it holds. Assumes nothing.
use Rattle.std.specs.Prelude.{Ok, Err}
use Prim.Native.Nat.{ℕ, zero, suc, ◌+◌, ◌-◌, ◌*◌, ◌^◌, ◌≤◌, ◌<◌, max, zero-le}
use mathlib.Core.Path.{◌≡◌, refl, sym, ap, ◌∙◌, subst, subst₂}
use mathlib.Core.Bool.{true, false}
use mathlib.Core.List.{List, [], ◌∷◌, ◌++◌}
use mathlib.Core.Logic.{◌⊎◌, inl, inr, ⊎_elim}
use native.Mathlib.Nat.{add-zero, zero-add, suc-add}
use native.Mathlib.Omega.{arith}
use lib.Dec.{eqb, leb}
use lib.ListN.{length, get_or, replicate, length-append, length-replicate, get_or-append}
use borrow.Author.Tests.{ne_eqb, le-leb, leb-true, leb-false}
use Rattle.rules.specs.Answers.{Formulated}
use Rattle.rules.specs.Numbers.{length_of_translated, depth_of_translated}
use Rattle.rules.specs.Sizes.{max_source, max_program, max_history, max_limit, name_cells}
use Rattle.rules.specs.Tags.{INT, int}
use Rattle.rules.specs.Table.{Program}
use Rattle.rules.specs.State.{memory, sound}
use Rattle.rules.specs.Effects.{halted}
use Rattle.rules.specs.Step.{Stepped, decide_at, judged, carried}
use Rattle.rules.specs.Step as Step
use Rattle.rules.specs.Run.{ended, run_from}
use Rattle.rules.specs.Run as Run
use Rattle.rules.specs.Grammar.{Tree, Parsed, formula, unfit, parse}
use Rattle.rules.specs.Evaluate.{Value, value, no_value, worth}
use Rattle.rules.specs.Translate.{stop, code_for, instructions_for, cost, depth, table_for, program_for, Translation, translation, translate}
use Rattle.rules.specs.declared.Effect.{Effect}
use Rattle.rules.specs.declared.MachineRefusal.{MachineRefusal}
use Rattle.rules.specs.declared.MachineRefusal.TheVariants.{AlreadyHalted, NoResult}
use Rattle.rules.specs.declared.Ending.TheVariants.{Halted, Stopped}
use Rattle.rules.specs.declared.FormulaRefusal.{FormulaRefusal}
use Rattle.rules.specs.declared.FormulaRefusal.TheVariants.{TableLength, FormulaTooLong}
use Rattle.rules.proofs.Tests.{by_test}
use Rattle.rules.proofs.Zeros.{zeros_at_lem}
use Rattle.rules.proofs.FairEffects.{fair_plain, judged_going}
use Rattle.rules.proofs.Sound.{facts_sound, sound_judged}
use Rattle.rules.proofs.Runs.{run_halted, run_next, run_refused, run_enter}
use Rattle.formula.proofs.Readings.{Accepted, parse_accepted}
use Rattle.formula.proofs.Costs.{code_length, program_length, depth_some, lent_first, long_next, then_parsed}
use Rattle.promises.specs.Series.{State, step, stepped, series}
use Rattle.promises.specs.Formulas.{names_in, Ready, Leaves, MeetsFive, Ends, most_held, sp_after, Deepest, WorkedOut}
use Rattle.promises.proofs.Runs.{standing}
use Rattle.promises.proofs.Demand3Good.{committed}
use Rattle.promises.proofs.FormulaTables.{program_held, table_used, table_sound}
use Rattle.promises.proofs.FormulaSteps.{decide_stop, judged_at, judged_does, step_judged, Free, free_room}
use Rattle.promises.proofs.FormulaTrees.{Goes, goes_start, Way, way_then, way_one, Lies, lies_split, lies_program, Here, Then, Stops, Outcome, tree_works}

-- ---- a run, and single steps, along accepted steps

module _ (p : Program) where
  abbrev SoundAt : State → Type 0
  SoundAt s = sound p s.registers s.memory ≡ true

  abbrev step_of : State → Stepped
  step_of s = Step.step p s.registers s.memory

  -- a run makes them
  run_goes : (k top left made : ℕ) (s s'' : State) → SoundAt s → Goes p k top s s''
      → run_from p (k + left) made s.registers s.memory ≡ run_from p left (made + k) s''.registers s''.memory
  run_goes zero top left made s s'' h g =
      ap (λ (n : ℕ). run_from p n made s.registers s.memory) (zero-add left)
      ∙ (λ i. run_from p left (sym (add-zero made) i) (g.1 i).registers (g.1 i).memory)
  run_goes (suc k) top left made s s'' h g =
      let e : Effect = g.0 in
      let j : judged_at p s ≡ Ok e = g.2 in
      let t : State = committed s e in
      let one : step_of s ≡ carried s.registers s.memory (Ok e) = step_judged p s h (Ok e) j in
      let running : s.registers.halt ≡ 0 = (judged_going p s.registers s.memory e j).running in
      let going : eqb s.registers.halt 1 ≡ false = ne_eqb s.registers.halt 1 (λ q. let z : ⊥ = omega arith in z) in
      let count : made + 1 + k ≡ made + suc k = omega arith in
      ap (λ (n : ℕ). run_from p n made s.registers s.memory) (suc-add k left)
      ∙ run_next p made s.registers s.memory (k + left) going t.registers (ap (λ (o : Stepped). o.answer) one)
      ∙ ap (λ (o : Stepped). run_from p (k + left) (made + 1) t.registers o.memory) one
      ∙ run_goes k g.1 left (made + 1) t s'' (sound_judged p s.registers s.memory e h j) g.4
      ∙ ap (λ (n : ℕ). run_from p left n s''.registers s''.memory) count

  -- the SP that k steps leave, where a steps were made before
  sp_from : (k a : ℕ) → State → ℕ
  sp_from k a s = (series p (replicate k step) (standing a s.registers s.memory)).registers.sp

  -- one step first
  sp_first : (k a : ℕ) (s : State) (e : Effect) → SoundAt s → judged_at p s ≡ Ok e → sp_from (suc k) a s ≡ sp_from k (a + 1) (committed s e)
  unfolding sp_from
  sp_first k a s e h j =
      ap (λ (o : Stepped). (series p (replicate k step) (stepped (standing a s.registers s.memory) o)).registers.sp) (step_judged p s h (Ok e) j)

  -- where a step is refused, SP stays
  sp_stays : (x : MachineRefusal) (s : State) → SoundAt s → judged_at p s ≡ Err x → (k a : ℕ) → sp_from k a s ≡ s.registers.sp
  unfolding sp_from
  sp_stays x s h j zero a = refl
  sp_stays x s h j (suc k) a =
      ap (λ (o : Stepped). (series p (replicate k step) (stepped (standing a s.registers s.memory) o)).registers.sp) (step_judged p s h (Err x) j)
      ∙ sp_stays x s h j k (a + 0)

  -- no step goes higher, where the next is refused
  never_above : (x : MachineRefusal) (k top : ℕ) (s s'' : State) → SoundAt s → Goes p k top s s'' → judged_at p s'' ≡ Err x → (j a : ℕ) → sp_from j a s ≤ top
  unfolding sp_from
  never_above x k top s s'' h g f zero a = goes_start p k top s s'' g
  never_above x zero top s s'' h g f (suc j) a =
      let f' : judged_at p s ≡ Err x = subst (λ (t : State). judged_at p t ≡ Err x) (sym g.1) f in
      omega (arith, g.0, sp_stays x s h f' (suc j) a)
  never_above x (suc k) top s s'' h g f (suc j) a =
      let e : Effect = g.0 in
      let later = never_above x k g.1 (committed s e) s'' (sound_judged p s.registers s.memory e h g.2) g.4 f j (a + 1) in
      omega (arith, sp_first j a s e h g.2, later, g.3)

  -- and one goes as high
  as_high : (k top : ℕ) (s s'' : State) → SoundAt s → Goes p k top s s'' → (a : ℕ) → (j : ℕ) × (sp_from j a s ≡ top)
  unfolding sp_from
  as_high zero top s s'' h g a = (0, sym g.0)
  as_high (suc k) top s s'' h g a =
      let e : Effect = g.0 in
      let q : top ≡ max s.registers.sp g.1 = g.3 in
      let later = as_high k g.1 (committed s e) s'' (sound_judged p s.registers s.memory e h g.2) g.4 (a + 1) in
      by_test (leb g.1 s.registers.sp)
      (λ t. let l : g.1 ≤ s.registers.sp = leb-true g.1 s.registers.sp t in (0, omega arith))
      (λ t.
      let l : s.registers.sp < g.1 = leb-false g.1 s.registers.sp t in
      let high : g.1 ≡ top = omega arith in
      (suc later.0, sp_first later.0 a s e h g.2 ∙ later.1 ∙ high))

-- ---- the program of a tree, from where it is ready
module _ (t : Tree) (ok : Accepted t) (s : State) (ready : Ready (program_for t) (depth t) s) where
  abbrev p : Program
  p = program_for t

  abbrev names : ℕ → ℕ
  names = names_in s.memory

  abbrev sp : ℕ
  sp = s.registers.sp

  abbrev n : ℕ
  n = s.registers.n

  -- room for two places an instruction, and one for STOP
  free : Free s.registers (2 * cost t + 1)
  free z =
      let e : length (instructions_for t) ≡ cost t + 1 = program_length t in
      ⊎_elim (λ (q : s.registers.h ≡ 0). absurd (let y : ⊥ = omega arith in y))
      (λ (l : 2 * length (instructions_for t) - 1 ≤ s.registers.h - s.registers.used). omega arith) ready.history

  start : Here p names s n 0 sp (2 * cost t + 1)
  start =
      record {
        healthy = ready.healthy;
        size = refl;
        at = ready.pc;
        height = refl;
        fbr = ready.fbr;
        running = ready.halt;
        room = free;
        named = λ k l. ap (λ (g : ℕ). record { bits = names k; tag = g }) (ready.ints k l);
      }

  abbrev lies : Lies p 0 (code_for t) × Lies p (0 + length (code_for t)) (stop ∷ [])
  lies = lies_split p 0 (code_for t) (stop ∷ []) (lies_program t)

  outcome : Outcome p names n ready.words t s 0 sp 1 (worth names t)
  outcome = tree_works p names n ready.words t ok.proper s 0 sp 1 start ready.below ready.room lies.0

  -- a limit is what was made and what is left of it
  run_way : (w : Way p s) (limit left : ℕ) → limit ≤ max_limit → limit ≡ w.steps + left
      → Run.run p limit s.registers s.memory ≡ run_from p left (0 + w.steps) w.end.registers w.end.memory
  run_way w limit left short all =
      run_enter p limit s.registers s.memory (le-leb limit max_limit short) ready.healthy
      ∙ ap (λ (k : ℕ). run_from p k 0 s.registers s.memory) all
      ∙ run_goes p w.steps w.high left 0 s w.end ready.healthy w.goes

  -- ---- with a value: STOP is made, and the machine is halted
  module _ (v : ℕ) (q : Then p names s (cost t) (sp + depth t) n (0 + cost t) 1 sp (int v)) where
    abbrev before : State
    before = q.way.end

    abbrev last : Effect
    last = halted before.registers

    stopping : judged_at p before ≡ Ok last
    stopping =
        let at : before.registers.pc ≡ 0 + length (code_for t) = q.here.at ∙ ap (λ (k : ℕ). 0 + k) (sym (code_length t)) in
        judged_does p before q.here.running (omega (arith, lies.1.1)) last
        (ap (λ (i : ℕ). decide_at before.registers before.memory.cells (get_or p.places i 0)) at
        ∙ ap (decide_at before.registers before.memory.cells) lies.1.0 ∙ decide_stop before.registers before.memory.cells)
        (omega (arith, q.here.height, q.here.size, depth_some t, ready.room)) refl
        (free_room before.registers last (λ z. let l = q.here.room z in omega arith))

    abbrev after : State
    after = committed before last

    way : Way p s
    way = way_then q.way (way_one last stopping)

    highest : way.high ≡ sp + depth t
    unfolding way way_then way_one
    highest = omega (arith, q.here.height, depth_some t, q.peak)

    halts : (limit : ℕ) → length (instructions_for t) ≤ limit → limit ≤ max_limit
        → Run.run p limit s.registers s.memory ≡ ended (0 + (q.way.steps + 1)) Halted after.registers after.memory
    unfolding way way_then way_one
    halts limit long short =
        let left : ℕ = limit - (q.way.steps + 1) in
        run_way way limit left short (omega (arith, program_length t, q.count))
        ∙ run_halted p (0 + (q.way.steps + 1)) after.registers after.memory left refl

    leaves : (limit : ℕ) → length (instructions_for t) ≤ limit → limit ≤ max_limit → Leaves p v s (Run.run p limit s.registers s.memory)
    leaves limit long short =
        subst (Leaves p v s) (sym (halts limit long short))
        (record {
          number = refl;
          steps = omega (arith, program_length t, q.count);
          sp = q.here.height;
          top = q.on;
          rest = record { cells = q.rest.cells; output = q.rest.output; written = q.rest.written };
        })

    halted_now : judged_at p after ≡ Err AlreadyHalted
    unfolding judged
    halted_now = refl

    deepest : (x : Value) → Deepest p (depth t) x s
    unfolding sp_from way way_then way_one
    deepest x =
        record {
          never =
              λ k.
              subst (λ (h : ℕ). sp_after p s k ≤ h) highest
              (never_above p AlreadyHalted way.steps way.high s after ready.healthy way.goes halted_now k 0);
          reached = λ w z. let h = as_high p way.steps way.high s after ready.healthy way.goes 0 in (h.0, h.1 ∙ highest);
        }

  -- ---- without one: a step is refused by 5
  module _ (w : Stops p s (cost t) (sp + depth t) sp) where
    stops : (limit : ℕ) → length (instructions_for t) ≤ limit → limit ≤ max_limit
        → Run.run p limit s.registers s.memory ≡ ended (0 + w.way.steps) (Stopped NoResult) w.way.end.registers w.way.end.memory
    stops limit long short =
        let left : ℕ = limit - (w.way.steps + 1) in
        let all : limit ≡ w.way.steps + suc left = omega (arith, program_length t, w.few) in
        let running : w.way.end.registers.halt ≡ 0 = w.running in
        let going : eqb w.way.end.registers.halt 1 ≡ false = ne_eqb w.way.end.registers.halt 1 (λ q. let z : ⊥ = omega arith in z) in
        run_way w.way limit (suc left) short all
        ∙ run_refused p (0 + w.way.steps) w.way.end.registers w.way.end.memory left going NoResult
        (ap (λ (o : Stepped). o.answer) (step_judged p w.way.end w.healthy (Err NoResult) w.refuses))

    meets : (limit : ℕ) → length (instructions_for t) ≤ limit → limit ≤ max_limit → MeetsFive s (Run.run p limit s.registers s.memory)
    meets limit long short = subst (MeetsFive s) (sym (stops limit long short)) (record { number = refl; rest = w.rest })

    never_deeper : (k : ℕ) → sp_after p s k ≤ sp + depth t
    unfolding sp_from
    never_deeper k = omega (arith, never_above p NoResult w.way.steps w.way.high s w.way.end ready.healthy w.way.goes w.refuses k 0, w.below)

  -- ---- either way

  ends_so : (x : Value) → Outcome p names n ready.words t s 0 sp 1 x → (limit : ℕ) → length (instructions_for t) ≤ limit → limit ≤ max_limit
      → Ends p x s (Run.run p limit s.registers s.memory)
  ends_so (value v) q limit long short = leaves v q limit long short
  ends_so no_value w limit long short = meets w limit long short

  deepest_so : (x : Value) → Outcome p names n ready.words t s 0 sp 1 x → Deepest p (depth t) x s
  deepest_so (value v) q = deepest v q (value v)
  deepest_so no_value w =
      record {
        never = never_deeper w;
        reached = λ v z. absurd (let y : ◌≡◌ {A = ℕ} 0 1 = cc in let x : ⊥ = omega arith in x);
      }

  -- the run ends with 0 and the number on top; or with 5, exactly where there is none
  tree_runs : (limit : ℕ) → length (instructions_for t) ≤ limit → limit ≤ max_limit → Ends p (worth names t) s (Run.run p limit s.registers s.memory)
  tree_runs = ends_so (worth names t) outcome

  tree_deepest : Deepest p (depth t) (worth names t) s
  tree_deepest = deepest_so (worth names t) outcome

-- ---- where it is ready: the eight words as INTs, SP above them, nothing kept and no output
module _ (t : Tree) (ok : Accepted t) (words : List ℕ) (eight : length words ≡ name_cells) (fit : (k : ℕ) → k < name_cells → get_or words k 0 < 2 ^ 32)
    (h : ℕ) (enough : (h ≡ 0) ⊎ (2 * length (instructions_for t) - 1 ≤ h)) (most : h ≤ max_history) where
  abbrev size : ℕ
  size = name_cells + (1 + depth t)

  abbrev bits : List ℕ
  bits = words ++ replicate (1 + depth t) 0

  abbrev tags : List ℕ
  tags = replicate size 0

  abbrev begun : State
  begun =
      record {
        registers = record { n = size; h = h; pc = 0; sp = name_cells; fbr = 0; halt = 0; used = 0; kept = 0; written = 0 };
        memory = memory bits tags (replicate h 0) [];
      }

  tagged : (k : ℕ) → get_or tags k 0 ≡ INT
  tagged k = zeros_at_lem size k

  names_begun : (k : ℕ) → k < name_cells → names_in begun.memory k ≡ get_or words k 0
  names_begun k l = get_or-append words (replicate (1 + depth t) 0) 0 k (omega arith)

  begun_sound : sound (program_for t) begun.registers begun.memory ≡ true
  begun_sound =
      facts_sound (program_for t) begun.registers begun.memory
      (record {
        table = table_sound t ok;
        some = omega arith;
        few = omega (arith, ok.shallow);
        short = most;
        bits = omega (arith, length-append words (replicate (1 + depth t) 0), length-replicate {A = ℕ} (1 + depth t) 0, eight);
        tags = length-replicate size 0;
        history = length-replicate h 0;
        sp = omega arith;
        fbr = omega arith;
        pc = zero-le;
        halt = zero-le;
        used = zero-le;
        kept = zero-le;
        none = λ q. refl;
        shown = zero-le;
        written = zero-le;
        cells = λ k. fair_plain (length (instructions_for t)) (get_or tags k 0) (get_or bits k 0) (omega (arith, tagged k));
      })

  ready_begun : Ready (program_for t) (depth t) begun
  ready_begun =
      record {
        healthy = begun_sound;
        fbr = refl;
        pc = refl;
        halt = refl;
        below = omega arith;
        ints = λ k l. tagged k;
        words = λ k l. omega (arith, names_begun k l, fit k l);
        room = omega arith;
        history = ⊎_elim (λ z. inl z) (λ l. inr (omega arith)) enough;
      }

-- ---- every formula that is translated
module _ (source : List ℕ) where
  tree_worked_out : (t : Tree) → parse source ≡ formula t → WorkedOut source (table_for t) (length (instructions_for t)) (depth t)
  tree_worked_out t q =
      let ok : Accepted t = parse_accepted source t q in
      record {
        tree = t;
        parsed = q;
        costs = program_length t;
        depths = refl;
        held = λ sp. ap (most_held sp) (table_used t) ∙ program_held t ok.proper sp;
        healthy = table_sound t ok;
        runs = λ limit s ready long short. tree_runs t ok s ready limit long short;
        holds = λ s ready. tree_deepest t ok s ready;
        somewhere =
            λ words eight fit h enough most. (
              begun t ok words eight fit h enough most,
              ready_begun t ok words eight fit h enough most,
              names_begun t ok words eight fit h enough most,
              refl,
            );
      }

  module _ (lent : List ℕ) (count deep : ℕ) where
    -- of a translation, where it tells so many instructions and that depth
    abbrev Told : Translation → Type 0
    Told a = a.answer ≡ Ok (record { length = count; depth = deep }) → WorkedOut source a.table count deep

    told_not : {A : Type 0} (e : FormulaRefusal) → ◌≡◌ {A = Formulated} (Err e) (Ok (record { length = count; depth = deep })) → A
    told_not e q = let z : ◌≡◌ {A = ℕ} 0 1 = cc in absurd (let y : ⊥ = omega arith in y)

    told_parsed : (x : Parsed) → parse source ≡ x → Told (translation lent x)
    told_parsed (formula t) h q =
        let size : length (instructions_for t) ≡ count = ap length_of_translated q in
        let high : depth t ≡ deep = ap depth_of_translated q in
        subst₂ (λ (n d : ℕ). WorkedOut source (table_for t) n d) size high (tree_worked_out t h)
    told_parsed (unfit e) h q = told_not e q

    -- which is so where it is refused neither by 31, nor by 21, nor by its text
    pub worked_out : (translate source lent).answer ≡ Ok (record { length = count; depth = deep }) → WorkedOut source (translate source lent).table count deep
    worked_out =
        by_test (eqb (length lent) max_program)
        (λ e.
        by_test (leb (length source) max_source)
        (λ l. subst Told (sym (then_parsed source lent e l)) (told_parsed (parse source) refl))
        (λ l. subst Told (sym (long_next source lent e l)) (told_not FormulaTooLong)))
        (λ e. subst Told (sym (lent_first source lent e)) (told_not TableLength))
