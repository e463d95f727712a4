-- Request m: the code of a formula's tree, from any place of the program and any SP, by induction over the tree: its steps leave its value on top, the cells below
-- as they were, and the highest SP on the way is the tree's depth above the first; where it divides by zero, they come to a 5. Assumes nothing.
use Rattle.std.specs.Prelude.{Ok, Err}
use Prim.Native.Nat.{ℕ, zero, suc, ◌+◌, ◌-◌, ◌*◌, ◌^◌, ◌≤◌, ◌<◌, max}
use mathlib.Core.Path.{◌≡◌, refl, sym, ap, ◌∙◌, subst, subst₂}
use mathlib.Core.Bool.{true}
use mathlib.Core.List.{List, [], ◌∷◌, ◌++◌}
use native.Mathlib.Nat.{add-zero, zero-add, suc-add}
use native.Mathlib.Omega.{arith}
use lib.IntN.{neg_ℤ}
use lib.ListN.{length, get_or, replicate, get_or-append}
use Rattle.rules.specs.Sizes.{max_program, name_cells}
use Rattle.rules.specs.Tags.{int}
use Rattle.rules.specs.Words.{signed, word}
use Rattle.rules.specs.Table.{Program}
use Rattle.rules.specs.Cells.{cell_at}
use Rattle.rules.specs.State.{sound}
use Rattle.rules.specs.Effects.{result}
use Rattle.rules.specs.Step.{decide_at}
use Rattle.rules.specs.Grammar.{Tree, number, name, negative, joined}
use Rattle.rules.specs.Evaluate.{Value, value, no_value, and_then, applied, worth}
use Rattle.rules.specs.Translate.{push_number, push_name, operation, negation, code_for, instructions_for, cost, depth, table_for, program_for}
use Rattle.rules.specs.declared.Operator.{Operator}
use Rattle.rules.specs.declared.Operator.TheVariants.{Multiply}
use Rattle.rules.specs.declared.Cell.{Cell}
use Rattle.rules.specs.declared.Registers.{Registers}
use Rattle.rules.specs.declared.Effect.{Effect}
use Rattle.rules.specs.Answers.{Decision}
use Rattle.rules.specs.declared.MachineRefusal.TheVariants.{NoResult}
use Rattle.rules.proofs.Fair.{Sound}
use Rattle.rules.proofs.FairEffects.{sound_facts}
use Rattle.rules.proofs.Sound.{sound_judged}
use Rattle.formula.specs.Trees.{Proper}
use Rattle.formula.proofs.Costs.{code_length, depth_some}
use Rattle.promises.specs.Series.{State}
use Rattle.promises.specs.Formulas.{Untouched}
use Rattle.promises.proofs.Demand3Good.{committed}
use Rattle.promises.proofs.WrittenCells.{cell_stays}
use Rattle.promises.proofs.FormulaSteps.{decide_number, decide_name, operated, decide_joined, judged_at, judged_does, judged_refuses, Free, free_room, free_after, result_at, minus_product, Word, value_word}

-- ---- accepted steps one after the other

-- k of them lead from s to s'', and the highest SP on the way is top
abbrev pub Goes : Program → (k top : ℕ) → State → State → Type 0
Goes p zero top s s'' = (top ≡ s.registers.sp) × (s ≡ s'')
Goes p (suc k) top s s'' =
    (e : Effect) × (rest : ℕ) × (judged_at p s ≡ Ok e) × (top ≡ max s.registers.sp rest) × Goes p k rest (committed s e) s''

pub goes_start : (p : Program) (k top : ℕ) (s s'' : State) → Goes p k top s s'' → s.registers.sp ≤ top
goes_start p zero top s s'' g = omega (arith, g.0)
goes_start p (suc k) top s s'' g = omega (arith, g.3)

abbrev goes_then : (p : Program) (k j a b : ℕ) (s₁ s₂ s₃ : State) → Goes p k a s₁ s₂ → Goes p j b s₂ s₃ → Goes p (k + j) (max a b) s₁ s₃
goes_then p zero j a b s₁ s₂ s₃ g h =
    let h' : Goes p j b s₁ s₃ = subst (λ (s : State). Goes p j b s s₃) (sym g.1) h in
    let e : b ≡ max a b = omega (arith, g.0, goes_start p j b s₁ s₃ h') in
    subst₂ (λ (n t : ℕ). Goes p n t s₁ s₃) (sym (zero-add j)) e h'
goes_then p (suc k) j a b s₁ s₂ s₃ g h =
    let q : a ≡ max s₁.registers.sp g.1 = g.3 in
    subst (λ (n : ℕ). Goes p n (max a b) s₁ s₃) (sym (suc-add k j))
    (g.0, max g.1 b, g.2, omega arith, goes_then p k j g.1 b (committed s₁ g.0) s₂ s₃ g.4 h)

-- such steps, and where they lead
pub record Way (p : Program) (s : State) : Type 0 where
  pub steps : ℕ
  pub high : ℕ
  pub end : State
  pub goes : Goes p steps high s end

unfoldable pub way_then : {p : Program} {s : State} (a : Way p s) → Way p a.end → Way p s
way_then {p} {s} a b =
    record {
      steps = a.steps + b.steps;
      high = max a.high b.high;
      end = b.end;
      goes = goes_then p a.steps b.steps a.high b.high s a.end b.end a.goes b.goes;
    }

-- one step
unfoldable pub way_one : {p : Program} {s : State} (e : Effect) → judged_at p s ≡ Ok e → Way p s
way_one {p} {s} e j = record { steps = 1; high = max s.registers.sp e.sp; end = committed s e; goes = (e, e.sp, j, refl, (refl, refl)) }

untouched_then : {low₁ low₂ : ℕ} {s₁ s₂ s₃ : State} (low : ℕ) → Untouched low₁ s₁ s₂ → Untouched low₂ s₂ s₃ → low ≤ low₁ → low ≤ low₂
    → Untouched low s₁ s₃
untouched_then low u w a b =
    record {
      cells = λ i l. w.cells i (omega arith) ∙ u.cells i (omega arith);
      output = w.output ∙ u.output;
      written = w.written ∙ u.written;
    }

-- ---- where the code stands

-- these places stand in the program from pc on
abbrev pub Lies : Program → ℕ → List ℕ → Type 0
Lies p pc [] = Unit
Lies p pc (w ∷ ws) = (get_or p.places pc 0 ≡ w) × (pc < p.count) × Lies p (pc + 1) ws

pub lies_split : (p : Program) (pc : ℕ) (xs ys : List ℕ) → Lies p pc (xs ++ ys) → Lies p pc xs × Lies p (pc + length xs) ys
lies_split p pc [] ys h = (tt, subst (λ (i : ℕ). Lies p i ys) (sym (add-zero pc)) h)
lies_split p pc (x ∷ xs) ys h =
    let r = lies_split p (pc + 1) xs ys h.2 in
    let e : pc + 1 + length xs ≡ pc + suc (length xs) = omega arith in
    ((h.0, h.1, r.0), subst (λ (i : ℕ). Lies p i ys) e r.1)

lies_all : (p : Program) (pc : ℕ) (ws : List ℕ) → pc + length ws ≤ p.count
    → ((j : ℕ) → j < length ws → get_or p.places (pc + j) 0 ≡ get_or ws j 0) → Lies p pc ws
lies_all p pc [] l h = tt
lies_all p pc (w ∷ ws) l h = (
  ap (λ (i : ℕ). get_or p.places i 0) (sym (add-zero pc)) ∙ h 0 (omega arith),
  omega arith,
  lies_all p (pc + 1) ws (omega arith)
      (λ j k. let e : pc + 1 + j ≡ pc + suc j = omega arith in ap (λ (i : ℕ). get_or p.places i 0) e ∙ h (suc j) (omega arith)),
)

-- the program of a tree, in its own table
pub lies_program : (t : Tree) → Lies (program_for t) 0 (instructions_for t)
lies_program t =
    lies_all (program_for t) 0 (instructions_for t) (omega arith)
    (λ j l. ap (λ (i : ℕ). get_or (table_for t) i 0) (zero-add j) ∙ get_or-append (instructions_for t) (replicate (max_program - length (instructions_for t)) 0) 0 j l)

-- ---- where a run stands

-- at pc with SP sp in N cells, so much of the history's room left, and the names in their cells
pub record Here (p : Program) (names : ℕ → ℕ) (s : State) (n pc sp free : ℕ) : Type 0 where
  pub healthy : sound p s.registers s.memory ≡ true
  pub size : s.registers.n ≡ n
  pub at : s.registers.pc ≡ pc
  pub height : s.registers.sp ≡ sp
  pub fbr : s.registers.fbr ≡ 0
  pub running : s.registers.halt ≡ 0
  pub room : Free s.registers free
  pub named : (k : ℕ) → k < name_cells → cell_at s.memory.cells (record { 0 = k }) ≡ int (names k)

here_move : {p : Program} {names : ℕ → ℕ} {s : State} {n pc sp free : ℕ} (pc' free' : ℕ) → Here p names s n pc sp free → pc ≡ pc' → free' ≤ free
    → Here p names s n pc' sp free'
here_move pc' free' h a c =
    record {
      healthy = h.healthy;
      size = h.size;
      at = h.at ∙ a;
      height = h.height;
      fbr = h.fbr;
      running = h.running;
      room = λ z. let l = h.room z in omega arith;
      named = h.named;
    }

-- k steps later: one cell stands on top, at low, and the cells below it are as they were
pub record Then (p : Program) (names : ℕ → ℕ) (s : State) (k top n pc free low : ℕ) (c : Cell) : Type 0 where
  pub way : Way p s
  pub count : way.steps ≡ k
  pub peak : way.high ≡ top
  pub here : Here p names way.end n pc (low + 1) free
  pub rest : Untouched low s way.end
  pub on : cell_at way.end.memory.cells (record { 0 = low }) ≡ c

-- fewer than so many steps later there is no result
pub record Stops (p : Program) (s : State) (most top low : ℕ) : Type 0 where
  pub way : Way p s
  pub few : way.steps < most
  pub below : way.high ≤ top
  pub healthy : sound p way.end.registers way.end.memory ≡ true
  pub running : way.end.registers.halt ≡ 0
  pub refuses : judged_at p way.end ≡ Err NoResult
  pub rest : Untouched low s way.end

-- ---- one instruction that pushes a result: k values are popped, to `low`
pushes : {p : Program} {names : ℕ → ℕ} {s : State} {n pc sp free : ℕ} (k low : ℕ) (c : Cell) (w top : ℕ) → Here p names s n pc sp (2 + free)
    → get_or p.places pc 0 ≡ w → pc < p.count → decide_at s.registers s.memory.cells w ≡ Ok (result s.registers k c) → low + k ≡ sp
    → name_cells ≤ low → low + 1 < n → max sp (low + 1) ≡ top → Then p names s 1 top n (pc + 1) free low c
unfolding way_one
pushes {p} {names} {s} {n} {pc} {sp} {free} k low c w top h at inside d popped enough fits high =
    let r : Registers = s.registers in
    let e : Effect = result r k c in
    let hs : r.sp ≡ sp = h.height in
    let hn : r.n ≡ n = h.size in
    let hp : r.pc ≡ pc = h.at in
    let there : r.sp - k ≡ low = omega arith in
    let f : Sound p r s.memory = sound_facts p r s.memory h.healthy in
    let j : judged_at p s ≡ Ok e =
    judged_does p s h.running (omega arith) e
    (ap (λ (i : ℕ). decide_at r s.memory.cells (get_or p.places i 0)) hp ∙ ap (decide_at r s.memory.cells) at ∙ d)
    (omega arith) refl (free_room r e (λ z. let l = h.room z in omega arith)) in
    let rest : Untouched low s (committed s e) =
    record {
      cells = λ i l. cell_stays i r.n s.memory.cells e f.bits f.tags (omega arith) (λ a b. let z : ⊥ = omega (arith, a) in z);
      output = refl;
      written = refl;
    } in
    record {
      way = way_one e j;
      count = refl {a = 1};
      peak = omega arith;
      here =
          record {
            healthy = sound_judged p r s.memory e h.healthy j;
            size = hn;
            at = omega arith;
            height = omega arith;
            fbr = h.fbr;
            running = refl {a = 0};
            room = free_after r e (2 + free) free h.room (omega arith);
            named = λ i l. rest.cells i (omega arith) ∙ h.named i l;
          };
      rest = rest;
      on =
          subst (λ (i : ℕ). cell_at (committed s e).memory.cells (record { 0 = i }) ≡ c) there
          (result_at r s.memory.cells k c (omega (arith, f.bits, f.sp)) (omega (arith, f.tags, f.sp)));
    }

-- ---- one way after another
module _ {p : Program} {names : ℕ → ℕ} {s : State} {k₁ top₁ n pc₁ free₁ low₁ : ℕ} {c₁ : Cell}
    (q : Then p names s k₁ top₁ n pc₁ free₁ low₁ c₁) (low : ℕ) (hl : low ≤ low₁) where
  then_then : {k₂ top₂ pc₂ free₂ : ℕ} {c₂ : Cell} (k top pc : ℕ) → (w : Then p names q.way.end k₂ top₂ n pc₂ free₂ low c₂)
      → k ≡ k₁ + k₂ → top ≡ max top₁ top₂ → pc ≡ pc₂ → Then p names s k top n pc free₂ low c₂
  unfolding way_then
  then_then {free₂ = free₂} k top pc w ek et ep =
      record {
        way = way_then q.way w.way;
        count = omega (arith, q.count, w.count);
        peak = omega (arith, q.peak, w.peak);
        here = here_move pc free₂ w.here (sym ep) (omega arith);
        rest = untouched_then low q.rest w.rest hl (omega arith);
        on = w.on;
      }

  then_stops : {most₂ top₂ low₂ : ℕ} (most top : ℕ) → Stops p q.way.end most₂ top₂ low₂ → low ≤ low₂ → k₁ + most₂ ≤ most
      → max top₁ top₂ ≤ top → Stops p s most top low
  unfolding way_then
  then_stops most top w l ek et =
      record {
        way = way_then q.way w.way;
        few = omega (arith, q.count, w.few);
        below = omega (arith, q.peak, w.below);
        healthy = w.healthy;
        running = w.running;
        refuses = w.refuses;
        rest = untouched_then low q.rest w.rest hl l;
      }

  -- the instruction after it has no result
  then_refuses : (most top : ℕ) → judged_at p q.way.end ≡ Err NoResult → k₁ < most → top₁ ≤ top → Stops p s most top low
  then_refuses most top j ek et =
      record {
        way = q.way;
        few = omega (arith, q.count);
        below = omega (arith, q.peak);
        healthy = q.here.healthy;
        running = q.here.running;
        refuses = j;
        rest = record { cells = λ i l. q.rest.cells i (omega arith); output = q.rest.output; written = q.rest.written };
      }

stops_within : {p : Program} {s : State} {most top low : ℕ} (most' top' : ℕ) → Stops p s most top low → most ≤ most' → top ≤ top'
    → Stops p s most' top' low
stops_within most' top' w a b =
    record {
      way = w.way;
      few = omega (arith, w.few);
      below = omega (arith, w.below);
      healthy = w.healthy;
      running = w.running;
      refuses = w.refuses;
      rest = w.rest;
    }

-- ---- the code of a tree, from any place of the program and any SP
module _ (p : Program) (names : ℕ → ℕ) (n : ℕ) (words : (k : ℕ) → k < name_cells → names k < 2 ^ 32) where
  -- what its steps come to, by its value: it is on top, SP one higher, and the cells below are as they were; or there is no result
  abbrev pub Outcome : Tree → State → (pc sp free : ℕ) → Value → Type 0
  Outcome t s pc sp free (value v) = Then p names s (cost t) (sp + depth t) n (pc + cost t) free sp (int v)
  Outcome t s pc sp free no_value = Stops p s (cost t) (sp + depth t) sp

  abbrev Works : Tree → Type 0
  Works t =
      (s : State) (pc sp free : ℕ) → Here p names s n pc sp (2 * cost t + free) → name_cells ≤ sp → sp + depth t < n → Lies p pc (code_for t)
      → Outcome t s pc sp free (worth names t)

  -- ---- one operator, on the INTs at sp and above it

  abbrev Operated : State → (pc sp free : ℕ) → Value → Type 0
  Operated s pc sp free (value v) = Then p names s 1 (sp + 2) n (pc + 1) free sp (int v)
  Operated s pc sp free no_value = judged_at p s ≡ Err NoResult

  module _ (o : Operator) (s : State) (pc sp free b t : ℕ) (h : Here p names s n pc (sp + 1 + 1) (2 + free)) (low : name_cells ≤ sp) (fits : sp + 1 < n)
      (at : get_or p.places pc 0 ≡ operation o) (inside : pc < p.count) (hb : cell_at s.memory.cells (record { 0 = sp }) ≡ int b)
      (ht : cell_at s.memory.cells (record { 0 = sp + 1 }) ≡ int t) where
    abbrev decision : ℕ → Decision
    decision w = decide_at s.registers s.memory.cells w

    by_value : (z : Value) → decision (operation o) ≡ operated s.registers s.memory.cells z → Operated s pc sp free z
    by_value (value v) d = pushes 2 sp (int v) (operation o) (sp + 2) h at inside d (omega arith) low fits (omega arith)
    by_value no_value d =
        judged_refuses p s h.running (omega (arith, h.at)) NoResult
        (ap (λ (i : ℕ). decision (get_or p.places i 0)) h.at ∙ ap decision at ∙ d)

    -- what stands at an address stands at the same address told otherwise
    there : (x : Cell) (i j : ℕ) → i ≡ j → cell_at s.memory.cells (record { 0 = i }) ≡ x → cell_at s.memory.cells (record { 0 = j }) ≡ x
    there x i j e q = subst (λ (k : ℕ). cell_at s.memory.cells (record { 0 = k }) ≡ x) e q

    operates : Operated s pc sp free (applied o b t)
    operates =
        let hs : s.registers.sp ≡ sp + 1 + 1 = h.height in
        by_value (applied o b t)
        (decide_joined s.registers s.memory.cells o b t (omega arith) (there (int b) sp (s.registers.sp - 2) (omega arith) hb)
        (there (int t) (sp + 1) (s.registers.sp - 1) (omega arith) ht))

  -- ---- the four kinds of tree

  number_works : (v : ℕ) → Proper (number v) → Works (number v)
  unfolding worth code_for cost depth
  number_works v proper s pc sp free h low fits lies =
      pushes 0 sp (int v) (push_number v) (sp + 1) h lies.0 lies.1 (decide_number s.registers s.memory.cells v (omega arith)) (omega arith) low fits
      (omega arith)

  name_works : (k : ℕ) → Proper (name k) → Works (name k)
  unfolding worth code_for cost depth
  name_works k proper s pc sp free h low fits lies =
      pushes 0 sp (int (names k)) (push_name k) (sp + 1) h lies.0 lies.1
      (decide_name s.registers s.memory.cells k proper h.fbr (omega (arith, h.height))
      ∙ ap (λ (c : Cell). Ok (result s.registers 0 c)) (h.named k proper)) (omega arith) low fits (omega arith)

  -- TIMES, behind the operand of unary minus and -1
  negative_last : (t : Tree) (s : State) (pc sp free b : ℕ) → name_cells ≤ sp → sp + depth (negative t) < n → Lies p (pc + cost t) negation → b < 2 ^ 32
      → (q₁ : Outcome t s pc sp (2 + (2 + free)) (value b))
      → Then p names q₁.way.end 1 (sp + 2) n (pc + cost t + 1) (2 + free) (sp + 1) (int (2 ^ 32 - 1))
      → Outcome (negative t) s pc sp free (value (word (neg_ℤ (signed b))))
  unfolding cost depth
  negative_last t s pc sp free b low fits lies w q₁ q₂ =
      let q₃ =
      operates Multiply q₂.way.end (pc + cost t + 1) sp free b (2 ^ 32 - 1) q₂.here low (omega arith) lies.2.0 lies.2.1
      (q₂.rest.cells sp (omega arith) ∙ q₁.on) q₂.on in
      let q₂₃ = then_then q₂ sp (omega arith) 2 (sp + 2) (pc + cost t + 1 + 1) q₃ (omega arith) (omega arith) refl in
      subst (λ (v : ℕ). Then p names s (cost t + 2) (sp + max (depth t) 2) n (pc + (cost t + 2)) free sp (int v)) (minus_product b w)
      (then_then q₁ sp (omega arith) (cost t + 2) (sp + max (depth t) 2) (pc + (cost t + 2)) q₂₃ (omega arith) (omega arith) (omega arith))

  -- behind the operand of unary minus
  negative_behind : (t : Tree) (s : State) (pc sp free : ℕ) → name_cells ≤ sp → sp + depth (negative t) < n → Lies p (pc + cost t) negation
      → (x : Value) → Word x → Outcome t s pc sp (2 + (2 + free)) x → Outcome (negative t) s pc sp free (and_then (λ b. value (word (neg_ℤ (signed b)))) x)
  unfolding cost depth
  negative_behind t s pc sp free low fits lies no_value w q = stops_within (cost t + 2) (sp + max (depth t) 2) q (omega arith) (omega arith)
  negative_behind t s pc sp free low fits lies (value b) w q =
      negative_last t s pc sp free b low fits lies w q
      (pushes 0 (sp + 1) (int (2 ^ 32 - 1)) (push_number (2 ^ 32 - 1)) (sp + 2) q.here lies.0 lies.1
      (decide_number q.way.end.registers q.way.end.memory.cells (2 ^ 32 - 1) (omega arith)) (omega arith) (omega arith) (omega arith) (omega arith))

  negative_works : (t : Tree) → Proper t → Works t → Works (negative t)
  unfolding worth code_for cost depth
  negative_works t proper works s pc sp free h low fits lies =
      let ls = lies_split p pc (code_for t) negation lies in
      let end : Lies p (pc + cost t) negation = subst (λ (i : ℕ). Lies p (pc + i) negation) (code_length t) ls.1 in
      negative_behind t s pc sp free low fits end (worth names t) (value_word names words t proper)
      (works s pc sp (2 + (2 + free)) (here_move pc (2 * cost t + (2 + (2 + free))) h refl (omega arith)) low (omega arith) ls.0)

  module _ (o : Operator) (left right : Tree) (s : State) (pc sp free : ℕ) (low : name_cells ≤ sp) (fits : sp + depth (joined o left right) < n) where
    -- the operator, behind both sides
    joined_last : (b t : ℕ) (q₁ : Outcome left s pc sp (2 * cost right + (2 + free)) (value b))
        (q₂ : Outcome right q₁.way.end (pc + cost left) (sp + 1) (2 + free) (value t)) → (z : Value)
        → Operated q₂.way.end (pc + cost left + cost right) sp free z → Outcome (joined o left right) s pc sp free z
    unfolding cost depth
    joined_last b t q₁ q₂ (value v) q₃ =
        let some : 1 ≤ depth right = depth_some right in
        let q₂₃ = then_then q₂ sp (omega arith) (cost right + 1) (sp + 1 + depth right) (pc + cost left + cost right + 1) q₃ refl (omega arith) refl in
        then_then q₁ sp (omega arith) (cost left + cost right + 1) (sp + max (depth left) (1 + depth right)) (pc + (cost left + cost right + 1)) q₂₃
        (omega arith) (omega arith) (omega arith)
    joined_last b t q₁ q₂ no_value j =
        then_stops q₁ sp (omega arith) (cost left + cost right + 1) (sp + max (depth left) (1 + depth right))
        (then_refuses q₂ (sp + 1) (omega arith) (cost right + 1) (sp + 1 + depth right) j (omega arith) (omega arith)) (omega arith) (omega arith) (omega arith)

    -- the right side and the operator, behind the left side
    joined_right : (b : ℕ) (q₁ : Outcome left s pc sp (2 * cost right + (2 + free)) (value b)) → Lies p (pc + cost left + cost right) (operation o ∷ [])
        → (y : Value) → Outcome right q₁.way.end (pc + cost left) (sp + 1) (2 + free) y
        → Outcome (joined o left right) s pc sp free (and_then (applied o b) y)
    unfolding cost depth
    joined_right b q₁ lies no_value q₂ =
        then_stops q₁ sp (omega arith) (cost left + cost right + 1) (sp + max (depth left) (1 + depth right)) q₂ (omega arith) (omega arith) (omega arith)
    joined_right b q₁ lies (value t) q₂ =
        let some : 1 ≤ depth right = depth_some right in
        joined_last b t q₁ q₂ (applied o b t)
        (operates o q₂.way.end (pc + cost left + cost right) sp free b t q₂.here low (omega arith) lies.0 lies.1
        (q₂.rest.cells sp (omega arith) ∙ q₁.on) q₂.on)

    -- what follows the left side
    joined_left : Works right → Lies p (pc + cost left) (code_for right ++ (operation o ∷ [])) → (x : Value)
        → Outcome left s pc sp (2 * cost right + (2 + free)) x
        → Outcome (joined o left right) s pc sp free (and_then (λ b. and_then (applied o b) (worth names right)) x)
    unfolding cost depth
    joined_left works lies no_value q =
        stops_within (cost left + cost right + 1) (sp + max (depth left) (1 + depth right)) q (omega arith) (omega arith)
    joined_left works lies (value b) q₁ =
        let ls = lies_split p (pc + cost left) (code_for right) (operation o ∷ []) lies in
        let end : Lies p (pc + cost left + cost right) (operation o ∷ []) =
        subst (λ (i : ℕ). Lies p (pc + cost left + i) (operation o ∷ [])) (code_length right) ls.1 in
        joined_right b q₁ end (worth names right)
        (works q₁.way.end (pc + cost left) (sp + 1) (2 + free) q₁.here (omega arith) (omega arith) ls.0)

  joined_works : (o : Operator) (left right : Tree) → Works left → Works right → Works (joined o left right)
  unfolding worth code_for cost depth
  joined_works o left right wl wr s pc sp free h low fits lies =
      let ls = lies_split p pc (code_for left) (code_for right ++ (operation o ∷ [])) lies in
      let rest : Lies p (pc + cost left) (code_for right ++ (operation o ∷ [])) =
      subst (λ (i : ℕ). Lies p (pc + i) (code_for right ++ (operation o ∷ []))) (code_length left) ls.1 in
      joined_left o left right s pc sp free low fits wr rest (worth names left)
      (wl s pc sp (2 * cost right + (2 + free)) (here_move pc (2 * cost left + (2 * cost right + (2 + free))) h refl (omega arith)) low (omega arith) ls.0)

  -- of every tree
  pub tree_works : (t : Tree) → Proper t → Works t
  tree_works (number v) proper = number_works v proper
  tree_works (name k) proper = name_works k proper
  tree_works (negative t) proper = negative_works t proper (tree_works t proper)
  tree_works (joined o left right) proper = joined_works o left right (tree_works left proper.0) (tree_works right proper.1)
