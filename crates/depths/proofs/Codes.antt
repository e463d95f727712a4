-- What the table of instructions tells of a code: whether it is forbidden, what it leaves, and where it goes on. Assumes nothing.
use Prim.Native.Nat.{ℕ, suc, ◌+◌, ◌-◌, ◌≤◌, ◌<◌}
use mathlib.Core.Path.{◌≡◌, refl, sym, ap, ◌∙◌}
use mathlib.Core.Bool.{Bool, true, false, ◌||◌}
use mathlib.Core.List.{[], ◌∷◌}
use native.Mathlib.Nat.{add-zero}
use native.Mathlib.Omega.{arith}
use lib.Dec.{ltb, eqb}
use lib.IntN.{ℤ, pos, negsuc, ◌+ℤ◌}
use lib.ListN.{get_or-eq_default}
use borrow.Author.Tests.{ne_eqb, le-ltb, ltb-true, ltb-false}
use Rattle.rules.specs.Lists.{text, same}
use Rattle.rules.specs.Words.{signed}
use Rattle.rules.specs.Effects.{memory_address}
use Rattle.rules.specs.Actions.{taken, add_sp}
use Rattle.rules.specs.Decide.{Action}
use Rattle.rules.specs.Instructions.{Row, codes, rows, row_of, action_of}
use Rattle.rules.specs.DepthList.{depth_after, followers, is_named, forbidden}
use Rattle.rules.proofs.Tests.{by_test, never, alike, alike_equal, below, at_below}
use Rattle.rules.proofs.Rows.{EachRow, end, ◌then◌, at_code}

-- ---- forbidden: POPSP, JUMPIND, JSR, JSRIND

abbrev is_one : ℕ → Bool
is_one c = eqb c 35 || (eqb c 46 || (eqb c 47 || eqb c 48))

codes_right : below (λ c. alike (is_one c) (forbidden (row_of c))) codes ≡ true
unfolding forbidden text same row_of rows
codes_right = refl

past_allowed : (c : ℕ) → codes ≤ c → forbidden (row_of c) ≡ is_one c
unfolding forbidden text same row_of rows
past_allowed c h =
    ap forbidden (get_or-eq_default rows _ h)
    ∙ sym (rw (ne_eqb c 35 (λ e. omega (arith, e, h)), ne_eqb c 46 (λ e. omega (arith, e, h)), ne_eqb c 47 (λ e. omega (arith, e, h)), ne_eqb c 48 (λ e. omega (arith, e, h))) refl)

pub forbidden_is : (c : ℕ) → forbidden (row_of c) ≡ is_one c
forbidden_is c =
    by_test (ltb c codes)
    (λ h. sym (alike_equal _ _ (at_below (λ k. alike (is_one k) (forbidden (row_of k))) codes codes_right c (ltb-true c codes h))))
    (λ h. past_allowed c (ltb-false c codes h))

-- ---- the depth after: what was below what it needs, and what it leaves in its place

abbrev LeavesOf : Action → Type 0
LeavesOf a = (n depth : ℕ) → a.needs n ≤ depth → depth - a.needs n + depth_after a n (a.needs n) ≡ depth_after a n depth

stays : (d : ℕ) → d - 0 + 0 ≡ d
stays d = omega arith

links : (d : ℕ) → d - 0 + (0 + 1) ≡ d + 1
links d = omega arith

copies : (d : ℕ) → 1 ≤ d → d - 1 + (1 - 0 + 1) ≡ d - 0 + 1
copies d h = omega arith

swaps : (d : ℕ) → 2 ≤ d → d - 2 + 2 ≡ d
swaps d h = omega arith

leaves_by : (depth : ℕ) (z : ℤ) → taken z ≤ depth
    → depth - taken z + (memory_address (pos (taken z) +ℤ z)).0 ≡ (memory_address (pos depth +ℤ z)).0
leaves_by depth (pos a) h = omega arith
leaves_by depth (negsuc a) h = rw (le-ltb depth (suc a) h, le-ltb (suc a) (suc a) (omega arith)) (omega arith)

leaves_addsp : LeavesOf add_sp
unfolding depth_after
leaves_addsp n depth h = leaves_by depth (signed n) h

abbrev LeavesRow : Row → Type 0
LeavesRow w = forbidden w ≡ false → LeavesOf w.action

leaves_rows : EachRow LeavesRow rows
unfolding rows forbidden text same depth_after
leaves_rows =
    -- STOP, PUSHIMM, PUSHIMMF, DUP, SWAP, ADD
    (λ h n d q. stays d) then (λ h n d q. refl) then (λ h n d q. refl) then (λ h n d q. copies d q) then (λ h n d q. swaps d q) then (λ h n d q. refl)
    -- SUB, TIMES, DIV, MOD, ADDF, SUBF
    then (λ h n d q. refl) then (λ h n d q. refl) then (λ h n d q. refl) then (λ h n d q. refl) then (λ h n d q. refl) then (λ h n d q. refl)
    -- TIMESF, DIVF, AND, OR, NAND, NOR
    then (λ h n d q. refl) then (λ h n d q. refl) then (λ h n d q. refl) then (λ h n d q. refl) then (λ h n d q. refl) then (λ h n d q. refl)
    -- XOR, NOT, BITAND, BITOR, BITNAND, BITNOR
    then (λ h n d q. refl) then (λ h n d q. refl) then (λ h n d q. refl) then (λ h n d q. refl) then (λ h n d q. refl) then (λ h n d q. refl)
    -- BITXOR, BITNOT, CMP, CMPF, GREATER, LESS
    then (λ h n d q. refl) then (λ h n d q. refl) then (λ h n d q. refl) then (λ h n d q. refl) then (λ h n d q. refl) then (λ h n d q. refl)
    -- EQUAL, ISNIL, ISPOS, ISNEG, PUSHSP, POPSP
    then (λ h n d q. refl) then (λ h n d q. refl) then (λ h n d q. refl) then (λ h n d q. refl) then (λ h n d q. refl) then never
    -- PUSHFBR, POPFBR, LINK, ADDSP, PUSHIND, STOREIND
    then (λ h n d q. refl) then (λ h n d q. add-zero _) then (λ h n d q. links d) then (λ h. leaves_addsp) then (λ h n d q. refl) then (λ h n d q. add-zero _)
    -- PUSHOFF, STOREOFF, JUMP, JUMPC, JUMPIND, JSR
    then (λ h n d q. refl) then (λ h n d q. add-zero _) then (λ h n d q. add-zero _) then (λ h n d q. add-zero _) then never then never
    -- JSRIND, PUSHIMMPA, ITOF, FTOI, PUSHIMMCH, WRITECH
    then never then (λ h n d q. refl) then (λ h n d q. refl) then (λ h n d q. refl) then (λ h n d q. refl) then (λ h n d q. add-zero _)
    then end

pub depth_moved : (code n depth : ℕ) → forbidden (row_of code) ≡ false → (action_of code).needs n ≤ depth
    → depth_after (action_of code) n depth ≡ depth - (action_of code).needs n + depth_after (action_of code) n ((action_of code).needs n)
unfolding action_of
depth_moved code n depth h low = sym (at_code LeavesRow leaves_rows code h n depth low)

-- ---- where it goes on: STOP, JUMP and JUMPC each in its own way, all others to the place behind

pub follows_stop : (code n place : ℕ) → code ≡ 0 → followers (action_of code) n place ≡ []
unfolding followers action_of row_of rows
follows_stop code n place e = rw e refl

pub follows_jump : (code n place : ℕ) → code ≡ 44 → followers (action_of code) n place ≡ n ∷ n ∷ []
unfolding followers action_of row_of rows
follows_jump code n place e = rw e refl

pub follows_jumpc : (code n place : ℕ) → code ≡ 45 → followers (action_of code) n place ≡ (place + 1) ∷ n ∷ []
unfolding followers action_of row_of rows
follows_jumpc code n place e = rw e refl

leads : Row → Bool
leads w = is_named w ("STOP" ∷ "JUMP" ∷ "JUMPC" ∷ [])

abbrev NextRow : Row → Type 0
NextRow w = leads w ≡ false → forbidden w ≡ false → (n place : ℕ) → followers w.action n place ≡ (place + 1) ∷ (place + 1) ∷ []

next_rows : EachRow NextRow rows
unfolding rows leads forbidden text same followers
next_rows =
    -- STOP, PUSHIMM, PUSHIMMF, DUP, SWAP, ADD
    (λ l. never l) then (λ l h n k. refl) then (λ l h n k. refl) then (λ l h n k. refl) then (λ l h n k. refl) then (λ l h n k. refl)
    -- SUB, TIMES, DIV, MOD, ADDF, SUBF
    then (λ l h n k. refl) then (λ l h n k. refl) then (λ l h n k. refl) then (λ l h n k. refl) then (λ l h n k. refl) then (λ l h n k. refl)
    -- TIMESF, DIVF, AND, OR, NAND, NOR
    then (λ l h n k. refl) then (λ l h n k. refl) then (λ l h n k. refl) then (λ l h n k. refl) then (λ l h n k. refl) then (λ l h n k. refl)
    -- XOR, NOT, BITAND, BITOR, BITNAND, BITNOR
    then (λ l h n k. refl) then (λ l h n k. refl) then (λ l h n k. refl) then (λ l h n k. refl) then (λ l h n k. refl) then (λ l h n k. refl)
    -- BITXOR, BITNOT, CMP, CMPF, GREATER, LESS
    then (λ l h n k. refl) then (λ l h n k. refl) then (λ l h n k. refl) then (λ l h n k. refl) then (λ l h n k. refl) then (λ l h n k. refl)
    -- EQUAL, ISNIL, ISPOS, ISNEG, PUSHSP, POPSP
    then (λ l h n k. refl) then (λ l h n k. refl) then (λ l h n k. refl) then (λ l h n k. refl) then (λ l h n k. refl) then (λ l h. never h)
    -- PUSHFBR, POPFBR, LINK, ADDSP, PUSHIND, STOREIND
    then (λ l h n k. refl) then (λ l h n k. refl) then (λ l h n k. refl) then (λ l h n k. refl) then (λ l h n k. refl) then (λ l h n k. refl)
    -- PUSHOFF, STOREOFF, JUMP, JUMPC, JUMPIND, JSR
    then (λ l h n k. refl) then (λ l h n k. refl) then (λ l. never l) then (λ l. never l) then (λ l h. never h) then (λ l h. never h)
    -- JSRIND, PUSHIMMPA, ITOF, FTOI, PUSHIMMCH, WRITECH
    then (λ l h. never h) then (λ l h n k. refl) then (λ l h n k. refl) then (λ l h n k. refl) then (λ l h n k. refl) then (λ l h n k. refl)
    then end

leads_right : below (λ c. alike (eqb c 0 || (eqb c 44 || eqb c 45)) (leads (row_of c))) codes ≡ true
unfolding leads text same row_of rows
leads_right = refl

pub follows_next : (code n place : ℕ) → code < codes → (code ≡ 0 → ⊥) → (code ≡ 44 → ⊥) → (code ≡ 45 → ⊥) → forbidden (row_of code) ≡ false
    → followers (action_of code) n place ≡ (place + 1) ∷ (place + 1) ∷ []
unfolding action_of
follows_next code n place coded stop jump jumpc h = at_code NextRow next_rows code leads_not h n place
  where
    none : (eqb code 0 || (eqb code 44 || eqb code 45)) ≡ false
    none = rw (ne_eqb code 0 stop, ne_eqb code 44 jump, ne_eqb code 45 jumpc) refl

    leads_not : leads (row_of code) ≡ false
    leads_not =
        sym (alike_equal _ _ (at_below (λ c. alike (eqb c 0 || (eqb c 44 || eqb c 45)) (leads (row_of c))) codes leads_right code coded)) ∙ none

pub ruleset followings = (follows_stop, follows_jump, follows_jumpc, follows_next)
