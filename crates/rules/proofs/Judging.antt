-- The assembler's judgement of one token and of all, and the settling of targets, as equations. Assumes nothing.
use Prim.Native.Nat.{ℕ, ◌≤◌, ◌<◌}
use mathlib.Core.Path.{◌≡◌, refl, ap}
use mathlib.Core.Bool.{false}
use mathlib.Core.List.{List, [], ◌∷◌, ◌++◌}
use native.Mathlib.Omega.{arith}
use lib.ListN.{length, get_or}
use borrow.Author.Tests.{le-ltb, lt-ltb, le-leb, lt-leb}
use Rattle.rules.specs.Sizes.{max_program}
use Rattle.rules.specs.Bytes.{letter, is_word}
use Rattle.rules.specs.Tokens.{Token}
use Rattle.rules.specs.Instructions.{codes, kind_of}
use Rattle.rules.specs.Table.{place_of}
use Rattle.rules.specs.Assemble.{allowed_run, Label, Item, finished, numbered, Progress, go, begun_as, new_name, judge_as, judge_token, Outcome, done, join, settle, finish, finish_as, after, judge}

-- ---- one token

-- every byte is allowed
pub token_allowed : (s : Progress) (t : Token) → length t.text ≤ allowed_run t.text → judge_token s t ≡ judge_as s t.at t.text s.awaited
unfolding judge_token
token_allowed s t h = rw (le-ltb (allowed_run t.text) (length t.text) h)

-- a name, and room for an instruction
pub name_new : (s : Progress) (at c : ℕ) → c < codes → length s.items < max_program → new_name s at c ≡ begun_as s c (kind_of c)
unfolding new_name
name_new s at c h k = rw (lt-ltb c codes h, lt-leb max_program (length s.items) k)

-- ---- all tokens

pub judge_end : (size : ℕ) (s : Progress) → judge size s [] ≡ finish_as size s s.awaited
unfolding judge finish
judge_end size s = refl

pub judge_go : (size : ℕ) (s z : Progress) (t : Token) (ts : List Token) → judge_token s t ≡ go z → judge size s (t ∷ ts) ≡ judge size z ts
unfolding judge
judge_go size s z t ts h = ap (after (λ s'. judge size s' ts)) h

-- ---- the targets

-- the item becomes the place w, in a program of n instructions and whatever labels
abbrev pub Settles : ℕ → ℕ → Item → Type 0
Settles n w i = (ls : List Label) (is : List Item) → settle n ls (i ∷ is) ≡ join w (settle n ls is)

pub settles_finished : (n w : ℕ) → Settles n w (finished w)
unfolding settle
settles_finished n w ls is = refl

pub settles_numbered : (n c at v w : ℕ) → v ≤ n → place_of c v ≡ w → Settles n w (numbered c at v)
unfolding settle
settles_numbered n c at v w h e ls is = rw (le-leb v n h, ← e)

-- places in front of what is still to come
unfoldable pub join_all : List ℕ → Outcome → Outcome
join_all [] r = r
join_all (w ∷ ws) r = join w (join_all ws r)

pub join_none : (r : Outcome) → join_all [] r ≡ r
unfolding join_all
join_none r = refl

pub join_more : (ws : List ℕ) (w : ℕ) (r : Outcome) → join_all (ws ++ w ∷ []) r ≡ join_all ws (join w r)
unfolding join_all
join_more [] w r = refl
join_more (v ∷ ws) w r = ap (join v) (join_more ws w r)

pub join_done : (n : ℕ) (ls : List Label) (ws : List ℕ) → join_all ws (settle n ls []) ≡ done ws
unfolding join_all settle
join_done n ls [] = refl
join_done n ls (w ∷ ws) = ap (join w) (join_done n ls ws)

-- ---- words

pub no_word : (t : List ℕ) → letter (get_or t 0 0) ≡ false → is_word t ≡ false
unfolding is_word
no_word [] h = refl
no_word (b ∷ s) h = rw h

pub no_letter : (b : ℕ) → b < 65 → letter b ≡ false
unfolding letter
no_letter b h = rw (lt-leb 65 b h, lt-leb 97 b (omega arith))
