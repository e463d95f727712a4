-- How the assembler holds what it has read: the table's first places hold the items, and the first labels of the list those that were read. Assumes nothing.
use Rattle.std.specs.Prelude.{ℕ, ◌^◌, ◌/◌, ◌%◌, ◌≤◌, ◌≡◌, cond, List, map, eqb, length, take, Option, Some, None, Result, Ok, Err, ⊤}
use Rattle.rules.specs.Lists.{part}
use Rattle.rules.specs.Sizes.{max_program}
use Rattle.rules.specs.Assemble.{Label, Found, nowhere, found_at, Item, finished, numbered, beyond, labelled, Awaited, instruction, operand_for, Progress, Reading, item, bad, Judged, go, stop, Outcome, done, refused, join, finish}
use Rattle.rules.specs.declared.TextRefusal.{TextRefusal}
use Rattle.assembler.specs.declared.held.Stop.{Stop}
use Rattle.assembler.specs.declared.held.Label as held
use Rattle.assembler.specs.declared.held.FirstPass.{FirstPass}

-- ---- words

-- the bytes of the source from start, len of them
unfoldable pub piece : List ℕ → ℕ → ℕ → List ℕ
piece src start len = part start len src

-- an item: from bit 60 on its kind (0 finished, 1 numbered, 2 labelled, 3 beyond), from bit 40 on its start, from bit 32 on its code, and a value
-- or a length
unfoldable pub item_at : List ℕ → ℕ → Item
item_at src w =
    cond (eqb (w / 2 ^ 60) 0) (finished w)
    (cond (eqb (w / 2 ^ 60) 1) (numbered (w / 2 ^ 32 % 2 ^ 8) (w / 2 ^ 40 % 2 ^ 20) (w % 2 ^ 32))
    (cond (eqb (w / 2 ^ 60) 2) (labelled (w / 2 ^ 32 % 2 ^ 8) (w / 2 ^ 40 % 2 ^ 20) (piece src (w / 2 ^ 40 % 2 ^ 20) (w % 2 ^ 32)))
    (beyond (w / 2 ^ 40 % 2 ^ 20))))

-- the fields of an item's word
pub record PackedAs (kind start code low w : ℕ) : Type 0 where
  pub kind_in : w / 2 ^ 60 ≡ kind
  pub start_in : w / 2 ^ 40 % 2 ^ 20 ≡ start
  pub code_in : w / 2 ^ 32 % 2 ^ 8 ≡ code
  pub low_in : w % 2 ^ 32 ≡ low

-- a label, by where its name stands
unfoldable pub label_at : List ℕ → held.Label → Label
label_at src l = record { text = piece src l.start l.length; address = l.address }

-- ---- the state

unfoldable pub items_of : List ℕ → List ℕ → List Item
items_of src words = map (item_at src) words

unfoldable pub labels_of : List ℕ → List held.Label → List Label
labels_of src labels = map (label_at src) labels

abbrev pub awaited_of : Option ℕ → Awaited
awaited_of None = instruction
awaited_of (Some code) = operand_for code

unfoldable pub state_of : List ℕ → List ℕ → FirstPass → Progress
state_of src table p =
    record { items = items_of src (take p.items table); labels = labels_of src (take p.named p.labels); awaited = awaited_of p.awaited }

-- ---- what the functions answer

-- a label that was sought
abbrev pub found_of : Option ℕ → Found
found_of None = nowhere
found_of (Some address) = found_at address

-- an operand that was read
abbrev pub reading_of : List ℕ → Result ℕ TextRefusal → Reading
reading_of src (Ok w) = item (item_at src w)
reading_of src (Err e) = bad e

-- a refusal, with the place of its token
abbrev pub placed : ℕ → Result ⊤ TextRefusal → Result ⊤ Stop
placed at (Ok _) = Ok tt
placed at (Err e) = Err (record { refusal = e; place = at })

-- a token that was judged, with the table and the state as they are then
abbrev pub judged_of : List ℕ → List ℕ → FirstPass → Result ⊤ Stop → Judged
judged_of src table p (Ok _) = go (state_of src table p)
judged_of src table p (Err s) = stop s.refusal s.place

-- all tokens, judged
abbrev pub judged_all : List ℕ → List ℕ → FirstPass → Result ⊤ Stop → Outcome
judged_all src table p (Ok _) = finish (length src) (state_of src table p)
judged_all src table p (Err s) = refused s.refusal s.place

-- an item that was settled, in front of others
abbrev pub settled_of : Result ℕ Stop → Outcome → Outcome
settled_of (Ok w) rest = join w rest
settled_of (Err s) rest = refused s.refusal s.place

-- all items, settled
abbrev pub settled_all : List ℕ → Result ⊤ Stop → Outcome
settled_all words (Ok _) = done words
settled_all words (Err s) = refused s.refusal s.place

-- what a source gave, with the table as it is then
abbrev pub OutcomeIs : List ℕ → Outcome → Result ℕ Stop → Type 0
OutcomeIs table x (Ok n) = (n ≤ max_program) × (x ≡ done (take n table))
OutcomeIs table x (Err s) = x ≡ refused s.refusal s.place
