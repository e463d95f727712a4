-- The names: what their bytes are, and that each is its own code's. Computed from the table. Assumes nothing.
use Prim.Native.Nat.{ℕ, ◌<◌}
use mathlib.Core.Path.{◌≡◌, refl}
use mathlib.Core.Bool.{Bool, true, false, not, ◌&&◌}
use mathlib.Core.List.{List}
use lib.Dec.{eqb, ltb}
use lib.ListN.{length}
use borrow.Author.Tests.{eqb-true, ltb-true, not-true}
use Rattle.rules.specs.Lists.{text, same}
use Rattle.rules.specs.Bytes.{blank, letter, word_byte, allowed, all_word, is_word}
use Rattle.rules.specs.Instructions.{rows, codes, names, name_of}
use Rattle.rules.specs.Assemble.{allowed_run, body, is_label, place_in, code_named}
use Rattle.rules.proofs.Tests.{and_left, and_right, below, at_below}
use Rattle.rules.proofs.Tokens.{plain, all_plain}

-- a text that is one token, of allowed bytes
pub record Wordlike (t : List ℕ) : Type 0 where
  pub plainly : all_plain t ≡ true
  pub run : allowed_run t ≡ length t
  pub some : 0 < length t

name_right : ℕ → Bool
name_right c =
    all_plain (name_of c)
    && (eqb (allowed_run (name_of c)) (length (name_of c))
    && (ltb 0 (length (name_of c)) && (not (is_label (name_of c)) && eqb (code_named (name_of c)) c)))

names_right : below name_right codes ≡ true
unfolding name_right all_plain plain blank allowed_run allowed word_byte letter is_label is_word all_word body code_named place_in same name_of names rows text
names_right = refl

module _ (c : ℕ) (h : c < codes) where
  abbrev t : List ℕ
  t = name_of c

  abbrev last2 : Bool
  last2 = not (is_label t) && eqb (code_named t) c

  abbrev last3 : Bool
  last3 = ltb 0 (length t) && last2

  abbrev last4 : Bool
  last4 = eqb (allowed_run t) (length t) && last3

  right : (all_plain t && last4) ≡ true
  unfolding name_right
  right = at_below name_right codes names_right c h

  right4 : last4 ≡ true
  right4 = and_right (all_plain t) last4 right

  right3 : last3 ≡ true
  right3 = and_right (eqb (allowed_run t) (length t)) last3 right4

  right2 : last2 ≡ true
  right2 = and_right (ltb 0 (length t)) last2 right3

  -- a name is one token
  pub name_wordlike : Wordlike (name_of c)
  name_wordlike =
      record {
        plainly = and_left (all_plain t) last4 right;
        run = eqb-true (allowed_run t) (length t) (and_left (eqb (allowed_run t) (length t)) last3 right4);
        some = ltb-true 0 (length t) (and_left (ltb 0 (length t)) last2 right3);
      }

  -- and no label
  pub name_no_label : is_label (name_of c) ≡ false
  name_no_label = not-true (is_label t) (and_left (not (is_label t)) (eqb (code_named t) c) right2)

  -- and its code's own
  pub code_named_lem : code_named (name_of c) ≡ c
  code_named_lem = eqb-true (code_named t) c (and_right (not (is_label t)) (eqb (code_named t) c) right2)
