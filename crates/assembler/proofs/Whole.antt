-- Laws of the judgement of all tokens and of what comes after the last. Assumes nothing.
use Rattle.std.proofs.Common.{◌≡◌, ℕ, true, false, List, [], ◌∷◌, length, take, ap, ◌∙◌}
use Rattle.std.specs.Option.{is_some}
use Rattle.rules.specs.Tokens.{Token}
use Rattle.rules.specs.Assemble.{Progress, go, stop, judge_token, refused, settle, finish, after, judge}
use Rattle.rules.specs.declared.TextRefusal.{TextRefusal}
use Rattle.rules.specs.declared.TextRefusal.TheVariants.{OperandMissing}
use Rattle.assembler.specs.declared.held.FirstPass.{FirstPass}
use Rattle.assembler.specs.Held.{items_of, labels_of, state_of}
use Rattle.rules.proofs.Judging.{judge_go}
use Rattle.assembler.proofs.Items.{size_items}
use Rattle.assembler.proofs.Options.{none_is, some_is}

-- one token more, or none
module _ (size : ℕ) (s : Progress) (ts : List Token) where
  pub judge_end : ts ≡ [] → judge size s ts ≡ finish size s
  unfolding judge
  judge_end e = ap (judge size s) e

  pub judge_next : (t : Token) (rest : List Token) (z : Progress) → ts ≡ t ∷ rest → judge_token s t ≡ go z → judge size s ts ≡ judge size z rest
  judge_next t rest z e k = ap (judge size s) e ∙ judge_go size s z t rest k

  pub judge_stop : (t : Token) (rest : List Token) (k : TextRefusal) (at : ℕ) → ts ≡ t ∷ rest → judge_token s t ≡ stop k at → judge size s ts ≡ refused k at
  unfolding judge
  judge_stop t rest k at e h = ap (judge size s) e ∙ ap (after (λ s'. judge size s' rest)) h

-- after the last token
module _ (src table : List ℕ) (p : FirstPass) where
  pub finish_all : is_some p.awaited ≡ false → finish (length src) (state_of src table p) ≡ settle (length (take p.items table)) (labels_of src (take p.named p.labels)) (items_of src (take p.items table))
  unfolding finish state_of
  finish_all h = rw (none_is p.awaited h, size_items)

  pub finish_missing : is_some p.awaited ≡ true → finish (length src) (state_of src table p) ≡ refused OperandMissing (length src)
  unfolding finish state_of
  finish_missing h = rw (some_is p.awaited h).1
