-- A refusal that is told with the place of its token. Assumes nothing.
use Rattle.std.proofs.Common.{◌≡◌, ℕ, Result, Ok, Err, sym, ap, ◌∙◌}
use Rattle.std.specs.Bool.{⊤}
use Rattle.std.specs.Result.{MatchResult, IsErrAnd}
use Rattle.std.proofs.lemmas.Result.{err_from_is_err_and}
use Rattle.rules.specs.declared.TextRefusal.{TextRefusal}
use Rattle.assembler.specs.declared.held.Stop.{Stop}
use Rattle.assembler.specs.Held.{placed}

-- what `map_err` makes of an answer
pub placed_is : (at : ℕ) (r : Result ⊤ TextRefusal) (m : Result ⊤ Stop) (P : TextRefusal → Stop → Type 0)
    → ((e : TextRefusal) (s : Stop) → P e s → s ≡ record { refusal = e; place = at })
    → MatchResult r (λ x. m ≡ Ok x) (λ e. IsErrAnd m (P e)) → placed at r ≡ m
placed_is at (Ok x) m P h k = sym k
placed_is at (Err e) m P h k =
    let s = err_from_is_err_and m k in
    sym (s.1 ∙ ap Err (h e s.0 s.2))
