-- `formula::translate` meets its contract: it fills with zeros a table whose length is right. Assumes nothing.
use Rattle.std.proofs.Common.{◌≡◌, ℕ, List, length, ap, ◌∙◌, arith}
use lib.ListN.{replicate}
use Rattle.rules.specs.Sizes.{max_program}
use Rattle.rules.specs.Translate.{translate}
use Rattle.formula.specs.Parts.{blank}
use Rattle.formula.proofs.translate.Goals as goal

zeros : (table filled : List ℕ) → filled ≡ replicate (length table) 0 → length table ≡ max_program → filled ≡ blank
zeros table filled z n = z ∙ ap (λ (n : ℕ). replicate n 0) n

pub returns-then-formula-gt-MAX_SOURCE : goal.returns-then-formula-gt-MAX_SOURCE
unfolding translate
returns-then-formula-gt-MAX_SOURCE c = let z = zeros _ _ (c.fill.ensures.after (λ y e. e)) (omega arith) in grind (arith, z)

pub read_whole-answer-requires : goal.read_whole-answer-requires
read_whole-answer-requires c = zeros _ _ (c.fill.ensures.after (λ y e. e)) (omega arith)

pub returns-then-is_err : goal.returns-then-is_err
unfolding translate
returns-then-is_err c = let z = zeros _ _ (c.fill-then-is_err.ensures.after (λ y e. e)) (omega arith) in grind (arith, z)
