-- Document 02, letter a: sources that are refused, worked by hand from its words, as one list, and the one statement that each is told so; antt
-- computes it. Assumes nothing.
use Rattle.std.specs.Prelude.{ℕ, ◌≡◌, refl, Bool, true, ◌&&◌, List, [], ◌∷◌, ◌++◌, replicate, eqb}
use Rattle.rules.specs.Lists as Lists
use Rattle.rules.specs.Instructions as Instructions
use Rattle.rules.specs.Bytes as Bytes
use Rattle.rules.specs.Tokens as Tokens
use Rattle.rules.specs.Operands as Operands
use Rattle.rules.specs.Positions as Positions
use Rattle.rules.specs.Assemble as Assemble
use Rattle.rules.specs.Lists.{text}
use Rattle.rules.specs.Sizes.{max_program}
use Rattle.rules.specs.Bytes.{CR, LF}
use Rattle.rules.specs.Numbers.{number_of_assembled, position_of_assembled}
use Rattle.rules.specs.Assemble.{assemble}
use Rattle.rules.specs.declared.Position.{Position}
use Rattle.rules.specs.Answers.{Assembled}

-- a source, the number that refuses it, and where
pub record Refusal : Type 0 where
  pub source : List ℕ
  pub number : ℕ
  pub position : Position

abbrev pub refusal : List ℕ → ℕ → (place line column : ℕ) → Refusal
refusal source number place line column =
    record { source = source; number = number; position = record { place = place; line = line; column = column } }

unfoldable pub refusals : List Refusal
refusals =
    -- an operand missing at the end is at the source's end, behind its last LF
    refusal (text "PUSHIMM") 24 7 1 8
    ∷ refusal (text "PUSHIMM" ++ LF ∷ []) 24 8 2 1
    -- one of wrong form is at its first byte; a colon against it makes it one
    ∷ refusal (text "PUSHIMM ADD") 33 8 1 9
    ∷ refusal (text "PUSHIMM 5:") 33 8 1 9
    ∷ refusal (text "STOP" ++ LF ∷ text "JUMP 1:") 33 10 2 6
    -- bits have no minus, and the form is judged before the digits are counted
    ∷ refusal (text "PUSHIMMF -#40200000") 33 9 1 10
    ∷ refusal (text "PUSHIMM 1234567890123x") 33 8 1 9
    ∷ refusal (text "PUSHIMM 1234567890123") 25 8 1 9
    -- a forbidden byte is at itself
    ∷ refusal (text "ADD" ++ LF ∷ text "ST*P") 22 6 2 3
    -- CR is a byte of its line, and an LF that ends a comment counts
    ∷ refusal (text "// door" ++ CR ∷ LF ∷ text "  LOOP") 23 11 2 3
    -- what is found after the last token is at its own line
    ∷ refusal (LF ∷ text "JUMP OUT" ++ LF ∷ text "STOP") 27 6 2 6
    ∷ []

abbrev pub same_position : Position → Position → Bool
same_position p q = eqb p.place q.place && eqb p.line q.line && eqb p.column q.column

abbrev pub tells : Assembled → Refusal → Bool
tells a r = eqb (number_of_assembled a) r.number && same_position (position_of_assembled a) r.position

unfoldable pub all_told : List Refusal → Bool
unfolding Lists.text Lists.all Lists.same Instructions.rows Instructions.row_of Instructions.kind_of Instructions.action_of Instructions.names Instructions.name_of Bytes.blank Bytes.letter Bytes.word_byte Bytes.allowed Bytes.all_word Bytes.is_word Tokens.opens Tokens.stops Tokens.last Tokens.extend Tokens.tokens Tokens.comment Operands.digit_of Operands.all_digits Operands.numeral Operands.is_numeral Operands.signs Operands.negated Operands.ranged Operands.number_of Operands.pattern_of Operands.before_point Operands.after_point Operands.is_decimal Operands.nearest_decimal Operands.digits_in Operands.decimal_of Operands.float_of Assemble.place_in Assemble.code_named Assemble.allowed_run Assemble.body Assemble.is_label Assemble.lookup Assemble.target_label Assemble.new_label Assemble.new_name Assemble.judge_token Assemble.settle Assemble.finish Assemble.judge Assemble.translated Assemble.assemble Positions.line_feeds Positions.since_lf Positions.position_of
all_told [] = true
all_told (r ∷ rs) = tells (assemble r.source (replicate max_program 0)).answer r && all_told rs

pub told : all_told refusals ≡ true
unfolding refusals all_told
told = refl
