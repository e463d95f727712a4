-- Document 02, letter m: formulas worked by hand from its words, as one list, and the one statement that each of them is translated, or refused, so; antt computes
-- it. What a formula becomes is told as a source of the assembler, so that its code is compared by the instructions' names. Assumes nothing.
use Rattle.std.specs.Prelude.{ℕ, zero, suc, ◌+◌, ◌-◌, ◌≡◌, refl, Bool, true, false, ◌&&◌, List, [], ◌∷◌, ◌++◌, map, get_or, take, replicate, eqb, ℤ, pos, negsuc}
use Prim.Native.String.{String}
use Rattle.rules.specs.Grammar as Grammar
use Rattle.rules.specs.Evaluate as Evaluate
use Rattle.rules.specs.Translate as Translate
use Rattle.rules.specs.Lists.{text, every, same}
use Rattle.rules.specs.Sizes.{max_program, max_source, name_cells}
use Rattle.rules.specs.Bytes.{space, tab, CR, LF}
use Rattle.rules.specs.Words.{word}
use Rattle.rules.specs.Numbers.{number_of_translated, length_of_translated, depth_of_translated}
use Rattle.rules.specs.Examples.{holds}
use Rattle.rules.specs.Assemble.{Outcome, done, refused, translated}
use Rattle.rules.specs.Grammar.{Parsed, formula, unfit, parse}
use Rattle.rules.specs.Evaluate.{Value, value, no_value, worth}
use Rattle.rules.specs.Translate.{Translation, translate}

-- ---- texts

-- so many times the text
unfoldable pub repeated : ℕ → List ℕ → List ℕ
repeated zero s = []
repeated (suc n) s = s ++ repeated n s

abbrev times : ℕ → String → List ℕ
times n s = repeated n (text s)

-- ---- what is told of a formula

-- a translation that is computed
unfoldable pub computed : List ℕ → List ℕ → Translation
unfolding Grammar.sorted Grammar.digit Grammar.before Grammar.tokens Grammar.number_then Grammar.chain Grammar.operand Grammar.parse Translate.code_for Translate.depth Translate.translate
computed source table = translate source table

-- a table of right length that is not zero before
abbrev lent : List ℕ
lent = replicate max_program 5

-- the number, the length and the depth
abbrev tells : Translation → (number length depth : ℕ) → Bool
tells a number size depth =
    same (number_of_translated a.answer ∷ length_of_translated a.answer ∷ depth_of_translated a.answer ∷ []) (number ∷ size ∷ depth ∷ [])

-- the program of that length is what the source is assembled to
abbrev holds_code : (length : ℕ) → List ℕ → Outcome → Bool
holds_code size table (done ws) = same (take size table) ws
holds_code size table (refused e at) = false

-- "a program ending in STOP", of that length and depth
abbrev becomes : String → String → (length depth : ℕ) → Bool
becomes s code size depth = let a = computed (text s) lent in tells a 0 size depth && holds_code size a.table (translated (text code))

-- a formula of these bytes has a program of that length and depth
abbrev measures : List ℕ → (length depth : ℕ) → Bool
measures s size depth = tells (computed s lent) 0 size depth

-- "a refusal tells zeros"
abbrev refuses : List ℕ → (number : ℕ) → Bool
refuses s number = tells (computed s lent) number 0 0

-- the whole table, after a formula and a table lent to it
abbrev leaves_table : List ℕ → List ℕ → (number : ℕ) → List ℕ → Bool
leaves_table s table number after = let a = computed s table in eqb (number_of_translated a.answer) number && same a.table after

-- one byte too many
abbrev too_long : List ℕ
too_long = replicate (max_source + 1) space

-- ---- what a formula is worth, with these numbers for the first names and 0 for the others

abbrev named : List ℤ → ℕ → ℕ
named zs k = get_or (map word zs ++ replicate name_cells 0) k 0

abbrev is_value : Value → Value → Bool
is_value (value b) (value c) = eqb b c
is_value (value b) no_value = false
is_value no_value (value c) = false
is_value no_value no_value = true

abbrev worth_of : List ℤ → Parsed → Value → Bool
worth_of zs (formula t) v = is_value (worth (named zs) t) v
worth_of zs (unfit e) v = false

abbrev gives : String → List ℤ → ℤ → Bool
gives s zs z = worth_of zs (parse (text s)) (value (word z))

-- "when the formula divides by zero"
abbrev divides : String → List ℤ → Bool
divides s zs = worth_of zs (parse (text s)) no_value

-- ---- the list

unfoldable pub formulas : List Bool
unfolding repeated
formulas =
    -- a number, and a name
    becomes "7" "PUSHIMM 7 STOP" 2 1
    ∷ becomes "a" "PUSHOFF 0 STOP" 2 1
    ∷ becomes "h" "PUSHOFF 7 STOP" 2 1
    -- "* and / before + and -"
    ∷ becomes "2 + 3 * (a - 1)" "PUSHIMM 2 PUSHIMM 3 PUSHOFF 0 PUSHIMM 1 SUB TIMES ADD STOP" 8 4
    ∷ becomes "a*b+c/d" "PUSHOFF 0 PUSHOFF 1 TIMES PUSHOFF 2 PUSHOFF 3 DIV ADD STOP" 8 3
    ∷ becomes "a-b/c" "PUSHOFF 0 PUSHOFF 1 PUSHOFF 2 DIV SUB STOP" 6 3
    ∷ becomes "(a+b)*c" "PUSHOFF 0 PUSHOFF 1 ADD PUSHOFF 2 TIMES STOP" 6 2
    -- "all four grouping to the left"
    ∷ becomes "a-b-c" "PUSHOFF 0 PUSHOFF 1 SUB PUSHOFF 2 SUB STOP" 6 2
    ∷ becomes "a-(b-c)" "PUSHOFF 0 PUSHOFF 1 PUSHOFF 2 SUB SUB STOP" 6 3
    ∷ becomes "a/b*c/d" "PUSHOFF 0 PUSHOFF 1 DIV PUSHOFF 2 TIMES PUSHOFF 3 DIV STOP" 8 2
    ∷ becomes "a+b-c+d" "PUSHOFF 0 PUSHOFF 1 ADD PUSHOFF 2 SUB PUSHOFF 3 ADD STOP" 8 2
    ∷ becomes "a*b-c*d+e" "PUSHOFF 0 PUSHOFF 1 TIMES PUSHOFF 2 PUSHOFF 3 TIMES SUB PUSHOFF 4 ADD STOP" 10 3
    -- "unary minus before them all", "(PUSHIMM -1, TIMES)"; wherever an operand may stand
    ∷ becomes "-a*b" "PUSHOFF 0 PUSHIMM -1 TIMES PUSHOFF 1 TIMES STOP" 6 2
    ∷ becomes "-(a*b)" "PUSHOFF 0 PUSHOFF 1 TIMES PUSHIMM -1 TIMES STOP" 6 2
    ∷ becomes "2*-3" "PUSHIMM 2 PUSHIMM 3 PUSHIMM -1 TIMES TIMES STOP" 6 3
    ∷ becomes "a--b" "PUSHOFF 0 PUSHOFF 1 PUSHIMM -1 TIMES SUB STOP" 6 3
    ∷ becomes "-(a+(b+c))" "PUSHOFF 0 PUSHOFF 1 PUSHOFF 2 ADD ADD PUSHIMM -1 TIMES STOP" 8 3
    ∷ becomes "--a" "PUSHOFF 0 PUSHIMM -1 TIMES PUSHIMM -1 TIMES STOP" 6 2
    -- "spaces are allowed"; leading zeros too, the value counts
    ∷ becomes "  (  a  )  " "PUSHOFF 0 STOP" 2 1
    ∷ becomes "00000000000000000001" "PUSHIMM 1 STOP" 2 1
    ∷ becomes "0" "PUSHIMM 0 STOP" 2 1
    ∷ becomes "2147483647" "PUSHIMM 2147483647 STOP" 2 1
    -- the depth is that of the code as it stands, whether a division stops it earlier or not
    ∷ becomes "1/0+(2+(3+4))" "PUSHIMM 1 PUSHIMM 0 DIV PUSHIMM 2 PUSHIMM 3 PUSHIMM 4 ADD ADD ADD STOP" 10 4
    ∷ becomes "(a+(b+c))-d" "PUSHOFF 0 PUSHOFF 1 PUSHOFF 2 ADD ADD PUSHOFF 3 SUB STOP" 8 3
    -- "Expressions nest up to 16 deep, from 0, unary minus and brackets each adding one", where the sign or bracket stands
    ∷ measures (times 16 "-" ++ text "a") 34 2
    ∷ measures (times 16 "(" ++ text "a" ++ times 16 ")") 2 1
    ∷ measures (times 8 "-(" ++ text "a" ++ times 8 ")") 18 2
    ∷ measures (text "-a" ++ times 19 "+-a") 80 3
    ∷ measures (times 16 "-" ++ text "a-" ++ times 16 "-" ++ text "a") 68 3
    ∷ measures (times 15 "-" ++ text "(a)-(-(a))") 36 3
    ∷ refuses (times 17 "-" ++ text "a") 73
    ∷ refuses (times 17 "(" ++ text "a" ++ times 17 ")") 73
    ∷ refuses (times 16 "(" ++ text "-a" ++ times 16 ")") 73
    ∷ refuses (times 15 "-" ++ text "(-a)") 73
    -- "28 this token's cost, with STOP, passes 1,024": those of all tokens before it among it
    ∷ measures (text "a" ++ times 511 "+a") 1024 2
    ∷ refuses (text "a" ++ times 511 "+a" ++ text "+") 28
    ∷ measures (text "-(1)" ++ times 510 "+a") 1024 2
    ∷ refuses (text "-(1)" ++ times 510 "+a" ++ text "+") 28
    -- "70 forbidden byte"
    ∷ refuses (text "$") 70
    ∷ refuses (text "a$") 70
    ∷ refuses (text "i") 70
    ∷ refuses (text "A") 70
    ∷ refuses (text "a" ++ tab ∷ text "+b") 70
    ∷ refuses (text "a" ++ LF ∷ []) 70
    ∷ refuses (text "a" ++ CR ∷ []) 70
    ∷ refuses (text "`") 70
    ∷ refuses (text ":") 70
    ∷ refuses (text "2.5") 70
    ∷ refuses (text "[a]") 70
    ∷ refuses (text "(a$") 70
    ∷ refuses (0 ∷ []) 70
    ∷ refuses (255 ∷ []) 70
    -- "71 the formula cannot go on or end here"
    ∷ refuses [] 71
    ∷ refuses (text "   ") 71
    ∷ refuses (text "a+") 71
    ∷ refuses (text "-") 71
    ∷ refuses (text "+a") 71
    ∷ refuses (text "*a") 71
    ∷ refuses (text "/a") 71
    ∷ refuses (text "a*/b") 71
    ∷ refuses (text "ab") 71
    ∷ refuses (text "2a") 71
    ∷ refuses (text "a2") 71
    ∷ refuses (text "1 2") 71
    ∷ refuses (text "()") 71
    ∷ refuses (text "(a") 71
    ∷ refuses (text "(a b") 71
    ∷ refuses (text "(a 2") 71
    ∷ refuses (text "(a(b") 71
    ∷ refuses (text "a)") 71
    ∷ refuses (text "(a))") 71
    ∷ refuses (text "a(b)") 71
    -- "72 number too large"
    ∷ refuses (text "2147483648") 72
    ∷ refuses (text "-2147483648") 72
    ∷ refuses (text "99999999999999999999999999") 72
    -- "first from the left"
    ∷ refuses (text "2147483648$") 72
    ∷ refuses (text "+$") 71
    ∷ refuses (text "$+") 70
    ∷ refuses (times 17 "(" ++ text "$") 73
    ∷ refuses (times 16 "(" ++ text "$") 70
    ∷ refuses (text "a" ++ times 510 "+a" ++ text "+-2147483648") 28
    -- "then in this order": 70, 71, 72, 73 and 28, two at one token; 72 and 28 cannot meet where a number may stand
    ∷ refuses (text "a" ++ times 511 "+a" ++ text "$") 70
    ∷ refuses (text "1 2147483648") 71
    ∷ refuses (times 16 "(" ++ text "a(") 71
    ∷ refuses (text "a" ++ times 511 "+a" ++ text "1") 71
    ∷ refuses (times 16 "(" ++ text "a" ++ times 510 "+a" ++ text "+-") 73
    -- "with arithmetic as in document 01"
    ∷ gives "2 + 3 * (a - 1)" (pos 4 ∷ []) (pos 11)
    ∷ gives "a-b*c-d/e+f*(g-h)" (pos 1 ∷ pos 2 ∷ pos 3 ∷ pos 40 ∷ pos 5 ∷ pos 6 ∷ pos 70 ∷ pos 8 ∷ []) (pos 359)
    ∷ gives "a-b-c" (pos 10 ∷ pos 3 ∷ pos 2 ∷ []) (pos 5)
    ∷ gives "a/b*c" (pos 7 ∷ pos 2 ∷ pos 2 ∷ []) (pos 6)
    ∷ gives "2-3" [] (negsuc 0)
    ∷ gives "-7/2" [] (negsuc 2)
    ∷ gives "7/-2" [] (negsuc 2)
    ∷ gives "2147483647+1" [] (negsuc 2147483647)
    ∷ gives "65536*65536" [] (pos 0)
    ∷ gives "(-2147483647-1)/-1" [] (negsuc 2147483647)
    ∷ gives "-a" (negsuc 2147483647 ∷ []) (negsuc 2147483647)
    ∷ gives "a--b" (negsuc 4 ∷ negsuc 6 ∷ []) (negsuc 11)
    ∷ gives "2*-3" [] (negsuc 5)
    -- "it meets 5 exactly when the formula divides by zero", also where the result is not needed
    ∷ gives "0/a" (pos 3 ∷ []) (pos 0)
    ∷ divides "a/b" (pos 3 ∷ [])
    ∷ divides "0/0" []
    ∷ divides "0*(1/0)" []
    ∷ divides "1/0+2" []
    ∷ divides "(1/0)*0" []
    ∷ divides "1/(a-a)" (pos 9 ∷ [])
    ∷ divides "1+-(2/(3/4))" []
    -- "31 comes first", before 21 too; "zeroes a table of right length", and another stays; unused places are zero
    ∷ leaves_table (text "$") (replicate (max_program - 1) 5) 31 (replicate (max_program - 1) 5)
    ∷ leaves_table (text "a") [] 31 []
    ∷ leaves_table too_long [] 31 []
    ∷ leaves_table (text "$") lent 70 (replicate max_program 0)
    ∷ leaves_table (text "2") lent 0 (4294967298 ∷ replicate (max_program - 1) 0)
    ∷ []

pub all_translated : every formulas ≡ true
unfolding formulas repeated holds computed Evaluate.worth
all_translated = refl
