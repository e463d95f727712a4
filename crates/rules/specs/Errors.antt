-- Document 01, "Errors we have seen", and the wrong machines of "How far a promise reaches": what the machine does where one of them would do otherwise,
-- worked by hand, as one list, and the one statement that each holds; antt computes it. Assumes nothing.
use Rattle.std.specs.Prelude.{◌≡◌, refl, true, List, [], ◌∷◌, negsuc}
use Rattle.rules.specs.Tags.{int, ma, pa}
use Rattle.rules.specs.Words.{word}
use Rattle.rules.specs.Examples.{Check, gives, done, refused, restores, holds, hold}

unfoldable pub errors : List Check
errors =
    -- "Restoring bits without tag."; "a step-back that reports success and does nothing, or restores bits only": a SWAP of INT 5 and MA 0, taken back
    restores 16 7 "PUSHIMM 5 PUSHFBR SWAP" 0 (int 5)
    ∷ restores 16 7 "PUSHIMM 5 PUSHFBR SWAP" 1 (ma 0)
    -- "CMP with GREATER's sign."
    ∷ gives 16 "PUSHIMM 4 PUSHIMM 6 CMP" (int 1)
    ∷ gives 16 "PUSHIMM 6 PUSHIMM 6 CMP" (int 0)
    ∷ gives 16 "PUSHIMM 7 PUSHIMM -7 CMP" (int (word (negsuc 0)))
    -- "Reading BITNAND as logic."
    ∷ gives 16 "PUSHIMM 1 PUSHIMM 1 BITNAND" (int (word (negsuc 1)))
    -- "Letting SP reach N."
    ∷ done 3 "PUSHIMM 1 LINK" 2
    ∷ refused 2 0 "PUSHIMM 1 LINK" 1 7
    ∷ refused 1 0 "JSR 1" 0 7
    -- "Taking JSRIND's address above the top.": it pops its PA first, and pushes PC+1 in its place
    ∷ done 16 "PUSHIMMPA 2 JSRIND" 1
    ∷ gives 16 "PUSHIMMPA 2 JSRIND" (pa 2)
    ∷ refused 16 0 "PUSHIMM 2 JSRIND" 1 4
    -- "a machine that refuses everything, one with a constant answer"
    ∷ done 16 "PUSHIMM 1 PUSHIMM 2 PUSHIMM 3" 3
    -- "a run that works in its first step and only advances its count later, and a made-up step count"
    ∷ gives 16 "PUSHIMM 1 PUSHIMM 2 ADD PUSHIMM 4 ADD" (int 7)
    ∷ refused 16 0 "PUSHIMM 1 ADD" 1 3
    ∷ []

pub no_errors : hold errors ≡ true
unfolding errors holds hold
no_errors = refl
