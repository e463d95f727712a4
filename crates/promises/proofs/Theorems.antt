-- The end theorems: each line names those that show the sentence above it, and is refused where one of them is gone. What a theorem says stands with it, in
-- the file that the line names, over the definitions that the contracts of the calls cite. Assumes nothing.

-- ---- "For each input, refusals included, it determines the answer and the final bytes of every lent slice; that no second outcome satisfies it is proved"

-- of a contract that is an equation, or two
pub use Rattle.promises.proofs.Unique.{only, only_both}
-- of `next_token`, whose contract is a relation
pub use Rattle.tokens.proofs.Unique.{next_unique}
-- ---- Demand 2: "Assembling, listing, packing, unpacking, limited runs and every single step equal the published SaM 2 design as the rules condense it: numbers, tags, registers and refusals."

-- "The twelve P examples are proved against the definitions by a single statement over a single list"
pub use Rattle.rules.specs.Examples.{twelve}
-- "Errors we have seen", and the machines that demand 2 shuts out
pub use Rattle.rules.specs.Errors.{no_errors}
-- "the sum, difference and product are taken modulo 2^32"
pub use Rattle.word.proofs.Natural.{sum_modulo, difference_modulo, times_natural}
-- "DIV rounds toward zero; MOD has the dividend's sign": quotient and remainder make the dividend again, and what is left is smaller than the divisor
pub use Rattle.word.proofs.Natural.{divides_natural, divides_back, remainder_sign, remainder_small}
-- "−2^31 by −1 gives −2^31 and 0"
pub use Rattle.word.proofs.Natural.{lowest_quotient, lowest_remainder}
-- "BITNAND is BITAND then BITNOT; BITNOR likewise.": each bit by itself
pub use Rattle.word.proofs.Bitwise.{bit_and_bits, bit_or_bits, bit_xor_bits, bit_nand_bits, bit_nor_bits, bit_not_bits}
-- "each is rounded once, to binary32 (IEEE 754, nearest, ties to even)", to the one value that is nearest
pub use Rattle.nearest.proofs.Cells.{sum_rounded, difference_rounded, product_rounded, quotient_rounded}
pub use Rattle.nearest.proofs.Unique.{round_rounded, one_nearest}
-- a quotient by zero: an infinity, and "A NaN result is #7FC00000."
pub use Rattle.nearest.proofs.Cells.{quotient_by_zero, zero_by_zero}
-- "nearness and order are judged by cross products of whole numbers": CMPF goes by the exact values
pub use Rattle.nearest.proofs.Cells.{order_exact}
-- "Width facts on bit fields are shown once for any width.": a field, fields side by side, and the fields of a place
pub use Rattle.rules.proofs.Fields.{field_split, value_field}
pub use Rattle.rules.proofs.Layouts.{side_read, side_value}
pub use Rattle.rules.proofs.Places.{field_is}
-- "a run that works in its first step and only advances its count later, and a made-up step count" are shut out
pub use Rattle.promises.proofs.Runs.{run_is_its_steps}
-- "A listing assembles to its table again"
pub use Rattle.promises.proofs.Listing.{listing_assembles}
-- "and a packed image unpacks to its table again."
pub use Rattle.promises.proofs.Image.{image_unpacks}
-- ---- Demand 3, as requests i and k have it: "Cells, tags, registers other than H, U and the kept number, and output equal that run's .. the first U places are exactly the newest S minus B minus F records of that run"

pub use Rattle.promises.proofs.Demand3.{demand3}
-- "Demand 3's fresh run is now made with room for all its records": it does what a step does wherever there is room, and a machine with that room keeps up with it
pub use Rattle.promises.proofs.Agrees.{agrees}
pub use Rattle.promises.proofs.KeepsUp.{keeps_up}
-- where nothing is forgotten: "registers, cells, tags and history equal those of a fresh reset of the same sizes followed by S minus B steps under demand 2."
pub use Rattle.promises.proofs.Whole.{demand3_whole, demand3_fresh}
-- "a fresh reset of the same sizes": resets of memories of the same sizes leave the same; and the premise is met by every sound table and all sizes within "Sizes"
pub use Rattle.promises.proofs.Demand3Reset.{reset_sized, reset_ready}
-- "Step-back restores them, sets HALT 0 and zeroes the freed places": it undoes the step before it
pub use Rattle.rules.proofs.Inverse.{inverse}
-- ---- Request a: "Every assembler refusal gives line and column besides, both from 1; a column counts bytes since the last LF."

pub use Rattle.promises.proofs.Refusals.{refusal_placed}
pub use Rattle.promises.proofs.Lines.{one_position}
pub use Rattle.rules.specs.Faults.{told}
-- ---- Request b: "EQUAL of two FLOATs shall follow IEEE 754 comparison: both zeros equal, a NaN equal to nothing. ISNIL of a FLOAT is 1 for both zeros."

pub use Rattle.nearest.proofs.Cells.{equal_exact}
pub use Rattle.nearest.proofs.Equal.{equal_by_bits, nil_by_bits}
pub use Rattle.rules.specs.Equalities.{all_equalities}
-- ---- Request d: "ADD and SUB on MA and INT shall be refused when the exact result .. is not within −2^31 to 2^31−1."

pub use Rattle.promises.proofs.Addresses.{add_exact, sub_exact}
pub use Rattle.rules.specs.Sums.{all_sums}
-- ---- Request e: "It is read as the binary32 nearest the exact decimal, ties to even. .. ITOF (code 50) rounds an INT the same way. FTOI (code 51) cuts toward zero."

-- "Nearest rounding is shown once for both uses."
pub use Rattle.nearest.proofs.Conversions.{nearest_rounded, decimal_rounded, int_rounded, cut_exact}
pub use Rattle.rules.specs.Conversions.{all_conversions, all_told_lem}
-- ---- Request f: "INT is tenths of a second; FLOAT is seconds, taken as the largest whole tenth not above the exact ten times that number. The result is held between 10 and 300 tenths"

pub use Rattle.promises.proofs.Tenths.{tenths_largest}
pub use Rattle.promises.proofs.Dwells.{dwell_held}
-- "a technician tries one, then steps it back": the board reads what a fresh run leaves, and a trial that is taken back leaves it alone
pub use Rattle.promises.proofs.Dwells.{dwell_afresh, dwell_taken_back, trial_taken_back}
pub use Rattle.rules.specs.Doors.{all_read_lem}
-- ---- Request g: "How many steps can I take back?" `demand3` has the kept number, and so many step-backs are accepted

pub use Rattle.promises.proofs.TakesBack.{takes_back}
pub use Rattle.rules.specs.KeptNumbers.{all_kept}
-- ---- Request h: "Demand 3 now includes output bytes and their count.": `demand3` and `inverse` have them, among the memory and the registers

pub use Rattle.rules.specs.Characters.{all_characters}
-- ---- Request i: "Add a call that forgets the k oldest kept steps, moves the rest down, and zeroes the room gained": `demand3`, `takes_back` and `trial_taken_back` have it

pub use Rattle.rules.specs.Forgets.{all_forgettings}
-- "the records in use" are what request g counts by their step places
pub use Rattle.rules.proofs.Records.{steps_cut}
-- ---- Request j: "Accept exactly if place 0 has depth 0, every place with a depth has enough values for its instruction, its depth after is below N, and each place that may follow has that same depth."

pub use Rattle.promises.proofs.Acceptable.{accepted_acceptable, acceptable_accepted}
-- "65 a forbidden instruction, 66 a failed depth rule, both with their first place"
pub use Rattle.promises.proofs.Acceptable.{first_forbidden, first_failing_lem, failing_start}
-- what an instruction needs, where SP is after it and what may follow, by its row: so an accepted step has it, of every instruction that is not forbidden
pub use Rattle.promises.proofs.Told.{step_told}
-- "From a reset, no run of an accepted program meets 2, 3 or 7. Each place such a run reaches has SP as its listed depth."
pub use Rattle.promises.proofs.Delivered.{as_listed}
pub use Rattle.rules.specs.Deliveries.{all_judged}
-- ---- Request k: "demand 3 from then on reads "the latest reset or load", a fresh load in place of a fresh reset": `demand3` has it, over an origin that is either

pub use Rattle.promises.proofs.Demand3Origin.{origin_begins}
-- and where nothing is forgotten, everything equals a fresh load of the same sizes and the steps that are left
pub use Rattle.promises.proofs.Whole.{demand3_loaded}
pub use Rattle.promises.proofs.Demand3Load.{load_sized}
-- "Saving and loading again keeps cells, tags, written output and registers, except that U and the kept number become 0 and H is the lent history's."
pub use Rattle.promises.proofs.Carried.{carried_over}
-- "only with the same one does the saved session go on": step by step as the first does, until one of them has no room in its history
pub use Rattle.promises.proofs.GoesOn.{goes_on_lem, whole_output, session_goes_on}
pub use Rattle.rules.specs.Carryings.{all_carried}
-- ---- Request l: "Under demand 3's premise the named step did write that cell and no later kept one did."

pub use Rattle.promises.proofs.Wrote.{explained}
pub use Rattle.rules.specs.Questions.{all_answered}
-- ---- Request m: "a plain run leaves the formula's number on top and all eight cells as they were, with arithmetic as in document 01; it meets 5 exactly when the formula divides by zero. .. The depth told with it is the most values it ever holds above the SP it began with."

pub use Rattle.promises.proofs.Formulas.{worked_out}
-- "with * and / before + and -, all four grouping to the left, unary minus before them all": a tree, written with brackets only where these words need them, is translated to the code of that tree
pub use Rattle.promises.proofs.FormulaTexts.{every_tree_translated}
pub use Rattle.rules.specs.Translations.{all_translated}
-- ---- Request n: "two sessions of steps with the same program, N, output length and start (a reset or one saved state), and any two history rooms, make the same cells, tags, output, PC, SP, FBR and HALT for as many steps as both accept, and .. their answers differ first only by an 8."

-- and "Where a run ended with 0 or a step's refusal, any larger limit in range gives the same answer, step count and final state."
pub use Rattle.promises.proofs.Rooms.{more_room}
pub use Rattle.promises.specs.Evenings.{all_evenings, same_held, same_taken_back, starts, three_alike, same_run, same_broken}
