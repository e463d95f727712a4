-- The demands, shown.
pub mod Unique
pub mod Counts
pub mod Runs
pub mod Demand3Good
pub mod Demand3Run
pub mod Demand3Held
pub mod Demand3Reset
pub mod Demand3Load
pub mod Demand3Origin
pub mod Demand3Kept
pub mod Agrees
pub mod Demand3
pub mod KeepsUp
pub mod Whole
pub mod ListingRound
pub mod Listing
pub mod Padding
pub mod Image
-- Request a: place, line and column of a refusal.
pub mod Lines
pub mod Each
pub mod TokenPlaces
pub mod RefusalPlaces
pub mod Refusals
-- Request d: an address that ADD or SUB makes is the exact one.
pub mod Addresses
-- Request f: the dwell that the door board reads.
pub mod Tenths
pub mod Dwells
-- Request g: how many steps can be taken back.
pub mod TakesBack
-- Request j: the depth list that comes with a program.
pub mod Told
pub mod Acceptable
pub mod OnList
pub mod Delivered
-- Request k: a session that is carried to another machine.
pub mod Carried
pub mod GoesOn
-- Request l: the newest kept step that wrote a cell.
pub mod WrittenCells
pub mod Wrote
-- Request m: a formula's program.
pub mod FormulaTables
pub mod FormulaSteps
pub mod FormulaTrees
pub mod Formulas
pub mod FormulaTokens
pub mod FormulaTexts
-- Request n: two machines with histories of different room, and a run with a larger limit.
pub mod LargerLimit
pub mod SideBySide
pub mod Rooms
-- All of them, and those of other crates, each below its sentence.
mod Theorems
