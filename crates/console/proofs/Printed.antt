-- What is printed: how long it can be, and what it is for each answer of the assembler. Assumes nothing.
use Rattle.std.specs.Prelude.{Ok, Err}
use Prim.Native.Nat.{ℕ, ◌-◌, ◌≤◌}
use mathlib.Core.Path.{◌≡◌}
use mathlib.Core.List.{List, ◌++◌}
use native.Mathlib.Omega.{arith}
use lib.ListN.{length, replicate, length-append}
use Rattle.rules.specs.Sizes.{max_program}
use Rattle.rules.specs.Numbers.{text_number}
use Rattle.rules.specs.Table.{program}
use Rattle.rules.specs.Assemble.{assemble}
use Rattle.rules.specs.Console.{report, console_run, refused_line, printed_for, printed}
use Rattle.rules.specs.Answers.{Assembled}
use Rattle.rules.specs.declared.SourceFault.{SourceFault}
use Rattle.digits.specs.Put.{Put}
use Rattle.digits.proofs.Laws.{put_zeros}
use Rattle.console.specs.Room.{print_room}
use Rattle.console.proofs.Reported.{report_short, refused_short}
use Rattle.console.proofs.ConsoleRun.{console_within}

-- ---- what is printed fits

printed_for_short : (table : List ℕ) (a : Assembled) → length (printed_for table a) ≤ print_room
unfolding printed_for
printed_for_short table (Ok n) =
    let p = program table n in
    report_short (console_run p) (console_within p).sp (console_within p).written
printed_for_short table (Err x) = omega (arith, refused_short (text_number x.refusal) x.position)

pub printed_short : (source : List ℕ) → length (printed source) ≤ print_room
unfolding printed
printed_short source =
    let a = assemble source (replicate max_program 0) in
    printed_for_short a.table a.answer

-- ---- the two answers of the assembler

module _ (source table : List ℕ) (a : Assembled) (et : table ≡ (assemble source (replicate max_program 0)).table) (ea : a ≡ (assemble source (replicate max_program 0)).answer) where
  pub printed_made : (n : ℕ) → a ≡ Ok n → printed source ≡ report (console_run (program table n))
  unfolding printed printed_for
  printed_made n e = rw (← ea, e, et)

  pub printed_fault : (x : SourceFault) → a ≡ Err x → printed source ≡ refused_line (text_number x.refusal) x.position
  unfolding printed printed_for
  printed_fault x e = rw (← ea, e)

-- what is printed stands in front, and zeros after it
pub shown : (source new t : List ℕ) (r : ℕ) → printed source ≡ t → Put (replicate print_room 0) new 0 t r
    → (r ≡ length (printed source)) × (new ≡ printed source ++ replicate (print_room - length (printed source)) 0)
shown source new t r e p =
    let q : Put (replicate print_room 0) new 0 (printed source) r = rw e p in
    (q.length_told, put_zeros {n = print_room} (printed_short source) q)

-- so what is told lies within the lent bytes
pub told_within : (source new : List ℕ) (r : ℕ) → (r ≡ length (printed source)) × (new ≡ printed source ++ replicate (print_room - length (printed source)) 0) → r ≤ length new
told_within source new r p = rw (p.1, length-append) (omega (arith, p.0))
