use Prim.Native.Nat.{ℕ, ◌≤◌, ◌<◌}
use mathlib.Core.Path.{◌≡◌, sym}
use mathlib.Core.Bool.{true}
use mathlib.Core.List.{List}
use native.Mathlib.Omega.{arith}
use lib.ListN.{length, get_or, take}
use Rattle.std.proofs.lemmas.List.{get_or-take}
use Rattle.rules.proofs.Lines.{line_short, listing_none, listing_next}
use Rattle.rules.proofs.Table.{table_short, used_count}
use Rattle.rules.specs.Table.{program, sound_table}
use Rattle.program.specs.Lent.{program_of}
use Rattle.rules.specs.Listing.{line_of}
use Rattle.digits.proofs.Laws.{put_next}
use Rattle.lister.proofs.lines.put_lines.Goals as goal

-- a used place: there are at most 1,024, and its line is short
used : (table : List ℕ) (count i : ℕ) → sound_table (program table count) ≡ true → i < length (take count table)
    → (i < 1024) × (length (line_of (get_or (take count table) i 0)) ≤ 20)
used table count i s l =
    let h : i < count = omega (arith, used_count (program table count) s) in
    (omega (arith, table_short (program table count) s), rw (get_or-take count table i 0 h) (line_short (program table count) s i h))

pub slice_bounds-place-items-end : goal.slice_bounds-place-items-end
slice_bounds-place-items-end c = sym (used_count (program_of c.args.p) c.requires)

pub loop-place-init : goal.loop-place-init
loop-place-init c = record { few = omega arith; written = record { length_told = rw listing_none; written = rw listing_none } }

pub put_line-at-requires : goal.put_line-at-requires
put_line-at-requires c =
    let u = used c.args.p.table.now c.args.p.length c.loop-place.place-index c.requires c.loop-place-test.true in
    (omega arith, u.1)

pub overflow_add-at : goal.overflow_add-at
overflow_add-at c = omega (arith, c.put_line-at.ensures.length_told, used c.args.p.table.now c.args.p.length c.loop-place.place-index c.requires c.loop-place-test.true)

pub loop-place-preserved : goal.loop-place-preserved
loop-place-preserved c =
    let a = c.args in
    let i = c.loop-place.place-index in
    record {
      few = omega (arith, c.put_line-at.ensures.length_told, used a.p.table.now a.p.length i c.requires c.loop-place-test.true);
      written = rw (listing_next (take a.p.length a.p.table.now) i c.loop-place-test.true) (put_next c.loop-place.invariant.written c.put_line-at.ensures);
    }
