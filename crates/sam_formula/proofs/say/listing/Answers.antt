-- The lines that are told of lie within the bytes that were lent for them. Assumes nothing.
use Rattle.std.proofs.Common.{arith, sym, length-take-le}
use Rattle.sam_formula.proofs.Within.{listed_within}
use Rattle.sam_formula.proofs.say.listing.Goals as goal

pub slice_bounds-lines-end : goal.slice_bounds-lines-end
slice_bounds-lines-end g c =
    omega (arith, c.list.auto.text, c.unwrap_or-told.ensures, listed_within _ _ c.list.result c.list.ensures.0)

pub slice_bounds-write_all-end : goal.slice_bounds-write_all-end
slice_bounds-write_all-end g c =
    sym (length-take-le _ _ (omega (arith, c.list.auto.text, c.unwrap_or-told.ensures, listed_within _ _ c.list.result c.list.ensures.0)))
