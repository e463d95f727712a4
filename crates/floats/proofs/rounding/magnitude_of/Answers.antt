-- `floats::rounding::magnitude_of` meets its contract. Assumes nothing.
use lib.Count.{count_leading_zeros}
use Rattle.nearest.proofs.Placed.{leading_some, lower_nearest, upper_nearest}
use Rattle.floats.proofs.rounding.magnitude_of.Goals as goal

pub returns-then-n-u : goal.returns-then-n-u
returns-then-n-u c =
    let a = c.args in
    let p = c.requires in
    let f = c.ranges in
    let n = c.raised-n in
    let u = c.raised-u in (
      c.placed.ensures.1,
      λ s.
          rw (c.placed.ensures.0, c.closest.ensures)
          (lower_nearest a.a a.c (count_leading_zeros 32 a.a) (count_leading_zeros 32 a.c) n.result u.result n.ensures.0 u.ensures.0
          n.ensures.1.0 n.ensures.1.1 u.ensures.1.0 u.ensures.1.1
          (leading_some 31 a.a p.0 f.a.fits) (leading_some 31 a.c p.1 f.c.fits) p.1 f.a.fits s c.if-n-u.true),
    )

pub returns : goal.returns
returns c =
    let a = c.args in
    let p = c.requires in
    let f = c.ranges in
    let n = c.raised-n in
    let u = c.raised-u in (
      c.placed-2.ensures.1,
      λ s.
          rw (c.placed-2.ensures.0, c.closest-2.ensures)
          (upper_nearest a.a a.c (count_leading_zeros 32 a.a) (count_leading_zeros 32 a.c) n.result u.result n.ensures.0 u.ensures.0
          n.ensures.1.0 n.ensures.1.1 u.ensures.1.0 u.ensures.1.1
          (leading_some 31 a.a p.0 f.a.fits) (leading_some 31 a.c p.1 f.c.fits) p.1 f.a.fits s c.if-n-u.false),
    )
