use Rattle.std.proofs.Common.{ap, length, arith}
use Rattle.sdr_image.specs.Opened.{Opened}
use Rattle.sdr_image.proofs.ImageLemmas.{now_long}
use Rattle.sdr_image.proofs.image.ImageCells.read.Goals as goal

pub span-first-requires : goal.span-first-requires
span-first-requires g c =
    let o = c.self.inside in
    let inv = c.self.invariant in
    omega (
      arith,
      c.requires.inside,
      now_long o.frame o.lines (g.D.Disk.bytes o.disk) inv.lines_kept inv.fits,
      ap (λ (v : Opened g.row.D.Denot). length v.bytes) c.self.view_is,
      inv.limits.most_heap,
    )

pub get_all-requires-clause-small : goal.get_all-requires-clause-small
get_all-requires-clause-small g c =
    let o = c.self.inside in
    let inv = c.self.invariant in
    omega (
      arith,
      c.requires.inside,
      now_long o.frame o.lines (g.D.Disk.bytes o.disk) inv.lines_kept inv.fits,
      ap (λ (v : Opened g.row.D.Denot). length v.bytes) c.self.view_is,
      inv.limits.most_heap,
    )

pub get_all-requires-clause-below : goal.get_all-requires-clause-below
get_all-requires-clause-below g c =
    let o = c.self.inside in
    let inv = c.self.invariant in
    omega (
      arith,
      c.requires.inside,
      c.span-first.ensures.ends,
      now_long o.frame o.lines (g.D.Disk.bytes o.disk) inv.lines_kept inv.fits,
      ap (λ (v : Opened g.row.D.Denot). length v.bytes) c.self.view_is,
      ap (λ (v : Opened g.row.D.Denot). v.frame.heap_lines) c.self.view_is,
    )

pub get_one-requires-clause-below : goal.get_one-requires-clause-below
get_one-requires-clause-below g c =
    let o = c.self.inside in
    let inv = c.self.invariant in
    omega (
      arith,
      c.requires.inside,
      now_long o.frame o.lines (g.D.Disk.bytes o.disk) inv.lines_kept inv.fits,
      ap (λ (v : Opened g.row.D.Denot). length v.bytes) c.self.view_is,
      ap (λ (v : Opened g.row.D.Denot). v.frame.heap_lines) c.self.view_is,
    )
