use Rattle.std.proofs.Common.{◌≡◌, ◌≤◌, ◌∙◌, ap, arith, subst, sym}
use Rattle.sdr_base.specs.Causes.{Rose}
use Rattle.sdr_disk.specs.Moments.{Reads}
use Rattle.run_load.proofs.loading.sum_up.Goals as goal

pub returns-clause-holds : goal.returns-clause-holds
returns-clause-holds g c = c.end_of-end.ensures.holds c.into_parts-disk.ensures.holds

pub returns-clause-cause : goal.returns-clause-cause
returns-clause-cause g c is =
    let d = g.D.Disk in
    subst (λ (x : g.row.D.Denot). Rose (d.faults c.args.ran.base.heap.cells.disk) (d.faults x)) (sym c.into_parts-disk.ensures.disk) (c.end_of-end.ensures.cause is)

pub returns-clause-reads : goal.returns-clause-reads
returns-clause-reads g c =
    let d = g.D.Disk in
    subst (λ (x : g.row.D.Denot). Reads d.bytes d.tells_crashes d.moment d.may_hold_after c.args.ran.base.heap.cells.disk x) (sym c.into_parts-disk.ensures.disk)
    c.end_of-end.ensures.still.reads

pub returns-clause-later : goal.returns-clause-later
returns-clause-later g c =
    let d = g.D.Disk in
    subst (λ (x : g.row.D.Denot). d.faults c.args.ran.base.heap.cells.disk ≤ d.faults x) (sym c.into_parts-disk.ensures.disk) c.end_of-end.ensures.still.later
