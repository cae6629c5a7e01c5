use Rattle.std.proofs.Common.{subst, sym}
use Rattle.sdr_run.proofs.HandedLemmas.{stays_opened}
use Rattle.sdr_run.proofs.ReplayingLemmas.{not_run, opened_so}
use Rattle.sdr_run.specs.Opening.{OpenedSo}
use Rattle.sdr_station.specs.Grounded.{Grounded}
use Rattle.sdr_run.proofs.opening.open_handed.Goals as goal

pub new-requires-in-Ok : goal.new-requires-in-Ok
new-requires-in-Ok g c =
    let e = c.in-Ok.ensures in
    stays_opened g.D.Disk g.J.HandedIn.was c.new-held.result c.args.disk c.in-Ok.ground c.requires.handed c.new-held.ensures e.opened e.inside

pub returns-in-Ok-clause-opened : goal.returns-in-Ok-clause-opened
returns-in-Ok-clause-opened g c =
    let D = g.row.D.Denot in
    let M = g.row.M.Denot in
    let d = g.D.Disk in
    let e = c.in-Ok.ensures in
    subst (λ (x : Grounded D M). OpenedSo d c.args.disk c.args.media x) (sym c.new-in-Ok.ensures)
    (opened_so d c.new-held.result c.args.disk c.args.media c.in-Ok.ground c.new-held.ensures e.media e.opened e.disk
    (g.met.D.Disk.read_now c.in-Ok.ground.heap.cells.disk) e.inside e.later e.forward e.quiet e.any_moment)

pub returns-in-Err-clause-shut : goal.returns-in-Err-clause-shut
returns-in-Err-clause-shut g c =
    let d = g.D.Disk in
    let e = c.in-Err.ensures in
    not_run d c.new-held.result c.args.disk c.in-Err.field-0.disk c.into_disk.result c.in-Err.field-0.why c.new-held.ensures
    c.into_disk.ensures.disk
    (record {
      why = e.why;
      keeps = e.disk;
      bytes = e.bytes;
      outside = e.inside;
      quiet = e.quiet;
      again = e.again;
      any_moment = λ settled told. e.any_moment told (settled told);
      later = e.later;
    })
