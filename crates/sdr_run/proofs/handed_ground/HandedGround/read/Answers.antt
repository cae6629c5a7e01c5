use Rattle.std.proofs.Common.{◌∙◌, arith, ap, false, refl, subst}
use Rattle.std.specs.Prelude.{IfOk}
use Rattle.sdr_base.specs.Causes.{Rose}
use Rattle.sdr_machine.specs.Serving.{Brings, Calls}
use Rattle.sdr_run.proofs.HandedLemmas.{stays_more}
use Rattle.sdr_run.proofs.QuietLemmas.{asks_none, dooms_none}
use Rattle.sdr_run.proofs.SettledLemmas.{if_ok_on, on_err_more, media_left}
use Rattle.sdr_run.specs.Quiet.{StaysQuiet}
use Rattle.sdr_station.specs.Grounded.{Grounded, StandsInMemory}
use Rattle.sdr_run.proofs.handed_ground.HandedGround.read.Goals as goal

pub returns-clause-answered : goal.returns-clause-answered
returns-clause-answered g c =
    let D = g.row.D.Denot in
    let M = g.row.M.Denot in
    subst (λ (o : Grounded D M). IfOk c.serve.result (λ reply. Brings StandsInMemory o c.serve.new.self (Calls (g.M.Media.told o.media) c.args.call.now reply)))
    c.self.view_is c.serve.ensures.memory

pub returns-clause-going : goal.returns-clause-going
returns-clause-going g c =
    if_ok_on c.serve.result _ _ (λ reply stopped. stopped ∙ dooms_none c.args.call.now reply c.requires.reads) c.serve.ensures.stopped

pub returns-clause-untouched : goal.returns-clause-untouched
returns-clause-untouched g c =
    c.serve.ensures.lines c.requires.reads ∙ ap (λ (o : Grounded g.row.D.Denot g.row.M.Denot). o.heap.cells.touched) c.self.view_is ∙ c.requires.untouched

pub returns-clause-cause : goal.returns-clause-cause
returns-clause-cause g c =
    let d = g.D.Disk in
    on_err_more c.serve.result _ (Rose (d.faults c.args.self.now.heap.cells.disk) (d.faults c.serve.new.self.heap.cells.disk))
    (λ fault. subst (λ (o : Grounded g.row.D.Denot g.row.M.Denot). Rose (d.faults o.heap.cells.disk) (d.faults c.serve.new.self.heap.cells.disk)) c.self.view_is fault.cause)
    c.serve.ensures.fault

pub returns-clause-still : goal.returns-clause-still
returns-clause-still g c =
    let D = g.row.D.Denot in
    let M = g.row.M.Denot in
    let e = c.serve.ensures in
    let none = e.lines c.requires.reads ∙ ap (λ (o : Grounded D M). o.heap.cells.touched) c.self.view_is ∙ c.requires.untouched in
    subst (λ (o : Grounded D M). StaysQuiet g.D.Disk o c.serve.new.self) c.self.view_is
    (record {
      reads = e.quiet.reads none;
      later = e.keeps.later;
      frame = e.quiet.frame;
      media = media_left c.serve.result _ _ (λ reply unread. unread (asks_none c.args.call.now reply c.requires.unasked))
          (λ unasked. unasked c.requires.unasked) e.unread e.unasked;
    })

pub invariant_of-self : goal.invariant_of-self
invariant_of-self g c =
    stays_more g.D.Disk.bytes g.D.Disk.tells_crashes g.J.HandedIn.was.bytes c.self.inside.ground c.serve.new.self c.self.invariant c.serve.ensures.inside
