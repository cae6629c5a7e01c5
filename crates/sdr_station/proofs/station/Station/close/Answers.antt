use Rattle.std.proofs.Common.{◌∙◌, ap, sym, subst}
use Rattle.sdr_machine.specs.Nesting.{closing}
use Rattle.sdr_model.specs.declared.answer.Close.{Close}
use Rattle.sdr_station.proofs.GroundLemmas.{heap_ground}
use Rattle.sdr_station.proofs.StationLemmas.{only_ended_is_kept}
use Rattle.sdr_station.specs.Stationed.{Closes, Stationed}
use Rattle.sdr_station.proofs.station.Station.close.Goals as goal

pub returns-in-Ended : goal.returns-in-Ended
returns-in-Ended g c =
    let D = g.row.D.Denot in
    let M = g.row.M.Denot in
    let h = heap_ground g.D.Disk.bytes g.D.Disk.tells_crashes g.D.Disk.moment g.D.Disk.faults g.D.Disk.may_hold_after g.M.Media in
    subst (λ (k : Close). Closes g.D.Disk.bytes h k c.args.self.now c.keep.new.self c.keep.result)
    (sym c.in-Ended.is ∙ c.closing.ensures ∙ ap (λ (s : Stationed D M). closing s.nesting c.args.event.now) c.self.view_is) c.keep.ensures

pub roll_back-requires-clause-unkept : goal.roll_back-requires-clause-unkept
roll_back-requires-clause-unkept g c = only_ended_is_kept c.closing.result c.in_default.not-Ended

pub returns-in_default : goal.returns-in_default
returns-in_default g c =
    let D = g.row.D.Denot in
    let M = g.row.M.Denot in
    let h = heap_ground g.D.Disk.bytes g.D.Disk.tells_crashes g.D.Disk.moment g.D.Disk.faults g.D.Disk.may_hold_after g.M.Media in
    subst (λ (k : Close). Closes g.D.Disk.bytes h k c.args.self.now c.roll_back.new.self c.roll_back.result)
    (c.closing.ensures ∙ ap (λ (s : Stationed D M). closing s.nesting c.args.event.now) c.self.view_is) c.roll_back.ensures
