use Rattle.std.proofs.Common.{◌∙◌, ap, refl, subst, Ok, Err, Some, ℕ, true≢false}
use Rattle.sdr_base.specs.declared.stop.Stop.TheVariants as stops
use Rattle.sdr_model.specs.declared.answer.Close.TheVariants as closes
use Rattle.sdr_station.proofs.GroundLemmas.{heap_ground}
use Rattle.sdr_station.specs.Stationed.{Closes, Stationed}
use Rattle.sdr_station.specs.declared.station.Closed.TheVariants as closed
use Rattle.sdr_station.proofs.station.Station.keep.Goals as goal

pub returns-in-Ok : goal.returns-in-Ok
returns-in-Ok g c =
    let D = g.row.D.Denot in
    let M = g.row.M.Denot in
    let h = heap_ground g.D.Disk.bytes g.D.Disk.tells_crashes g.D.Disk.moment g.D.Disk.faults g.D.Disk.may_hold_after g.M.Media in
    let old : Stationed D M = record { ground = c.self.inside.ground; nesting = c.self.inside.nesting; failed = c.self.inside.failed } in
    let new : Stationed D M = record { ground = c.save.new.self; nesting = c.none-self-inside.result; failed = c.self.inside.failed } in
    subst (λ (o : Stationed D M). Closes g.D.Disk.bytes h closes.Ended o new (Ok closed.Ended)) c.self.view_is (record {
      closes = record {
        is_told = refl;
        memory = c.in-Ok.ensures.memory;
        settles = c.in-Ok.ensures.kept;
        failed = ap (λ (s : Stationed D M). s.failed) c.self.view_is ∙ c.requires.sound;
      };
      nesting = c.none-self-inside.ensures;
      restored = c.in-Ok.ensures.restored;
      media = c.in-Ok.ensures.media;
      disk = record { unkept = λ unkept. absurd (true≢false unkept); still = c.in-Ok.ensures.still; calls = c.in-Ok.ensures.calls };
      keeps = c.in-Ok.ensures.keeps;
      any_moment = c.in-Ok.ensures.any_moment;
    })

pub returns-in-Err : goal.returns-in-Err
returns-in-Err g c =
    let D = g.row.D.Denot in
    let M = g.row.M.Denot in
    let h = heap_ground g.D.Disk.bytes g.D.Disk.tells_crashes g.D.Disk.moment g.D.Disk.faults g.D.Disk.may_hold_after g.M.Media in
    let old : Stationed D M = record { ground = c.self.inside.ground; nesting = c.self.inside.nesting; failed = c.self.inside.failed } in
    let new : Stationed D M = record { ground = c.save.new.self; nesting = c.none-self-inside-in-Err.result; failed = Some c.moment.result } in
    subst (λ (o : Stationed D M). Closes g.D.Disk.bytes h closes.Ended o new (Err stops.DiskFault)) c.self.view_is (record {
      closes = record { is_fault = refl; fault = c.in-Err.ensures.fault; failed = ap (λ (m : ℕ). Some m) c.moment.ensures };
      nesting = c.none-self-inside-in-Err.ensures;
      restored = c.in-Err.ensures.restored;
      media = c.in-Err.ensures.media;
      disk = record { unkept = λ unkept. absurd (true≢false unkept); still = c.in-Err.ensures.still; calls = c.in-Err.ensures.calls };
      keeps = c.in-Err.ensures.keeps;
      any_moment = c.in-Err.ensures.any_moment;
    })
