use Rattle.std.proofs.Common.{◌∙◌, ap, refl, subst, Ok, Err, Some, ℕ}
use Rattle.sdr_base.specs.declared.stop.Stop.TheVariants as stops
use Rattle.sdr_station.proofs.GroundLemmas.{heap_ground}
use Rattle.sdr_station.specs.Stationed.{Closes, Stationed}
use Rattle.sdr_station.proofs.StationLemmas.{leaves_unkept, settles_back}
use Rattle.sdr_station.proofs.station.Station.roll_back.Goals as goal

pub returns-in-Ok : goal.returns-in-Ok
returns-in-Ok g c =
    let D = g.row.D.Denot in
    let M = g.row.M.Denot in
    let h = heap_ground g.D.Disk.bytes g.D.Disk.tells_crashes g.D.Disk.moment g.D.Disk.faults g.D.Disk.may_hold_after g.M.Media in
    let close = c.args.close in
    let old : Stationed D M = record { ground = c.self.inside.ground; nesting = c.self.inside.nesting; failed = c.self.inside.failed } in
    let new : Stationed D M = record { ground = c.restore.new.self; nesting = c.none-self-inside.result; failed = c.self.inside.failed } in
    subst (λ (o : Stationed D M). Closes g.D.Disk.bytes h close o new (Ok c.closed_as.result)) c.self.view_is (record {
      closes = record {
        is_told = c.closed_as.ensures;
        memory = settles_back close c.requires.unkept c.in-Ok.ensures.memory;
        settles = settles_back close c.requires.unkept c.in-Ok.ensures.put_back;
        failed = ap (λ (s : Stationed D M). s.failed) c.self.view_is ∙ c.requires.sound;
      };
      nesting = c.none-self-inside.ensures;
      restored = c.in-Ok.ensures.restored;
      media = c.in-Ok.ensures.media;
      disk = record { unkept = λ _. c.in-Ok.ensures.closed; still = c.in-Ok.ensures.still; calls = c.in-Ok.ensures.calls };
      keeps = c.in-Ok.ensures.keeps;
      any_moment = leaves_unkept h close old.ground new.ground c.requires.unkept c.in-Ok.ensures.any_moment;
    })

pub returns-in-Err : goal.returns-in-Err
returns-in-Err g c =
    let D = g.row.D.Denot in
    let M = g.row.M.Denot in
    let h = heap_ground g.D.Disk.bytes g.D.Disk.tells_crashes g.D.Disk.moment g.D.Disk.faults g.D.Disk.may_hold_after g.M.Media in
    let close = c.args.close in
    let old : Stationed D M = record { ground = c.self.inside.ground; nesting = c.self.inside.nesting; failed = c.self.inside.failed } in
    let new : Stationed D M = record { ground = c.restore.new.self; nesting = c.none-self-inside-in-Err.result; failed = Some c.moment.result } in
    subst (λ (o : Stationed D M). Closes g.D.Disk.bytes h close o new (Err stops.DiskFault)) c.self.view_is (record {
      closes = record { is_fault = refl; fault = c.in-Err.ensures.fault; failed = ap (λ (m : ℕ). Some m) c.moment.ensures };
      nesting = c.none-self-inside-in-Err.ensures;
      restored = c.in-Err.ensures.restored;
      media = c.in-Err.ensures.media;
      disk = record { unkept = λ _. c.in-Err.ensures.closed; still = c.in-Err.ensures.still; calls = c.in-Err.ensures.calls };
      keeps = c.in-Err.ensures.keeps;
      any_moment = leaves_unkept h close old.ground new.ground c.requires.unkept c.in-Err.ensures.any_moment;
    })
