use Rattle.std.proofs.Common.{refl, arith}
use Rattle.sdr_disk.proofs.MomentsLemmas.{Reads-refl}
use Rattle.sdr_disk.proofs.RangesLemmas.{Agrees-refl}
use Rattle.sdr_image.specs.Lines.{begun_of}
use Rattle.sdr_image.proofs.RestedLemmas.{unmoved_begun}
use Rattle.sdr_image.proofs.spilling.make_room.Goals as goal

pub returns-then-len-lt-MOST_BUFFERED-clause-steps :
    goal.returns-then-len-lt-MOST_BUFFERED-clause-steps
returns-then-len-lt-MOST_BUFFERED-clause-steps g c =
    let d = g.D.Disk in
    let a = c.args in
    let x = d.bytes a.disk.now in
    record {
      keeps = record { size = refl; tells = refl };
      inside = Agrees-refl _ x;
      forward = omega arith;
      lines = c.requires.kept;
      kept = omega arith;
      reads = λ none. Reads-refl d.bytes d.tells_crashes d.moment d.may_hold_after a.disk.now;
      any_moment = λ told keeps.
          unmoved_begun a.frame (begun_of x) a.lines.now x c.requires.stands c.requires.kept d.moment d.may_hold_after
          a.disk.now keeps;
    }
