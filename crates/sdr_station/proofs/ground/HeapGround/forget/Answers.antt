use Rattle.std.proofs.Common.{◌≡◌, ap, subst, sym}
use Rattle.sdr_heap.specs.Noted.{Held}
use Rattle.sdr_image.specs.Opened.{Opened}
use Rattle.sdr_station.proofs.ForgettingLemmas.{ground_unmoved}
use Rattle.sdr_station.specs.Grounded.{Grounded, IsGround, without_moves}
use Rattle.sdr_station.proofs.ground.HeapGround.forget.Goals as goal

pub returns : goal.returns
returns g c =
    let D = g.row.D.Denot in
    let M = g.row.M.Denot in
    let inside = c.self.inside in
    let with_heap : Held (Opened D) → Grounded D M = λ heap. record {
      heap = heap;
      media = inside.media;
      shown = inside.shown;
      stopped = inside.stopped;
      idle = inside.idle;
      moment = inside.moment;
      restored = inside.restored;
    } in
    let now = c.clear_moves.new.self in
    subst (λ (o : Grounded D M). with_heap now ≡ without_moves o now.spare) c.self.view_is (ap with_heap c.clear_moves.ensures.none)

pub invariant_of-self : goal.invariant_of-self
invariant_of-self g c =
    let D = g.row.D.Denot in
    let M = g.row.M.Denot in
    let inside = c.self.inside in
    let m = g.D.Disk.moment in
    let with_heap : Held (Opened D) → Grounded D M = λ heap. record {
      heap = heap;
      media = inside.media;
      shown = inside.shown;
      stopped = inside.stopped;
      idle = inside.idle;
      moment = inside.moment;
      restored = inside.restored;
    } in
    subst (λ (heap : Held (Opened D)). IsGround m (with_heap heap)) (sym c.clear_moves.ensures.none)
    (ground_unmoved m (with_heap inside.heap) c.clear_moves.new.self.spare c.self.invariant)
