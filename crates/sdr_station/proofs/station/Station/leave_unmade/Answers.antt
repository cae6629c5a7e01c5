use Rattle.std.proofs.Common.{◌∙◌, ap, subst}
use Rattle.sdr_station.specs.Grounded.{Grounded}
use Rattle.sdr_station.specs.Stationed.{IsUnmade, Stationed}
use Rattle.sdr_station.proofs.station.Station.leave_unmade.Goals as goal

pub returns : goal.returns
returns g c =
    let D = g.row.D.Denot in
    let M = g.row.M.Denot in
    let inside = c.self.inside in
    subst (λ (s : Stationed D M). IsUnmade s (record { ground = c.forget.new.self; nesting = inside.nesting; failed = inside.failed })) c.self.view_is
    (ap (λ (ground : Grounded D M). record { ground = ground; nesting = inside.nesting; failed = inside.failed }) c.forget.ensures)

pub invariant_of-self : goal.invariant_of-self
invariant_of-self g c =
    let is = c.self.invariant in
    let left = c.forget.ensures in
    record {
      going = λ sound none. ap (λ (o : Grounded g.row.D.Denot g.row.M.Denot). o.stopped) left ∙ is.going sound none;
      idle = is.idle;
      outside = λ sound zero. ap (λ (o : Grounded g.row.D.Denot g.row.M.Denot). o.idle) left ∙ is.outside sound zero;
      sound = λ sound. ap (λ (o : Grounded g.row.D.Denot g.row.M.Denot). o.heap.cells.failed) left ∙ is.sound sound;
    }
