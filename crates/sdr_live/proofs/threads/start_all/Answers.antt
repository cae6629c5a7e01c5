use Rattle.std.proofs.Common.{◌≡◌, ◌∙◌, ◌<◌, false, sym, subst, arith}
use Rattle.std.specs.Prelude.{All, length}
use Rattle.std.proofs.lemmas.List.Elements.{All-pop, All-push}
use Rattle.sdr_model.specs.declared.journal.Entry.{Entry}
use Rattle.sdr_turn.specs.Seats.{Seated, IsNewSeat}
use Rattle.sdr_live.specs.AtLock.{IsAtLock}
use Rattle.sdr_daemon.specs.Coming.{is_over}
use Rattle.sdr_live.specs.declared.at_lock.SeatedDaemon.{SeatedDaemon}
use Rattle.sdr_daemon.specs.declared.coming.Coming.{Coming}
use Rattle.sdr_live.proofs.threads.start_all.Goals as goal

pub loop-seat-preserved : goal.loop-seat-preserved
loop-seat-preserved g c =
    let i = c.loop-seat.invariant in
    let daemons = g.J.Origin.begins.daemons in
    let lock = c.args.lock.now in
    let seats = c.loop-seat.seats.items in
    let rest = c.pop.new.self.items in
    let is_new = IsNewSeat {E = Entry} lock.id in
    let has_place = λ (s : Seated Entry). s.knows.place < length daemons in
    let stays = λ (x : Coming). is_over x ≡ false in
    let at_lock = λ (d : SeatedDaemon g.row.T.Denot g.row.J.Denot g.row.S.Denot g.row.B.Denot). IsAtLock lock daemons d.seat d.coming in
    let push = c.push_reserved-in-Err.ensures in (
      record {
        new = (All-pop is_new seats rest c.pop.result c.pop.ensures.items i.0.new).0;
        places = (All-pop has_place seats rest c.pop.result c.pop.ensures.items i.0.places).0;
        stay = (All-pop stays c.loop-seat.first.items c.pop-in-Some.new.self.items c.pop-in-Some.result c.pop-in-Some.ensures.items i.0.stay).0;
      },
      omega (arith, i.1, c.in-Some.ensures.cases, c.in-Some-pop.ensures.cases),
      omega (arith, i.2, c.in-Some.ensures.cases, push.len),
      i.3,
      omega (arith, i.4, push.capacity),
      c.pop.ensures.capacity ∙ i.5,
      i.6,
      subst (All at_lock) (sym push.items) (All-push at_lock c.loop-seat.room.refused.items c.in-Err.own i.7 c.in-Err.ensures.err),
    )
