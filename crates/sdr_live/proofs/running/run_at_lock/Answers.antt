use Rattle.std.proofs.Common.{◌<◌, subst}
use Rattle.std.specs.Prelude.{All}
use Rattle.sdr_model.specs.declared.journal.Entry.{Entry}
use Rattle.sdr_turn.specs.Seats.{Seated}
use Rattle.sdr_live.proofs.AtLockLemmas.{places_below}
use Rattle.sdr_live.proofs.running.run_at_lock.Goals as goal

pub take_turns_in_threads-seats-requires-clause-before : goal.take_turns_in_threads-seats-requires-clause-before
take_turns_in_threads-seats-requires-clause-before g c κs within =
    let seats = c.in-Ok.made.1.items in record {
      new = c.in-Ok.ensures.seats;
      places = subst (λ n. All (λ (s : Seated Entry). s.knows.place < n) seats) c.places-places.ensures.daemons (places_below seats c.places-places.result c.in-Ok.ensures.places);
      stay = c.first_of_all.ensures.stay;
    }
