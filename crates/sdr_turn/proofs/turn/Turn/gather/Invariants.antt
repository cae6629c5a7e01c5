use Rattle.std.proofs.Common.{◌≡◌, ◌+◌, ◌++◌, List, All, length, map, sum_by, vec_len}
use Rattle.sdr_turn.specs.Seats.{Seated, IsIdleSeat}
use Rattle.sdr_turn.specs.Views.{told_of}
use Rattle.sdr_turn.specs.Ends.{IsIdleTableSeat}
use Rattle.sdr_turn.proofs.turn.Turn.gather.Given as goal

-- the seats that are left are idle, and what the others know the joined one was told
abbrev pub invariant-loop-seat : goal.invariant-loop-seat
invariant-loop-seat g l =
    (l.whole.me.0.parts + vec_len l.seats ≡ vec_len l.fn.seats) × IsIdleTableSeat l.self.id l.whole.me.0.parts l.whole × All (IsIdleSeat l.self.id) l.seats.items
    × ((joined : List (Seated g.row.V-Entry.Denot))
    × (l.fn.seats.items ≡ l.seats.items ++ joined)
    × (told_of l.whole.me.0 ≡ map (λ s. s.knows) joined)
    × (l.whole.me.0.drawn ≡ sum_by (λ s. length s.knows.numbers) joined))

abbrev pub decreases-loop-seat : goal.decreases-loop-seat
decreases-loop-seat g l = vec_len l.seats
