use Rattle.std.proofs.Common.{◌≡◌, ◌-◌, ◌<◌, ◌≤◌, All, map, vec_len, vec_capacity}
use Rattle.std.specs.List.{range_with_len}
use Rattle.sdr_turn.specs.Seats.{IsNewSeat}
use Rattle.sdr_turn.specs.Ends.{IsNewTableSeat}
use Rattle.sdr_turn.proofs.turn.Turn.deal.Given as goal

-- the places below this one have their seats, and the first has the others
abbrev pub invariant-loop-place : goal.invariant-loop-place
invariant-loop-place g l =
    IsNewTableSeat l.self.id l.place (l.seats - l.place) l.first × (l.place < l.seats) × (vec_len l.row ≡ l.place) × (l.seats ≤ vec_capacity l.row) × All (IsNewSeat l.self.id) l.row.items
    × (map (λ s. s.knows.place) l.row.items ≡ range_with_len 0 l.place)

abbrev pub decreases-loop-place : goal.decreases-loop-place
decreases-loop-place g l = l.seats - l.place
