-- Daemons at a lock before their first turns.
use Rattle.std.proofs.Common.{◌≡◌, ◌<◌, ℕ, List, sym, subst, arith}
use Rattle.std.specs.Prelude.{All, map}
use Rattle.std.specs.List.{range_with_len}
use Rattle.std.proofs.lemmas.List.FromFn.{length-range_with_len, get_or-range_with_len}
use Rattle.sdr_turn.specs.Seats.{Seated}
use Rattle.sdr_turn.proofs.SeatLemmas.{All-from_map}

-- all seats of a lock have places below their number
pub places_below : {E : Type 0} (seats : List (Seated E)) (count : ℕ) → map (λ s. s.knows.place) seats ≡ range_with_len 0 count → All (λ s. s.knows.place < count) seats
places_below {E} seats count are =
    All-from_map (λ (p : ℕ). p < count) (λ (s : Seated E). s.knows.place) seats (subst (All (λ (p : ℕ). p < count)) (sym are) below)
  where
    below : All (λ (p : ℕ). p < count) (range_with_len 0 count)
    below k d inside =
        let many = length-range_with_len 0 count in
        let here : k < count = omega (arith, inside, many) in
        omega (arith, get_or-range_with_len 0 count k d here, here)
