use Rattle.std.proofs.Common.{◌≡◌, ◌+◌, ◌≤◌, All, vec_capacity, vec_len}
use Rattle.sdr_live.specs.AtLock.{AreBeforeTurns, IsAtLock}
use Rattle.sdr_live.proofs.threads.start_all.Given as goal

-- the seats that are left are as they were, and the others are of daemons whose threads were started or refused
abbrev pub invariant-loop-seat : goal.invariant-loop-seat
invariant-loop-seat g l =
    AreBeforeTurns l.lock g.J.Origin.begins.daemons l.seats.items l.first.items × (vec_len l.first ≡ vec_len l.seats)
    × (vec_len l.seats + (vec_len l.room.started + vec_len l.room.refused) ≡ vec_len l.initial.seats)
    × (vec_len l.initial.seats ≤ vec_capacity l.room.started) × (vec_len l.initial.seats ≤ vec_capacity l.room.refused) × (vec_capacity l.seats ≡ vec_capacity l.initial.seats)
    × All (λ h. h.promise.0.value ≡ l.lock) l.room.started.items
    × All (λ d. IsAtLock l.lock g.J.Origin.begins.daemons d.seat d.coming) l.room.refused.items

abbrev pub decreases-loop-seat : goal.decreases-loop-seat
decreases-loop-seat g l = vec_len l.seats
