use Rattle.std.proofs.Common.{◌≡◌, ◌+◌, ◌≤◌, All, vec_capacity, vec_len}
use Rattle.sdr_turn.specs.Seats.{IsIdleSeat}
use Rattle.sdr_live.specs.AtLock.{IsAtLock}
use Rattle.sdr_live.proofs.threads.gather.Given as goal

-- the seats so far hold no number, and the other daemons are still to be waited for, or are here
abbrev pub invariant-loop-handle : goal.invariant-loop-handle
invariant-loop-handle g l =
    (vec_len l.seats + (vec_len l.started + vec_len l.refused) ≡ vec_len l.fn.room.started + vec_len l.fn.room.refused)
    × (vec_len l.fn.room.started + vec_len l.fn.room.refused ≤ vec_capacity l.seats)
    × All (IsIdleSeat l.lock.id) l.seats.items × All (λ h. h.promise.0.value ≡ l.lock) l.started.items × All (λ d. IsAtLock l.lock g.J.Origin.begins.daemons d.seat d.coming) l.refused.items

abbrev pub decreases-loop-handle : goal.decreases-loop-handle
decreases-loop-handle g l = vec_len l.started

-- the seats so far hold no number, and the other daemons are here
abbrev pub invariant-loop-own : goal.invariant-loop-own
invariant-loop-own g l =
    (vec_len l.seats + vec_len l.refused ≡ vec_len l.fn.room.started + vec_len l.fn.room.refused) × (vec_len l.fn.room.started + vec_len l.fn.room.refused ≤ vec_capacity l.seats)
    × All (IsIdleSeat l.lock.id) l.seats.items × All (λ d. IsAtLock l.lock g.J.Origin.begins.daemons d.seat d.coming) l.refused.items

abbrev pub decreases-loop-own : goal.decreases-loop-own
decreases-loop-own g l = vec_len l.refused
