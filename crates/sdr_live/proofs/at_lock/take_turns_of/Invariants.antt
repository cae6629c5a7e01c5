use Rattle.std.proofs.Common.{◌≡◌, All, length}
use Rattle.sdr_live.specs.AtLock.{IsAtLock}
use Rattle.sdr_live.proofs.at_lock.take_turns_of.Given as goal

-- all these daemons are at the lock
abbrev pub invariant-loop : goal.invariant-loop
invariant-loop g l =
    (goal.iterator-loop g).can_next l.iterator' × (goal.iterator-loop g).is_finite l.iterator' × All (λ d. IsAtLock l.lock g.J.Origin.begins.daemons d.seat d.coming) l.these.items
    × (length l.these.items ≡ length l.initial.these.items)
