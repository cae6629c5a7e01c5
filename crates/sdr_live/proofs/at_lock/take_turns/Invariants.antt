use Rattle.sdr_live.specs.AtLock.{IsAtLock}
use Rattle.sdr_live.proofs.at_lock.take_turns.Given as goal

-- the daemon is at the lock
abbrev pub invariant-loop : goal.invariant-loop
invariant-loop g l = (goal.iterator-loop g).can_next l.iterator' × (goal.iterator-loop g).is_finite l.iterator' × IsAtLock l.lock g.J.Origin.begins.daemons l.own.seat l.own.coming
