use Rattle.std.proofs.Common.{◌≡◌, All, length}
use Rattle.sdr_live.specs.AtLock.{IsAtLock}
use Rattle.sdr_live.proofs.at_lock.take_turn_each.Given as goal

-- all these daemons are at the lock
abbrev pub invariant-loop-i : goal.invariant-loop-i
invariant-loop-i g l = All (λ d. IsAtLock l.lock g.J.Origin.begins.daemons d.seat d.coming) l.these.items × (length l.these.items ≡ length l.initial.these.items)
