use Rattle.std.proofs.Common.{◌≡◌, ◌<◌, ◌≤◌, All, false, length, vec_capacity, vec_len}
use Rattle.sdr_core.specs.Numbers.{numbers_done}
use Rattle.sdr_daemon.specs.Coming.{is_over}
use Rattle.sdr_live.proofs.running.first_of_all.Given as goal

-- the core is as it was, and the daemons so far have told what they do
abbrev pub invariant-loop-place : goal.invariant-loop-place
invariant-loop-place g l =
    (l.run.core ≡ l.initial.run.core) × (vec_len l.first ≡ l.place) × (length g.J.Origin.begins.daemons ≤ vec_capacity l.first) × All (λ c. is_over c ≡ false) l.first.items
    × (0 < l.place → numbers_done l.run.core.lock.roll ≡ l.run.core.lock.roll.drawn)
