-- There is room for whatever the call may come to.
use Rattle.std.proofs.Common.{ℕ, subst, sym}
use Rattle.sdr_station.proofs.TellingLemmas.{holds_any}
use Rattle.sdr_station.specs.Grounded.{HasStood}
use Rattle.sdr_station.proofs.tells.HeapGroundTells.room_for.Goals as goal

pub returns-clause-holds : goal.returns-clause-holds
returns-clause-holds g c = λ v stands.
    holds_any _ c.args.call.now _ c.most_moves.ensures.most c.most_bytes.ensures.most v.now
    (subst (λ (n : ℕ). HasStood n v.now.world) (sym c.size.ensures) stands.memory.stood)

pub returns-clause-memory : goal.returns-clause-memory
returns-clause-memory g c = λ v at.
    holds_any _ c.args.call.now _ c.most_moves.ensures.most c.most_bytes.ensures.most v.now
    (subst (λ (n : ℕ). HasStood n v.now.world) (sym c.size.ensures) at.stood)
