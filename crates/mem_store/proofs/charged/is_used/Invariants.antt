use Rattle.std.proofs.Common.{◌≡◌}
use Rattle.std.specs.Prelude.{sum_by}
use Rattle.sdr_model.specs.Zco.{count_of, uses_in}
use Rattle.mem_store.specs.Charged.{world_of}
use Rattle.mem_store.specs.Store.{now_at, things_at, things_in}
use Rattle.mem_store.proofs.charged.is_used.Given as goal

abbrev pub invariant-loop-place : goal.invariant-loop-place
invariant-loop-place l = record {
  rest : sum_by (λ e. uses_in l.source l.acct e.1) (things_in l.place-iterator)
      ≡ count_of (world_of (things_at now_at l.places.entries)) l.source l.acct;
}
