use Rattle.std.proofs.Common.{◌≡◌, ◌+◌, ℕ, length}
use Rattle.sdr_base.specs.declared.account.Acct.{Acct}
use Rattle.sdr_model.specs.Zco.{naming}
use Rattle.mem_store.specs.Store.{now_at, things_at}
use Rattle.mem_store.specs.Tallies.{Sums, counted}
use Rattle.mem_store.proofs.tally.unname_all.Given as goal

abbrev pub invariant-loop-extent : goal.invariant-loop-extent
invariant-loop-extent l = record {
  counts : (at : ℕ) → counted l.tally at + naming at l.extents ≡ counted l.fn.tally at + naming at l.rest;
  sums : (acct : Acct) → Sums acct (things_at now_at l.places.entries) l.fn.tally
      → Sums acct (things_at now_at l.places.entries) l.tally;
}

abbrev pub decreases-loop-extent : goal.decreases-loop-extent
decreases-loop-extent l = length l.rest
