use Rattle.std.proofs.Common.{◌≡◌, ap, sym, ◌∙◌}
use Rattle.std.specs.Option.{option_copied}
use Rattle.mem_parts.specs.Capped.{capped_by}
use Rattle.mem_store.specs.Charged.{charged, world_of}
use Rattle.mem_store.specs.Store.{now_at, things_at}
use Rattle.mem_store.proofs.TallyLemmas.{amounts-tallied, tally_is}
use Rattle.mem_store.proofs.store.Store.charged.Goals as goal
use Rattle.mem_store.proofs.store.Store.charged.Goals.{in-Some, in-None}

pub returns-clause-value : goal.returns-clause-value
returns-clause-value c =
    let all = things_at now_at c.self.inside.places.entries in
    let acct = c.args.acct in
    let here : c.match-of.result ≡ capped_by (charged (world_of all) acct) = elim c.match-of.branch [
      | in-Some w ↦ w.result-is ∙ w.charged.ensures
          ∙ amounts-tallied acct all w.in-Some.tally.now
          (tally_is all c.self.inside.tallies acct _ c.self.invariant.tallied (sym c.of.ensures ∙ ap option_copied w.in-Some.is))
      | in-None w ↦ w.result-is ∙ w.charged-in-None.ensures
    ] in
    here ∙ ap (λ s. capped_by (charged (world_of s.now) acct)) c.self.view_is
