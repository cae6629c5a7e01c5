use Rattle.std.proofs.Common.{◌≡◌, None, subst}
use Rattle.sdr_model.specs.Zco.{source_naming}
use Rattle.mem_store.specs.Charged.{world_of}
use Rattle.mem_store.specs.Store.{now_at, things_at}
use Rattle.mem_store.proofs.RawsLemmas.{no_source}
use Rattle.mem_store.proofs.store.Store.may_name.Goals as goal

pub returns : goal.returns
returns c = λ none.
    let all = things_at now_at c.self.inside.places.entries in
    subst (λ s. source_naming (world_of s.now) c.args.raw ≡ None) c.self.view_is
    (no_source all c.args.raw (c.may_name.ensures all c.self.invariant.tallied none))
