use Rattle.std.proofs.Common.{◌≢◌, ℕ, List, Contains, subst}
use Rattle.sdr_image.proofs.CacheLemmas.{entry_forgotten}
use Rattle.sdr_image.proofs.cache.Cache.forget.Goals as goal

pub returns : goal.returns
returns c e has =
    subst (λ (es : List (ℕ × List ℕ)). Contains es e × (e.0 ≢ c.args.line)) c.self.view_is
    (entry_forgotten c.self.inside.places.items c.place_of.result c.args.line e c.self.invariant c.place_of.ensures.is has)
