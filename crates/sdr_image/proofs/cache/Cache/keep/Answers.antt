use Rattle.std.proofs.Common.{◌≡◌, ◌⊎◌, ℕ, List, Contains, subst, arith}
use Rattle.sdr_image.proofs.CacheLemmas.{entry_kept}
use Rattle.sdr_image.proofs.cache.Cache.keep.Goals as goal

pub returns : goal.returns
returns c e has =
    subst (λ (es : List (ℕ × List ℕ)). Contains es e ⊎ (e ≡ (c.args.line, c.args.bytes))) c.self.view_is
    (entry_kept c.self.inside.places.items c.place_of.result (record { line = c.args.line; bytes = c.args.bytes }) e
    (omega (arith, c.place_of.ensures.below, c.self.invariant.long)) has)
