use Rattle.std.proofs.Common.{◌≡◌, ◌∙◌, ℕ, List, get_or, Contains, None, Some, sym, subst, arith}
use Rattle.std.proofs.lemmas.List.{get_or_read}
use Rattle.sdr_image.specs.Cache.{entries_of}
use Rattle.sdr_image.proofs.CacheLemmas.{place_entry}
use Rattle.sdr_image.proofs.cache.Cache.find.Goals as goal

pub returns-in-Some : goal.returns-in-Some
returns-in-Some c =
    let places = c.self.inside.places.items in
    let place = c.place_of.result in
    let r = c.in-Some.record in
    let read = get_or_read places place c.index.result.now
    (omega (arith, c.place_of.ensures.below, c.self.invariant.long)) c.index.ensures None in
    let there : get_or places place None ≡ Some r = sym read ∙ c.in-Some.is in
    subst (λ (es : List (ℕ × List ℕ)). Contains es (c.args.line, r.bytes)) c.self.view_is
    (subst (λ (n : ℕ). Contains (entries_of places) (n, r.bytes)) c.if-record-line.true (place_entry places place r there))
