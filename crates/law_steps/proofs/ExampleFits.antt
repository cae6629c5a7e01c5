-- The numbers of the example fit, and its source, its extent and its raw object fit each other.
use Rattle.std.proofs.Common.{lit<, ◌<◌, ◌≡◌, ℕ, [], ◌∷◌, true, Option, Some, None, refl, sym, ap, ◌∙◌, subst, arith, true≢false}
use Rattle.std.specs.FinMap.{get-from_sorted}
use Rattle.std.specs.Ordering.{nat_cmp}
use Rattle.std.specs.Prelude.{IfSome}
use Rattle.std.proofs.lemmas.List.Elements.{All-cons, All-nil}
use Rattle.law_steps.proofs.Examples.{each, named_once, one, source_there}
use Rattle.law_steps.specs.Example.{example, example_extent, example_hash, example_list, example_object, example_raw, example_source, example_things, example_ticket}
use Rattle.sdr_model.specs.Fields.{AreBytes, FitsCapsule, FitsElement, FitsEntry, FitsExtent, FitsFields, FitsName, FitsObject, FitsSource, FitsThing, FitsTicket, IsWord}
use Rattle.sdr_model.specs.Valid.{AreInside, FitTogether, HasBytes, HasSubject, HasExtentIfPassing, LiesInside}
use Rattle.sdr_model.specs.World.{as_raw, thing_at}
use Rattle.sdr_model.specs.Zco.{as_source, names_raw, source_at}
use Rattle.sdr_model.specs.declared.things.Thing.{Thing}
use Rattle.sdr_model.specs.declared.things.Thing.TheVariants as things
use Rattle.sdr_model.specs.declared.zco.Extent.{Extent}
use Rattle.sdr_model.specs.declared.zco.ZcoSource.{ZcoSource}

-- the numbers of its things
fits_list : FitsThing (things.List example_list)
fits_list = (
  lit< tt,
  All-cons FitsElement (record { block = 16; datum = 5 }) (record { block = 24; datum = 6 } ∷ [])
      (record { block = lit< tt; datum = lit< tt })
      (one FitsElement (record { block = 24; datum = 6 }) (record { block = lit< tt; datum = lit< tt })),
)

fits_hash : FitsThing (things.Hash example_hash)
fits_hash =
    one FitsEntry (record { block = 40; key = 65 ∷ []; value = 3 })
    (record { block = lit< tt; key = one (λ b. b < 256) 65 (lit< tt); value = lit< tt })

fits_raw : AreBytes example_raw
fits_raw =
    All-cons (λ b. b < 256) 1 (2 ∷ 3 ∷ []) (lit< tt)
    (All-cons (λ b. b < 256) 2 (3 ∷ []) (lit< tt) (one (λ b. b < 256) 3 (lit< tt)))

fits_source : FitsSource example_source
fits_source = record { subject = lit< tt; length = lit< tt }

fits_object : FitsObject example_object
fits_object = record {
  headers = one FitsCapsule (record { block = 80; text = 72 ∷ [] })
      (record { block = lit< tt; text = one (λ b. b < 256) 72 (lit< tt) });
  extents = one FitsExtent example_extent
      (record { block = lit< tt; source = lit< tt; offset = lit< tt; length = lit< tt });
  trailers = All-nil _;
}

pub example_fits : FitsFields example
example_fits = record {
  things = each (λ addr thing. IsWord addr × FitsThing thing) (lit< tt, fits_list) (lit< tt, fits_hash)
      (lit< tt, fits_raw) (lit< tt, fits_source) (lit< tt, fits_object);
  names = one FitsName (record { block = 48; name = 103 ∷ []; kind = 1; object = 8 })
      (record { block = lit< tt; name = one (λ b. b < 256) 103 (lit< tt); kind = lit< tt; object = lit< tt });
  inbound = All-nil _;
  outbound = one FitsTicket example_ticket (record { block = lit< tt; coarse = lit< tt; fine = lit< tt });
}

-- the raw object is there
raw_there : as_raw (thing_at example 56) ≡ Some example_raw
raw_there = ap as_raw (get-from_sorted nat_cmp example_things 56 tt)

-- what holds of a source that is a thing holds of the source at its address
of_source : (Q : ZcoSource → Type 0) (o : Option Thing) → IfSome o (λ t. IfSome (as_source (Some t)) Q)
    → IfSome (as_source o) Q
of_source Q None h = tt
of_source Q (Some t) h = h

-- what follows of two things
of_both : (a b : ℕ) (P Q : Thing → Type 0) (o o' : Option Thing) → IfSome o (λ t. P t → a ≡ 64)
    → IfSome o' (λ t. Q t → b ≡ 64) → IfSome o (λ s. IfSome o' (λ t. P s → Q t → a ≡ b))
of_both a b P Q None o' h h' = tt
of_both a b P Q (Some s) None h h' = tt
of_both a b P Q (Some s) (Some t) h h' = λ p q. h p ∙ sym (h' q)

-- no thing but the source names a raw object
named_by : (raw addr : ℕ) → IfSome (thing_at example addr) (λ t. names_raw raw t ≡ true → addr ≡ 64)
named_by raw =
    each (λ addr t. names_raw raw t ≡ true → addr ≡ 64) (λ e. absurd (true≢false (sym e)))
    (λ e. absurd (true≢false (sym e))) (λ e. absurd (true≢false (sym e))) (λ e. refl)
    (λ e. absurd (true≢false (sym e)))

pub example_fit_together : FitTogether example
example_fit_together = record {
  inside = each (λ addr t. AreInside example t) tt tt tt tt
      (one (λ (e : Extent). LiesInside e (source_at example e.source)) example_extent
      (subst (LiesInside example_extent) (sym source_there) (omega arith)));
  subjects = λ addr. of_source (λ s. HasSubject example s.length s.subject) (thing_at example addr)
      (each (λ addr t. IfSome (as_source (Some t)) (λ s. HasSubject example s.length s.subject)) tt tt tt
      (subst (HasBytes 3) (sym raw_there) refl) tt addr);
  alone = λ raw a b. of_both a b (λ t. names_raw raw t ≡ true) (λ t. names_raw raw t ≡ true) (thing_at example a)
      (thing_at example b) (named_by raw a) (named_by raw b);
  used = λ addr. of_source (HasExtentIfPassing example addr) (thing_at example addr)
      (each (λ addr t. IfSome (as_source (Some t)) (HasExtentIfPassing example addr)) tt tt tt
      (λ passing. omega (arith, named_once)) tt addr);
}
