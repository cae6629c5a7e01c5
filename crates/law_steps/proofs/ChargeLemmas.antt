-- What things charge an account, where what is at one address changes.
use Rattle.std.proofs.Common.{◌≡◌, ℕ, ◌+◌, ◌≤◌, ◌==◌, true, List, [], ◌∷◌, Option, Some, None, refl, sym, ap, ◌∙◌, arith, if◌then◌else◌, eqb-true}
use Rattle.std.specs.FinMap.{entries, get}
use Rattle.std.specs.List.{sum_by}
use Rattle.std.specs.Option.{option_map}
use Rattle.std.proofs.lemmas.List.Sums.{sum_by-cons}
use Rattle.sdr_base.specs.declared.account.Acct.{Acct}
use Rattle.sdr_base.specs.declared.account.Acct.TheVariants as accts
use Rattle.sdr_base.specs.declared.kind.Space.{Space}
use Rattle.law_steps.proofs.Effects.{IsNoZco}
use Rattle.law_steps.proofs.EntrySums.{sum_by-both, sum_by-none}
use Rattle.law_steps.proofs.SourceCharges.{counts, named_charge, named_part, named_same}
use Rattle.law_steps.proofs.SourceViews.{AllLie, Fits, of, source_there, sum_by-with_at}
use Rattle.law_steps.proofs.DistinctLemmas.{on_test, weight}
use Rattle.law_steps.proofs.ThingLemmas.{object_is}
use Rattle.sdr_model.proofs.SumLemmas.{counted_at}
use Rattle.sdr_model.specs.Accounts.{is_same_account}
use Rattle.sdr_model.specs.Charges.{object_charge, thing_charge}
use Rattle.sdr_model.specs.SourceSteps.{flagged}
use Rattle.sdr_model.specs.Things.{with_at, Things}
use Rattle.sdr_model.specs.Zco.{as_object, as_source, naming, object_at, source_at, uses_in, uses_of}
use Rattle.sdr_model.specs.declared.things.Thing.{Thing}
use Rattle.sdr_model.specs.declared.things.Thing.TheVariants as things
use Rattle.sdr_model.specs.declared.zco.Extent.{Extent}
use Rattle.sdr_model.specs.declared.zco.ZcoObject.{ZcoObject}
use Rattle.sdr_model.specs.declared.zco.ZcoSource.{ZcoSource}

-- what things charge an account of a space
abbrev pub things_charge : Things → Acct → Space → ℕ
things_charge m acct space = sum_by (λ e. thing_charge (of m) acct space e.0 e.1) (entries m)

-- what a thing charges an account of a space for itself, where it is an object of it
abbrev pub object_part : Acct → Space → Thing → ℕ
object_part acct space (things.Object z) = if is_same_account acct z.account then object_charge space z else 0
object_part acct space thing = 0

-- what is there charges an account of a space for itself
abbrev pub object_part_at : Acct → Space → Option Thing → ℕ
object_part_at acct space None = 0
object_part_at acct space (Some thing) = object_part acct space thing

-- what is there charges of a space that this many extents name
abbrev pub named_part_at : ℕ → Space → Option Thing → ℕ
named_part_at n space None = 0
named_part_at n space (Some thing) = named_part n space thing

-- how many extents of what is there name a source, where it is an object of this account
abbrev pub uses_in_at : ℕ → Acct → Option Thing → ℕ
uses_in_at source acct None = 0
uses_in_at source acct (Some thing) = uses_in source acct thing

-- things charge what objects charge for themselves, and what the sources charge that they name
charge_parts : (m : Things) (acct : Acct) (space : Space)
    → sum_by (λ e. object_part acct space e.1) (entries m) + named_charge (counts m acct) space m
    ≡ things_charge m acct space
charge_parts m acct space = sum_by-both _ _ _ m (λ q t is. each q t)
  where
    each : (q : ℕ) (t : Thing)
        → object_part acct space t + named_part (counts m acct q) space t ≡ thing_charge (of m) acct space q t
    each q (things.Source s) = omega arith
    each q (things.Object z) = omega arith
    each q t = refl

module _ (m : Things) (addr : ℕ) (o : Option Thing) (acct : Acct) where
  -- how many extents of an account's objects name a source
  pub count_moves : (q : ℕ)
      → counts (with_at m addr o) acct q + uses_in_at q acct (get m addr) ≡ counts m acct q + uses_in_at q acct o
  count_moves q =
      omega (
        arith,
        sum_by-with_at (λ (e : ℕ × Thing). uses_in q acct e.1) m addr o,
        counted (get m addr),
        counted o,
      )
    where
      counted : (t : Option Thing) → counted_at (λ (e : ℕ × Thing). uses_in q acct e.1) addr t ≡ uses_in_at q acct t
      counted None = refl
      counted (Some t) = refl

  -- What things charge moves by what is at the address charges for itself and for its bytes, and by what the sources charge
  -- that are named now.
  pub charge_moves : (space : Space)
      → (let now = counts (with_at m addr o) acct in
      things_charge (with_at m addr o) acct space + object_part_at acct space (get m addr)
      + named_part_at (now addr) space (get m addr) + named_charge (counts m acct) space m
      ≡ things_charge m acct space + object_part_at acct space o + named_part_at (now addr) space o
      + named_charge now space m)
  charge_moves space =
      let n = with_at m addr o in
      let now = counts n acct in
      omega (
        arith,
        charge_parts m acct space,
        charge_parts n acct space,
        sum_by-with_at (λ (e : ℕ × Thing). object_part acct space e.1) m addr o,
        sum_by-with_at (λ (e : ℕ × Thing). named_part (now e.0) space e.1) m addr o,
        objects (get m addr),
        objects o,
        sources (get m addr),
        sources o,
      )
    where
      objects : (t : Option Thing)
          → counted_at (λ (e : ℕ × Thing). object_part acct space e.1) addr t ≡ object_part_at acct space t
      objects None = refl
      objects (Some t) = refl

      sources : (t : Option Thing)
          → counted_at (λ (e : ℕ × Thing). named_part (counts (with_at m addr o) acct e.0) space e.1) addr t
          ≡ named_part_at (counts (with_at m addr o) acct addr) space t
      sources None = refl
      sources (Some t) = refl

  -- no object comes or goes, and what is there charges the same
  unmoved : (space : Space) → ((q : ℕ) → uses_in_at q acct (get m addr) ≡ 0) → ((q : ℕ) → uses_in_at q acct o ≡ 0)
      → object_part_at acct space (get m addr) ≡ 0 → object_part_at acct space o ≡ 0
      → named_part_at (counts m acct addr) space (get m addr) ≡ named_part_at (counts m acct addr) space o
      → things_charge (with_at m addr o) acct space ≡ things_charge m acct space
  unmoved space was is old new same =
      let stays : (q : ℕ) → counts (with_at m addr o) acct q ≡ counts m acct q =
      λ q. omega (arith, count_moves q, was q, is q) in
      omega (
        arith,
        charge_moves space,
        old,
        new,
        same,
        ap (λ n. named_part_at n space (get m addr)) (stays addr),
        ap (λ n. named_part_at n space o) (stays addr),
        named_same m space (counts m acct) (counts (with_at m addr o) acct) (λ q. ap (λ n. n == 0) (stays q)),
      )

pub same_account : (acct : Acct) → is_same_account acct acct ≡ true
same_account accts.Inbound = refl
same_account accts.Outbound = refl

-- the extents of an object that is there are among those of its account
pub count_there : (m : Things) (addr : ℕ) (z : ZcoObject) → object_at (of m) addr ≡ Some z → (q : ℕ)
    → naming q z.extents ≤ counts m z.account q
count_there m addr z is q =
    omega (
      arith,
      count_moves m addr None z.account q,
      ap (uses_in_at q z.account) (object_is (get m addr) z is),
      ap (λ b. if b then naming q z.extents else 0) (same_account z.account),
    )

-- an account names a source no more often than both
pub count_few : (m : Things) (acct : Acct) (q : ℕ) → uses_of (of m) q ≡ 0 → counts m acct q ≡ 0
count_few m accts.Inbound q none = omega (arith, none)
count_few m accts.Outbound q none = omega (arith, none)

-- no extent names a source that isn't there
pub count_none : (P : ℕ → Type 0) (m : Things) → Fits m P → (acct : Acct) (addr : ℕ) → source_at (of m) addr ≡ None
    → counts m acct addr ≡ 0
count_none P m fits acct addr none = sum_by-none _ m (λ q t is. each q t is)
  where
    apart : (es : List Extent) → AllLie m es → naming addr es ≡ 0
    apart [] all = refl
    apart (e ∷ es) all =
        omega (
          arith,
          sum_by-cons (λ (e : Extent). weight (e.source == addr)) e es,
          apart es all.1,
          on_test (e.source == addr)
              (λ same. absurd (source_there e (source_at (of m) e.source) all.0
              (ap (λ i. source_at (of m) i) (eqb-true e.source addr same) ∙ none)))
              (λ other. ap weight other),
        )

    each : (q : ℕ) (t : Thing) → get m q ≡ Some t → uses_in addr acct t ≡ 0
    each q (things.Object z) is =
        on_test (is_same_account acct z.account)
        (λ own. ap (λ b. if b then naming addr z.extents else 0) own ∙ apart z.extents (fits.inside q z (ap as_object is)))
        (λ other. ap (λ b. if b then naming addr z.extents else 0) other)
    each q t is = refl

-- no extent names a source that has just come
pub count_new : (P : ℕ → Type 0) (m : Things) → Fits m P → (acct : Acct) (addr : ℕ) (s : ZcoSource) → get m addr ≡ None
    → counts (with_at m addr (Some (things.Source s))) acct addr ≡ 0
count_new P m fits acct addr s none =
    omega (
      arith,
      count_moves m addr (Some (things.Source s)) acct addr,
      count_none P m fits acct addr (ap as_source none),
      ap (uses_in_at addr acct) none,
    )

-- what is neither source nor object charges nothing, and names nothing
no_uses : (acct : Acct) (q : ℕ) (t : Option Thing) → IsNoZco t → uses_in_at q acct t ≡ 0
no_uses acct q None h = refl
no_uses acct q (Some (things.Object z)) h = absurd h
no_uses acct q (Some t) h = refl

no_object : (acct : Acct) (space : Space) (t : Option Thing) → IsNoZco t → object_part_at acct space t ≡ 0
no_object acct space None h = refl
no_object acct space (Some (things.Object z)) h = absurd h
no_object acct space (Some t) h = refl

no_bytes : (n : ℕ) (space : Space) (t : Option Thing) → IsNoZco t → named_part_at n space t ≡ 0
no_bytes n space None h = refl
no_bytes n space (Some (things.Source s)) h = absurd h
no_bytes n space (Some t) h = refl

module _ (m : Things) (addr : ℕ) (acct : Acct) (space : Space) where
  -- neither source nor object comes or goes
  pub charge_plain : (o : Option Thing) → IsNoZco (get m addr) → IsNoZco o
      → things_charge (with_at m addr o) acct space ≡ things_charge m acct space
  charge_plain o was is =
      unmoved m addr o acct space (λ q. no_uses acct q (get m addr) was) (λ q. no_uses acct q o is)
      (no_object acct space (get m addr) was) (no_object acct space o is)
      (no_bytes _ space (get m addr) was ∙ sym (no_bytes _ space o is))

  -- a source that no extent names is another or comes or goes
  charge_unnamed : (o : Option Thing) → counts m acct addr ≡ 0 → (was : Option ZcoSource) → (is : Option ZcoSource)
      → get m addr ≡ option_map (λ s. things.Source s) was → o ≡ option_map (λ s. things.Source s) is
      → things_charge (with_at m addr o) acct space ≡ things_charge m acct space
  charge_unnamed o none was is before after =
      unmoved m addr o acct space (λ q. ap (uses_in_at q acct) before ∙ no_use q was)
      (λ q. ap (uses_in_at q acct) after ∙ no_use q is)
      (ap (object_part_at acct space) before ∙ nothing was) (ap (object_part_at acct space) after ∙ nothing is)
      (ap (named_part_at (counts m acct addr) space) before ∙ unnamed (counts m acct addr) none was
      ∙ sym (ap (named_part_at (counts m acct addr) space) after ∙ unnamed (counts m acct addr) none is))
    where
      no_use : (q : ℕ) (s : Option ZcoSource) → uses_in_at q acct (option_map (λ s. things.Source s) s) ≡ 0
      no_use q None = refl
      no_use q (Some s) = refl

      nothing : (s : Option ZcoSource) → object_part_at acct space (option_map (λ s. things.Source s) s) ≡ 0
      nothing None = refl
      nothing (Some s) = refl

      unnamed : (n : ℕ) → n ≡ 0 → (s : Option ZcoSource)
          → named_part_at n space (option_map (λ s. things.Source s) s) ≡ 0
      unnamed n none None = refl
      unnamed n none (Some s) = ap (λ n. named_part n space (things.Source s)) none

  -- a source comes
  pub charge_source : (P : ℕ → Type 0) → Fits m P → (s : ZcoSource) → get m addr ≡ None
      → things_charge (with_at m addr (Some (things.Source s))) acct space ≡ things_charge m acct space
  charge_source P fits s none =
      charge_unnamed (Some (things.Source s)) (count_none P m fits acct addr (ap as_source none)) None (Some s) none refl

  -- a source is flagged
  pub charge_flagged : (s : ZcoSource) → get m addr ≡ Some (things.Source s)
      → things_charge (with_at m addr (Some (things.Source (flagged s)))) acct space ≡ things_charge m acct space
  charge_flagged s was =
      unmoved m addr (Some (things.Source (flagged s))) acct space (λ q. ap (uses_in_at q acct) was) (λ q. refl)
      (ap (object_part_at acct space) was) refl (ap (named_part_at _ space) was)

  -- a source that no extent names goes
  pub charge_dropped : (s : ZcoSource) → get m addr ≡ Some (things.Source s)
      → uses_of (of m) addr ≡ 0 → things_charge (with_at m addr None) acct space ≡ things_charge m acct space
  charge_dropped s was unused = charge_unnamed None (count_few m acct addr unused) (Some s) None was refl
