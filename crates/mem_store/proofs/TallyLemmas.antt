-- What things charge an account by how many extents name each source, where the counts or the things change at one address.
use Rattle.std.proofs.Common.{◌≡◌, ◌<◌, ◌+◌, ◌-◌, ◌==◌, ℕ, List, [], ◌∷◌, Bool, true, false, cond, Option, Some, None, drop, length, take, ap, sym, ◌∙◌, refl, subst, arith, eqb-true}
use Rattle.std.proofs.lemmas.Bool.Decides.{nat_tests}
use Rattle.std.proofs.lemmas.List.{length-drop, take-append-drop, take_all}
use Rattle.std.proofs.lemmas.List.Sums.{sum_by-append, sum_by-cons}
use Rattle.std.specs.BTreeMap.{is_at}
use Rattle.std.specs.Cmp.{nat_eq_equiv}
use Rattle.std.specs.FinMap.{empty, entries, find, get, get-entries, remove}
use Rattle.std.specs.List.{sum_by}
use Rattle.std.specs.Ordering.{nat_cmp}
use Rattle.std.specs.Prelude.{IfSome, if◌then◌else◌}
use Rattle.sdr_base.specs.declared.account.Acct.{Acct}
use Rattle.sdr_base.specs.declared.account.Acct.TheVariants as accts
use Rattle.sdr_base.specs.declared.kind.Space.{Space}
use Rattle.mem_parts.specs.Capped.{capped_by}
use Rattle.sdr_model.specs.Amounts.{amount, no_amounts}
use Rattle.sdr_model.specs.Charges.{thing_charge}
use Rattle.sdr_model.specs.Things.{Things}
use Rattle.sdr_model.specs.Zco.{count_of, naming, uses_in}
use Rattle.sdr_model.specs.declared.things.Thing.{Thing}
use Rattle.sdr_model.specs.declared.things.Thing.TheVariants as things
use Rattle.sdr_model.specs.declared.zco.Extent.{Extent}
use Rattle.sdr_model.proofs.AmountLemmas.{nothing_in}
use Rattle.sdr_model.proofs.SumLemmas.{counted_at, sum_by-removed}
use Rattle.sdr_model.proofs.ThingsLemmas.{at_itself, get-removed}
use Rattle.mem_store.specs.Charged.{charged, own_extents, world_of}
use Rattle.mem_store.specs.Tallies.{AreTallied, Sums, Tallies, charge_named, charges_named, counted, source_bytes, tally_of}
use Rattle.mem_store.specs.declared.tallied.Tallied.{Tallied}
use Rattle.mem_store.specs.declared.tally.Tally.{Tally}
use Rattle.mem_store.proofs.ChargedLemmas.{own-naming}
use Rattle.mem_store.proofs.PlacesLemmas.{entries-empty}

-- two sums over entries are the same where no entry is at the one key at which what is summed differs
sum_by-apart : {X : Type 0} (f g : ℕ × X → ℕ) (k : ℕ) (es : List (ℕ × X)) → find nat_cmp k es ≡ None
    → ((q : ℕ) (v : X) → is_at (nat_cmp k) q ≡ false → f (q, v) ≡ g (q, v)) → sum_by f es ≡ sum_by g es
sum_by-apart f g k [] none same = refl
sum_by-apart {X} f g k (e ∷ es) none same = by (is_at (nat_cmp k) e.0) refl none (λ is. sum_by-apart f g k es is same)
  where
    by : (b : Bool) → is_at (nat_cmp k) e.0 ≡ b → cond b (Some e.1) (find nat_cmp k es) ≡ None
        → (find nat_cmp k es ≡ None → sum_by f es ≡ sum_by g es) → sum_by f (e ∷ es) ≡ sum_by g (e ∷ es)
    by true at is rest = cc
    by false at is rest = omega (arith, sum_by-cons f e es, sum_by-cons g e es, same e.0 e.1 at, rest is)

module _ (all : Things) (acct : Acct) (space : Space) where
  -- what is at an address charges beside the other things, whatever the counts
  pub charges-rest : (counts : ℕ → ℕ) (k : ℕ) → charges_named counts acct space all
      ≡ charges_named counts acct space (remove all k) + charge_named (counts k) acct space (get all k)
  charges-rest counts k =
      omega (arith, sum_by-removed (λ e. charge_named (counts e.0) acct space (Some e.1)) all k, here (get all k))
    where
      here : (o : Option Thing) → counted_at (λ e. charge_named (counts e.0) acct space (Some e.1)) k o
          ≡ charge_named (counts k) acct space o
      here None = refl
      here (Some t) = refl

  -- where the counts differ at one address alone, so do the charges
  charges-apart : (old new : ℕ → ℕ) (k : ℕ) → ((q : ℕ) → is_at (nat_cmp k) q ≡ false → new q ≡ old q)
      → charges_named new acct space (remove all k) ≡ charges_named old acct space (remove all k)
  charges-apart old new k others =
      sum_by-apart _ _ k (entries (remove all k)) (sym (get-entries (remove all k) k) ∙ get-removed all k)
      (λ q t apart. ap (λ n. charge_named n acct space (Some t)) (others q apart))

  -- the first extents that name a source charge its bytes
  pub charges-first : (old new : ℕ → ℕ) (k : ℕ) → ((q : ℕ) → is_at (nat_cmp k) q ≡ false → new q ≡ old q)
      → old k ≡ 0 → 0 < new k
      → charges_named new acct space all ≡ charges_named old acct space all + source_bytes space (get all k)
  charges-first old new k others none some =
      omega (
        arith,
        charges-rest old k,
        charges-rest new k,
        charges-apart old new k others,
        here (get all k),
      )
    where
      here : (o : Option Thing)
          → charge_named (new k) acct space o ≡ charge_named (old k) acct space o + source_bytes space o
      here None = refl
      here (Some (things.Source s)) = grind (arith, nat_tests)
      here (Some (things.Object z)) = omega arith
      here (Some t) = refl

  -- further ones charge nothing
  pub charges-again : (old new : ℕ → ℕ) (k : ℕ) → ((q : ℕ) → is_at (nat_cmp k) q ≡ false → new q ≡ old q)
      → 0 < old k → 0 < new k → charges_named new acct space all ≡ charges_named old acct space all
  charges-again old new k others was is =
      omega (
        arith,
        charges-rest old k,
        charges-rest new k,
        charges-apart old new k others,
        here (get all k),
      )
    where
      here : (o : Option Thing) → charge_named (new k) acct space o ≡ charge_named (old k) acct space o
      here None = refl
      here (Some (things.Source s)) = grind (arith, nat_tests)
      here (Some t) = refl

-- how often an account's objects name a source, with what is at an address beside the other things
pub count-rest : (all : Things) (acct : Acct) (k source : ℕ) → count_of (world_of all) source acct
    ≡ count_of (world_of (remove all k)) source acct + naming source (own_extents acct (get all k))
count-rest all acct k source =
    omega (arith, sum_by-removed (λ (e : ℕ × Thing). uses_in source acct e.1) all k, here (get all k))
  where
    here : (o : Option Thing) → counted_at (λ (e : ℕ × Thing). uses_in source acct e.1) k o ≡ naming source (own_extents acct o)
    here None = refl
    here (Some t) = own-naming source acct t

-- things charge what a tally of them has
pub charges-tallied : (acct : Acct) (all : Things) (t : Tally) (space : Space) → Tallies acct all t
    → amount t.charged space ≡ charged (world_of all) acct space
charges-tallied acct all t space is =
    is.sums.each space
    ∙ ap (λ counts. charges_named counts acct space all) (λ i at. is.counts at i)
    ∙ ap (λ (f : ℕ × Thing → ℕ). sum_by f (entries all)) (λ i e. each e.0 e.1 i)
  where
    each : (addr : ℕ) (t : Thing) → charge_named (count_of (world_of all) addr acct) acct space (Some t)
        ≡ thing_charge (world_of all) acct space addr t
    each addr (things.Source s) = refl
    each addr (things.Object z) = refl
    each addr t = refl

-- extents of one source that stand in front count together
pub naming-run : (e : Extent) (after : List Extent) (run at : ℕ) → naming at (take run after) ≡ (if e.source == at then run else 0)
    → naming at (e ∷ after) ≡ (if e.source == at then 1 + run else 0) + naming at (drop run after)
naming-run e after run at front =
    let one = λ (e : Extent). if e.source == at then 1 else 0 in
    let whole : naming at after ≡ naming at (take run after) + naming at (drop run after) =
    ap (naming at) (sym (take-append-drop run after)) ∙ sum_by-append one (take run after) (drop run after) in
    by (e.source == at) refl whole (sum_by-cons one e after)
  where
    by : (b : Bool) → (e.source == at) ≡ b → naming at after ≡ naming at (take run after) + naming at (drop run after)
        → naming at (e ∷ after) ≡ (if e.source == at then 1 else 0) + naming at after
        → naming at (e ∷ after) ≡ (if e.source == at then 1 + run else 0) + naming at (drop run after)
    by true is whole first =
        omega (arith, whole, first, front, ap {B = ℕ} (λ b. if b then 1 else 0) is, ap {B = ℕ} (λ b. if b then run else 0) is, ap {B = ℕ} (λ b. if b then 1 + run else 0) is)
    by false is whole first =
        omega (arith, whole, first, front, ap {B = ℕ} (λ b. if b then 1 else 0) is, ap {B = ℕ} (λ b. if b then run else 0) is, ap {B = ℕ} (λ b. if b then 1 + run else 0) is)

-- the extents behind so many, as a range of them
pub naming-rest : (at run : ℕ) (after : List Extent)
    → naming at (take (length after - run) (drop run after)) ≡ naming at (drop run after)
naming-rest at run after = ap (naming at) (take_all (length after - run) (drop run after) (omega (arith, length-drop run after)))

-- an address that doesn't compare alike is another one
apart : (k q : ℕ) → is_at (nat_cmp k) q ≡ false → (k == q) ≡ false
apart k q at = by (k == q) refl
  where
    by : (b : Bool) → (k == q) ≡ b → (k == q) ≡ false
    by false is = is
    by true is =
        let same : k ≡ q = eqb-true k q is in
        let alike : is_at (nat_cmp k) q ≡ true = subst (λ q. is_at (nat_cmp k) q ≡ true) same (at_itself k) in
        cc

-- a tally where another count is set at one address
module _ (acct : Acct) (all : Things) (t t' : Tally) (k n : ℕ)
    (set : (at : ℕ) → counted t' at ≡ (if k == at then n else counted t at)) where
  others : (q : ℕ) → is_at (nat_cmp k) q ≡ false → counted t' q ≡ counted t q
  others q at = set q ∙ ap (λ b. if b then n else counted t q) (apart k q at)

  here : counted t' k ≡ n
  here = set k ∙ ap (λ b. if b then n else counted t k) (nat_eq_equiv.refl k)

  -- its charge is with the bytes of the source there where it is the first that names this
  pub Sums-first : counted t k ≡ 0 → 0 < n
      → ((space : Space) → amount t'.charged space ≡ amount t.charged space + source_bytes space (get all k))
      → Sums acct all t → Sums acct all t'
  Sums-first none some more sums = record {
    each = λ space.
        omega (
          arith,
          more space,
          sums.each space,
          charges-first all acct space (counted t) (counted t') k others none (omega (arith, here, some)),
        );
  }

  -- it is without them where none names it any more
  pub Sums-last : 0 < counted t k → n ≡ 0
      → ((space : Space) → amount t'.charged space + source_bytes space (get all k) ≡ amount t.charged space)
      → Sums acct all t → Sums acct all t'
  Sums-last some none less sums = record {
    each = λ space.
        omega (
          arith,
          less space,
          sums.each space,
          charges-first all acct space (counted t') (counted t) k (λ q at. sym (others q at)) (omega (arith, here, none)) some,
        );
  }

  -- it is the same where some named it and some still do
  pub Sums-again : 0 < counted t k → 0 < n → t'.charged ≡ t.charged → Sums acct all t → Sums acct all t'
  Sums-again some still same sums = record {
    each = λ space.
        omega (
          arith,
          ap (λ a. amount a space) same,
          sums.each space,
          charges-again all acct space (counted t) (counted t') k others some (omega (arith, here, still)),
        );
  }

-- what is at an address is in the tally of the other things and itself
module _ (acct : Acct) (all : Things) (k : ℕ) (t mid new : Tally) where
  pub Tallies-entered : ((at : ℕ) → counted mid at ≡ counted t at)
      → ((space : Space) → amount mid.charged space ≡ amount t.charged space + charge_named (counted t k) acct space (get all k))
      → ((at : ℕ) → counted new at ≡ counted mid at + naming at (own_extents acct (get all k)))
      → (Sums acct all mid → Sums acct all new) → Tallies acct (remove all k) t → Tallies acct all new
  Tallies-entered same charge counts sums is = record {
    counts = λ at.
        omega (
          arith,
          counts at,
          same at,
          is.counts at,
          count-rest all acct k at,
        );
    sums = sums (record {
      each = λ space.
          omega (
            arith,
            charge space,
            is.sums.each space,
            charges-rest all acct space (counted t) k,
            ap (λ counts. charges_named counts acct space all) (λ i at. same at i),
          );
    });
  }

  pub Tallies-left : ((at : ℕ) → counted mid at + naming at (own_extents acct (get all k)) ≡ counted t at)
      → (Sums acct all t → Sums acct all mid) → ((at : ℕ) → counted new at ≡ counted mid at)
      → ((space : Space) → amount new.charged space + charge_named (counted mid k) acct space (get all k) ≡ amount mid.charged space)
      → Tallies acct all t → Tallies acct (remove all k) new
  Tallies-left counts sums same charge is = record {
    counts = λ at.
        omega (
          arith,
          counts at,
          same at,
          is.counts at,
          count-rest all acct k at,
        );
    sums = record {
      each = λ space.
          omega (
            arith,
            charge space,
            (sums is.sums).each space,
            charges-rest all acct space (counted mid) k,
            ap (λ counts. charges_named counts acct space (remove all k)) (λ i at. same at i),
          );
    };
  }

-- no things
module _ (acct : Acct) (t : Tally) (none : (at : ℕ) → counted t at ≡ 0) (nothing : (space : Space) → amount t.charged space ≡ 0) where
  pub Tallies-empty : Tallies acct empty t
  Tallies-empty = record {
    counts = λ at. none at ∙ sym (ap (sum_by (λ (e : ℕ × Thing). uses_in at acct e.1)) entries-empty);
    sums = record {
      each = λ space.
          nothing space
          ∙ sym (ap (sum_by (λ (e : ℕ × Thing). charge_named (counted t e.0) acct space (Some e.1))) entries-empty);
    };
  }

-- the tally of an account that isn't lost is of the things
pub tally_is : (all : Things) (t : Tallied) (acct : Acct) (tally : Tally) → AreTallied all t → tally_of t acct ≡ Some tally
    → Tallies acct all tally
tally_is all t accts.Inbound tally are is = subst (λ o. IfSome o (Tallies accts.Inbound all)) is are.inbound
tally_is all t accts.Outbound tally are is = subst (λ o. IfSome o (Tallies accts.Outbound all)) is are.outbound

-- what words hold of what a tally has is what they hold of what the things charge
pub amounts-tallied : (acct : Acct) (all : Things) (t : Tally) → Tallies acct all t
    → capped_by (λ space. amount t.charged space + amount no_amounts space) ≡ capped_by (charged (world_of all) acct)
amounts-tallied acct all t is =
    let each = λ (space : Space).
    let same : amount t.charged space + amount no_amounts space ≡ charged (world_of all) acct space =
    omega (arith, nothing_in space, charges-tallied acct all t space is) in same in
    ap capped_by (λ i space. each space i)
