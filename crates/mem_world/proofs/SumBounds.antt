-- Sums over a world on which a call can be made are small.
use Rattle.std.proofs.Common.{◌≡◌, ◌≤◌, ◌==◌, ◌^◌, ℕ, List, [], ◌∷◌, length, arith, Bool, true, false, cond, Some, ap, ◌∙◌, refl}
use Rattle.std.proofs.lemmas.List.Sums.{sum_by-cons, sum_by-le-sum_by}
use Rattle.std.specs.FinMap.{entries, get}
use Rattle.sdr_base.specs.declared.account.Acct.{Acct}
use Rattle.sdr_base.specs.declared.account.Acct.TheVariants as accts
use Rattle.sdr_base.specs.declared.kind.Space.{Space}
use Rattle.sdr_base.specs.declared.kind.Space.TheVariants as spaces
use Rattle.sdr_model.specs.Accounts.{is_same_account, most_amount}
use Rattle.sdr_model.specs.Charges.{object_charge, thing_charge}
use Rattle.sdr_model.specs.World.{World}
use Rattle.sdr_model.specs.Zco.{count_of, naming, uses_in, uses_of}
use Rattle.sdr_model.specs.declared.things.Thing.{Thing}
use Rattle.sdr_model.specs.declared.things.Thing.TheVariants as things
use Rattle.sdr_model.specs.declared.zco.Extent.{Extent}
use Rattle.sdr_model.specs.declared.zco.ZcoObject.{ZcoObject}
use Rattle.sdr_model.proofs.SumLemmas.{counted_at, sum_by-removed}
use Rattle.mem_world.specs.Calling.{IsBound}
use Rattle.mem_store.specs.Charged.{charged}

-- extents name a source at most once each
naming-most : (source : ℕ) (es : List Extent) → naming source es ≤ length es
naming-most source [] = omega arith
naming-most source (e ∷ es) =
    omega (arith, naming-most source es, by (e.source == source), sum_by-cons (λ (e : Extent). cond (e.source == source) 1 0) e es)
  where
    by : (b : Bool) → cond b 1 0 ≤ 1
    by true = omega arith
    by false = omega arith

-- a thing charges more heap space than it counts
counted_thing : (w : World) (source addr : ℕ) (acct : Acct) (thing : Thing)
    → uses_in source acct thing ≤ thing_charge w acct spaces.Heap addr thing
counted_thing w source addr acct (things.Object z) = by (is_same_account acct z.account)
  where
    by : (b : Bool) → cond b (naming source z.extents) 0 ≤ cond b (object_charge spaces.Heap z) 0
    by true = omega (arith, naming-most source z.extents)
    by false = omega arith
counted_thing w source addr acct thing = omega arith

-- and a world
count_of-charged : (w : World) (source : ℕ) (acct : Acct) → count_of w source acct ≤ charged w acct spaces.Heap
count_of-charged w source acct =
    sum_by-le-sum_by (λ e. uses_in source acct e.1) (λ e. thing_charge w acct spaces.Heap e.0 e.1) (entries w.things)
    (λ e. counted_thing w source e.0 acct e.1)

module _ (w : World) (bound : IsBound w) where
  -- few extents name a source
  pub uses-small : (source : ℕ) → uses_of w source ≤ 2 ^ 41
  uses-small source =
      omega (
        arith,
        count_of-charged w source accts.Inbound,
        count_of-charged w source accts.Outbound,
        bound accts.Inbound spaces.Heap,
        bound accts.Outbound spaces.Heap,
      )

  -- an object doesn't charge more than is occupied
  pub object_charge-small : (addr : ℕ) (z : ZcoObject) → get w.things addr ≡ Some (things.Object z) → (space : Space)
      → object_charge space z ≤ most_amount
  object_charge-small addr z is space =
      omega (
        arith,
        sum_by-removed (λ e. thing_charge w z.account space e.0 e.1) w.things addr,
        ap (counted_at (λ e. thing_charge w z.account space e.0 e.1) addr) is ∙ whole z.account,
        bound z.account space,
      )
    where
      whole : (acct : Acct) → cond (is_same_account acct acct) (object_charge space z) 0 ≡ object_charge space z
      whole accts.Inbound = refl
      whole accts.Outbound = refl
