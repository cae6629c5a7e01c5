-- Passes over the places of a world in the making.
use Rattle.std.proofs.Common.{◌≡◌, ◌+◌, ℕ, List, [], ◌∷◌, ◌++◌, cond, Option, Some, None, ap, ◌∙◌, refl, arith}
use Rattle.std.proofs.lemmas.List.Sums.{sum_by-cons}
use Rattle.std.specs.FinMap.{entries}
use Rattle.std.specs.List.{sum_by}
use Rattle.std.specs.Option.{option_map, option_to_list}
use Rattle.sdr_base.specs.declared.account.Acct.{Acct}
use Rattle.sdr_base.specs.declared.account.Acct.TheVariants as accts
use Rattle.mem_world.specs.Uses.{extents_in, naming_in}
use Rattle.sdr_model.specs.Accounts.{is_same_account}
use Rattle.sdr_model.specs.World.{World}
use Rattle.sdr_model.specs.Zco.{naming, uses_in, uses_of}
use Rattle.sdr_model.specs.declared.things.Thing.{Thing}
use Rattle.sdr_model.specs.declared.things.Thing.TheVariants as things
use Rattle.mem_store.specs.Store.{things_in}
use Rattle.mem_store.specs.declared.place.Place.{Place}

-- the things of some places are that of the first, if it has one, and those of the others
module _ (e : ℕ × Place) (ps ps' : List (ℕ × Place)) (is : ps' ≡ e ∷ ps) where
  pub naming-pass : (source : ℕ) → sum_by (naming_in source) (things_in ps')
      ≡ naming source (extents_in e.1.thing) + sum_by (naming_in source) (things_in ps)
  naming-pass source = ap (λ l. sum_by (naming_in source) (things_in l)) is ∙ by e.1.thing
    where
      by : (o : Option Thing) → sum_by (naming_in source) (option_to_list (option_map (λ t. (e.0, t)) o) ++ things_in ps)
          ≡ naming source (extents_in o) + sum_by (naming_in source) (things_in ps)
      by None = omega arith
      by (Some t) = sum_by-cons (naming_in source) (e.0, t) (things_in ps)

-- all extents that name a source are those of both accounts
pub naming-uses : (source : ℕ) (es : List (ℕ × Thing)) → sum_by (naming_in source) es
    ≡ sum_by (λ e. uses_in source accts.Inbound e.1) es + sum_by (λ e. uses_in source accts.Outbound e.1) es
naming-uses source [] = refl
naming-uses source (e ∷ es) =
    omega (
      arith,
      naming-uses source es,
      sum_by-cons (naming_in source) e es,
      sum_by-cons (λ e. uses_in source accts.Inbound e.1) e es,
      sum_by-cons (λ e. uses_in source accts.Outbound e.1) e es,
      by e.1,
    )
  where
    both : (a : Acct) (n : ℕ) → n ≡ cond (is_same_account accts.Inbound a) n 0 + cond (is_same_account accts.Outbound a) n 0
    both accts.Inbound n = omega arith
    both accts.Outbound n = omega arith

    by : (t : Thing) → naming source (extents_in (Some t)) ≡ uses_in source accts.Inbound t + uses_in source accts.Outbound t
    by (things.Object z) = both z.account (naming source z.extents)
    by t = refl

pub naming-world : (w : World) (source : ℕ) → sum_by (naming_in source) (entries w.things) ≡ uses_of w source
naming-world w source = naming-uses source (entries w.things)
