-- Sums over places: what their things charge, and how often an account's objects name a source.
use Rattle.std.proofs.Common.{◌≡◌, ◌+◌, ◌++◌, ◌∷◌, [], ℕ, List, Bool, true, false, cond, Option, Some, None, ap, ◌∙◌, refl, arith}
use Rattle.std.proofs.lemmas.List.Sums.{sum_by-cons}
use Rattle.std.specs.List.{sum_by}
use Rattle.std.specs.Option.{option_map, option_to_list}
use Rattle.sdr_base.specs.declared.account.Acct.{Acct}
use Rattle.sdr_base.specs.declared.kind.Space.{Space}
use Rattle.sdr_model.specs.Accounts.{is_same_account}
use Rattle.sdr_model.specs.Charges.{thing_charge}
use Rattle.sdr_model.specs.World.{World}
use Rattle.sdr_model.specs.Zco.{naming, uses_in}
use Rattle.sdr_model.specs.declared.things.Thing.{Thing}
use Rattle.sdr_model.specs.declared.things.Thing.TheVariants as things
use Rattle.mem_store.specs.Charged.{charge_at, own_extents}
use Rattle.mem_store.specs.Store.{things_in}
use Rattle.mem_store.specs.declared.place.Place.{Place}

-- the extents of an account's object that name a source
pub own-naming : (source : ℕ) (acct : Acct) (t : Thing) → uses_in source acct t ≡ naming source (own_extents acct (Some t))
own-naming source acct (things.Object z) = by (is_same_account acct z.account)
  where
    by : (b : Bool) → cond b (naming source z.extents) 0 ≡ naming source (cond b z.extents [])
    by true = refl
    by false = refl
own-naming source acct t = refl

-- the things of some places are that of the first, if it has one, and those of the others
module _ (e : ℕ × Place) (ps ps' : List (ℕ × Place)) (is : ps' ≡ e ∷ ps) where
  pub uses-pass : (source : ℕ) (acct : Acct) → sum_by (λ t. uses_in source acct t.1) (things_in ps')
      ≡ naming source (own_extents acct e.1.thing) + sum_by (λ t. uses_in source acct t.1) (things_in ps)
  uses-pass source acct = ap (λ l. sum_by (λ t. uses_in source acct t.1) (things_in l)) is ∙ by e.1.thing
    where
      by : (o : Option Thing) → sum_by (λ (t : ℕ × Thing). uses_in source acct t.1) (option_to_list (option_map (λ t. (e.0, t)) o) ++ things_in ps)
          ≡ naming source (own_extents acct o) + sum_by (λ t. uses_in source acct t.1) (things_in ps)
      by None = omega arith
      by (Some t) =
          omega (arith, sum_by-cons (λ (t : ℕ × Thing). uses_in source acct t.1) (e.0, t) (things_in ps), own-naming source acct t)

  pub charge-pass : (w : World) (acct : Acct) (space : Space) → sum_by (λ t. thing_charge w acct space t.0 t.1) (things_in ps')
      ≡ charge_at w acct space e.0 e.1.thing + sum_by (λ t. thing_charge w acct space t.0 t.1) (things_in ps)
  charge-pass w acct space = ap (λ l. sum_by (λ t. thing_charge w acct space t.0 t.1) (things_in l)) is ∙ by e.1.thing
    where
      by : (o : Option Thing) → sum_by (λ (t : ℕ × Thing). thing_charge w acct space t.0 t.1) (option_to_list (option_map (λ t. (e.0, t)) o) ++ things_in ps)
          ≡ charge_at w acct space e.0 o + sum_by (λ t. thing_charge w acct space t.0 t.1) (things_in ps)
      by None = omega arith
      by (Some t) = omega (arith, sum_by-cons (λ (t : ℕ × Thing). thing_charge w acct space t.0 t.1) (e.0, t) (things_in ps))
