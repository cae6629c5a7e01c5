-- Each extent is charged, so what is occupied bounds how many extents name a source.
use Rattle.std.proofs.Common.{◌≤◌, ◌<◌, ◌*◌, ◌^◌, ◌==◌, ◌∷◌, [], ℕ, Bool, List, arith, cond, false, length, true}
use Rattle.std.proofs.lemmas.List.Sums.{sum_by-cons}
use Rattle.std.specs.FinMap as map
use Rattle.std.specs.Prelude.{sum_by}
use Rattle.sdr_base.specs.declared.account.Acct.{Acct}
use Rattle.sdr_base.specs.declared.kind.Space.TheVariants as spaces
use Rattle.sdr_model.specs.Accounts.{is_same_account}
use Rattle.sdr_model.specs.Charges.{object_charge, occupancy, thing_charge}
use Rattle.sdr_model.specs.World.{World}
use Rattle.sdr_model.specs.Zco.{count_of, naming, uses_in}
use Rattle.sdr_model.specs.declared.things.Thing.{Thing}
use Rattle.sdr_model.specs.declared.things.Thing.TheVariants as kinds
use Rattle.sdr_model.specs.declared.zco.Extent.{Extent}

one_at_most : (b : Bool) → cond b 1 0 ≤ 1
one_at_most true = omega arith
one_at_most false = omega arith

-- no more extents name a source than there are
naming_few : (source : ℕ) (extents : List Extent) → naming source extents ≤ length extents
naming_few source [] = omega arith
naming_few source (e ∷ extents) =
    let rest = naming_few source extents in
    let one = one_at_most (e.source == source) in
    let named = sum_by-cons (λ (x : Extent). cond (x.source == source) 1 0) e extents in
    omega (arith, rest, one, named)

kept_charge : (b : Bool) (uses charge : ℕ) → 32 * uses ≤ charge → 32 * cond b uses 0 ≤ cond b charge 0
kept_charge true uses charge le = le
kept_charge false uses charge le = omega arith

uses_charged : (w : World) (source : ℕ) (acct : Acct) (addr : ℕ) (thing : Thing) →
    32 * uses_in source acct thing ≤ thing_charge w acct spaces.Heap addr thing
uses_charged w source acct addr (kinds.Object z) =
    kept_charge (is_same_account acct z.account) (naming source z.extents) (object_charge spaces.Heap z)
    (let few = naming_few source z.extents in omega (arith, few))
uses_charged w source acct addr (kinds.Raw x) = omega arith
uses_charged w source acct addr (kinds.Text x) = omega arith
uses_charged w source acct addr (kinds.List x) = omega arith
uses_charged w source acct addr (kinds.Table x) = omega arith
uses_charged w source acct addr (kinds.Hash x) = omega arith
uses_charged w source acct addr (kinds.Source x) = omega arith

all_charged : (w : World) (source : ℕ) (acct : Acct) (things : List (ℕ × Thing)) →
    32 * sum_by (λ e. uses_in source acct e.1) things ≤ sum_by (λ e. thing_charge w acct spaces.Heap e.0 e.1) things
all_charged w source acct [] = omega arith
all_charged w source acct (e ∷ things) =
    let rest = all_charged w source acct things in
    let one = uses_charged w source acct e.0 e.1 in
    let named = sum_by-cons (λ (x : ℕ × Thing). uses_in source acct x.1) e things in
    let charged = sum_by-cons (λ (x : ℕ × Thing). thing_charge w acct spaces.Heap x.0 x.1) e things in
    omega (arith, rest, one, named, charged)

-- where what is occupied of heap space is below what a word can count, fewer than half as many extents name a source
pub few_named : (w : World) (source : ℕ) (acct : Acct) → occupancy w acct spaces.Heap < 2 ^ 64 → count_of w source acct < 2 ^ 63
few_named w source acct small =
    let all = all_charged w source acct (map.entries w.things) in
    omega (arith, all, small)
