-- Which source names a raw object.
use Rattle.std.proofs.Common.{◌≡◌, ◌&&◌, T, ℕ, Bool, true, false, cond, List, [], ◌∷◌, Some, refl, sym, ap, ◌∙◌, subst}
use Rattle.std.specs.Prelude.{IfSome, None, Option, find}
use Rattle.std.specs.Cmp.{nat_cmp_total, tied_itself}
use Rattle.std.specs.FinMap as finite
use Rattle.std.specs.FinMap.Entries.{below_all}
use Rattle.std.specs.List.{All}
use Rattle.std.specs.Option.{option_map}
use Rattle.std.specs.Ordering.{is_eq, is_lt, nat_cmp}
use Rattle.std.specs.declared.cmp.Ordering.{Ordering}
use Rattle.std.specs.declared.cmp.Ordering.TheVariants.{Equal, Greater, Less}
use Rattle.std.proofs.lemmas.List.Elements.{All-cons, All-head, All-nil, All-tail}
use Rattle.sdr_model.specs.Valid.{FitTogether}
use Rattle.sdr_model.specs.World.{World, thing_at}
use Rattle.sdr_model.specs.Zco.{is_of_raw, names_raw, source_naming}
use Rattle.sdr_model.specs.declared.things.Thing.{Thing}
use Rattle.sdr_model.specs.declared.things.Thing.TheVariants as things
use Rattle.sdr_model.specs.declared.zco.ZcoSource.{ZcoSource}

front_of : (a b : Bool) → T (a && b) → T a
front_of true b h = tt
front_of false b h = absurd h

rest_of : (a b : Bool) → T (a && b) → T b
rest_of true b h = h
rest_of false b h = absurd h

apart : (r : Ordering) → T (is_lt r) → is_eq r ≡ false
apart Less h = refl
apart Equal h = absurd h
apart Greater h = refl

-- a key below the others isn't among them
missing : {X : Type 0} (k : ℕ) (es : List (ℕ × X)) → T (below_all nat_cmp k es) → finite.find nat_cmp k es ≡ None
missing k [] below = refl
missing k (e ∷ es) below =
    ap (λ (t : Bool). cond t (Some e.1) (finite.find nat_cmp k es)) (apart (nat_cmp k e.0) (front_of _ _ below)) ∙ missing k es (rest_of _ _ below)

module _ {X : Type 0} where
  -- an entry behind the first is found behind it
  behind : (e f : ℕ × X) (es : List (ℕ × X)) → T (below_all nat_cmp e.0 es) → finite.find nat_cmp f.0 es ≡ Some f.1 → finite.find nat_cmp f.0 (e ∷ es) ≡ Some f.1
  behind e f es below is =
      elim (nat_cmp f.0 e.0) as (λ o. nat_cmp f.0 e.0 ≡ o → cond (is_eq o) (Some e.1) (finite.find nat_cmp f.0 es) ≡ Some f.1) [
        | Less ↦ λ at. is
        | Equal ↦ λ at.
            let same : f.0 ≡ e.0 = finite.nat_cmp-IsAntisymmetric f.0 e.0 at in
            let d : None ≡ Some f.1 = sym (ap (λ k. finite.find nat_cmp k es) same ∙ missing e.0 es below) ∙ is in
            cc
        | Greater ↦ λ at. is
      ] refl

  all_behind : (e : ℕ × X) (es fs : List (ℕ × X)) → T (below_all nat_cmp e.0 es) → All (λ (f : ℕ × X). finite.find nat_cmp f.0 es ≡ Some f.1) fs →
      All (λ (f : ℕ × X). finite.find nat_cmp f.0 (e ∷ es) ≡ Some f.1) fs
  all_behind e es [] below all = All-nil (λ (f : ℕ × X). finite.find nat_cmp f.0 (e ∷ es) ≡ Some f.1)
  all_behind e es (f ∷ fs) below all =
      All-cons (λ (f : ℕ × X). finite.find nat_cmp f.0 (e ∷ es) ≡ Some f.1) f fs
      (behind e f es below (All-head (λ (f : ℕ × X). finite.find nat_cmp f.0 es ≡ Some f.1) f fs all))
      (all_behind e es fs below (All-tail (λ (f : ℕ × X). finite.find nat_cmp f.0 es ≡ Some f.1) f fs all))

  -- each entry is found by its key
  each_found : (es : List (ℕ × X)) → T (finite.is_sorted nat_cmp es) → All (λ (e : ℕ × X). finite.find nat_cmp e.0 es ≡ Some e.1) es
  each_found [] sorted = All-nil (λ (e : ℕ × X). finite.find nat_cmp e.0 [] ≡ Some e.1)
  each_found (e ∷ es) sorted =
      All-cons (λ (f : ℕ × X). finite.find nat_cmp f.0 (e ∷ es) ≡ Some f.1) e es
      (ap (λ o. cond (is_eq o) (Some e.1) (finite.find nat_cmp e.0 es)) (tied_itself nat_cmp_total e.0))
      (all_behind e es es (front_of _ _ sorted) (each_found es (rest_of _ _ sorted)))

  -- what a search finds passes, and holds what all do
  search_found : (p : ℕ × X → Bool) (P : ℕ × X → Type 0) (es : List (ℕ × X)) (e : ℕ × X) → All P es → find p es ≡ Some e → P e × (p e ≡ true)
  search_found p P [] e all is = let d : None ≡ Some e = is in cc
  search_found p P (x ∷ es) e all is =
      elim (p x) as (λ t. p x ≡ t → cond t (Some x) (find p es) ≡ Some e → P e × (p e ≡ true)) [
        | true ↦ λ passes at. let same : x ≡ e = cc in
            subst (λ (y : ℕ × X). P y × (p y ≡ true)) same (All-head P x es all, passes)
        | false ↦ λ passes at. search_found p P es e (All-tail P x es all) at
      ] refl is

  -- where a search finds none, what is found by a key doesn't pass
  search_none : (p : X → Bool) (es : List (ℕ × X)) → find (λ (e : ℕ × X). p e.1) es ≡ None → (k : ℕ) (x : X) → finite.find nat_cmp k es ≡ Some x → p x ≡ false
  search_none p [] none k x is = let d : None ≡ Some x = is in cc
  search_none p (e ∷ es) none k x is =
      elim (p e.1) as (λ t. p e.1 ≡ t → cond t (Some e) (find (λ (e : ℕ × X). p e.1) es) ≡ None → p x ≡ false) [
        | true ↦ λ passes at. let d : Some e ≡ None = at in cc
        | false ↦ λ passes at. by (is_eq (nat_cmp k e.0)) (search_none p es at k x) passes is
      ] refl none
    where
      by : (t : Bool) → (finite.find nat_cmp k es ≡ Some x → p x ≡ false) → p e.1 ≡ false → cond t (Some e.1) (finite.find nat_cmp k es) ≡ Some x → p x ≡ false
      by true later fails at = let same : e.1 ≡ x = cc in subst (λ (y : X). p y ≡ false) same fails
      by false later fails at = later at

-- each thing of a world is at its address
pub things_found : (w : World) → All (λ (e : ℕ × Thing). thing_at w e.0 ≡ Some e.1) (finite.entries w.things)
things_found w = by (finite.entries w.things) (each_found (finite.entries w.things) (finite.entries_sorted w.things))
  where
    by : (fs : List (ℕ × Thing)) → All (λ (e : ℕ × Thing). finite.find nat_cmp e.0 (finite.entries w.things) ≡ Some e.1) fs →
        All (λ (e : ℕ × Thing). thing_at w e.0 ≡ Some e.1) fs
    by [] all = All-nil (λ (e : ℕ × Thing). thing_at w e.0 ≡ Some e.1)
    by (f ∷ fs) all =
        All-cons (λ (e : ℕ × Thing). thing_at w e.0 ≡ Some e.1) f fs
        (finite.get-entries w.things f.0 ∙ All-head (λ (e : ℕ × Thing). finite.find nat_cmp e.0 (finite.entries w.things) ≡ Some e.1) f fs all)
        (by fs (All-tail (λ (e : ℕ × Thing). finite.find nat_cmp e.0 (finite.entries w.things) ≡ Some e.1) f fs all))

-- a source of a raw object
pub record Names (w : World) (raw addr : ℕ) : Type 0 where
  pub source : ZcoSource
  pub there : thing_at w addr ≡ Some (things.Source source)
  pub named : is_of_raw raw source.subject ≡ true

module _ (w : World) (raw : ℕ) where
  names_of : (addr : ℕ) (thing : Thing) → thing_at w addr ≡ Some thing → names_raw raw thing ≡ true → Names w raw addr
  names_of addr (things.Source source) there named = record { source = source; there = there; named = named }
  names_of addr (things.Raw bytes) there named = let d : false ≡ true = named in cc
  names_of addr (things.Text text) there named = let d : false ≡ true = named in cc
  names_of addr (things.List list) there named = let d : false ≡ true = named in cc
  names_of addr (things.Table table) there named = let d : false ≡ true = named in cc
  names_of addr (things.Hash hash) there named = let d : false ≡ true = named in cc
  names_of addr (things.Object z) there named = let d : false ≡ true = named in cc

  -- the source that names a raw object is there
  pub source_there : (addr : ℕ) → source_naming w raw ≡ Some addr → Names w raw addr
  source_there addr is = by (find (λ (e : ℕ × Thing). names_raw raw e.1) (finite.entries w.things)) refl is
    where
      by : (o : Option (ℕ × Thing)) → find (λ (e : ℕ × Thing). names_raw raw e.1) (finite.entries w.things) ≡ o → option_map (λ (e : ℕ × Thing). e.0) o ≡ Some addr → Names w raw addr
      by None at key = let d : None ≡ Some addr = key in cc
      by (Some e) at key =
          let f = search_found (λ (e : ℕ × Thing). names_raw raw e.1) (λ (e : ℕ × Thing). thing_at w e.0 ≡ Some e.1) (finite.entries w.things) e (things_found w) at in
          let same : e.0 ≡ addr = cc in
          subst (Names w raw) same (names_of e.0 e.1 f.0 f.1)

  -- and is the one that is told
  pub source_told : FitTogether w → (addr : ℕ) (source : ZcoSource) → thing_at w addr ≡ Some (things.Source source) → is_of_raw raw source.subject ≡ true →
      source_naming w raw ≡ Some addr
  source_told fits addr source there named = by (find (λ (e : ℕ × Thing). names_raw raw e.1) (finite.entries w.things)) refl
    where
      same_one : (other : ℕ) → Names w raw other → other ≡ addr
      same_one other n =
          let first = subst (λ (o : Option Thing). IfSome o (λ s. IfSome (thing_at w addr) (λ t. names_raw raw s ≡ true → names_raw raw t ≡ true → other ≡ addr))) n.there
          (fits.alone raw other addr) in
          subst (λ (o : Option Thing). IfSome o (λ t. names_raw raw (things.Source n.source) ≡ true → names_raw raw t ≡ true → other ≡ addr)) there first n.named named

      by : (o : Option (ℕ × Thing)) → find (λ (e : ℕ × Thing). names_raw raw e.1) (finite.entries w.things) ≡ o → source_naming w raw ≡ Some addr
      by None at =
          let fails = search_none (names_raw raw) (finite.entries w.things) at addr (things.Source source) (sym (finite.get-entries w.things addr) ∙ there) in
          let d : false ≡ true = sym fails ∙ named in
          cc
      by (Some e) at =
          let told : source_naming w raw ≡ Some e.0 = ap (option_map (λ (e : ℕ × Thing). e.0)) at in
          told ∙ ap Some (same_one e.0 (source_there e.0 told))
