-- What is found among the entries of a finite map stands there, and so the source of a raw object.
use Rattle.std.proofs.Common.{◌≡◌, ◌∙◌, ℕ, ◌==◌, ◌&&◌, List, [], ◌∷◌, Bool, true, false, true≢false, cond, T, Option, None, Some, refl, sym, ap, subst, arith}
use Rattle.std.specs.Prelude.{IfSome, find}
use Rattle.std.specs.Cmp.{nat_cmp_total, tied_itself}
use Rattle.std.specs.FinMap.Entries.{below_all}
use Rattle.std.specs.FinMap as finite
use Rattle.std.specs.Option.{option_map}
use Rattle.std.specs.Ordering.{nat_cmp, is_eq, is_lt}
use Rattle.std.specs.declared.cmp.Ordering.{Ordering}
use Rattle.std.specs.declared.cmp.Ordering.TheVariants.{Less, Equal, Greater}
use Rattle.std.proofs.lemmas.Bool.Decides.{nat_tests}
use Rattle.sdr_model.specs.Valid.{FitTogether, HasBytes, HasSubject}
use Rattle.sdr_model.specs.World.{World, as_raw, thing_at}
use Rattle.sdr_model.specs.Zco.{as_source, is_of_raw, names_raw, source_naming}
use Rattle.sdr_model.specs.declared.things.Thing.{Thing}
use Rattle.sdr_model.specs.declared.things.Thing.TheVariants as things
use Rattle.sdr_model.specs.declared.zco.Subject.{Subject}
use Rattle.sdr_model.specs.declared.zco.Subject.TheVariants as subjects
use Rattle.sdr_model.specs.declared.zco.ZcoSource.{ZcoSource}

-- no key of entries that a key is below is that key
above : {X : Type 0} (k : ℕ) (es : List (ℕ × X)) → T (below_all nat_cmp k es) → finite.find nat_cmp k es ≡ None
above k [] h = refl
above k (e ∷ es) h =
    elim (nat_cmp k e.0) as
    (λ o. T (is_lt o && below_all nat_cmp k es) → cond (is_eq o) (Some e.1) (finite.find nat_cmp k es) ≡ None) [
      | Less ↦ λ h. above k es h
      | Equal ↦ λ h. absurd h
      | Greater ↦ λ h. absurd h
    ] h

both : (a b : Bool) → T (a && b) → T a × T b
both true b h = (tt, h)
both false b h = absurd h

-- an entry that is found stands at its key
pub found_entry : {X : Type 0} (p : X → Bool) (es : List (ℕ × X)) → T (finite.is_sorted nat_cmp es) → (e : ℕ × X)
    → find (λ x. p x.1) es ≡ Some e → finite.find nat_cmp e.0 es ≡ Some e.1
found_entry p [] sorted e is = absurd cc
found_entry {X} p (x ∷ xs) sorted e is = step (found_entry p xs parts.1 e) (p x.1) is
  where
    parts : T (below_all nat_cmp x.0 xs) × T (finite.is_sorted nat_cmp xs)
    parts = both (below_all nat_cmp x.0 xs) (finite.is_sorted nat_cmp xs) sorted

    later : (o : Ordering) → nat_cmp e.0 x.0 ≡ o → finite.find nat_cmp e.0 xs ≡ Some e.1
        → cond (is_eq o) (Some x.1) (finite.find nat_cmp e.0 xs) ≡ Some e.1
    later Less o_is rest = rest
    later Greater o_is rest = rest
    later Equal o_is rest =
        let same : e.0 ≡ x.0 = finite.nat_cmp-IsAntisymmetric e.0 x.0 o_is in
        let none : finite.find nat_cmp e.0 xs ≡ None = ap (λ k. finite.find nat_cmp k xs) same ∙ above x.0 xs parts.0 in
        absurd (let no : None ≡ Some e.1 = sym none ∙ rest in cc)

    step : (find (λ y. p y.1) xs ≡ Some e → finite.find nat_cmp e.0 xs ≡ Some e.1) → (b : Bool)
        → cond b (Some x) (find (λ y. p y.1) xs) ≡ Some e
        → cond (is_eq (nat_cmp e.0 x.0)) (Some x.1) (finite.find nat_cmp e.0 xs) ≡ Some e.1
    step rest true here =
        let same : x ≡ e = cc in
        subst (λ (y : ℕ × X). cond (is_eq (nat_cmp y.0 x.0)) (Some x.1) (finite.find nat_cmp y.0 xs) ≡ Some y.1) same
        (ap (λ o. cond (is_eq o) (Some x.1) (finite.find nat_cmp x.0 xs)) (tied_itself nat_cmp_total x.0))
    step rest false here = later (nat_cmp e.0 x.0) refl (rest here)

-- and it passes
pub passes : {X : Type 0} (p : X → Bool) (es : List X) → (e : X) → find p es ≡ Some e → p e ≡ true
passes p [] e is = absurd cc
passes {X} p (x ∷ xs) e is = step (passes p xs e) (p x) refl is
  where
    step : (find p xs ≡ Some e → p e ≡ true) → (b : Bool) → p x ≡ b → cond b (Some x) (find p xs) ≡ Some e → p e ≡ true
    step rest true test here = let same : x ≡ e = cc in subst (λ (y : X). p y ≡ true) same test
    step rest false test here = rest here

-- a source of a raw object
pub record Names (w : World) (raw addr : ℕ) : Type 0 where
  pub source : ZcoSource
  pub there : thing_at w addr ≡ Some (things.Source source)
  pub named : is_of_raw raw source.subject ≡ true

-- the source that names a raw object is there
pub source_there : (w : World) (raw addr : ℕ) → source_naming w raw ≡ Some addr → Names w raw addr
source_there w raw addr is = by (find (λ e. names_raw raw e.1) (finite.entries w.things)) refl is
  where
    of : (k : ℕ) (t : Thing) → names_raw raw t ≡ true → thing_at w k ≡ Some t → Names w raw k
    of k (things.Source source) names there = record { source = source; there = there; named = names }
    of k thing names there = absurd (true≢false (sym names))

    by : (o : Option (ℕ × Thing)) → find (λ e. names_raw raw e.1) (finite.entries w.things) ≡ o
        → option_map (λ (e : ℕ × Thing). e.0) o ≡ Some addr → Names w raw addr
    by None found key = absurd cc
    by (Some e) found key =
        let same : e.0 ≡ addr = cc in
        subst (λ (k : ℕ). Names w raw k) same
        (of e.0 e.1 (passes (λ (x : ℕ × Thing). names_raw raw x.1) (finite.entries w.things) e found)
        (finite.get-entries w.things e.0 ∙ found_entry (names_raw raw) (finite.entries w.things) (finite.entries_sorted w.things)
        e found))

-- no source names a raw object where nothing is
pub none_named : (w : World) (raw : ℕ) → FitTogether w → thing_at w raw ≡ None → source_naming w raw ≡ None
none_named w raw fits none = by (source_naming w raw) refl
  where
    no_raw : (bytes a : ℕ) → (a == raw) ≡ true → HasBytes bytes (as_raw (thing_at w a)) → ⊥
    no_raw bytes a named has =
        let same : a ≡ raw = grind (arith, nat_tests, named) in
        subst (λ o. HasBytes bytes (as_raw o)) (ap (thing_at w) same ∙ none) has

    no_subject : (bytes : ℕ) (s : Subject) → is_of_raw raw s ≡ true → HasSubject w bytes s → ⊥
    no_subject bytes (subjects.Heap a) named has = no_raw bytes a named has
    no_subject bytes (subjects.Obj a) named has = no_raw bytes a named has
    no_subject bytes (subjects.File path) named has = true≢false (sym named)
    no_subject bytes (subjects.Bulk item) named has = true≢false (sym named)

    by : (o : Option ℕ) → source_naming w raw ≡ o → source_naming w raw ≡ None
    by None is = is
    by (Some addr) is =
        let n = source_there w raw addr is in
        absurd (no_subject n.source.length n.source.subject n.named
        (subst (λ o. IfSome o (λ (source : ZcoSource). HasSubject w source.length source.subject)) (ap as_source n.there)
        (fits.subjects addr)))
