-- Which raw objects sources name, where the things change at one address.
use Rattle.std.proofs.Common.{◌≡◌, ◌+◌, ◌==◌, ℕ, List, [], ◌∷◌, Bool, true, false, cond, Option, Some, None, ap, sym, ◌∙◌, refl, arith, eqb-true}
use Rattle.std.proofs.lemmas.List.Sums.{sum_by-cons}
use Rattle.std.specs.BTreeMap.{BTreeMap, get as noted_at, is_at}
use Rattle.std.specs.FinMap.{empty, entries, get, remove}
use Rattle.std.specs.List.{sum_by}
use Rattle.std.specs.Option.{option_map}
use Rattle.std.specs.Ordering.{nat_cmp}
use Rattle.std.specs.Prelude.{IfSome, find, if◌then◌else◌}
use Rattle.sdr_model.specs.Things.{Things}
use Rattle.sdr_model.specs.Zco.{is_of_raw, names_raw, raw_of, source_naming}
use Rattle.sdr_model.specs.declared.things.Thing.{Thing}
use Rattle.sdr_model.specs.declared.things.Thing.TheVariants as things
use Rattle.sdr_model.specs.declared.zco.Subject.{Subject}
use Rattle.sdr_model.specs.declared.zco.Subject.TheVariants as subjects
use Rattle.sdr_model.proofs.SumLemmas.{counted_at, sum_by-removed}
use Rattle.sdr_model.proofs.ThingsLemmas.{at_itself}
use Rattle.mem_store.specs.Charged.{world_of}
use Rattle.mem_store.specs.Tallies.{AreNoted, raw_named, sources_on}
use Rattle.mem_store.proofs.PlacesLemmas.{entries-empty}

-- whether the thing at an entry is a source of a raw object, as a number
abbrev names_it : ℕ → ℕ × Thing → ℕ
names_it raw e = if names_raw raw e.1 then 1 else 0

-- what names no raw object isn't counted
names-none : (raw k : ℕ) (o : Option Thing) → raw_named o ≡ None → counted_at (names_it raw) k o ≡ 0
names-none raw k None is = refl
names-none raw k (Some (things.Source s)) is = by s.subject is
  where
    by : (s : Subject) → raw_of s ≡ None → ◌≡◌ {A = ℕ} (if is_of_raw raw s then 1 else 0) 0
    by (subjects.Heap r) is = absurd cc
    by (subjects.Obj r) is = absurd cc
    by (subjects.File path) is = refl
    by (subjects.Bulk item) is = refl
names-none raw k (Some t) is = refl

-- what names another raw object isn't either
names-other : (raw k r : ℕ) (o : Option Thing) → raw_named o ≡ Some r → (r == raw) ≡ false → counted_at (names_it raw) k o ≡ 0
names-other raw k r None is apart = refl
names-other raw k r (Some (things.Source s)) is apart = by s.subject is
  where
    by : (s : Subject) → raw_of s ≡ Some r → ◌≡◌ {A = ℕ} (if is_of_raw raw s then 1 else 0) 0
    by (subjects.Heap a) is =
        let same : a ≡ r = cc in ap {B = ℕ} (λ b. if b then 1 else 0) (ap (λ a. a == raw) same ∙ apart)
    by (subjects.Obj a) is =
        let same : a ≡ r = cc in ap {B = ℕ} (λ b. if b then 1 else 0) (ap (λ a. a == raw) same ∙ apart)
    by (subjects.File path) is = refl
    by (subjects.Bulk item) is = refl
names-other raw k r (Some t) is apart = refl

module _ (all : Things) (k : ℕ) (raws : BTreeMap ℕ ℕ) where
  -- all that the other things name is noted, so all is where this names nothing
  pub AreNoted-other : raw_named (get all k) ≡ None → AreNoted (remove all k) raws → AreNoted all raws
  AreNoted-other here are = record {
    none = λ raw absent.
        omega (arith, sum_by-removed (names_it raw) all k, are.none raw absent, names-none raw k (get all k) here);
  }

  -- so it is where what this names is noted too
  pub AreNoted-noted : (new : BTreeMap ℕ ℕ) (r : ℕ) → raw_named (get all k) ≡ Some r
      → ((q : ℕ) → noted_at nat_cmp new q ≡ cond (is_at (nat_cmp r) q) (Some k) (noted_at nat_cmp raws q))
      → AreNoted (remove all k) raws → AreNoted all new
  AreNoted-noted new r here now are = record {
    none = λ raw absent. by raw (is_at (nat_cmp r) raw) refl (sym (now raw) ∙ absent);
  }
    where
      apart : (raw : ℕ) (b : Bool) → (r == raw) ≡ b → is_at (nat_cmp r) raw ≡ false → (r == raw) ≡ false
      apart raw false is at = is
      apart raw true is at =
          let alike : is_at (nat_cmp r) raw ≡ true = ap (is_at (nat_cmp r)) (sym (eqb-true r raw is)) ∙ at_itself r in cc

      by : (raw : ℕ) (b : Bool) → is_at (nat_cmp r) raw ≡ b → cond b (Some k) (noted_at nat_cmp raws raw) ≡ None → sources_on raw all ≡ 0
      by raw true at absent = absurd cc
      by raw false at absent =
          omega (
            arith,
            sum_by-removed (names_it raw) all k,
            are.none raw absent,
            names-other raw k r (get all k) here (apart raw (r == raw) refl at),
          )

  pub noted-noted : (o : Option (BTreeMap ℕ ℕ)) (r : ℕ) → raw_named (get all k) ≡ Some r
      → IfSome o (λ new. (q : ℕ) → noted_at nat_cmp new q ≡ cond (is_at (nat_cmp r) q) (Some k) (noted_at nat_cmp raws q))
      → AreNoted (remove all k) raws → IfSome o (AreNoted all)
  noted-noted None r here now are = now
  noted-noted (Some new) r here now are = AreNoted-noted new r here now are

  -- it stays so where this goes
  pub AreNoted-left : AreNoted all raws → AreNoted (remove all k) raws
  AreNoted-left are = record { none = λ raw absent. omega (arith, sum_by-removed (names_it raw) all k, are.none raw absent) }

pub noted-left : (all : Things) (k : ℕ) (o : Option (BTreeMap ℕ ℕ)) → IfSome o (AreNoted all) → IfSome o (AreNoted (remove all k))
noted-left all k None are = are
noted-left all k (Some raws) are = AreNoted-left all k raws are

-- no things name nothing
pub AreNoted-empty : (raws : BTreeMap ℕ ℕ) → AreNoted empty raws
AreNoted-empty raws = record { none = λ raw absent. ap (sum_by (names_it raw)) entries-empty }

-- where none is counted that names a raw object, none is found
none_found : (raw : ℕ) (es : List (ℕ × Thing)) → sum_by (names_it raw) es ≡ 0
    → option_map (λ (e : ℕ × Thing). e.0) (find (λ e. names_raw raw e.1) es) ≡ None
none_found raw [] is = refl
none_found raw (e ∷ es) is =
    by (names_raw raw e.1) (sym (sum_by-cons (names_it raw) e es) ∙ is) (none_found raw es)
  where
    by : (b : Bool) → (if b then 1 else 0) + sum_by (names_it raw) es ≡ 0
        → (sum_by (names_it raw) es ≡ 0 → option_map (λ (e : ℕ × Thing). e.0) (find (λ e. names_raw raw e.1) es) ≡ None)
        → option_map (λ (e : ℕ × Thing). e.0) (cond b (Some e) (find (λ e. names_raw raw e.1) es)) ≡ None
    by true is rest = absurd (omega (arith, is))
    by false is rest = rest (omega (arith, is))

pub no_source : (all : Things) (raw : ℕ) → sources_on raw all ≡ 0 → source_naming (world_of all) raw ≡ None
no_source all raw is = none_found raw (entries all) is
