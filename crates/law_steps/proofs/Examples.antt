-- The example is a valid world, and steps from it are as the laws take them.
use Rattle.std.proofs.Common.{◌≤◌, ◌≡◌, ◌==◌, ◌&&◌, ◌+◌, ℕ, zero, suc, length, List, [], ◌∷◌, ◌++◌, Bool, true, false, cond, Option, Some, None, inl, inr, map, nat_eq, refl, sym, ap, ap₂, ◌∙◌, subst, arith, rules}
use Rattle.std.specs.FinMap.{empty, entries-from_sorted, get-empty, get-from_sorted, len-empty, len-entries}
use Rattle.std.proofs.lemmas.List.{nil_from_length}
use Rattle.std.proofs.lemmas.List.Elements.{All-nil}
use Rattle.std.specs.List.{IsDistinct, flat_map, sum_by}
use Rattle.std.specs.Ordering.{nat_cmp, eq_by_cmp}
use Rattle.std.specs.Prelude.{All, Contains, IfSome}
use Rattle.std.proofs.lemmas.List.Sorted.{IsNonDecreasingBy-short}
use Rattle.sdr_base.specs.declared.account.Acct.TheVariants as accts
use Rattle.sdr_base.specs.declared.moves.Move.TheVariants.{Gave, Short, Took}
use Rattle.sdr_base.specs.declared.refusal.Refusal.TheVariants as refusals
use Rattle.law_steps.proofs.DistinctLemmas.{not_contained}
use Rattle.law_steps.specs.Example.{example, example_accounts, example_blocks, example_extent, example_hash, example_list, example_longer, example_object, example_raw, example_source, example_things}
use Rattle.law_steps.specs.Fresh.{AreFresh}
use Rattle.sdr_model.proofs.ThingsLemmas.{same_address}
use Rattle.sdr_model.specs.Accounts.{ticket_blocks}
use Rattle.sdr_model.specs.Blocks.{addresses_of, blocks_of, thing_blocks}
use Rattle.sdr_model.specs.Gone.{source_blocks}
use Rattle.sdr_model.specs.HashSteps.{bucket_of}
use Rattle.sdr_model.specs.Limits.{longest_name}
use Rattle.sdr_model.specs.ListSteps.{as_list, Inserts}
use Rattle.sdr_model.specs.RowMoves.{destroyed_blocks, elements_in, row_moves}
use Rattle.sdr_model.specs.Rows.{ByRow}
use Rattle.sdr_model.specs.Step.{Step}
use Rattle.sdr_model.specs.Steps.{On, Outcome, gave}
use Rattle.sdr_model.specs.Things.{block_for_name}
use Rattle.sdr_model.specs.Valid.{IsBetween, IsValid, IsValidCapsule, IsValidHash, IsValidObject, IsValidSource, IsValidThing, keys_of}
use Rattle.sdr_model.specs.World.{empty_world, thing_at}
use Rattle.sdr_model.specs.Zco.{as_object, as_source, source_at, uses_in, uses_of}
use Rattle.sdr_model.specs.declared.answer.Reply.TheVariants as replies
use Rattle.sdr_model.specs.declared.call.Call.TheVariants as calls
use Rattle.sdr_model.specs.declared.things.Thing.{Thing}
use Rattle.sdr_model.specs.declared.things.Thing.TheVariants as things
use Rattle.sdr_model.specs.declared.zco.Extent.{Extent}
use Rattle.sdr_model.specs.declared.zco.ZcoSource.{ZcoSource}

-- the blocks of the example
pub example_is : blocks_of example ≡ example_blocks
example_is = ap
    (λ (es : List (ℕ × Thing)). flat_map (λ e. thing_blocks e.0 e.1) es ++ map block_for_name example.names
    ++ ticket_blocks example_accounts)
    (entries-from_sorted nat_cmp example_things tt)

-- where they begin
abbrev all_addresses : List ℕ
all_addresses = 8 ∷ 16 ∷ 24 ∷ 32 ∷ 40 ∷ 56 ∷ 64 ∷ 72 ∷ 80 ∷ 88 ∷ 48 ∷ 96 ∷ []

example_addresses : addresses_of (blocks_of example) ≡ all_addresses
example_addresses = ap addresses_of example_is

example_distinct : IsDistinct nat_eq all_addresses
unfolding IsDistinct
example_distinct = search rules

-- a list of one
pub one : {X : Type 0} (P : X → Type 0) (x : X) → P x → All P (x ∷ [])
one P x is zero d within = is
one P x is (suc k) d within = absurd (omega (arith, within))

one_distinct : {K : Type 0} (eq : K → K → Bool) (k : K) → IsDistinct eq (k ∷ [])
unfolding IsDistinct
one_distinct eq k = (tt, tt)

-- what holds of the five things of the example holds of each thing there
pub each : (P : ℕ → Thing → Type 0) → P 8 (things.List example_list) → P 32 (things.Hash example_hash)
    → P 56 (things.Raw example_raw) → P 64 (things.Source example_source) → P 72 (things.Object example_object)
    → (addr : ℕ) → IfSome (thing_at example addr) (P addr)
each P list hash raw source object addr =
    subst (λ t. IfSome t (P addr)) (sym (get-from_sorted nat_cmp example_things addr tt))
    (by (is 8) (is 32) (is 56) (is 64) (is 72) refl refl refl refl refl)
  where
    is : ℕ → Bool
    is k = eq_by_cmp nat_cmp addr k

    at : (k : ℕ) (t : Thing) → P k t → is k ≡ true → P addr t
    at k t p here = subst (λ q. P q t) (sym (same_address addr k here)) p

    by : (a b c d e : Bool) → is 8 ≡ a → is 32 ≡ b → is 56 ≡ c → is 64 ≡ d → is 72 ≡ e
        → IfSome (cond a (Some (things.List example_list)) (cond b (Some (things.Hash example_hash))
        (cond c (Some (things.Raw example_raw)) (cond d (Some (things.Source example_source))
        (cond e (Some (things.Object example_object)) None))))) (P addr)
    by true b c d e is8 is32 is56 is64 is72 = at 8 (things.List example_list) list is8
    by false true c d e is8 is32 is56 is64 is72 = at 32 (things.Hash example_hash) hash is32
    by false false true d e is8 is32 is56 is64 is72 = at 56 (things.Raw example_raw) raw is56
    by false false false true e is8 is32 is56 is64 is72 = at 64 (things.Source example_source) source is64
    by false false false false true is8 is32 is56 is64 is72 = at 72 (things.Object example_object) object is72
    by false false false false false is8 is32 is56 is64 is72 = tt

-- its hash, its source and its object
hash_is_valid : IsValidHash example_hash
hash_is_valid = record {
  key_length = (omega arith, omega arith);
  buckets = (omega arith, omega arith);
  keys = one (λ key. length key ≡ 1) (65 ∷ []) refl;
  distinct_keys = one_distinct _ _;
  by_bucket = IsNonDecreasingBy-short (bucket_of 2) (keys_of example_hash) (omega arith);
}

source_is_valid : IsValidSource example_source
source_is_valid = record { subject = tt; length = omega arith; unflagged = λ _. refl }

object_is_valid : IsValidObject example_object
object_is_valid = record {
  headers = one IsValidCapsule (record { block = 80; text = 72 ∷ [] }) (omega arith, omega arith);
  trailers = All-nil _;
  extents = one (λ (e : Extent). 1 ≤ e.length) example_extent (omega arith);
  part = omega arith;
}

-- the empty world has no blocks
pub empty_addresses : addresses_of (blocks_of empty_world) ≡ []
empty_addresses = ap (λ (es : List (ℕ × Thing)). addresses_of (flat_map (λ e. thing_blocks e.0 e.1) es ++ [] ++ []))
    (nil_from_length _ (sym (len-entries (empty {K = ℕ} {X = Thing} {R = nat_cmp})) ∙ len-empty nat_cmp Thing))

none_distinct : {K : Type 0} (eq : K → K → Bool) → IsDistinct eq []
unfolding IsDistinct
none_distinct eq = tt

pub empty_is_valid : IsValid empty_world
empty_is_valid = record {
  things = λ addr. subst (λ t. IfSome t IsValidThing) (sym (get-empty nat_cmp addr)) tt;
  names = All-nil _;
  distinct_names = none_distinct _;
  nonzero = subst (λ addrs. ¬ Contains addrs 0) (sym empty_addresses) (not_contained 0 [] refl);
  distinct_addresses = subst (IsDistinct nat_eq) (sym empty_addresses) (none_distinct nat_eq);
}

pub example_is_valid : IsValid example
example_is_valid = record {
  things = each (λ addr thing. IsValidThing thing) tt hash_is_valid (omega arith) source_is_valid object_is_valid;
  names = one (λ name. IsBetween 1 longest_name (length name)) (103 ∷ []) (omega arith, omega arith);
  distinct_names = one_distinct _ _;
  nonzero = subst (λ addrs. ¬ Contains addrs 0) (sym example_addresses) (not_contained 0 all_addresses refl);
  distinct_addresses = subst (IsDistinct nat_eq) (sym example_addresses) example_distinct;
}

-- a list at 8 takes one more element at 104, which is fresh
row_grows : ByRow example (record { moves = Took 32 104 ∷ []; after = example_longer; reply = replies.At 104 })
    (calls.InsertLast 8 9)
row_grows =
    let o : Outcome = record { moves = Took 32 104 ∷ []; after = example_longer; reply = replies.At 104 } in
    subst (λ t. On example o 8 (as_list t) (λ row. Inserts example o 8 row (length row.elements) 9))
    (sym (get-from_sorted nat_cmp example_things 8 tt)) (refl, (refl, refl))

pub example_grows : Step example (calls.InsertLast 8 9) (Took 32 104 ∷ []) example_longer (replies.At 104)
example_grows = inl row_grows

pub example_fresh : AreFresh (addresses_of (blocks_of example)) (Took 32 104 ∷ [])
example_fresh = (
  (λ zero. omega (arith, zero)),
  subst (λ addrs. ¬ Contains addrs 104) (sym example_addresses)
      (not_contained 104 all_addresses refl),
  tt,
)

-- where no block is left, the call stops before it
pub example_short : Step example (calls.InsertLast 8 9) (Short 32 ∷ []) example (replies.Refused (refusals.NoBlock 32))
example_short = inr (record {
  aim = record { moves = Took 32 104 ∷ []; after = example_longer; reply = replies.At 104 };
  row = row_grows;
  answered = refl;
  stopped = record { done = []; addr = 104; rest = []; whole = refl; short = refl };
  same = refl;
})

-- what destroying the list gives back
pub example_list_goes : (at : ℕ → ℕ) → row_moves example (calls.ListDestroy 8) at ≡ Gave 16 ∷ Gave 24 ∷ Gave 8 ∷ []
example_list_goes at = ap (λ t. gave (elements_in (as_list t) ++ 8 ∷ [])) (get-from_sorted nat_cmp example_things 8 tt)

-- the source is there, and named once
pub source_there : source_at example 64 ≡ Some example_source
source_there = ap as_source (get-from_sorted nat_cmp example_things 64 tt)

pub named_once : uses_of example 64 ≡ 1
named_once = ap
    (λ (es : List (ℕ × Thing)). sum_by (λ e. uses_in 64 accts.Inbound e.1) es
    + sum_by (λ e. uses_in 64 accts.Outbound e.1) es)
    (entries-from_sorted nat_cmp example_things tt)

-- so it goes with the object's extent, behind the raw object that it has taken over
pub example_object_goes : (at : ℕ → ℕ)
    → row_moves example (calls.Destroy 72) at ≡ Gave 80 ∷ Gave 56 ∷ Gave 64 ∷ Gave 88 ∷ Gave 72 ∷ []
example_object_goes at =
    ap (λ t. gave (destroyed_blocks example 72 (as_object t))) (get-from_sorted nat_cmp example_things 72 tt)
    ∙ ap₂ (λ (uses : ℕ) (source : Option ZcoSource).
    gave (80 ∷ (cond (uses == 1 && true) (source_blocks 64 source) [] ++ 88 ∷ []) ++ [] ++ 72 ∷ [])) named_once source_there
