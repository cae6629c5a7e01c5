-- A fresh heap stands for the world without things.
use Rattle.std.proofs.Common.{◌≡◌, ◌≤◌, lit≤, ℕ, ◌+◌, ◌*◌, List, [], ◌++◌, Bool, arith, refl, sym, ap, ◌∙◌, subst}
use Rattle.std.proofs.lemmas.List.{nil_from_length}
use Rattle.std.specs.FinMap.{empty, entries, get-empty, len-empty, len-entries}
use Rattle.std.specs.List.{Contains, IsDistinct, flat_map, sum_by}
use Rattle.std.specs.Prelude.{IfSome, nat_eq}
use Rattle.std.proofs.lemmas.List.Elements.{All-nil}
use Rattle.std.specs.Ordering.{nat_cmp}
use Rattle.sdr_base.specs.Entries.{BlocksAre, at, times}
use Rattle.sdr_base.specs.FreshHeap.{fresh_heap}
use Rattle.sdr_base.specs.KeptHeap.{block_in}
use Rattle.sdr_base.specs.Linked.{linked}
use Rattle.sdr_base.specs.Pools.{fresh_pools}
use Rattle.sdr_base.specs.Roots.{root_words, roots_by, account_words}
use Rattle.sdr_base.proofs.FreshBlocksLemmas.{fresh_block, fresh_keeps_heap, fresh_root, fresh_roots}
use Rattle.sdr_base.specs.declared.account.Acct.{Acct}
use Rattle.sdr_base.specs.declared.account.Acct.TheVariants as accts
use Rattle.sdr_base.specs.declared.control.TheConstants.{HEAP_VERSION}
use Rattle.sdr_base.specs.declared.kind.Space.{Space}
use Rattle.sdr_model.specs.Accounts.{fresh_maxima}
use Rattle.sdr_model.specs.Amounts.{amounts_by}
use Rattle.sdr_model.specs.Blocks.{addresses_of, blocks_of, thing_blocks}
use Rattle.sdr_model.specs.Fields.{FitsFields, FitsThing, IsWord}
use Rattle.sdr_model.specs.Valid.{IsValid, IsValidThing}
use Rattle.sdr_model.specs.Charges.{occupancy, thing_charge}
use Rattle.sdr_model.specs.World.{fresh_world}
use Rattle.sdr_model.specs.declared.things.Thing.{Thing}
use Rattle.law_steps.proofs.FreshWorlds as laws
use Rattle.sdr_stands.specs.Standing.{StandsFor, StandsForWhole, entries_of, other_entries, roots_of, thing_entries}
use Rattle.sdr_stands.specs.Ties.{ties_of}

-- no thing is there
no_things : entries (empty {K = ℕ} {X = Thing} {R = nat_cmp}) ≡ []
no_things = nil_from_length _ (sym (len-entries (empty {K = ℕ} {X = Thing} {R = nat_cmp})) ∙ len-empty nat_cmp Thing)

-- so it has no block
no_entries : (heap : ℕ) → entries_of (fresh_world heap) ≡ []
unfolding linked
no_entries heap =
    ap
    (λ (es : List (ℕ × Thing)). flat_map (λ e. thing_entries (ties_of (fresh_world heap)) e.0 e.1) es
    ++ other_entries (fresh_world heap))
    no_things

-- nothing is occupied
nothing_occupied : (heap : ℕ) (acct : Acct) (space : Space) → occupancy (fresh_world heap) acct space ≡ 0
nothing_occupied heap accts.Inbound space =
    ap (λ (es : List (ℕ × Thing)). sum_by (λ e. thing_charge (fresh_world heap) accts.Inbound space e.0 e.1) es + 0) no_things
nothing_occupied heap accts.Outbound space =
    ap (λ (es : List (ℕ × Thing)). sum_by (λ e. thing_charge (fresh_world heap) accts.Outbound space e.0 e.1) es + 0) no_things

-- an account's words, by what is occupied
abbrev account_with : ℕ → (Space → ℕ) → List ℕ
account_with heap occupied = account_words (amounts_by occupied) (amounts_by (fresh_maxima heap)) 0 0

-- the control words
same_words : (lines : ℕ) → roots_by (fresh_roots lines) ≡ roots_of (fresh_world (32 * lines))
same_words lines =
    ap
    (λ (occupied : Acct → Space → ℕ). roots_by
    (root_words HEAP_VERSION 0 0 (account_with (32 * lines) (occupied accts.Inbound))
    (account_with (32 * lines) (occupied accts.Outbound)) 1))
    (λ i acct space. sym (nothing_occupied (32 * lines) acct space) i)

-- A fresh heap of so many lines stands for the world without things, whose accounts have 32 bytes of heap space for each
-- line, and whose next ticket is number 1.
pub fresh_stands : (lines : ℕ) → 32 ≤ lines → lines ≤ 262144 →
    StandsFor (fresh_heap lines) (fresh_world (32 * lines)) (fresh_pools lines)
unfolding at times
fresh_stands lines least most = record {
  heap = fresh_keeps_heap lines least most;
  blocks = subst (λ es. BlocksAre (block_in (fresh_heap lines)) es) (sym (no_entries (32 * lines))) (record {
    same = λ addr. fresh_block lines addr least;
    once = λ addr. lit≤ tt;
    null = refl;
  });
  roots = (λ i word. fresh_root lines word least most i) ∙ same_words lines;
  marks = refl;
  shown = refl;
  taken = refl;
}

-- the world without things has no block
no_blocks : (heap : ℕ) → addresses_of (blocks_of (fresh_world heap)) ≡ []
no_blocks heap =
    ap (λ (es : List (ℕ × Thing)). addresses_of (flat_map (λ e. thing_blocks e.0 e.1) es ++ [] ++ [])) no_things

none_distinct : {K : Type 0} (eq : K → K → Bool) → IsDistinct eq []
unfolding IsDistinct
none_distinct eq = tt

none_contained : ¬ Contains {X = ℕ} [] 0
none_contained has = omega (arith, has.1)

-- it is valid
pub fresh_valid : (heap : ℕ) → IsValid (fresh_world heap)
fresh_valid heap = record {
  things = λ addr. subst (λ t. IfSome t IsValidThing) (sym (get-empty nat_cmp addr)) tt;
  names = All-nil _;
  distinct_names = none_distinct _;
  nonzero = subst (λ addrs. ¬ Contains addrs 0) (sym (no_blocks heap)) none_contained;
  distinct_addresses = subst (IsDistinct nat_eq) (sym (no_blocks heap)) (none_distinct nat_eq);
}

-- and its numbers fit
pub fresh_fits : (heap : ℕ) → FitsFields (fresh_world heap)
fresh_fits heap = record {
  things = λ addr. subst (λ t. IfSome t (λ thing. IsWord addr × FitsThing thing)) (sym (get-empty nat_cmp addr)) tt;
  names = All-nil _;
  inbound = All-nil _;
  outbound = All-nil _;
}

-- the bytes of the fresh heap stand for it, whole
pub fresh_stands_whole : (lines : ℕ) → 32 ≤ lines → lines ≤ 262144 →
    StandsForWhole (fresh_heap lines) (fresh_world (32 * lines)) (fresh_pools lines)
fresh_stands_whole lines least most = record {
  stands = fresh_stands lines least most;
  whole = record {
    valid = fresh_valid (32 * lines);
    fits = laws.fresh_fits (32 * lines);
    queues = laws.fresh_queues (32 * lines) (omega (arith, most));
    barred = laws.fresh_barred (32 * lines);
  };
  fits = fresh_fits (32 * lines);
  next = omega arith;
}
