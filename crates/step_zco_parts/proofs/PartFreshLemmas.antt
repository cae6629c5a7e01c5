-- The blocks of a clone are new, and differ from one another.
use Rattle.std.proofs.Common.{◌≡◌, ◌≢◌, ◌∙◌, ◌≤◌, ◌⊎◌, ◌++◌, ℕ, List, [], ◌∷◌, cond, Bool, inl, inr, length, eq-eqb, refl, sym, ap, subst, arith}
use Rattle.std.proofs.lemmas.List.Elements.{All-cons, All-head, All-nil, All-tail, Contains-append_cases, Contains-push_cases}
use Rattle.std.specs.List.{AllByRecursion}
use Rattle.std.specs.Prelude.{All, Contains}
use Rattle.step_things.proofs.KindLemmas.{none_of}
use Rattle.step_things.proofs.RowLemmas.{HasMoves}
use Rattle.sdr_stands.specs.Standing.{HeapStandsFor}
use Rattle.sdr_base.proofs.StandingLemmas.{times-append}
use Rattle.sdr_base.specs.Blocks.{Blocks}
use Rattle.sdr_base.specs.Entries.{Entries, BlocksAre, times}
use Rattle.sdr_base.specs.Linked.{linked}
use Rattle.sdr_base.specs.Objects.{Heap}
use Rattle.sdr_base.specs.ZcoObjects.{capsule_entries, extent_addr, extent_block, extent_entries, object_entries}
use Rattle.sdr_base.specs.declared.account.Acct.{Acct}
use Rattle.law_steps.proofs.GoneLemmas.{AreApart}
use Rattle.law_steps.specs.Fresh.{AreFresh}
use Rattle.sdr_model.specs.Blocks.{addresses_of, blocks_of}
use Rattle.sdr_model.specs.Fields.{IsWord}
use Rattle.sdr_model.specs.Valid.{IsValid}
use Rattle.sdr_model.specs.World.{World}
use Rattle.step_zco.proofs.GoneMaps.{AreDistinct}
use Rattle.zco_obj.specs.Charging.{IsFree}
use Rattle.zco_obj.specs.declared.extent.ExtentPiece.{ExtentPiece}
use Rattle.zco_part.proofs.CloneLemmas.{placed_there, whole_there}
use Rattle.zco_part.specs.Cloning.{takes_clone}
use Rattle.zco_part.specs.Copying.{takes_extents}
use Rattle.zco_part.specs.Pieces.{extents_at, whole_row}
use Rattle.step_zco_parts.proofs.PieceLemmas.{taken_clone}

-- what stands among these is at another address than one that doesn't
apart_from : (addr : ℕ) (es : Entries) → times addr es ≡ 0 → (addrs : List ℕ) → All (λ a. 1 ≤ times a es) addrs → AreApart addr addrs
apart_from addr es none [] there = tt
apart_from addr es none (a ∷ addrs) there = (
  (λ same.
      let some = All-head (λ (a : ℕ). 1 ≤ times a es) a addrs there in
      let zero = ap (λ (q : ℕ). times q es) same ∙ none in omega (arith, some, zero)),
  apart_from addr es none addrs (All-tail (λ (a : ℕ). 1 ≤ times a es) a addrs there),
)

-- extents in blocks that stand once are at addresses that differ
distinct_placed : (prev : ℕ) (addrs : List ℕ) (ps : List ExtentPiece) → length addrs ≡ length ps →
    ((a : ℕ) → times a (linked extent_addr extent_block prev 0 (extents_at addrs ps)) ≤ 1) → AreDistinct addrs
unfolding linked times
distinct_placed prev [] ps same once = tt
distinct_placed prev (addr ∷ addrs) [] same once = absurd (omega (arith, same))
distinct_placed prev (addr ∷ addrs) (p ∷ ps) same once =
    let rest = linked extent_addr extent_block addr 0 (extents_at addrs ps) in
    let here = ap {B = ℕ} (λ (b : Bool). cond b 1 0) (eq-eqb addr addr refl) in
    let one = once addr in (
      apart_from addr rest (omega (arith, here, one)) addrs (placed_there addr addrs ps (omega (arith, same))),
      distinct_placed addr addrs ps (omega (arith, same)) (λ a. let all = once a in omega (arith, all)),
    )

-- so are the blocks of a clone
pub clone_distinct : {b : Blocks} (clone : ℕ) (acct : Acct) (addrs : List ℕ) (ps : List ExtentPiece) (rest : Entries) →
    length addrs ≡ length ps → BlocksAre b (object_entries clone (whole_row acct (extents_at addrs ps)) ++ rest) → AreDistinct (clone ∷ addrs)
unfolding times
clone_distinct clone acct addrs ps rest same s =
    let own = object_entries clone (whole_row acct (extents_at addrs ps)) in
    let extents = extent_entries (extents_at addrs ps) in
    let here = ap {B = ℕ} (λ (b : Bool). cond b 1 0) (eq-eqb clone clone refl) in
    let one = s.once clone in
    let all = times-append clone own rest in
    let outer = times-append clone (capsule_entries [] ++ extents) (capsule_entries []) in
    let inner = times-append clone (capsule_entries []) extents in (
      apart_from clone extents (omega (arith, here, one, all, outer, inner)) addrs (placed_there 0 addrs ps same),
      distinct_placed 0 addrs ps same (λ a.
          let most = s.once a in
          let both = times-append a own rest in
          let part = whole_there clone acct (extents_at addrs ps) a in omega (arith, most, both, part)),
    )

-- blocks at addresses that differ and aren't in use are taken freshly
fresh_from : (used addrs : List ℕ) → AllByRecursion (λ a. (a ≢ 0) × (¬ Contains used a)) addrs → AreDistinct addrs →
    AreFresh used (takes_extents addrs)
fresh_from used [] new distinct = tt
fresh_from used (addr ∷ addrs) new distinct =
    (new.0.0, new.0.1, fresh_from (addr ∷ used) addrs (more addrs new.1 distinct.0) distinct.1)
  where
    other : (a : ℕ) → ¬ Contains used a → a ≢ addr → Contains (addr ∷ []) a ⊎ Contains used a → ⊥
    other a free apart (inl one) = at_one (Contains-push_cases [] addr a one)
      where
        at_one : Contains [] a ⊎ (addr ≡ a) → ⊥
        at_one (inl none) = let below = none.1 in omega (arith, below)
        at_one (inr same) = apart (sym same)
    other a free apart (inr listed) = free listed

    more : (as' : List ℕ) → AllByRecursion (λ a. (a ≢ 0) × (¬ Contains used a)) as' → AreApart addr as' →
        AllByRecursion (λ a. (a ≢ 0) × (¬ Contains (addr ∷ used) a)) as'
    more [] all apart = tt
    more (a ∷ as') all apart = (
      (all.0.0, λ listed. other a all.0.1 apart.0 (Contains-append_cases (addr ∷ []) used a listed)),
      more as' all.1 apart.1,
    )

-- blocks were taken where none was
module _ (heap : Heap) (w : World) (s : HeapStandsFor heap w) (valid : IsValid w) where
  unused : (addrs : List ℕ) → All (IsFree heap.blocks) addrs →
      AllByRecursion (λ a. (a ≢ 0) × (¬ Contains (addresses_of (blocks_of w)) a)) addrs
  unused [] free = tt
  unused (a ∷ addrs) free =
      let one = All-head (IsFree heap.blocks) a addrs free in
      ((one.nonzero, none_of heap w a s valid one.free), unused addrs (All-tail (IsFree heap.blocks) a addrs free))

  words_of : (addrs : List ℕ) → All (IsFree heap.blocks) addrs → All IsWord addrs
  words_of [] free = All-nil IsWord
  words_of (a ∷ addrs) free =
      let small = (All-head (IsFree heap.blocks) a addrs free).small in
      All-cons IsWord a addrs (omega (arith, small)) (words_of addrs (All-tail (IsFree heap.blocks) a addrs free))

  pub took_clone : (clone : ℕ) (addrs : List ℕ) (new : Heap) → IsFree heap.blocks clone → All (IsFree heap.blocks) addrs →
      AreDistinct (clone ∷ addrs) → new.moves ≡ takes_clone clone addrs → HasMoves w (takes_clone clone addrs) new
  took_clone clone addrs new one free distinct is =
      let all = All-cons (IsFree heap.blocks) clone addrs one free in
      record {
        is = is;
        fresh = fresh_from (addresses_of (blocks_of w)) (clone ∷ addrs) (unused (clone ∷ addrs) all) distinct;
        words = subst (λ (taken : List ℕ). All IsWord taken) (sym (taken_clone clone addrs)) (words_of (clone ∷ addrs) all);
      }
