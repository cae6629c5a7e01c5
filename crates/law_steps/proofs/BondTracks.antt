-- The addresses of a valid world are tracked, and those of an object's headers and trailers among them.
use Rattle.std.proofs.Common.{◌≡◌, ℕ, ◌+◌, ◌≤◌, ◌++◌, Option, Some, None, map, nat_eq, refl, sym, ap, ◌∙◌, subst, arith}
use Rattle.std.specs.Cmp.{nat_eq_equiv}
use Rattle.std.specs.FinMap.{entries, get, remove as lose}
use Rattle.std.specs.List.{count_by, sum_by}
use Rattle.std.proofs.lemmas.List.Sums.{sum_by-append, sum_by-cons}
use Rattle.law_steps.proofs.DistinctLemmas.{not_contained, once, weight, weight_of}
use Rattle.law_steps.proofs.SourceViews.{apart_at, by_addr}
use Rattle.law_steps.proofs.FreshLemmas.{none_there, own_at}
use Rattle.sdr_model.proofs.SumLemmas.{counted_at, sum_by-flat_map, sum_by-map, sum_by-removed}
use Rattle.sdr_model.specs.Accounts.{ticket_blocks}
use Rattle.sdr_model.specs.Blocks.{addresses_of, blocks_of, thing_blocks, things_blocks}
use Rattle.sdr_model.specs.Things.{block_for_capsule, block_for_extent, inner_blocks, block_for_name, object_blocks, own_block}
use Rattle.sdr_model.specs.Valid.{IsValid}
use Rattle.sdr_model.specs.World.{World}
use Rattle.sdr_model.specs.declared.things.Thing.{Thing}
use Rattle.sdr_model.specs.declared.things.Thing.TheVariants as things
use Rattle.sdr_model.specs.declared.zco.Capsule.{Capsule}
use Rattle.sdr_model.specs.declared.things.UsedBlock.{UsedBlock}
use Rattle.sdr_model.specs.declared.zco.ZcoObject.{ZcoObject}
use Rattle.law_steps.proofs.BondLaws.{Tracks, caps}

-- how many of these blocks begin at an address
abbrev pub begins : ℕ → UsedBlock → ℕ
begins k b = weight (nat_eq k b.addr)

-- and of those of a thing
abbrev pub begins_in : ℕ → ℕ × Thing → ℕ
begins_in k e = sum_by (begins k) (thing_blocks e.0 e.1)

module _ (w : World) (k : ℕ) where
  all_begin : count_by (nat_eq k) (addresses_of (blocks_of w))
      ≡ sum_by (begins_in k) (entries w.things) + sum_by (begins k) (map block_for_name w.names)
      + sum_by (begins k) (ticket_blocks w.accounts)
  all_begin =
      let all : count_by (nat_eq k) (addresses_of (blocks_of w)) ≡ sum_by (begins k) (blocks_of w) =
      sum_by-map (λ a. weight (nat_eq k a)) (λ (b : UsedBlock). b.addr) (blocks_of w) in
      let behind : sum_by (begins k) (blocks_of w) ≡ sum_by (begins k)
      (things_blocks w.things ++ map block_for_name w.names)
      + sum_by (begins k) (ticket_blocks w.accounts) =
      sum_by-append (begins k) (things_blocks w.things ++ map block_for_name w.names) (ticket_blocks w.accounts) in
      let among : sum_by (begins k) (things_blocks w.things ++ map block_for_name w.names)
      ≡ sum_by (begins k) (things_blocks w.things) + sum_by (begins k) (map block_for_name w.names) =
      sum_by-append (begins k) (things_blocks w.things) (map block_for_name w.names) in
      let each : sum_by (begins k) (things_blocks w.things) ≡ sum_by (begins_in k) (entries w.things) =
      sum_by-flat_map (begins k) (λ (e : ℕ × Thing). thing_blocks e.0 e.1) (entries w.things) in
      omega (arith, all, behind, among, each)

  -- what begins there of an object's headers and trailers
  caps_begin : (addr : ℕ) (z : ZcoObject) → caps k (z.headers ++ z.trailers) ≤ sum_by (begins k) (object_blocks z)
  caps_begin addr z =
      let both = sum_by-append (λ (c : Capsule). weight (nat_eq k c.block)) z.headers z.trailers in
      let front : sum_by (begins k) (object_blocks z)
      ≡ sum_by (begins k) (map block_for_capsule z.headers ++ map block_for_extent z.extents)
      + sum_by (begins k) (map block_for_capsule z.trailers) =
      sum_by-append (begins k) (map block_for_capsule z.headers ++ map block_for_extent z.extents)
      (map block_for_capsule z.trailers) in
      let first : sum_by (begins k) (map block_for_capsule z.headers ++ map block_for_extent z.extents)
      ≡ sum_by (begins k) (map block_for_capsule z.headers) + sum_by (begins k) (map block_for_extent z.extents) =
      sum_by-append (begins k) (map block_for_capsule z.headers) (map block_for_extent z.extents) in
      let heads : sum_by (begins k) (map block_for_capsule z.headers) ≡ caps k z.headers =
      sum_by-map (begins k) block_for_capsule z.headers in
      let tails : sum_by (begins k) (map block_for_capsule z.trailers) ≡ caps k z.trailers =
      sum_by-map (begins k) block_for_capsule z.trailers in
      omega (arith, both, front, first, heads, tails)

  -- an object's headers and trailers, and a thing that is there
  caps_there : (addr : ℕ) (z : ZcoObject) → get w.things addr ≡ Some (things.Object z)
      → caps k (z.headers ++ z.trailers) ≤ count_by (nat_eq k) (addresses_of (blocks_of w))
  caps_there addr z is =
      let part : sum_by (begins_in k) (entries (lose w.things addr)) + begins_in k (addr, things.Object z)
      ≡ sum_by (begins_in k) (entries w.things) =
      subst (λ t. sum_by (begins_in k) (entries (lose w.things addr)) + counted_at (begins_in k) addr t
      ≡ sum_by (begins_in k) (entries w.things)) is (sum_by-removed (begins_in k) w.things addr) in
      let one : begins_in k (addr, things.Object z)
      ≡ begins k (own_block addr (things.Object z)) + sum_by (begins k) (object_blocks z) =
      sum_by-cons (begins k) (own_block addr (things.Object z)) (object_blocks z) in
      omega (arith, all_begin, part, one, caps_begin addr z)

  thing_too : (addr : ℕ) (z : ZcoObject) (t : Thing) → get w.things addr ≡ Some (things.Object z)
      → get w.things k ≡ Some t
      → 1 + caps k (z.headers ++ z.trailers) ≤ count_by (nat_eq k) (addresses_of (blocks_of w))
  thing_too addr z t is there =
      let part : sum_by (begins_in k) (entries (lose w.things addr)) + begins_in k (addr, things.Object z)
      ≡ sum_by (begins_in k) (entries w.things) =
      subst (λ t. sum_by (begins_in k) (entries (lose w.things addr)) + counted_at (begins_in k) addr t
      ≡ sum_by (begins_in k) (entries w.things)) is (sum_by-removed (begins_in k) w.things addr) in
      let one : begins_in k (addr, things.Object z)
      ≡ begins k (own_block addr (things.Object z)) + sum_by (begins k) (object_blocks z) =
      sum_by-cons (begins k) (own_block addr (things.Object z)) (object_blocks z) in
      by_addr k addr
      (λ here. omega (
        arith,
        all_begin,
        part,
        one,
        caps_begin addr z,
        weight_of (ap (nat_eq k) (sym here) ∙ nat_eq_equiv.refl k),
      ))
      (λ apart.
      let still : get (lose w.things addr) k ≡ Some t = apart_at w.things addr None k apart ∙ there in
      let rest : sum_by (begins_in k) (entries (lose (lose w.things addr) k)) + begins_in k (k, t)
      ≡ sum_by (begins_in k) (entries (lose w.things addr)) =
      subst (λ o. sum_by (begins_in k) (entries (lose (lose w.things addr) k)) + counted_at (begins_in k) k o
      ≡ sum_by (begins_in k) (entries (lose w.things addr))) still
      (sum_by-removed (begins_in k) (lose w.things addr) k) in
      let own : begins_in k (k, t) ≡ begins k (own_block k t) + sum_by (begins k) (inner_blocks t) =
      sum_by-cons (begins k) (own_block k t) (inner_blocks t) in
      omega (
        arith,
        all_begin,
        part,
        one,
        rest,
        own,
        caps_begin addr z,
        weight_of (ap (nat_eq k) (own_at k t) ∙ nat_eq_equiv.refl k),
      ))

-- the addresses of a valid world's blocks are tracked, with an object's headers and trailers
pub tracks_from : (w : World) (addr : ℕ) (z : ZcoObject) → IsValid w → get w.things addr ≡ Some (things.Object z)
    → Tracks w.things (addresses_of (blocks_of w)) (z.headers ++ z.trailers)
tracks_from w addr z valid is = record {
  known = λ q none. none_there w q (not_contained q (addresses_of (blocks_of w)) none);
  blocks = λ k some. (no_thing k some (get w.things k) refl, omega (arith, some, caps_there w k addr z is));
  few = λ k. omega (arith, caps_there w k addr z is, once_there k);
}
  where
    once_there : (k : ℕ) → count_by (nat_eq k) (addresses_of (blocks_of w)) ≤ 1
    once_there k = once nat_eq_equiv (addresses_of (blocks_of w)) valid.distinct_addresses k

    no_thing : (k : ℕ) → 1 ≤ caps k (z.headers ++ z.trailers) → (o : Option Thing) → get w.things k ≡ o
        → get w.things k ≡ None
    no_thing k some None there = there
    no_thing k some (Some t) there = absurd (omega (arith, some, thing_too w k addr z t is there, once_there k))
