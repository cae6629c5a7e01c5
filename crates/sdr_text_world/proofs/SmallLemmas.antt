-- A whole world that stands in a heap region has small sums.
use Rattle.std.proofs.Common.{◌≡◌, ◌≤◌, ◌<◌, ◌+◌, ◌*◌, ◌^◌, ◌++◌, ◌&&◌, ℕ, suc, Bool, true, false, cond, List, Option, None, Some, arith, ap, subst, refl, inl, inr, length, get_or, nat_lt, nat_le}
use Rattle.std.proofs.lemmas.Bool.{cases_lt}
use Rattle.std.proofs.lemmas.List.{get_or_past, length-append, length-map}
use Rattle.std.proofs.lemmas.List.Elements.{All-from_recursion, All-get_or, All-weaker}
use Rattle.std.proofs.lemmas.List.Sums.{sum_by-le}
use Rattle.std.specs.FinMap as finite
use Rattle.std.specs.Prelude.{All, IfSome}
use Rattle.sdr_base.proofs.LinkedLemmas.{length-linked}
use Rattle.sdr_base.proofs.StandingLemmas.{focused}
use Rattle.sdr_base.specs.KeptHeap.{root_in}
use Rattle.sdr_base.specs.Pools.{Pools}
use Rattle.sdr_base.specs.Roots.{roots_by}
use Rattle.sdr_base.specs.Stored.{number_at}
use Rattle.sdr_base.specs.ZcoObjects.{capsule_addr, capsule_block, capsule_entries, extent_addr, extent_block, extent_entries, object_entries}
use Rattle.sdr_base.specs.declared.account.Acct.{Acct}
use Rattle.sdr_base.specs.declared.account.Acct.TheVariants as accts
use Rattle.sdr_base.specs.declared.control.TheConstants.{CONTROL_WORDS, FIRST_NAME}
use Rattle.sdr_base.specs.declared.kind.Space.{Space}
use Rattle.sdr_base.specs.declared.kind.Space.TheVariants as spaces
use Rattle.sdr_base.specs.declared.line.TheConstants.{WORD}
use Rattle.sdr_model.specs.Charges.{occupancy}
use Rattle.sdr_model.specs.ObjectSteps.{wire_length}
use Rattle.sdr_model.specs.Valid.{AreInside, IsValidCapsule, IsValidObject, IsValidThing, LiesInside}
use Rattle.sdr_model.specs.World.{World, thing_at}
use Rattle.sdr_model.specs.Zco.{as_source, capsules_length, extents_length, source_at}
use Rattle.sdr_model.specs.declared.things.Thing.{Thing}
use Rattle.sdr_model.specs.declared.things.Thing.TheVariants as things
use Rattle.sdr_model.specs.declared.zco.Capsule.{Capsule}
use Rattle.sdr_model.specs.declared.zco.Extent.{Extent}
use Rattle.sdr_model.specs.declared.zco.ZcoObject.{ZcoObject}
use Rattle.sdr_heap.proofs.FewLemmas.{block_in-few}
use Rattle.audit_owners.specs.Owned.{AreBytes}
use Rattle.sdr_stands.proofs.PartLemmas.{among}
use Rattle.sdr_stands.proofs.ShapeLemmas.{each_entry}
use Rattle.sdr_stands.specs.Rows.{capsule_row, extent_row, object_row}
use Rattle.sdr_stands.specs.Standing.{StandsForWhole, roots_of}
use Rattle.sdr_text_world.specs.ThingText.{HasSmallWire}
use Rattle.sdr_text_world.specs.WorldText.{HasSmallSums}

-- eight bytes make a word
number_small : (place : ℕ) (bytes : List ℕ) → AreBytes bytes → number_at place bytes < 2 ^ 64
unfolding number_at
number_small place bytes are =
    omega (
      arith,
      byte place,
      byte (suc place),
      byte (suc (suc place)),
      byte (suc (suc (suc place))),
      byte (suc (suc (suc (suc place)))),
      byte (suc (suc (suc (suc (suc place))))),
      byte (suc (suc (suc (suc (suc (suc place)))))),
      byte (suc (suc (suc (suc (suc (suc (suc place))))))),
    )
  where
    byte : (n : ℕ) → get_or bytes n 0 < 256
    byte n = elim (cases_lt n (length bytes)) [
      | inl within ↦ All-get_or (λ byte. byte < 2 ^ 8) bytes n 0 within are
      | inr past ↦ let e = get_or_past bytes n 0 past in omega (arith, e)
    ]

-- so does a control word
root_small : (word : ℕ) (bytes : List ℕ) → AreBytes bytes → root_in bytes word < 2 ^ 64
unfolding root_in
root_small word bytes are = by (nat_le FIRST_NAME word && nat_lt word CONTROL_WORDS)
  where
    by : (b : Bool) → cond b (number_at (WORD * word) bytes) 0 < 2 ^ 64
    by true = number_small (WORD * word) bytes are
    by false = omega arith

-- an extent that lies inside a source has at most the bytes of the longest
extent_short : (e : Extent) (o : Option Thing) → IfSome o IsValidThing → LiesInside e (as_source o) → e.length ≤ 2 ^ 40
extent_short e None valid inside = absurd inside
extent_short e (Some (things.Source source)) valid inside = let h = valid.length in omega (arith, h, inside)
extent_short e (Some (things.Raw x)) valid inside = absurd inside
extent_short e (Some (things.Text x)) valid inside = absurd inside
extent_short e (Some (things.List x)) valid inside = absurd inside
extent_short e (Some (things.Table x)) valid inside = absurd inside
extent_short e (Some (things.Hash x)) valid inside = absurd inside
extent_short e (Some (things.Object x)) valid inside = absurd inside

capsules_short : (cs : List Capsule) → All IsValidCapsule cs → capsules_length cs ≤ length cs * 1024
capsules_short cs valid =
    sum_by-le (λ (c : Capsule). length c.text) 1024 cs
    (All-weaker IsValidCapsule (λ (c : Capsule). length c.text ≤ 1024) (λ c is. is.1) cs valid)

module _ (bytes : List ℕ) (w : World) (P : Pools) (s : StandsForWhole bytes w P) where
  -- an object has, with its own block, at most one for 16 bytes of the region
  few_blocks : (addr : ℕ) (z : ZcoObject) → thing_at w addr ≡ Some (things.Object z) →
      16 * (1 + length z.headers + length z.extents + length z.trailers) ≤ length bytes
  few_blocks addr z there =
      let row = object_row z in
      let swap = among w addr (things.Object z) there in
      let rest = swap.before ++ swap.behind in
      let headers = capsule_entries row.headers in
      let extents = extent_entries row.extents in
      let trailers = capsule_entries row.trailers in
      let all = (block_in-few bytes P s.stands.heap).few (object_entries addr row ++ rest) (focused swap s.stands.blocks) in
      omega (
        arith,
        all,
        length-append (headers ++ extents ++ trailers) rest,
        length-append (headers ++ extents) trailers,
        length-append headers extents,
        length-linked capsule_addr capsule_block 0 0 row.headers,
        length-linked extent_addr extent_block 0 0 row.extents,
        length-linked capsule_addr capsule_block 0 0 row.trailers,
        length-map z.headers capsule_row,
        length-map z.extents extent_row,
        length-map z.trailers capsule_row,
      )

  extents_short : (addr : ℕ) (z : ZcoObject) → thing_at w addr ≡ Some (things.Object z) →
      extents_length z.extents ≤ length z.extents * 2 ^ 40
  extents_short addr z there =
      let inside : AreInside w (things.Object z) = subst (λ (o : Option Thing). IfSome o (AreInside w)) there (s.whole.fits.inside addr) in
      sum_by-le (λ (e : Extent). e.length) (2 ^ 40) z.extents
      (All-weaker (λ (e : Extent). LiesInside e (source_at w e.source)) (λ (e : Extent). e.length ≤ 2 ^ 40)
      (λ e lies. extent_short e (thing_at w e.source) (s.whole.valid.things e.source) lies) z.extents inside)

  wire_small : (addr : ℕ) (z : ZcoObject) → thing_at w addr ≡ Some (things.Object z) → wire_length z < 2 ^ 64
  wire_small addr z there =
      let valid : IsValidObject z = subst (λ (o : Option Thing). IfSome o IsValidThing) there (s.whole.valid.things addr) in
      let headers = capsules_short z.headers valid.headers in
      let extents = extents_short addr z there in
      let trailers = capsules_short z.trailers valid.trailers in
      let few = few_blocks addr z there in
      let size = s.stands.heap.small.size in
      let whole = s.stands.heap.small.tiles.bounds.region.whole in
      let most = s.stands.heap.small.tiles.bounds.region.most in
      omega (arith, headers, extents, trailers, few, size, whole, most)

  thing_small : (addr : ℕ) (o : Option Thing) → thing_at w addr ≡ o → IfSome o HasSmallWire
  thing_small addr None is = tt
  thing_small addr (Some (things.Object z)) is = wire_small addr z is
  thing_small addr (Some (things.Raw x)) is = tt
  thing_small addr (Some (things.Text x)) is = tt
  thing_small addr (Some (things.List x)) is = tt
  thing_small addr (Some (things.Table x)) is = tt
  thing_small addr (Some (things.Hash x)) is = tt
  thing_small addr (Some (things.Source x)) is = tt

  wires_small : All (λ e. HasSmallWire e.1) (finite.entries w.things)
  wires_small =
      All-from_recursion (λ e. HasSmallWire e.1) (finite.entries w.things)
      (each_entry HasSmallWire (finite.entries w.things) (finite.entries_sorted w.things)
      (λ q. subst (λ (o : Option Thing). IfSome o HasSmallWire) (finite.get-entries w.things q) (thing_small q (thing_at w q) refl)))

  module _ (are : AreBytes bytes) where
    word_small : (word : ℕ) → roots_of w word < 2 ^ 64
    word_small word = subst (λ (n : ℕ). n < 2 ^ 64) (ap (λ (roots : ℕ → ℕ). roots word) s.stands.roots) (root_small word bytes are)

    occupied_small : (acct : Acct) (space : Space) → occupancy w acct space < 2 ^ 64
    unfolding roots_by
    occupied_small accts.Inbound spaces.File = word_small 92
    occupied_small accts.Inbound spaces.Bulk = word_small 93
    occupied_small accts.Inbound spaces.Heap = word_small 94
    occupied_small accts.Outbound spaces.File = word_small 100
    occupied_small accts.Outbound spaces.Bulk = word_small 101
    occupied_small accts.Outbound spaces.Heap = word_small 102

    pub small_sums : HasSmallSums w
    small_sums = record { occupied = occupied_small; wires = wires_small }
