-- Hashes in blocks.
use Rattle.std.proofs.Common.{◌≡◌, ◌∙◌, ◌≤◌, ◌+◌, ◌*◌, ◌++◌, ℕ, List, [], ◌∷◌, length, map, Option, None, Some, refl, sym, ap, subst, arith}
use Rattle.std.specs.Prelude.{All, IfSome, flat_map, sum_by}
use Rattle.std.proofs.lemmas.List.{get_or-map, length-map, map-append}
use Rattle.std.proofs.lemmas.List.Elements.{All-filter, All-map}
use Rattle.std.proofs.lemmas.List.FromFn.{length-map-range_with_len}
use Rattle.std.proofs.lemmas.Simd.{map-map}
use Rattle.std.specs.List.{range_with_len}
use Rattle.step_things.proofs.KindLemmas.{own_in_use, thing_is_at}
use Rattle.step_things.proofs.ListLemmas.{IsSmall}
use Rattle.step_things.specs.Answering.{IsReady}
use Rattle.sdr_stands.proofs.ChangeLemmas.{apart}
use Rattle.sdr_stands.proofs.ThingShapes.{thing_shapes}
use Rattle.sdr_stands.specs.Rows.{bucket_row, hash_row, item_row}
use Rattle.sdr_stands.specs.Shape.{shape}
use Rattle.sdr_stands.specs.Standing.{HeapStandsFor}
use Rattle.sdr_base.specs.Blocks as base
use Rattle.sdr_base.specs.Blocks.{IsKind}
use Rattle.sdr_base.specs.Entries.{Among, Entries, Few}
use Rattle.sdr_base.specs.Hashes.{HashItem, bucket_entries, hash_entries, item_addr, item_block}
use Rattle.sdr_base.specs.Linked.{linked}
use Rattle.sdr_base.specs.Objects.{Heap}
use Rattle.sdr_base.specs.Stored.{number_at}
use Rattle.sdr_base.specs.declared.kind.Kind.{Kind}
use Rattle.sdr_base.specs.declared.kind.Kind.TheVariants as kinds
use Rattle.sdr_hash.proofs.KeptLemmas.{entries_fit, entries_told, length-entries}
use Rattle.sdr_hash.specs.Destroying.{addrs_in, entries_in, if_hash}
use Rattle.sdr_hash.specs.Kept.{HashFits, IsHash, ItemFits, KeepsHash}
use Rattle.sdr_model.specs.Fields.{FitsEntry, FitsThing, IsWord}
use Rattle.sdr_model.specs.HashSteps.{as_hash}
use Rattle.sdr_model.specs.Hashes.{Hash}
use Rattle.sdr_model.specs.RowMoves as moves
use Rattle.sdr_model.specs.Things.{entry_block, own_block}
use Rattle.sdr_model.specs.Valid.{IsValid, IsValidHash, IsValidThing}
use Rattle.sdr_model.specs.World.{World, thing_at}
use Rattle.sdr_model.specs.declared.things.UsedBlock.{UsedBlock}
use Rattle.sdr_model.specs.declared.things.HashEntry.{HashEntry}
use Rattle.sdr_model.specs.declared.things.Thing.{Thing}
use Rattle.sdr_model.specs.declared.things.Thing.TheVariants as things

-- a hash, and its blocks
pub record IsHashAt (heap : Heap) (w : World) (addr : ℕ) : Type 0 where
  pub hash : Hash
  pub there : thing_at w addr ≡ Some (things.Hash hash)
  pub valid : IsValidHash hash
  pub keeps : KeepsHash heap.blocks addr (hash_row hash)

-- the entries of a valid hash fit their blocks
hash_fits : (hash : Hash) → IsValidHash hash → All FitsEntry hash.entries → HashFits (hash_row hash)
hash_fits hash valid fits =
    let long = length-map-range_with_len (bucket_row hash) 0 hash.buckets in
    record {
      shape = record {
        key = record { some = valid.key_length.0; short = valid.key_length.1 };
        count = record {
          some = omega (arith, valid.buckets.0, long);
          few = omega (arith, valid.buckets.1, long);
        };
      };
      items = All-map (All (ItemFits hash.key_length)) (bucket_row hash) (range_with_len 0 hash.buckets)
          (λ k d l. All-map (ItemFits hash.key_length) item_row _
          (All-filter _ (λ (e : HashEntry). ItemFits hash.key_length (item_row e)) hash.entries each));
    }
  where
    each : All (λ (e : HashEntry). ItemFits hash.key_length (item_row e)) hash.entries
    each k d l =
        let f = fits k d l in
        record {
          addr = f.block;
          value = f.value;
          key = sym (ap (λ (key : List ℕ). length key) (get_or-map (λ (e : HashEntry). e.key) hash.entries k d [] l))
              ∙ valid.keys k [] (omega (arith, l, length-map hash.entries (λ (e : HashEntry). e.key)));
        }

-- the blocks of a hash of the world keep it
pub hash_kept : (heap : Heap) (w : World) (addr : ℕ) (hash : Hash) → HeapStandsFor heap w → IsReady w
    → thing_at w addr ≡ Some (things.Hash hash) → IsHashAt heap w addr
hash_kept heap w addr hash s served there =
    let a = apart addr (things.Hash hash) s there in
    let valid = subst (λ (o : Option Thing). IfSome o IsValidThing) there (served.whole.valid.things addr) in
    let fits = subst (λ (o : Option Thing). IfSome o (λ thing. IsWord addr × FitsThing thing)) there (served.fits.things addr) in
    record {
      hash = hash;
      there = there;
      valid = valid;
      keeps = record { rest = a.rest; stands = a.stands; fits = hash_fits hash valid fits.1 };
    }

own_hash : (addr : ℕ) (thing : Thing) → (own_block addr thing).kind ≡ kinds.Hash → (hash : Hash) × (thing ≡ things.Hash hash)
own_hash addr (things.Hash hash) is = (hash, refl)
own_hash addr thing is = absurd cc

-- a block in use of the kind of hashes is a hash's
pub hash_is_at : (heap : Heap) (w : World) (addr : ℕ) → HeapStandsFor heap w → IsReady w → IsKind (heap.blocks addr) kinds.Hash
    → IsHashAt heap w addr
hash_is_at heap w addr s served kind =
    let t = thing_is_at heap w addr kinds.Hash s served.whole.valid refl kind in
    let hash = own_hash addr t.thing t.kind_is in
    hash_kept heap w addr hash.0 s served (t.there ∙ ap Some hash.1)

-- and where there is none, no hash is
pub no_hash : (heap : Heap) (w : World) (addr : ℕ) → HeapStandsFor heap w → IsValid w → ¬ IsKind (heap.blocks addr) kinds.Hash
    → as_hash (thing_at w addr) ≡ None
no_hash heap w addr s valid other = by (thing_at w addr) refl
  where
    by : (o : Option Thing) → thing_at w addr ≡ o → as_hash o ≡ None
    by (Some (things.Hash hash)) at = absurd (other (own_in_use heap w addr (things.Hash hash) s valid at))
    by None at = refl
    by (Some thing) at = refl

-- where the blocks of a chain begin
item_addrs : (items : List HashItem) (previous : ℕ)
    → map (λ (e : ℕ × base.Block). e.0) (linked item_addr item_block previous 0 items) ≡ map item_addr items
unfolding linked
item_addrs [] previous = refl
item_addrs (item ∷ items) previous = ap (λ (addrs : List ℕ). item.addr ∷ addrs) (item_addrs items item.addr)

bucket_addrs : (buckets : List (List HashItem))
    → map (λ (e : ℕ × base.Block). e.0) (flat_map bucket_entries buckets) ≡ addrs_in buckets
bucket_addrs [] = refl
bucket_addrs (items ∷ buckets) =
    map-append (λ (e : ℕ × base.Block). e.0) (bucket_entries items) (flat_map bucket_entries buckets)
    ∙ ap (λ (addrs : List ℕ). addrs ++ map (λ (e : ℕ × base.Block). e.0) (flat_map bucket_entries buckets)) (item_addrs items 0)
    ∙ ap (λ (addrs : List ℕ). map item_addr items ++ addrs) (bucket_addrs buckets)

-- the blocks of the entries, without the hash's own
abbrev rest_of : List UsedBlock → List UsedBlock
rest_of [] = []
rest_of (b ∷ bs) = bs

-- a valid hash's entries by bucket are its entries in their order
module _ (hash : Hash) (valid : IsValidHash hash) where
  abbrev entries : Entries
  entries = flat_map bucket_entries (hash_row hash).buckets

  shapes_are : map shape entries ≡ map entry_block hash.entries
  shapes_are = ap rest_of (thing_shapes (record { named_by = λ a. 0; counts = λ a acct. 0 }) 0 (things.Hash hash) valid)

  -- their addresses
  pub addrs_are : addrs_in (hash_row hash).buckets ≡ map (λ (e : HashEntry). e.block) hash.entries
  addrs_are =
      sym (bucket_addrs (hash_row hash).buckets)
      ∙ sym (map-map (λ (b : UsedBlock). b.addr) shape entries)
      ∙ ap (map (λ (b : UsedBlock). b.addr)) shapes_are
      ∙ map-map (λ (b : UsedBlock). b.addr) entry_block hash.entries

  -- their count
  pub count_is : sum_by length (hash_row hash).buckets ≡ length hash.entries
  count_is =
      let same : length (map shape entries) ≡ length (map entry_block hash.entries) = ap (λ (bs : List UsedBlock). length bs) shapes_are in
      omega (
        arith,
        same,
        length-map entries shape,
        length-map hash.entries entry_block,
        length-entries (hash_row hash).buckets,
      )

-- the entries of a hash are few
pub few_entries : (heap : Heap) (addr : ℕ) (hash : Hash) → IsValidHash hash → Few heap.size heap.blocks
    → Among heap.blocks (hash_entries addr (hash_row hash)) → 16 * (length hash.entries + 1) ≤ heap.size
few_entries heap addr hash valid few among =
    omega (arith, entries_fit addr (hash_row hash) few among, count_is hash valid)

-- what a block tells of a hash's entries, where none is a hash's
told_none : (block : base.Block) (kind : Kind) → block.kind ≡ kind → if_hash kind (number_at 16 block.bytes) ≡ 0
    → entries_in (Some block) ≡ 0
told_none block kind is none = ap (λ (k : Kind). if_hash k (number_at 16 block.bytes)) is ∙ none

-- what holds where no hash stands, and where one does, holds of the count that the block tells
by_kind : (heap : Heap) (addr : ℕ) (P : ℕ → Type 0) → P 0
    → (IsKind (heap.blocks addr) kinds.Hash → P (entries_in (heap.blocks addr))) → P (entries_in (heap.blocks addr))
by_kind heap addr P none some = by (heap.blocks addr) refl
  where
    of_kind : (block : base.Block) (kind : Kind) → heap.blocks addr ≡ Some block → block.kind ≡ kind → P (entries_in (Some block))
    of_kind block kinds.Hash here is =
        subst (λ o. P (entries_in o)) here (some (subst (λ f. IsKind f kinds.Hash) (sym here) is))
    of_kind block kind here is = subst P (sym (told_none block kind is refl)) none

    by : (o : Option base.Block) → heap.blocks addr ≡ o → P (entries_in o)
    by None here = none
    by (Some block) here = of_kind block block.kind here refl

-- as many entries as its block tells are the world's at least
pub entries_are : (heap : Heap) (w : World) (addr : ℕ) → HeapStandsFor heap w → IsReady w → IsSmall heap
    → entries_in (heap.blocks addr) ≤ length (moves.entries_in (as_hash (thing_at w addr)))
entries_are heap w addr s served small =
    by_kind heap addr (λ n. n ≤ length (moves.entries_in (as_hash (thing_at w addr)))) (omega arith) (λ kind.
    let h = hash_is_at heap w addr s served kind in
    let told = entries_told h.keeps small.few small.small in
    let same : length (moves.entries_in (as_hash (thing_at w addr))) ≡ length (map (λ (e : HashEntry). e.block) h.hash.entries) =
    ap (λ o. length (moves.entries_in (as_hash o))) h.there in
    omega (arith, told, same, count_is h.hash h.valid, length-map h.hash.entries (λ (e : HashEntry). e.block)))

-- where a hash is kept, its entries are few
pub room_for_hash : (heap : Heap) (addr : ℕ) → IsSmall heap → IsHash heap.blocks addr
    → 16 * (entries_in (heap.blocks addr) + 1) ≤ heap.size + 16
room_for_hash heap addr small kept =
    by_kind heap addr (λ n. 16 * (n + 1) ≤ heap.size + 16) (omega arith) (λ kind.
    let some = kept kind in
    let told = entries_told some.keeps small.few small.small in
    let fit = entries_fit addr some.row small.few (record { rest = some.keeps.rest; stands = some.keeps.stands }) in
    omega (arith, told, fit))
