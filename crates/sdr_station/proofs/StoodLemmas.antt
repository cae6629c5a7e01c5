-- A world that a heap has stood for.
use Rattle.std.proofs.Common.{◌≡◌, ◌≤◌, ◌*◌, ℕ, List, Option, Some, refl, length, subst, arith}
use Rattle.std.proofs.lemmas.List.{length-map}
use Rattle.std.specs.Prelude.{IfSome}
use Rattle.step_things.proofs.ListLemmas.{IsSmall, few_elements}
use Rattle.sdr_stands.proofs.ChangeLemmas.{apart}
use Rattle.sdr_base.proofs.FewLemmas.{region_small}
use Rattle.sdr_base.specs.KeptHeap.{KeepsRegion}
use Rattle.sdr_base.specs.Pools.{Pools}
use Rattle.sdr_heap.specs.Noted.{Held}
use Rattle.sdr_image.specs.Opened.{Opened}
use Rattle.sdr_machine.specs.Ground.{State}
use Rattle.sdr_model.specs.ListSteps.{as_list}
use Rattle.sdr_model.specs.HashSteps.{as_hash}
use Rattle.sdr_model.specs.RowMoves.{clone_moves_of, destroyed_blocks, elements_in, entries_in, stripped_blocks}
use Rattle.sdr_model.specs.Valid.{IsValidThing}
use Rattle.sdr_model.specs.World.{World, thing_at}
use Rattle.sdr_model.specs.Zco.{as_object, object_at}
use Rattle.sdr_model.specs.declared.things.Element.{Element}
use Rattle.sdr_model.specs.declared.things.HashEntry.{HashEntry}
use Rattle.sdr_model.specs.declared.things.Thing.{Thing}
use Rattle.sdr_model.specs.declared.things.Thing.TheVariants as things
use Rattle.step_keyed.proofs.HashLemmas.{few_entries}
use Rattle.sdr_station.specs.Grounded.{HasStood, StandsWithin, heap_in}
use Rattle.step_zco.proofs.DestroyedFew.{destroyed_few}
use Rattle.step_zco_parts.proofs.StrippedFew.{stripped_few}
use Rattle.step_zco_parts.proofs.ClonedFew.{cloned_few}

-- a heap region that keeps a heap is of no more bytes than are allowed, with few blocks in use
pub small_in : {D : Type 0} (h : Held (Opened D)) {pools : Pools} → KeepsRegion h.size h.cells.bytes pools → IsSmall (heap_in h)
small_in h {pools} keeps = record { few = keeps.few; small = region_small h.size h.cells.bytes pools keeps }

-- a heap that stands for the state of an open transaction has stood for its world
pub stood_of : {D : Type 0} {h : Held (Opened D)} {shown : List ℕ} {s : State} → StandsWithin h shown s → HasStood h.size s.world
stood_of {D} {h} w =
    let small = small_in h w.keeps in
    record { heap = heap_in h; same = refl; few = small.few; small = small.small; stands = w.heap; whole = w.whole }

-- a list of it has at most one element for 16 bytes of the heap
pub elements_few : (size : ℕ) (w : World) (addr : ℕ) → HasStood size w
    → 16 * length (elements_in (as_list (thing_at w addr))) ≤ size
elements_few size w addr s = by (thing_at w addr) refl
  where
    by : (found : Option Thing) → thing_at w addr ≡ found → 16 * length (elements_in (as_list found)) ≤ size
    by (Some (things.List row)) is =
        let few =
        few_elements s.heap addr row (record { few = s.few; small = s.small }) (apart addr (things.List row) s.stands is) in
        let same = length-map row.elements (λ (e : Element). e.block) in
        omega (arith, few, same, s.same)
    by found is = omega arith

-- and so has a hash entries
pub entries_few : (size : ℕ) (w : World) (addr : ℕ) → HasStood size w
    → 16 * length (entries_in (as_hash (thing_at w addr))) ≤ size
entries_few size w addr s = by (thing_at w addr) refl
  where
    by : (found : Option Thing) → thing_at w addr ≡ found → 16 * length (entries_in (as_hash found)) ≤ size
    by (Some (things.Hash hash)) is =
        let valid = subst (λ (o : Option Thing). IfSome o IsValidThing) is (s.whole.valid.things addr) in
        let few = few_entries s.heap addr hash valid s.few (apart addr (things.Hash hash) s.stands is) in
        let same = length-map hash.entries (λ (e : HashEntry). e.block) in
        omega (arith, few, same, s.same)
    by found is = omega arith

-- and an object takes at most one block for 16 bytes with it
pub gone_few : (size : ℕ) (w : World) (addr : ℕ) → HasStood size w → 16 * length (destroyed_blocks w addr (object_at w addr)) ≤ size
gone_few size w addr s = by (thing_at w addr) refl
  where
    by : (found : Option Thing) → thing_at w addr ≡ found → 16 * length (destroyed_blocks w addr (as_object found)) ≤ size
    by (Some (things.Object z)) is = let few = destroyed_few s.heap w addr z s.stands s.whole.fits s.few is in omega (arith, few, s.same)
    by found is = omega arith

-- so does one that is cut to its part
pub cut_few : (size : ℕ) (w : World) (addr : ℕ) → HasStood size w → 16 * length (stripped_blocks w (object_at w addr)) ≤ size
cut_few size w addr s = by (thing_at w addr) refl
  where
    by : (found : Option Thing) → thing_at w addr ≡ found → 16 * length (stripped_blocks w (as_object found)) ≤ size
    by (Some (things.Object z)) is = let few = stripped_few s.heap w addr z s.stands s.whole.fits s.few is in omega (arith, few, s.same)
    by found is = omega arith

-- and one that is cloned has at most one move for 16 bytes
pub clones_few : (size : ℕ) (w : World) (addr offset bytes : ℕ) → HasStood size w → (at : ℕ → ℕ)
    → 16 * length (clone_moves_of (object_at w addr) offset bytes at) ≤ size
clones_few size w addr offset bytes s at = by (thing_at w addr) refl
  where
    by : (found : Option Thing) → thing_at w addr ≡ found → 16 * length (clone_moves_of (as_object found) offset bytes at) ≤ size
    by (Some (things.Object z)) is = let few = cloned_few s.heap w addr z offset bytes s.stands s.few is at in omega (arith, few, s.same)
    by found is = omega arith
