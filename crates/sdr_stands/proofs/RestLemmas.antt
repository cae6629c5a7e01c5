-- A heap between transactions, and in one.
use Rattle.std.proofs.Common.{◌≡◌, ℕ, ◌==◌, List, false, refl, sym, ap, ◌∙◌, subst}
use Rattle.std.specs.List.{list_any}
use Rattle.sdr_base.specs.Blocks.{Blocks}
use Rattle.sdr_base.specs.Entries.{BlocksAre}
use Rattle.sdr_base.specs.KeptHeap.{KeepsHeap, block_in, root_in}
use Rattle.sdr_base.specs.Objects.{Heap}
use Rattle.sdr_base.specs.Pools.{Pools}
use Rattle.sdr_model.specs.World.{World, at_rest}
use Rattle.sdr_stands.specs.Standing.{HeapStandsFor, StandsFor, entries_of}

pub begins : (bytes : List ℕ) (heap : Heap) (w : World) (P : Pools) → StandsFor bytes w P →
    heap.blocks ≡ block_in bytes → heap.roots ≡ root_in bytes → ((addr : ℕ) → heap.marks addr ≡ false) →
    HeapStandsFor heap w
begins bytes heap w P s blocks roots marks = record {
  blocks = subst (λ (b : Blocks). BlocksAre b (entries_of w)) (sym blocks) s.blocks;
  roots = roots ∙ s.roots;
  marks = λ addr. marks addr ∙ sym (ap (λ ms. list_any (λ m. m == addr) ms) s.marks);
}

pub ends : (bytes : List ℕ) (heap : Heap) (w : World) (P : Pools) → HeapStandsFor heap w →
    heap.blocks ≡ block_in bytes → heap.roots ≡ root_in bytes → KeepsHeap bytes P → w.taken ≡ 0 →
    StandsFor bytes (at_rest w) P
ends bytes heap w P s blocks roots keeps taken = record {
  heap = keeps;
  blocks = subst (λ (b : Blocks). BlocksAre b (entries_of w)) blocks s.blocks;
  roots = sym roots ∙ s.roots;
  marks = refl;
  shown = refl;
  taken = taken;
}
