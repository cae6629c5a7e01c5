-- Raw objects in blocks.
use Rattle.std.proofs.Common.{◌≡◌, ◌∙◌, ◌+◌, ◌++◌, ℕ, List, [], ◌∷◌, Option, None, Some, suc, length, take, drop, refl, sym, ap, subst, arith}
use Rattle.std.specs.Prelude.{replicate}
use Rattle.step_things.proofs.KindLemmas.{own_in_use, thing_is_at}
use Rattle.sdr_stands.proofs.ChangeLemmas.{apart}
use Rattle.sdr_stands.specs.Standing.{HeapStandsFor}
use Rattle.sdr_stands.specs.Ties.{ties_of}
use Rattle.sdr_base.specs.Blocks as base
use Rattle.sdr_base.specs.Blocks.{IsKind}
use Rattle.sdr_base.specs.Entries.{BlocksAre}
use Rattle.sdr_base.specs.Making.{MakesThing, besides}
use Rattle.sdr_base.specs.Objects.{Heap, TakesZeros}
use Rattle.sdr_base.specs.Parts.{overwrite, part}
use Rattle.sdr_base.specs.Raws.{raw_block}
use Rattle.sdr_base.specs.Words.{layout}
use Rattle.sdr_base.specs.declared.kind.Kind.TheVariants as kinds
use Rattle.sdr_base.proofs.StandingLemmas.{came, found}
use Rattle.sdr_model.specs.Things.{own_block}
use Rattle.sdr_model.specs.Valid.{IsValid}
use Rattle.sdr_model.specs.World.{World, as_raw, thing_at}
use Rattle.sdr_model.specs.declared.things.Thing.{Thing}
use Rattle.sdr_model.specs.declared.things.Thing.TheVariants as things

-- zero bytes are those of a raw object of zeros that no source names
pub raw_zeros : (bytes : ℕ) → replicate (8 + bytes) 0 ≡ (raw_block 0 (replicate bytes 0)).bytes
unfolding layout
raw_zeros bytes =
    let e : 8 + bytes ≡ suc (suc (suc (suc (suc (suc (suc (suc bytes))))))) = omega arith in
    ap (λ (n : ℕ). replicate n 0) e

-- bytes of a raw object are read behind its source word
pub part_of_raw : (named place count : ℕ) (bytes : List ℕ)
    → part (8 + place) count (raw_block named bytes).bytes ≡ part place count bytes
unfolding layout
part_of_raw named place count bytes =
    let e : 8 + place ≡ suc (suc (suc (suc (suc (suc (suc (suc place))))))) = omega arith in
    ap (λ (n : ℕ). part n count (raw_block named bytes).bytes) e

-- and written there
pub overwrite_raw : (named place : ℕ) (from bytes : List ℕ) →
    overwrite (8 + place) from (raw_block named bytes).bytes ≡ (raw_block named (overwrite place from bytes)).bytes
unfolding layout
overwrite_raw named place from bytes =
    let e : 8 + place ≡ suc (suc (suc (suc (suc (suc (suc (suc place))))))) = omega arith in
    let f : 8 + place + length from ≡ suc (suc (suc (suc (suc (suc (suc (suc (place + length from)))))))) = omega arith in
    λ i. take (e i) (raw_block named bytes).bytes ++ from ++ drop (f i) (raw_block named bytes).bytes

-- the bytes of a raw object's block
pub length_of_raw : (named : ℕ) (bytes : List ℕ) → length (raw_block named bytes).bytes ≡ 8 + length bytes
unfolding layout
length_of_raw named bytes = omega arith

-- a block of zero bytes that was taken is a raw object that was made, which no source names
pub zeros_made : (bytes addr : ℕ) (old new : Heap) → TakesZeros kinds.Raw (8 + bytes) addr old new
    → MakesThing (8 + bytes) addr ((addr, raw_block 0 (replicate bytes 0)) ∷ []) old new
zeros_made bytes addr old new t =
    subst (λ (zeros : List ℕ). MakesThing (8 + bytes) addr ((addr, record { kind = kinds.Raw; bytes = zeros }) ∷ []) old new)
    (raw_zeros bytes) (record {
      adds = record {
        nonzero = t.nonzero;
        small = t.small;
        fresh = t.fresh;
        changes = record {
          kept = λ rest s.
              subst (λ (b : base.Blocks). BlocksAre b ((addr, record { kind = kinds.Raw; bytes = replicate (8 + bytes) 0 }) ∷ rest))
              (sym (ap (λ (h : Heap). h.blocks) t.taken))
              (came old.blocks addr (record { kind = kinds.Raw; bytes = replicate (8 + bytes) 0 }) [] rest t.nonzero t.fresh s);
        };
      };
      made = record { all = ap besides t.taken };
    })

-- a raw object, and its block
pub record IsRawAt (heap : Heap) (w : World) (addr : ℕ) : Type 0 where
  pub bytes : List ℕ
  pub there : thing_at w addr ≡ Some (things.Raw bytes)
  pub block : heap.blocks addr ≡ Some (raw_block ((ties_of w).named_by addr) bytes)

pub raw_stands : (heap : Heap) (w : World) (addr : ℕ) (bytes : List ℕ) → HeapStandsFor heap w
    → thing_at w addr ≡ Some (things.Raw bytes)
    → IsRawAt heap w addr
raw_stands heap w addr bytes s there =
    let a = apart addr (things.Raw bytes) s there in
    record {
      bytes =
          bytes;
      there = there;
      block = found heap.blocks addr (raw_block ((ties_of w).named_by addr) bytes) [] a.rest a.stands;
    }

own_raw : (addr : ℕ) (thing : Thing) → (own_block addr thing).kind ≡ kinds.Raw → (bytes : List ℕ) × (thing ≡ things.Raw bytes)
own_raw addr (things.Raw bytes) is = (bytes, refl)
own_raw addr thing is = absurd cc

-- a block in use of the kind of raw objects is a raw object's
pub raw_is_at : (heap : Heap) (w : World) (addr : ℕ) → HeapStandsFor heap w → IsValid w → IsKind (heap.blocks addr) kinds.Raw
    → IsRawAt heap w addr
raw_is_at heap w addr s valid kind =
    let t = thing_is_at heap w addr kinds.Raw s valid refl kind in
    let raw = own_raw addr t.thing t.kind_is in
    raw_stands heap w addr raw.0 s (t.there ∙ ap Some raw.1)

-- and where there is none, no raw object is
pub no_raw : (heap : Heap) (w : World) (addr : ℕ) → HeapStandsFor heap w → IsValid w → ¬ IsKind (heap.blocks addr) kinds.Raw
    → as_raw (thing_at w addr) ≡ None
no_raw heap w addr s valid other = by (thing_at w addr) refl
  where
    by : (o : Option Thing) → thing_at w addr ≡ o → as_raw o ≡ None
    by (Some (things.Raw bytes)) at = absurd (other (own_in_use heap w addr (things.Raw bytes) s valid at))
    by None at = refl
    by (Some thing) at = refl
