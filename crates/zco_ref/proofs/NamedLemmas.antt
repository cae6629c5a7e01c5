-- Sources of raw objects that were made.
use Rattle.std.proofs.Common.{◌≡◌, ◌≢◌, ℕ, ◌+◌, ◌-◌, ◌≤◌, List, [], ◌∷◌, length, refl, sym, ap, ◌∙◌, arith, subst}
use Rattle.std.specs.Prelude.{Option, None, Some}
use Rattle.sdr_base.specs.Blocks.{Block, Blocks, HasLength, IsKind, Reaches}
use Rattle.sdr_base.specs.Entries.{BlocksAre}
use Rattle.sdr_base.specs.Making.{besides}
use Rattle.sdr_base.specs.Objects.{Heap, OnlyShort, OnlyUnmoved}
use Rattle.sdr_base.specs.Raws.{raw_block}
use Rattle.sdr_base.specs.Words.{HasWord, with_word}
use Rattle.sdr_base.specs.declared.kind.Kind.TheVariants as kinds
use Rattle.sdr_base.specs.declared.medium.Medium.{Medium}
use Rattle.sdr_base.specs.declared.refusal.Refusal.TheVariants as refusals
use Rattle.sdr_base.specs.declared.stop.Stop.{Stop}
use Rattle.sdr_base.specs.declared.stop.Stop.TheVariants.{Refused, DiskFault, MediaFault, Failed}
use Rattle.sdr_base.proofs.HeapLemmas.{heap_blocks, short_after}
use Rattle.sdr_base.proofs.LayoutLemmas.{length-layout}
use Rattle.sdr_base.proofs.ObjectsLemmas.{with_block-apart}
use Rattle.sdr_base.proofs.WritingLemmas.{word_set}
use Rattle.zco_ref.specs.Counting.{TellsUses}
use Rattle.zco_ref.specs.Kept.{KeepsRaw, SomeFew, SomeRaw, counted_block}
use Rattle.zco_ref.specs.Making.{TakesSource, plain_row, unused}
use Rattle.zco_ref.specs.Naming.{HasUnnamed, IsNamed, IsUnnamed, HasUses, MakesRawSource, NamingStops, RawStops}
use Rattle.zco_ref.proofs.KeptLemmas.{named_by_is, raw_reaches}
use Rattle.zco_ref.proofs.MadeLemmas.{source_made}

-- a raw object's block has its source word, and its bytes behind it
whole_is : {found : Option Block} {all named_by : ℕ} {bytes : List ℕ} → KeepsRaw found named_by bytes → HasLength found all →
    all ≡ 8 + length bytes
whole_is {found} {all} {named_by} {bytes} k long =
    let whole : HasLength (Some (raw_block named_by bytes)) all = subst (λ o. HasLength o all) k.block long in
    whole ∙ length-layout (named_by ∷ []) bytes

pub raw_whole : {blocks : Blocks} {raw all : ℕ} → SomeRaw blocks raw → HasLength (blocks raw) all → 8 ≤ all
raw_whole {blocks} {raw} {all} s long = let e = whole_is s.keeps long in omega (arith, e)

-- no source names it where its source word is 0
pub has_unnamed : {found : Option Block} {named_by : ℕ} (all : ℕ) → IsKind found kinds.Raw → HasLength found all →
    HasWord found 0 named_by → named_by ≡ 0 → HasUnnamed found (all - 8)
has_unnamed all kind long h z = record {
  unnamed = record { kind = kind; none = λ by bytes k. sym (named_by_is k h) ∙ z };
  counts = λ by bytes k. let e = whole_is k long in omega (arith, e);
}

-- the source that names it is kept
pub naming_few : {blocks : Blocks} {raw named_by : ℕ} → SomeRaw blocks raw → HasWord (blocks raw) 0 named_by → named_by ≢ 0 →
    SomeFew (blocks named_by)
naming_few {blocks} {raw} {named_by} s h nz =
    let e = named_by_is s.keeps h in
    subst (λ (n : ℕ). SomeFew (blocks n)) (sym e) (s.named (λ z. nz (e ∙ z)))

-- a source names it where its source word isn't 0
pub in_use : {blocks : Blocks} {raw named_by count : ℕ} → IsKind (blocks raw) kinds.Raw → HasWord (blocks raw) 0 named_by →
    named_by ≢ 0 → TellsUses (blocks named_by) count → IsNamed blocks raw count
in_use {blocks} {raw} {named_by} {count} kind h nz t = record {
  kind = kind;
  used = λ by bytes k.
      subst (λ (n : ℕ). HasUses blocks n count) (named_by_is k h) (record { some = nz; counts = t.tells });
}

-- the raw object is there once its source's block is taken
pub still_reaches : {addr raw : ℕ} {old mid : Heap} (count : ℕ) (medium : Medium) → SomeRaw old.blocks raw →
    TakesSource (plain_row medium raw count) addr old mid → Reaches (mid.blocks raw) 8
still_reaches {addr} {raw} {old} {mid} count medium s t =
    let apart : raw ≢ addr =
    λ e. let d : None ≡ Some (raw_block s.named_by s.bytes) = sym t.fresh ∙ ap old.blocks (sym e) ∙ s.keeps.block in cc in
    subst (λ (o : Option Block). Reaches o 8)
    (sym (ap (λ (b : Blocks). b raw) (heap_blocks t.taken) ∙ with_block-apart old.blocks addr _ raw apart)) (raw_reaches s.keeps)

-- the source was made, and the raw object names it
pub raw_source_made : {addr count : ℕ} {old mid new : Heap} (medium : Medium) (raw : ℕ) → HasUnnamed (old.blocks raw) count →
    TakesSource (plain_row medium raw count) addr old mid → new ≡ with_word mid raw 0 addr →
    MakesRawSource medium raw addr old new
raw_source_made {addr} {count} {old} {mid} {new} medium raw h t w = record {
  unnamed = h.unnamed;
  adds = λ bytes k. record {
    nonzero = t.nonzero;
    small = t.small;
    fresh = t.fresh;
    changes = record {
      kept = λ rest s.
          let row = plain_row medium raw count in
          let one : BlocksAre mid.blocks ((addr, counted_block (unused row)) ∷ ((raw, raw_block 0 bytes) ∷ rest)) =
          (source_made row t).adds.changes.kept ((raw, raw_block 0 bytes) ∷ rest) s in
          subst (λ (n : ℕ). BlocksAre new.blocks
          ((addr, counted_block (unused (plain_row medium raw n))) ∷ ((raw, raw_block addr bytes) ∷ rest)))
          (h.counts 0 bytes k)
          (word_set mid.blocks new.blocks raw kinds.Raw (0 ∷ []) bytes 0 addr ((addr, counted_block (unused row)) ∷ []) rest
          (heap_blocks w) (omega arith) one);
    };
  };
  made = record { all = ap besides w ∙ (source_made (plain_row medium raw count) t).made.all };
}

-- why none is made: for the raw object
pub raw_refused : (raw : ℕ) (old new : Heap) (stop : Stop) → RawStops old.blocks raw stop → new ≡ old → NamingStops raw old new stop
raw_refused raw old new (Refused (refusals.BadAddress bad)) r e = (r, e)
raw_refused raw old new (Refused (refusals.WrongKind bad number)) r e = (r, e)
raw_refused raw old new (Refused (refusals.InUse bad count)) r e = (r, e)
raw_refused raw old new (Refused refusal) r e = absurd r
raw_refused raw old new DiskFault r e = r
raw_refused raw old new MediaFault r e = r
raw_refused raw old new Failed r e = r

-- or for want of a block or of log room
pub naming_stops : (raw : ℕ) (old new : Heap) (stop : Stop) → IsUnnamed (old.blocks raw) → OnlyShort 48 old new stop →
    NamingStops raw old new stop
naming_stops raw old new (Refused (refusals.BadAddress bad)) u s = absurd s
naming_stops raw old new (Refused (refusals.WrongKind bad number)) u s = absurd s
naming_stops raw old new (Refused (refusals.InUse bad count)) u s = absurd s
naming_stops raw old new (Refused refusal) u s = (u, s)
naming_stops raw old new DiskFault u s = s
naming_stops raw old new MediaFault u s = s
naming_stops raw old new Failed u s = s

-- which may come once the source's block was taken
pub unnamed_stops : {addr count : ℕ} {old mid : Heap} (medium : Medium) (raw : ℕ) (new : Heap) (stop : Stop) →
    HasUnnamed (old.blocks raw) count → TakesSource (plain_row medium raw count) addr old mid → OnlyUnmoved mid new stop →
    NamingStops raw old new stop
unnamed_stops {addr} {count} {old} {mid} medium raw new stop h t u =
    naming_stops raw old new stop h.unnamed
    (short_after mid new stop (source_made (plain_row medium raw count) t).made refl u)
