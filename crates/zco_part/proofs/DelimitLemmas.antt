-- The part of an object is set, or isn't.
use Rattle.std.proofs.Common.{◌≡◌, ◌+◌, ◌≤◌, ℕ, [], ◌∙◌, ap, arith, subst}
use Rattle.sdr_base.specs.Blocks.{IsKind, Reaches}
use Rattle.sdr_base.specs.Making.{besides}
use Rattle.sdr_base.specs.Objects.{Heap, Misses, OnlyUnmoved}
use Rattle.sdr_base.specs.Words.{HasWord, with_word}
use Rattle.sdr_base.specs.ZcoObjects.{ObjectRow}
use Rattle.sdr_base.specs.declared.kind.Kind.TheVariants as kinds
use Rattle.sdr_base.specs.declared.refusal.Refusal.TheVariants as refusals
use Rattle.sdr_base.specs.declared.stop.Stop.{Stop}
use Rattle.sdr_base.specs.declared.stop.Stop.TheVariants.{Refused, DiskFault, MediaFault, Failed}
use Rattle.sdr_base.proofs.HeapLemmas.{heap_blocks}
use Rattle.sdr_base.proofs.WritingLemmas.{word_set}
use Rattle.zco_obj.specs.Kept.{KeepsObject, SomeObject, extents_length}
use Rattle.zco_obj.specs.Walks.{TellsExtents}
use Rattle.zco_obj.proofs.ExtentLemmas.{word_reaches}
use Rattle.zco_obj.proofs.KeptLemmas.{object_reaches, object_words}
use Rattle.zco_obj.proofs.PartsLemmas.{extents_from}
use Rattle.zco_part.specs.Delimiting.{Delimits, DelimitStops, HasPart, IsPast, OfObject}

-- the object isn't there
pub missed : (object offset bytes : ℕ) (old new : Heap) (stop : Stop) → Misses (old.blocks object) object kinds.Object stop → new ≡ old →
    DelimitStops object offset bytes old new stop
missed object offset bytes old new (Refused (refusals.BadRange at count have)) m same = absurd m
missed object offset bytes old new (Refused (refusals.LogFull lines room)) m same = absurd m
missed object offset bytes old new (Refused refusal) m same = (m, same)
missed object offset bytes old new DiskFault m same = m
missed object offset bytes old new MediaFault m same = m
missed object offset bytes old new Failed m same = m

-- a word of the object was set, and it reaches as far
pub reaches_still : {old mid : Heap} {object : ℕ} (offset : ℕ) → SomeObject old.blocks object → mid ≡ with_word old object 7 offset →
    Reaches (mid.blocks object) 72
reaches_still {old} {mid} {object} offset q w =
    word_reaches old mid object object 7 offset 72 w (object_reaches q.keeps 64 (omega arith)) (object_reaches q.keeps 72 (omega arith))

module _ (object : ℕ) {first : ℕ} (offset bytes have : ℕ) (old : Heap) (is : IsKind (old.blocks object) kinds.Object)
    (h : HasWord (old.blocks object) 1 first) (t : TellsExtents old.blocks first have) where
  told : {row : ObjectRow} → KeepsObject old.blocks object row → have ≡ extents_length row.extents
  told {row} k = t.tells row.extents (extents_from k h)

  -- the extents haven't the bytes
  pub lacks_part : (new : Heap) (stop : Stop) → IsPast offset bytes have stop → new ≡ old → DelimitStops object offset bytes old new stop
  lacks_part new (Refused (refusals.BadRange at count most)) p same = (
    record {
      kind = is;
      holds = λ row k. subst (λ n. IsPast offset bytes n (Refused (refusals.BadRange at count most))) (told k) p;
    },
    same,
  )
  lacks_part new (Refused refusal) p same = absurd p
  lacks_part new DiskFault p same = absurd p
  lacks_part new MediaFault p same = absurd p
  lacks_part new Failed p same = absurd p

  module _ (within : offset + bytes ≤ have) where
    has_part : OfObject (HasPart offset bytes) object old
    has_part = record { kind = is; holds = λ row k. subst (λ n. offset + bytes ≤ n) (told k) within }

    -- the first word isn't set
    pub not_set : (new : Heap) (stop : Stop) → OnlyUnmoved old new stop → DelimitStops object offset bytes old new stop
    not_set new (Refused (refusals.LogFull lines room)) u = (has_part, u)
    not_set new (Refused refusal) u = absurd u
    not_set new DiskFault u = u
    not_set new MediaFault u = absurd u
    not_set new Failed u = u

    module _ {mid : Heap} (w : mid ≡ with_word old object 7 offset) where
      -- or the second isn't
      pub half_set : (new : Heap) (stop : Stop) → OnlyUnmoved mid new stop → DelimitStops object offset bytes old new stop
      half_set new (Refused (refusals.LogFull lines room)) u =
          (has_part, record { moves = u.moves ∙ ap (λ (x : Heap). x.moves) w; spare = u.spare ∙ ap (λ (x : Heap). x.spare) w })
      half_set new (Refused refusal) u = absurd u
      half_set new DiskFault u = u
      half_set new MediaFault u = absurd u
      half_set new Failed u = u

      -- both are
      pub delimits : {new : Heap} → new ≡ with_word mid object 8 bytes → Delimits object offset bytes old new
      delimits {new} v = record {
        has = has_part;
        changes = λ row k. record {
          kept = λ rest s.
              word_set mid.blocks new.blocks object kinds.Object (object_words (record row { part_offset = offset })) [] 8 bytes [] _
              (heap_blocks v) (omega arith)
              (word_set old.blocks mid.blocks object kinds.Object (object_words row) [] 7 offset [] _ (heap_blocks w) (omega arith) s);
        };
        same = ap besides v ∙ ap besides w;
      }
