-- A part of a source or of a raw object that an object gets, as a step, and the lines that it touches.
use Rattle.std.proofs.Common.{◌≡◌, ◌⊎◌, ℕ, List, [], Option, Some, None, inl, inr, refl, if◌then◌else◌}
use Rattle.std.specs.Prelude.{Result, is_some}
use Rattle.step_things.proofs.KindLemmas.{own_in_use}
use Rattle.step_things.proofs.ListLemmas.{IsSmall}
use Rattle.step_things.proofs.RowLemmas.{misnamed_refused}
use Rattle.step_things.specs.Answering.{Answered, IsRefused, IsReady}
use Rattle.sdr_stands.specs.Standing.{HeapStandsFor}
use Rattle.sdr_base.specs.Blocks.{IsKind}
use Rattle.sdr_base.specs.Objects.{Heap, Misses}
use Rattle.sdr_base.specs.Works.{Spends}
use Rattle.sdr_base.specs.declared.has_heap.HasHeap.{Ghosts}
use Rattle.sdr_base.specs.declared.kind.Kind.TheVariants as kinds
use Rattle.sdr_base.specs.declared.refusal.Refusal.{Refusal}
use Rattle.sdr_base.specs.declared.stop.Stop.{Stop}
use Rattle.sdr_base.specs.declared.stop.Stop.TheVariants as stops
use Rattle.law_steps.proofs.ThingLemmas.{source_is}
use Rattle.sdr_model.specs.World.{World, thing_at}
use Rattle.sdr_model.specs.Zco.{object_at, source_at}
use Rattle.sdr_model.specs.declared.answer.Reply.TheVariants as replies
use Rattle.sdr_model.specs.declared.call.Call.{Call}
use Rattle.sdr_model.specs.declared.call.Call.TheVariants as calls
use Rattle.sdr_model.specs.declared.things.Thing.TheVariants as things
use Rattle.sdr_model.specs.declared.zco.ZcoSource.{ZcoSource}
use Rattle.step_zco.proofs.AppendLemmas.{AppendsNamed}
use Rattle.step_zco.proofs.AppendRawCalls.{raw_appended, raw_refused}
use Rattle.step_zco.proofs.AppendSourceCalls.{source_appended, source_refused}
use Rattle.step_zco.proofs.ObjectLemmas.{no_object}
use Rattle.zco_obj.specs.AppendStops.{AppendStops, RawPieceStops, SourceStops}
use Rattle.zco_obj.specs.Appending.{AppendsPiece}
use Rattle.zco_obj.specs.declared.extent.ExtentPiece.{ExtentPiece}

-- a call on a heap that stands for a world in which it is served
module _ (old new : Heap) (w : World) (unmoved : old.moves ≡ []) (s : HeapStandsFor old w) (served : IsReady w) (small : IsSmall old)
    (addr number named offset bytes : ℕ) where
  abbrev call : Call
  call = calls.AppendExtent addr number named offset bytes

  abbrev piece : ExtentPiece
  piece = record { of = named; offset = offset; bytes = bytes }

  -- it was appended
  pub piece_appended : AppendsPiece addr number piece old new → Answered w call new [] replies.Done
  piece_appended (inl a) = source_appended old new w unmoved s served small addr number named offset bytes a
  piece_appended (inr a) = raw_appended old new w unmoved s served small addr number named offset bytes a

  -- or it wasn't
  pub piece_refused : (was : List ℕ) (refusal : Refusal) → AppendStops addr number piece old new (stops.Refused refusal) →
      IsRefused w call old new was was refusal
  piece_refused was refusal m = by m
    where
      by : (Misses (old.blocks addr) addr kinds.Object (stops.Refused refusal) × (new ≡ old))
          ⊎ (SourceStops addr number piece old new (stops.Refused refusal)
          ⊎ RawPieceStops addr number piece old new (stops.Refused refusal)) → IsRefused w call old new was was refusal
      by (inl m) =
          misnamed_refused w call addr kinds.Object (object_at w addr)
          (λ o z. AppendsNamed w o addr number named offset bytes z) old new was (λ o h. h)
          (no_object old w addr s served.whole.valid) unmoved m.1 s served.whole.valid refusal m.0
      by (inr (inl m)) = source_refused old new w unmoved s served small addr number named offset bytes was refusal m
      by (inr (inr m)) = raw_refused old new w unmoved s served small addr number named offset bytes was refusal m

-- so many lines it touches at most, by whether a source is there in the world
pub append_works : {S T : Type 0} {m : Ghosts S} {a b : S} {r : Result T Stop} (old : Heap) (w : World) (named : ℕ) →
    HeapStandsFor old w → IsReady w → Spends m 73 a b r → (IsKind (old.blocks named) kinds.Source → Spends m 42 a b r) →
    Spends m (if is_some (source_at w named) then 42 else 73) a b r
append_works {S} {T} {m} {a} {b} {r} old w named s served most less = by (source_at w named) refl
  where
    by : (o : Option ZcoSource) → source_at w named ≡ o → Spends m (if is_some o then 42 else 73) a b r
    by None is = most
    by (Some source) is =
        less (own_in_use old w named (things.Source source) s served.whole.valid (source_is (thing_at w named) source is))
