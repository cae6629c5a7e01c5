-- Lengths of objects that are told, as steps.
use Rattle.std.proofs.Common.{◌≡◌, ◌∙◌, ℕ, List, [], length, refl, ap, arith}
use Rattle.step_things.proofs.ListLemmas.{IsSmall}
use Rattle.step_things.proofs.RowLemmas.{looked, misnamed_refused}
use Rattle.step_things.specs.Answering.{Answered, IsRefused, IsReady}
use Rattle.sdr_stands.specs.Rows.{capsule_row, extent_row, object_row}
use Rattle.sdr_stands.specs.Standing.{HeapStandsFor}
use Rattle.sdr_base.specs.Objects.{Heap, Misses}
use Rattle.sdr_base.specs.ZcoObjects.{CapsuleRow}
use Rattle.sdr_base.specs.declared.kind.Kind.TheVariants as kinds
use Rattle.sdr_base.specs.declared.refusal.Refusal.{Refusal}
use Rattle.sdr_base.specs.declared.stop.Stop.TheVariants as stops
use Rattle.sdr_model.proofs.SumLemmas.{sum_by-map}
use Rattle.sdr_model.specs.ObjectSteps as object
use Rattle.sdr_model.specs.World.{World}
use Rattle.sdr_model.specs.Zco.{as_object, object_at}
use Rattle.sdr_model.specs.declared.answer.Reply.TheVariants as replies
use Rattle.sdr_model.specs.declared.call.Call.TheVariants as calls
use Rattle.sdr_model.specs.declared.zco.ZcoObject.{ZcoObject}
use Rattle.step_zco.proofs.ObjectLemmas.{no_object, object_is_at, object_kept}
use Rattle.zco_obj.specs.Reading.{TellsObject, wire_length}

-- an object is as long as its row
wire_same : (z : ZcoObject) → wire_length (object_row z) ≡ object.wire_length z
wire_same z =
    let headers = sum_by-map (λ (c : CapsuleRow). length c.text) capsule_row z.headers in
    let extents = sum_by-map (λ e. e.length) extent_row z.extents in
    let trailers = sum_by-map (λ (c : CapsuleRow). length c.text) capsule_row z.trailers in
    omega (arith, headers, extents, trailers)

-- a call on a heap that stands for a world in which it is served
module _ (old new : Heap) (w : World) (unmoved : old.moves ≡ []) (s : HeapStandsFor old w) (served : IsReady w) (same : new ≡ old) where
  pub length_answered : (addr value : ℕ) → IsSmall old → TellsObject old.blocks addr wire_length value →
      Answered w (calls.ZcoLength addr) new [] (replies.Value value)
  length_answered addr value small t =
      let o = object_is_at old w addr s served t.kind in
      let told = t.told.tells (object_row o.object) (object_kept old w s served small addr o.object o.there) ∙ wire_same o.object in
      looked w (calls.ZcoLength addr) addr (object_at w addr) (λ z. []) (λ z. replies.Value (object.wire_length z)) o.object old new
      (replies.Value value) (λ x h. h) (ap as_object o.there) (ap (λ (n : ℕ). replies.Value n) told) refl unmoved same s

  pub part_answered : (addr value : ℕ) → IsSmall old → TellsObject old.blocks addr (λ row. row.part_length) value →
      Answered w (calls.SourceLength addr) new [] (replies.Value value)
  part_answered addr value small t =
      let o = object_is_at old w addr s served t.kind in
      let told = t.told.tells (object_row o.object) (object_kept old w s served small addr o.object o.there) in
      looked w (calls.SourceLength addr) addr (object_at w addr) (λ z. []) (λ z. replies.Value z.part.length) o.object old new
      (replies.Value value) (λ x h. h) (ap as_object o.there) (ap (λ (n : ℕ). replies.Value n) told) refl unmoved same s

  pub length_refused : (addr : ℕ) (was : List ℕ) (refusal : Refusal) → Misses (old.blocks addr) addr kinds.Object (stops.Refused refusal) →
      IsRefused w (calls.ZcoLength addr) old new was was refusal
  length_refused addr was refusal m =
      misnamed_refused w (calls.ZcoLength addr) addr kinds.Object (object_at w addr) _ old new was (λ o h. h)
      (no_object old w addr s served.whole.valid) unmoved same s served.whole.valid refusal m

  pub part_refused : (addr : ℕ) (was : List ℕ) (refusal : Refusal) → Misses (old.blocks addr) addr kinds.Object (stops.Refused refusal) →
      IsRefused w (calls.SourceLength addr) old new was was refusal
  part_refused addr was refusal m =
      misnamed_refused w (calls.SourceLength addr) addr kinds.Object (object_at w addr) _ old new was (λ o h. h)
      (no_object old w addr s served.whole.valid) unmoved same s served.whole.valid refusal m
