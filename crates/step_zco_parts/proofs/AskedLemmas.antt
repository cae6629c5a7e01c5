-- How often media were asked, in words of the world.
use Rattle.std.proofs.Common.{◌≡◌, ◌∙◌, List, Option, None, Some, refl, sym, ap, subst, arith}
use Rattle.step_things.proofs.ListLemmas.{IsSmall}
use Rattle.step_things.specs.Answering.{IsReady}
use Rattle.sdr_stands.specs.Rows.{object_row}
use Rattle.sdr_stands.specs.Standing.{HeapStandsFor}
use Rattle.sdr_base.specs.Objects.{Heap}
use Rattle.sdr_base.specs.declared.media.Media.{Ghosts}
use Rattle.law_steps.proofs.ThingLemmas.{object_is}
use Rattle.sdr_model.specs.Pieces.{asked_addr, extent_pieces, part_pieces, pieces_asked, pieces_of}
use Rattle.sdr_model.specs.World.{World, thing_at}
use Rattle.sdr_model.specs.Zco.{as_object, object_at}
use Rattle.sdr_model.specs.declared.call.Call.{Call}
use Rattle.sdr_model.specs.declared.piece.Piece.{Piece}
use Rattle.sdr_model.specs.declared.zco.ZcoObject.{ZcoObject}
use Rattle.step_zco.proofs.ObjectLemmas.{object_is_at}
use Rattle.step_zco_parts.specs.Giving.{AsksInEach, asked_by}
use Rattle.step_zco_parts.proofs.WireKeptLemmas.{asked_same, wire_kept}
use Rattle.zco_wire.specs.Asking.{AsksFor, AsksOnce}

-- a call on a heap that stands for a world in which it is served
module _ {M : Type 0} (m : Ghosts M) (heap : Heap) (w : World) (s : HeapStandsFor heap w) (served : IsReady w) (small : IsSmall heap) (call : Call)
    (was now : M) (a : AsksOnce m heap.blocks (asked_addr call) (asked_by call) was now) where
  -- media were asked at most once for each extent that lies with them and of which it needs bytes
  asked_of : (o : Option ZcoObject) → object_at w (asked_addr call) ≡ o → AsksFor m (pieces_of o (part_pieces w call)) was now
  asked_of None is =
      let same : now ≡ was = a.none
      (λ kind.
      let at = object_is_at heap w (asked_addr call) s served kind in
      let no : None ≡ Some at.object = sym is ∙ ap as_object at.there in
      cc) in
      let e = ap m.asks same in
      omega (arith, e)
  asked_of (Some z) is =
      subst (λ (ps : List Piece). AsksFor m ps was now) (asked_same w call z)
      (a.once.asks (object_row z) (extent_pieces w z.extents) (wire_kept heap w s served small (asked_addr call) z (object_is (thing_at w (asked_addr call)) z is)))

  pub asked_in : AsksFor m (pieces_asked w call) was now
  asked_in = asked_of (object_at w (asked_addr call)) refl

-- media that stay weren't asked
pub unasked_in : {M : Type 0} (m : Ghosts M) (call : Call) (heap : Heap) (media : M) → AsksInEach m call heap media media
unasked_in m call heap media = record { each = λ w stands served. omega arith }
