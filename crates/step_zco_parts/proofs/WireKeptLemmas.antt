-- An object of a world, kept in its blocks with what its extents name.
use Rattle.std.proofs.Common.{◌≡◌, ◌≤◌, ◌+◌, ◌∙◌, ℕ, List, [], ◌∷◌, ◌++◌, Bool, Option, Some, None, map, length, refl, sym, ap, ap₂, subst, arith, append_assoc}
use Rattle.std.specs.Prelude.{IfSome}
use Rattle.step_things.proofs.ListLemmas.{IsSmall}
use Rattle.step_things.specs.Answering.{IsReady}
use Rattle.sdr_stands.specs.Rows.{capsule_row, extent_row, medium_of, object_row, path_of, source_row}
use Rattle.sdr_stands.specs.Standing.{HeapStandsFor}
use Rattle.sdr_base.specs.Objects.{Heap}
use Rattle.law_steps.proofs.SourceViews.{AllLie, fits_from}
use Rattle.law_steps.proofs.ThingLemmas.{source_is}
use Rattle.sdr_model.specs.Limits.{longest_path}
use Rattle.sdr_model.specs.Pieces.{capsule_pieces, cut_pieces, extent_pieces, part_pieces, raw_piece, source_piece, subject_piece}
use Rattle.sdr_model.specs.Valid.{HasBytes, HasSubject, IsValidSubject, IsValidThing, LiesInside}
use Rattle.sdr_model.specs.World.{World, as_raw, thing_at}
use Rattle.sdr_model.specs.Zco.{as_object, source_at}
use Rattle.sdr_model.specs.declared.call.Call.{Call}
use Rattle.sdr_model.specs.declared.call.Call.TheVariants as calls
use Rattle.sdr_model.specs.declared.piece.Piece.{Piece}
use Rattle.sdr_model.specs.declared.piece.Piece.TheVariants as pieces
use Rattle.sdr_model.specs.declared.things.Thing.{Thing}
use Rattle.sdr_model.specs.declared.things.Thing.TheVariants as things
use Rattle.sdr_model.specs.declared.zco.Capsule.{Capsule}
use Rattle.sdr_model.specs.declared.zco.Extent.{Extent}
use Rattle.sdr_model.specs.declared.zco.Subject.{Subject}
use Rattle.sdr_model.specs.declared.zco.Subject.TheVariants as subjects
use Rattle.sdr_model.specs.declared.zco.ZcoObject.{ZcoObject}
use Rattle.sdr_model.specs.declared.zco.ZcoSource.{ZcoSource}
use Rattle.step_zco.proofs.ObjectLemmas.{object_kept, short_source}
use Rattle.step_zco_parts.specs.Giving.{asked_by}
use Rattle.step_zco.proofs.SourceLemmas.{IsRawOf, counted_in, source_tied}
use Rattle.zco_obj.specs.Links.{piece_of}
use Rattle.zco_wire.specs.Naming.{AreNamed, HasUntil, IsNamed, KeepsWire, head_pieces}
use Rattle.zco_wire.specs.Naming as wire

-- the path of a subject isn't too long
path_short : (subject : Subject) → IsValidSubject subject → length (path_of subject) ≤ longest_path
path_short (subjects.File path) v = v.1
path_short (subjects.Bulk item) v = omega arith
path_short (subjects.Heap raw) v = omega arith
path_short (subjects.Obj raw) v = omega arith

-- a raw object has the bytes of its source
until_subject : (w : World) (subject : Subject) (bytes : List ℕ) (all end : ℕ) → IsRawOf w subject bytes → HasSubject w all subject → end ≤ all →
    HasUntil (medium_of subject) bytes end
until_subject w (subjects.File path) bytes all end raw has le = tt
until_subject w (subjects.Bulk item) bytes all end raw has le = tt
until_subject w (subjects.Heap raw) bytes all end there has le =
    let l : length bytes ≡ all = subst (λ (o : Option Thing). HasBytes all (as_raw o)) there has in omega (arith, l, le)
until_subject w (subjects.Obj raw) bytes all end there has le =
    let l : length bytes ≡ all = subst (λ (o : Option Thing). HasBytes all (as_raw o)) there has in omega (arith, l, le)

-- the piece of a subject is that of its row
source_piece_is : (w : World) (subject : Subject) (flagged : Bool) (all : ℕ) (bytes : List ℕ) (offset count : ℕ) → IsRawOf w subject bytes →
    subject_piece w offset count subject
    ≡ wire.source_piece (source_row (record { subject = subject; length = all; flagged = flagged })) bytes offset count
source_piece_is w (subjects.File path) flagged all bytes offset count raw = refl
source_piece_is w (subjects.Bulk item) flagged all bytes offset count raw = refl
source_piece_is w (subjects.Heap raw) flagged all bytes offset count there =
    ap (λ (o : Option Thing). raw_piece offset count (as_raw o)) there
source_piece_is w (subjects.Obj raw) flagged all bytes offset count there =
    ap (λ (o : Option Thing). raw_piece offset count (as_raw o)) there

-- in a heap that stands for a world in which calls are served
module _ (heap : Heap) (w : World) (s : HeapStandsFor heap w) (served : IsReady w) (small : IsSmall heap) where
  -- what an extent names
  extent_named : (e : Extent) (o : Option ZcoSource) → source_at w e.source ≡ o → LiesInside e o →
      IsNamed heap.blocks (piece_of (extent_row e)) (source_piece w e.offset e.length o)
  extent_named e None is inside = absurd inside
  extent_named e (Some source) is inside =
      let there = source_is (thing_at w e.source) source is in
      let t = source_tied heap w e.source source s served small there in
      let valid = subst (λ (o : Option Thing). IfSome o IsValidThing) there (served.whole.valid.things e.source) in
      let has = (fits_from w served.whole.fits).subjects e.source source is in
      record {
        source = counted_in w e.source source;
        bytes = t.bytes;
        tied = t.tied;
        path = path_short source.subject valid.subject;
        ends = let most = short_source heap w s served small e.source source is in omega (arith, most, inside);
        inside = until_subject w source.subject t.bytes source.length (e.offset + e.length) t.raw has inside;
        is = source_piece_is w source.subject source.flagged source.length t.bytes e.offset e.length t.raw;
      }

  -- and all extents
  extents_named : (es : List Extent) → AllLie w.things es → AreNamed heap.blocks (map extent_row es) (extent_pieces w es)
  extents_named [] lie = tt
  extents_named (e ∷ es) lie = (extent_named e (source_at w e.source) refl lie.0, extents_named es lie.1)

  -- so the object is kept with it
  pub wire_kept : (addr : ℕ) (z : ZcoObject) → thing_at w addr ≡ Some (things.Object z) →
      KeepsWire heap.blocks addr (object_row z) (extent_pieces w z.extents)
  wire_kept addr z there = record {
    keeps = object_kept heap w s served small addr z there;
    are = extents_named z.extents ((fits_from w served.whole.fits).inside addr z (ap as_object there));
  }

-- headers and trailers are the same pieces
heads_same : (cs : List Capsule) → head_pieces (map capsule_row cs) ≡ capsule_pieces cs
heads_same [] = refl
heads_same (c ∷ cs) = ap (λ (l : List Piece). pieces.Known c.text ∷ l) (heads_same cs)

-- what a call asks of the object's blocks is what it asks of the object
pub asked_same : (w : World) (call : Call) (z : ZcoObject) →
    asked_by call (object_row z) (extent_pieces w z.extents) ≡ part_pieces w call z
asked_same w (calls.Transmit addr place count) z =
    ap₂ (λ (h t : List Piece). cut_pieces place count (h ++ (extent_pieces w z.extents ++ t))) (heads_same z.headers) (heads_same z.trailers)
    ∙ ap (cut_pieces place count) (sym (append_assoc (capsule_pieces z.headers) (extent_pieces w z.extents) (capsule_pieces z.trailers)))
asked_same w (calls.ReceiveHeaders addr place count) z = refl
asked_same w (calls.ReceiveSource addr place count) z = refl
asked_same w (calls.ReceiveTrailers addr place count) z = refl
asked_same w call z = refl
