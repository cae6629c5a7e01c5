-- Why a read of an object stops.
use Rattle.std.proofs.Common.{◌≡◌, ◌≤◌, ◌+◌, ◌-◌, ◌∙◌, ℕ, List, Option, take, min, ap, subst, arith}
use Rattle.std.specs.Prelude.{max}
use Rattle.sdr_base.specs.Blocks.{Blocks, IsKind}
use Rattle.sdr_base.specs.Media.{Told}
use Rattle.sdr_base.specs.Objects.{Misses, OnlyFault}
use Rattle.sdr_base.specs.ZcoObjects.{ObjectRow}
use Rattle.sdr_base.specs.declared.kind.Kind.TheVariants as kinds
use Rattle.sdr_base.specs.declared.media.Media.{Ghosts}
use Rattle.sdr_base.specs.declared.refusal.Refusal.TheVariants.{BadAddress, BadLength, SourceShort, WrongKind}
use Rattle.sdr_base.specs.declared.stop.Stop.{Stop}
use Rattle.sdr_base.specs.declared.stop.Stop.TheVariants as stops
use Rattle.sdr_gather.specs.Gathering.{AreGathered}
use Rattle.sdr_model.specs.Pieces.{cut_pieces}
use Rattle.sdr_model.specs.declared.piece.Piece.{Piece}
use Rattle.sdr_model.specs.declared.zco.Part.{Part}
use Rattle.zco_obj.specs.Kept.{KeepsObject}
use Rattle.zco_wire.specs.Asking.{AsksFor, AsksObject}
use Rattle.zco_wire.specs.Naming.{IsWire}
use Rattle.zco_wire.specs.Reading.{FillsWith, asked_headers, asked_source, asked_trailers, end_of}
use Rattle.zco_wire.specs.Seeing.{SeesPart}
use Rattle.zco_wire.specs.Stopping.{IsPageRefused, ReadStops, StopsObject, StopsPieces}

module _ (blocks : Blocks) (object count : ℕ) {M : Type 0} (m : Ghosts M) (asked : ObjectRow → List Piece → List Piece) (old new : M) where
  -- it isn't there
  pub missed : (stop : Stop) → new ≡ old → Misses (blocks object) object kinds.Object stop → ReadStops m blocks object count asked old new stop
  missed (stops.Refused (BadAddress addr)) same s = (same, s)
  missed (stops.Refused (WrongKind addr number)) same s = (same, s)
  missed (stops.Refused refusal) same s = absurd s
  missed stops.MediaFault same s = absurd s
  missed stops.DiskFault same s = tt
  missed stops.Failed same s = tt

  -- too many bytes are asked
  pub paged : (stop : Stop) → new ≡ old → IsKind (blocks object) kinds.Object → IsPageRefused count stop →
      ReadStops m blocks object count asked old new stop
  paged (stops.Refused (BadLength bytes most)) same kind s = (kind, s.0, s.1, s.2, same)
  paged stop same kind s = absurd s

  -- what was asked wasn't read
  pub object_stops : (stop : Stop) → IsKind (blocks object) kinds.Object → IsWire blocks object → count ≤ 4096 →
      StopsObject m blocks object asked old new stop → ReadStops m blocks object count asked old new stop
  object_stops (stops.Refused (SourceShort have want)) kind wire few s = (kind, few, s)
  object_stops stops.MediaFault kind wire few s = (kind, few, s)
  object_stops (stops.Refused refusal) kind wire few s = let w = wire kind in absurd (s.stops w.row w.named w.keeps)
  object_stops stops.DiskFault kind wire few s = tt
  object_stops stops.Failed kind wire few s = tt

  -- the heap failed
  pub faulted : (stop : Stop) → OnlyFault stop → ReadStops m blocks object count asked old new stop
  faulted (stops.Refused refusal) f = absurd f
  faulted stops.MediaFault f = absurd f
  faulted stops.DiskFault f = tt
  faulted stops.Failed f = tt

-- what was asked, in other words
module _ {blocks : Blocks} {object : ℕ} (asked asked' : ObjectRow → List Piece → List Piece)
    (same : (row : ObjectRow) (named : List Piece) → KeepsObject blocks object row → asked row named ≡ asked' row named) where
  pub stops_as : {M : Type 0} (m : Ghosts M) (old new : M) (stop : Stop) → StopsObject m blocks object asked old new stop →
      StopsObject m blocks object asked' old new stop
  stops_as m old new stop s = record {
    stops = λ row named k. subst (λ (ps : List Piece). StopsPieces m ps old new stop) (same row named k.keeps) (s.stops row named k);
  }

  pub asks_as : {M : Type 0} (m : Ghosts M) (old new : M) → AsksObject m blocks object asked old new → AsksObject m blocks object asked' old new
  asks_as m old new s = record {
    asks = λ row named k. subst (λ (ps : List Piece). AsksFor m ps old new) (same row named k.keeps) (s.asks row named k);
  }

  pub fills_as : {told : Option Told} {into : List ℕ} {given : ℕ} → FillsWith told blocks object asked into given →
      FillsWith told blocks object asked' into given
  fills_as {told} {into} {given} f = record {
    few = f.few;
    gives = λ row named k. subst (λ (ps : List Piece). AreGathered told ps (take given into)) (same row named k.keeps) (f.gives row named k);
  }

-- the ranges of an object's extents that are received, by its part as it was seen
module _ {blocks : Blocks} {object : ℕ} (part : Part) (s : SeesPart blocks object part) (place count : ℕ) (row : ObjectRow) (named : List Piece)
    (k : KeepsObject blocks object row) where
  pub headers_asked : cut_pieces place (min count (part.offset - place)) named ≡ asked_headers place count row named
  headers_asked = ap (λ (p : Part). cut_pieces place (min count (p.offset - place)) named) (s.sees row k)

  pub source_asked : cut_pieces (max place part.offset) (min count (part.offset + part.length - max place part.offset)) named
      ≡ asked_source place count row named
  source_asked =
      ap (λ (p : Part). cut_pieces (max place p.offset) (min count (p.offset + p.length - max place p.offset)) named) (s.sees row k)

  pub trailers_asked : cut_pieces (max place (part.offset + part.length)) (min count count) named ≡ asked_trailers place count row named
  trailers_asked =
      ap (λ (p : Part). cut_pieces (max place (p.offset + p.length)) (min count count) named) (s.sees row k)
      ∙ (let m : min count count ≡ count = omega arith in ap (λ n. cut_pieces (max place (end_of row)) n named) m)
