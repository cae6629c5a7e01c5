-- A piece that is added: the gaps that it meets are filled with clones of its bytes.
use Rattle.std.specs.Prelude.{◌≡◌, ◌≢◌, ◌+◌, ◌-◌, ◌<◌, ◌≤◌, ◌⊎◌, ◌==◌, ℕ, Bool, not, List, [], ◌∷◌, ◌++◌, filter, length, sum_by, All, MatchBool, Result, Ok, Err, if◌then◌else◌}
use Rattle.sdr_base.specs.Blocks.{IsKind}
use Rattle.sdr_base.specs.Objects.{Heap, Misses, OnlyFault}
use Rattle.sdr_base.specs.Works.{Looks, Spends}
use Rattle.sdr_base.specs.ZcoObjects.{ObjectRow}
use Rattle.sdr_base.specs.declared.has_heap.HasHeap.{Ghosts}
use Rattle.sdr_base.specs.declared.kind.Kind.TheVariants as kinds
use Rattle.sdr_base.specs.declared.refusal.Refusal.TheVariants as refusals
use Rattle.sdr_base.specs.declared.stop.Stop.{Stop}
use Rattle.sdr_base.specs.declared.stop.Stop.TheVariants.{Refused}
use Rattle.sdr_model.specs.declared.accounts.Ticket.{Ticket}
use Rattle.zco_obj.specs.Gone.{NamedSource}
use Rattle.zco_part.specs.Cloning.{ClonesPart, CloneStops, KeepsToClone}
use Rattle.zco_part.specs.Pieces.{asked}
use Rattle.zco_join.specs.Stocks.{CountsMore}
use Rattle.zco_pieces.specs.Cutting.{HasLength}
use Rattle.zco_pieces.specs.Places.{Rebuilt, opened}
use Rattle.zco_join.specs.declared.filled.Filled.{Filled}
use Rattle.zco_pieces.specs.declared.piece.Piece.{Piece}
use Rattle.zco_pieces.specs.declared.piece.PieceStop.{PieceStop}
use Rattle.zco_pieces.specs.declared.piece.PieceStop.TheVariants as stops

-- a part that has a clone
abbrev pub has_clone : Filled → Bool
has_clone p = not (p.object == 0)

-- Gaps are filled from an object, whose bytes are those of the text from an offset on, for a ticket.
module _ (object number offset : ℕ) where
  -- a gap has a clone of the object's bytes in its place
  pub record FillsGap (p q : Filled) (old new : Heap) : Type 0 where
    pub place : q ≡ record p { object = q.object }
    pub clones : ClonesPart object number (p.offset - offset) p.length old new q.object

  -- a part is filled where it is a gap, and stays as it is where it has a clone
  abbrev pub FillsPart : Filled → Filled → Heap → Heap → Type 0
  FillsPart p q old new = MatchBool (p.object == 0) (FillsGap p q old new) ((q ≡ p) × (new ≡ old))

  -- so are these, one after another
  abbrev pub FillsParts : List Filled → List Filled → Heap → Heap → Type 0
  FillsParts [] [] old new = new ≡ old
  FillsParts (p ∷ ps) (q ∷ qs) old new = (mid : Heap) × FillsPart p q old mid × FillsParts ps qs mid new
  FillsParts ps qs old new = ⊥

  -- why a part isn't filled: it is a gap, and the object's bytes aren't cloned; or a fault
  abbrev pub StopsPart : Filled → Heap → Heap → Stop → Type 0
  StopsPart p old new (Refused refusal) =
      (p.object ≡ 0) × CloneStops object number (p.offset - offset) p.length old new (Refused refusal)
  StopsPart p old new stop = OnlyFault stop

  -- why the first of these isn't filled, or none is
  abbrev pub StopsFirst : List Filled → Heap → Heap → Stop → Type 0
  StopsFirst [] old new stop = OnlyFault stop
  StopsFirst (p ∷ ps) old new stop = StopsPart p old new stop

  -- some first ones of these are filled, and those behind them aren't
  pub record FillsSome (ps qs : List Filled) (old new : Heap) (stop : Stop) : Type 0 where
    pub done : List Filled
    pub left : List Filled
    pub whole : ps ≡ done ++ left
    pub filled : List Filled
    pub mid : Heap
    pub fills : FillsParts done filled old mid
    pub stops : StopsFirst left mid new stop
    pub kept : qs ≡ filled ++ left

  -- so it is, and those are left out that aren't
  pub record KeepsFilled (ps qs : List Filled) (old new : Heap) (stop : Stop) : Type 0 where
    pub parts : List Filled
    pub some : FillsSome ps parts old new stop
    pub kept : qs ≡ filter has_clone parts

-- the gaps among these parts begin at an offset or behind it
abbrev pub BeginAt : ℕ → List Filled → Type 0
BeginAt offset = All (λ p. p.object ≡ 0 → offset ≤ p.offset)

-- so many moves are made where the gaps among these parts are filled from an object, whose bytes are those of the text from an
-- offset on: one for each clone, and one for each of its extents
abbrev pub moves_to_fill : ℕ → ObjectRow → List Filled → ℕ
moves_to_fill offset row =
    sum_by (λ p. if p.object == 0 then 1 + length (asked (p.offset - offset) p.length row) else 0)

-- the heap keeps an object so that the gaps among these parts may be filled from it, and has room for the moves
pub record KeepsToFill (heap : Heap) (object offset : ℕ) (parts : List Filled) (row : ObjectRow) (tickets : List Ticket)
    (sources : List NamedSource) : Type 0 where
  pub keeps : KeepsToClone heap object row tickets sources
  pub counts : All (CountsMore (moves_to_fill offset row parts)) sources
  pub room : moves_to_fill offset row parts ≤ heap.spare

-- it keeps some object so
pub record SomeToFill (heap : Heap) (object offset : ℕ) (parts : List Filled) : Type 0 where
  pub row : ObjectRow
  pub tickets : List Ticket
  pub sources : List NamedSource
  pub keeps : KeepsToFill heap object offset parts row tickets sources

-- it keeps some object so, for the gaps that a piece of all of its bytes meets
pub record SomeToAdd (heap : Heap) (r : Rebuilt) (piece : Piece) : Type 0 where
  pub row : ObjectRow
  pub tickets : List Ticket
  pub sources : List NamedSource
  pub keeps : KeepsToFill heap piece.object piece.offset (opened 0 r.total r.parts piece.offset row.part_length) row tickets sources

-- where an object's block stands, an object is kept so
abbrev pub IsToAdd : Heap → Rebuilt → Piece → Type 0
IsToAdd heap r piece = IsKind (heap.blocks piece.object) kinds.Object → SomeToAdd heap r piece

-- a piece of so many bytes is one of a text of a length
pub record IsPieceOf (total : ℕ) (piece : Piece) (length : ℕ) : Type 0 where
  pub some : 1 ≤ length
  pub within : piece.offset + length ≤ total
  pub same : piece.total ≡ total

-- a piece was added: just its bytes that weren't filled are cloned, each gap from its place on
pub record AddsPiece (number : ℕ) (piece : Piece) (r r' : Rebuilt) (old new : Heap) : Type 0 where
  pub length : ℕ
  pub has : HasLength piece.object length old
  pub fits : IsPieceOf r.total piece length
  pub total : r'.total ≡ r.total
  pub fills : FillsParts piece.object number piece.offset (opened 0 r.total r.parts piece.offset length) r'.parts old new

-- a piece of so many bytes is none of a text of a length, for which the call is refused
abbrev pub IsNoPieceOf : ℕ → Piece → ℕ → Stop → Type 0
IsNoPieceOf total piece length (Refused (refusals.BadRange offset count have)) =
    (offset ≡ piece.offset) × (count ≡ length) × (have ≡ total)
    × ((length ≡ 0) ⊎ ((total < piece.offset + length) ⊎ (piece.total ≢ total)))
IsNoPieceOf total piece length stop = ⊥

-- so it is of the piece's object
pub record RefusesPiece (r : Rebuilt) (piece : Piece) (heap : Heap) (stop : Stop) : Type 0 where
  pub length : ℕ
  pub has : HasLength piece.object length heap
  pub none : IsNoPieceOf r.total piece length stop

-- a piece is one of the text, and not all of its gaps are filled; those that were filled before stay filled
pub record StopsAdding (number : ℕ) (piece : Piece) (r r' : Rebuilt) (old new : Heap) (stop : Stop) : Type 0 where
  pub length : ℕ
  pub has : HasLength piece.object length old
  pub fits : IsPieceOf r.total piece length
  pub total : r'.total ≡ r.total
  pub some : KeepsFilled piece.object number piece.offset (opened 0 r.total r.parts piece.offset length) r'.parts old new stop

-- why a piece isn't added: for the object's address, or since it is none of the text, and all is as before; or since a gap
-- isn't filled; or for want of memory, and all is as before
abbrev pub AddStops : ℕ → Piece → Rebuilt → Rebuilt → Heap → Heap → PieceStop → Type 0
AddStops number piece r r' old new (stops.Stop stop) =
    (Misses (old.blocks piece.object) piece.object kinds.Object stop × (r' ≡ r) × (new ≡ old))
    ⊎ ((RefusesPiece r piece old stop × (r' ≡ r) × (new ≡ old)) ⊎ StopsAdding number piece r r' old new stop)
AddStops number piece r r' old new stops.NoMemory = (r' ≡ r) × (new ≡ old)

-- the call touches so many lines more at most; where it stops for want of memory it only reads
abbrev pub SpendsOrLacks : {S T : Type 0} → Ghosts S → ℕ → S → S → Result T PieceStop → Type 0
SpendsOrLacks {S} {T} m lines old new (Ok value) = Spends {T = T} m lines old new (Ok value)
SpendsOrLacks {S} {T} m lines old new (Err (stops.Stop stop)) = Spends {T = T} m lines old new (Err stop)
SpendsOrLacks {S} {T} m lines old new (Err stops.NoMemory) = Looks {T = ℕ} m old new (Ok 0)
