-- The pieces in which the bytes that a call asks of an object lie: in the world, in files and in items.
use Rattle.sdr_base.specs.Media.{Told}
use Rattle.sdr_base.specs.Parts.{part}
use Rattle.sdr_model.specs.Limits.{longest_read}
use Rattle.sdr_model.specs.PartSteps.{part_end}
use Rattle.sdr_model.specs.Reading.{reads_media}
use Rattle.sdr_model.specs.Wire.{ToldBytes, headers_part, known, source_part, trailers_part, unknown, wire_part}
use Rattle.sdr_model.specs.World.{World, thing_at, as_raw}
use Rattle.sdr_model.specs.Zco.{object_at, source_at}
use Rattle.sdr_model.specs.declared.call.Call.TheVariants as calls
use Rattle.sdr_model.specs.declared.call.Call.{Call}
use Rattle.sdr_model.specs.declared.piece.Piece.TheVariants as pieces
use Rattle.sdr_model.specs.declared.piece.Piece.{Piece}
use Rattle.sdr_model.specs.declared.zco.Capsule.{Capsule}
use Rattle.sdr_model.specs.declared.zco.Extent.{Extent}
use Rattle.sdr_model.specs.declared.zco.Subject.TheVariants as subjects
use Rattle.sdr_model.specs.declared.zco.Subject.{Subject}
use Rattle.sdr_model.specs.declared.zco.ZcoObject.{ZcoObject}
use Rattle.sdr_model.specs.declared.zco.ZcoSource.{ZcoSource}
use Rattle.std.specs.Prelude.{◌≡◌, ℕ, ◌+◌, ◌-◌, ◌==◌, ◌≤◌, List, [], ◌∷◌, ◌++◌, length, map, min, max, true, unwrap_or, flat_map, Option, None, Some, if◌then◌else◌}

-- how many bytes a piece has
abbrev pub piece_length : Piece → ℕ
piece_length (pieces.Known bytes) = length bytes
piece_length (pieces.File path offset bytes) = bytes
piece_length (pieces.Bulk item offset bytes) = bytes

-- the bytes of a piece, of which those in a file or an item are left to media
abbrev pub piece_told : Piece → ToldBytes
piece_told (pieces.Known bytes) = known bytes
piece_told (pieces.File path offset bytes) = unknown bytes
piece_told (pieces.Bulk item offset bytes) = unknown bytes

-- the bytes of these pieces, one after another
abbrev pub pieces_told : List Piece → ToldBytes
pieces_told = flat_map piece_told

-- the bytes that are had of a piece where it is read from such media: fewer than it has where a file or item ends before
abbrev pub media_bytes : Told → Piece → List ℕ
media_bytes media (pieces.Known bytes) = bytes
media_bytes media (pieces.File path offset bytes) = part offset bytes (media.files path)
media_bytes media (pieces.Bulk item offset bytes) = part offset bytes (media.items item)

-- the bytes that are had of these pieces, one after another
abbrev pub bytes_by : Told → List Piece → List ℕ
bytes_by media = flat_map (media_bytes media)

-- so many bytes of a piece from a place on
abbrev pub piece_part : ℕ → ℕ → Piece → Piece
piece_part place count (pieces.Known bytes) = pieces.Known (part place count bytes)
piece_part place count (pieces.File path offset bytes) = pieces.File path (offset + place) count
piece_part place count (pieces.Bulk item offset bytes) = pieces.Bulk item (offset + place) count

-- Of the bytes of these pieces, `count` behind the first `skip`, or as many as there are: a part of each piece of which
-- any byte is among them.
abbrev pub cut_pieces : ℕ → ℕ → List Piece → List Piece
cut_pieces skip count [] = []
cut_pieces skip count (p ∷ ps) =
    let bytes = min count (piece_length p - skip) in
    let rest = cut_pieces (skip - piece_length p) (count - bytes) ps in
    if bytes == 0 then rest else piece_part skip bytes p ∷ rest

-- so many bytes that aren't anywhere: those of a file without a name
abbrev pub missing_piece : ℕ → ℕ → Piece
missing_piece offset bytes = pieces.File [] offset bytes

-- some bytes of a raw object as a piece
abbrev pub raw_piece : ℕ → ℕ → Option (List ℕ) → Piece
raw_piece offset bytes None = missing_piece offset bytes
raw_piece offset bytes (Some text) = pieces.Known (part offset bytes text)

-- some bytes of a subject as a piece
abbrev pub subject_piece : World → ℕ → ℕ → Subject → Piece
subject_piece w offset bytes (subjects.File path) = pieces.File path offset bytes
subject_piece w offset bytes (subjects.Bulk item) = pieces.Bulk item offset bytes
subject_piece w offset bytes (subjects.Heap raw) = raw_piece offset bytes (as_raw (thing_at w raw))
subject_piece w offset bytes (subjects.Obj raw) = raw_piece offset bytes (as_raw (thing_at w raw))

-- some bytes of a source as a piece
abbrev pub source_piece : World → ℕ → ℕ → Option ZcoSource → Piece
source_piece w offset bytes None = missing_piece offset bytes
source_piece w offset bytes (Some source) = subject_piece w offset bytes source.subject

-- an extent as a piece
abbrev pub extent_piece : World → Extent → Piece
extent_piece w e = source_piece w e.offset e.length (source_at w e.source)

-- extents as pieces
abbrev pub extent_pieces : World → List Extent → List Piece
extent_pieces w = map (extent_piece w)

-- headers or trailers as pieces
abbrev pub capsule_pieces : List Capsule → List Piece
capsule_pieces = map (λ c. pieces.Known c.text)

-- an object on the wire as pieces
abbrev pub wire_pieces : World → ZcoObject → List Piece
wire_pieces w z = capsule_pieces z.headers ++ extent_pieces w z.extents ++ capsule_pieces z.trailers

-- of the extents' bytes before the part, so many from a place on
abbrev pub header_pieces : World → ℕ → ℕ → ZcoObject → List Piece
header_pieces w place count z = cut_pieces place (min count (z.part.offset - place)) (extent_pieces w z.extents)

-- of the part's bytes, so many from a place among all extents' bytes on
abbrev pub source_pieces : World → ℕ → ℕ → ZcoObject → List Piece
source_pieces w place count z =
    let from = max place z.part.offset in cut_pieces from (min count (part_end z - from)) (extent_pieces w z.extents)

-- of the extents' bytes behind the part, so many from a place among all on
abbrev pub trailer_pieces : World → ℕ → ℕ → ZcoObject → List Piece
trailer_pieces w place count z = cut_pieces (max place (part_end z)) count (extent_pieces w z.extents)

-- of an object that is there
abbrev pub pieces_of : Option ZcoObject → (ZcoObject → List Piece) → List Piece
pieces_of None of = []
pieces_of (Some z) of = of z

-- the address of the object of which a call asks bytes
abbrev pub asked_addr : Call → ℕ
asked_addr (calls.Transmit addr place count) = addr
asked_addr (calls.ReceiveHeaders addr place count) = addr
asked_addr (calls.ReceiveSource addr place count) = addr
asked_addr (calls.ReceiveTrailers addr place count) = addr
asked_addr call = 0

-- how many bytes it asks at most
abbrev pub asked_count : Call → ℕ
asked_count (calls.Transmit addr place count) = count
asked_count (calls.ReceiveHeaders addr place count) = count
asked_count (calls.ReceiveSource addr place count) = count
asked_count (calls.ReceiveTrailers addr place count) = count
asked_count call = 0

-- the bytes that a call asks of an object that it names
abbrev pub part_asked : World → Call → ZcoObject → ToldBytes
part_asked w (calls.Transmit addr place count) z = wire_part w place count z
part_asked w (calls.ReceiveHeaders addr place count) z = headers_part w place count z
part_asked w (calls.ReceiveSource addr place count) z = source_part w place count z
part_asked w (calls.ReceiveTrailers addr place count) z = trailers_part w place count z
part_asked w call z = []

-- the pieces of these bytes
abbrev pub part_pieces : World → Call → ZcoObject → List Piece
part_pieces w (calls.Transmit addr place count) z = cut_pieces place count (wire_pieces w z)
part_pieces w (calls.ReceiveHeaders addr place count) z = header_pieces w place count z
part_pieces w (calls.ReceiveSource addr place count) z = source_pieces w place count z
part_pieces w (calls.ReceiveTrailers addr place count) z = trailer_pieces w place count z
part_pieces w call z = []

-- the pieces of the bytes that a call asks, where the object is there
abbrev pub pieces_asked : World → Call → List Piece
pieces_asked w call = pieces_of (object_at w (asked_addr call)) (part_pieces w call)

-- the object is there, and at most a page of it is asked
abbrev pub AsksPage : Option ZcoObject → ℕ → Type 0
AsksPage None count = ⊥
AsksPage (Some z) count = count ≤ longest_read

-- the call asks for bytes of an object that is there, for at most a page
pub record AsksBytes (w : World) (call : Call) : Type 0 where
  pub reads : reads_media call ≡ true
  pub there : AsksPage (object_at w (asked_addr call)) (asked_count call)

-- the bytes that are told, with zeros in the place of those that aren't
abbrev pub filled : ToldBytes → List ℕ
filled = map (λ byte. unwrap_or byte 0)
