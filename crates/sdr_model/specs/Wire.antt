-- The bytes of an object on the wire, and the steps that give some of them.
use Rattle.std.specs.Prelude.{◌≡◌, ℕ, List, [], ◌∷◌, ◌++◌, length, map, max, replicate, take, drop, flat_map, nat_lt, Option, None, Some}
use Rattle.sdr_base.specs.Parts.{part}
use Rattle.sdr_base.specs.declared.refusal.Refusal.TheVariants as refusals
use Rattle.sdr_model.specs.Limits.{longest_read}
use Rattle.sdr_model.specs.PartSteps.{part_end}
use Rattle.sdr_model.specs.Steps.{Outcome, RefusedIf, On}
use Rattle.sdr_model.specs.World.{World, thing_at, as_raw}
use Rattle.sdr_model.specs.Zco.{object_at, source_at}
use Rattle.sdr_model.specs.declared.answer.Reply.TheVariants as replies
use Rattle.sdr_model.specs.declared.zco.Capsule.{Capsule}
use Rattle.sdr_model.specs.declared.zco.Extent.{Extent}
use Rattle.sdr_model.specs.declared.zco.Subject.{Subject}
use Rattle.sdr_model.specs.declared.zco.Subject.TheVariants as subjects
use Rattle.sdr_model.specs.declared.zco.ZcoObject.{ZcoObject}
use Rattle.sdr_model.specs.declared.zco.ZcoSource.{ZcoSource}

-- Bytes, each of which the world tells, or leaves to media: nothing where it lies in a file or an item.
abbrev pub ToldBytes : Type 0
ToldBytes = List (Option ℕ)

-- so many of these bytes from a place on, or as many as there are
abbrev pub some_of : ℕ → ℕ → ToldBytes → ToldBytes
some_of place count told = take count (drop place told)

-- bytes that the world tells
abbrev pub known : List ℕ → ToldBytes
known = map (λ b. Some b)

-- so many bytes that it leaves to media
abbrev pub unknown : ℕ → ToldBytes
unknown bytes = replicate bytes None

-- some bytes of a raw object
abbrev pub raw_told : ℕ → ℕ → Option (List ℕ) → ToldBytes
raw_told offset bytes None = unknown bytes
raw_told offset bytes (Some text) = known (part offset bytes text)

-- some bytes of a subject
abbrev pub bytes_of_subject : World → ℕ → ℕ → Subject → ToldBytes
bytes_of_subject w offset bytes (subjects.Heap raw) = raw_told offset bytes (as_raw (thing_at w raw))
bytes_of_subject w offset bytes (subjects.Obj raw) = raw_told offset bytes (as_raw (thing_at w raw))
bytes_of_subject w offset bytes subject = unknown bytes

-- some bytes of a source
abbrev pub bytes_of_source : World → ℕ → ℕ → Option ZcoSource → ToldBytes
bytes_of_source w offset bytes None = unknown bytes
bytes_of_source w offset bytes (Some source) = bytes_of_subject w offset bytes source.subject

-- the bytes of an extent
abbrev pub bytes_of_extent : World → Extent → ToldBytes
bytes_of_extent w e = bytes_of_source w e.offset e.length (source_at w e.source)

-- the bytes of all these extents
abbrev pub extents_told : World → List Extent → ToldBytes
extents_told w = flat_map (bytes_of_extent w)

-- the bytes of all these headers or trailers
abbrev pub capsules_told : List Capsule → ToldBytes
capsules_told = flat_map (λ c. known c.text)

-- the bytes of an object on the wire
abbrev pub wire_told : World → ZcoObject → ToldBytes
wire_told w z = capsules_told z.headers ++ extents_told w z.extents ++ capsules_told z.trailers

-- the byte is the one that is told, where it is told
abbrev pub IsTold : Option ℕ → ℕ → Type 0
IsTold None byte = Unit {0}
IsTold (Some told) byte = byte ≡ told

-- the bytes are as many as these, and are those that are told
abbrev pub Spells : ToldBytes → List ℕ → Type 0
Spells [] [] = Unit {0}
Spells (t ∷ told) (b ∷ bytes) = IsTold t b × Spells told bytes
Spells told bytes = ⊥

-- the world shows these bytes, of which it tells what it can, and else stays
abbrev pub GivesBytes : World → Outcome → ToldBytes → Type 0
GivesBytes w o told =
    (o.moves ≡ [])
    × (o.after ≡ record w { shown = o.after.shown })
    × Spells told o.after.shown
    × (o.reply ≡ replies.Bytes (length told))

-- some bytes of an object are given, of at most a page
abbrev pub GivesOf : World → Outcome → ℕ → ℕ → (ZcoObject → ToldBytes) → Type 0
GivesOf w o addr count of =
    On w o addr (object_at w addr) (λ z.
    RefusedIf w o (nat_lt longest_read count) (refusals.BadLength count longest_read)
    (GivesBytes w o (of z)))

-- of the bytes on the wire, so many from a place on
abbrev pub wire_part : World → ℕ → ℕ → ZcoObject → ToldBytes
wire_part w place count z = some_of place count (wire_told w z)

-- of the extents' bytes before the part, so many from a place on
abbrev pub headers_part : World → ℕ → ℕ → ZcoObject → ToldBytes
headers_part w place count z = some_of place count (take z.part.offset (extents_told w z.extents))

-- of the part's bytes, so many from a place among all extents' bytes on
abbrev pub source_part : World → ℕ → ℕ → ZcoObject → ToldBytes
source_part w place count z = some_of (max place z.part.offset) count (take (part_end z) (extents_told w z.extents))

-- of the extents' bytes behind the part, so many from a place among all on
abbrev pub trailers_part : World → ℕ → ℕ → ZcoObject → ToldBytes
trailers_part w place count z = some_of (max place (part_end z)) count (extents_told w z.extents)

-- a transmit gives so many of the bytes on the wire, from a place on
abbrev pub Transmit : World → Outcome → ℕ → ℕ → ℕ → Type 0
Transmit w o addr place count = GivesOf w o addr count (wire_part w place count)

-- a receive gives so many of the extents' bytes in front of the part, from a place on
abbrev pub ReceiveHeaders : World → Outcome → ℕ → ℕ → ℕ → Type 0
ReceiveHeaders w o addr place count = GivesOf w o addr count (headers_part w place count)

-- a receive gives so many of the part's bytes, from a place among all extents' bytes on
abbrev pub ReceiveSource : World → Outcome → ℕ → ℕ → ℕ → Type 0
ReceiveSource w o addr place count = GivesOf w o addr count (source_part w place count)

-- a receive gives so many of the extents' bytes behind the part, from a place among all on
abbrev pub ReceiveTrailers : World → Outcome → ℕ → ℕ → ℕ → Type 0
ReceiveTrailers w o addr place count = GivesOf w o addr count (trailers_part w place count)
