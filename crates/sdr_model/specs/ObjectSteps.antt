-- The steps that make an object, add to it and take from it.
use Rattle.std.specs.Prelude.{ℕ, ◌+◌, ◌-◌, ◌==◌, ◌||◌, List, [], ◌∷◌, ◌++◌, length, take, drop, map, slice_get, nat_lt, Option, MatchOption, if◌then◌else◌}
use Rattle.sdr_base.specs.declared.account.Acct.{Acct}
use Rattle.sdr_base.specs.declared.kind.Space.TheVariants as spaces
use Rattle.sdr_base.specs.declared.moves.Move.{Move}
use Rattle.sdr_base.specs.declared.moves.Move.TheVariants.{Took}
use Rattle.sdr_base.specs.declared.refusal.Refusal.TheVariants as refusals
use Rattle.sdr_model.specs.Amounts.{in_space}
use Rattle.sdr_model.specs.Charges.{bytes_charge, capsule_bytes, object_bytes, use_charge}
use Rattle.sdr_model.specs.Charging.{Charges}
use Rattle.sdr_model.specs.Gone.{gone_blocks, gone_things, without_things}
use Rattle.sdr_model.specs.Limits.{is_no_capsule, longest_capsule}
use Rattle.sdr_model.specs.Queue.{with_served}
use Rattle.sdr_model.specs.SourceSteps.{OnUnnamed, new_source}
use Rattle.sdr_model.specs.Steps.{Outcome, RefusedIf, RefusedWithout, ReadsBytes, Does, DoesWith, Takes, On, gave, with_thing, without_thing}
use Rattle.sdr_model.specs.Things.{capsule_need, extent_need, object_need, source_need}
use Rattle.sdr_model.specs.World.{World, thing_at, as_raw}
use Rattle.sdr_model.specs.Zco.{capsules_length, empty_object, extents_length, object_at, source_at}
use Rattle.sdr_model.specs.declared.answer.Reply.TheVariants as replies
use Rattle.sdr_model.specs.declared.things.Thing.TheVariants as things
use Rattle.sdr_model.specs.declared.zco.Capsule.{Capsule}
use Rattle.sdr_model.specs.declared.zco.Extent.{Extent}
use Rattle.sdr_model.specs.declared.zco.Part.{Part}
use Rattle.sdr_model.specs.declared.zco.Subject.TheVariants as subjects
use Rattle.sdr_model.specs.declared.zco.ZcoObject.{ZcoObject}
use Rattle.sdr_model.specs.declared.zco.ZcoSource.{ZcoSource}

-- the world with this object at an address
abbrev pub with_object : World → ℕ → ZcoObject → World
with_object w addr z = with_thing w addr (things.Object z)

-- an object with nothing in it is made
abbrev pub Create : World → Outcome → Acct → ℕ → Type 0
Create w o acct number =
    Charges w o acct number (in_space spaces.Heap object_bytes) (λ used.
    Takes w o object_need (λ addr. with_object used addr (empty_object acct)) (λ addr. replies.At addr))

-- the part after an extent of so many bytes was added: it grows where it reached the end
abbrev pub grown_part : ZcoObject → ℕ → Part
grown_part z bytes =
    if z.part.offset + z.part.length == extents_length z.extents then record z.part { length = z.part.length + bytes }
    else z.part

-- the object with one more extent, which is last
abbrev pub with_extent : ZcoObject → Extent → ZcoObject
with_extent z e = record z { extents = z.extents ++ e ∷ []; part = grown_part z e.length }

-- The call is refused where the range has no byte or isn't within the bytes that are there, and else goes on.
abbrev pub InRange : World → Outcome → ℕ → ℕ → ℕ → Type 0 → Type 0
InRange w o offset bytes have goes =
    RefusedIf w o (bytes == 0 || nat_lt have (offset + bytes)) (refusals.BadRange offset bytes have) goes

-- a part of a source is appended to an object
abbrev pub AppendsSource : World → Outcome → ℕ → ZcoObject → ℕ → ℕ → ZcoSource → ℕ → ℕ → Type 0
AppendsSource w o addr z number source s offset bytes =
    RefusedIf w o s.flagged refusals.NotFound
    (InRange w o offset bytes s.length
    (Charges w o z.account number (use_charge w z.account source s) (λ used.
    Takes w o extent_need
    (λ block. with_object used addr
    (with_extent z (record { block = block; source = source; offset = offset; length = bytes })))
    (λ block. replies.Done))))

-- the moves in which a raw object's source is made, and then the extent
abbrev pub raw_append_moves : (ℕ → ℕ) → List Move
raw_append_moves at = Took (source_need 0) (at 0) ∷ Took extent_need (at 1) ∷ []

-- a part of a raw object, which a new source takes over, is appended to an object
abbrev pub AppendsRaw : World → Outcome → ℕ → ZcoObject → ℕ → ℕ → List ℕ → ℕ → ℕ → Type 0
AppendsRaw w o addr z number raw text offset bytes =
    OnUnnamed w o raw
    (InRange w o offset bytes (length text)
    (Charges w o z.account number (bytes_charge spaces.Heap (length text)) (λ used.
    DoesWith w o raw_append_moves
    (λ at. with_object (with_thing used (at 0) (things.Source (new_source (subjects.Heap raw) (length text)))) addr
    (with_extent z (record { block = at 1; source = at 0; offset = offset; length = bytes })))
    (λ at. replies.Done))))

-- a part of a source or of a raw object is appended to an object
abbrev pub AppendExtent : World → Outcome → ℕ → ℕ → ℕ → ℕ → ℕ → Type 0
AppendExtent w o addr number named offset bytes =
    On w o addr (object_at w addr) (λ z.
    MatchOption (source_at w named)
    (On w o named (as_raw (thing_at w named)) (λ text. AppendsRaw w o addr z number named text offset bytes))
    (λ s. AppendsSource w o addr z number named s offset bytes))

-- a header or trailer of this text is added to an object
abbrev pub AddsCapsule : World → Outcome → ℕ → ℕ → List ℕ → (ZcoObject → Capsule → ZcoObject) → Type 0
AddsCapsule w o addr number text with_capsule =
    On w o addr (object_at w addr) (λ z.
    RefusedIf w o (is_no_capsule (length text)) (refusals.BadLength (length text) longest_capsule)
    (Charges w o z.account number (in_space spaces.Heap (capsule_bytes (length text))) (λ used.
    Takes w o (capsule_need (length text))
    (λ block. with_object used addr (with_capsule z (record { block = block; text = text })))
    (λ block. replies.Done))))

-- the object with one more header, which is first
abbrev pub with_header : ZcoObject → Capsule → ZcoObject
with_header z c = record z { headers = c ∷ z.headers }

-- the object with one more trailer, which is last
abbrev pub with_trailer : ZcoObject → Capsule → ZcoObject
with_trailer z c = record z { trailers = z.trailers ++ c ∷ [] }

-- an object gets a header in front of its others
abbrev pub PrependHeader : World → Outcome → ℕ → ℕ → List ℕ → Type 0
PrependHeader w o addr number text = AddsCapsule w o addr number text with_header

-- an object gets a trailer behind its others
abbrev pub AppendTrailer : World → Outcome → ℕ → ℕ → List ℕ → Type 0
AppendTrailer w o addr number text = AddsCapsule w o addr number text with_trailer

-- a header or trailer goes, and the object is another; the queue is served
abbrev pub Discards : World → Outcome → ℕ → ZcoObject → Option Capsule → ZcoObject → Type 0
Discards w o addr z capsule after =
    RefusedWithout w o capsule refusals.NoCapsule
    (λ c. Does o (gave (c.block ∷ [])) (with_served (with_object w addr after) z.account) replies.Done)

-- the object without its first header
abbrev pub without_header : ZcoObject → ZcoObject
without_header z = record z { headers = drop 1 z.headers }

-- the last header or trailer
abbrev pub last_capsule : List Capsule → Option Capsule
last_capsule capsules = slice_get capsules (length capsules - 1)

-- the object without its last trailer
abbrev pub without_trailer : ZcoObject → ZcoObject
without_trailer z = record z { trailers = take (length z.trailers - 1) z.trailers }

-- the first header goes
abbrev pub DiscardFirstHeader : World → Outcome → ℕ → Type 0
DiscardFirstHeader w o addr =
    On w o addr (object_at w addr) (λ z. Discards w o addr z (slice_get z.headers 0) (without_header z))

-- the last trailer goes
abbrev pub DiscardLastTrailer : World → Outcome → ℕ → Type 0
DiscardLastTrailer w o addr =
    On w o addr (object_at w addr) (λ z. Discards w o addr z (last_capsule z.trailers) (without_trailer z))

-- the bytes of an object on the wire
abbrev pub wire_length : ZcoObject → ℕ
wire_length z = capsules_length z.headers + extents_length z.extents + capsules_length z.trailers

-- the bytes of the object on the wire are given
abbrev pub ZcoLength : World → Outcome → ℕ → Type 0
ZcoLength w o addr = On w o addr (object_at w addr) (λ z. ReadsBytes w o [] (replies.Value (wire_length z)))

-- the bytes of the object's part are given
abbrev pub SourceLength : World → Outcome → ℕ → Type 0
SourceLength w o addr = On w o addr (object_at w addr) (λ z. ReadsBytes w o [] (replies.Value z.part.length))

-- the blocks that are given back where an object goes
abbrev pub destroy_blocks : World → ℕ → ZcoObject → List ℕ
destroy_blocks w addr z =
    map (λ c. c.block) z.headers ++ gone_blocks w z.extents z.extents ++ map (λ c. c.block) z.trailers ++ addr ∷ []

-- The object goes, with its extents and with what goes with them; the queue is served.
abbrev pub Destroy : World → Outcome → ℕ → Type 0
Destroy w o addr =
    On w o addr (object_at w addr) (λ z.
    Does o (gave (destroy_blocks w addr z))
    (with_served (without_thing (without_things w (gone_things w z.extents z.extents)) addr) z.account)
    replies.Done)
