-- The steps that clone a part of an object, set it and cut to it.
use Rattle.std.specs.Prelude.{ℕ, ◌+◌, List, [], ◌∷◌, map, nat_lt}
use Rattle.sdr_base.specs.declared.account.Acct.{Acct}
use Rattle.sdr_base.specs.declared.moves.Move.{Move}
use Rattle.sdr_base.specs.declared.moves.Move.TheVariants.{Took}
use Rattle.sdr_base.specs.declared.refusal.Refusal.TheVariants as refusals
use Rattle.sdr_model.specs.Charges.{object_charge}
use Rattle.sdr_model.specs.Charging.{Charges}
use Rattle.sdr_model.specs.Cuts.{cut_all, left_out, placed}
use Rattle.sdr_model.specs.Gone.{gone_blocks, gone_things, without_things}
use Rattle.sdr_model.specs.ObjectSteps.{InRange, with_object}
use Rattle.sdr_model.specs.Queue.{with_served}
use Rattle.sdr_model.specs.Steps.{Outcome, RefusedIf, Does, DoesWith, On, gave, takes_from}
use Rattle.sdr_model.specs.Things.{extent_need, object_need}
use Rattle.sdr_model.specs.World.{World}
use Rattle.sdr_model.specs.Zco.{empty_object, extents_length, object_at, whole_of}
use Rattle.sdr_model.specs.declared.answer.Reply.TheVariants as replies
use Rattle.sdr_model.specs.declared.zco.Extent.{Extent}
use Rattle.sdr_model.specs.declared.zco.ZcoObject.{ZcoObject}

-- the extents of so many bytes of an object's part, from a place in it on
abbrev pub asked_extents : ZcoObject → ℕ → ℕ → List Extent
asked_extents z offset bytes = cut_all (z.part.offset + offset) (z.part.offset + offset + bytes) z.extents

-- an object of these extents alone, whose part is its whole
abbrev pub object_of : Acct → List Extent → ZcoObject
object_of acct extents = record (empty_object acct) { extents = extents; part = whole_of extents }

-- the moves in which an object of these extents is made: it, and then they in order
abbrev pub clone_moves : (ℕ → ℕ) → List Extent → List Move
clone_moves at extents = Took object_need (at 0) ∷ takes_from at 1 (map (λ e. extent_need) extents)

-- A part of an object's part is a new object in the same account: extents of the same sources, and no header or trailer.
abbrev pub ClonePart : World → Outcome → ℕ → ℕ → ℕ → ℕ → Type 0
ClonePart w o addr number offset bytes =
    On w o addr (object_at w addr) (λ z.
    InRange w o offset bytes z.part.length
    (let extents = asked_extents z offset bytes in
    Charges w o z.account number (λ space. object_charge space (object_of z.account extents)) (λ used.
    DoesWith w o (λ at. clone_moves at extents)
    (λ at. with_object used (at 0) (object_of z.account (placed at 1 extents)))
    (λ at. replies.At (at 0)))))

-- the object's part is set to so many bytes of its extents, from a place on
abbrev pub Delimit : World → Outcome → ℕ → ℕ → ℕ → Type 0
Delimit w o addr offset bytes =
    On w o addr (object_at w addr) (λ z.
    RefusedIf w o (nat_lt (extents_length z.extents) (offset + bytes)) (refusals.BadRange offset bytes (extents_length z.extents))
    (Does o [] (with_object w addr (record z { part = record { offset = offset; length = bytes } })) replies.Done))

-- where the part of an object ends
abbrev pub part_end : ZcoObject → ℕ
part_end z = z.part.offset + z.part.length

-- the extents of which no byte lies in the part
abbrev pub outside_part : ZcoObject → List Extent
outside_part z = left_out z.part.offset (part_end z) z.extents

-- the object with its extents cut to its part, which is then the whole
abbrev pub stripped : ZcoObject → ZcoObject
stripped z =
    let extents = cut_all z.part.offset (part_end z) z.extents in
    record z { extents = extents; part = whole_of extents }

-- The extents outside the part go, with what goes with them, and the others are cut to it; the queue is served.
abbrev pub Strip : World → Outcome → ℕ → Type 0
Strip w o addr =
    On w o addr (object_at w addr) (λ z.
    let out = outside_part z in
    Does o (gave (gone_blocks w out out))
    (with_served (with_object (without_things w (gone_things w out out)) addr (stripped z)) z.account)
    replies.Done)
