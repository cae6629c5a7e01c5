-- The steps of sources.
use Rattle.std.specs.Prelude.{ℕ, ◌==◌, List, [], ◌∷◌, true, false, length, nat_lt, is_some, MatchBool}
use Rattle.sdr_base.specs.Kinds.{kind_number}
use Rattle.sdr_base.specs.declared.kind.Kind.TheVariants as kinds
use Rattle.sdr_base.specs.declared.refusal.Refusal.TheVariants as refusals
use Rattle.sdr_model.specs.Limits.{is_no_path, longest_path, longest_source}
use Rattle.sdr_model.specs.Steps.{Outcome, RefusedFor, RefusedIf, ReadsBytes, Does, CreatesThing, On, gave, with_thing, without_thing}
use Rattle.sdr_model.specs.Things.{source_need}
use Rattle.sdr_model.specs.World.{World, thing_at, as_raw}
use Rattle.sdr_model.specs.Zco.{owned_raw, source_at, source_naming, uses_of}
use Rattle.sdr_model.specs.declared.answer.Reply.TheVariants as replies
use Rattle.sdr_model.specs.declared.things.Thing.TheVariants as things
use Rattle.sdr_model.specs.declared.zco.Subject.{Subject}
use Rattle.sdr_model.specs.declared.zco.Subject.TheVariants as subjects
use Rattle.sdr_model.specs.declared.zco.ZcoSource.{ZcoSource}

-- a source that isn't flagged
abbrev pub new_source : Subject → ℕ → ZcoSource
new_source subject bytes = record { subject = subject; length = bytes; flagged = false }

-- The call is refused where a source names the raw object, and else goes on.
abbrev pub OnUnnamed : World → Outcome → ℕ → Type 0 → Type 0
OnUnnamed w o raw goes =
    RefusedFor w o (source_naming w raw) (λ source. refusals.InUse raw (uses_of w source)) goes

-- a source of the first bytes of a file is made
abbrev pub FileRef : World → Outcome → List ℕ → ℕ → Type 0
FileRef w o path bytes =
    RefusedIf w o (is_no_path (length path)) (refusals.BadLength (length path) longest_path)
    (RefusedIf w o (nat_lt longest_source bytes) (refusals.BadLength bytes longest_source)
    (CreatesThing w o (source_need (length path)) (things.Source (new_source (subjects.File path) bytes))))

-- a source of the first bytes of an item is made
abbrev pub BulkRef : World → Outcome → ℕ → ℕ → Type 0
BulkRef w o item bytes =
    RefusedIf w o (nat_lt longest_source bytes) (refusals.BadLength bytes longest_source)
    (CreatesThing w o (source_need 0) (things.Source (new_source (subjects.Bulk item) bytes)))

-- a source of a raw object is made, which stays with its owner
abbrev pub ObjRef : World → Outcome → ℕ → Type 0
ObjRef w o raw =
    On w o raw (as_raw (thing_at w raw)) (λ bytes.
    OnUnnamed w o raw (CreatesThing w o (source_need 0) (things.Source (new_source (subjects.Obj raw) (length bytes)))))

-- the source with its flag set
abbrev pub flagged : ZcoSource → ZcoSource
flagged source = record source { flagged = true }

-- The source goes where no extent names it, and else is flagged. One that has taken over a raw object isn't destroyed so.
abbrev pub DestroyRef : World → Outcome → ℕ → Type 0
DestroyRef w o addr =
    On w o addr (source_at w addr) (λ source.
    RefusedIf w o (is_some (owned_raw source)) (refusals.WrongKind addr (kind_number kinds.Source))
    (RefusedIf w o source.flagged refusals.NotFound
    (MatchBool (uses_of w addr == 0)
    (Does o (gave (addr ∷ [])) (without_thing w addr) replies.Done)
    (Does o [] (with_thing w addr (things.Source (flagged source))) replies.Done))))

-- the count of the extents that name the source is given
abbrev pub Count : World → Outcome → ℕ → Type 0
Count w o addr = On w o addr (source_at w addr) (λ source. ReadsBytes w o [] (replies.Value (uses_of w addr)))
