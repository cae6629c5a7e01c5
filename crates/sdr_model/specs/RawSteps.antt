-- The steps of raw objects and strings.
use Rattle.std.specs.Prelude.{ℕ, ◌+◌, ◌-◌, List, [], ◌∷◌, ◌++◌, length, take, replicate, nat_lt, Option, None, Some}
use Rattle.sdr_base.specs.Parts.{overwrite, part}
use Rattle.sdr_base.specs.declared.refusal.Refusal.TheVariants as refusals
use Rattle.sdr_model.specs.Limits.{longest_raw, longest_string, longest_read}
use Rattle.sdr_model.specs.SourceSteps.{OnUnnamed}
use Rattle.sdr_model.specs.Steps.{Outcome, RefusedIf, RefusedUnless, Refuses, ReadsBytes, Does, CreatesThing, On, gave, with_thing, without_thing}
use Rattle.sdr_model.specs.Things.{raw_need, text_need}
use Rattle.sdr_model.specs.World.{World, thing_at, block_at, misnamed, as_raw, as_text, is_marked}
use Rattle.sdr_model.specs.declared.answer.Reply.TheVariants as replies
use Rattle.sdr_model.specs.declared.things.Thing.TheVariants as things
use Rattle.sdr_base.specs.declared.kind.Kind.{Kind}
use Rattle.sdr_base.specs.declared.kind.Kind.TheVariants as kinds

-- a raw object of so many zero bytes is made
abbrev pub Malloc : World → Outcome → ℕ → Type 0
Malloc w o bytes =
    RefusedIf w o (nat_lt longest_raw bytes) (refusals.BadLength bytes longest_raw)
    (CreatesThing w o (raw_need bytes) (things.Raw (replicate bytes 0)))

-- the thing at an address goes
abbrev pub Frees : World → Outcome → ℕ → Type 0
Frees w o addr = Does o (gave (addr ∷ [])) (without_thing w addr) replies.Done

-- a raw object goes where no source names it, and a string goes
abbrev pub FreesThing : World → Outcome → ℕ → Option (List ℕ) → Option (List ℕ) → Type 0
FreesThing w o addr None None = Refuses w o (misnamed w addr)
FreesThing w o addr (Some bytes) text = OnUnnamed w o addr (Frees w o addr)
FreesThing w o addr None (Some text) = Frees w o addr

-- the raw object or the string at an address goes
abbrev pub Free : World → Outcome → ℕ → Type 0
Free w o addr = FreesThing w o addr (as_raw (thing_at w addr)) (as_text (thing_at w addr))

-- what a thing's length is, where its block has this kind and so many bytes: a raw object's is without the word before it
abbrev pub length_as : Kind → ℕ → ℕ
length_as kinds.Raw bytes = bytes - 8
length_as kind bytes = bytes

-- the length of the thing is given
abbrev pub Length : World → Outcome → ℕ → Type 0
Length w o addr = On w o addr (block_at w addr) (λ b. ReadsBytes w o [] (replies.Value (length_as b.kind b.bytes)))

-- so many bytes of the raw object from a place on are given, of at most a page
abbrev pub Read : World → Outcome → ℕ → ℕ → ℕ → Type 0
Read w o addr place count =
    On w o addr (as_raw (thing_at w addr)) (λ bytes.
    RefusedIf w o (nat_lt longest_read count) (refusals.BadLength count longest_read)
    (RefusedIf w o (nat_lt (length bytes) (place + count)) (refusals.OutOfBounds addr place count)
    (ReadsBytes w o (part place count bytes) (replies.Bytes count))))

-- the bytes are written into the raw object from a place on, where it was taken or staged in this transaction
abbrev pub Write : World → Outcome → ℕ → ℕ → List ℕ → Type 0
Write w o addr place from =
    On w o addr (as_raw (thing_at w addr)) (λ bytes.
    RefusedIf w o (nat_lt (length bytes) (place + length from)) (refusals.OutOfBounds addr place (length from))
    (RefusedUnless w o (is_marked w addr) (refusals.NotStaged addr)
    (Does o [] (with_thing w addr (things.Raw (overwrite place from bytes))) replies.Done)))

-- the first bytes of the raw object are given, and it may be written from now on
abbrev pub Stage : World → Outcome → ℕ → ℕ → Type 0
Stage w o addr count =
    On w o addr (as_raw (thing_at w addr)) (λ bytes.
    RefusedIf w o (nat_lt longest_read count) (refusals.BadLength count longest_read)
    (RefusedIf w o (nat_lt (length bytes) count) (refusals.OutOfBounds addr 0 count)
    (ReadsBytes (record w { marks = w.marks ++ addr ∷ [] }) o (take count bytes) (replies.Bytes count))))

-- a string of the text is made
abbrev pub Text : World → Outcome → List ℕ → Type 0
Text w o text =
    RefusedIf w o (nat_lt longest_string (length text)) (refusals.BadLength (length text) longest_string)
    (CreatesThing w o (text_need (length text)) (things.Text text))

-- the length of the string is given
abbrev pub TextLength : World → Outcome → ℕ → Type 0
TextLength w o addr = On w o addr (as_text (thing_at w addr)) (λ text. ReadsBytes w o [] (replies.Value (length text)))

-- the string's text is given
abbrev pub TextRead : World → Outcome → ℕ → Type 0
TextRead w o addr = On w o addr (as_text (thing_at w addr)) (λ text. ReadsBytes w o text (replies.Bytes (length text)))

-- a string of the same text is made
abbrev pub TextDup : World → Outcome → ℕ → Type 0
TextDup w o addr = On w o addr (as_text (thing_at w addr)) (λ text. CreatesThing w o (text_need (length text)) (things.Text text))
