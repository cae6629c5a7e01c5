-- The steps of tables.
use Rattle.std.specs.Prelude.{ℕ, ◌*◌, ◌==◌, List, [], ◌∷◌, length, replicate, nat_lt, nat_le, Option, None, Some}
use Rattle.sdr_base.specs.Parts.{overwrite, part}
use Rattle.sdr_base.specs.declared.refusal.Refusal.TheVariants as refusals
use Rattle.sdr_model.specs.Limits.{longest_raw, longest_read}
use Rattle.sdr_model.specs.Steps.{Outcome, RefusedIf, RefusedUnless, ReadsBytes, Does, CreatesThing, On, gave, with_thing, without_thing}
use Rattle.sdr_model.specs.Tables.{Table}
use Rattle.sdr_model.specs.Things.{table_need}
use Rattle.sdr_model.specs.World.{World, thing_at}
use Rattle.sdr_model.specs.declared.answer.Reply.TheVariants as replies
use Rattle.sdr_model.specs.declared.things.Thing.{Thing}
use Rattle.sdr_model.specs.declared.things.Thing.TheVariants as things

-- the table, where the thing is one
abbrev pub as_table : Option Thing → Option Table
as_table (Some (things.Table table)) = Some table
as_table thing = None

-- a table of zero bytes is made, where its rows, a row and all rows together aren't too many
abbrev pub MakeTable : World → Outcome → ℕ → ℕ → ℕ → Type 0
MakeTable w o rows size user =
    RefusedIf w o (nat_lt longest_raw rows) (refusals.BadLength rows longest_raw)
    (RefusedIf w o (nat_lt longest_raw size) (refusals.BadLength size longest_raw)
    (RefusedIf w o (nat_lt longest_raw (rows * size)) (refusals.BadLength (rows * size) longest_raw)
    (CreatesThing w o (table_need rows size)
    (things.Table (record { user = user; rows = rows; size = size; bytes = replicate (rows * size) 0 })))))

-- The call is refused where the table has no such row, and else goes on.
abbrev pub OnRow : World → Outcome → ℕ → ℕ → (Table → Type 0) → Type 0
OnRow w o addr row goes =
    On w o addr (as_table (thing_at w addr)) (λ table.
    RefusedIf w o (nat_le table.rows row) (refusals.BadRow row table.rows)
    (goes table))

-- the row is given, of at most a page
abbrev pub Row : World → Outcome → ℕ → ℕ → Type 0
Row w o addr row =
    OnRow w o addr row (λ table.
    RefusedIf w o (nat_lt longest_read table.size) (refusals.BadLength table.size longest_read)
    (ReadsBytes w o (part (table.size * row) table.size table.bytes) (replies.Bytes table.size)))

-- the row is set to bytes of its size
abbrev pub SetRow : World → Outcome → ℕ → ℕ → List ℕ → Type 0
SetRow w o addr row from =
    OnRow w o addr row (λ table.
    RefusedUnless w o (length from == table.size) (refusals.BadLength (length from) table.size)
    (Does o [] (with_thing w addr (things.Table (record table { bytes = overwrite (table.size * row) from table.bytes }))) replies.Done))

-- the count of the rows and the size of one are given
abbrev pub Dimensions : World → Outcome → ℕ → Type 0
Dimensions w o addr = On w o addr (as_table (thing_at w addr)) (λ table. ReadsBytes w o [] (replies.Pair table.rows table.size))

-- the user's number of the table is given
abbrev pub TableUser : World → Outcome → ℕ → Type 0
TableUser w o addr = On w o addr (as_table (thing_at w addr)) (λ table. ReadsBytes w o [] (replies.Value table.user))

-- the table goes
abbrev pub TableDestroy : World → Outcome → ℕ → Type 0
TableDestroy w o addr = On w o addr (as_table (thing_at w addr)) (λ table. Does o (gave (addr ∷ [])) (without_thing w addr) replies.Done)
