-- What is printed of a journal.
use Rattle.std.specs.Prelude.{ℕ, ◌-◌, List, [], ◌∷◌, ◌++◌, Bool, true, false, take, length, flat_map, if◌then◌else◌, codes, decimal}
use Rattle.sdr_model.specs.declared.answer.Close.{Close}
use Rattle.sdr_model.specs.declared.answer.Close.TheVariants as closes
use Rattle.sdr_model.specs.declared.event.Event.{Event}
use Rattle.sdr_model.specs.declared.event.Event.TheVariants as events
use Rattle.sdr_model.specs.declared.event.Leave.{Leave}
use Rattle.sdr_model.specs.declared.event.Leave.TheVariants as leaves
use Rattle.sdr_model.specs.declared.journal.Entry.{Entry}
use Rattle.sdr_model.specs.declared.journal.Said.{Said}
use Rattle.sdr_model.specs.declared.journal.What.{What}
use Rattle.sdr_model.specs.declared.journal.What.TheVariants as whats
use Rattle.sdr_text.specs.Refused.{field_on}
use Rattle.sdr_text.specs.Text.{answer_text, close_on}

-- why a daemon left
abbrev pub leave_text : Leave → List ℕ
leave_text leaves.Done = codes "done"
leave_text leaves.Fault = codes "fault"
leave_text leaves.Memory = codes "memory"
leave_text leaves.Spent = codes "spent"

-- what an entry is of
abbrev pub what_on : List ℕ → What → List ℕ
what_on t (whats.Work said close) = close_on t close
what_on t (whats.Waits ticket) = field_on (t ++ codes "waits") ticket
what_on t (whats.Awarded ticket) = field_on (t ++ codes "awarded") ticket
what_on t (whats.Stalled ticket) = field_on (t ++ codes "stalled") ticket
what_on t (whats.Leaves leave) = t ++ codes "leaves " ++ leave_text leave

-- the line of an answer in a transaction
abbrev pub said_line : Said → List ℕ
said_line s = answer_text (codes "  ") s.answer s.bytes ++ codes "\n"

-- whether it is a begin
abbrev pub is_begin : Event → Bool
is_begin events.Begin = true
is_begin event = false

-- what was said behind a first begin
abbrev pub behind_begin : List Said → List Said
behind_begin [] = []
behind_begin (s ∷ said) = if is_begin s.event then said else s ∷ said

-- the answers of a transaction that are printed: without those of its first begin and of its closing event. In an event in which the
-- disk failed nothing closed.
abbrev pub printed_of : List Said → Close → List Said
printed_of said closes.Faulted = behind_begin said
printed_of said close = take (length (behind_begin said) - 1) (behind_begin said)

-- the answers of an entry that are printed
abbrev pub printed_in : What → List Said
printed_in (whats.Work said close) = printed_of said close
printed_in what = []

-- the first line of an entry: its lock number, its daemon, and what it is of
abbrev pub entry_line : Entry → List ℕ
entry_line e = what_on (field_on (decimal e.number) e.daemon ++ codes " ") e.what ++ codes "\n"

-- an entry, and a line for each answer in it
abbrev pub entry_text : Entry → List ℕ
entry_text e = entry_line e ++ flat_map said_line (printed_in e.what)

-- the entries one after another
abbrev pub journal_text : List Entry → List ℕ
journal_text journal = flat_map entry_text journal
