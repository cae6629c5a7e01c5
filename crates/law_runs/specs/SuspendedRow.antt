-- A row: a second daemon is suspended.
use Rattle.std.specs.Prelude.{List, [], ◌∷◌}
use Rattle.sdr_base.specs.declared.refusal.Refusal.TheVariants as refusals
use Rattle.sdr_machine.specs.Machine.{Made}
use Rattle.sdr_model.specs.declared.answer.Answer.TheVariants as answers
use Rattle.sdr_model.specs.declared.answer.Close.TheVariants as closes
use Rattle.sdr_model.specs.declared.answer.Reply.TheVariants as replies
use Rattle.sdr_model.specs.declared.call.Call.TheVariants as calls
use Rattle.sdr_model.specs.declared.event.Event.TheVariants as events
use Rattle.sdr_model.specs.declared.journal.Entry.{Entry}
use Rattle.sdr_model.specs.declared.journal.Said.{Said}
use Rattle.sdr_model.specs.declared.journal.What.TheVariants as whats
use Rattle.law_runs.specs.Rows.{called, entry, said, says}

-- the first daemon begins
abbrev pub first_begin : Said
first_begin = said 1 events.Begin (answers.Lock 1)

-- the second begins
abbrev pub second_begin : Said
second_begin = said 2 events.Begin (answers.Lock 2)

-- the first ends
abbrev pub first_end : Said
first_end = said 4 events.End (answers.Closed closes.Ended)

-- the second looks for a name that isn't there
abbrev pub second_find : Said
second_find = called 5 (calls.Find (97 ∷ [])) (replies.Refused refusals.NotFound) []

-- the second exits
abbrev pub second_exit : Said
second_exit = said 6 events.Exit (answers.Closed closes.Exited)

-- two daemons have begun, and the second calls before the first is done
abbrev pub suspended_made : List Made
suspended_made =
    says 1 first_begin
    ∷ says 2 second_begin
    ∷ says 2 (called 3 (calls.Find (97 ∷ [])) (replies.Refused (refusals.Suspended 1 2)) [])
    ∷ says 1 first_end
    ∷ says 2 second_find
    ∷ says 2 second_exit
    ∷ []

-- the journal: the call that was suspended stands in no entry
abbrev pub suspended_journal : List Entry
suspended_journal =
    entry 1 1 (whats.Work (first_begin ∷ first_end ∷ []) closes.Ended)
    ∷ entry 2 2 (whats.Work (second_begin ∷ second_find ∷ second_exit ∷ []) closes.Exited)
    ∷ []
