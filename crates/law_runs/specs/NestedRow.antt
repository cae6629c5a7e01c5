-- A row: an inner cancel dooms.
use Rattle.std.specs.Prelude.{List, [], ◌∷◌, ◌++◌, map}
use Rattle.sdr_base.specs.declared.moves.Move.TheVariants.{Took}
use Rattle.sdr_base.specs.declared.refusal.Reason.TheVariants as reasons
use Rattle.sdr_base.specs.declared.refusal.Refusal.TheVariants as refusals
use Rattle.sdr_machine.specs.Machine.{Made}
use Rattle.sdr_model.specs.declared.answer.Answer.TheVariants as answers
use Rattle.sdr_model.specs.declared.answer.Close.TheVariants as closes
use Rattle.sdr_model.specs.declared.answer.Reply.TheVariants as replies
use Rattle.sdr_model.specs.declared.call.Call.TheVariants as calls
use Rattle.sdr_model.specs.declared.event.Event.TheVariants as events
use Rattle.sdr_model.specs.declared.journal.Entry.{Entry}
use Rattle.sdr_model.specs.declared.journal.Said.{Said}
use Rattle.sdr_model.specs.declared.journal.What.TheVariants as whats
use Rattle.law_runs.specs.Rows.{called, entry, said, says}

-- a transaction in which a name is catalogued, and in one nested in it another: that is cancelled
abbrev pub doomed_said : List Said
doomed_said =
    said 1 events.Begin (answers.Lock 1)
    ∷ called 2 (calls.Catlg (97 ∷ []) 1 0) replies.Done (Took 56 8 ∷ [])
    ∷ said 3 events.Begin (answers.Depth 2)
    ∷ called 4 (calls.Catlg (98 ∷ []) 1 0) replies.Done (Took 56 16 ∷ [])
    ∷ said 5 events.Cancel (answers.Depth 1)
    ∷ called 6 (calls.Find (97 ∷ [])) (replies.Refused (refusals.Doomed reasons.Inner)) []
    ∷ said 7 events.End (answers.Closed (closes.Cancelled reasons.Inner))
    ∷ []

-- the next one, which doesn't find the name
abbrev pub after_doom_said : List Said
after_doom_said =
    said 8 events.Begin (answers.Lock 2)
    ∷ called 9 (calls.Find (97 ∷ [])) (replies.Refused refusals.NotFound) []
    ∷ said 10 events.Exit (answers.Closed closes.Exited)
    ∷ []

-- all that daemon 1 has said
abbrev pub doomed_made : List Made
doomed_made = map (says 1) doomed_said ++ map (says 1) after_doom_said

-- the journal: the first is cancelled, for the inner cancel, and the second exits
abbrev pub doomed_journal : List Entry
doomed_journal =
    entry 1 1 (whats.Work doomed_said (closes.Cancelled reasons.Inner))
    ∷ entry 2 1 (whats.Work after_doom_said closes.Exited)
    ∷ []
