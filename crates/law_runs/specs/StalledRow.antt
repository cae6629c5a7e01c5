-- A row: all daemons have stalled.
use Rattle.std.specs.Prelude.{List, [], ◌∷◌, ◌++◌, false, map, true}
use Rattle.sdr_base.specs.declared.account.Acct.TheVariants as accts
use Rattle.sdr_base.specs.declared.kind.Space.TheVariants as spaces
use Rattle.sdr_base.specs.declared.moves.Move.TheVariants.{Gave, Took}
use Rattle.sdr_machine.specs.Machine.{Made}
use Rattle.sdr_model.specs.declared.answer.Answer.TheVariants as answers
use Rattle.sdr_model.specs.declared.answer.Close.TheVariants as closes
use Rattle.sdr_model.specs.declared.answer.Reply.TheVariants as replies
use Rattle.sdr_model.specs.declared.call.Call.TheVariants as calls
use Rattle.sdr_model.specs.declared.event.Event.TheVariants as events
use Rattle.sdr_model.specs.declared.journal.Entry.{Entry}
use Rattle.sdr_model.specs.declared.journal.Said.{Said}
use Rattle.sdr_model.specs.declared.journal.What.TheVariants as whats
use Rattle.law_runs.specs.Rows.{called, entry, said, says}

-- daemon 1 lets the outbound account have 100 bytes of heap space, and asks for all of them, and for 50 more
abbrev pub first_asks : List Said
first_asks =
    said 1 events.Begin (answers.Lock 1)
    ∷ called 2 (calls.SetMaximum accts.Outbound spaces.Heap 100) replies.Done []
    ∷ called 3 (calls.Request accts.Outbound 0 0 100 1 0) (replies.Ticket 1 true) (Took 96 8 ∷ [])
    ∷ called 4 (calls.Request accts.Outbound 0 0 50 1 0) (replies.Ticket 2 false) (Took 96 16 ∷ [])
    ∷ said 5 events.End (answers.Closed closes.Ended)
    ∷ []

-- daemon 2 asks for 60
abbrev pub second_asks : List Said
second_asks =
    said 6 events.Begin (answers.Lock 2)
    ∷ called 7 (calls.Request accts.Outbound 0 0 60 1 0) (replies.Ticket 3 false) (Took 96 24 ∷ [])
    ∷ said 8 events.End (answers.Closed closes.Ended)
    ∷ []

-- daemon 1 gives its first ticket up, by which its second is granted
abbrev pub first_gives : List Said
first_gives =
    said 12 events.Begin (answers.Lock 6)
    ∷ called 13 (calls.Shred 1) replies.Done (Gave 8 ∷ [])
    ∷ said 14 events.End (answers.Closed closes.Ended)
    ∷ []

-- and then its second, by which that of daemon 2 is
abbrev pub first_gives_more : List Said
first_gives_more =
    said 16 events.Begin (answers.Lock 8)
    ∷ called 17 (calls.Shred 2) replies.Done (Gave 16 ∷ [])
    ∷ said 18 events.End (answers.Closed closes.Ended)
    ∷ []

-- Each looks at its ticket, and daemon 1 looks again. Daemon 2 looks again after each ticket that daemon 1 gives up.
abbrev pub stalled_made : List Made
stalled_made =
    map (says 1) first_asks ++ map (says 2) second_asks
    ++ says 1 (said 9 (events.Look 2) answers.Waits)
    ∷ says 2 (said 10 (events.Look 3) answers.Waits)
    ∷ says 1 (said 11 (events.Look 2) answers.Stalled)
    ∷ map (says 1) first_gives
    ++ says 2 (said 15 (events.Look 3) answers.Waits)
    ∷ map (says 1) first_gives_more
    ++ says 2 (said 19 (events.Look 3) answers.Awarded)
    ∷ []

-- the journal: a second wait for one ticket adds no entry
abbrev pub stalled_journal : List Entry
stalled_journal =
    entry 1 1 (whats.Work first_asks closes.Ended)
    ∷ entry 2 2 (whats.Work second_asks closes.Ended)
    ∷ entry 3 1 (whats.Waits 2)
    ∷ entry 4 2 (whats.Waits 3)
    ∷ entry 5 1 (whats.Stalled 2)
    ∷ entry 6 1 (whats.Work first_gives closes.Ended)
    ∷ entry 8 1 (whats.Work first_gives_more closes.Ended)
    ∷ entry 9 2 (whats.Awarded 3)
    ∷ []
