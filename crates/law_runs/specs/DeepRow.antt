-- A row: transactions are nested to depth 64.
use Rattle.std.specs.Prelude.{◌+◌, ◌-◌, ℕ, zero, suc, List, [], ◌∷◌, ◌++◌, map}
use Rattle.sdr_base.specs.declared.refusal.Reason.TheVariants as reasons
use Rattle.sdr_base.specs.declared.refusal.Refusal.TheVariants as refusals
use Rattle.sdr_machine.specs.Machine.{Made}
use Rattle.sdr_model.specs.declared.answer.Answer.TheVariants as answers
use Rattle.sdr_model.specs.declared.answer.Close.TheVariants as closes
use Rattle.sdr_model.specs.declared.answer.Reply.TheVariants as replies
use Rattle.sdr_model.specs.declared.event.Event.TheVariants as events
use Rattle.sdr_model.specs.declared.journal.Entry.{Entry}
use Rattle.sdr_model.specs.declared.journal.Said.{Said}
use Rattle.sdr_model.specs.declared.journal.What.TheVariants as whats
use Rattle.law_runs.specs.Rows.{entry, said, says}

-- from this line on and at this depth, so many begins, each one deeper
unfoldable pub deeper : ℕ → ℕ → ℕ → List Said
deeper line depth zero = []
deeper line depth (suc more) = said line events.Begin (answers.Depth (depth + 1)) ∷ deeper (line + 1) (depth + 1) more

-- from this line on and at this depth, so many ends, each one less deep
unfoldable pub shallower : ℕ → ℕ → ℕ → List Said
shallower line depth zero = []
shallower line depth (suc more) = said line events.End (answers.Depth (depth - 1)) ∷ shallower (line + 1) (depth - 1) more

-- the first begin
abbrev pub deep_begin : Said
deep_begin = said 1 events.Begin (answers.Lock 1)

-- the begin that is too deep
abbrev pub too_deep : Said
too_deep = said 65 events.Begin (answers.Reply (replies.Refused refusals.TooDeep))

-- the last end
abbrev pub deep_end : Said
deep_end = said 129 events.End (answers.Closed (closes.Cancelled (reasons.Refused 23)))

-- 64 begins and one more, and 64 ends
abbrev pub deep_said : List Said
deep_said = deep_begin ∷ deeper 2 1 63 ++ too_deep ∷ shallower 66 64 63 ++ deep_end ∷ []

-- all that daemon 1 says: the same, and one end more, outside a transaction
abbrev pub deep_made : List Made
deep_made =
    says 1 deep_begin ∷ map (says 1) (deeper 2 1 63)
    ++ says 1 too_deep ∷ map (says 1) (shallower 66 64 63)
    ++ says 1 deep_end ∷ says 1 (said 130 events.End (answers.Reply (replies.Refused refusals.NotBegun))) ∷ []

-- the journal: the begin that was too deep has doomed the transaction
abbrev pub deep_journal : List Entry
deep_journal = entry 1 1 (whats.Work deep_said (closes.Cancelled (reasons.Refused 23))) ∷ []
