-- Totals of small journals, as worked out by hand.
use Rattle.std.proofs.Common.{◌≡◌, ℕ, List, [], ◌∷◌, refl}
use Rattle.std.specs.Prelude.{codes}
use Rattle.sdr_base.specs.declared.account.Acct.TheVariants as accounts
use Rattle.sdr_base.specs.declared.moves.Move.{Move}
use Rattle.sdr_base.specs.declared.moves.Move.TheVariants.{Took, Gave}
use Rattle.sdr_base.specs.declared.refusal.Reason.TheVariants as reasons
use Rattle.sdr_board.specs.Totals.{totals, totals_of_first}
use Rattle.sdr_board.specs.declared.totals.Totals.{Totals}
use Rattle.sdr_model.specs.declared.answer.Answer.TheVariants as answers
use Rattle.sdr_model.specs.declared.answer.Answer.{Answer}
use Rattle.sdr_model.specs.declared.answer.Close.TheVariants as closes
use Rattle.sdr_model.specs.declared.answer.Reply.TheVariants as replies
use Rattle.sdr_model.specs.declared.answer.Reply.{Reply}
use Rattle.sdr_model.specs.declared.call.Call.TheVariants as calls
use Rattle.sdr_model.specs.declared.call.Call.{Call}
use Rattle.sdr_model.specs.declared.event.Event.TheVariants as events
use Rattle.sdr_model.specs.declared.event.Event.{Event}
use Rattle.sdr_model.specs.declared.event.Leave.TheVariants as leaves
use Rattle.sdr_model.specs.declared.journal.Entry.{Entry}
use Rattle.sdr_model.specs.declared.journal.Said.{Said}
use Rattle.sdr_model.specs.declared.journal.What.TheVariants as whats
use Rattle.sdr_model.specs.declared.journal.What.{What}

-- ten numbers, in the order in which they are printed
abbrev ten : ℕ → ℕ → ℕ → ℕ → ℕ → ℕ → ℕ → ℕ → ℕ → ℕ → Totals
ten entries number ended cancelled exited faulted looks left taken given = record {
  entries = entries;
  number = number;
  ended = ended;
  cancelled = cancelled;
  exited = exited;
  faulted = faulted;
  looks = looks;
  left = left;
  taken = taken;
  given = given;
}

-- an entry of a number: the totals look at neither daemon nor moments
abbrev entry : ℕ → What → Entry
entry number what = record { number = number; daemon = 1; begun = 0; done = 0; what = what }

-- what is said by an event that moves no block, and by a call with these moves
abbrev said : ℕ → Event → Answer → Said
said line event answer = record { line = line; event = event; answer = answer; bytes = []; moves = [] }

abbrev called : ℕ → Call → Reply → List Move → Said
called line call reply moves = record { line = line; event = events.Say call; answer = answers.Reply reply; bytes = []; moves = moves }

-- The journal of a bundle out of a file: a transaction that takes eight blocks and ends, and then the daemon's leave.
abbrev bundle_said : List Said
bundle_said =
    said 1 events.Begin (answers.Lock 1)
    ∷ called 2 (calls.String (codes "hello")) (replies.At 2056) (Took 6 2056 ∷ [])
    ∷ called 3 (calls.List 7) (replies.At 2072) (Took 32 2072 ∷ [])
    ∷ called 4 (calls.InsertLast 2072 2056) (replies.At 2112) (Took 32 2112 ∷ [])
    ∷ called 5 (calls.Catlg (codes "mail") 3 2072) replies.Done (Took 56 2152 ∷ [])
    ∷ called 6 (calls.FileRef (codes "data.bin") 10) (replies.At 2216) (Took 56 2216 ∷ [])
    ∷ called 7 (calls.Create accounts.Outbound 0) (replies.At 2280) (Took 72 2280 ∷ [])
    ∷ called 8 (calls.AppendExtent 2280 0 2216 0 10) replies.Done (Took 32 2360 ∷ [])
    ∷ called 9 (calls.PrependHeader 2280 0 (codes "H1:")) replies.Done (Took 11 2400 ∷ [])
    ∷ record (called 10 (calls.Transmit 2280 0 64) (replies.Bytes 13) []) { bytes = codes "H1:0123456789" }
    ∷ said 11 events.End (answers.Closed closes.Ended)
    ∷ []

abbrev bundle_journal : List Entry
bundle_journal = entry 1 (whats.Work bundle_said closes.Ended) ∷ entry 2 (whats.Leaves leaves.Done) ∷ []

-- an empty journal
pub nothing_in_totals : totals [] ≡ ten 0 0 0 0 0 0 0 0 0 0
nothing_in_totals = refl

-- a bundle out of a file
pub bundle_in_totals : totals bundle_journal ≡ ten 2 2 1 0 0 0 0 1 8 0
bundle_in_totals = refl

-- its first entry alone
pub first_of_bundle_in_totals : totals_of_first 1 bundle_journal ≡ ten 1 1 1 0 0 0 0 0 8 0
first_of_bundle_in_totals = refl

-- A journal with each kind of entry. Blocks that a transaction took and gave back count where it ended, and nowhere else.
abbrev two_moves : List Said
two_moves = called 2 (calls.Malloc 8) (replies.At 2056) (Took 16 2056 ∷ []) ∷ called 3 (calls.Free 2056) replies.Done (Gave 2056 ∷ []) ∷ []

abbrev mixed_journal : List Entry
mixed_journal =
    entry 1 (whats.Work two_moves closes.Ended)
    ∷ entry 2 (whats.Work two_moves (closes.Cancelled reasons.Asked))
    ∷ entry 4 (whats.Waits 1)
    ∷ entry 5 (whats.Awarded 1)
    ∷ entry 6 (whats.Stalled 2)
    ∷ entry 8 (whats.Work [] closes.Exited)
    ∷ entry 9 (whats.Work two_moves closes.Faulted)
    ∷ entry 11 (whats.Leaves leaves.Fault)
    ∷ []

pub mixed_in_totals : totals mixed_journal ≡ ten 8 11 1 1 1 1 3 1 1 1
mixed_in_totals = refl
