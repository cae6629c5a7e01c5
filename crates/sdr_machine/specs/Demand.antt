-- What a transaction has asked of a heap, and how many lines it may have touched by that.
use Rattle.std.specs.Prelude.{◌≡◌, ◌<◌, ◌≤◌, ℕ, ◌+◌, ◌*◌, ◌/◌, ◌==◌, List, [], ◌∷◌, ◌++◌, Bool, true, not, ◌&&◌, count_by, length, ⊤}
use Rattle.std.specs.List.{list_any}
use Rattle.sdr_base.specs.declared.moves.Move.{Move}
use Rattle.sdr_base.specs.declared.moves.Move.TheVariants.{Took, Gave, Short}
use Rattle.sdr_base.specs.declared.refusal.Refusal.TheVariants as refusals
use Rattle.sdr_model.specs.Rows.{ByRow}
use Rattle.sdr_model.specs.Step.{is_answer}
use Rattle.sdr_model.specs.Steps.{Outcome}
use Rattle.sdr_model.specs.World.{World}
use Rattle.sdr_model.specs.declared.accounts.Ticket.{Ticket}
use Rattle.sdr_model.specs.declared.answer.Reply.{Reply}
use Rattle.sdr_model.specs.declared.answer.Reply.TheVariants as replies
use Rattle.sdr_model.specs.declared.call.Call.{Call}
use Rattle.sdr_model.specs.declared.call.Call.TheVariants as calls

-- how many calls a transaction has made, how many moves they had, how many tickets they granted, and how many bytes they
-- took or were given to write
pub record Demand : Type 0 where
  pub calls : ℕ
  pub moves : ℕ
  pub grants : ℕ
  pub bytes : ℕ

-- what a transaction has asked that has just begun
abbrev pub no_demand : Demand
no_demand = record { calls = 0; moves = 0; grants = 0; bytes = 0 }

-- the bytes of the blocks that the moves take
abbrev pub bytes_taken : List Move → ℕ
bytes_taken [] = 0
bytes_taken (Took need addr ∷ moves) = need + bytes_taken moves
bytes_taken (Gave addr ∷ moves) = bytes_taken moves
bytes_taken (Short need ∷ moves) = bytes_taken moves

-- the bytes that a call is given to write into a raw object or a row
abbrev pub bytes_written : Call → ℕ
bytes_written (calls.Write raw place bytes) = length bytes
bytes_written (calls.SetRow table row bytes) = length bytes
bytes_written call = 0

-- the tickets of both accounts
abbrev pub all_tickets : World → List Ticket
all_tickets w = w.accounts.inbound.tickets ++ w.accounts.outbound.tickets

-- whether the ticket of a number is granted
abbrev pub is_granted_in : World → ℕ → Bool
is_granted_in w number = list_any (λ (t : Ticket). t.number == number && t.granted) (all_tickets w)

-- how many tickets are granted now that were not before
abbrev pub grants_between : World → World → ℕ
grants_between before now = count_by (λ (t : Ticket). t.granted && not (is_granted_in before t.number)) (all_tickets now)

-- what a transaction has asked after a call that came to this
abbrev pub demand_after : Demand → World → Call → Outcome → Demand
demand_after d w call o = record {
  calls = d.calls + 1;
  moves = d.moves + length o.moves;
  grants = d.grants + grants_between w o.after;
  bytes = d.bytes + bytes_taken o.moves + bytes_written call;
}

-- how many lines a transaction touches at most that has asked this
abbrev pub most_lines : Demand → ℕ
most_lines d = 32 * (d.calls + d.moves + d.grants) + d.bytes / 32

-- The undo log has no room for a call that its row would answer: the lines that would be touched are more than the room
-- that is told, but no more than a transaction may touch that has asked this, with all that the call would have done.
pub record FillsLog (room : ℕ) (d : Demand) (w : World) (call : Call) (lines told : ℕ) : Type 0 where
  pub aim : Outcome
  pub row : ByRow w aim call
  pub answered : is_answer aim.reply ≡ true
  pub room_is : told ≡ room
  pub above : room < lines
  pub most : lines ≤ most_lines (demand_after d w call aim)

-- where the reply says so, the undo log has no room for the call
abbrev pub MayFillLog : ℕ → Demand → World → Call → Reply → Type 0
MayFillLog room d w call (replies.Refused (refusals.LogFull lines told)) = FillsLog room d w call lines told
MayFillLog room d w call reply = ⊤
