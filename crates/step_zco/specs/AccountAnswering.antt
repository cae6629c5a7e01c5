-- The calls on accounts and tickets: what they grant, and what a look sees.
use Rattle.std.specs.Prelude.{◌≡◌, ℕ, Bool, Option}
use Rattle.std.specs.Option.{option_map_or}
use Rattle.step_things.specs.Answering.{IsReady}
use Rattle.sdr_stands.specs.Standing.{HeapStandsFor}
use Rattle.sdr_base.specs.Objects.{Heap}
use Rattle.sdr_base.specs.declared.account.Acct.{Acct}
use Rattle.sdr_machine.specs.Demand.{grants_between}
use Rattle.sdr_machine.specs.Serving.{shown_in}
use Rattle.sdr_model.specs.AccountSteps.{new_ticket, pending_of, with_maximum, with_request, without_ticket}
use Rattle.sdr_model.specs.Accounts.{account_of, with_account}
use Rattle.sdr_model.specs.Fields.{FitsFields}
use Rattle.sdr_model.specs.Queue.{with_served}
use Rattle.sdr_model.specs.Valid.{KeepQueues}
use Rattle.sdr_model.specs.World.{World}
use Rattle.sdr_model.specs.declared.call.Call.{Call}
use Rattle.sdr_model.specs.declared.call.Call.TheVariants as calls

-- The world that a call leaves which its row answers, but for marks and the block of a new ticket.
abbrev pub world_granted : World → Call → World
world_granted w (calls.SetMaximum acct space value) =
    with_served (record w {
      accounts =
          with_account w.accounts acct (with_maximum (account_of w.accounts acct) space value);
    }) acct
world_granted w (calls.Request acct file bulk heap coarse fine) =
    with_request w acct (new_ticket w.accounts.next 0 (record { file = file; bulk = bulk; heap = heap }) coarse fine)
world_granted w (calls.Shred number) = option_map_or (without_ticket w) (pending_of w number) w
world_granted w call = w

-- how many tickets it grants
abbrev pub grants_of : World → Call → ℕ
grants_of w call = grants_between w (world_granted w call)

-- the queues of the world keep their laws but for the front ticket, and the world's numbers fit the fields of blocks
pub record KeepsTickets (w : World) : Type 0 where
  pub queues : KeepQueues w.accounts
  pub fits : FitsFields w

-- Whatever world the heap stood for in which queues keep their laws, it stands for that with the account's queue served;
-- and no move was made.
pub record Grants (acct : Acct) (old new : Heap) : Type 0 where
  pub stands : (w : World) → HeapStandsFor old w → KeepsTickets w → HeapStandsFor new (with_served w acct)
  pub moves : new.moves ≡ old.moves

-- Whatever world the heap stands for in which calls are served, this says whether the ticket is there, and granted.
pub record Sees (ticket : ℕ) (heap : Heap) (granted : Option Bool) : Type 0 where
  pub sees : (w : World) → HeapStandsFor heap w → IsReady w → granted ≡ shown_in w ticket
