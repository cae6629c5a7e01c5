-- Why a charge is refused.
use Rattle.std.specs.Prelude.{◌≡◌, ◌==◌, ℕ, List, true, false, find, Option, None, Some, if◌then◌else◌}
use Rattle.std.specs.Option.{option_map, option_or}
use Rattle.sdr_base.specs.Objects.{Heap, OnlyFault}
use Rattle.sdr_base.specs.declared.account.Acct.{Acct}
use Rattle.sdr_base.specs.declared.account.Amounts.{Amounts}
use Rattle.sdr_base.specs.declared.kind.Space.{Space}
use Rattle.sdr_base.specs.declared.refusal.Refusal.{Refusal}
use Rattle.sdr_base.specs.declared.refusal.Refusal.TheVariants as refusals
use Rattle.sdr_base.specs.declared.stop.Stop.{Stop}
use Rattle.sdr_base.specs.declared.stop.Stop.TheVariants.{Refused}
use Rattle.sdr_model.specs.Amounts.{amount, first_above, minus, no_amounts}
use Rattle.sdr_model.specs.Queue.{barrier}
use Rattle.sdr_model.specs.declared.accounts.Ticket.{Ticket}
use Rattle.zco_acct.specs.Kept.{KeepsQueue}
use Rattle.zco_acct.specs.Walks.{IsFirst, has_number}
use Rattle.zco_acct.specs.declared.queue.Found.{Found}

-- why a ticket can't be used, if it can't: there is none of the number, or it waits
abbrev pub unusable : ℕ → Option Ticket → Option Refusal
unusable number None = Some (refusals.BadTicket number)
unusable number (Some t) = if t.granted then None else Some (refusals.NotAwarded number)

-- the ticket of a number among these; 0 names none
abbrev pub named_ticket : List Ticket → ℕ → Option Ticket
named_ticket tickets number = if number == 0 then None else find (has_number number) tickets

-- why the ticket of a charge is refused, if it is; 0 never is
abbrev pub ticket_refusal : List Ticket → ℕ → Option Refusal
ticket_refusal tickets number = if number == 0 then None else unusable number (find (has_number number) tickets)

-- what is left of the grant of a ticket, nothing where there is none
abbrev pub ticket_left : Option Ticket → Amounts
ticket_left None = no_amounts
ticket_left (Some t) = t.left

-- what of these amounts the grant of the ticket of a number doesn't cover
abbrev pub uncovered_by : List Ticket → ℕ → Amounts → Amounts
uncovered_by tickets number amounts = minus amounts (ticket_left (named_ticket tickets number))

-- why the queue refuses what isn't covered, if it does: a ticket waits, and something isn't covered
abbrev pub queue_refusal : List Ticket → Amounts → Option Refusal
queue_refusal tickets uncovered = option_map (λ t. refusals.Queue t.number) (barrier uncovered tickets)

-- the refusal of amounts for which a space has no room
abbrev pub no_space : Amounts → Amounts → Amounts → Space → Refusal
no_space occupied asked maxima space =
    refusals.NoSpace space (amount occupied space) (amount asked space) (amount maxima space)

-- why an account refuses what isn't covered, if it does: the queue does, or the first space that has no room for it
abbrev pub room_refusal : List Ticket → Amounts → Amounts → Amounts → Option Refusal
room_refusal tickets uncovered occupied maxima =
    option_or (queue_refusal tickets uncovered)
    (option_map (no_space occupied uncovered maxima) (first_above uncovered (minus maxima occupied)))

-- why a charge is refused, if it is: for its ticket, or for what the ticket's grant doesn't cover
abbrev pub charge_refusal : List Ticket → ℕ → Amounts → Amounts → Amounts → Option Refusal
charge_refusal tickets number amounts occupied maxima =
    option_or (ticket_refusal tickets number)
    (room_refusal tickets (uncovered_by tickets number amounts) occupied maxima)

-- whichever queue is kept has no cause to refuse
pub record Allows (heap : Heap) (acct : Acct) (why : List Ticket → Option Refusal) : Type 0 where
  pub none : (tickets : List Ticket) → KeepsQueue heap acct tickets → why tickets ≡ None

-- whichever queue is kept has this cause
pub record Refuses (heap : Heap) (acct : Acct) (why : List Ticket → Option Refusal) (refusal : Refusal) : Type 0 where
  pub some : (tickets : List Ticket) → KeepsQueue heap acct tickets → why tickets ≡ Some refusal

-- the call stopped for such a cause, or by a fault
abbrev pub RefusedAs : Heap → Acct → (List Ticket → Option Refusal) → Stop → Type 0
RefusedAs heap acct why (Refused (refusals.LogFull lines room)) = ⊥
RefusedAs heap acct why (Refused refusal) = Refuses heap acct why refusal
RefusedAs heap acct why stop = OnlyFault stop

-- the ticket of this number among these is granted, and it is the first of its number
pub record IsUsable (number : ℕ) (tickets : List Ticket) (found : Found) : Type 0 where
  pub nonzero : (number == 0) ≡ false
  pub first : IsFirst (has_number number) tickets found
  pub granted : found.ticket.granted ≡ true

-- this is the ticket that a charge names; 0 names none
abbrev pub IsGrant : ℕ → List Ticket → Option Found → Type 0
IsGrant number tickets None = number ≡ 0
IsGrant number tickets (Some found) = IsUsable number tickets found

-- so it is in whichever queue is kept
pub record GrantsOf (heap : Heap) (acct : Acct) (number : ℕ) (grant : Option Found) : Type 0 where
  pub grants : (tickets : List Ticket) → KeepsQueue heap acct tickets → IsGrant number tickets grant

-- what is left of the grant that was found, nothing where there is none
abbrev pub left_of : Option Found → Amounts
left_of None = no_amounts
left_of (Some found) = found.ticket.left
