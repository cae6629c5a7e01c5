-- What a request comes to, and why it is refused.
use Rattle.std.specs.Prelude.{◌≡◌, ◌<◌, ◌+◌, ℕ, Bool, List, [], ◌∷◌, false, find, nat_le, Option, None, Some, if◌then◌else◌}
use Rattle.std.specs.Option.{option_map, option_map_or, option_or}
use Rattle.sdr_base.specs.Entries.{Adds}
use Rattle.sdr_base.specs.Making.{besides, with_moves}
use Rattle.sdr_base.specs.Objects.{Heap, OnlyFault, OnlyShort, with_root}
use Rattle.sdr_base.specs.declared.account.Acct.{Acct}
use Rattle.sdr_base.specs.declared.account.Amounts.{Amounts}
use Rattle.sdr_base.specs.declared.control.TheConstants.{NEXT_TICKET}
use Rattle.sdr_base.specs.declared.moves.Move.TheVariants.{Took}
use Rattle.sdr_base.specs.declared.refusal.Refusal.{Refusal}
use Rattle.sdr_base.specs.declared.refusal.Refusal.TheVariants as refusals
use Rattle.sdr_base.specs.declared.stop.Stop.{Stop}
use Rattle.sdr_base.specs.declared.stop.Stop.TheVariants.{Refused}
use Rattle.sdr_model.specs.AccountSteps.{new_ticket}
use Rattle.sdr_model.specs.Accounts.{most_amount}
use Rattle.sdr_model.specs.Amounts.{amount, first_above}
use Rattle.sdr_model.specs.Queue.{enqueued}
use Rattle.sdr_model.specs.declared.accounts.Ticket.{Ticket}
use Rattle.zco_acct.specs.Kept.{KeepsQueue, queue_entries}
use Rattle.zco_acct.specs.Walks.{has_number}
use Rattle.zco_acct.specs.Words.{maxima_in, occupied_in, with_occupied}
use Rattle.zco_space.specs.Links.{with_ends}
use Rattle.zco_space.specs.Served.{newly_granted, occupied_after, queue_served}

-- why a request is refused, if it is: it asks for more than a maximum, the first such space; or the numbers are used up
abbrev pub request_refusal : Heap → Acct → Amounts → Option Refusal
request_refusal heap acct asked =
    option_or
    (option_map (λ space. refusals.TooLarge space (amount asked space) (amount (maxima_in heap acct) space))
    (first_above asked (maxima_in heap acct)))
    (if nat_le most_amount (heap.roots NEXT_TICKET) then Some (refusals.BadTicket most_amount) else None)

-- the request isn't refused, and its ticket gets this number
pub record IsNumbered (acct : Acct) (asked : Amounts) (heap : Heap) (number : ℕ) : Type 0 where
  pub allowed : request_refusal heap acct asked ≡ None
  pub is_next : number ≡ heap.roots NEXT_TICKET
  pub small : number < most_amount

-- why it gets none; or a fault
abbrev pub NumberStops : Acct → Amounts → Heap → Stop → Type 0
NumberStops acct asked heap (Refused (refusals.TooLarge space much most)) =
    request_refusal heap acct asked ≡ Some (refusals.TooLarge space much most)
NumberStops acct asked heap (Refused (refusals.BadTicket ticket)) =
    request_refusal heap acct asked ≡ Some (refusals.BadTicket ticket)
NumberStops acct asked heap stop = OnlyFault stop

-- the queue with the new ticket at an address
abbrev pub requested : Heap → Amounts → ℕ → ℕ → List Ticket → ℕ → List Ticket
requested heap asked coarse fine tickets addr =
    enqueued tickets (new_ticket (heap.roots NEXT_TICKET) addr asked coarse fine)

-- how many tickets a request grants
abbrev pub requests_granted : Heap → Acct → Amounts → ℕ → ℕ → List Ticket → ℕ
requests_granted heap acct asked coarse fine tickets =
    newly_granted (requested heap asked coarse fine tickets 0)
    (queue_served heap acct (requested heap asked coarse fine tickets 0))

-- whether the ticket of a number is granted
abbrev pub number_granted : List Ticket → ℕ → Bool
number_granted tickets number = option_map_or (λ (t : Ticket). t.granted) (find (has_number number) tickets) false

-- so it is in whichever queue is kept
pub record TellsGranted (acct : Acct) (number : ℕ) (heap : Heap) (answer : Bool) : Type 0 where
  pub tells : (tickets : List Ticket) → KeepsQueue heap acct tickets → answer ≡ number_granted tickets number

-- the heap with a queue once a ticket was taken for a request, which got its number
abbrev pub with_request : Heap → Acct → ℕ → List Ticket → Heap
with_request heap acct addr tickets =
    with_root (with_ends (with_moves heap (Took 96 addr ∷ [])) acct tickets) NEXT_TICKET (heap.roots NEXT_TICKET + 1)

-- a new ticket has come into whichever queue is kept, which was then served, and all else stays
pub record RequestsTicket (acct : Acct) (asked : Amounts) (coarse fine : ℕ) (old new : Heap) (value : ℕ × Bool) : Type 0 where
  pub addr : ℕ
  pub allowed : request_refusal old acct asked ≡ None
  pub number : value.0 ≡ old.roots NEXT_TICKET
  pub adds : (tickets : List Ticket) → KeepsQueue old acct tickets →
      Adds old.blocks new.blocks addr (queue_entries acct tickets)
      (queue_entries acct (queue_served old acct (requested old asked coarse fine tickets addr)))
  pub others : (tickets : List Ticket) → KeepsQueue old acct tickets →
      let queue = requested old asked coarse fine tickets addr in
      besides new
      ≡ besides (with_occupied (with_request old acct addr queue) acct
      (occupied_after (occupied_in old acct) queue (queue_served old acct queue)))
  pub granted : (tickets : List Ticket) → KeepsQueue old acct tickets →
      value.1 ≡ number_granted (queue_served old acct (requested old asked coarse fine tickets addr)) value.0

-- why it is refused, and all is as before; or there is no block, or no log room; or a fault
abbrev pub RequestStops : Acct → Amounts → Heap → Heap → Stop → Type 0
RequestStops acct asked old new (Refused (refusals.TooLarge space much most)) =
    (request_refusal old acct asked ≡ Some (refusals.TooLarge space much most)) × (new ≡ old)
RequestStops acct asked old new (Refused (refusals.BadTicket ticket)) =
    (request_refusal old acct asked ≡ Some (refusals.BadTicket ticket)) × (new ≡ old)
RequestStops acct asked old new (Refused refusal) =
    (request_refusal old acct asked ≡ None) × OnlyShort 96 old new (Refused refusal)
RequestStops acct asked old new stop = OnlyFault stop
