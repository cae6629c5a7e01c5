-- What the service of a queue comes to.
use Rattle.std.specs.Prelude.{◌≡◌, ◌+◌, ◌-◌, ℕ, List, [], ◌∷◌, ◌++◌, IfSome, false, not, count_by, filter, flat_map, sum_by, take}
use Rattle.std.specs.Prelude.{if◌then◌else◌}
use Rattle.sdr_base.specs.Entries.{Changes}
use Rattle.sdr_base.specs.Making.{besides}
use Rattle.sdr_base.specs.Objects.{Heap}
use Rattle.sdr_base.specs.declared.account.Acct.{Acct}
use Rattle.sdr_base.specs.declared.account.Amounts.{Amounts}
use Rattle.sdr_base.specs.declared.kind.Space.{Space}
use Rattle.sdr_model.specs.Amounts.{amount, amounts_by, are_within, minus, plus}
use Rattle.sdr_model.specs.Queue.{front_waiting, served}
use Rattle.sdr_model.specs.declared.accounts.Ticket.{Ticket}
use Rattle.zco_acct.specs.Kept.{KeepsQueue, queue_entries}
use Rattle.zco_acct.specs.Tickets.{grant_lines, with_grant}
use Rattle.zco_acct.specs.Words.{maxima_in, occupied_in, occupied_lines, with_occupied}

-- what those of these tickets that are granted ask of a space
abbrev pub granted_in : Space → List Ticket → ℕ
granted_in space tickets = sum_by (λ t. if t.granted then amount t.asked space else 0) tickets

-- what is occupied once tickets of a queue were granted: what was, and what they ask
abbrev pub occupied_after : Amounts → List Ticket → List Ticket → Amounts
occupied_after occupied tickets now =
    amounts_by (λ space. amount occupied space + (granted_in space now - granted_in space tickets))

-- how many tickets of a queue were granted
abbrev pub newly_granted : List Ticket → List Ticket → ℕ
newly_granted tickets now = count_by (λ t. t.granted) now - count_by (λ t. t.granted) tickets

-- the tickets of an account, served with what its control words say
abbrev pub queue_served : Heap → Acct → List Ticket → List Ticket
queue_served heap acct tickets = served (maxima_in heap acct) (occupied_in heap acct) tickets

-- whichever queue is kept was served: so many tickets were granted, what they ask is occupied, the front one that waits
-- doesn't fit, and all else stays
pub record ServesQueue (acct : Acct) (old new : Heap) (count : ℕ) : Type 0 where
  pub changes : (tickets : List Ticket) → KeepsQueue old acct tickets →
      Changes old.blocks new.blocks (queue_entries acct tickets) (queue_entries acct (queue_served old acct tickets))
  pub keeps : (tickets : List Ticket) → KeepsQueue old acct tickets →
      KeepsQueue new acct (queue_served old acct tickets)
  pub others : (tickets : List Ticket) → KeepsQueue old acct tickets →
      besides new
      ≡ besides (with_occupied old acct (occupied_after (occupied_in old acct) tickets (queue_served old acct tickets)))
  pub counted : (tickets : List Ticket) → KeepsQueue old acct tickets →
      count ≡ newly_granted tickets (queue_served old acct tickets)
  pub front : (tickets : List Ticket) → KeepsQueue old acct tickets →
      IfSome (front_waiting (queue_served old acct tickets)) (λ t.
      are_within t.asked
      (minus (maxima_in old acct) (occupied_after (occupied_in old acct) tickets (queue_served old acct tickets)))
      ≡ false)

-- a ticket was granted all that it asks, which is occupied from then on
pub record GrantsTicket (acct : Acct) (ticket : Ticket) (taken : Amounts) (old new : Heap) (after : Amounts) : Type 0 where
  pub sum : after ≡ plus taken ticket.asked
  pub granted : new ≡ with_occupied (with_grant old ticket.block ticket.asked) acct after

-- the tickets of a queue that wait
abbrev pub waiting_tickets : List Ticket → List Ticket
waiting_tickets tickets = filter (λ t. not t.granted) tickets

-- those of them that the service grants: the first
abbrev pub granted_anew : Heap → Acct → List Ticket → List Ticket
granted_anew heap acct tickets = take (newly_granted tickets (queue_served heap acct tickets)) (waiting_tickets tickets)

-- the lines that the grants of these tickets touch: those of what is occupied in their account, and of each grant
abbrev pub serving_lines : Acct → List Ticket → List ℕ
serving_lines acct [] = []
serving_lines acct (t ∷ tickets) = occupied_lines acct ++ flat_map (λ u. grant_lines u.block) (t ∷ tickets)
