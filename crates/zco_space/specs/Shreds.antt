-- What the end of a ticket comes to, and why it is refused.
use Rattle.std.specs.Prelude.{◌≡◌, ◌-◌, ℕ, Bool, List, [], ◌∷◌, ◌++◌, length, find, Option, None, Some, if◌then◌else◌}
use Rattle.std.specs.Option.{option_map, option_map_or, option_or}
use Rattle.sdr_base.specs.Entries.{Changes}
use Rattle.sdr_base.specs.Making.{besides, with_moves}
use Rattle.sdr_base.specs.Objects.{AreFirstOf, Heap, OnlyFault}
use Rattle.sdr_base.specs.declared.account.Acct.{Acct}
use Rattle.sdr_base.specs.declared.account.Acct.TheVariants as accts
use Rattle.sdr_base.specs.declared.account.Amounts.{Amounts}
use Rattle.sdr_base.specs.declared.moves.Move.{Move}
use Rattle.sdr_base.specs.declared.moves.Move.TheVariants.{Gave}
use Rattle.sdr_base.specs.declared.refusal.Refusal.TheVariants as refusals
use Rattle.sdr_base.specs.declared.stop.Stop.{Stop}
use Rattle.sdr_base.specs.declared.stop.Stop.TheVariants.{Refused}
use Rattle.sdr_model.specs.Amounts.{minus}
use Rattle.sdr_model.specs.Queue.{served}
use Rattle.sdr_model.specs.declared.accounts.Ticket.{Ticket}
use Rattle.zco_acct.specs.Kept.{KeepsQueue, queue_entries}
use Rattle.zco_acct.specs.Walks.{IsFirst, has_number}
use Rattle.zco_acct.specs.Words.{maxima_in, occupied_in, with_occupied}
use Rattle.zco_acct.specs.declared.queue.Found.{Found}
use Rattle.zco_space.specs.Links.{with_ends}
use Rattle.zco_space.specs.Served.{newly_granted, occupied_after}

-- what was found is the first that passes some test in some queue that is kept
pub record SomeFirst (acct : Acct) (found : Found) (heap : Heap) : Type 0 where
  pub tickets : List Ticket
  pub test : Ticket → Bool
  pub keeps : KeepsQueue heap acct tickets
  pub first : IsFirst test tickets found

-- it was taken out of whichever queue is kept, and given back, and all else stays
pub record TakesOut (acct : Acct) (found : Found) (old new : Heap) : Type 0 where
  pub changes : (test : Ticket → Bool) (tickets : List Ticket) → KeepsQueue old acct tickets →
      (f : IsFirst test tickets found) →
      Changes old.blocks new.blocks (queue_entries acct tickets) (queue_entries acct (f.before ++ f.behind))
  pub keeps : (test : Ticket → Bool) (tickets : List Ticket) → KeepsQueue old acct tickets →
      (f : IsFirst test tickets found) → KeepsQueue new acct (f.before ++ f.behind)
  pub others : (test : Ticket → Bool) (tickets : List Ticket) → KeepsQueue old acct tickets →
      (f : IsFirst test tickets found) →
      besides new ≡ besides (with_ends (with_moves old (Gave found.ticket.block ∷ [])) acct (f.before ++ f.behind))

-- the tickets without the first of a number
unfoldable pub without_number : ℕ → List Ticket → List Ticket
without_number number [] = []
without_number number (t ∷ ts) = if has_number number t then ts else t ∷ without_number number ts

-- the ticket of a number with its account: in the inbound queue, or else in the outbound one
abbrev pub located : ℕ → List Ticket → List Ticket → Option (Acct × Ticket)
located number inbound outbound =
    option_or (option_map (λ (t : Ticket). (accts.Inbound, t)) (find (has_number number) inbound))
    (option_map (λ (t : Ticket). (accts.Outbound, t)) (find (has_number number) outbound))

-- what is occupied once what is left of a ticket was given back
abbrev pub given_back : Heap → Acct → Ticket → Amounts
given_back heap acct t = minus (occupied_in heap acct) t.left

-- the queue once a ticket has gone, and what was left of it was given back
abbrev pub shredded : Heap → Acct → ℕ → Ticket → List Ticket → List Ticket
shredded heap acct number t tickets = served (maxima_in heap acct) (given_back heap acct t) (without_number number tickets)

-- the queue of one of both accounts
abbrev pub queue_of : Acct → List Ticket → List Ticket → List Ticket
queue_of accts.Inbound inbound outbound = inbound
queue_of accts.Outbound inbound outbound = outbound

-- how many tickets are granted where one goes
abbrev pub shreds_granted : Heap → ℕ → List Ticket → List Ticket → ℕ
shreds_granted heap number inbound outbound =
    option_map_or (λ (p : Acct × Ticket).
    newly_granted (without_number number (queue_of p.0 inbound outbound))
    (shredded heap p.0 number p.1 (queue_of p.0 inbound outbound)))
    (located number inbound outbound) 0

-- the ticket of a number was taken out of its queue, whichever queues are kept; what was left of it was given back, the
-- queue was served, and all else stays
pub record ShredsTicket (number : ℕ) (old new : Heap) : Type 0 where
  pub acct : Acct
  pub ticket : Ticket
  pub is : (inbound outbound : List Ticket) → KeepsQueue old accts.Inbound inbound →
      KeepsQueue old accts.Outbound outbound → located number inbound outbound ≡ Some (acct, ticket)
  pub changes : (tickets : List Ticket) → KeepsQueue old acct tickets →
      Changes old.blocks new.blocks (queue_entries acct tickets) (queue_entries acct (shredded old acct number ticket tickets))
  pub others : (tickets : List Ticket) → KeepsQueue old acct tickets →
      besides new
      ≡ besides (with_occupied (with_ends (with_moves old (Gave ticket.block ∷ [])) acct (without_number number tickets)) acct
      (occupied_after (given_back old acct ticket) (without_number number tickets) (shredded old acct number ticket tickets)))

-- neither queue has the ticket
pub record LacksTicket (number : ℕ) (heap : Heap) : Type 0 where
  pub lacks : (inbound outbound : List Ticket) → KeepsQueue heap accts.Inbound inbound →
      KeepsQueue heap accts.Outbound outbound → located number inbound outbound ≡ None

-- the ticket is there, and there was no log room: no move was made, or its block was given back and that was all
pub record GaveNoMore (number : ℕ) (old new : Heap) : Type 0 where
  pub acct : Acct
  pub ticket : Ticket
  pub is : (inbound outbound : List Ticket) → KeepsQueue old accts.Inbound inbound →
      KeepsQueue old accts.Outbound outbound → located number inbound outbound ≡ Some (acct, ticket)
  pub made : List Move
  pub first : AreFirstOf (Gave ticket.block ∷ []) made
  pub moves : new.moves ≡ old.moves ++ made
  pub spare : new.spare ≡ old.spare - length made

-- why it isn't shredded: there is none, and all is as before; or there is no log room; or a fault
abbrev pub ShredStops : ℕ → Heap → Heap → Stop → Type 0
ShredStops number old new (Refused (refusals.BadTicket ticket)) = (ticket ≡ number) × LacksTicket number old × (new ≡ old)
ShredStops number old new (Refused (refusals.LogFull lines room)) = GaveNoMore number old new
ShredStops number old new stop = OnlyFault stop
