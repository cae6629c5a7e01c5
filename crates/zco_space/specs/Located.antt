-- A ticket by its number, in the queue of either account.
use Rattle.std.specs.Prelude.{◌≡◌, ◌++◌, ℕ, List, find, Option, None, Some}
use Rattle.sdr_base.specs.Objects.{Heap, OnlyFault}
use Rattle.sdr_base.specs.declared.account.Acct.{Acct}
use Rattle.sdr_base.specs.declared.account.Acct.TheVariants as accts
use Rattle.sdr_base.specs.declared.refusal.Refusal.{Refusal}
use Rattle.sdr_base.specs.declared.stop.Stop.{Stop}
use Rattle.sdr_base.specs.declared.stop.Stop.TheVariants.{Refused}
use Rattle.sdr_model.specs.declared.accounts.Ticket.{Ticket}
use Rattle.zco_acct.specs.Kept.{KeepsQueue}
use Rattle.zco_acct.specs.Refusals.{unusable}
use Rattle.zco_acct.specs.Walks.{Searches, has_number}
use Rattle.zco_acct.specs.declared.queue.Found.{Found}
use Rattle.zco_space.specs.declared.finding.Standing.{Standing}

-- why the ticket of a number isn't awarded, if it isn't: neither queue has it, or it waits
abbrev pub award_refusal : ℕ → List Ticket → List Ticket → Option Refusal
award_refusal number inbound outbound = unusable number (find (has_number number) (inbound ++ outbound))

-- whichever queues are kept, it is awarded
pub record IsAwarded (heap : Heap) (number : ℕ) : Type 0 where
  pub none : (inbound outbound : List Ticket) → KeepsQueue heap accts.Inbound inbound →
      KeepsQueue heap accts.Outbound outbound → award_refusal number inbound outbound ≡ None

-- whichever queues are kept, this is why it isn't
pub record RefusesAward (heap : Heap) (number : ℕ) (refusal : Refusal) : Type 0 where
  pub some : (inbound outbound : List Ticket) → KeepsQueue heap accts.Inbound inbound →
      KeepsQueue heap accts.Outbound outbound → award_refusal number inbound outbound ≡ Some refusal

-- why it isn't; or a fault
abbrev pub AwardStops : Heap → ℕ → Stop → Type 0
AwardStops heap number (Refused refusal) = RefusesAward heap number refusal
AwardStops heap number stop = OnlyFault stop

-- the ticket stands in the queue of this account, the first of its number there, and none is in the inbound queue where
-- this is the outbound one
pub record StandsIn (heap : Heap) (number : ℕ) (acct : Acct) (found : Found) : Type 0 where
  pub first : Searches heap acct (has_number number) (Some found)
  pub before : acct ≡ accts.Outbound → Searches heap accts.Inbound (has_number number) None

-- it stands in neither queue
pub record StandsNowhere (heap : Heap) (number : ℕ) : Type 0 where
  pub inbound : Searches heap accts.Inbound (has_number number) None
  pub outbound : Searches heap accts.Outbound (has_number number) None

-- this is the ticket of a number, with its account, or there is none
abbrev pub Locates : Heap → ℕ → Option Standing → Type 0
Locates heap number None = StandsNowhere heap number
Locates heap number (Some standing) = StandsIn heap number standing.acct standing.found
