-- A ticket by its number, in the queue of either account.
use Rattle.std.proofs.Common.{◌≡◌, ℕ, List, true, false, cond, None, Some, refl, ap, ◌∙◌}
use Rattle.std.specs.Prelude.{Option, find}
use Rattle.std.specs.Option.{option_map, option_or}
use Rattle.std.proofs.lemmas.List.Folds.{find-append}
use Rattle.sdr_base.specs.Objects.{Heap}
use Rattle.sdr_base.specs.declared.account.Acct.{Acct}
use Rattle.sdr_base.specs.declared.account.Acct.TheVariants as accts
use Rattle.sdr_base.specs.declared.refusal.Refusal.TheVariants as refusals
use Rattle.sdr_model.specs.declared.accounts.Ticket.{Ticket}
use Rattle.zco_acct.specs.Kept.{KeepsQueue, SomeQueue}
use Rattle.zco_acct.specs.Refusals.{unusable}
use Rattle.zco_acct.specs.Walks.{Searches, has_number}
use Rattle.zco_acct.specs.declared.queue.Found.{Found}
use Rattle.zco_acct.proofs.QueueLemmas.{found_is}
use Rattle.zco_space.specs.Located.{IsAwarded, RefusesAward, StandsIn, StandsNowhere}
use Rattle.zco_space.specs.Shreds.{LacksTicket, SomeFirst, located, queue_of}

-- it stands in the inbound queue
pub stands_inbound : {heap : Heap} {number : ℕ} (found : Found) → Searches heap accts.Inbound (has_number number) (Some found) →
    StandsIn heap number accts.Inbound found
stands_inbound found s = record { first = s; before = λ e. let d : accts.Inbound ≡ accts.Outbound = e in cc }

-- or in the outbound one
pub stands_outbound : {heap : Heap} {number : ℕ} (found : Found) → Searches heap accts.Inbound (has_number number) None →
    Searches heap accts.Outbound (has_number number) (Some found) → StandsIn heap number accts.Outbound found
stands_outbound found n s = record { first = s; before = λ e. n }

-- the first of the number in both queues
among : {heap : Heap} {number : ℕ} (acct : Acct) (found : Found) → StandsIn heap number acct found →
    (inbound outbound : List Ticket) → KeepsQueue heap accts.Inbound inbound → KeepsQueue heap accts.Outbound outbound →
    option_or (find (has_number number) inbound) (find (has_number number) outbound) ≡ Some found.ticket
among {heap} {number} accts.Inbound found s inbound outbound k l =
    ap (λ (o : Option Ticket). option_or o (find (has_number number) outbound)) (found_is (s.first.searched inbound k))
among {heap} {number} accts.Outbound found s inbound outbound k l =
    ap (λ (o : Option Ticket). option_or o (find (has_number number) outbound)) ((s.before refl).searched inbound k)
    ∙ found_is (s.first.searched outbound l)

-- and with its account
pub located_is : {heap : Heap} {number : ℕ} (acct : Acct) (found : Found) → StandsIn heap number acct found →
    (inbound outbound : List Ticket) → KeepsQueue heap accts.Inbound inbound → KeepsQueue heap accts.Outbound outbound →
    located number inbound outbound ≡ Some (acct, found.ticket)
located_is {heap} {number} accts.Inbound found s inbound outbound k l =
    ap (λ (o : Option Ticket). option_or (option_map (λ (t : Ticket). (accts.Inbound, t)) o)
    (option_map (λ (t : Ticket). (accts.Outbound, t)) (find (has_number number) outbound)))
    (found_is (s.first.searched inbound k))
located_is {heap} {number} accts.Outbound found s inbound outbound k l =
    ap (λ (o : Option Ticket). option_or (option_map (λ (t : Ticket). (accts.Inbound, t)) o)
    (option_map (λ (t : Ticket). (accts.Outbound, t)) (find (has_number number) outbound)))
    ((s.before refl).searched inbound k)
    ∙ ap (option_map (λ (t : Ticket). (accts.Outbound, t))) (found_is (s.first.searched outbound l))

-- one of both queues
pub queue_kept : {heap : Heap} (acct : Acct) → SomeQueue heap accts.Inbound → SomeQueue heap accts.Outbound → SomeQueue heap acct
queue_kept accts.Inbound k l = k
queue_kept accts.Outbound k l = l

pub kept_of : {heap : Heap} (acct : Acct) {inbound outbound : List Ticket} → KeepsQueue heap accts.Inbound inbound →
    KeepsQueue heap accts.Outbound outbound → KeepsQueue heap acct (queue_of acct inbound outbound)
kept_of accts.Inbound k l = k
kept_of accts.Outbound k l = l

module _ {heap : Heap} {number : ℕ} where
  pub awarded : (acct : Acct) (found : Found) → StandsIn heap number acct found → found.ticket.granted ≡ true →
      IsAwarded heap number
  awarded acct found s g = record {
    none = λ inbound outbound k l.
        ap (unusable number) (find-append (has_number number) inbound outbound ∙ among acct found s inbound outbound k l)
        ∙ ap (λ b. cond b None (Some (refusals.NotAwarded number))) g;
  }

  pub not_awarded : (acct : Acct) (found : Found) → StandsIn heap number acct found → found.ticket.granted ≡ false →
      RefusesAward heap number (refusals.NotAwarded number)
  not_awarded acct found s g = record {
    some = λ inbound outbound k l.
        ap (unusable number) (find-append (has_number number) inbound outbound ∙ among acct found s inbound outbound k l)
        ∙ ap (λ b. cond b None (Some (refusals.NotAwarded number))) g;
  }

  pub no_ticket : StandsNowhere heap number → RefusesAward heap number (refusals.BadTicket number)
  no_ticket s = record {
    some = λ inbound outbound k l.
        ap (unusable number)
        (find-append (has_number number) inbound outbound
        ∙ ap (λ (o : Option Ticket). option_or o (find (has_number number) outbound)) (s.inbound.searched inbound k)
        ∙ s.outbound.searched outbound l);
  }

  -- neither queue has it
  pub lacks : StandsNowhere heap number → LacksTicket number heap
  lacks s = record {
    lacks = λ inbound outbound k l.
        ap (λ (o : Option Ticket). option_or (option_map (λ (t : Ticket). (accts.Inbound, t)) o)
        (option_map (λ (t : Ticket). (accts.Outbound, t)) (find (has_number number) outbound)))
        (s.inbound.searched inbound k)
        ∙ ap (option_map (λ (t : Ticket). (accts.Outbound, t))) (s.outbound.searched outbound l);
  }

  pub some_first : (acct : Acct) (found : Found) → StandsIn heap number acct found → SomeQueue heap acct →
      SomeFirst acct found heap
  some_first acct found s k = record {
    tickets = k.tickets;
    test = has_number number;
    keeps = k.keeps;
    first = s.first.searched k.tickets k.keeps;
  }
