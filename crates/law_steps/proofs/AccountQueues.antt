-- Both accounts keep the queue law: one queue is another, a maximum is set, or a new ticket enters.
use Rattle.std.proofs.Common.{◌≡◌, ℕ, ◌+◌, ◌<◌, ◌≤◌, ◌==◌, position, zero, suc, List, [], ◌∷◌, ◌++◌, true, false, map, length, nat_eq, refl, sym, ap, ◌∙◌, subst, arith}
use Rattle.std.specs.Cmp.{nat_eq_equiv}
use Rattle.std.specs.List.{AllByRecursion, count_by}
use Rattle.std.specs.Prelude.{Option, None, Some, slice_get, unwrap_or}
use Rattle.std.proofs.lemmas.Bool.{eqb-true}
use Rattle.std.proofs.lemmas.List.Elements.{All-append, All-from_recursion, All-map, recursion_from_All}
use Rattle.std.proofs.lemmas.List.Sums.{sum_by-append}
use Rattle.sdr_base.specs.declared.account.Acct.{Acct}
use Rattle.sdr_base.specs.declared.account.Acct.TheVariants as accts
use Rattle.sdr_base.specs.declared.account.Amounts.{Amounts}
use Rattle.law_steps.proofs.DistinctLemmas.{from_once, on_test, once, weight}
use Rattle.law_steps.proofs.QueueLemmas.{IsQueue, later_queue, placed_queue, times, times_next, times_placed}
use Rattle.law_steps.proofs.QueueOrder.{ordered, pairs, placed}
use Rattle.sdr_model.proofs.SumLemmas.{sum_by-map}
use Rattle.sdr_model.specs.AccountSteps.{pending_of}
use Rattle.sdr_model.specs.Accounts.{account_of, most_amount, no_ticket, pending_in, ticket_at, tickets_of, with_account, with_tickets}
use Rattle.sdr_model.specs.declared.accounts.Pending.{Pending}
use Rattle.sdr_model.specs.World.{World}
use Rattle.std.specs.Option.{option_map, option_or}
use Rattle.std.proofs.lemmas.List.Quantifiers.{position-Some}
use Rattle.sdr_model.specs.Amounts.{amounts_by, are_within}
use Rattle.sdr_model.specs.Valid.{IsValidAccount, IsValidTicket, KeepQueues, numbers_of}
use Rattle.sdr_model.specs.declared.accounts.Account.{Account}
use Rattle.sdr_model.specs.declared.accounts.Accounts.{Accounts}
use Rattle.sdr_model.specs.declared.accounts.Ticket.{Ticket}

-- the greatest amounts
abbrev most_amounts : Amounts
most_amounts = amounts_by (λ space. most_amount)

-- the queue law of an account, where the next number is this
pub record IsAccount (next : ℕ) (account : Account) : Type 0 where
  pub queue : IsQueue next account.tickets
  pub maxima : are_within account.maxima most_amounts ≡ true

-- the queue law, by counts
pub record Queues (a : Accounts) : Type 0 where
  pub inbound : IsAccount a.next a.inbound
  pub outbound : IsAccount a.next a.outbound
  pub few : (k : ℕ) → times k a.inbound.tickets + times k a.outbound.tickets ≤ 1
  pub next : a.next ≤ most_amount

-- how often a number is among all
counted : (k : ℕ) (a : Accounts)
    → count_by (nat_eq k) (numbers_of a) ≡ times k a.inbound.tickets + times k a.outbound.tickets
counted k a =
    sum_by-map (λ n. weight (nat_eq k n)) (λ (t : Ticket). t.number) (a.inbound.tickets ++ a.outbound.tickets)
    ∙ sum_by-append (λ (t : Ticket). weight (nat_eq k t.number)) a.inbound.tickets a.outbound.tickets

-- numbers below another, of tickets
below_left : (next : ℕ) (ts us : List Ticket)
    → AllByRecursion (λ n. n < next) (map (λ (t : Ticket). t.number) (ts ++ us))
    → AllByRecursion (λ (t : Ticket). t.number < next) ts × AllByRecursion (λ (t : Ticket). t.number < next) us
below_left next [] us all = (tt, numbers us all)
  where
    numbers : (us : List Ticket) → AllByRecursion (λ n. n < next) (map (λ (t : Ticket). t.number) us)
        → AllByRecursion (λ (t : Ticket). t.number < next) us
    numbers [] all = tt
    numbers (u ∷ us) all = (all.0, numbers us all.1)
below_left next (t ∷ ts) us all = let rest = below_left next ts us all.1 in ((all.0, rest.0), rest.1)

account_from : (next : ℕ) (account : Account) → IsValidAccount account
    → AllByRecursion (λ (t : Ticket). t.number < next) account.tickets → IsAccount next account
account_from next account v below = record {
  queue = record {
    valid = recursion_from_All IsValidTicket account.tickets v.tickets;
    order = ordered account.tickets v.order;
    below = below;
  };
  maxima = v.maxima;
}

pub queues_from : (a : Accounts) → KeepQueues a → Queues a
queues_from a keep =
    let below = below_left a.next a.inbound.tickets a.outbound.tickets
    (recursion_from_All (λ n. n < a.next) (numbers_of a) keep.below) in
    record {
      inbound = account_from a.next a.inbound keep.inbound below.0;
      outbound = account_from a.next a.outbound keep.outbound below.1;
      few = λ k. omega (arith, counted k a, once nat_eq_equiv (numbers_of a) keep.distinct k);
      next = keep.next;
    }

valid_account : (next : ℕ) (account : Account) → IsAccount next account → IsValidAccount account
valid_account next account q = record {
  tickets = All-from_recursion IsValidTicket account.tickets q.queue.valid;
  order = pairs account.tickets q.queue.order;
  maxima = q.maxima;
}

pub keep_from : (a : Accounts) → Queues a → KeepQueues a
keep_from a q = record {
  inbound = valid_account a.next a.inbound q.inbound;
  outbound = valid_account a.next a.outbound q.outbound;
  distinct = from_once nat_eq_equiv (numbers_of a) (λ k. omega (arith, counted k a, q.few k));
  below = All-map (λ n. n < a.next) (λ (t : Ticket). t.number) (a.inbound.tickets ++ a.outbound.tickets)
      (All-append (λ (t : Ticket). t.number < a.next) a.inbound.tickets a.outbound.tickets
      (All-from_recursion (λ (t : Ticket). t.number < a.next) a.inbound.tickets q.inbound.queue.below)
      (All-from_recursion (λ (t : Ticket). t.number < a.next) a.outbound.tickets q.outbound.queue.below));
  next = q.next;
}

-- one of both
pub account_kept : (a : Accounts) (acct : Acct) → Queues a → IsAccount a.next (account_of a acct)
account_kept a accts.Inbound q = q.inbound
account_kept a accts.Outbound q = q.outbound

-- one queue is another, with no number more often
pub changed : (a : Accounts) (acct : Acct) (ts : List Ticket) → Queues a → IsQueue a.next ts
    → ((k : ℕ) → times k ts ≤ times k (tickets_of a acct)) → Queues (with_tickets a acct ts)
changed a accts.Inbound ts q queue less = record {
  inbound = record { queue = queue; maxima = q.inbound.maxima };
  outbound = q.outbound;
  few = λ k. omega (arith, q.few k, less k);
  next = q.next;
}
changed a accts.Outbound ts q queue less = record {
  inbound = q.inbound;
  outbound = record { queue = queue; maxima = q.outbound.maxima };
  few = λ k. omega (arith, q.few k, less k);
  next = q.next;
}

-- an account has other maxima
pub with_maxima : (a : Accounts) (acct : Acct) (maxima : Amounts) → Queues a → are_within maxima most_amounts ≡ true
    → Queues (with_account a acct (record (account_of a acct) { maxima = maxima }))
with_maxima a accts.Inbound maxima q within = record {
  inbound = record { queue = q.inbound.queue; maxima = within };
  outbound = q.outbound;
  few = q.few;
  next = q.next;
}
with_maxima a accts.Outbound maxima q within = record {
  inbound = q.inbound;
  outbound = record { queue = q.outbound.queue; maxima = within };
  few = q.few;
  next = q.next;
}

-- no number is there twice after the next one came
few_more : (k next : ℕ) (ts us : List Ticket) (n : Ticket) → n.number ≡ next → IsQueue next ts → IsQueue next us
    → times k ts + times k us ≤ 1 → times k (placed ts n) + times k us ≤ 1
few_more k next ts us n is q r few =
    on_test (nat_eq k next)
    (λ e. let same = eqb-true k next e in
    omega (
      arith,
      times_placed k ts n,
      ap (λ i. times i ts) same,
      ap (λ i. times i us) same,
      times_next next ts q.below,
      times_next next us r.below,
      ap (λ i. weight (nat_eq k i)) is,
      ap weight e,
    ))
    (λ e. omega (arith, few, times_placed k ts n, ap (λ i. weight (nat_eq k i)) is, ap weight e))

-- a ticket of the next number enters one queue
pub entered : (a : Accounts) (acct : Acct) (n : Ticket) → Queues a → n.granted ≡ false → n.number ≡ a.next
    → IsValidTicket n → a.next < most_amount
    → Queues (record (with_tickets a acct (placed (tickets_of a acct) n)) { next = n.number + 1 })
entered a accts.Inbound n q waits is valid low =
    subst (λ i. Queues (record (with_tickets a accts.Inbound (placed a.inbound.tickets n)) { next = i + 1 })) (sym is)
    (record {
      inbound = record {
        queue = placed_queue a.next a.inbound.tickets n waits is valid q.inbound.queue;
        maxima = q.inbound.maxima;
      };
      outbound = record {
        queue = later_queue a.next a.outbound.tickets q.outbound.queue;
        maxima = q.outbound.maxima;
      };
      few = λ k.
          few_more k a.next a.inbound.tickets a.outbound.tickets n is q.inbound.queue q.outbound.queue (q.few k);
      next = omega (arith, low);
    })
entered a accts.Outbound n q waits is valid low =
    subst (λ i. Queues (record (with_tickets a accts.Outbound (placed a.outbound.tickets n)) { next = i + 1 })) (sym is)
    (record {
      inbound = record {
        queue = later_queue a.next a.inbound.tickets q.inbound.queue;
        maxima = q.inbound.maxima;
      };
      outbound = record {
        queue = placed_queue a.next a.outbound.tickets n waits is valid q.outbound.queue;
        maxima = q.outbound.maxima;
      };
      few = λ k.
          omega (
            arith,
            few_more k a.next a.outbound.tickets a.inbound.tickets n is q.outbound.queue q.inbound.queue
                (omega (arith, q.few k)),
          );
      next = omega (arith, low);
    })

-- the ticket at a place of a queue
there : (ts : List Ticket) (i : ℕ) → i < length ts → slice_get ts i ≡ Some (ticket_at ts i)
there [] i within = absurd (omega (arith, within))
there (t ∷ ts) zero within = refl
there (t ∷ ts) (suc i) within = there ts i (omega (arith, within))

-- where a pending ticket stands
pub record StandsAt (a : Accounts) (acct : Acct) (p : Pending) : Type 0 where
  pub acct_is : p.acct ≡ acct
  pub ticket_is : slice_get (tickets_of a acct) p.place ≡ Some p.ticket

pub stands_there : (a : Accounts) (acct : Acct) (number : ℕ) (p : Pending) → pending_in a acct number ≡ Some p
    → StandsAt a acct p
stands_there a acct number p is = by (position (λ (t : Ticket). t.number == number) (tickets_of a acct)) refl is
  where
    by : (o : Option ℕ) → position (λ (t : Ticket). t.number == number) (tickets_of a acct) ≡ o
        → option_map (λ place. record { acct = acct; place = place; ticket = ticket_at (tickets_of a acct) place }) o
        ≡ Some p
        → StandsAt a acct p
    by None at e = let none : None ≡ Some p = e in absurd cc
    by (Some place) at e =
        let same : record { acct = acct; place = place; ticket = ticket_at (tickets_of a acct) place } ≡ p =
        ap (λ o. unwrap_or o p) e in
        subst (StandsAt a acct) same (record {
          acct_is = refl;
          ticket_is = there (tickets_of a acct) place
              (position-Some (λ (t : Ticket). t.number == number) (tickets_of a acct) place no_ticket at).0;
        })

-- in either queue
pub stands_of : (w : World) (number : ℕ) (p : Pending) → pending_of w number ≡ Some p → StandsAt w.accounts p.acct p
stands_of w number p is = by (pending_in w.accounts accts.Inbound number) refl is
  where
    own : (acct : Acct) → StandsAt w.accounts acct p → StandsAt w.accounts p.acct p
    own acct at = subst (λ b. StandsAt w.accounts b p) (sym at.acct_is) at

    by : (o : Option Pending) → pending_in w.accounts accts.Inbound number ≡ o
        → option_or o (pending_in w.accounts accts.Outbound number) ≡ Some p → StandsAt w.accounts p.acct p
    by None none e = own accts.Outbound (stands_there w.accounts accts.Outbound number p e)
    by (Some q) at e = own accts.Inbound (stands_there w.accounts accts.Inbound number p (at ∙ e))
