-- A queue that is served grants no more tickets than the world has granted since.
use Rattle.std.proofs.Common.{◌≡◌, ◌∙◌, ◌+◌, ◌≤◌, ◌==◌, ◌&&◌, ◌||◌, not, ℕ, List, [], ◌∷◌, Bool, true, false, nat_eq, remove, ap, sym, subst, arith}
use Rattle.std.specs.Cmp.{nat_eq_equiv}
use Rattle.std.specs.List.{AllByRecursion, count_by}
use Rattle.std.proofs.lemmas.List.Folds.{list_any-append}
use Rattle.std.proofs.lemmas.List.Sums.{sum_by-append, sum_by-cons}
use Rattle.sdr_base.specs.declared.account.Acct.{Acct}
use Rattle.sdr_base.specs.declared.account.Acct.TheVariants as accts
use Rattle.sdr_base.specs.declared.account.Amounts.{Amounts}
use Rattle.law_steps.proofs.AccountQueues.{Queues}
use Rattle.law_steps.proofs.DistinctLemmas.{count_by-cons, weight}
use Rattle.law_steps.proofs.GrantLemmas.{IsAsBefore, all_as_before, never_granted}
use Rattle.law_steps.proofs.QueueLemmas.{all_gone, serving, times, times_next}
use Rattle.law_steps.proofs.QueueOrder.{all_placed, enqueued_is}
use Rattle.law_steps.specs.Charged.{was_granted}
use Rattle.sdr_machine.specs.Demand.{grants_between, is_granted_in}
use Rattle.sdr_model.specs.Accounts.{tickets_of}
use Rattle.sdr_model.specs.Amounts.{plus}
use Rattle.sdr_model.specs.Queue.{enqueued, granted, served}
use Rattle.sdr_model.specs.World.{World}
use Rattle.sdr_model.specs.declared.accounts.Ticket.{Ticket}
use Rattle.zco_space.specs.Served.{newly_granted}

-- a ticket that waits wasn't granted in the world
pub record Awaits (w : World) (t : Ticket) : Type 0 where
  pub waits : t.granted ≡ false → is_granted_in w t.number ≡ false

-- whether a ticket is granted that wasn't
abbrev pub newly : World → Ticket → Bool
newly w t = t.granted && not (is_granted_in w t.number)

pub served_many : (w : World) (m o : Amounts) (ts : List Ticket) → AllByRecursion (Awaits w) ts →
    count_by (λ (t : Ticket). t.granted) (served m o ts)
    ≤ count_by (λ (t : Ticket). t.granted) ts + count_by (newly w) (served m o ts)
served_many w m o [] all = omega arith
served_many w m o (t ∷ ts) all =
    serving (λ us. count_by (λ (t : Ticket). t.granted) us
    ≤ count_by (λ (t : Ticket). t.granted) (t ∷ ts) + count_by (newly w) us) m o t ts
    (λ is.
    let us = served m o ts in
    let ih = served_many w m o ts all.1 in
    omega (
      arith,
      ih,
      count_by-cons (λ (t : Ticket). t.granted) t ts,
      count_by-cons (λ (t : Ticket). t.granted) t us,
      count_by-cons (newly w) t us,
    ))
    (λ waits fits.
    let us = served m (plus o t.asked) ts in
    let ih = served_many w m (plus o t.asked) ts all.1 in
    let new = ap (λ (b : Bool). weight (not b)) (all.0.waits waits) in
    omega (
      arith,
      ih,
      new,
      count_by-cons (λ (t : Ticket). t.granted) t ts,
      count_by-cons (λ (t : Ticket). t.granted) (granted t) us,
      count_by-cons (newly w) (granted t) us,
    ))
    (λ waits above. omega arith)

-- so many are at most granted in the world
pub part_of_all : (w v : World) (acct : Acct) → count_by (newly w) (tickets_of v.accounts acct) ≤ grants_between w v
part_of_all w v accts.Inbound =
    let a = sum_by-append (λ (t : Ticket). weight (newly w t)) v.accounts.inbound.tickets v.accounts.outbound.tickets in
    omega (arith, a)
part_of_all w v accts.Outbound =
    let a = sum_by-append (λ (t : Ticket). weight (newly w t)) v.accounts.inbound.tickets v.accounts.outbound.tickets in
    omega (arith, a)

pub grants_many : (w v : World) (acct : Acct) (m o : Amounts) (ts : List Ticket) → AllByRecursion (Awaits w) ts →
    tickets_of v.accounts acct ≡ served m o ts → newly_granted ts (served m o ts) ≤ grants_between w v
grants_many w v acct m o ts all is =
    let many = served_many w m o ts all in
    let part = subst (λ (us : List Ticket). count_by (newly w) us ≤ grants_between w v) is (part_of_all w v acct) in
    omega (arith, many, part)

-- each of these tickets has a number that is there
there_once : (ts us : List Ticket) → ((k : ℕ) → times k us ≤ times k ts) →
    AllByRecursion (λ (t : Ticket). 1 ≤ times t.number ts) us
there_once ts [] less = tt
there_once ts (u ∷ us) less = (
  (let here = sum_by-cons (λ (t : Ticket). weight (nat_eq u.number t.number)) u us in
      let self = ap weight (nat_eq_equiv.refl u.number) in
      let l = less u.number in omega (arith, here, self, l)),
  there_once ts us (λ k.
      let here = sum_by-cons (λ (t : Ticket). weight (nat_eq k t.number)) u us in let l = less k in
      omega (arith, here, l)),
)

-- what is granted in a world is so in one of both queues
granted_either : (w : World) (number : ℕ) →
    is_granted_in w number ≡ (was_granted w.accounts.inbound.tickets number || was_granted w.accounts.outbound.tickets number)
granted_either w number =
    list_any-append (λ (t : Ticket). t.number == number && t.granted) w.accounts.inbound.tickets w.accounts.outbound.tickets

neither : (a b : Bool) → a ≡ false → b ≡ false → (a || b) ≡ false
neither false b e f = f
neither true b e f = e

-- the tickets of a queue await in the world
module _ (w : World) (q : Queues w.accounts) where
  all_await : (acct : Acct) (us : List Ticket) → AllByRecursion (IsAsBefore (tickets_of w.accounts acct)) us →
      AllByRecursion (λ (t : Ticket). 1 ≤ times t.number (tickets_of w.accounts acct)) us → AllByRecursion (Awaits w) us
  all_await acct [] before once = tt
  all_await acct (u ∷ us) before once =
      (record { waits = λ waits. one acct (before.0.waits waits) once.0 }, all_await acct us before.1 once.1)
    where
      one : (a : Acct) → was_granted (tickets_of w.accounts a) u.number ≡ false →
          1 ≤ times u.number (tickets_of w.accounts a) → is_granted_in w u.number ≡ false
      one accts.Inbound here there =
          let few = q.few u.number in
          granted_either w u.number
          ∙ neither _ _ here (never_granted u.number w.accounts.outbound.tickets (omega (arith, few, there)))
      one accts.Outbound here there =
          let few = q.few u.number in
          granted_either w u.number
          ∙ neither _ _ (never_granted u.number w.accounts.inbound.tickets (omega (arith, few, there))) here

  few_in : (acct : Acct) (k : ℕ) → times k (tickets_of w.accounts acct) ≤ 1
  few_in accts.Inbound k = let few = q.few k in omega (arith, few)
  few_in accts.Outbound k = let few = q.few k in omega (arith, few)

  pub queue_awaits : (acct : Acct) → AllByRecursion (Awaits w) (tickets_of w.accounts acct)
  queue_awaits acct =
      let ts = tickets_of w.accounts acct in
      all_await acct ts (all_as_before ts (few_in acct)) (there_once ts ts (λ k. omega arith))

  -- and so does one of the next number
  pub new_awaits : (acct : Acct) (n : Ticket) → n.number ≡ w.accounts.next →
      AllByRecursion (Awaits w) (enqueued (tickets_of w.accounts acct) n)
  new_awaits acct n is =
      let ts = tickets_of w.accounts acct in
      let never = granted_either w w.accounts.next
      ∙ neither _ _
      (never_granted w.accounts.next w.accounts.inbound.tickets
      (times_next w.accounts.next w.accounts.inbound.tickets q.inbound.queue.below))
      (never_granted w.accounts.next w.accounts.outbound.tickets
      (times_next w.accounts.next w.accounts.outbound.tickets q.outbound.queue.below)) in
      subst (AllByRecursion (Awaits w)) (sym (enqueued_is ts n))
      (all_placed (Awaits w) ts n (record { waits = λ waits. ap (is_granted_in w) is ∙ never }) (queue_awaits acct))

  -- and those that are left where one goes
  pub left_await : (acct : Acct) (place : ℕ) → AllByRecursion (Awaits w) (remove (tickets_of w.accounts acct) place)
  left_await acct place = all_gone (Awaits w) (tickets_of w.accounts acct) place (queue_awaits acct)
