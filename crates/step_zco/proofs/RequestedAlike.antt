-- A request grants as many tickets wherever the block of its own stands.
use Rattle.std.proofs.Common.{◌≡◌, ◌∙◌, ℕ, List, [], ◌∷◌, Bool, true, false, cond, refl, sym, ap, arith}
use Rattle.std.specs.List.{count_by}
use Rattle.std.proofs.lemmas.List.Sums.{sum_by-append}
use Rattle.sdr_base.specs.declared.account.Acct.{Acct}
use Rattle.sdr_base.specs.declared.account.Acct.TheVariants as accts
use Rattle.sdr_base.specs.declared.account.Amounts.{Amounts}
use Rattle.law_steps.proofs.DistinctLemmas.{count_by-cons, weight}
use Rattle.law_steps.proofs.QueueOrder.{enqueued_is, placed}
use Rattle.sdr_machine.specs.Demand.{grants_between}
use Rattle.sdr_model.specs.AccountSteps.{new_ticket, with_request}
use Rattle.sdr_model.specs.Accounts.{account_of, tickets_of}
use Rattle.sdr_model.specs.Amounts.{are_within, minus, plus}
use Rattle.sdr_model.specs.Queue.{enqueued, granted, served, stands_before}
use Rattle.sdr_model.specs.World.{World}
use Rattle.sdr_model.specs.declared.accounts.Ticket.{Ticket}
use Rattle.step_zco.proofs.GrantLemmas.{newly}
use Rattle.step_zco.proofs.OccupiedLemmas.{left_entered, occupied_same, occupied_with}

-- a new ticket, wherever its block is
module _ (w : World) (asked : Amounts) (coarse fine : ℕ) where
  abbrev new_at : ℕ → Ticket
  new_at addr = new_ticket w.accounts.next addr asked coarse fine

  placed_alike : (a b : ℕ) (ts : List Ticket) → count_by (newly w) (placed ts (new_at a))
      ≡ count_by (newly w) (placed ts (new_at b))
  placed_alike a b [] = refl
  placed_alike a b (t ∷ ts) = by (stands_before t (new_at a)) (placed_alike a b ts)
    where
      by : (x : Bool) → count_by (newly w) (placed ts (new_at a)) ≡ count_by (newly w) (placed ts (new_at b)) →
          count_by (newly w) (cond x (t ∷ placed ts (new_at a)) (new_at a ∷ t ∷ ts))
          ≡ count_by (newly w) (cond x (t ∷ placed ts (new_at b)) (new_at b ∷ t ∷ ts))
      by true rest =
          let one = count_by-cons (newly w) t (placed ts (new_at a)) in
          let two = count_by-cons (newly w) t (placed ts (new_at b)) in omega (arith, rest, one, two)
      by false rest = refl

  -- serving grants as many
  served_alike : (m : Amounts) (a b : ℕ) (ts : List Ticket) (o : Amounts) →
      count_by (newly w) (served m o (placed ts (new_at a))) ≡ count_by (newly w) (served m o (placed ts (new_at b)))
  served_alike m a b [] o = by (are_within asked (minus m o))
    where
      by : (x : Bool) → count_by (newly w) (cond x (granted (new_at a) ∷ []) (new_at a ∷ []))
          ≡ count_by (newly w) (cond x (granted (new_at b) ∷ []) (new_at b ∷ []))
      by true = refl
      by false = refl
  served_alike m a b (t ∷ ts) o =
      by (served_alike m a b ts o) (served_alike m a b ts (plus o t.asked)) (placed_alike a b ts) (stands_before t
      (new_at a))
    where
      count : List Ticket → ℕ
      count us = count_by (newly w) us

      behind : count (served m o (placed ts (new_at a))) ≡ count (served m o (placed ts (new_at b))) →
          count (served m (plus o t.asked) (placed ts (new_at a)))
          ≡ count (served m (plus o t.asked) (placed ts (new_at b))) →
          count (placed ts (new_at a)) ≡ count (placed ts (new_at b)) → (x y : Bool) →
          count_by (newly w) (cond x (t ∷ served m o (placed ts (new_at a)))
          (cond y (granted t ∷ served m (plus o t.asked) (placed ts (new_at a))) (t ∷ placed ts (new_at a))))
          ≡ count_by (newly w) (cond x (t ∷ served m o (placed ts (new_at b)))
          (cond y (granted t ∷ served m (plus o t.asked) (placed ts (new_at b))) (t ∷ placed ts (new_at b))))
      behind keeps grants stops true y =
          let one = count_by-cons (newly w) t (served m o (placed ts (new_at a))) in
          let two = count_by-cons (newly w) t (served m o (placed ts (new_at b))) in omega (arith, keeps, one, two)
      behind keeps grants stops false true =
          let one = count_by-cons (newly w) (granted t) (served m (plus o t.asked) (placed ts (new_at a))) in
          let two = count_by-cons (newly w) (granted t) (served m (plus o t.asked) (placed ts (new_at b))) in
          omega (arith, grants, one, two)
      behind keeps grants stops false false =
          let one = count_by-cons (newly w) t (placed ts (new_at a)) in
          let two = count_by-cons (newly w) t (placed ts (new_at b)) in omega (arith, stops, one, two)

      before : (x : Bool) →
          count_by (newly w) (cond x (granted (new_at a) ∷ served m (plus o asked) (t ∷ ts)) (new_at a ∷ t ∷ ts))
          ≡ count_by (newly w) (cond x (granted (new_at b) ∷ served m (plus o asked) (t ∷ ts)) (new_at b ∷ t ∷ ts))
      before true = refl
      before false = refl

      by : count (served m o (placed ts (new_at a))) ≡ count (served m o (placed ts (new_at b))) →
          count (served m (plus o t.asked) (placed ts (new_at a)))
          ≡ count (served m (plus o t.asked) (placed ts (new_at b))) →
          count (placed ts (new_at a)) ≡ count (placed ts (new_at b)) → (x : Bool) →
          count_by (newly w) (served m o (cond x (t ∷ placed ts (new_at a)) (new_at a ∷ t ∷ ts)))
          ≡ count_by (newly w) (served m o (cond x (t ∷ placed ts (new_at b)) (new_at b ∷ t ∷ ts)))
      by keeps grants stops true = behind keeps grants stops t.granted (are_within t.asked (minus m o))
      by keeps grants stops false = before (are_within asked (minus m o))

  -- so a request does
  requests_alike : (acct : Acct) (a b : ℕ) →
      count_by (newly w) (served (account_of w.accounts acct).maxima
      (occupied_with w acct (enqueued (tickets_of w.accounts acct) (new_at a))) (enqueued (tickets_of w.accounts acct)
      (new_at a)))
      ≡ count_by (newly w) (served (account_of w.accounts acct).maxima
      (occupied_with w acct (enqueued (tickets_of w.accounts acct) (new_at b))) (enqueued (tickets_of w.accounts acct)
      (new_at b)))
  requests_alike acct a b =
      let ts = tickets_of w.accounts acct in
      let m = (account_of w.accounts acct).maxima in
      let alike : (addr : ℕ) → served m (occupied_with w acct (enqueued ts (new_at addr))) (enqueued ts (new_at addr))
      ≡ served m (occupied_with w acct ts) (placed ts (new_at addr)) =
      λ addr i. served m
      (occupied_same w acct (enqueued ts (new_at addr)) ts (λ space. sym (left_entered space ts (new_at addr) refl)) i)
      (enqueued_is ts (new_at addr) i) in
      ap (λ (us : List Ticket). count_by (newly w) us) (alike a)
      ∙ served_alike m a b ts (occupied_with w acct ts)
      ∙ sym (ap (λ (us : List Ticket). count_by (newly w) us) (alike b))

  pub request_alike : (acct : Acct) (a b : ℕ) →
      grants_between w (with_request w acct (new_at a)) ≡ grants_between w (with_request w acct (new_at b))
  request_alike accts.Inbound a b =
      let in_queue : ℕ → List Ticket = λ addr. tickets_of (with_request w accts.Inbound
      (new_at addr)).accounts accts.Inbound in
      let one = sum_by-append (λ (t : Ticket). weight (newly w t)) (in_queue a) w.accounts.outbound.tickets in
      let two = sum_by-append (λ (t : Ticket). weight (newly w t)) (in_queue b) w.accounts.outbound.tickets in
      let same = requests_alike accts.Inbound a b in omega (arith, one, two, same)
  request_alike accts.Outbound a b =
      let in_queue : ℕ → List Ticket = λ addr. tickets_of (with_request w accts.Outbound
      (new_at addr)).accounts accts.Outbound in
      let one = sum_by-append (λ (t : Ticket). weight (newly w t)) w.accounts.inbound.tickets (in_queue a) in
      let two = sum_by-append (λ (t : Ticket). weight (newly w t)) w.accounts.inbound.tickets (in_queue b) in
      let same = requests_alike accts.Outbound a b in omega (arith, one, two, same)
