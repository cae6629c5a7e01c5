-- What is occupied moves by what a call charges, releases and grants.
use Rattle.std.proofs.Common.{◌≡◌, ℕ, ◌+◌, ◌-◌, ◌≤◌, List, [], ◌∷◌, true, false, cond, true≢false, inl, inr, Option, Some, None, remove, set, refl, sym, ap, ◌∙◌, subst, arith, if◌then◌else◌}
use Rattle.std.specs.List.{AllByRecursion}
use Rattle.std.specs.Prelude.{IfSome, unwrap_or}
use Rattle.sdr_base.specs.declared.account.Acct.{Acct}
use Rattle.sdr_base.specs.declared.account.Acct.TheVariants as accts
use Rattle.sdr_base.specs.declared.kind.Space.{Space}
use Rattle.sdr_base.specs.declared.moves.Move.{Move}
use Rattle.law_steps.proofs.AccountQueues.{Queues as AreQueues, account_kept, queues_from, stands_there}
use Rattle.law_steps.proofs.BarredLemmas.{amount_by, left_in-cons, tickets_now}
use Rattle.law_steps.proofs.ChargeLaws.{Moves, row_moves_charge}
use Rattle.law_steps.proofs.CloneLaws.{stop_unanswered}
use Rattle.law_steps.proofs.DistinctLemmas.{on_test}
use Rattle.law_steps.proofs.FrontLaws.{account_other, covers, left_set, queued_other, same_acct}
use Rattle.law_steps.proofs.GrantLemmas.{IsAsBefore, all_as_before, never_granted, none_granted, served_grants}
use Rattle.law_steps.proofs.QueueLaws.{queued_keeps}
use Rattle.law_steps.proofs.QueueLemmas.{all_gone, all_replaced, times, times_next}
use Rattle.law_steps.proofs.QueueOrder.{all_placed, enqueued_is, placed}
use Rattle.law_steps.proofs.ZcoOutcomes.{AccountChange, IsCharged, Queued}
use Rattle.law_steps.specs.Charged.{charged, grants, of_account, released, ticket_of, ticket_under}
use Rattle.law_steps.specs.Fresh.{AreFresh}
use Rattle.sdr_model.specs.AccountSteps.{with_maximum}
use Rattle.sdr_model.specs.Accounts.{account_of, is_same_account, pending_in, tickets_of, with_account, with_tickets}
use Rattle.sdr_model.specs.declared.accounts.Pending.{Pending}
use Rattle.sdr_model.specs.Amounts.{amount, amounts_by, minus}
use Rattle.sdr_model.specs.Blocks.{addresses_of, blocks_of}
use Rattle.sdr_model.specs.Charges.{left_in, occupancies, occupancy}
use Rattle.sdr_model.specs.Charging.{grant_left, with_covered}
use Rattle.sdr_model.specs.Queue.{enqueued, stands_before, served, with_served}
use Rattle.sdr_model.specs.Step.{Step, is_answer}
use Rattle.sdr_model.specs.Steps.{Outcome}
use Rattle.sdr_model.specs.Valid.{FitTogether, IsValid, KeepQueues}
use Rattle.sdr_model.specs.World.{World}
use Rattle.sdr_model.specs.declared.accounts.Account.{Account}
use Rattle.sdr_model.specs.declared.accounts.Accounts.{Accounts}
use Rattle.sdr_model.specs.declared.accounts.Ticket.{Ticket}
use Rattle.sdr_model.specs.declared.answer.Reply.{Reply}
use Rattle.sdr_model.specs.declared.call.Call.{Call}

-- each number is in one queue once at most
few_of : (a : Accounts) (acct : Acct) → AreQueues a → (k : ℕ) → times k (tickets_of a acct) ≤ 1
few_of a accts.Inbound q k = omega (arith, q.few k)
few_of a accts.Outbound q k = omega (arith, q.few k)

-- an account that was put in its place
account_now : (a : Accounts) (acct : Acct) (account : Account) → account_of (with_account a acct account) acct ≡ account
account_now a accts.Inbound account = refl
account_now a accts.Outbound account = refl

-- a new ticket in a queue
pub left_placed : (space : Space) (ts : List Ticket) (n : Ticket)
    → left_in space (placed ts n) ≡ left_in space ts + amount n.left space
left_placed space [] n = omega (arith, left_in-cons space n [])
left_placed space (t ∷ ts) n =
    on_test (stands_before t n)
    (λ e. omega (
      arith,
      ap (λ b. left_in space (cond b (t ∷ placed ts n) (n ∷ t ∷ ts))) e,
      left_placed space ts n,
      left_in-cons space t ts,
      left_in-cons space t (placed ts n),
    ))
    (λ e. omega (
      arith,
      ap (λ b. left_in space (cond b (t ∷ placed ts n) (n ∷ t ∷ ts))) e,
      left_in-cons space n (t ∷ ts),
    ))

-- A queue, where this was charged and this was lost: what is left goes by what a ticket covers, what is lost, and
-- what is granted.
pub record MovesQueue (w after : World) (b : Acct) (number adds lost : ℕ) (space : Space) : Type 0 where
  pub moved : left_in space (tickets_of after.accounts b) + lost
      + (adds - (adds - amount (grant_left (ticket_under w.accounts b number)) space))
      ≡ left_in space (tickets_of w.accounts b)
      + grants (tickets_of w.accounts b) (tickets_of after.accounts b) space

module _ (w : World) (q : AreQueues w.accounts) where
  as_before : (b : Acct) → AllByRecursion (IsAsBefore (tickets_of w.accounts b)) (tickets_of w.accounts b)
  as_before b = all_as_before (tickets_of w.accounts b) (few_of w.accounts b q)

  -- the same tickets
  queue_stays : (after : World) (b : Acct) (number : ℕ) (space : Space)
      → tickets_of after.accounts b ≡ tickets_of w.accounts b → MovesQueue w after b number 0 0 space
  queue_stays after b number space same = record {
    moved =
        omega (
          arith,
          ap (left_in space) same,
          ap (λ ts. grants (tickets_of w.accounts b) ts space) same,
          none_granted (tickets_of w.accounts b) space (tickets_of w.accounts b) (as_before b),
        );
  }

  -- the queue that a new ticket has entered
  entered_tickets : (acct : Acct) (a : Accounts) (t : Ticket)
      → a ≡ record (with_tickets w.accounts acct (enqueued (tickets_of w.accounts acct) t)) { next = t.number + 1 }
      → tickets_of a acct ≡ placed (tickets_of w.accounts acct) t
  entered_tickets acct a t is =
      ap (λ a. tickets_of a acct) is
      ∙ next_same (with_tickets w.accounts acct (enqueued (tickets_of w.accounts acct) t)) acct (t.number + 1)
      ∙ tickets_now w.accounts acct (enqueued (tickets_of w.accounts acct) t)
      ∙ enqueued_is (tickets_of w.accounts acct) t
    where
      next_same : (a : Accounts) (acct : Acct) (next : ℕ)
          → tickets_of (record a { next = next }) acct ≡ tickets_of a acct
      next_same a accts.Inbound next = refl
      next_same a accts.Outbound next = refl

  -- before it is served, each ticket of a queue is as before, or new
  queued_before : (acct : Acct) (a : Accounts) {lost : Space → ℕ} → Queued w acct a lost
      → AllByRecursion (IsAsBefore (tickets_of w.accounts acct)) (tickets_of a acct)
  queued_before acct a (Queued.same l is) =
      subst (λ a. AllByRecursion (IsAsBefore (tickets_of w.accounts acct)) (tickets_of a acct)) (sym is)
      (as_before acct)
  queued_before acct a (Queued.maximum space value low l is) =
      subst (AllByRecursion (IsAsBefore (tickets_of w.accounts acct)))
      (sym (ap (λ a. tickets_of a acct) is ∙ ap (λ (a : Account). a.tickets) (account_now w.accounts acct _)))
      (as_before acct)
  queued_before acct a (Queued.entered t asked block coarse fine new above last l is) =
      subst (AllByRecursion (IsAsBefore (tickets_of w.accounts acct))) (sym (entered_tickets acct a t is))
      (all_placed (IsAsBefore (tickets_of w.accounts acct)) (tickets_of w.accounts acct) t
      (subst (IsAsBefore (tickets_of w.accounts acct)) (sym new) (record {
        known = refl;
        waits = λ waits. never_granted w.accounts.next (tickets_of w.accounts acct)
            (times_next w.accounts.next (tickets_of w.accounts acct) (account_kept w.accounts acct q).queue.below);
      })) (as_before acct))
  queued_before acct a (Queued.gone place l is) =
      subst (AllByRecursion (IsAsBefore (tickets_of w.accounts acct)))
      (sym (ap (λ a. tickets_of a acct) is ∙ tickets_now w.accounts acct (remove (tickets_of w.accounts acct) place)))
      (all_gone (IsAsBefore (tickets_of w.accounts acct)) (tickets_of w.accounts acct) place (as_before acct))

  queued_left : (acct : Acct) (a : Accounts) {lost : Space → ℕ} (space : Space) → Queued w acct a lost
      → left_in space (tickets_of a acct) + lost space ≡ left_in space (tickets_of w.accounts acct)
  queued_left acct a space (Queued.same l is) =
      omega (arith, ap (λ a. left_in space (tickets_of a acct)) is, ap (λ f. f space) l)
  queued_left acct a space (Queued.maximum one value low l is) =
      omega (
        arith,
        ap (λ a. left_in space (tickets_of a acct)) is,
        ap (λ (a : Account). left_in space a.tickets) (account_now w.accounts acct
            (with_maximum (account_of w.accounts acct) one value)),
        ap (λ f. f space) l,
      )
  queued_left acct a space (Queued.entered t asked block coarse fine new above last l is) =
      omega (
        arith,
        ap (left_in space) (entered_tickets acct a t is),
        left_placed space (tickets_of w.accounts acct) t,
        ap (λ (t : Ticket). amount t.left space) new,
        amount_by (λ space. 0) space,
        ap (λ f. f space) l,
      )
  queued_left acct a space (Queued.gone place l is) =
      omega (
        arith,
        l space,
        ap (λ a. left_in space (tickets_of a acct)) is,
        ap (left_in space) (tickets_now w.accounts acct (remove (tickets_of w.accounts acct) place)),
      )

  -- the queue is served
  queue_served : (after v : World) (acct : Acct) (number : ℕ) {lost : Space → ℕ} (space : Space)
      → Queued w acct v.accounts lost → after.accounts ≡ (with_served v acct).accounts
      → MovesQueue w after acct number 0 (lost space) space
  queue_served after v acct number {lost} space queued is =
      let ts = tickets_of v.accounts acct in
      let m = (account_of v.accounts acct).maxima in
      let now : tickets_of after.accounts acct ≡ served m (occupancies v acct) ts =
      ap (λ a. tickets_of a acct) is ∙ tickets_now v.accounts acct (served m (occupancies v acct) ts) in
      record {
        moved =
            omega (
              arith,
              ap (left_in space) now,
              ap (λ us. grants (tickets_of w.accounts acct) us space) now,
              served_grants (tickets_of w.accounts acct) space m (occupancies v acct) ts
                  (queued_before acct v.accounts queued)
                  (account_kept v.accounts acct (queued_keeps w acct v.accounts queued q)).queue.valid,
              queued_left acct v.accounts space queued,
            );
      }

  -- a ticket covers of a charge what it can
  queue_charged : (after used : World) (acct : Acct) (number : ℕ) (adds : Space → ℕ) (space : Space)
      → IsCharged w acct number adds used → after.accounts ≡ used.accounts
      → MovesQueue w after acct number (adds space) 0 space
  queue_charged after used acct number adds space c is =
      by c.pending c.under c.there (is ∙ ap (λ (v : World). v.accounts) c.used_is)
    where
      by : (p : Option Pending) → p ≡ ticket_under w.accounts acct number
          → IfSome p (λ p. (pending_in w.accounts acct number ≡ Some p) × (p.ticket.granted ≡ true))
          → after.accounts ≡ (with_covered w p (amounts_by adds)).accounts
          → MovesQueue w after acct number (adds space) 0 space
      by None under there same = record {
        moved =
            omega (
              arith,
              (queue_stays after acct number space (ap (λ a. tickets_of a acct) same)).moved,
              ap (λ p. amount (grant_left p) space) under,
              amount_by (λ space. 0) space,
            );
      }
      by (Some p) under there same =
          let at = stands_there w.accounts acct number p there.0 in
          let u : Ticket = record p.ticket { left = minus p.ticket.left (amounts_by adds) } in
          let ts = tickets_of w.accounts acct in
          let now : tickets_of after.accounts acct ≡ set ts p.place u =
          ap (λ a. tickets_of a acct) same
          ∙ ap (λ b. tickets_of (with_tickets w.accounts b (set (tickets_of w.accounts b) p.place u)) acct) at.acct_is
          ∙ tickets_now w.accounts acct (set ts p.place u) in
          record {
            moved =
                omega (
                  arith,
                  ap (left_in space) now,
                  left_set space ts p.place p.ticket u at.ticket_is,
                  amount_by (λ space. amount p.ticket.left space - amount (amounts_by adds) space) space,
                  amount_by adds space,
                  ap (λ p. amount (grant_left p) space) under,
                  ap (λ us. grants ts us space) now,
                  none_granted ts space (set ts p.place u)
                      (all_replaced (IsAsBefore ts) ts p.place u (λ t is old.
                      subst (λ (t : Ticket). IsAsBefore ts (record t { left = minus t.left (amounts_by adds) }))
                      (ap (λ o. unwrap_or o t) (sym is ∙ at.ticket_is))
                      (record { known = old.known; waits = old.waits })) (as_before acct)),
                );
          }

  own_queue : (after : World) (acct : Acct) (number : ℕ) (adds frees lost : Space → ℕ) (space : Space)
      → AccountChange w after acct number adds frees lost
      → MovesQueue w after acct number (adds space) (lost space) space
  own_queue after acct number adds frees lost space (AccountChange.stays a f l is) =
      subst (λ f. MovesQueue w after acct number (f space) (lost space) space) (sym a)
      (subst (λ f. MovesQueue w after acct number 0 (f space) space) (sym l)
      (queue_stays after acct number space (ap (λ a. tickets_of a acct) is)))
  own_queue after acct number adds frees lost space (AccountChange.charged used c f l is) =
      subst (λ f. MovesQueue w after acct number (adds space) (f space) space) (sym l)
      (queue_charged after used acct number adds space c is)
  own_queue after acct number adds frees lost space (AccountChange.served v a queued things is) =
      subst (λ f. MovesQueue w after acct number (f space) (lost space) space) (sym a)
      (queue_served after v acct number space queued is)

  other_queue : (after : World) (acct b : Acct) (number : ℕ) {adds frees lost : Space → ℕ}
      → AccountChange w after acct number adds frees lost → is_same_account b acct ≡ false
      → account_of after.accounts b ≡ account_of w.accounts b
  other_queue after acct b number (AccountChange.stays a f l is) apart = ap (λ a. account_of a b) is
  other_queue after acct b number {adds} (AccountChange.charged used c f l is) apart =
      ap (λ a. account_of a b) is ∙ (covers w used acct number adds c).other b apart
  other_queue after acct b number (AccountChange.served v a queued things is) apart =
      ap (λ a. account_of a b) is ∙ account_other v.accounts acct b _ apart
      ∙ queued_other w acct v.accounts queued b apart

-- what is of one account
of_same : (acct b : Acct) (f : Space → ℕ) (space : Space) → is_same_account b acct ≡ true
    → of_account acct f b space ≡ f space
of_same acct b f space is = ap (λ t. if t then f space else 0) is

of_other : (acct b : Acct) (f : Space → ℕ) (space : Space) → is_same_account b acct ≡ false
    → of_account acct f b space ≡ 0
of_other acct b f space is = ap (λ t. if t then f space else 0) is

-- what a call moves is what its row says
moves_occupancy : (w : World) (call : Call) (o : Outcome) (b : Acct) (space : Space) → KeepQueues w.accounts
    → is_answer o.reply ≡ true → Moves w call o
    → occupancy o.after b space + released w call b space
    ≡ occupancy w b space + charged w call b space
    + grants (tickets_of w.accounts b) (tickets_of o.after.accounts b) space
moves_occupancy w call o b space keep answered n =
    let q = queues_from w.accounts keep in
    let owes = n.owes answered in
    on_test (is_same_account b n.acct)
    (λ here.
    let same = same_acct b n.acct here in
    let queue = (own_queue w q o.after n.acct (ticket_of call) n.adds n.frees n.lost space n.accounts).moved in
    subst (λ c. occupancy o.after c space + released w call c space
    ≡ occupancy w c space + charged w call c space
    + grants (tickets_of w.accounts c) (tickets_of o.after.accounts c) space) (sym same)
    (let itself = subst (λ c. is_same_account c n.acct ≡ true) same here in
    omega (
      arith,
      queue,
      n.charge.own space,
      owes.charge n.acct space,
      owes.release n.acct space,
      owes.ticket n.acct space,
      of_same n.acct n.acct n.adds space itself,
      of_same n.acct n.acct n.frees space itself,
      of_same n.acct n.acct n.lost space itself,
    )))
    (λ apart.
    let queue = (queue_stays w q o.after b (ticket_of call) space (ap (λ (a : Account). a.tickets)
    (other_queue w q o.after n.acct b (ticket_of call) n.accounts apart))).moved in
    omega (
      arith,
      queue,
      n.charge.other b apart space,
      owes.charge b space,
      owes.release b space,
      owes.ticket b space,
      of_other n.acct b n.adds space apart,
      of_other n.acct b n.frees space apart,
      of_other n.acct b n.lost space apart,
    ))

-- What is occupied moves by what an answered call charges, releases and grants.
pub occupancy_moves : (w w' : World) (call : Call) (moves : List Move) (reply : Reply) (acct : Acct) (space : Space)
    → IsValid w → FitTogether w → KeepQueues w.accounts → AreFresh (addresses_of (blocks_of w)) moves
    → Step w call moves w' reply → is_answer reply ≡ true
    → occupancy w' acct space + released w call acct space
    ≡ occupancy w acct space + charged w call acct space
    + grants (tickets_of w.accounts acct) (tickets_of w'.accounts acct) space
occupancy_moves w w' call moves reply acct space valid fit keep fresh (inl row) answered =
    moves_occupancy w call (record { moves = moves; after = w'; reply = reply }) acct space keep answered
    (row_moves_charge w call (record { moves = moves; after = w'; reply = reply }) valid fit fresh row)
occupancy_moves w w' call moves reply acct space valid fit keep fresh (inr stops) answered =
    absurd (true≢false (sym answered ∙ stop_unanswered reply call stops.aim.moves moves stops.stopped))
