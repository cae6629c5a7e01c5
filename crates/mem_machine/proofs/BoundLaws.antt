-- No more gets occupied than the greatest amount.
use Rattle.std.proofs.Common.{◌≡◌, ℕ, ◌+◌, ◌-◌, ◌*◌, ◌≤◌, ◌==◌, not, List, [], ◌∷◌, true, false, Option, None, Some, set, sym, ap, ◌∙◌, subst, arith}
use Rattle.std.specs.List.{AllByRecursion}
use Rattle.std.specs.Prelude.{All, IfSome}
use Rattle.std.proofs.lemmas.List.Elements.{All-cons, All-contains, All-filter, All-weaker}
use Rattle.sdr_base.specs.declared.account.Acct.{Acct}
use Rattle.sdr_base.specs.declared.account.Acct.TheVariants as accts
use Rattle.sdr_base.specs.declared.account.Amounts.{Amounts}
use Rattle.sdr_base.specs.declared.kind.Space.{Space}
use Rattle.sdr_base.specs.declared.moves.Move.{Move}
use Rattle.sdr_base.specs.declared.moves.Move.TheVariants.{Took, Gave, Short}
use Rattle.mem_world.specs.Calling.{IsBound}
use Rattle.law_steps.proofs.AccountQueues.{Queues as AreQueues, account_kept, queues_from, stands_there}
use Rattle.law_steps.proofs.BarredLemmas.{amount_by, left_in-cons, tickets_now}
use Rattle.law_steps.proofs.ChargeLaws.{row_moves_charge}
use Rattle.law_steps.proofs.ChargeLemmas.{things_charge}
use Rattle.law_steps.proofs.ChargeMoves.{MovesCharge}
use Rattle.law_steps.proofs.DistinctLemmas.{on_test}
use Rattle.law_steps.proofs.FrontLaws.{account_other, covers, left_set, queued_other, same_acct}
use Rattle.law_steps.proofs.OccupancyLaws.{left_placed}
use Rattle.law_steps.proofs.QueueLaws.{queued_keeps}
use Rattle.law_steps.proofs.QueueLemmas.{serving}
use Rattle.law_steps.proofs.QueueOrder.{enqueued_is}
use Rattle.law_steps.proofs.ZcoOutcomes.{AccountChange, Queued}
use Rattle.law_steps.specs.Charged.{ticket_of}
use Rattle.law_steps.specs.Fresh.{AreFresh}
use Rattle.law_steps.specs.ValidDry.{IsValidDry}
use Rattle.sdr_model.proofs.AmountLemmas.{amount-minus, amount-plus, first_above-none, nothing_in, within_in}
use Rattle.sdr_model.specs.Accounts.{account_of, is_same_account, most_amount, pending_in, tickets_of, with_account, with_tickets}
use Rattle.sdr_model.specs.Amounts.{amount, amounts_by, are_within, minus, plus}
use Rattle.sdr_model.specs.Blocks.{addresses_of, blocks_of}
use Rattle.sdr_model.specs.Charges.{left_in, occupancies, occupancy, rooms}
use Rattle.sdr_model.specs.Charging.{grant_left, with_covered}
use Rattle.sdr_model.specs.Dry.{AreInOrder, StepsDry}
use Rattle.sdr_model.specs.Queue.{granted, served}
use Rattle.sdr_model.specs.Steps.{Outcome}
use Rattle.sdr_model.specs.Valid.{IsValidTicket}
use Rattle.sdr_model.specs.World.{World}
use Rattle.sdr_model.specs.declared.accounts.Account.{Account}
use Rattle.sdr_model.specs.declared.accounts.Accounts.{Accounts}
use Rattle.sdr_model.specs.declared.accounts.Pending.{Pending}
use Rattle.sdr_model.specs.declared.accounts.Ticket.{Ticket}
use Rattle.sdr_model.specs.declared.answer.Reply.{Reply}
use Rattle.sdr_model.specs.declared.call.Call.{Call}

-- blocks at the next addresses are fresh, where those in use begin at addresses given so far
fresh_in_order : (taken : ℕ) (used : List ℕ) (moves : List Move) → All (λ a. a ≤ 8 * taken) used → AreInOrder taken moves
    → AreFresh used moves
fresh_in_order taken used [] given order = tt
fresh_in_order taken used (Took need addr ∷ moves) given order = (
  (λ zero. omega (arith, zero, order.0)),
  (λ has. omega (arith, All-contains (λ a. a ≤ 8 * taken) used addr given has, order.0)),
  fresh_in_order (taken + 1) (addr ∷ used) moves
      (All-cons (λ a. a ≤ 8 * (taken + 1)) addr used (omega (arith, order.0))
      (All-weaker (λ a. a ≤ 8 * taken) (λ a. a ≤ 8 * (taken + 1)) (λ a low. omega (arith, low)) used given))
      order.1,
)
fresh_in_order taken used (Gave addr ∷ moves) given order =
    fresh_in_order taken _ moves (All-filter (λ a. not (a == addr)) (λ a. a ≤ 8 * taken) used given) order
fresh_in_order taken used (Short need ∷ moves) given order = absurd order

-- Serving a queue occupies no more than a bound of what was occupied and of the maximum: `other` is occupied beside
-- these tickets.
occupied_served : (space : Space) (m o : Amounts) (ts : List Ticket) (other most : ℕ)
    → AllByRecursion IsValidTicket ts → amount o space ≡ other + left_in space ts → amount o space ≤ most
    → amount m space ≤ most → other + left_in space (served m o ts) ≤ most
occupied_served space m o [] other most valid is small bounded = omega (arith, is, small)
occupied_served space m o (t ∷ ts) other most valid is small bounded =
    serving (λ us. other + left_in space us ≤ most) m o t ts
    (λ granted. omega (
      arith,
      left_in-cons space t (served m o ts),
      occupied_served space m o ts (other + amount t.left space) most valid.1
          (omega (arith, is, left_in-cons space t ts)) small bounded,
    ))
    (λ waits fits.
    let more = amount-plus o t.asked space in
    omega (
      arith,
      left_in-cons space (granted t) (served m (plus o t.asked) ts),
      occupied_served space m (plus o t.asked) ts (other + amount t.asked space) most valid.1
          (omega (
            arith,
            is,
            more,
            left_in-cons space t ts,
            ap (λ a. amount a space) (valid.0.waiting waits) ∙ nothing_in space,
          ))
          (omega (arith, more, small, bounded, within_in t.asked (minus m o) space fits, amount-minus m o space))
          bounded,
    ))
    (λ waits above. omega (arith, is, small))

-- a maximum is at most the greatest amount
maximum_small : (m : Amounts) (space : Space) → are_within m (amounts_by (λ space. most_amount)) ≡ true
    → amount m space ≤ most_amount
maximum_small m space within =
    omega (arith, within_in m (amounts_by (λ space. most_amount)) space within, amount_by (λ space. most_amount) space)

-- of a charge a ticket covers what is left of it, and that goes from what is left of the queue
used_left : (w : World) (acct : Acct) (number : ℕ) (adds : Space → ℕ) (space : Space) (p : Option Pending)
    → IfSome p (λ p. (pending_in w.accounts acct number ≡ Some p) × (p.ticket.granted ≡ true))
    → left_in space (tickets_of (with_covered w p (amounts_by adds)).accounts acct)
    + (adds space - (adds space - amount (grant_left p) space))
    ≤ left_in space (tickets_of w.accounts acct)
used_left w acct number adds space None there = omega (arith, nothing_in space)
used_left w acct number adds space (Some p) there =
    let at = stands_there w.accounts acct number p there.0 in
    let u : Ticket = record p.ticket { left = minus p.ticket.left (amounts_by adds) } in
    let ts = tickets_of w.accounts acct in
    omega (
      arith,
      ap (λ b. left_in space (tickets_of (with_tickets w.accounts b (set (tickets_of w.accounts b) p.place u)) acct))
          at.acct_is,
      ap (left_in space) (tickets_now w.accounts acct (set ts p.place u)),
      left_set space ts p.place p.ticket u at.ticket_is,
      amount-minus p.ticket.left (amounts_by adds) space,
      amount_by adds space,
    )

-- the tickets of an account that was put in its place, whichever number is next
put_tickets : (old a : Accounts) (acct : Acct) (account : Account) (next : ℕ)
    → a ≡ record (with_account old acct account) { next = next } → tickets_of a acct ≡ account.tickets
put_tickets old a accts.Inbound account next is = ap (λ (a : Accounts). a.inbound.tickets) is
put_tickets old a accts.Outbound account next is = ap (λ (a : Accounts). a.outbound.tickets) is

-- before a queue is served, no more is left of it than before the call
queued_left : (w : World) (acct : Acct) (a : Accounts) {lost : Space → ℕ} (space : Space) → Queued w acct a lost
    → left_in space (tickets_of a acct) ≤ left_in space (tickets_of w.accounts acct)
queued_left w acct a space (Queued.same l is) = omega (arith, ap (λ a. left_in space (tickets_of a acct)) is)
queued_left w acct a space (Queued.maximum one value low l is) =
    omega (arith, ap (left_in space) (put_tickets w.accounts a acct _ a.next (λ i. record (is i) { next = a.next })))
queued_left w acct a space (Queued.entered t asked block coarse fine new above last l is) =
    omega (
      arith,
      ap (left_in space) (put_tickets w.accounts a acct _ (t.number + 1) is ∙ enqueued_is (tickets_of w.accounts acct) t),
      left_placed space (tickets_of w.accounts acct) t,
      ap (λ (t : Ticket). amount t.left space) new,
      nothing_in space,
    )
queued_left w acct a space (Queued.gone place l is) =
    omega (
      arith,
      l space,
      ap (left_in space) (put_tickets w.accounts a acct _ a.next (λ i. record (is i) { next = a.next })),
    )

-- the account that a call charges, releases or serves
own_bound : (w after : World) (q : AreQueues w.accounts) (acct : Acct) (number : ℕ) (adds frees lost : Space → ℕ)
    (space : Space) → AccountChange w after acct number adds frees lost
    → MovesCharge w.things after.things acct adds frees → occupancy w acct space ≤ most_amount
    → occupancy after acct space ≤ most_amount
own_bound w after q acct number adds frees lost space (AccountChange.stays a f l is) charge bound =
    omega (arith, bound, charge.own space, ap (λ f. f space) a, ap (λ a. left_in space (tickets_of a acct)) is)
own_bound w after q acct number adds frees lost space (AccountChange.charged used c f l is) charge bound =
    let uncovered = minus (amounts_by adds) (grant_left c.pending) in
    let m = (account_of w.accounts acct).maxima in
    omega (
      arith,
      bound,
      charge.own space,
      ap (λ a. left_in space (tickets_of a acct)) (is ∙ ap (λ (v : World). v.accounts) c.used_is),
      used_left w acct number adds space c.pending c.there,
      first_above-none uncovered (rooms w acct) space c.room,
      amount-minus (amounts_by adds) (grant_left c.pending) space,
      amount_by adds space,
      amount-minus m (occupancies w acct) space,
      amount_by (occupancy w acct) space,
      maximum_small m space (account_kept w.accounts acct q).maxima,
    )
own_bound w after q acct number adds frees lost space (AccountChange.served v a queued things is) charge bound =
    let ts = tickets_of v.accounts acct in
    let m = (account_of v.accounts acct).maxima in
    let o = occupancies v acct in
    let kept = account_kept v.accounts acct (queued_keeps w acct v.accounts queued q) in
    let same = ap (λ m. things_charge m acct space) things in
    let was = amount_by (occupancy v acct) space in
    let less = queued_left w acct v.accounts space queued in
    omega (
      arith,
      same,
      ap (left_in space) (ap (λ a. tickets_of a acct) is ∙ tickets_now v.accounts acct (served m o ts)),
      occupied_served space m o ts (things_charge v.things acct space) most_amount kept.queue.valid was
          (omega (arith, was, bound, charge.own space, ap (λ f. f space) a, same, less))
          (maximum_small m space kept.maxima),
    )

-- the other account stays
other_account : (w after : World) (acct b : Acct) (number : ℕ) {adds frees lost : Space → ℕ}
    → AccountChange w after acct number adds frees lost → is_same_account b acct ≡ false
    → account_of after.accounts b ≡ account_of w.accounts b
other_account w after acct b number (AccountChange.stays a f l is) apart = ap (λ a. account_of a b) is
other_account w after acct b number {adds} (AccountChange.charged used c f l is) apart =
    ap (λ a. account_of a b) is ∙ (covers w used acct number adds c).other b apart
other_account w after acct b number (AccountChange.served v a queued things is) apart =
    ap (λ a. account_of a b) is ∙ account_other v.accounts acct b _ apart
    ∙ queued_other w acct v.accounts queued b apart

-- A call leaves no more occupied than the greatest amount, where a world is whole and no more is occupied in it.
pub bound_kept_dry : (w w' : World) (call : Call) (moves : List Move) (reply : Reply) → IsValidDry w
    → StepsDry w call moves w' reply → IsBound w → IsBound w'
bound_kept_dry w w' call moves reply dry steps bound b space =
    let o : Outcome = record { moves = moves; after = record w' { taken = w.taken }; reply = reply } in
    let fresh = fresh_in_order w.taken (addresses_of (blocks_of w)) moves dry.given steps.in_order in
    let n = row_moves_charge w call o dry.whole.valid dry.whole.fits fresh steps.step in
    on_test (is_same_account b n.acct)
    (λ here.
    subst (λ c. occupancy o.after c space ≤ most_amount) (sym (same_acct b n.acct here))
    (own_bound w o.after (queues_from w.accounts dry.whole.queues) n.acct (ticket_of call) n.adds n.frees n.lost space
    n.accounts n.charge (bound n.acct space)))
    (λ apart. omega (
      arith,
      bound b space,
      n.charge.other b apart space,
      ap (λ (a : Account). left_in space a.tickets) (other_account w o.after n.acct b (ticket_of call) n.accounts apart),
    ))
