-- What is occupied once a queue was served, and once a ticket has come or gone.
use Rattle.std.proofs.Common.{◌≡◌, ◌∙◌, ℕ, ◌+◌, ◌-◌, ◌≤◌, List, [], ◌∷◌, Bool, sym, ap, arith, if◌then◌else◌, refl}
use Rattle.std.specs.FinMap as finite
use Rattle.std.specs.List.{AllByRecursion, sum_by}
use Rattle.std.proofs.lemmas.List.Sums.{sum_by-cons}
use Rattle.sdr_base.specs.declared.account.Acct.{Acct}
use Rattle.sdr_base.specs.declared.account.Amounts.{Amounts}
use Rattle.sdr_base.specs.declared.kind.Space.{Space}
use Rattle.law_steps.proofs.BarredLemmas.{amount_by, amounts_same, left_in-cons}
use Rattle.law_steps.proofs.OccupancyLaws.{left_placed}
use Rattle.law_steps.proofs.QueueLemmas.{serving}
use Rattle.law_steps.proofs.QueueOrder.{enqueued_is}
use Rattle.sdr_model.proofs.AmountLemmas.{amount-minus, nothing_in}
use Rattle.sdr_model.specs.Amounts.{amount, amounts_by, minus, no_amounts, plus}
use Rattle.sdr_model.specs.Charges.{left_in, thing_charge}
use Rattle.sdr_model.specs.Queue.{enqueued, granted, served}
use Rattle.sdr_model.specs.Valid.{IsValidTicket}
use Rattle.sdr_model.specs.World.{World}
use Rattle.sdr_model.specs.declared.accounts.Ticket.{Ticket}
use Rattle.zco_space.specs.Served.{granted_in, occupied_after}

granted-cons : (space : Space) (t : Ticket) (ts : List Ticket) →
    granted_in space (t ∷ ts) ≡ (if t.granted then amount t.asked space else 0) + granted_in space ts
granted-cons space t ts = sum_by-cons (λ (t : Ticket). if t.granted then amount t.asked space else 0) t ts

-- what is left and what is granted rise by the same
pub record RisesAlike (space : Space) (was now : List Ticket) : Type 0 where
  pub alike : left_in space now + granted_in space was ≡ left_in space was + granted_in space now
  pub more : granted_in space was ≤ granted_in space now

pub served_alike : (space : Space) (m o : Amounts) (ts : List Ticket) → AllByRecursion IsValidTicket ts →
    RisesAlike space ts (served m o ts)
served_alike space m o [] valid = record { alike = refl; more = omega arith }
served_alike space m o (t ∷ ts) valid =
    serving (RisesAlike space (t ∷ ts)) m o t ts
    (λ is.
    let ih = served_alike space m o ts valid.1 in
    let us = served m o ts in
    record {
      alike = omega (
        arith,
        ih.alike,
        left_in-cons space t ts,
        left_in-cons space t us,
        granted-cons space t ts,
        granted-cons space t us,
      );
      more = omega (arith, ih.more, granted-cons space t ts, granted-cons space t us);
    })
    (λ waits fits.
    let us = served m (plus o t.asked) ts in
    let ih = served_alike space m (plus o t.asked) ts valid.1 in
    let none : (if t.granted then amount t.asked space else 0) ≡ 0 =
    ap (λ (b : Bool). if b then amount t.asked space else 0) waits in
    let nothing = ap (λ (a : Amounts). amount a space) (valid.0.waiting waits) ∙ amount_by (λ space. 0) space in
    record {
      alike = omega (
        arith,
        ih.alike,
        none,
        nothing,
        left_in-cons space t ts,
        left_in-cons space (granted t) us,
        granted-cons space t ts,
        granted-cons space (granted t) us,
      );
      more = omega (arith, ih.more, none, granted-cons space t ts, granted-cons space (granted t) us);
    })
    (λ waits above. record { alike = refl; more = omega arith })

-- what the things of a world charge an account
abbrev pub things_charge : World → Acct → Space → ℕ
things_charge w acct space = sum_by (λ e. thing_charge w acct space e.0 e.1) (finite.entries w.things)

-- what is occupied where an account has these tickets
abbrev pub occupied_with : World → Acct → List Ticket → Amounts
occupied_with w acct ts = amounts_by (λ space. things_charge w acct space + left_in space ts)

-- where so much was occupied, that is what is occupied once they were served
pub served_occupied : (w : World) (acct : Acct) (m : Amounts) (ts : List Ticket) → AllByRecursion IsValidTicket ts →
    occupied_after (occupied_with w acct ts) ts (served m (occupied_with w acct ts) ts)
    ≡ occupied_with w acct (served m (occupied_with w acct ts) ts)
served_occupied w acct m ts valid =
    let o = occupied_with w acct ts in
    let us = served m o ts in
    amounts_same (occupied_after o ts us) (occupied_with w acct us) (λ space.
    let r = served_alike space m o ts valid in
    let was = amount_by (λ space. things_charge w acct space + left_in space ts) space in
    let sum : amount o space + (granted_in space us - granted_in space ts)
    ≡ things_charge w acct space + left_in space us =
    omega (arith, r.alike, r.more, was) in
    amount_by (λ space. amount o space + (granted_in space us - granted_in space ts)) space ∙ sum
    ∙ sym (amount_by (λ space. things_charge w acct space + left_in space us) space))

-- a ticket of which nothing is left leaves as much in its queue
pub left_entered : (space : Space) (ts : List Ticket) (n : Ticket) → n.left ≡ no_amounts →
    left_in space (enqueued ts n) ≡ left_in space ts
left_entered space ts n none =
    let placed = left_placed space ts n in
    let nothing = ap (λ (a : Amounts). amount a space) none ∙ nothing_in space in
    ap (left_in space) (enqueued_is ts n) ∙ omega (arith, placed, nothing)

-- as much is occupied where as much is left
pub occupied_same : (w : World) (acct : Acct) (ts us : List Ticket) → ((space : Space) →
    left_in space us ≡ left_in space ts) →
    occupied_with w acct ts ≡ occupied_with w acct us
occupied_same w acct ts us same =
    amounts_same (occupied_with w acct ts) (occupied_with w acct us) (λ space.
    amount_by (λ space. things_charge w acct space + left_in space ts) space
    ∙ ap (λ (n : ℕ). things_charge w acct space + n) (sym (same space))
    ∙ sym (amount_by (λ space. things_charge w acct space + left_in space us) space))

-- what is left of a ticket that has gone is occupied no more
pub occupied_less : (w : World) (acct : Acct) (ts us : List Ticket) (left : Amounts) →
    ((space : Space) → left_in space us + amount left space ≡ left_in space ts) →
    minus (occupied_with w acct ts) left ≡ occupied_with w acct us
occupied_less w acct ts us left less =
    amounts_same (minus (occupied_with w acct ts) left) (occupied_with w acct us) (λ space.
    let was = amount_by (λ space. things_charge w acct space + left_in space ts) space in
    let now = amount_by (λ space. things_charge w acct space + left_in space us) space in
    let gone = amount-minus (occupied_with w acct ts) left space in
    let l = less space in omega (arith, was, now, gone, l))
