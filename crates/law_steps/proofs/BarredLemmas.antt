-- The first ticket that waits asks for more than the room: it does where the queue was served, and where no more room
-- came.
use Rattle.std.proofs.Common.{◌≡◌, ℕ, zero, suc, ◌+◌, not, List, [], ◌∷◌, true, false, cond, Some, None, remove, refl, sym, ap, ◌∙◌, subst, arith}
use Rattle.std.specs.FinMap as finite
use Rattle.std.specs.List.{AllByRecursion, sum_by}
use Rattle.std.specs.Prelude.{IfSome, slice_get, unwrap_or}
use Rattle.std.proofs.lemmas.List.Sums.{sum_by-cons}
use Rattle.sdr_base.specs.declared.account.Acct.{Acct}
use Rattle.sdr_base.specs.declared.account.Acct.TheVariants as accts
use Rattle.sdr_base.specs.declared.account.Amounts.{Amounts}
use Rattle.sdr_base.specs.declared.kind.Space.{Space}
use Rattle.sdr_base.specs.declared.kind.Space.TheVariants as spaces
use Rattle.law_steps.proofs.AccountQueues.{account_kept, queues_from}
use Rattle.law_steps.proofs.QueueLemmas.{serving}
use Rattle.sdr_model.specs.Accounts.{account_of, tickets_of, with_tickets}
use Rattle.sdr_model.specs.Amounts.{amount, amounts_by, are_within, minus, no_amounts, plus}
use Rattle.sdr_model.specs.Charges.{left_in, occupancies, occupancy, rooms, thing_charge}
use Rattle.sdr_model.specs.Queue.{front_waiting, granted, served, with_served}
use Rattle.sdr_model.specs.Valid.{IsBarred, IsValidTicket, KeepQueues}
use Rattle.sdr_model.specs.World.{World}
use Rattle.sdr_model.specs.declared.accounts.Accounts.{Accounts}
use Rattle.sdr_model.specs.declared.accounts.Ticket.{Ticket}

-- amounts that are the same of each space
pub amounts_same : (a b : Amounts) → ((space : Space) → amount a space ≡ amount b space) → a ≡ b
amounts_same a b same =
    ap (λ n. record { file = n; bulk = a.bulk; heap = a.heap }) (same spaces.File)
    ∙ ap (λ n. record { file = b.file; bulk = n; heap = a.heap }) (same spaces.Bulk)
    ∙ ap (λ n. record { file = b.file; bulk = b.bulk; heap = n }) (same spaces.Heap)

-- amounts made of each space
pub amount_by : (f : Space → ℕ) (space : Space) → amount (amounts_by f) space ≡ f space
amount_by f spaces.File = refl
amount_by f spaces.Bulk = refl
amount_by f spaces.Heap = refl

pub left_in-cons : (space : Space) (t : Ticket) (ts : List Ticket)
    → left_in space (t ∷ ts) ≡ amount t.left space + left_in space ts
left_in-cons space t ts = sum_by-cons (λ (t : Ticket). amount t.left space) t ts

-- the first ticket of a queue that waits asks more than what these amounts leave
abbrev pub FrontAbove : Amounts → (Space → ℕ) → List Ticket → Type 0
FrontAbove m occupied ts = IfSome (front_waiting ts) (λ t. are_within t.asked (minus m (amounts_by occupied)) ≡ false)

front_behind : (m : Amounts) (f : Space → ℕ) (t : Ticket) (ts : List Ticket) → t.granted ≡ true → FrontAbove m f ts
    → FrontAbove m f (t ∷ ts)
front_behind m f t ts is h =
    subst (λ b. IfSome (cond (not b) (Some t) (front_waiting ts))
    (λ t. are_within t.asked (minus m (amounts_by f)) ≡ false)) (sym is) h

front_here : (m : Amounts) (f : Space → ℕ) (t : Ticket) (ts : List Ticket) → t.granted ≡ false
    → are_within t.asked (minus m (amounts_by f)) ≡ false → FrontAbove m f (t ∷ ts)
front_here m f t ts waits h =
    subst (λ b. IfSome (cond (not b) (Some t) (front_waiting ts))
    (λ t. are_within t.asked (minus m (amounts_by f)) ≡ false)) (sym waits) h

front_same : (m : Amounts) (f g : Space → ℕ) (ts : List Ticket) → ((space : Space) → f space ≡ g space)
    → FrontAbove m f ts → FrontAbove m g ts
front_same m f g ts same h =
    subst (λ (a : Amounts). IfSome (front_waiting ts) (λ t. are_within t.asked (minus m a) ≡ false))
    (amounts_same (amounts_by f) (amounts_by g)
    (λ space. amount_by f space ∙ same space ∙ sym (amount_by g space))) h

-- Serving stops at a ticket that asks for more than the room, where `base` is occupied beside what is left of the
-- queue.
pub served_front : (m o : Amounts) (base : Space → ℕ) (ts : List Ticket) → AllByRecursion IsValidTicket ts
    → ((space : Space) → amount o space ≡ base space + left_in space ts)
    → FrontAbove m (λ space. base space + left_in space (served m o ts)) (served m o ts)
served_front m o base [] valid sum = tt
served_front m o base (t ∷ ts) valid sum =
    serving (λ us. FrontAbove m (λ space. base space + left_in space us) us) m o t ts
    (λ is.
    let more : Space → ℕ = λ space. base space + amount t.left space in
    front_behind m (λ space. base space + left_in space (t ∷ served m o ts)) t (served m o ts) is
    (front_same m (λ space. more space + left_in space (served m o ts))
    (λ space. base space + left_in space (t ∷ served m o ts)) (served m o ts)
    (λ space. omega (arith, left_in-cons space t (served m o ts)))
    (served_front m o more ts valid.1 (λ space. omega (arith, sum space, left_in-cons space t ts)))))
    (λ waits fits.
    let more : Space → ℕ = λ space. base space + amount t.asked space in
    front_behind m (λ space. base space + left_in space (granted t ∷ served m (plus o t.asked) ts)) (granted t)
    (served m (plus o t.asked) ts) refl
    (front_same m (λ space. more space + left_in space (served m (plus o t.asked) ts))
    (λ space. base space + left_in space (granted t ∷ served m (plus o t.asked) ts)) (served m (plus o t.asked) ts)
    (λ space. omega (arith, left_in-cons space (granted t) (served m (plus o t.asked) ts)))
    (served_front m (plus o t.asked) more ts valid.1 (λ space.
    omega (
      arith,
      sum space,
      left_in-cons space t ts,
      amount_by (λ space. amount o space + amount t.asked space) space,
      none_left space t (valid.0.waiting waits),
    )))))
    (λ waits above. front_here m (λ space. base space + left_in space (t ∷ ts)) t ts waits
    (subst (λ (a : Amounts). are_within t.asked (minus m a) ≡ false)
    (amounts_same o _ (λ space. sum space ∙ sym
    (amount_by (λ space. base space + left_in space (t ∷ ts)) space))) above))
  where
    none_left : (space : Space) (t : Ticket) → t.left ≡ no_amounts → amount t.left space ≡ 0
    none_left space t none = ap (λ a. amount a space) none ∙ amount_by (λ space. 0) space

-- the queue of an account that has these tickets, and the other one
pub tickets_now : (a : Accounts) (acct : Acct) (ts : List Ticket) → tickets_of (with_tickets a acct ts) acct ≡ ts
tickets_now a accts.Inbound ts = refl
tickets_now a accts.Outbound ts = refl

pub maxima_now : (a : Accounts) (acct : Acct) (ts : List Ticket)
    → (account_of (with_tickets a acct ts) acct).maxima ≡ (account_of a acct).maxima
maxima_now a accts.Inbound ts = refl
maxima_now a accts.Outbound ts = refl

-- Where the queue has been served, the first ticket that waits asks for more than the room.
pub served_is_barred : (w : World) (acct : Acct) → KeepQueues w.accounts → IsBarred (with_served w acct) acct
served_is_barred w acct keep =
    let ts = tickets_of w.accounts acct in
    let m = (account_of w.accounts acct).maxima in
    let o = occupancies w acct in
    let base : Space → ℕ = λ space. sum_by (λ e. thing_charge w acct space e.0 e.1) (finite.entries w.things) in
    let front = served_front m o base ts (account_kept w.accounts acct (queues_from w.accounts keep)).queue.valid
    (λ space. amount_by (occupancy w acct) space) in
    subst (λ (us : List Ticket). IfSome (front_waiting us)
    (λ t. are_within t.asked (rooms (with_served w acct) acct) ≡ false))
    (sym (tickets_now w.accounts acct (served m o ts)))
    (subst (λ (a : Amounts). IfSome (front_waiting (served m o ts)) (λ t. are_within t.asked a ≡ false))
    (ap (λ a. minus a (amounts_by (λ space. base space + left_in space (served m o ts))))
    (sym (maxima_now w.accounts acct (served m o ts)))
    ∙ ap (λ a. minus (account_of (with_served w acct).accounts acct).maxima a)
    (amounts_same _ (occupancies (with_served w acct) acct) (λ space.
    amount_by (λ space. base space + left_in space (served m o ts)) space
    ∙ ap (λ us. base space + left_in space us) (sym (tickets_now w.accounts acct (served m o ts)))
    ∙ sym (amount_by (occupancy (with_served w acct) acct) space)))) front)

-- a queue that has lost a ticket has lost what is left of it
pub left_gone : (space : Space) (ts : List Ticket) (i : ℕ) (t : Ticket) → slice_get ts i ≡ Some t
    → left_in space (remove ts i) + amount t.left space ≡ left_in space ts
left_gone space [] i t is = let no : None ≡ Some t = is in cc
left_gone space (s ∷ ts) zero t is =
    omega (arith, left_in-cons space s ts, ap (λ o. amount (unwrap_or o s).left space) is)
left_gone space (s ∷ ts) (suc i) t is =
    omega (arith, left_gone space ts i t is, left_in-cons space s ts, left_in-cons space s (remove ts i))
