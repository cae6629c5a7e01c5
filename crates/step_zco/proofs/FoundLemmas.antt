-- The ticket of a number, as the heap's queues have it and as the world does.
use Rattle.std.proofs.Common.{◌≡◌, ◌∙◌, ◌<◌, ◌+◌, ◌==◌, ℕ, suc, List, [], ◌∷◌, ◌++◌, Bool, true, false, cond, not, nat_lt, find, length, remove, refl, sym, ap, subst, arith, if◌then◌else◌}
use Rattle.std.proofs.Math.Numerals.{one-add}
use Rattle.std.proofs.lemmas.Bool.{le-ltb, lt-ltb}
use Rattle.std.proofs.lemmas.List.Folds.{find-append}
use Rattle.std.specs.List.{position_or_len}
use Rattle.std.specs.Option.{option_map, option_map_or, option_or}
use Rattle.std.specs.Prelude.{Option, None, Some, slice_get, unwrap_or}
use Rattle.sdr_base.specs.declared.account.Acct.{Acct}
use Rattle.sdr_base.specs.declared.account.Acct.TheVariants as accts
use Rattle.sdr_model.specs.AccountSteps.{is_granted, pending_of}
use Rattle.sdr_model.specs.Accounts.{no_ticket, pending_in, ticket_at, tickets_of}
use Rattle.sdr_model.specs.World.{World}
use Rattle.sdr_model.specs.declared.accounts.Accounts.{Accounts}
use Rattle.sdr_model.specs.declared.accounts.Pending.{Pending}
use Rattle.sdr_model.specs.declared.accounts.Ticket.{Ticket}
use Rattle.zco_acct.specs.Walks.{has_number}
use Rattle.zco_space.specs.Requests.{number_granted}
use Rattle.zco_space.specs.Shreds.{located, without_number}

-- the first ticket of a number has a place, at which it may be taken out
pub record IsFoundAt (number : ℕ) (ts : List Ticket) (t : Ticket) : Type 0 where
  pub place : ℕ
  pub within : place < length ts
  pub at : position_or_len (has_number number) ts ≡ place
  pub there : slice_get ts place ≡ Some t
  pub gone : without_number number ts ≡ remove ts place

pub found_at : (number : ℕ) (ts : List Ticket) (t : Ticket) → find (has_number number) ts ≡ Some t →
    IsFoundAt number ts t
unfolding without_number
found_at number [] t is = absurd cc
found_at number (x ∷ xs) t is = by (x.number == number) refl is (found_at number xs t)
  where
    by : (b : Bool) → (x.number == number) ≡ b → cond b (Some x) (find (has_number number) xs) ≡ Some t →
        (find (has_number number) xs ≡ Some t → IsFoundAt number xs t) → IsFoundAt number (x ∷ xs) t
    by true e is rest = record {
      place = 0;
      within = omega arith;
      at = ap (λ (b : Bool). cond (not b) (1 + position_or_len (has_number number) xs) 0) e;
      there = is;
      gone = ap (λ (b : Bool). if b then xs else x ∷ without_number number xs) e;
    }
    by false e is rest =
        let r = rest is in
        record {
          place = suc r.place;
          within = let w = r.within in omega (arith, w);
          at = ap (λ (b : Bool). cond (not b) (1 + position_or_len (has_number number) xs) 0) e
              ∙ one-add (position_or_len (has_number number) xs) ∙ ap suc r.at;
          there = r.there;
          gone = ap (λ (b : Bool). if b then xs else x ∷ without_number number xs) e
              ∙ ap (λ (us : List Ticket). x ∷ us) r.gone;
        }

-- so it is pending in the account
abbrev pub pending_at : Acct → ℕ → Ticket → Pending
pending_at acct place t = record { acct = acct; place = place; ticket = t }

pub found_pending : (a : Accounts) (acct : Acct) (number : ℕ) (t : Ticket) →
    (f : IsFoundAt number (tickets_of a acct) t) →
    pending_in a acct number ≡ Some (pending_at acct f.place t)
found_pending a acct number t f =
    let ts = tickets_of a acct in
    ap (λ (i : ℕ). option_map (λ place. pending_at acct place (ticket_at ts place)) (cond (nat_lt i (length ts))
    (Some i) None)) f.at
    ∙ ap (λ (b : Bool). option_map (λ place. pending_at acct place (ticket_at ts place)) (cond b (Some f.place) None))
    (lt-ltb f.place (length ts) f.within)
    ∙ ap (λ (o : Option Ticket). Some (pending_at acct f.place (unwrap_or o no_ticket))) f.there

-- where none is found, none is pending
none_at : (number : ℕ) (ts : List Ticket) → find (has_number number) ts ≡ None →
    position_or_len (has_number number) ts ≡ length ts
none_at number [] none = refl
none_at number (x ∷ xs) none = by (x.number == number) refl none (none_at number xs)
  where
    by : (b : Bool) → (x.number == number) ≡ b → cond b (Some x) (find (has_number number) xs) ≡ None →
        (find (has_number number) xs ≡ None → position_or_len (has_number number) xs ≡ length xs) →
        position_or_len (has_number number) (x ∷ xs) ≡ length (x ∷ xs)
    by true e none rest = absurd cc
    by false e none rest =
        ap (λ (b : Bool). cond (not b) (1 + position_or_len (has_number number) xs) 0) e
        ∙ one-add (position_or_len (has_number number) xs) ∙ ap suc (rest none)

not_below : (n : ℕ) → nat_lt n n ≡ false
not_below n = le-ltb n n (omega arith)

pub none_pending : (a : Accounts) (acct : Acct) (number : ℕ) → find (has_number number) (tickets_of a acct) ≡ None →
    pending_in a acct number ≡ None
none_pending a acct number none =
    let ts = tickets_of a acct in
    ap (λ (i : ℕ). option_map (λ place. pending_at acct place (ticket_at ts place)) (cond (nat_lt i (length ts))
    (Some i) None))
    (none_at number ts none)
    ∙ ap (λ (b : Bool). option_map (λ place. pending_at acct place (ticket_at ts place)) (cond b (Some
    (length ts)) None))
    (not_below (length ts))

-- whether it is granted
pub granted_is : (a : Accounts) (acct : Acct) (number : ℕ) →
    number_granted (tickets_of a acct) number ≡ is_granted (pending_in a acct number)
granted_is a acct number = by (find (has_number number) (tickets_of a acct)) refl
  where
    by : (o : Option Ticket) → find (has_number number) (tickets_of a acct) ≡ o →
        option_map_or (λ (t : Ticket). t.granted) (find (has_number number) (tickets_of a acct)) false
        ≡ is_granted (pending_in a acct number)
    by None e =
        ap (λ (o : Option Ticket). option_map_or (λ (t : Ticket). t.granted) o false) e
        ∙ sym (ap is_granted (none_pending a acct number e))
    by (Some t) e =
        ap (λ (o : Option Ticket). option_map_or (λ (t : Ticket). t.granted) o false) e
        ∙ sym (ap is_granted (found_pending a acct number t (found_at number (tickets_of a acct) t e)))

-- the ticket of a number in a world, and its place in the queue of its account
pub record IsPending (w : World) (number : ℕ) (acct : Acct) (t : Ticket) : Type 0 where
  pub found : IsFoundAt number (tickets_of w.accounts acct) t
  pub is : pending_of w number ≡ Some (pending_at acct found.place t)

-- neither account has one of the number
pub record HasNone (w : World) (number : ℕ) : Type 0 where
  pub none : pending_of w number ≡ None

pub pending_inbound : (w : World) (number : ℕ) (t : Ticket) →
    find (has_number number) w.accounts.inbound.tickets ≡ Some t →
    IsPending w number accts.Inbound t
pending_inbound w number t is =
    let f = found_at number w.accounts.inbound.tickets t is in
    record {
      found = f;
      is = ap (λ (o : Option Pending). option_or o (pending_in w.accounts accts.Outbound number))
          (found_pending w.accounts accts.Inbound number t f);
    }

pub pending_outbound : (w : World) (number : ℕ) (t : Ticket) →
    find (has_number number) w.accounts.inbound.tickets ≡ None →
    find (has_number number) w.accounts.outbound.tickets ≡ Some t → IsPending w number accts.Outbound t
pending_outbound w number t none is =
    let f = found_at number w.accounts.outbound.tickets t is in
    record {
      found = f;
      is = ap (λ (o : Option Pending). option_or o (pending_in w.accounts accts.Outbound number))
          (none_pending w.accounts accts.Inbound number none)
          ∙ found_pending w.accounts accts.Outbound number t f;
    }

pub pending_nowhere : (w : World) (number : ℕ) → find (has_number number) w.accounts.inbound.tickets ≡ None →
    find (has_number number) w.accounts.outbound.tickets ≡ None → HasNone w number
pending_nowhere w number none nor = record {
  none = ap (λ (o : Option Pending). option_or o (pending_in w.accounts accts.Outbound number))
      (none_pending w.accounts accts.Inbound number none)
      ∙ none_pending w.accounts accts.Outbound number nor;
}

-- the ticket that stands in an account's queue is pending there
pub located_pending : (w : World) (number : ℕ) (acct : Acct) (t : Ticket) →
    located number w.accounts.inbound.tickets w.accounts.outbound.tickets ≡ Some (acct, t) → IsPending w number acct t
located_pending w number acct t is =
    by (find (has_number number) w.accounts.inbound.tickets) (find
    (has_number number) w.accounts.outbound.tickets) refl refl is
  where
    by : (o p : Option Ticket) → find (has_number number) w.accounts.inbound.tickets ≡ o →
        find (has_number number) w.accounts.outbound.tickets ≡ p →
        option_or {T = Acct × Ticket} (option_map (λ (t : Ticket). (accts.Inbound, t)) o) (option_map (λ (t : Ticket).
        (accts.Outbound, t)) p)
        ≡ Some (acct, t) → IsPending w number acct t
    by (Some u) p e f same =
        let here : (accts.Inbound, u) ≡ (acct, t) = cc in
        subst (λ (q : Acct × Ticket). IsPending w number q.0 q.1) here (pending_inbound w number u e)
    by None (Some u) e f same =
        let here : (accts.Outbound, u) ≡ (acct, t) = cc in
        subst (λ (q : Acct × Ticket). IsPending w number q.0 q.1) here (pending_outbound w number u e f)
    by None None e f same = absurd cc

pub unlocated : (w : World) (number : ℕ) →
    located number w.accounts.inbound.tickets w.accounts.outbound.tickets ≡ None → HasNone w number
unlocated w number is =
    by (find (has_number number) w.accounts.inbound.tickets) (find
    (has_number number) w.accounts.outbound.tickets) refl refl is
  where
    by : (o p : Option Ticket) → find (has_number number) w.accounts.inbound.tickets ≡ o →
        find (has_number number) w.accounts.outbound.tickets ≡ p →
        option_or {T = Acct × Ticket} (option_map (λ (t : Ticket). (accts.Inbound, t)) o) (option_map (λ (t : Ticket).
        (accts.Outbound, t)) p)
        ≡ None → HasNone w number
    by (Some u) p e f same = absurd cc
    by None (Some u) e f same = absurd cc
    by None None e f same = pending_nowhere w number e f

-- what holds of a ticket that is in one of the queues, and where none is
pub pending_or : {R : Type 0} (w : World) (number : ℕ) →
    ((acct : Acct) (t : Ticket) → IsPending w number acct t →
    find (has_number number) (w.accounts.inbound.tickets ++ w.accounts.outbound.tickets) ≡ Some t → R) →
    (HasNone w number → find (has_number number) (w.accounts.inbound.tickets ++ w.accounts.outbound.tickets) ≡ None →
    R) → R
pending_or {R} w number there nowhere =
    by (find (has_number number) w.accounts.inbound.tickets) (find
    (has_number number) w.accounts.outbound.tickets) refl refl
  where
    joined : (o p : Option Ticket) → find (has_number number) w.accounts.inbound.tickets ≡ o →
        find (has_number number) w.accounts.outbound.tickets ≡ p →
        find (has_number number) (w.accounts.inbound.tickets ++ w.accounts.outbound.tickets) ≡ option_or o p
    joined o p e f =
        find-append (has_number number) w.accounts.inbound.tickets w.accounts.outbound.tickets
        ∙ (λ i. option_or (e i) (f i))

    by : (o p : Option Ticket) → find (has_number number) w.accounts.inbound.tickets ≡ o →
        find (has_number number) w.accounts.outbound.tickets ≡ p → R
    by (Some t) p e f = there accts.Inbound t (pending_inbound w number t e) (joined (Some t) p e f)
    by None (Some t) e f = there accts.Outbound t (pending_outbound w number t e f) (joined None (Some t) e f)
    by None None e f = nowhere (pending_nowhere w number e f) (joined None None e f)
