-- What an account allows, and what a charge leaves.
use Rattle.std.proofs.Common.{true≢false, ◌≡◌, ◌==◌, ℕ, List, [], Bool, true, false, Option, None, Some, MatchBool, MatchOption, IfSome, ap, sym, ◌∙◌, subst, refl, set, slice_get, arith}
use Rattle.std.proofs.lemmas.List.{set-set, set-get_or}
use Rattle.std.proofs.lemmas.Option.{get_or_from_slice_get}
use Rattle.std.specs.Option.{option_map}
use Rattle.sdr_base.specs.declared.account.Acct.{Acct}
use Rattle.sdr_base.specs.declared.account.Acct.TheVariants as accts
use Rattle.sdr_base.specs.declared.account.Amounts.{Amounts}
use Rattle.sdr_base.specs.declared.kind.Space.{Space}
use Rattle.sdr_base.specs.declared.refusal.Refusal.{Refusal}
use Rattle.sdr_base.specs.declared.refusal.Refusal.TheVariants as refusals
use Rattle.sdr_model.specs.Accounts.{IsInPlace, account_of, pending_in, tickets_of, with_ticket, with_tickets}
use Rattle.sdr_model.specs.declared.accounts.Pending.{Pending}
use Rattle.mem_world.specs.Allowed.{IsGrantOf, MayCharge, RefusesCharge, refusal_of, with_back}
use Rattle.mem_world.specs.Calling.{IsBound}
use Rattle.mem_parts.specs.Capped.{capped_by}
use Rattle.mem_parts.specs.Refusals.{refusal_by, refusal_in, space_refusal}
use Rattle.mem_parts.proofs.CappedLemmas.{capped-small}
use Rattle.sdr_model.proofs.AmountLemmas.{amount-by}
use Rattle.sdr_model.specs.Amounts.{amount, amounts_by, first_above, minus}
use Rattle.sdr_model.specs.Charges.{occupancies, occupancy, rooms}
use Rattle.sdr_model.specs.Charging.{Charges, OnTicket, grant_left, no_space, with_covered}
use Rattle.sdr_model.specs.Queue.{barrier}
use Rattle.sdr_model.specs.Steps.{Outcome, Refuses}
use Rattle.sdr_model.specs.World.{World}
use Rattle.sdr_model.specs.declared.accounts.Accounts.{Accounts}
use Rattle.sdr_model.specs.declared.accounts.Ticket.{Ticket}
use Rattle.sdr_model.specs.declared.answer.Reply.TheVariants as replies
use Rattle.sdr_model.proofs.Cases.{on_false}

pub tickets_of-with_tickets : (accounts : Accounts) (acct : Acct) (ts : List Ticket)
    → tickets_of (with_tickets accounts acct ts) acct ≡ ts
tickets_of-with_tickets accounts accts.Inbound ts = refl
tickets_of-with_tickets accounts accts.Outbound ts = refl

tickets_again : (accounts : Accounts) (acct : Acct) (ts us : List Ticket)
    → with_tickets (with_tickets accounts acct ts) acct us ≡ with_tickets accounts acct us
tickets_again accounts accts.Inbound ts us = refl
tickets_again accounts accts.Outbound ts us = refl

tickets_same : (accounts : Accounts) (acct : Acct) → with_tickets accounts acct (tickets_of accounts acct) ≡ accounts
tickets_same accounts accts.Inbound = refl
tickets_same accounts accts.Outbound = refl

-- a ticket that is put where it stood before
pub set_back : (ts : List Ticket) (place : ℕ) (old between : Ticket) → slice_get ts place ≡ Some old
    → set (set ts place between) place old ≡ ts
set_back ts place old between is =
    set-set ts place between old ∙ ap (set ts place) (sym (get_or_from_slice_get ts place old old is)) ∙ set-get_or ts place old

-- why an account refuses, said of the world, of which a word holds what is occupied
module _ (w : World) (acct : Acct) (uncovered : Amounts) where
  room_wanting : (f : Option Space) → option_map (space_refusal (account_of w.accounts acct).maxima (occupancies w acct) uncovered) f
      ≡ option_map (no_space w acct uncovered) f
  room_wanting None = refl
  room_wanting (Some space) =
      ap (λ n. Some (refusals.NoSpace space n (amount uncovered space) (amount (account_of w.accounts acct).maxima space))) (amount-by (occupancy w acct) space)

  pub refusal-world : (occupied : Amounts) → occupied ≡ capped_by (occupancy w acct) → IsBound w
      → refusal_in (account_of w.accounts acct) occupied uncovered ≡ refusal_of w acct uncovered
  refusal-world occupied is bound =
      ap (λ o. refusal_in (account_of w.accounts acct) o uncovered)
      (is ∙ capped-small (occupancy w acct) (λ space. omega (arith, bound acct space)))
      ∙ ap (refusal_by (barrier uncovered (tickets_of w.accounts acct))) (room_wanting (first_above uncovered (rooms w acct)))

-- what a charge used is given back
pub with_back-used : (w : World) (p : Option Pending) (amounts : Amounts) → IfSome p (IsInPlace w.accounts)
    → with_back (with_covered w p amounts) p ≡ w
with_back-used w None amounts stands = refl
with_back-used w (Some p) amounts stands =
    let used = record p.ticket { left = minus p.ticket.left amounts } in
    let ts = tickets_of w.accounts p.acct in
    ap (λ a. record w { accounts = a })
    (ap (λ us. with_tickets (with_ticket w.accounts p used) p.acct (set us p.place p.ticket)) (tickets_of-with_tickets w.accounts p.acct (set ts p.place used))
    ∙ tickets_again w.accounts p.acct (set ts p.place used) (set (set ts p.place used) p.place p.ticket)
    ∙ ap (with_tickets w.accounts p.acct) (set_back ts p.place p.ticket used stands.is)
    ∙ tickets_same w.accounts p.acct)

on_true : (P Q : Type 0) (b : Bool) → b ≡ true → P → MatchBool b P Q
on_true P Q true e p = p
on_true P Q false e p = absurd (true≢false (sym e))

on_some : {T : Type 0} (P : Type 0) (Q : T → Type 0) (o : Option T) (x : T) → o ≡ Some x → Q x → MatchOption o P Q
on_some P Q o x is q = subst (λ o. MatchOption o P Q) (sym is) q

-- a charge goes on with the ticket that it names
pub on_grant : (w : World) (o : Outcome) (acct : Acct) (number : ℕ) (p : Option Pending) (goes : Option Pending
    → Type 0)
    → IsGrantOf w.accounts acct number p → goes p → OnTicket w o acct number goes
on_grant w o acct number None goes granted g = subst (λ n. OnTicket w o acct n goes) (sym granted) g
on_grant w o acct number (Some p) goes granted g =
    on_false _ _ (number == 0) granted.0 (on_some _ _ (pending_in w.accounts acct number) p granted.1 (on_true _ _ p.ticket.granted granted.2 g))

not_refused : (w : World) (o : Outcome) (b : Option Ticket) (f : Option Space) (g : Space → Refusal) (P : Type 0)
    → refusal_by b (option_map g f) ≡ None → P
    → MatchOption b (MatchOption f P (λ space. Refuses w o (g space))) (λ t. Refuses w o (refusals.Queue t.number))
not_refused w o None None g P is p = p
not_refused w o None (Some space) g P is p = cc
not_refused w o (Some t) f g P is p = cc

-- a charge that the account allows goes on
pub charge_allowed : (w : World) (o : Outcome) (acct : Acct) (number : ℕ) (charge : Space
    → ℕ) (amounts : Amounts) (p : Option Pending)
    (goes : World → Type 0) → amounts ≡ amounts_by charge → MayCharge w acct number amounts p → goes (with_covered w p amounts)
    → Charges w o acct number charge goes
charge_allowed w o acct number charge amounts p goes is may g =
    on_grant w o acct number p
    (λ p. MatchOption (barrier (minus (amounts_by charge) (grant_left p)) (tickets_of w.accounts acct))
    (MatchOption (first_above (minus (amounts_by charge) (grant_left p)) (rooms w acct)) (goes (with_covered w p (amounts_by charge)))
    (λ space. Refuses w o (no_space w acct (minus (amounts_by charge) (grant_left p)) space))) (λ t. Refuses w o (refusals.Queue t.number)))
    may.ticket
    (not_refused w o (barrier (minus (amounts_by charge) (grant_left p)) (tickets_of w.accounts acct))
    (first_above (minus (amounts_by charge) (grant_left p)) (rooms w acct))
    (no_space w acct (minus (amounts_by charge) (grant_left p))) (goes (with_covered w p (amounts_by charge)))
    (subst (λ a. refusal_of w acct (minus a (grant_left p)) ≡ None) is may.allowed)
    (subst (λ a. goes (with_covered w p a)) is g))

refused_by : (w : World) (refusal : Refusal) (b : Option Ticket) (f : Option Space) (g : Space → Refusal) (P : Type 0)
    → refusal_by b (option_map g f) ≡ Some refusal
    → let o : Outcome = record { moves = []; after = w; reply = replies.Refused refusal } in
    MatchOption b (MatchOption f P (λ space. Refuses w o (g space))) (λ t. Refuses w o (refusals.Queue t.number))
refused_by w refusal None None g P is = cc
refused_by w refusal None (Some space) g P is = (refl, refl, let e : refusal ≡ g space = cc in ap (λ r. replies.Refused r) e)
refused_by w refusal (Some t) f g P is = (refl, refl, let e : refusal ≡ refusals.Queue t.number = cc in ap (λ r. replies.Refused r) e)

-- an account refuses what its front or its room doesn't allow
pub charge_refused_by : (w : World) (acct : Acct) (number : ℕ) (amounts : Amounts) (p : Option Pending) (refusal : Refusal)
    → IsGrantOf w.accounts acct number p → refusal_of w acct (minus amounts (grant_left p)) ≡ Some refusal
    → RefusesCharge w acct number amounts refusal
charge_refused_by w acct number amounts p refusal granted is =
    let o : Outcome = record { moves = []; after = w; reply = replies.Refused refusal } in
    on_grant w o acct number p
    (λ p. MatchOption (barrier (minus amounts (grant_left p)) (tickets_of w.accounts acct))
    (MatchOption (first_above (minus amounts (grant_left p)) (rooms w acct)) ⊥
    (λ space. Refuses w o (no_space w acct (minus amounts (grant_left p)) space))) (λ t. Refuses w o (refusals.Queue t.number)))
    granted
    (refused_by w refusal (barrier (minus amounts (grant_left p)) (tickets_of w.accounts acct))
    (first_above (minus amounts (grant_left p)) (rooms w acct)) (no_space w acct (minus amounts (grant_left p))) ⊥ is)

map_bool : {P Q P' Q' : Type 0} (b : Bool) → (P → P') → (Q → Q') → MatchBool b P Q → MatchBool b P' Q'
map_bool true f g h = f h
map_bool false f g h = g h

map_option : {T P P' : Type 0} {Q Q' : T → Type 0} (o : Option T) → (P → P') → ((x : T) → Q x → Q' x)
    → MatchOption o P Q → MatchOption o P' Q'
map_option None f g h = f h
map_option (Some x) f g h = g x h

-- a call that is refused as the account refuses its charge
pub charge_refused : (w : World) (o : Outcome) (acct : Acct) (number : ℕ) (charge : Space
    → ℕ) (amounts : Amounts) (refusal : Refusal)
    (goes : World → Type 0) → amounts ≡ amounts_by charge → RefusesCharge w acct number amounts refusal → Refuses w o refusal
    → Charges w o acct number charge goes
charge_refused w o acct number charge amounts refusal goes is refuses h =
    map_bool (number == 0) (covered None)
    (map_option (pending_in w.accounts acct number) (same _) (λ p. map_bool p.ticket.granted (covered (Some p)) (same _)))
    (subst (λ a. RefusesCharge w acct number a refusal) is refuses)
  where
    first : Outcome
    first = record { moves = []; after = w; reply = replies.Refused refusal }

    same : (r : Refusal) → Refuses w first r → Refuses w o r
    same r s = (h.0, h.1, h.2 ∙ s.2)

    covered : (p : Option Pending) → let uncovered = minus (amounts_by charge) (grant_left p) in
        MatchOption (barrier uncovered (tickets_of w.accounts acct))
        (MatchOption (first_above uncovered (rooms w acct)) ⊥ (λ space. Refuses w first (no_space w acct uncovered space))) (λ t. Refuses w first (refusals.Queue t.number))
        → MatchOption (barrier uncovered (tickets_of w.accounts acct))
        (MatchOption (first_above uncovered (rooms w acct)) (goes (with_covered w p (amounts_by charge))) (λ space. Refuses w o (no_space w acct uncovered space)))
        (λ t. Refuses w o (refusals.Queue t.number))
    covered p =
        let uncovered = minus (amounts_by charge) (grant_left p) in
        map_option (barrier uncovered (tickets_of w.accounts acct))
        (map_option (first_above uncovered (rooms w acct)) (λ x. absurd x) (λ space. same (no_space w acct uncovered space)))
        (λ t. same (refusals.Queue t.number))
