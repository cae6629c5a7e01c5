-- The front of each queue keeps asking for more than the room.
use Rattle.std.proofs.Common.{◌≡◌, ℕ, zero, suc, ◌+◌, ◌-◌, ◌≤◌, not, List, [], ◌∷◌, Bool, true, false, true≢false, inl, inr, cond, Option, Some, None, set, refl, sym, ap, ◌∙◌, subst, arith}
use Rattle.std.specs.Prelude.{IfSome, slice_get, unwrap_or}
use Rattle.std.proofs.lemmas.Bool.Decides.{nat_tests}
use Rattle.sdr_base.specs.declared.account.Acct.{Acct}
use Rattle.sdr_base.specs.declared.account.Acct.TheVariants as accts
use Rattle.sdr_base.specs.declared.account.Amounts.{Amounts}
use Rattle.sdr_base.specs.declared.kind.Space.{Space}
use Rattle.sdr_base.specs.declared.kind.Space.TheVariants as spaces
use Rattle.sdr_base.specs.declared.moves.Move.{Move}
use Rattle.law_steps.proofs.AccountQueues.{keep_from, queues_from, stands_there}
use Rattle.law_steps.proofs.BarredLemmas.{amount_by, left_in-cons, maxima_now, served_is_barred, tickets_now}
use Rattle.law_steps.proofs.ChargeLaws.{Moves, row_moves_charge}
use Rattle.law_steps.proofs.ChargeMoves.{MovesCharge}
use Rattle.law_steps.proofs.ChargeLemmas.{things_charge}
use Rattle.law_steps.proofs.QueueLaws.{queued_keeps}
use Rattle.law_steps.proofs.ZcoOutcomes.{AccountChange, IsCharged, Queued, nothing}
use Rattle.law_steps.specs.Fresh.{AreFresh}
use Rattle.sdr_model.specs.Accounts.{account_of, is_same_account, pending_in, tickets_of, with_account, with_tickets}
use Rattle.sdr_model.specs.declared.accounts.Pending.{Pending}
use Rattle.sdr_model.specs.Amounts.{amount, amounts_by, are_within, minus}
use Rattle.sdr_model.specs.Blocks.{addresses_of, blocks_of}
use Rattle.sdr_model.specs.Charges.{left_in, occupancies, occupancy, rooms}
use Rattle.sdr_model.specs.Charging.{with_covered}
use Rattle.sdr_model.specs.Queue.{enqueued, front_waiting, with_served}
use Rattle.sdr_model.specs.Step.{Step}
use Rattle.sdr_model.specs.Steps.{Outcome}
use Rattle.sdr_model.specs.Valid.{FitTogether, IsBarred, IsValid, KeepQueues}
use Rattle.sdr_model.specs.World.{World}
use Rattle.sdr_model.specs.declared.accounts.Account.{Account}
use Rattle.sdr_model.specs.declared.accounts.Accounts.{Accounts}
use Rattle.sdr_model.specs.declared.accounts.Ticket.{Ticket}
use Rattle.sdr_model.specs.declared.answer.Reply.{Reply}
use Rattle.sdr_model.specs.declared.call.Call.{Call}

-- two accounts, by the test of both
pub same_acct : (b acct : Acct) → is_same_account b acct ≡ true → b ≡ acct
same_acct accts.Inbound accts.Inbound is = refl
same_acct accts.Outbound accts.Outbound is = refl
same_acct accts.Inbound accts.Outbound is = absurd (true≢false (sym is))
same_acct accts.Outbound accts.Inbound is = absurd (true≢false (sym is))

-- the other account stays
pub account_other : (a : Accounts) (acct b : Acct) (account : Account) → is_same_account b acct ≡ false
    → account_of (with_account a acct account) b ≡ account_of a b
account_other a accts.Inbound accts.Outbound account apart = refl
account_other a accts.Outbound accts.Inbound account apart = refl
account_other a accts.Inbound accts.Inbound account apart = absurd (true≢false apart)
account_other a accts.Outbound accts.Outbound account apart = absurd (true≢false apart)

-- what isn't within a room isn't within a lesser one
above_more : (x m a b : Amounts) → a.file ≤ b.file → a.bulk ≤ b.bulk → a.heap ≤ b.heap
    → are_within x (minus m a) ≡ false → are_within x (minus m b) ≡ false
above_more x m a b file bulk heap h = grind (arith, nat_tests)

-- A queue stays barred where its front and maxima are as before, and no less is occupied.
pub record NoMoreRoom (w v : World) (b : Acct) : Type 0 where
  pub front : front_waiting (tickets_of v.accounts b) ≡ front_waiting (tickets_of w.accounts b)
  pub maxima : (account_of v.accounts b).maxima ≡ (account_of w.accounts b).maxima
  pub occupied : (space : Space) → occupancy w b space ≤ occupancy v b space

still_barred : (w v : World) (b : Acct) → NoMoreRoom w v b → IsBarred w b → IsBarred v b
still_barred w v b n barred =
    subst (λ o. IfSome o (λ t. are_within t.asked (rooms v b) ≡ false)) (sym n.front)
    (by (front_waiting (tickets_of w.accounts b)) barred)
  where
    above : (t : Ticket) → are_within t.asked (rooms w b) ≡ false → are_within t.asked (rooms v b) ≡ false
    above t h =
        subst (λ m. are_within t.asked (minus m (occupancies v b)) ≡ false) (sym n.maxima)
        (above_more t.asked (account_of w.accounts b).maxima (occupancies w b) (occupancies v b)
        (n.occupied spaces.File) (n.occupied spaces.Bulk) (n.occupied spaces.Heap) h)

    by : (o : Option Ticket) → IfSome o (λ t. are_within t.asked (rooms w b) ≡ false)
        → IfSome o (λ t. are_within t.asked (rooms v b) ≡ false)
    by None h = tt
    by (Some t) h = above t h

-- a world of the same things and accounts
pub barred_same : (w v : World) (b : Acct) → v.things ≡ w.things → v.accounts ≡ w.accounts → IsBarred w b → IsBarred v b
barred_same w v b things accounts = still_barred w v b (record {
  front = ap (λ a. front_waiting (tickets_of a b)) accounts;
  maxima = ap (λ a. (account_of a b).maxima) accounts;
  occupied = λ space.
      omega (
        arith,
        ap (λ m. things_charge m b space) things,
        ap (λ a. left_in space (tickets_of a b)) accounts,
      );
})

-- a granted ticket in the place of another
front_set : (ts : List Ticket) (i : ℕ) (t u : Ticket) → slice_get ts i ≡ Some t → t.granted ≡ true → u.granted ≡ true
    → front_waiting (set ts i u) ≡ front_waiting ts
front_set [] i t u is old new = refl
front_set (s ∷ ts) zero t u is old new =
    ap (λ b. cond (not b) (Some u) (front_waiting ts)) new
    ∙ sym (ap (λ b. cond (not b) (Some s) (front_waiting ts))
    (ap (λ o. (unwrap_or o s).granted) is ∙ old))
front_set (s ∷ ts) (suc i) t u is old new =
    ap (λ o. cond (not s.granted) (Some s) o) (front_set ts i t u is old new)

pub left_set : (space : Space) (ts : List Ticket) (i : ℕ) (t u : Ticket) → slice_get ts i ≡ Some t
    → left_in space (set ts i u) + amount t.left space ≡ left_in space ts + amount u.left space
left_set space [] i t u is = let no : None ≡ Some t = is in cc
left_set space (s ∷ ts) zero t u is =
    omega (
      arith,
      left_in-cons space s ts,
      left_in-cons space u ts,
      ap (λ o. amount (unwrap_or o s).left space) is,
    )
left_set space (s ∷ ts) (suc i) t u is =
    omega (arith, left_set space ts i t u is, left_in-cons space s ts, left_in-cons space s (set ts i u))

-- a charge covers of what is left of a queue no more than what it charges
pub record Covers (w used : World) (acct : Acct) (adds : Space → ℕ) : Type 0 where
  pub front : front_waiting (tickets_of used.accounts acct) ≡ front_waiting (tickets_of w.accounts acct)
  pub maxima : (account_of used.accounts acct).maxima ≡ (account_of w.accounts acct).maxima
  pub left : (space : Space) → left_in space (tickets_of w.accounts acct)
      ≤ left_in space (tickets_of used.accounts acct) + adds space
  pub other : (b : Acct) → is_same_account b acct ≡ false → account_of used.accounts b ≡ account_of w.accounts b

pub covers : (w used : World) (acct : Acct) (number : ℕ) (adds : Space → ℕ) → IsCharged w acct number adds used
    → Covers w used acct adds
covers w used acct number adds c = subst (λ v. Covers w v acct adds) (sym c.used_is) (by c.pending c.there)
  where
    by : (p : Option Pending)
        → IfSome p (λ p. (pending_in w.accounts acct number ≡ Some p) × (p.ticket.granted ≡ true))
        → Covers w (with_covered w p (amounts_by adds)) acct adds
    by None h = record { front = refl; maxima = refl; left = λ space. omega arith; other = λ b apart. refl }
    by (Some p) h =
        let at = stands_there w.accounts acct number p h.0 in
        let u : Ticket = record p.ticket { left = minus p.ticket.left (amounts_by adds) } in
        let ts = tickets_of w.accounts acct in
        let us = set ts p.place u in
        subst (λ a. Covers w (record w { accounts = a }) acct adds)
        (ap (λ a. with_tickets w.accounts a (set (tickets_of w.accounts a) p.place u)) (sym at.acct_is))
        (record {
          front = ap front_waiting (tickets_now w.accounts acct us)
              ∙ front_set ts p.place p.ticket u at.ticket_is h.1 h.1;
          maxima = maxima_now w.accounts acct us;
          left = λ space.
              omega (
                arith,
                ap (left_in space) (tickets_now w.accounts acct us),
                left_set space ts p.place p.ticket u at.ticket_is,
                amount_by (λ space. amount p.ticket.left space - amount (amounts_by adds) space) space,
                amount_by adds space,
              );
          other = λ b apart. account_other w.accounts acct b
              (record (account_of w.accounts acct) { tickets = us }) apart;
        })

-- an account whose queue isn't changed
pub queued_other : (w : World) (acct : Acct) (a : Accounts) {lost : Space → ℕ} → Queued w acct a lost → (b : Acct)
    → is_same_account b acct ≡ false
    → account_of a b ≡ account_of w.accounts b
queued_other w acct a (Queued.same l is) b apart = ap (λ a. account_of a b) is
queued_other w acct a (Queued.maximum space value low l is) b apart =
    ap (λ a. account_of a b) is ∙ account_other w.accounts acct b _ apart
queued_other w acct a (Queued.entered t asked block coarse fine new above last l is) b apart =
    ap (λ a. account_of a b) is ∙ next_other
    (with_tickets w.accounts acct (enqueued (tickets_of w.accounts acct) t)) (t.number + 1) b
    ∙ account_other w.accounts acct b _ apart
  where
    next_other : (a : Accounts) (next : ℕ) (b : Acct) → account_of (record a { next = next }) b ≡ account_of a b
    next_other a next accts.Inbound = refl
    next_other a next accts.Outbound = refl
queued_other w acct a (Queued.gone place l is) b apart =
    ap (λ a. account_of a b) is ∙ account_other w.accounts acct b _ apart

module _ {w after : World} (keep : KeepQueues w.accounts) where
  -- the account of another
  other_room : (b acct : Acct) {adds frees : Space → ℕ} → is_same_account b acct ≡ false
      → account_of after.accounts b ≡ account_of w.accounts b
      → MovesCharge w.things after.things acct adds frees → NoMoreRoom w after b
  other_room b acct apart same charge = record {
    front = ap (λ (a : Account). front_waiting a.tickets) same;
    maxima = ap (λ (a : Account). a.maxima) same;
    occupied = λ space.
        omega (arith, charge.other b apart space, ap (λ (a : Account). left_in space a.tickets) same);
  }

  -- its own, where nothing is released
  own_room : (acct : Acct) {adds frees : Space → ℕ} → frees ≡ nothing
      → front_waiting (tickets_of after.accounts acct) ≡ front_waiting (tickets_of w.accounts acct)
      → (account_of after.accounts acct).maxima ≡ (account_of w.accounts acct).maxima
      → ((space : Space) → left_in space (tickets_of w.accounts acct)
      ≤ left_in space (tickets_of after.accounts acct) + adds space)
      → MovesCharge w.things after.things acct adds frees → NoMoreRoom w after acct
  own_room acct none front maxima left charge = record {
    front = front;
    maxima = maxima;
    occupied = λ space. omega (arith, charge.own space, left space, ap (λ f. f space) none);
  }

  front_of : (b acct : Acct) {number : ℕ} {adds frees lost : Space → ℕ}
      → AccountChange w after acct number adds frees lost
      → MovesCharge w.things after.things acct adds frees → IsBarred w b → (t : Bool) → is_same_account b acct ≡ t
      → IsBarred after b
  front_of b acct (AccountChange.stays a f l is) charge barred true here =
      still_barred w after b (subst (NoMoreRoom w after) (sym (same_acct b acct here))
      (own_room acct f (ap (λ a. front_waiting (tickets_of a acct)) is) (ap (λ a. (account_of a acct).maxima) is)
      (λ space. omega (arith, ap (λ a. left_in space (tickets_of a acct)) is)) charge)) barred
  front_of b acct (AccountChange.stays a f l is) charge barred false apart =
      still_barred w after b (other_room b acct apart (ap (λ a. account_of a b) is) charge) barred
  front_of b acct {number} {adds} (AccountChange.charged used c f l is) charge barred true here =
      let cover = covers w used acct number adds c in
      still_barred w after b (subst (NoMoreRoom w after) (sym (same_acct b acct here))
      (own_room acct f (ap (λ a. front_waiting (tickets_of a acct)) is ∙ cover.front)
      (ap (λ a. (account_of a acct).maxima) is ∙ cover.maxima)
      (λ space. omega (arith, cover.left space, ap (λ a. left_in space (tickets_of a acct)) is)) charge)) barred
  front_of b acct {number} {adds} (AccountChange.charged used c f l is) charge barred false apart =
      let cover = covers w used acct number adds c in
      still_barred w after b (other_room b acct apart (ap (λ a. account_of a b) is ∙ cover.other b apart) charge) barred
  front_of b acct (AccountChange.served v a queued things is) charge barred true here =
      subst (IsBarred after) (sym (same_acct b acct here))
      (barred_same (with_served v acct) after acct things is
      (served_is_barred v acct
      (keep_from v.accounts (queued_keeps w acct v.accounts queued (queues_from w.accounts keep)))))
  front_of b acct (AccountChange.served v a queued things is) charge barred false apart =
      still_barred w after b (other_room b acct apart
      (ap (λ a. account_of a b) is ∙ account_other v.accounts acct b _ apart
      ∙ queued_other w acct v.accounts queued b apart) charge) barred

-- what each row charges leaves both fronts barred
front_moves : {w : World} {call : Call} {o : Outcome} → KeepQueues w.accounts → (b : Acct) → Moves w call o
    → IsBarred w b
    → IsBarred o.after b
front_moves keep b n barred = front_of keep b n.acct n.accounts n.charge barred (is_same_account b n.acct) refl

-- A step leaves both fronts barred.
pub front_kept : (w w' : World) (call : Call) (moves : List Move) (reply : Reply) (acct : Acct) → IsValid w
    → FitTogether w → KeepQueues w.accounts → IsBarred w acct → AreFresh (addresses_of (blocks_of w)) moves
    → Step w call moves w' reply → IsBarred w' acct
front_kept w w' call moves reply acct valid fit keep barred fresh (inl row) =
    front_moves keep acct
    (row_moves_charge w call (record { moves = moves; after = w'; reply = reply }) valid fit fresh row) barred
front_kept w w' call moves reply acct valid fit keep barred fresh (inr stops) =
    subst (λ v. IsBarred v acct) (sym stops.same) barred
