-- The shapes of calls that charge an account.
use Rattle.std.proofs.Common.{◌==◌, ℕ, Option, Some, None, MatchOption, refl}
use Rattle.sdr_base.specs.declared.account.Acct.{Acct}
use Rattle.sdr_base.specs.declared.account.Amounts.{Amounts}
use Rattle.sdr_base.specs.declared.kind.Space.{Space}
use Rattle.sdr_base.specs.declared.refusal.Refusal.TheVariants as refusals
use Rattle.law_steps.proofs.AccountLemmas.{alike-used}
use Rattle.law_steps.proofs.Alike.{Alike, itself}
use Rattle.law_steps.proofs.Shapes.{Shape, on_none, on_passed, on_some}
use Rattle.sdr_model.proofs.Cases.{in_bool}
use Rattle.sdr_model.specs.Accounts.{pending_in, tickets_of}
use Rattle.sdr_model.specs.Amounts.{amounts_by, first_above, minus}
use Rattle.sdr_model.specs.Charges.{rooms}
use Rattle.sdr_model.specs.Charging.{Charges, OnTicket, grant_left, no_space, with_covered}
use Rattle.sdr_model.specs.Queue.{barrier}
use Rattle.sdr_model.specs.Steps.{Outcome, Refuses}
use Rattle.sdr_model.specs.World.{World}
use Rattle.sdr_model.specs.declared.accounts.Pending.{Pending}
use Rattle.sdr_model.specs.declared.call.Call.{Call}

-- a call goes on where what a ticket's grant doesn't cover is allowed
abbrev Covered : World → Outcome → Acct → (Space → ℕ) → (World → Type 0) → Option Pending → Type 0
Covered w o acct charge goes p =
    let uncovered = minus (amounts_by charge) (grant_left p) in
    MatchOption (barrier uncovered (tickets_of w.accounts acct))
    (MatchOption (first_above uncovered (rooms w acct))
    (goes (with_covered w p (amounts_by charge)))
    (λ space. Refuses w o (no_space w acct uncovered space)))
    (λ t. Refuses w o (refusals.Queue t.number))

module _ {w : World} {call : Call} {o : Outcome} where
  -- a call with a ticket, or with none, goes on where its grant can be used
  on_ticket : (acct : Acct) (number : ℕ) (goes : Option Pending → Type 0) → OnTicket w o acct number goes
      → ((p : Option Pending) → ((amounts : Amounts) → Alike w (with_covered w p amounts)) → goes p → Shape w call o)
      → Shape w call o
  on_ticket acct number goes h go =
      in_bool (number == 0) h (go None (λ amounts. itself)) (λ h.
      on_some (pending_in w.accounts acct number) (refusals.BadTicket number) h refl (λ p is h.
      on_passed p.ticket.granted (refusals.NotAwarded number) h refl
      (λ granted g. go (Some p) (λ amounts. alike-used w acct number p amounts is) g)))

  -- a call that charges goes on in a world that is alike
  pub on_charges : (acct : Acct) (number : ℕ) (charge : Space → ℕ) (goes : World → Type 0)
      → Charges w o acct number charge goes → ((used : World) → Alike w used → goes used → Shape w call o)
      → Shape w call o
  on_charges acct number charge goes h go =
      on_ticket acct number (Covered w o acct charge goes) h (λ p like h.
      let uncovered = minus (amounts_by charge) (grant_left p) in
      on_none (barrier uncovered (tickets_of w.accounts acct)) _ h (λ t. refl) (λ free h.
      on_none (first_above uncovered (rooms w acct)) _ h (λ space. refl)
      (λ fits g. go (with_covered w p (amounts_by charge)) (like (amounts_by charge)) g)))
