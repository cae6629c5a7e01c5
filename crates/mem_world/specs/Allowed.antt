-- What an account allows, and what is given back to it.
use Rattle.std.specs.Prelude.{◌≡◌, ◌==◌, ℕ, [], true, false, Option, None, Some}
use Rattle.std.specs.Option.{option_map}
use Rattle.sdr_base.specs.declared.account.Acct.{Acct}
use Rattle.sdr_base.specs.declared.account.Amounts.{Amounts}
use Rattle.sdr_base.specs.declared.refusal.Refusal.{Refusal}
use Rattle.sdr_model.specs.Accounts.{pending_in, tickets_of, with_ticket}
use Rattle.sdr_model.specs.declared.accounts.Pending.{Pending}
use Rattle.sdr_model.specs.Amounts.{amount, first_above, minus}
use Rattle.sdr_model.specs.Charges.{rooms}
use Rattle.sdr_model.specs.Charging.{Charges, grant_left, no_space}
use Rattle.sdr_model.specs.Queue.{barrier}
use Rattle.sdr_model.specs.World.{World}
use Rattle.sdr_model.specs.declared.accounts.Accounts.{Accounts}
use Rattle.sdr_model.specs.declared.answer.Reply.TheVariants as replies
use Rattle.mem_parts.specs.Refusals.{refusal_by}

-- the ticket that a charge names is there, and granted; the number 0 names none
abbrev pub IsGrantOf : Accounts → Acct → ℕ → Option Pending → Type 0
IsGrantOf accounts acct number None = number ≡ 0
IsGrantOf accounts acct number (Some p) =
    ((number == 0) ≡ false) × (pending_in accounts acct number ≡ Some p) × (p.ticket.granted ≡ true)

-- why an account refuses amounts that no grant covers, where it does
abbrev pub refusal_of : World → Acct → Amounts → Option Refusal
refusal_of w acct uncovered =
    refusal_by (barrier uncovered (tickets_of w.accounts acct))
    (option_map (no_space w acct uncovered) (first_above uncovered (rooms w acct)))

-- an account may be charged these amounts, of which the grant of a ticket covers what it can
pub record MayCharge (w : World) (acct : Acct) (number : ℕ) (amounts : Amounts) (p : Option Pending) : Type 0 where
  pub ticket : IsGrantOf w.accounts acct number p
  pub allowed : refusal_of w acct (minus amounts (grant_left p)) ≡ None

-- an account refuses to be charged these amounts
abbrev pub RefusesCharge : World → Acct → ℕ → Amounts → Refusal → Type 0
RefusesCharge w acct number amounts refusal =
    Charges w (record { moves = []; after = w; reply = replies.Refused refusal }) acct number (amount amounts) (λ used. ⊥)

-- the world with a ticket as it was before a charge
abbrev pub with_back : World → Option Pending → World
with_back w None = w
with_back w (Some p) = record w { accounts = with_ticket w.accounts p p.ticket }
