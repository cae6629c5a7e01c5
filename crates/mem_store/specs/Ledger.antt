-- The accounts of a world in the making.
use Rattle.sdr_model.specs.contracts.accounts.Accounts as accounts
use Rattle.sdr_model.specs.declared.accounts.Accounts.{Accounts}
use Rattle.std.specs.Coded.{Coded, code_by, coded×, coded_bool}
use Rattle.std.specs.Prelude.{Bool, refl}

-- the accounts at the begin of the open transaction, the accounts now, and whether those at the begin were copied, so that
-- these may be changed
pub record Ledger : Type 0 where
  pub begun : Accounts
  pub now : Accounts
  pub saved : Bool

-- a ledger as its parts
abbrev pub coded_ledger : Coded Ledger
coded_ledger = code_by (Accounts × (Accounts × Bool)) (coded× accounts.the_row.coded (coded× accounts.the_row.coded coded_bool))
    (λ l. (l.begun, (l.now, l.saved))) (λ p. record { begun = p.0; now = p.1.0; saved = p.1.1 }) (λ _. refl)
