-- How the maximum of a space is set, and why it isn't.
use Rattle.std.specs.Prelude.{◌≡◌, ◌≤◌, ◌<◌, ℕ}
use Rattle.sdr_base.specs.Objects.{Heap, OnlyFault, OnlyUnmoved, with_root}
use Rattle.sdr_base.specs.declared.account.Acct.{Acct}
use Rattle.sdr_base.specs.declared.kind.Space.{Space}
use Rattle.sdr_base.specs.declared.refusal.Refusal.TheVariants as refusals
use Rattle.sdr_base.specs.declared.stop.Stop.{Stop}
use Rattle.sdr_base.specs.declared.stop.Stop.TheVariants.{Refused}
use Rattle.sdr_model.specs.Accounts.{most_amount}
use Rattle.zco_acct.specs.Words.{maximum_word}

-- the maximum of a space is this one, which isn't above the most, and all else stays
pub record SetsMaximum (acct : Acct) (space : Space) (value : ℕ) (old new : Heap) : Type 0 where
  pub small : value ≤ most_amount
  pub set : new ≡ with_root old (maximum_word acct space) value

-- why it isn't set: it is above the most, and all is as before; or there is no log room, and no move was made; or a fault
abbrev pub MaximumStops : Space → ℕ → Heap → Heap → Stop → Type 0
MaximumStops space value old new (Refused (refusals.TooLarge of asked most)) =
    (of ≡ space) × (asked ≡ value) × (most ≡ most_amount) × (most_amount < value) × (new ≡ old)
MaximumStops space value old new (Refused refusal) = (value ≤ most_amount) × OnlyUnmoved old new (Refused refusal)
MaximumStops space value old new stop = OnlyFault stop
