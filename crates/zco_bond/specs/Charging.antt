-- What an object charges more once its headers and trailers are extents.
use Rattle.std.specs.Prelude.{◌≡◌, ◌-◌, ◌++◌, ℕ, List, length, sum_by, None, Some}
use Rattle.sdr_base.specs.Blocks.{Blocks}
use Rattle.sdr_base.specs.Objects.{Heap, IsUnmoved, OnlyFault}
use Rattle.sdr_base.specs.ZcoObjects.{CapsuleRow, ObjectRow, capsule_addr, capsule_block}
use Rattle.sdr_base.specs.declared.account.Amounts.{Amounts}
use Rattle.sdr_base.specs.declared.kind.Space.TheVariants as spaces
use Rattle.sdr_base.specs.declared.refusal.Refusal.{Refusal}
use Rattle.sdr_base.specs.declared.refusal.Refusal.TheVariants as refusals
use Rattle.sdr_base.specs.declared.stop.Stop.{Stop}
use Rattle.sdr_base.specs.declared.stop.Stop.TheVariants.{Refused}
use Rattle.sdr_model.specs.Charges.{bytes_charge, capsule_bytes}
use Rattle.sdr_model.specs.declared.accounts.Ticket.{Ticket}
use Rattle.zco_acct.specs.Charges.{ChargesAccount}
use Rattle.zco_obj.specs.Amounts.{heap_amounts}
use Rattle.zco_obj.specs.Charging.{refusal_in}
use Rattle.zco_obj.specs.Kept.{CapsuleFits, KeepsWithQueue}
use Rattle.zco_obj.specs.Walks.{TellsSum}

-- the headers and trailers of an object, in order
abbrev pub ends_of : ObjectRow → List CapsuleRow
ends_of row = row.headers ++ row.trailers

-- what a header or trailer charges more of heap space as an extent
abbrev pub bond_rise : CapsuleRow → ℕ
bond_rise c = bytes_charge spaces.Heap (length c.text) spaces.Heap - capsule_bytes (length c.text)

-- what an object charges more once it is bonded
abbrev pub bond_amounts : ObjectRow → Amounts
bond_amounts row = heap_amounts (sum_by bond_rise (ends_of row))

-- what whichever headers or trailers stand there charge more as extents
abbrev pub TellsRise : Blocks → ℕ → ℕ → Type 0
TellsRise = TellsSum CapsuleFits capsule_addr capsule_block bond_rise

-- the account of whichever object is kept is charged for what it charges more
pub record ChargesBond (object number : ℕ) (old new : Heap) : Type 0 where
  pub charges : (row : ObjectRow) (tickets : List Ticket) → KeepsWithQueue old object row tickets →
      ChargesAccount row.account number (bond_amounts row) old new

-- the account of whichever object is kept allows the charge
pub record BondAllowed (object number : ℕ) (heap : Heap) : Type 0 where
  pub allows : (row : ObjectRow) (tickets : List Ticket) → KeepsWithQueue heap object row tickets →
      refusal_in heap row.account number (bond_amounts row) tickets ≡ None

-- the account of whichever object is kept has this cause to refuse it
pub record BondRefused (object number : ℕ) (heap : Heap) (refusal : Refusal) : Type 0 where
  pub refuses : (row : ObjectRow) (tickets : List Ticket) → KeepsWithQueue heap object row tickets →
      refusal_in heap row.account number (bond_amounts row) tickets ≡ Some refusal

-- why it isn't charged: it refuses, and all is as before; or there is no log room, and no move was made; or a fault
abbrev pub BondChargeStops : ℕ → ℕ → Heap → Heap → Stop → Type 0
BondChargeStops object number old new (Refused (refusals.LogFull lines room)) = BondAllowed object number old × IsUnmoved old new
BondChargeStops object number old new (Refused refusal) = BondRefused object number old refusal × (new ≡ old)
BondChargeStops object number old new stop = OnlyFault stop
