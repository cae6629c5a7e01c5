-- Why an account refuses what is asked of it.
use Rattle.std.specs.Prelude.{Option, None, Some}
use Rattle.std.specs.Option.{option_map}
use Rattle.sdr_base.specs.declared.account.Amounts.{Amounts}
use Rattle.sdr_base.specs.declared.kind.Space.{Space}
use Rattle.sdr_base.specs.declared.refusal.Refusal.{Refusal}
use Rattle.sdr_base.specs.declared.refusal.Refusal.TheVariants as refusals
use Rattle.sdr_model.specs.Amounts.{amount, first_above, minus}
use Rattle.sdr_model.specs.Queue.{barrier}
use Rattle.sdr_model.specs.declared.accounts.Account.{Account}
use Rattle.sdr_model.specs.declared.accounts.Ticket.{Ticket}

-- why a ticket before a charge, or else what there is no room for, refuses it
abbrev pub refusal_by : Option Ticket → Option Refusal → Option Refusal
refusal_by (Some t) other = Some (refusals.Queue t.number)
refusal_by None other = other

-- the refusal of amounts above the room, where so much of these maxima is occupied
abbrev pub space_refusal : Amounts → Amounts → Amounts → Space → Refusal
space_refusal maxima occupied uncovered space =
    refusals.NoSpace space (amount occupied space) (amount uncovered space) (amount maxima space)

-- why an account of which so much is occupied refuses amounts that no grant covers, where it does
abbrev pub refusal_in : Account → Amounts → Amounts → Option Refusal
refusal_in account occupied uncovered =
    refusal_by (barrier uncovered account.tickets)
    (option_map (space_refusal account.maxima occupied uncovered) (first_above uncovered (minus account.maxima occupied)))
