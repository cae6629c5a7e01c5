-- What an answered call charges each account, and what it releases.
use Rattle.std.specs.Prelude.{ℕ, ◌+◌, ◌-◌, ◌==◌, ◌&&◌, not, List, Bool, length, nat_lt, sum_by, Option, None, Some, if◌then◌else◌}
use Rattle.std.specs.FinMap as finite
use Rattle.std.specs.List.{list_any}
use Rattle.sdr_base.specs.declared.account.Acct.{Acct}
use Rattle.sdr_base.specs.declared.kind.Space.{Space}
use Rattle.sdr_base.specs.declared.kind.Space.TheVariants as spaces
use Rattle.sdr_model.specs.AccountSteps.{pending_of}
use Rattle.sdr_model.specs.Accounts.{is_same_account, pending_in}
use Rattle.sdr_model.specs.declared.accounts.Pending.{Pending}
use Rattle.sdr_model.specs.Amounts.{amount, in_space}
use Rattle.sdr_model.specs.BondSteps.{bond_charge, capsules_of}
use Rattle.sdr_model.specs.Charges.{bytes_charge, capsule_bytes, object_bytes, object_charge, use_charge}
use Rattle.sdr_model.specs.Charging.{grant_left}
use Rattle.sdr_model.specs.ObjectSteps.{without_header, without_trailer}
use Rattle.sdr_model.specs.PartSteps.{asked_extents, object_of, outside_part, stripped}
use Rattle.sdr_model.specs.World.{World, thing_at}
use Rattle.sdr_model.specs.Zco.{count_of, naming, object_at, space_of}
use Rattle.sdr_model.specs.declared.accounts.Accounts.{Accounts}
use Rattle.sdr_model.specs.declared.accounts.Ticket.{Ticket}
use Rattle.sdr_model.specs.declared.call.Call.{Call}
use Rattle.sdr_model.specs.declared.call.Call.TheVariants as calls
use Rattle.sdr_model.specs.declared.things.Thing.{Thing}
use Rattle.sdr_model.specs.declared.things.Thing.TheVariants as things
use Rattle.sdr_model.specs.declared.zco.Extent.{Extent}
use Rattle.sdr_model.specs.declared.zco.ZcoObject.{ZcoObject}

-- the number of the ticket under which a call charges; 0 is no ticket
abbrev pub ticket_of : Call → ℕ
ticket_of (calls.Create acct ticket) = ticket
ticket_of (calls.AppendExtent addr ticket named offset bytes) = ticket
ticket_of (calls.PrependHeader addr ticket text) = ticket
ticket_of (calls.AppendTrailer addr ticket text) = ticket
ticket_of (calls.Bond addr ticket) = ticket
ticket_of (calls.ClonePart addr ticket offset bytes) = ticket
ticket_of call = 0

-- the ticket of a number in the queue of an account, none where it is 0
abbrev pub ticket_under : Accounts → Acct → ℕ → Option Pending
ticket_under accounts acct number = if number == 0 then None else pending_in accounts acct number

-- amounts of one account: how much that is of each account
abbrev pub of_account : Acct → (Space → ℕ) → Acct → Space → ℕ
of_account one of acct space = if is_same_account acct one then of space else 0

-- amounts of the account of an object, if there is one
abbrev pub of_object : Option ZcoObject → (ZcoObject → Space → ℕ) → Acct → Space → ℕ
of_object None of acct space = 0
of_object (Some z) of acct space = of_account z.account (of z) acct space

-- what is left of a ticket, of its account, if there is one
abbrev pub of_ticket : Option Pending → Acct → Space → ℕ
of_ticket None acct space = 0
of_ticket (Some p) acct space = of_account p.acct (amount p.ticket.left) acct space

-- What one extent more of an account's objects charges that names the thing at an address: a source, or a raw object, which a
-- new source takes over with its whole length.
abbrev pub append_charge : World → Acct → ℕ → Option Thing → Space → ℕ
append_charge w acct addr (Some (things.Source source)) space = use_charge w acct addr source space
append_charge w acct addr (Some (things.Raw text)) space = bytes_charge spaces.Heap (length text) space
append_charge w acct addr thing space = 0

-- what a call charges an account of a space, whichever part of it a ticket covers
abbrev pub whole_charge : World → Call → Acct → Space → ℕ
whole_charge w (calls.Create one ticket) acct space = of_account one (in_space spaces.Heap object_bytes) acct space
whole_charge w (calls.AppendExtent addr ticket named offset bytes) acct space =
    of_object (object_at w addr) (λ z. append_charge w z.account named (thing_at w named)) acct space
whole_charge w (calls.PrependHeader addr ticket text) acct space =
    of_object (object_at w addr) (λ z. in_space spaces.Heap (capsule_bytes (length text))) acct space
whole_charge w (calls.AppendTrailer addr ticket text) acct space =
    of_object (object_at w addr) (λ z. in_space spaces.Heap (capsule_bytes (length text))) acct space
whole_charge w (calls.Bond addr ticket) acct space =
    of_object (object_at w addr) (λ z. bond_charge (capsules_of z)) acct space
whole_charge w (calls.ClonePart addr ticket offset bytes) acct space =
    of_object (object_at w addr)
    (λ z space. object_charge space (object_of z.account (asked_extents z offset bytes))) acct space
whole_charge w call acct space = 0

-- what an object charges of a space, where there is one
abbrev pub charge_in : Space → Option ZcoObject → ℕ
charge_in space None = 0
charge_in space (Some z) = object_charge space z

-- what an object charges less, where this is left of it
abbrev pub charge_less : ZcoObject → Option ZcoObject → Space → ℕ
charge_less z new space = object_charge space z - charge_in space new

-- whether these extents of an account's objects are all that name the source at an address, and one does
abbrev pub uses_up : World → Acct → List Extent → ℕ → Bool
uses_up w acct out addr = nat_lt 0 (naming addr out) && count_of w addr acct == naming addr out

-- What the thing at an address charges an account less of a space once these extents of the account are gone: its bytes, where
-- it is a source that no other extent of the account names.
abbrev pub source_less : World → Acct → List Extent → Space → ℕ → Thing → ℕ
source_less w acct out space addr (things.Source source) =
    if uses_up w acct out addr then in_space (space_of source.subject) source.length space else 0
source_less w acct out space addr thing = 0

-- what the sources charge an account less, all together
abbrev pub sources_less : World → Acct → List Extent → Space → ℕ
sources_less w acct out space = sum_by (λ e. source_less w acct out space e.0 e.1) (finite.entries w.things)

-- what of a space an account is charged less for its objects and for the sources that they name
abbrev pub object_release : World → Call → Acct → Space → ℕ
object_release w (calls.DiscardFirstHeader addr) acct space =
    of_object (object_at w addr) (λ z. charge_less z (Some (without_header z))) acct space
object_release w (calls.DiscardLastTrailer addr) acct space =
    of_object (object_at w addr) (λ z. charge_less z (Some (without_trailer z))) acct space
object_release w (calls.Strip addr) acct space =
    of_object (object_at w addr)
    (λ z space. charge_less z (Some (stripped z)) space + sources_less w z.account (outside_part z) space) acct space
object_release w (calls.Destroy addr) acct space =
    of_object (object_at w addr) (λ z space. charge_less z None space + sources_less w z.account z.extents space) acct space
object_release w call acct space = 0

-- what of a space goes with what is left of a ticket
abbrev pub ticket_release : World → Call → Acct → Space → ℕ
ticket_release w (calls.Shred number) acct space = of_ticket (pending_of w number) acct space
ticket_release w call acct space = 0

-- what a call charges an account of a space: what the grant of its ticket doesn't cover
abbrev pub charged : World → Call → Acct → Space → ℕ
charged w call acct space =
    whole_charge w call acct space - amount (grant_left (ticket_under w.accounts acct (ticket_of call))) space

-- what it releases
abbrev pub released : World → Call → Acct → Space → ℕ
released w call acct space = object_release w call acct space + ticket_release w call acct space

-- whether a ticket of this number is among these, and granted
abbrev pub was_granted : List Ticket → ℕ → Bool
was_granted tickets number = list_any (λ t. t.number == number && t.granted) tickets

-- what a queue has granted of a space since: what the tickets ask that are granted, and weren't before
abbrev pub grants : List Ticket → List Ticket → Space → ℕ
grants old new space = sum_by (λ t. if t.granted && not (was_granted old t.number) then amount t.asked space else 0) new
