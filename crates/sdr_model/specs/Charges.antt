-- What objects, and the sources that they name, charge accounts, and what is occupied.
use Rattle.std.specs.Prelude.{ℕ, ◌+◌, ◌*◌, ◌/◌, ◌==◌, List, length, sum_by, if◌then◌else◌}
use Rattle.std.specs.FinMap as finite
use Rattle.sdr_base.specs.declared.account.Acct.{Acct}
use Rattle.sdr_base.specs.declared.account.Amounts.{Amounts}
use Rattle.sdr_base.specs.declared.kind.Space.{Space}
use Rattle.sdr_base.specs.declared.kind.Space.TheVariants as spaces
use Rattle.sdr_model.specs.Accounts.{account_of, is_same_account, tickets_of}
use Rattle.sdr_model.specs.Amounts.{amount, amounts_by, in_space, minus}
use Rattle.sdr_model.specs.World.{World}
use Rattle.sdr_model.specs.Zco.{count_of, space_of}
use Rattle.sdr_model.specs.declared.accounts.Ticket.{Ticket}
use Rattle.sdr_model.specs.declared.things.Thing.{Thing}
use Rattle.sdr_model.specs.declared.things.Thing.TheVariants as things
use Rattle.sdr_model.specs.declared.zco.Capsule.{Capsule}
use Rattle.sdr_model.specs.declared.zco.ZcoObject.{ZcoObject}
use Rattle.sdr_model.specs.declared.zco.ZcoSource.{ZcoSource}

-- what an extent charges of heap space for itself
abbrev pub extent_bytes : ℕ
extent_bytes = 32

-- What an extent charges that is the first of an account's to name a source of so many bytes: these, in the space where they
-- are, and itself.
abbrev pub bytes_charge : Space → ℕ → Space → ℕ
bytes_charge of bytes space = in_space of bytes space + in_space spaces.Heap extent_bytes space

-- What the source at an address charges an account of a space: its whole length in the space where its bytes are, once,
-- where an extent of the account's objects names it.
abbrev pub source_charge : World → Acct → Space → ℕ → ZcoSource → ℕ
source_charge w acct space addr source =
    if count_of w addr acct == 0 then 0 else in_space (space_of source.subject) source.length space

-- What one extent more of an account's objects charges that names the source at an address: itself, and the source's bytes
-- where none of them names it yet.
abbrev pub use_charge : World → Acct → ℕ → ZcoSource → Space → ℕ
use_charge w acct addr source space =
    if count_of w addr acct == 0 then bytes_charge (space_of source.subject) source.length space
    else in_space spaces.Heap extent_bytes space

-- the bytes of the words that a header or trailer of so many bytes fills, with the link before it
abbrev pub capsule_bytes : ℕ → ℕ
capsule_bytes bytes = 8 * ((15 + bytes) / 8)

-- what a header or trailer charges of a space
abbrev pub capsule_charge : Space → Capsule → ℕ
capsule_charge space c = in_space spaces.Heap (capsule_bytes (length c.text)) space

-- what an object charges of heap space for itself
abbrev pub object_bytes : ℕ
object_bytes = 72

-- what an object charges of a space for itself, its extents, its headers and its trailers
abbrev pub object_charge : Space → ZcoObject → ℕ
object_charge space z =
    in_space spaces.Heap object_bytes space
    + in_space spaces.Heap (extent_bytes * length z.extents) space
    + sum_by (capsule_charge space) z.headers
    + sum_by (capsule_charge space) z.trailers

-- what the thing at an address charges an account of a space
abbrev pub thing_charge : World → Acct → Space → ℕ → Thing → ℕ
thing_charge w acct space addr (things.Source source) = source_charge w acct space addr source
thing_charge w acct space addr (things.Object z) = if is_same_account acct z.account then object_charge space z else 0
thing_charge w acct space addr thing = 0

-- what is left of a space of these tickets' grants
abbrev pub left_in : Space → List Ticket → ℕ
left_in space = sum_by (λ t. amount t.left space)

-- What is occupied of a space in an account: what its objects charge, what the sources charge that they name, and what is
-- left of its tickets.
abbrev pub occupancy : World → Acct → Space → ℕ
occupancy w acct space =
    sum_by (λ e. thing_charge w acct space e.0 e.1) (finite.entries w.things)
    + left_in space (tickets_of w.accounts acct)

-- what is occupied in an account
abbrev pub occupancies : World → Acct → Amounts
occupancies w acct = amounts_by (occupancy w acct)

-- the room of an account: what of its maxima isn't occupied
abbrev pub rooms : World → Acct → Amounts
rooms w acct = minus (account_of w.accounts acct).maxima (occupancies w acct)
