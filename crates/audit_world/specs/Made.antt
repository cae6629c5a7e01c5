-- What lets a world be made of a heap: numbers that fit their types.
use Rattle.std.specs.Prelude.{◌<◌, ◌^◌, ℕ, All, Option, None, Some}
use Rattle.std.specs.FinMap as finite
use Rattle.sdr_base.specs.declared.account.Acct.{Acct}
use Rattle.audit_owners.specs.Keyed.{catalogue}
use Rattle.audit_owners.specs.Members.{members}
use Rattle.sdr_model.specs.Things.{Things}
use Rattle.sdr_model.specs.declared.things.Thing.{Thing}
use Rattle.audit_owners.specs.View.{View}
use Rattle.audit_owners.specs.declared.owner.Owner.TheVariants as owners
use Rattle.audit_counts.specs.Queues.{ticket_in}
use Rattle.audit_world.specs.Told.{name_told}

-- the priorities of the ticket at an address are bytes
pub record IsShort (heap : View) (addr : ℕ) : Type 0 where
  pub coarse : (ticket_in heap addr).coarse < 2 ^ 8
  pub fine : (ticket_in heap addr).fine < 2 ^ 8

-- those of all tickets of an account are
abbrev pub AreShort : View → ℕ → Acct → Type 0
AreShort heap words account = All (IsShort heap) (members heap words (owners.Queue account))

-- the type of the entry of the catalogue at an address fits its number
pub record IsTyped (heap : View) (addr : ℕ) : Type 0 where
  pub kind : (name_told heap addr).kind < 2 ^ 32

-- those of all entries do
abbrev pub AreTyped : View → ℕ → Type 0
AreTyped heap words = All (IsTyped heap) (catalogue heap words)

-- things, and the one at an address, if one stands there
abbrev pub with_told : Option Thing → ℕ → Things → Things
with_told None addr things = things
with_told (Some thing) addr things = finite.insert things addr thing
