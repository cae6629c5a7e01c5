-- A small world with sources, an object and tickets, on which the laws are tried.
use Rattle.std.specs.Prelude.{ℕ, List, [], ◌∷◌, Some, true, false}
use Rattle.std.specs.FinMap as finite
use Rattle.sdr_base.specs.declared.account.Acct.TheVariants as accts
use Rattle.sdr_base.specs.declared.account.Amounts.{Amounts}
use Rattle.sdr_base.specs.declared.kind.Space.TheVariants as spaces
use Rattle.sdr_model.specs.Accounts.{unused_account}
use Rattle.sdr_model.specs.Amounts.{amounts_by, in_space, no_amounts}
use Rattle.sdr_model.specs.Charges.{extent_bytes}
use Rattle.sdr_model.specs.Charging.{with_covered}
use Rattle.sdr_model.specs.ObjectSteps.{with_extent, with_object}
use Rattle.sdr_model.specs.World.{World}
use Rattle.sdr_model.specs.declared.accounts.Ticket.{Ticket}
use Rattle.sdr_model.specs.declared.things.Thing.{Thing}
use Rattle.sdr_model.specs.declared.things.Thing.TheVariants as things
use Rattle.sdr_model.specs.declared.zco.Extent.{Extent}
use Rattle.sdr_model.specs.declared.zco.Subject.TheVariants as subjects
use Rattle.sdr_model.specs.declared.zco.ZcoObject.{ZcoObject}
use Rattle.sdr_model.specs.declared.zco.ZcoSource.{ZcoSource}

-- ten bytes of a file
abbrev pub file_source : ZcoSource
file_source = record { subject = subjects.File (97 ∷ []); length = 10; flagged = false }

-- a raw object of three bytes, which a source has taken over
abbrev pub raw_source : ZcoSource
raw_source = record { subject = subjects.Heap 16; length = 3; flagged = false }

-- an object of a header, five bytes of the file and the raw object
abbrev pub small_object : ZcoObject
small_object = record {
  account = accts.Inbound;
  headers = record { block = 40; text = 72 ∷ [] } ∷ [];
  extents =
      record { block = 48; source = 8; offset = 2; length = 5 }
      ∷ record { block = 56; source = 24; offset = 0; length = 3 }
      ∷ [];
  trailers = [];
  part = record { offset = 1; length = 6 };
}

-- the file's source at 8, the raw object at 16, its source at 24, and the object at 32
abbrev pub small_things : List (ℕ × Thing)
small_things =
    (8, things.Source file_source)
    ∷ (16, things.Raw (1 ∷ 2 ∷ 3 ∷ []))
    ∷ (24, things.Source raw_source)
    ∷ (32, things.Object small_object)
    ∷ []

-- what the first ticket asks, all of which is left of its grant
abbrev pub first_asked : Amounts
first_asked = record { file = 10; bulk = 0; heap = 50 }

-- a ticket that is granted, and one that waits, as it asks for all of heap space
abbrev pub first_ticket : Ticket
first_ticket = record {
  block = 64;
  number = 1;
  coarse = 0;
  fine = 0;
  asked = first_asked;
  left = first_asked;
  granted = true;
}

-- the ticket behind it, which waits
abbrev pub second_ticket : Ticket
second_ticket = record {
  block = 72;
  number = 2;
  coarse = 3;
  fine = 1;
  asked = record { file = 0; bulk = 0; heap = 32768 };
  left = no_amounts;
  granted = false;
}

-- these things, and both tickets in the inbound queue
abbrev pub small_world : World
small_world = record {
  things = finite.from_sorted small_things;
  names = [];
  accounts = record {
    inbound = record (unused_account 32768) { tickets = first_ticket ∷ second_ticket ∷ [] };
    outbound = unused_account 32768;
    next = 3;
  };
  marks = [];
  shown = [];
  taken = 9;
}

-- a new extent of four bytes of the file, at 80
abbrev pub new_extent : Extent
new_extent = record { block = 80; source = 8; offset = 0; length = 4 }

-- the world in which the object has gained it, under the first ticket: it charges itself alone, as the object names the file
-- already
abbrev pub grown_world : World
grown_world =
    record (with_object
    (with_covered small_world (Some (record { acct = accts.Inbound; place = 0; ticket = first_ticket }))
    (amounts_by (in_space spaces.Heap extent_bytes))) 32 (with_extent small_object new_extent)) {
      marks = 80 ∷ [];
      shown = [];
    }
