-- A small world, on which the laws are tried.
use Rattle.std.specs.Prelude.{ℕ, List, [], ◌∷◌, insert, true, false}
use Rattle.std.specs.FinMap as finite
use Rattle.sdr_base.specs.declared.account.Acct.TheVariants as accts
use Rattle.sdr_base.specs.declared.kind.Kind.TheVariants as kinds
use Rattle.sdr_model.specs.Accounts.{unused_account}
use Rattle.sdr_model.specs.Hashes.{Hash}
use Rattle.sdr_model.specs.Steps.{with_thing}
use Rattle.sdr_model.specs.World.{World}
use Rattle.sdr_model.specs.declared.accounts.Accounts.{Accounts}
use Rattle.sdr_model.specs.declared.accounts.Ticket.{Ticket}
use Rattle.sdr_model.specs.declared.things.UsedBlock.{UsedBlock}
use Rattle.sdr_model.specs.declared.things.SdrList.{SdrList}
use Rattle.sdr_model.specs.declared.things.Thing.{Thing}
use Rattle.sdr_model.specs.declared.things.Thing.TheVariants as things
use Rattle.sdr_model.specs.declared.zco.Extent.{Extent}
use Rattle.sdr_model.specs.declared.zco.Subject.TheVariants as subjects
use Rattle.sdr_model.specs.declared.zco.ZcoObject.{ZcoObject}
use Rattle.sdr_model.specs.declared.zco.ZcoSource.{ZcoSource}

-- a list of two elements
abbrev pub example_list : SdrList
example_list = record {
  user = 7;
  elements = record { block = 16; datum = 5 } ∷ record { block = 24; datum = 6 } ∷ [];
}

-- a hash of one entry
abbrev pub example_hash : Hash
example_hash = record { key_length = 1; buckets = 2; entries = record { block = 40; key = 65 ∷ []; value = 3 } ∷ [] }

-- the raw object at 56, of three bytes
abbrev pub example_raw : List ℕ
example_raw = 1 ∷ 2 ∷ 3 ∷ []

-- a source that has taken it over
abbrev pub example_source : ZcoSource
example_source = record { subject = subjects.Heap 56; length = 3; flagged = false }

-- the last two of its bytes
abbrev pub example_extent : Extent
example_extent = record { block = 88; source = 64; offset = 1; length = 2 }

-- an object of these, behind a header of one byte
abbrev pub example_object : ZcoObject
example_object = record {
  account = accts.Inbound;
  headers = record { block = 80; text = 72 ∷ [] } ∷ [];
  extents = example_extent ∷ [];
  trailers = [];
  part = record { offset = 0; length = 2 };
}

-- the list at 8, the hash at 32, the raw object at 56, its source at 64, and the object at 72
abbrev pub example_things : List (ℕ × Thing)
example_things =
    (8, things.List example_list)
    ∷ (32, things.Hash example_hash)
    ∷ (56, things.Raw example_raw)
    ∷ (64, things.Source example_source)
    ∷ (72, things.Object example_object)
    ∷ []

-- a ticket for ten bytes of heap space, which it has
abbrev pub example_ticket : Ticket
example_ticket = record {
  block = 96;
  number = 1;
  coarse = 2;
  fine = 3;
  asked = record { file = 0; bulk = 0; heap = 10 };
  left = record { file = 0; bulk = 0; heap = 10 };
  granted = true;
}

-- the accounts, where the ticket stands in the outbound queue
abbrev pub example_accounts : Accounts
example_accounts = record {
  inbound = unused_account 32768;
  outbound = record (unused_account 32768) { tickets = example_ticket ∷ [] };
  next = 2;
}

-- these things and accounts, and a name for the list
abbrev pub example : World
example = record {
  things = finite.from_sorted example_things;
  names = record { block = 48; name = 103 ∷ []; kind = 1; object = 8 } ∷ [];
  accounts = example_accounts;
  marks = [];
  shown = [];
  taken = 12;
}

-- its blocks
abbrev pub example_blocks : List UsedBlock
example_blocks =
    record { addr = 8; kind = kinds.List; bytes = 32 }
    ∷ record { addr = 16; kind = kinds.Element; bytes = 32 }
    ∷ record { addr = 24; kind = kinds.Element; bytes = 32 }
    ∷ record { addr = 32; kind = kinds.Hash; bytes = 40 }
    ∷ record { addr = 40; kind = kinds.HashEntry; bytes = 17 }
    ∷ record { addr = 56; kind = kinds.Raw; bytes = 11 }
    ∷ record { addr = 64; kind = kinds.Source; bytes = 48 }
    ∷ record { addr = 72; kind = kinds.Object; bytes = 72 }
    ∷ record { addr = 80; kind = kinds.Capsule; bytes = 9 }
    ∷ record { addr = 88; kind = kinds.Extent; bytes = 32 }
    ∷ record { addr = 48; kind = kinds.Name; bytes = 56 }
    ∷ record { addr = 96; kind = kinds.Ticket; bytes = 96 }
    ∷ []

-- the same with one more element, at 104, in the list
abbrev pub example_longer : World
example_longer =
    record (with_thing example 8
    (things.List (record example_list {
      elements =
          insert example_list.elements 2 (record { block = 104; datum = 9 });
    }))) {
      marks = 104 ∷ [];
      shown = [];
    }
