-- A small world with things of most kinds, and what its heap and that of the bundle are made of.
use Rattle.std.specs.Prelude.{ℕ, List, [], ◌∷◌, false, true}
use Rattle.std.specs.FinMap as finite
use Rattle.sdr_base.specs.declared.account.Acct.TheVariants as accts
use Rattle.sdr_model.specs.Accounts.{fresh_accounts}
use Rattle.sdr_model.specs.World.{World, fresh_world}
use Rattle.sdr_model.specs.declared.accounts.Ticket.{Ticket}
use Rattle.sdr_model.specs.declared.things.Thing.{Thing}
use Rattle.sdr_model.specs.declared.things.Thing.TheVariants as things
use Rattle.sdr_model.specs.declared.zco.Subject.TheVariants as subjects
use Rattle.sdr_audit.specs.declared.census.Census.{Census}

-- what the heap of the bundle is made of: a string, a list and its element, a name, a source, an object, its header and its extent
abbrev pub bundle_census : Census
bundle_census = record { size = 65536; low = 2416; high = 65536; used = 8; small = 0; large = 0 }

-- a ticket that was granted, of whose heap space less is left than was asked
abbrev pub granted_ticket : Ticket
granted_ticket = record {
  block = 2056;
  number = 1;
  coarse = 1;
  fine = 0;
  asked = record { file = 0; bulk = 5; heap = 450 };
  left = record { file = 0; bulk = 5; heap = 400 };
  granted = true;
}

-- a ticket that waits
abbrev pub waiting_ticket : Ticket
waiting_ticket = record {
  block = 2160;
  number = 4;
  coarse = 0;
  fine = 255;
  asked = record { file = 7; bulk = 0; heap = 600 };
  left = record { file = 0; bulk = 0; heap = 0 };
  granted = false;
}

-- Three raw bytes that a flagged source names, of which an inbound object has two extents; a table, a hash, and an item of bulk
-- storage that nothing names.
abbrev pub mixed_things : List (ℕ × Thing)
mixed_things =
    (2264, things.Raw (1 ∷ 2 ∷ 3 ∷ []))
    ∷ (2288, things.Source (record { subject = subjects.Obj 2264; length = 3; flagged = true }))
    ∷ (2336, things.Table (record { user = 9; rows = 2; size = 1; bytes = 0 ∷ 255 ∷ [] }))
    ∷ (2400, things.Hash (record { key_length = 1; buckets = 4; entries = record { block = 2448; key = 65 ∷ []; value = 8 } ∷ [] }))
    ∷ (2480, things.Source (record { subject = subjects.Bulk 77; length = 12; flagged = false }))
    ∷ (
      2528,
      things.Object (record {
        account = accts.Inbound;
        headers = [];
        extents =
            record { block = 2608; source = 2288; offset = 0; length = 3 }
            ∷ record { block = 2648; source = 2288; offset = 1; length = 2 }
            ∷ [];
        trailers = record { block = 2688; text = 84 ∷ [] } ∷ [];
        part = record { offset = 1; length = 4 };
      }),
    )
    ∷ []

-- these things, under a name with a space, where both accounts have a ticket
abbrev pub mixed_world : World
mixed_world = record (fresh_world 32768) {
  things = finite.from_sorted mixed_things;
  names = record { block = 2712; name = 97 ∷ 32 ∷ []; kind = 0; object = 2400 } ∷ [];
  accounts = record (fresh_accounts 32768) {
    inbound = record { tickets = granted_ticket ∷ []; maxima = record { file = 1; bulk = 2; heap = 3 } };
    outbound = record { tickets = waiting_ticket ∷ []; maxima = record { file = 4; bulk = 5; heap = 6 } };
    next = 5;
  };
}

-- what a heap that keeps it may be made of
abbrev pub mixed_census : Census
mixed_census = record { size = 65536; low = 2768; high = 63488; used = 13; small = 3; large = 1 }
