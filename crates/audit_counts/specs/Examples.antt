-- A small heap with a bundle in it, and what its blocks tell.
use Rattle.std.specs.Prelude.{ℕ, [], ◌∷◌, cond, ◌==◌, false, true}
use Rattle.sdr_base.specs.Entries.{Entries, at}
use Rattle.sdr_base.specs.Sources.{source_block}
use Rattle.sdr_base.specs.Tickets.{TicketRow, ticket_block}
use Rattle.sdr_base.specs.ZcoObjects.{object_entries}
use Rattle.sdr_base.specs.declared.account.Acct.TheVariants as accts
use Rattle.sdr_base.specs.declared.account.Amounts.{Amounts}
use Rattle.sdr_base.specs.declared.medium.Medium.TheVariants as media
use Rattle.audit_owners.specs.View.{View}

-- nothing of each space
abbrev pub nothing : Amounts
nothing = record { file = 0; bulk = 0; heap = 0 }

-- so much of heap space
abbrev pub of_heap : ℕ → Amounts
of_heap bytes = record { file = 0; bulk = 0; heap = bytes }

-- a granted ticket at an address, with a number, of which so much heap space is left
abbrev pub granted_row : ℕ → ℕ → ℕ → TicketRow
granted_row addr number left = record {
  addr = addr;
  number = number;
  coarse = 1;
  fine = 0;
  asked = of_heap 100;
  left = of_heap left;
  granted = true;
}

-- A source of 50 bytes of an item at 8, which two outbound extents name; an outbound object at 64, with them, a header of 3 bytes and a trailer
-- of 9; and an outbound ticket at 400, of whose grant 40 bytes of heap space are left.
abbrev pub bundle_entries : Entries
bundle_entries =
    (8, source_block 0 2 (record { medium = media.Bulk; flagged = false; subject = 5; length = 50; path = [] }))
    ∷ (400, ticket_block accts.Outbound 0 0 (granted_row 400 1 40))
    ∷ object_entries 64 (record {
      account = accts.Outbound;
      headers = record { addr = 144; text = 72 ∷ 49 ∷ 58 ∷ [] } ∷ [];
      extents =
          record { addr = 168; source = 8; offset = 0; length = 10 }
          ∷ record { addr = 208; source = 8; offset = 10; length = 20 } ∷ [];
      trailers = record { addr = 248; text = 1 ∷ 2 ∷ 3 ∷ 4 ∷ 5 ∷ 6 ∷ 7 ∷ 8 ∷ 9 ∷ [] } ∷ [];
      part_offset = 0;
      part_length = 30;
    })

-- the heap of these blocks, with the ticket in the outbound queue
abbrev pub bundle_heap : View
bundle_heap = record { blocks = at bundle_entries; roots = λ word. cond (word == 106) 400 0 }
