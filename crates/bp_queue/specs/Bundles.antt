-- What a daemon keeps beside its queues, from their making on: bundles, the sources that they name, tickets, and room for moves.
use Rattle.std.specs.Prelude.{◌≡◌, ◌+◌, ◌*◌, ◌≤◌, ◌==◌, ℕ, List, [], ◌∷◌, ◌++◌, length, map, flat_map, sum_by, All, if◌then◌else◌}
use Rattle.sdr_base.specs.Entries.{BlocksAre, Entries}
use Rattle.sdr_base.specs.Linked.{first_of, last_of}
use Rattle.sdr_base.specs.Objects.{Heap}
use Rattle.sdr_base.specs.ZcoObjects.{ExtentRow, ObjectRow, object_entries}
use Rattle.sdr_base.specs.declared.account.Acct.{Acct}
use Rattle.sdr_base.specs.declared.account.Acct.TheVariants as accts
use Rattle.sdr_model.specs.Accounts.{is_same_account}
use Rattle.sdr_model.specs.declared.accounts.Ticket.{Ticket}
use Rattle.zco_acct.specs.Kept.{TicketFits, block_of, queue_entries}
use Rattle.zco_acct.specs.Words.{first_word, last_word}
use Rattle.zco_obj.specs.Gone.{NamedSource, sources_entries}
use Rattle.zco_obj.specs.Kept.{ObjectFits}
use Rattle.zco_obj.specs.Uses.{AreNamed}
use Rattle.bp_queue.specs.Kept.{KeepsQueues, Row}
use Rattle.bp_queue.specs.declared.queues.Queues.{Queues}

-- the control words of an account tell where these tickets begin and end, and the tickets' numbers fit
pub record TellsTickets (heap : Heap) (acct : Acct) (tickets : List Ticket) : Type 0 where
  pub first : heap.roots (first_word acct) ≡ first_of block_of 0 tickets
  pub last : heap.roots (last_word acct) ≡ last_of block_of 0 tickets
  pub fits : All TicketFits tickets

-- no block is in use, and no ticket waits
pub record HasNothing (heap : Heap) : Type 0 where
  pub no_block : BlocksAre heap.blocks []
  pub no_ticket : (acct : Acct) → TellsTickets heap acct []

-- the extents of an object, where it is of this account
abbrev pub extents_for : Acct → ObjectRow → List ExtentRow
extents_for acct row = if is_same_account row.account acct then row.extents else []

-- So many moves are made at most where an object goes with its item: of the item and its two elements, of the object, of each header
-- and trailer, and of each extent with its source and that source's raw object.
abbrev pub moves_with : ObjectRow → ℕ
moves_with row = 4 + length row.headers + 3 * length row.extents + length row.trailers

-- Bundles: objects by their addresses.
module _ (object_at : ℕ → ObjectRow) where
  -- the blocks of these
  abbrev pub bundle_entries : List ℕ → Entries
  bundle_entries = flat_map (λ addr. object_entries addr (object_at addr))

  -- the extents of those of an account
  abbrev pub bundle_extents : Acct → List ℕ → List ExtentRow
  bundle_extents acct = flat_map (λ addr. extents_for acct (object_at addr))

  -- so many moves are made at most where they all go
  abbrev pub bundle_moves : List ℕ → ℕ
  bundle_moves = sum_by (λ addr. moves_with (object_at addr))

-- the objects that don't wait, and those of these rows
abbrev pub with_loose : List Row → List ℕ → List ℕ
with_loose rows loose = loose ++ map (λ r. r.waiting.object) rows

-- the blocks of the tickets of both accounts
abbrev pub tickets_entries : (Acct → List Ticket) → Entries
tickets_entries tickets =
    queue_entries accts.Inbound (tickets accts.Inbound) ++ queue_entries accts.Outbound (tickets accts.Outbound)

-- What stands in a daemon's heap: who waits and the next sequence number, the objects by their addresses, the sources that their
-- extents name, the tickets of each account, and other blocks.
pub record Bundles : Type 0 where
  pub next : ℕ
  pub rows : List Row
  pub object_at : ℕ → ObjectRow
  pub sources : List NamedSource
  pub tickets : Acct → List Ticket
  pub rest : Entries

-- These bundles are kept, and others that don't wait, at the addresses `loose`. Each source counts all extents that name it. So many
-- moves may be made beside those of an expiry of all.
pub record KeepsBundles (heap : Heap) (q : Queues) (loose : List ℕ) (room : ℕ) (b : Bundles) : Type 0 where
  pub queues : KeepsQueues heap.blocks q b.next b.rows
      (bundle_entries b.object_at (with_loose b.rows loose) ++ (sources_entries b.sources ++ (tickets_entries b.tickets ++ b.rest)))
  pub fits : All (λ addr. ObjectFits (b.object_at addr)) (with_loose b.rows loose)
  pub named : (acct : Acct) → AreNamed acct (bundle_extents b.object_at acct (with_loose b.rows loose)) b.sources
  pub tickets : (acct : Acct) → TellsTickets heap acct (b.tickets acct)
  pub spare : bundle_moves b.object_at (with_loose b.rows loose) + room ≤ heap.spare

-- some bundles are kept so
pub record SomeBundles (heap : Heap) (q : Queues) (loose : List ℕ) (room : ℕ) : Type 0 where
  pub bundles : Bundles
  pub keeps : KeepsBundles heap q loose room bundles

-- those that don't wait, once this object was taken; 0 is none
abbrev pub with_taken : ℕ → List ℕ → List ℕ
with_taken object loose = if object == 0 then loose else object ∷ loose
