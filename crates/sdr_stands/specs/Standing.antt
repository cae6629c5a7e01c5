-- When bytes stand for a world: their blocks in use are just the world's, each with the bytes of what it keeps.
use Rattle.std.specs.Prelude.{◌≡◌, ◌≤◌, ℕ, List, [], ◌++◌, map}
use Rattle.sdr_base.specs.Catalogue.{catalogue_entries, name_addr}
use Rattle.sdr_base.specs.Entries.{Entries, BlocksAre}
use Rattle.sdr_base.specs.Hashes.{hash_entries}
use Rattle.sdr_base.specs.KeptHeap.{KeepsHeap, block_in, root_in}
use Rattle.sdr_base.specs.Linked.{first_of, last_of}
use Rattle.sdr_base.specs.Lists.{list_entries}
use Rattle.sdr_base.specs.Objects.{Heap}
use Rattle.sdr_base.specs.Pools.{Pools}
use Rattle.sdr_base.specs.Raws.{raw_entries}
use Rattle.sdr_base.specs.Roots.{account_words, root_words, roots_by}
use Rattle.sdr_base.specs.Section.{section}
use Rattle.sdr_base.specs.Sources.{source_entries}
use Rattle.sdr_base.specs.Strings.{string_entries}
use Rattle.sdr_base.specs.Tables.{table_entries}
use Rattle.sdr_base.specs.Tickets.{ticket_addr, ticket_entries}
use Rattle.sdr_base.specs.ZcoObjects.{object_entries}
use Rattle.sdr_base.specs.declared.account.Acct.{Acct}
use Rattle.sdr_base.specs.declared.account.Acct.TheVariants as accts
use Rattle.sdr_base.specs.declared.control.TheConstants.{HEAP_VERSION}
use Rattle.sdr_base.specs.declared.moves.Move.{Move}
use Rattle.sdr_model.specs.Accounts.{account_of, tickets_of}
use Rattle.sdr_model.specs.Charges.{occupancies}
use Rattle.sdr_model.specs.Fields.{FitsFields}
use Rattle.sdr_model.specs.Steps.{taken_addresses}
use Rattle.sdr_model.specs.TicketRows.{ticket_row}
use Rattle.sdr_model.specs.Whole.{IsWhole}
use Rattle.sdr_model.specs.World.{World, is_marked}
use Rattle.sdr_model.specs.declared.accounts.Accounts.{Accounts}
use Rattle.sdr_model.specs.declared.things.Thing.{Thing}
use Rattle.sdr_model.specs.declared.things.Thing.TheVariants as things
use Rattle.sdr_stands.specs.Rows.{list_row, table_row, hash_row, source_row, object_row, name_row}
use Rattle.sdr_stands.specs.Ties.{Ties, ties_of}

-- the blocks of a thing, its own first
abbrev pub thing_entries : Ties → ℕ → Thing → Entries
thing_entries ties addr (things.Raw bytes) = raw_entries addr (ties.named_by addr) bytes
thing_entries ties addr (things.Text text) = string_entries addr text
thing_entries ties addr (things.List list) = list_entries addr (list_row list)
thing_entries ties addr (things.Table table) = table_entries addr (table_row table)
thing_entries ties addr (things.Hash hash) = hash_entries addr (hash_row hash)
thing_entries ties addr (things.Source source) =
    source_entries addr (ties.counts addr accts.Inbound) (ties.counts addr accts.Outbound) (source_row source)
thing_entries ties addr (things.Object object) = object_entries addr (object_row object)

-- the blocks of the tickets in the queue of an account
abbrev pub queue_entries : Accounts → Acct → Entries
queue_entries accounts acct = ticket_entries acct (map ticket_row (tickets_of accounts acct))

-- the blocks of the catalogue and of all tickets
abbrev pub other_entries : World → Entries
other_entries w =
    catalogue_entries (map name_row w.names)
    ++ (queue_entries w.accounts accts.Inbound ++ queue_entries w.accounts accts.Outbound)

-- the blocks of a world: those of its things by rising address of the things, then those of the catalogue and of the
-- inbound and the outbound tickets
abbrev pub entries_of : World → Entries
entries_of w = section (thing_entries (ties_of w)) w.things ++ other_entries w

-- the control words of an account: what is occupied, the maxima, and the first and the last ticket
abbrev pub account_roots : World → Acct → List ℕ
account_roots w acct =
    let tickets = map ticket_row (tickets_of w.accounts acct) in
    account_words (occupancies w acct) (account_of w.accounts acct).maxima
    (first_of ticket_addr 0 tickets) (last_of ticket_addr 0 tickets)

-- the control words of a world: those of the catalogue, the version, those of both accounts, and the number of the next ticket
abbrev pub roots_of : World → ℕ → ℕ
roots_of w =
    let names = map name_row w.names in
    roots_by
    (root_words HEAP_VERSION (first_of name_addr 0 names) (last_of name_addr 0 names)
    (account_roots w accts.Inbound) (account_roots w accts.Outbound) w.accounts.next)

-- The bytes of a heap region stand for the world, with these pools: they keep a heap, the blocks in use and the control
-- words are the world's, and it has no mark, shows no bytes, and counts no block taken.
pub record StandsFor (bytes : List ℕ) (w : World) (P : Pools) : Type 0 where
  pub heap : KeepsHeap bytes P
  pub blocks : BlocksAre (block_in bytes) (entries_of w)
  pub roots : root_in bytes ≡ roots_of w
  pub marks : w.marks ≡ []
  pub shown : w.shown ≡ []
  pub taken : w.taken ≡ 0

-- the bytes stand for the world, which is whole, whose numbers fit the fields of blocks, and whose next ticket has a number from
-- 1 on
pub record StandsForWhole (bytes : List ℕ) (w : World) (P : Pools) : Type 0 where
  pub stands : StandsFor bytes w P
  pub whole : IsWhole w
  pub fits : FitsFields w
  pub next : 1 ≤ w.accounts.next

-- A heap in a transaction stands for the current world: its blocks in use, control words and marks are the world's.
pub record HeapStandsFor (heap : Heap) (w : World) : Type 0 where
  pub blocks : BlocksAre heap.blocks (entries_of w)
  pub roots : heap.roots ≡ roots_of w
  pub marks : (addr : ℕ) → heap.marks addr ≡ is_marked w addr

-- the world with each block that the moves take marked, and no bytes shown
abbrev pub with_taken_marked : World → List Move → World
with_taken_marked w moves = record w { marks = w.marks ++ taken_addresses moves; shown = [] }
