-- Objects that stand in a heap together, with queues of tickets, the sources that their extents name, and other blocks.
use Rattle.std.specs.Prelude.{◌≡◌, ◌+◌, ◌<◌, ◌^◌, ℕ, List, [], ◌++◌, flat_map, All, if◌then◌else◌}
use Rattle.sdr_base.specs.Entries.{BlocksAre, Entries}
use Rattle.sdr_base.specs.Linked.{first_of, last_of}
use Rattle.sdr_base.specs.Objects.{Heap}
use Rattle.sdr_base.specs.ZcoObjects.{ExtentRow, ObjectRow, object_entries}
use Rattle.sdr_base.specs.declared.account.Acct.{Acct}
use Rattle.sdr_model.specs.Accounts.{is_same_account}
use Rattle.sdr_model.specs.declared.accounts.Ticket.{Ticket}
use Rattle.zco_acct.specs.Kept.{TicketFits, block_of, queue_entries}
use Rattle.zco_acct.specs.Words.{first_word, last_word}
use Rattle.zco_obj.specs.Gone.{NamedSource, sources_entries}
use Rattle.zco_obj.specs.Kept.{ObjectFits}
use Rattle.zco_obj.specs.Uses.{AreNamed}

-- an object at an address
pub record Standing : Type 0 where
  pub addr : ℕ
  pub row : ObjectRow

-- the blocks of these
abbrev pub objects_entries : List Standing → Entries
objects_entries = flat_map (λ z. object_entries z.addr z.row)

-- the extents of an object, where it is of this account
abbrev pub own_extents : Acct → Standing → List ExtentRow
own_extents acct z = if is_same_account z.row.account acct then z.row.extents else []

-- the extents of those of an account
abbrev pub extents_for : Acct → List Standing → List ExtentRow
extents_for acct = flat_map (own_extents acct)

-- the tickets in the queue of an account
pub record Queue : Type 0 where
  pub acct : Acct
  pub tickets : List Ticket

-- the blocks of these
abbrev pub queues_entries : List Queue → Entries
queues_entries = flat_map (λ q. queue_entries q.acct q.tickets)

-- the control words of its account tell where a queue begins and ends, and the numbers of its tickets fit
pub record TellsQueue (heap : Heap) (q : Queue) : Type 0 where
  pub first : heap.roots (first_word q.acct) ≡ first_of block_of 0 q.tickets
  pub last : heap.roots (last_word q.acct) ≡ last_of block_of 0 q.tickets
  pub fits : All TicketFits q.tickets

-- what stands in a heap
pub record Stock : Type 0 where
  pub objects : List Standing
  pub queues : List Queue
  pub sources : List NamedSource
  pub rest : Entries

-- the heap keeps these objects, queues and sources, and each source counts all of the extents that name it
pub record KeepsStock (heap : Heap) (s : Stock) : Type 0 where
  pub stands : BlocksAre heap.blocks
      (objects_entries s.objects ++ (queues_entries s.queues ++ (sources_entries s.sources ++ s.rest)))
  pub fits : All (λ z. ObjectFits z.row) s.objects
  pub queues : All (TellsQueue heap) s.queues
  pub named : (acct : Acct) → AreNamed acct (extents_for acct s.objects) s.sources

-- so many extents more of a source can be counted
pub record CountsMore (more : ℕ) (s : NamedSource) : Type 0 where
  pub inbound : s.source.inbound + more < 2 ^ 61
  pub outbound : s.source.outbound + more < 2 ^ 61
