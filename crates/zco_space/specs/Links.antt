-- The queue of an account while its links are set.
use Rattle.std.specs.Prelude.{◌≡◌, ℕ, zero, suc, List, ◌++◌}
use Rattle.sdr_base.specs.Entries.{Entries, BlocksAre}
use Rattle.sdr_base.specs.Linked.{first_of, last_of, linked}
use Rattle.sdr_base.specs.Making.{besides}
use Rattle.sdr_base.specs.Objects.{Heap, with_root}
use Rattle.sdr_base.specs.declared.account.Acct.{Acct}
use Rattle.sdr_model.specs.declared.accounts.Ticket.{Ticket}
use Rattle.zco_acct.specs.Kept.{block_of, queued_block}
use Rattle.zco_acct.specs.Words.{first_word, last_word}

-- these tickets are the first ones of a queue, and this follows the last of them
pub record QueueChain (heap : Heap) (acct : Acct) (tickets : List Ticket) (next : ℕ) (rest : Entries) : Type 0 where
  pub stands : BlocksAre heap.blocks (linked block_of (queued_block acct) 0 next tickets ++ rest)
  pub first : heap.roots (first_word acct) ≡ first_of block_of next tickets

-- wherever `prev` is the last of some first ones, another follows them now
pub record LinksNext (acct : Acct) (prev next : ℕ) (old new : Heap) : Type 0 where
  pub links : (tickets : List Ticket) (was : ℕ) (rest : Entries) → prev ≡ last_of block_of 0 tickets →
      QueueChain old acct tickets was rest → QueueChain new acct tickets next rest
  pub same : besides new ≡ besides (with_root old (first_word acct) (new.roots (first_word acct)))

-- where nothing follows, this is the last one
abbrev pub last_if : Acct → ℕ → ℕ → Heap → Heap
last_if acct zero prev heap = with_root heap (last_word acct) prev
last_if acct (suc next) prev heap = heap

-- the last one's word was set
pub record LinksLast (acct : Acct) (next prev : ℕ) (old new : Heap) : Type 0 where
  pub links : new ≡ last_if acct next prev old

-- the heap with the control words of a queue of these tickets
abbrev pub with_ends : Heap → Acct → List Ticket → Heap
with_ends heap acct tickets =
    with_root (with_root heap (first_word acct) (first_of block_of 0 tickets)) (last_word acct) (last_of block_of 0 tickets)
