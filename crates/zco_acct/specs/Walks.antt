-- Which ticket of a queue is looked for, how far the queue was walked, and what was found.
use Rattle.std.specs.Prelude.{◌≡◌, ◌==◌, ℕ, List, ◌∷◌, ◌++◌, length, not, true, Bool, Option, None, Some, find}
use Rattle.sdr_base.specs.Linked.{first_of, last_of}
use Rattle.sdr_base.specs.Objects.{Heap}
use Rattle.sdr_base.specs.declared.account.Acct.{Acct}
use Rattle.sdr_model.specs.Queue.{stands_before}
use Rattle.sdr_model.specs.declared.accounts.Ticket.{Ticket}
use Rattle.zco_acct.specs.Kept.{KeepsQueue, block_of}
use Rattle.zco_acct.specs.declared.queue.Found.{Found}
use Rattle.zco_acct.specs.declared.queue.Sought.{Sought}
use Rattle.zco_acct.specs.declared.queue.Sought.TheVariants as soughts

-- whether the ticket has this number
abbrev pub has_number : ℕ → Ticket → Bool
has_number number t = t.number == number

-- whether the ticket waits
abbrev pub waits : Ticket → Bool
waits t = not t.granted

-- whether a new ticket goes before this one
abbrev pub is_behind : Ticket → Ticket → Bool
is_behind new t = not (stands_before t new)

-- whether the ticket is such a one as is sought
abbrev pub is_sought : Sought → Ticket → Bool
is_sought (soughts.Number number) t = has_number number t
is_sought soughts.Waiting t = waits t
is_sought (soughts.Behind new) t = is_behind new t

-- so many tickets were passed, and none of them passes a test; the cursor is at the first of those that are left, and the
-- one before it is the last that was passed
pub record Walked (test : Ticket → Bool) (tickets : List Ticket) (previous cursor i : ℕ) : Type 0 where
  pub passed : List Ticket
  pub left : List Ticket
  pub whole : tickets ≡ passed ++ left
  pub counted : length passed ≡ i
  pub none : find test passed ≡ None
  pub at_cursor : cursor ≡ first_of block_of 0 left
  pub at_previous : previous ≡ last_of block_of 0 passed

-- whichever queue is kept was walked so far
pub record Walks (heap : Heap) (acct : Acct) (test : Ticket → Bool) (previous cursor i : ℕ) : Type 0 where
  pub walked : (tickets : List Ticket) → KeepsQueue heap acct tickets → Walked test tickets previous cursor i

-- this is the first ticket that passes a test, with those before and behind it
pub record IsFirst (test : Ticket → Bool) (tickets : List Ticket) (found : Found) : Type 0 where
  pub before : List Ticket
  pub behind : List Ticket
  pub whole : tickets ≡ before ++ (found.ticket ∷ behind)
  pub none : find test before ≡ None
  pub passes : test found.ticket ≡ true
  pub at_previous : found.previous ≡ last_of block_of 0 before
  pub at_next : found.next ≡ first_of block_of 0 behind

-- this is the first of these tickets that passes a test, or there is none
abbrev pub Searched : (Ticket → Bool) → List Ticket → Option Found → Type 0
Searched test tickets None = find test tickets ≡ None
Searched test tickets (Some found) = IsFirst test tickets found

-- so it is in whichever queue is kept
pub record Searches (heap : Heap) (acct : Acct) (test : Ticket → Bool) (found : Option Found) : Type 0 where
  pub searched : (tickets : List Ticket) → KeepsQueue heap acct tickets → Searched test tickets found
