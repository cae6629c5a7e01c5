-- The law of the queues of tickets.
use Rattle.std.specs.Prelude.{◌≡◌, ◌<◌, ◌==◌, ◌+◌, ◌*◌, ◌/◌, ◌&&◌, ◌||◌, ◌⊎◌, ℕ, Bool, true, false, List, [], ◌++◌, length, map, nat_eq, nat_lt, All, AllPairs, IfSome}
use Rattle.std.specs.List.{IsDistinct}
use Rattle.sdr_base.specs.declared.account.Acct.{Acct}
use Rattle.sdr_base.specs.declared.account.Acct.TheVariants as accts
use Rattle.sdr_base.specs.declared.account.Amounts.{Amounts}
use Rattle.sdr_base.specs.declared.control.TheConstants.{FILE_MAXIMUM, FILE_OCCUPANCY, FIRST_TICKET, NEXT_TICKET}
use Rattle.sdr_base.specs.declared.layout.ticket.TheConstants as ticket
use Rattle.sdr_base.specs.declared.line.TheConstants.{WORD}
use Rattle.audit_owners.specs.Members.{members}
use Rattle.sdr_model.specs.Amounts.{are_within, is_nothing, minus}
use Rattle.sdr_model.specs.Queue.{front_waiting}
use Rattle.sdr_model.specs.Valid.{may_precede}
use Rattle.sdr_model.specs.declared.accounts.Ticket.{Ticket}
use Rattle.audit_owners.specs.Owners.{account_word}
use Rattle.audit_owners.specs.View.{View, view_in, word_of}
use Rattle.audit_owners.specs.declared.owner.Owner.TheVariants as owners

-- the amounts of file, bulk and heap space in three words of the block at an address
abbrev pub amounts_at : View → ℕ → ℕ → Amounts
amounts_at heap addr field = record {
  file = word_of (heap.blocks addr) field;
  bulk = word_of (heap.blocks addr) (field + 1);
  heap = word_of (heap.blocks addr) (field + 2);
}

-- the ticket in the block at an address
abbrev pub ticket_in : View → ℕ → Ticket
ticket_in heap addr = record {
  block = addr;
  number = word_of (heap.blocks addr) ticket.NUMBER;
  coarse = word_of (heap.blocks addr) ticket.COARSE;
  fine = word_of (heap.blocks addr) ticket.FINE;
  asked = amounts_at heap addr ticket.ASKED_FILE;
  left = amounts_at heap addr ticket.LEFT_FILE;
  granted = word_of (heap.blocks addr) ticket.GRANTED == 1;
}

-- the tickets of an account, in the order of its queue
abbrev pub tickets : View → ℕ → Acct → List Ticket
tickets heap words account = map (ticket_in heap) (members heap words (owners.Queue account))

-- the numbers of these tickets
abbrev pub ticket_numbers : List Ticket → List ℕ
ticket_numbers = map (λ t. t.number)

-- the numbers that those of an account must differ from: the inbound ones where it is the outbound one
abbrev pub numbers_before : View → ℕ → Acct → List ℕ
numbers_before heap words accts.Inbound = []
numbers_before heap words accts.Outbound = ticket_numbers (tickets heap words accts.Inbound)

-- the numbers of the tickets of an account, behind those
abbrev pub numbers_up_to : View → ℕ → Acct → List ℕ
numbers_up_to heap words account = numbers_before heap words account ++ ticket_numbers (tickets heap words account)

-- the amounts of each space in three control words of an account
abbrev pub amounts_in : View → Acct → ℕ → Amounts
amounts_in heap account field = record {
  file = heap.roots (account_word account + field);
  bulk = heap.roots (account_word account + field + 1);
  heap = heap.roots (account_word account + field + 2);
}

-- the room of an account, as its control words tell it: what of its maxima isn't occupied
abbrev pub room : View → Acct → Amounts
room heap account = minus (amounts_in heap account FILE_MAXIMUM) (amounts_in heap account FILE_OCCUPANCY)

-- whether what is left of a ticket is at most what it asks, and nothing while it waits
abbrev pub is_left_rightly : Ticket → Bool
is_left_rightly t = are_within t.left t.asked && (t.granted || is_nothing t.left)

-- whether a waiting ticket goes before another: by coarse priority, by fine priority, and by number
abbrev pub goes_before : Ticket → Ticket → Bool
goes_before a b =
    nat_lt b.coarse a.coarse
    || (a.coarse == b.coarse && (nat_lt b.fine a.fine || (a.fine == b.fine && nat_lt a.number b.number)))

-- These tickets make a queue of an account: the number of each is below the next one; granted tickets are first, and those that wait
-- go by coarse priority, by fine priority and by number; what is left of each is right; and the first one that waits asks of some
-- space more than the room.
pub record IsQueue (heap : View) (account : Acct) (row : List Ticket) : Type 0 where
  pub below : All (λ n. n < heap.roots NEXT_TICKET) (ticket_numbers row)
  pub order : AllPairs (λ a b. may_precede a b ≡ true) row
  pub left : All (λ t. is_left_rightly t ≡ true) row
  pub barred : IfSome (front_waiting row) (λ t. are_within t.asked (room heap account) ≡ false)

-- the tickets of an account keep the law of queues: they make one, and no two numbers up to theirs are the same
pub record IsLawful (heap : View) (words : ℕ) (account : Acct) : Type 0 where
  pub distinct : IsDistinct nat_eq (numbers_up_to heap words account)
  pub queue : IsQueue heap account (tickets heap words account)

-- both queues keep their law
pub record AreLawful (heap : View) (words : ℕ) : Type 0 where
  pub inbound : IsLawful heap words accts.Inbound
  pub outbound : IsLawful heap words accts.Outbound

-- where it is told that the queue of an account is wrong: at the control word with its first ticket
abbrev pub queue_place : Acct → ℕ
queue_place account = WORD * (account_word account + FIRST_TICKET)

-- the inbound queue is wrong
pub record IsWrongInbound (heap : View) (words place : ℕ) : Type 0 where
  pub wrong : ¬ IsLawful heap words accts.Inbound
  pub at : place ≡ queue_place accts.Inbound

-- the inbound queue is right, and the outbound one is wrong
pub record IsWrongOutbound (heap : View) (words place : ℕ) : Type 0 where
  pub right : IsLawful heap words accts.Inbound
  pub wrong : ¬ IsLawful heap words accts.Outbound
  pub at : place ≡ queue_place accts.Outbound

-- the first queue that is wrong is so at this place
abbrev pub IsWrongQueue : View → ℕ → ℕ → Type 0
IsWrongQueue heap words place = IsWrongInbound heap words place ⊎ IsWrongOutbound heap words place

-- both queues in a heap region keep their law
abbrev pub AreLawfulIn : List ℕ → Type 0
AreLawfulIn bytes = AreLawful (view_in bytes) (length bytes / WORD)

-- the first queue in a heap region that is wrong is so at this place
abbrev pub IsWrongQueueIn : List ℕ → ℕ → Type 0
IsWrongQueueIn bytes place = IsWrongQueue (view_in bytes) (length bytes / WORD) place
