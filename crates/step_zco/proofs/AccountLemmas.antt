-- What becomes of a heap that stands for a world where one account changes, or is served.
use Rattle.std.proofs.Common.{◌≡◌, ◌∙◌, ◌≤◌, ℕ, List, [], ◌++◌, map, refl, sym, ap, subst, append-nil}
use Rattle.sdr_stands.proofs.ChangeLemmas.{part_becomes}
use Rattle.sdr_stands.proofs.PartLemmas.{queue_part}
use Rattle.sdr_stands.specs.Standing.{HeapStandsFor, entries_of, roots_of, with_taken_marked}
use Rattle.sdr_stands.specs.Standing as audit
use Rattle.sdr_base.specs.Blocks.{Blocks}
use Rattle.sdr_base.specs.Entries.{Changes, Entries, BlocksAre, Swaps}
use Rattle.sdr_base.specs.Linked.{first_of, last_of}
use Rattle.sdr_base.specs.Making.{marked_by}
use Rattle.sdr_base.specs.Objects.{Heap}
use Rattle.sdr_base.specs.Tickets.{ticket_entries}
use Rattle.sdr_base.specs.declared.account.Acct.{Acct}
use Rattle.sdr_base.specs.declared.account.Acct.TheVariants as accts
use Rattle.sdr_base.specs.declared.account.Amounts.{Amounts}
use Rattle.sdr_base.specs.declared.moves.Move.{Move}
use Rattle.law_steps.proofs.AccountQueues.{account_kept, queues_from}
use Rattle.law_steps.proofs.BarredLemmas.{tickets_now}
use Rattle.sdr_machine.specs.Demand.{grants_between}
use Rattle.sdr_model.specs.Accounts.{account_of, tickets_of, with_account}
use Rattle.sdr_model.specs.Charges.{occupancies}
use Rattle.sdr_model.specs.Queue.{served, with_served}
use Rattle.sdr_model.specs.TicketRows.{ticket_row}
use Rattle.sdr_model.specs.World.{World}
use Rattle.sdr_model.specs.declared.accounts.Account.{Account}
use Rattle.sdr_model.specs.declared.accounts.Ticket.{Ticket}
use Rattle.zco_acct.specs.Kept.{SomeQueue, block_of, queue_entries}
use Rattle.zco_acct.specs.Words.{maxima_in, occupied_in, with_occupied}
use Rattle.step_zco.proofs.GrantLemmas.{grants_many, queue_awaits}
use Rattle.step_zco.proofs.OccupiedLemmas.{occupied_with, served_occupied}
use Rattle.step_zco.proofs.QueueLemmas.{first_rows, last_rows, maxima_are, occupied_is, queue_kept, same_entries}
use Rattle.step_zco.proofs.WordLemmas.{AccountWords, occupied_set, roots_same, roots_with, set_occupied, words_of}
use Rattle.step_zco.specs.AccountAnswering.{KeepsTickets, Grants}
use Rattle.zco_space.proofs.ServedLemmas.{first-served, last-served}
use Rattle.zco_space.specs.Served.{ServesQueue, newly_granted, occupied_after, queue_served}

-- the world with another account in the place of one, and this next number
abbrev pub world_with : World → Acct → Account → ℕ → World
world_with w acct account next = record w { accounts = record (with_account w.accounts acct account) { next = next } }

-- the control words of an account in a world, by its tickets and maxima
abbrev pub account_words : World → Acct → Account → AccountWords
account_words w acct account = record {
  occupied = occupied_with w acct account.tickets;
  maxima = account.maxima;
  first = first_of block_of 0 account.tickets;
  last = last_of block_of 0 account.tickets;
}

-- those that the world has
words_are : (w : World) (acct : Acct) (account : Account) (next : ℕ) →
    words_of (world_with w acct account next) acct ≡ account_words w acct account
words_are w accts.Inbound account next = λ i. record {
  occupied = occupied_with w accts.Inbound account.tickets;
  maxima = account.maxima;
  first = first_rows account.tickets i;
  last = last_rows 0 account.tickets i;
}
words_are w accts.Outbound account next = λ i. record {
  occupied = occupied_with w accts.Outbound account.tickets;
  maxima = account.maxima;
  first = first_rows account.tickets i;
  last = last_rows 0 account.tickets i;
}

others_stay : (w : World) (acct : Acct) (account : Account) (next : ℕ) (a : AccountWords) →
    roots_with (world_with w acct account next) acct a (world_with w acct account next).accounts.next
    ≡ roots_with w acct a next
others_stay w accts.Inbound account next a = refl
others_stay w accts.Outbound account next a = refl

pub roots_now : (w : World) (acct : Acct) (account : Account) (next : ℕ) →
    roots_of (world_with w acct account next) ≡ roots_with w acct (account_words w acct account) next
roots_now w acct account next =
    let v = world_with w acct account next in
    roots_same v acct
    ∙ ap (λ (a : AccountWords). roots_with v acct a v.accounts.next) (words_are w acct account next)
    ∙ others_stay w acct account next (account_words w acct account)

-- what it has is what it had
pub account_same : (w : World) (acct : Acct) →
    words_of w acct ≡ account_words w acct (account_of w.accounts acct)
account_same w accts.Inbound = words_are w accts.Inbound w.accounts.inbound w.accounts.next
account_same w accts.Outbound = words_are w accts.Outbound w.accounts.outbound w.accounts.next

pub roots_before : (w : World) (acct : Acct) →
    roots_of w ≡ roots_with w acct (account_words w acct (account_of w.accounts acct)) w.accounts.next
roots_before w acct =
    roots_same w acct ∙ ap (λ (a : AccountWords). roots_with w acct a w.accounts.next) (account_same w acct)

-- its queue is a part of the world's blocks
queue_swaps : (w : World) (acct : Acct) (account : Account) (next : ℕ) →
    Swaps (entries_of w) (entries_of (world_with w acct account next)) (audit.queue_entries w.accounts acct)
    (ticket_entries acct (map ticket_row account.tickets))
queue_swaps w accts.Inbound account next = queue_part w accts.Inbound account.tickets
queue_swaps w accts.Outbound account next = queue_part w accts.Outbound account.tickets

changes_rows : {b b' : Blocks} (acct : Acct) (ts us : List Ticket) →
    Changes b b' (queue_entries acct ts) (queue_entries acct us) →
    Changes b b' (ticket_entries acct (map ticket_row ts)) (ticket_entries acct (map ticket_row us))
changes_rows {b} {b'} acct ts us c = record {
  kept = λ rest s.
      subst (λ (es : Entries). BlocksAre b' (es ++ rest)) (sym (same_entries acct 0 us))
      (c.kept rest (subst (λ (es : Entries). BlocksAre b (es ++ rest)) (same_entries acct 0 ts) s));
}

-- one account becomes another
pub account_becomes : (old new : Heap) (w : World) (acct : Acct) (account : Account) (next : ℕ) (moves : List Move) →
    HeapStandsFor old w →
    Changes old.blocks new.blocks (queue_entries acct (tickets_of w.accounts acct))
    (queue_entries acct account.tickets) →
    new.marks ≡ marked_by old.marks moves → new.roots ≡ roots_with w acct (account_words w acct account) next →
    HeapStandsFor new (with_taken_marked (world_with w acct account next) moves)
account_becomes old new w acct account next moves s changes marks roots =
    part_becomes old new w (world_with w acct account next) _ _ moves s (queue_swaps w acct account next)
    (changes_rows acct (tickets_of w.accounts acct) account.tickets changes) marks
    (roots ∙ sym (roots_now w acct account next)) refl

-- a heap that stands for a world with nothing marked more stands for the world
pub unmarked : {heap : Heap} {w : World} → HeapStandsFor heap (with_taken_marked w []) → HeapStandsFor heap w
unmarked {heap} {w} s =
    let v = subst (λ (marks : List ℕ). HeapStandsFor heap (record w { marks = marks; shown = [] }))
    (append-nil w.marks) s in
    record { blocks = v.blocks; roots = v.roots; marks = v.marks }

-- the account with these tickets
abbrev pub account_with : World → Acct → List Ticket → Account
account_with w acct ts = record { tickets = ts; maxima = (account_of w.accounts acct).maxima }

-- the queue of an account, served
abbrev pub queue_after : World → Acct → List Ticket
queue_after w acct = served (account_of w.accounts acct).maxima (occupancies w acct) (tickets_of w.accounts acct)

served_world : (w : World) (acct : Acct) →
    with_served w acct ≡ world_with w acct (account_with w acct (queue_after w acct)) w.accounts.next
served_world w accts.Inbound = refl
served_world w accts.Outbound = refl

-- a served queue begins and ends as it did
pub served_words : (w : World) (acct : Acct) (m o : Amounts) (ts : List Ticket) →
    record (account_words w acct (account_with w acct ts)) { occupied = occupied_with w acct (served m o ts) }
    ≡ account_words w acct (account_with w acct (served m o ts))
served_words w acct m o ts = λ i. record {
  occupied = occupied_with w acct (served m o ts);
  maxima = (account_of w.accounts acct).maxima;
  first = sym (first-served m o ts) i;
  last = sym (last-served 0 m o ts) i;
}

-- the heap's queue is served as the world's is
queue_same : {heap : Heap} {w : World} (acct : Acct) → HeapStandsFor heap w →
    queue_served heap acct (tickets_of w.accounts acct) ≡ queue_after w acct
queue_same {heap} {w} acct s = λ i. served (maxima_are acct s i) (occupied_is acct s i) (tickets_of w.accounts acct)

-- so many tickets are granted
pub serve_grants : {heap : Heap} {w : World} (acct : Acct) → HeapStandsFor heap w → KeepsTickets w →
    newly_granted (tickets_of w.accounts acct) (queue_served heap acct (tickets_of w.accounts acct))
    ≤ grants_between w (with_served w acct)
serve_grants {heap} {w} acct s keeps =
    let ts = tickets_of w.accounts acct in
    subst (λ (us : List Ticket). newly_granted ts us ≤ grants_between w (with_served w acct)) (sym (queue_same acct s))
    (grants_many w (with_served w acct) acct (account_of w.accounts acct).maxima (occupancies w acct) ts
    (queue_awaits w (queues_from w.accounts keeps.queues) acct) (tickets_now w.accounts acct (queue_after w acct)))

-- the heap stands for the world with the queue served
pub serves : {acct : Acct} {old new : Heap} {count : ℕ} → SomeQueue old acct → ServesQueue acct old new count →
    Grants acct old new
serves {acct} {old} {new} {count} some q = record {
  stands = λ w s keeps.
      let ts = tickets_of w.accounts acct in
      let m = (account_of w.accounts acct).maxima in
      let o = occupancies w acct in
      let k = queue_kept acct s keeps in
      let us = queue_after w acct in
      let same = queue_same acct s in
      let valid = (account_kept w.accounts acct (queues_from w.accounts keeps.queues)).queue.valid in
      let sum : occupied_after (occupied_in old acct) ts (served (maxima_in old acct) (occupied_in old acct) ts)
      ≡ occupied_with w acct us =
      ap (λ (a : Amounts). occupied_after a ts (served (maxima_in old acct) (occupied_in old acct) ts))
      (occupied_is acct s)
      ∙ ap (λ (xs : List Ticket). occupied_after o ts xs) same ∙ served_occupied w acct m ts valid in
      let changes = subst (λ (xs : List Ticket). Changes old.blocks new.blocks (queue_entries acct ts)
      (queue_entries acct xs)) same
      (q.changes ts k) in
      let roots : new.roots ≡ set_occupied (roots_of w) acct (occupied_with w acct us) =
      ap (λ (h : Heap). h.roots) (q.others ts k)
      ∙ ap (λ (a : Amounts). (with_occupied old acct a).roots) sum
      ∙ ap (λ (r : ℕ → ℕ). set_occupied r acct (occupied_with w acct us)) s.roots in
      let was = account_words w acct (account_of w.accounts acct) in
      let ends = served_words w acct m o ts in
      subst (HeapStandsFor new) (sym (served_world w acct))
      (unmarked (account_becomes old new w acct (account_with w acct us) w.accounts.next [] s changes
      (ap (λ (h : Heap). h.marks) (q.others ts k))
      (roots
      ∙ ap (λ (r : ℕ → ℕ). set_occupied r acct (occupied_with w acct us)) (roots_before w acct)
      ∙ occupied_set w acct was w.accounts.next (occupied_with w acct us)
      ∙ ap (λ (a : AccountWords). roots_with w acct a w.accounts.next) ends)));
  moves = ap (λ (h : Heap). h.moves) (q.others some.tickets some.keeps);
}
