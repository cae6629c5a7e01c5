-- The queue of an account in the blocks of a heap that stands for a world.
use Rattle.std.proofs.Common.{◌≡◌, ◌∙◌, ℕ, ◌<◌, ◌≤◌, List, [], ◌∷◌, ◌++◌, true, map, refl, ap, subst, arith}
use Rattle.std.specs.Prelude.{All}
use Rattle.std.specs.List.{AllByRecursion}
use Rattle.std.proofs.lemmas.List.Elements.{All-cons, All-nil, recursion_from_All}
use Rattle.sdr_stands.proofs.PartLemmas.{queue_part}
use Rattle.sdr_stands.specs.Standing.{HeapStandsFor, roots_of}
use Rattle.sdr_base.proofs.StandingLemmas.{focused}
use Rattle.sdr_base.specs.Entries.{Entries, BlocksAre}
use Rattle.sdr_base.specs.Linked.{first_of, last_of, linked}
use Rattle.sdr_base.specs.Objects.{Heap}
use Rattle.sdr_base.specs.Roots.{roots_by}
use Rattle.sdr_base.specs.Tickets.{ticket_addr, ticket_block}
use Rattle.sdr_base.specs.declared.account.Acct.{Acct}
use Rattle.sdr_base.specs.declared.account.Acct.TheVariants as accts
use Rattle.sdr_base.specs.declared.account.Amounts.{Amounts}
use Rattle.sdr_base.specs.declared.kind.Space.TheVariants as spaces
use Rattle.law_steps.proofs.AccountQueues.{account_kept, queues_from}
use Rattle.sdr_model.proofs.AmountLemmas.{within_in}
use Rattle.sdr_model.specs.Accounts.{account_of, most_amount, tickets_of}
use Rattle.sdr_model.specs.Amounts.{amounts_by, are_within}
use Rattle.sdr_model.specs.Charges.{occupancies}
use Rattle.sdr_model.specs.Fields.{FitsFields, FitsTicket}
use Rattle.sdr_model.specs.TicketRows.{ticket_row}
use Rattle.sdr_model.specs.Valid.{IsValidTicket}
use Rattle.sdr_model.specs.World.{World}
use Rattle.sdr_model.specs.declared.accounts.Ticket.{Ticket}
use Rattle.zco_acct.specs.Kept.{AmountsFit, KeepsQueue, TicketFits, block_of, queued_block}
use Rattle.zco_acct.specs.Words.{first_word, last_word, maxima_in, maximum_word, occupancy_word, occupied_in}
use Rattle.step_zco.specs.AccountAnswering.{KeepsTickets}

-- the rows of tickets begin and end where the tickets do
pub first_rows : (ts : List Ticket) → first_of ticket_addr 0 (map ticket_row ts) ≡ first_of block_of 0 ts
first_rows [] = refl
first_rows (t ∷ ts) = refl

pub last_rows : (prev : ℕ) (ts : List Ticket) → last_of ticket_addr prev (map ticket_row ts) ≡ last_of block_of prev ts
last_rows prev [] = refl
last_rows prev (t ∷ ts) = last_rows t.block ts

-- and have their blocks
pub same_entries : (acct : Acct) (prev : ℕ) (ts : List Ticket) →
    linked ticket_addr (ticket_block acct) prev 0 (map ticket_row ts) ≡ linked block_of (queued_block acct) prev 0 ts
unfolding linked
same_entries acct prev [] = refl
same_entries acct prev (t ∷ ts) =
    λ i. (t.block, ticket_block acct prev (first_rows ts i) (ticket_row t)) ∷ same_entries acct t.block ts i

-- the control words of an account are the world's
first_root : (w : World) (acct : Acct) → roots_of w (first_word acct) ≡ first_of block_of 0 (tickets_of w.accounts acct)
unfolding roots_by
first_root w accts.Inbound = first_rows w.accounts.inbound.tickets
first_root w accts.Outbound = first_rows w.accounts.outbound.tickets

last_root : (w : World) (acct : Acct) → roots_of w (last_word acct) ≡ last_of block_of 0 (tickets_of w.accounts acct)
unfolding roots_by
last_root w accts.Inbound = last_rows 0 w.accounts.inbound.tickets
last_root w accts.Outbound = last_rows 0 w.accounts.outbound.tickets

occupied_roots : (w : World) (acct : Acct) →
    amounts_by (λ space. roots_of w (occupancy_word acct space)) ≡ occupancies w acct
unfolding roots_by
occupied_roots w accts.Inbound = refl
occupied_roots w accts.Outbound = refl

maxima_roots : (w : World) (acct : Acct) →
    amounts_by (λ space. roots_of w (maximum_word acct space)) ≡ (account_of w.accounts acct).maxima
unfolding roots_by
maxima_roots w accts.Inbound = refl
maxima_roots w accts.Outbound = refl

next_root : (w : World) → roots_of w 108 ≡ w.accounts.next
unfolding roots_by
next_root w = refl

-- so are what is occupied, the maxima and the next number
pub occupied_is : {heap : Heap} {w : World} (acct : Acct) → HeapStandsFor heap w →
    occupied_in heap acct ≡ occupancies w acct
occupied_is {heap} {w} acct s =
    ap (λ (r : ℕ → ℕ). amounts_by (λ space. r (occupancy_word acct space))) s.roots ∙ occupied_roots w acct

pub maxima_are : {heap : Heap} {w : World} (acct : Acct) → HeapStandsFor heap w →
    maxima_in heap acct ≡ (account_of w.accounts acct).maxima
maxima_are {heap} {w} acct s =
    ap (λ (r : ℕ → ℕ). amounts_by (λ space. r (maximum_word acct space))) s.roots ∙ maxima_roots w acct

pub next_is : {heap : Heap} {w : World} → HeapStandsFor heap w → heap.roots 108 ≡ w.accounts.next
next_is {heap} {w} s = ap (λ (r : ℕ → ℕ). r 108) s.roots ∙ next_root w

-- amounts that are within the greatest fit their words
within_fits : (a : Amounts) → are_within a (amounts_by (λ space. most_amount)) ≡ true → AmountsFit a
within_fits a is =
    let most = amounts_by (λ space. most_amount) in
    let file : a.file ≤ most_amount = within_in a most spaces.File is in
    let bulk : a.bulk ≤ most_amount = within_in a most spaces.Bulk is in
    let heap : a.heap ≤ most_amount = within_in a most spaces.Heap is in
    record { file = omega (arith, file); bulk = omega (arith, bulk); heap = omega (arith, heap) }

less_fits : (a b : Amounts) → are_within a b ≡ true → AmountsFit b → AmountsFit a
less_fits a b is fits =
    let file : a.file ≤ b.file = within_in a b spaces.File is in
    let bulk : a.bulk ≤ b.bulk = within_in a b spaces.Bulk is in
    let heap : a.heap ≤ b.heap = within_in a b spaces.Heap is in
    record {
      file = omega (arith, file, fits.file);
      bulk = omega (arith, bulk, fits.bulk);
      heap = omega (arith, heap, fits.heap);
    }

ticket_fits : (next : ℕ) (t : Ticket) → IsValidTicket t → FitsTicket t → t.number < next → next ≤ most_amount →
    TicketFits t
ticket_fits next t v f below most =
    let asked = within_fits t.asked v.asked in
    record {
      block = f.block;
      number = omega (arith, below, most);
      coarse = f.coarse;
      fine = f.fine;
      asked = asked;
      left = less_fits t.left t.asked v.left asked;
    }

all_fit : (next : ℕ) (ts : List Ticket) → AllByRecursion IsValidTicket ts → AllByRecursion FitsTicket ts →
    AllByRecursion (λ (t : Ticket). t.number < next) ts → next ≤ most_amount → All TicketFits ts
all_fit next [] valid fits below most = All-nil TicketFits
all_fit next (t ∷ ts) valid fits below most =
    All-cons TicketFits t ts (ticket_fits next t valid.0 fits.0 below.0 most)
    (all_fit next ts valid.1 fits.1 below.1 most)

pub fits_of : (w : World) (acct : Acct) → FitsFields w → All FitsTicket (tickets_of w.accounts acct)
fits_of w accts.Inbound fits = fits.inbound
fits_of w accts.Outbound fits = fits.outbound

-- the heap keeps the queue that the world has
pub queue_kept : {heap : Heap} {w : World} (acct : Acct) → HeapStandsFor heap w → KeepsTickets w →
    KeepsQueue heap acct (tickets_of w.accounts acct)
queue_kept {heap} {w} acct s keeps =
    let ts = tickets_of w.accounts acct in
    let swap = queue_part w acct ts in
    let queues = queues_from w.accounts keeps.queues in
    let queue = (account_kept w.accounts acct queues).queue in
    record {
      rest = swap.before ++ swap.behind;
      stands = subst (λ (es : Entries). BlocksAre heap.blocks (es ++ (swap.before ++ swap.behind)))
          (same_entries acct 0 ts)
          (focused swap s.blocks);
      first = ap (λ (r : ℕ → ℕ). r (first_word acct)) s.roots ∙ first_root w acct;
      last = ap (λ (r : ℕ → ℕ). r (last_word acct)) s.roots ∙ last_root w acct;
      fits = all_fit w.accounts.next ts queue.valid (recursion_from_All FitsTicket ts
          (fits_of w acct keeps.fits)) queue.below
          queues.next;
    }
