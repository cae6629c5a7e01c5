-- A heap that stands for a world, once things, the queue of an account and what that occupies have changed together.
use Rattle.std.proofs.Common.{◌≡◌, ◌∙◌, ◌+◌, ℕ, List, [], false, map, refl, sym, ap, append-nil}
use Rattle.sdr_stands.proofs.ChangeLemmas.{part_becomes}
use Rattle.sdr_stands.specs.Rows.{name_row}
use Rattle.sdr_stands.specs.Standing.{HeapStandsFor, entries_of, roots_of, with_taken_marked}
use Rattle.sdr_base.specs.Catalogue.{name_addr}
use Rattle.sdr_base.specs.Entries.{Changes}
use Rattle.sdr_base.specs.Linked.{first_of, last_of}
use Rattle.sdr_base.specs.Making.{marked_by}
use Rattle.sdr_base.specs.Objects.{Heap}
use Rattle.sdr_base.specs.Roots as base
use Rattle.sdr_base.specs.Roots.{root_words, roots_by}
use Rattle.sdr_base.specs.Tickets.{ticket_addr}
use Rattle.sdr_base.specs.declared.account.Acct.{Acct}
use Rattle.sdr_base.specs.declared.account.Acct.TheVariants as accts
use Rattle.sdr_base.specs.declared.account.Amounts.{Amounts}
use Rattle.sdr_base.specs.declared.control.TheConstants.{HEAP_VERSION}
use Rattle.sdr_base.specs.declared.kind.Space.{Space}
use Rattle.sdr_base.specs.declared.moves.Move.{Move}
use Rattle.law_steps.proofs.BarredLemmas.{amount_by, amounts_same}
use Rattle.law_steps.proofs.ChargeLemmas.{things_charge}
use Rattle.sdr_model.specs.Accounts.{account_of, is_same_account, tickets_of}
use Rattle.sdr_model.specs.Charges.{left_in, occupancies, occupancy}
use Rattle.sdr_model.specs.Things.{Things}
use Rattle.sdr_model.specs.TicketRows.{ticket_row}
use Rattle.sdr_model.specs.World.{World}
use Rattle.sdr_model.specs.declared.accounts.Ticket.{Ticket}
use Rattle.zco_acct.specs.Kept.{block_of}
use Rattle.step_zco.proofs.MovingLemmas.{moved}
use Rattle.step_zco.proofs.AccountLemmas.{account_with, account_words, roots_before, roots_now}
use Rattle.step_zco.proofs.OccupiedLemmas.{occupied_with}
use Rattle.step_zco.proofs.WordLemmas.{AccountWords, occupied_set, roots_with, set_occupied}

-- a queue has other tickets, between the same ends
pub record SameEnds (was now : List Ticket) : Type 0 where
  pub first : first_of block_of 0 now ≡ first_of block_of 0 was
  pub last : last_of block_of 0 now ≡ last_of block_of 0 was

-- what things charge the other account stays
abbrev pub OthersSame : World → Things → Acct → Type 0
OthersSame w m acct =
    (b : Acct) → is_same_account b acct ≡ false → (space : Space) → things_charge m b space ≡ things_charge w.things b space

-- an account whose things charge what they did occupies what it did
occupies : (w : World) (m : Things) (b : Acct) → ((space : Space) → things_charge m b space ≡ things_charge w.things b space) →
    occupancies w b ≡ occupancies (record w { things = m }) b
occupies w m b same =
    let u = record w { things = m } in
    amounts_same (occupancies w b) (occupancies u b) (λ space.
    amount_by (occupancy w b) space
    ∙ ap (λ (n : ℕ). n + left_in space (tickets_of w.accounts b)) (sym (same space))
    ∙ sym (amount_by (occupancy u b) space))

-- the words of an account of a world, but that so much is occupied
abbrev words_but : World → Acct → Amounts → List ℕ
words_but w b occupied =
    let tickets = map ticket_row (tickets_of w.accounts b) in
    base.account_words occupied (account_of w.accounts b).maxima (first_of ticket_addr 0 tickets) (last_of ticket_addr 0 tickets)

-- so the other account's words stay
others_stay : (w : World) (m : Things) (acct : Acct) (a : AccountWords) (next : ℕ) → OthersSame w m acct →
    roots_with w acct a next ≡ roots_with (record w { things = m }) acct a next
others_stay w m accts.Inbound a next others =
    let names = map name_row w.names in
    ap (λ (occupied : Amounts). roots_by
    (root_words HEAP_VERSION (first_of name_addr 0 names) (last_of name_addr 0 names)
    (base.account_words a.occupied a.maxima a.first a.last) (words_but w accts.Outbound occupied) next))
    (occupies w m accts.Outbound (others accts.Outbound refl))
others_stay w m accts.Outbound a next others =
    let names = map name_row w.names in
    ap (λ (occupied : Amounts). roots_by
    (root_words HEAP_VERSION (first_of name_addr 0 names) (last_of name_addr 0 names)
    (words_but w accts.Inbound occupied)
    (base.account_words a.occupied a.maxima a.first a.last) next))
    (occupies w m accts.Inbound (others accts.Inbound refl))

-- in a world, things and the tickets of an account become others, and so much is occupied then
module _ (w : World) (m : Things) (acct : Acct) (ts : List Ticket) (occupied : Amounts) (others : OthersSame w m acct)
    (is : occupied ≡ occupied_with (record w { things = m }) acct ts) (ends : SameEnds (tickets_of w.accounts acct) ts) where
  -- the control words are those of the world after it
  roots_moved : set_occupied (roots_of w) acct occupied ≡ roots_of (moved w m acct ts)
  roots_moved =
      let u = record w { things = m } in
      let next = w.accounts.next in
      let was = account_words w acct (account_of w.accounts acct) in
      let now = account_words u acct (account_with w acct ts) in
      let same : record was { occupied = occupied } ≡ now =
      λ i. record {
        occupied = is i;
        maxima = (account_of w.accounts acct).maxima;
        first = sym ends.first i;
        last = sym ends.last i;
      } in
      ap (λ (r : ℕ → ℕ). set_occupied r acct occupied) (roots_before w acct)
      ∙ occupied_set w acct was next occupied
      ∙ ap (λ (a : AccountWords). roots_with w acct a next) same
      ∙ others_stay w m acct now next others
      ∙ sym (roots_now u acct (account_with w acct ts) next)

  -- so the heap stands for it
  pub moved_stands : {old new : Heap} (moves : List Move) → HeapStandsFor old w →
      Changes old.blocks new.blocks (entries_of w) (entries_of (moved w m acct ts)) →
      new.marks ≡ marked_by old.marks moves → new.roots ≡ set_occupied old.roots acct occupied →
      HeapStandsFor new (with_taken_marked (moved w m acct ts) moves)
  moved_stands {old} {new} moves s changes marks roots =
      let v = moved w m acct ts in
      part_becomes old new w v (entries_of w) (entries_of v) moves s
      (record { before = []; behind = []; was = sym (append-nil (entries_of w)); is = sym (append-nil (entries_of v)) })
      changes marks
      (roots ∙ ap (λ (r : ℕ → ℕ). set_occupied r acct occupied) s.roots ∙ roots_moved) refl
