-- The world that a heap tells which keeps one is that world.
use Rattle.std.proofs.Common.{◌≡◌, ◌<◌, ◌/◌, ◌^◌, ◌&&◌, ℕ, true, List, [], ◌∷◌, ◌++◌, map, length, arith, sym, ap, ◌∙◌}
use Rattle.std.specs.Prelude.{nat_le}
use Rattle.std.specs.Cmp.{nat_cmp_total}
use Rattle.std.specs.FinMap as finite
use Rattle.std.specs.List.{All}
use Rattle.std.proofs.lemmas.Bool.{and_parts, leb-true}
use Rattle.std.proofs.lemmas.List.Elements.{All-cons, All-head, All-nil, All-tail}
use Rattle.sdr_base.specs.Catalogue.{catalogue_entries, name_addr, name_block}
use Rattle.sdr_base.specs.Pools.{Pools}
use Rattle.sdr_base.specs.Roots.{roots_by}
use Rattle.sdr_base.specs.Tickets.{ticket_addr, ticket_block}
use Rattle.sdr_base.specs.declared.account.Acct.{Acct}
use Rattle.sdr_base.specs.declared.account.Acct.TheVariants as accts
use Rattle.sdr_base.specs.declared.control.TheConstants.{FILE_MAXIMUM, NEXT_TICKET}
use Rattle.sdr_stands.specs.Rows.{name_row}
use Rattle.sdr_stands.specs.Standing.{StandsForWhole, queue_entries}
use Rattle.audit_counts.specs.Queues.{amounts_in, ticket_in, tickets}
use Rattle.audit_owners.specs.Members.{members}
use Rattle.sdr_model.specs.Accounts.{account_of, most_amount, tickets_of}
use Rattle.sdr_model.specs.Fields.{FitsName, FitsTicket}
use Rattle.sdr_model.specs.TicketRows.{ticket_row}
use Rattle.sdr_model.specs.Valid.{IsValidTicket}
use Rattle.sdr_model.specs.World.{World}
use Rattle.sdr_model.specs.declared.accounts.Ticket.{Ticket}
use Rattle.audit_owners.specs.Linking.{AllStandAt, StandsAt}
use Rattle.audit_owners.specs.Owned.{AreBytes}
use Rattle.audit_owners.specs.View.{View, view_in}
use Rattle.audit_owners.specs.declared.owner.Owner.TheVariants as owners
use Rattle.audit_world.proofs.OwnLemmas.{IsAudited}
use Rattle.audit_world.proofs.RegionLemmas.{audited}
use Rattle.audit_world.proofs.TiesLemmas as ties
use Rattle.audit_world.specs.Told.{accounts_told, name_told, world_of, world_told}
use Rattle.sdr_audit.proofs.MembersLemmas.{name_members, region, ticket_members}
use Rattle.sdr_audit.proofs.ReadLemmas.{FitsWords, name_told_back, ticket_back, told_rows}
use Rattle.sdr_audit.proofs.ThingLemmas.{thing_is}
use Rattle.sdr_audit.proofs.KeptLemmas.{All-unmap}
use Rattle.sdr_audit.proofs.SoundLemmas.{world_sound}
use Rattle.sdr_audit.proofs.SoundStandLemmas.{All-left, All-right, others_stand}
use Rattle.sdr_audit.proofs.WorldLemmas.{world_owned}

-- what is within amounts that fit a word fits one
within_small : (few most : ℕ) → nat_le few most ≡ true → most < 2 ^ 64 → few < 2 ^ 64
within_small few most is small = let le = leb-true few most is in omega (arith, le, small)

module _ (bytes : List ℕ) (w : World) (P : Pools) (s : StandsForWhole bytes w P) where
  abbrev heap : View
  heap = view_in bytes

  abbrev words : ℕ
  words = length bytes / 8

  pub heap_audited : AreBytes bytes → IsAudited heap words
  heap_audited are =
      audited bytes (region bytes w P s) (record { small = P.small; large = P.large; sound = world_sound bytes w P s are }) are
      (world_owned bytes w P (region bytes w P s) s)

  -- the catalogue that is told
  pub names_are : map (name_told heap) (members heap words owners.Catalogue) ≡ w.names
  names_are =
      ap (map (name_told heap)) (name_members bytes w P s)
      ∙ told_rows heap name_addr name_block name_row (name_told heap) FitsName (name_told_back heap) 0 0 w.names s.fits.names
      (All-left (StandsAt heap) (catalogue_entries (map name_row w.names))
      (queue_entries w.accounts accts.Inbound ++ queue_entries w.accounts accts.Outbound)
      (others_stand heap w s.stands.blocks))

  -- the numbers of a valid ticket fit their words
  few_ticket : (t : Ticket) → IsValidTicket t → FitsTicket t → t.number < w.accounts.next → FitsWords t
  few_ticket t valid fits below =
      let asked =
      and_parts (nat_le t.asked.file most_amount && nat_le t.asked.bulk most_amount) (nat_le t.asked.heap most_amount) valid.asked in
      let two = and_parts (nat_le t.asked.file most_amount) (nat_le t.asked.bulk most_amount) asked.0 in
      let left =
      and_parts (nat_le t.left.file t.asked.file && nat_le t.left.bulk t.asked.bulk) (nat_le t.left.heap t.asked.heap) valid.left in
      let first = and_parts (nat_le t.left.file t.asked.file) (nat_le t.left.bulk t.asked.bulk) left.0 in
      let next = s.whole.queues.next in
      let coarse = fits.coarse in
      let fine = fits.fine in
      let file = within_small t.asked.file most_amount two.0 (omega arith) in
      let bulk = within_small t.asked.bulk most_amount two.1 (omega arith) in
      let space = within_small t.asked.heap most_amount asked.1 (omega arith) in
      record {
        number = omega (arith, below, next);
        coarse = omega (arith, coarse);
        fine = omega (arith, fine);
        asked_file = file;
        asked_bulk = bulk;
        asked_heap = space;
        left_file = within_small t.left.file t.asked.file first.0 file;
        left_bulk = within_small t.left.bulk t.asked.bulk first.1 bulk;
        left_heap = within_small t.left.heap t.asked.heap left.1 space;
      }

  few_tickets : (ts : List Ticket) → All IsValidTicket ts → All FitsTicket ts → All (λ (t : Ticket). t.number < w.accounts.next) ts →
      All FitsWords ts
  few_tickets [] valid fits below = All-nil FitsWords
  few_tickets (t ∷ ts) valid fits below =
      All-cons FitsWords t ts
      (few_ticket t (All-head IsValidTicket t ts valid) (All-head FitsTicket t ts fits)
      (All-head (λ (t : Ticket). t.number < w.accounts.next) t ts below))
      (few_tickets ts (All-tail IsValidTicket t ts valid) (All-tail FitsTicket t ts fits)
      (All-tail (λ (t : Ticket). t.number < w.accounts.next) t ts below))

  -- the tickets that are told
  queue_are : (account : Acct) → All FitsWords (tickets_of w.accounts account) → AllStandAt heap (queue_entries w.accounts account) →
      tickets heap words account ≡ tickets_of w.accounts account
  queue_are account fits stand =
      ap (map (ticket_in heap)) (ticket_members bytes w P s account)
      ∙ told_rows heap ticket_addr (ticket_block account) ticket_row (ticket_in heap) FitsWords (ticket_back heap account) 0 0
      (tickets_of w.accounts account) fits
      stand

  queues_stand : AllStandAt heap (queue_entries w.accounts accts.Inbound ++ queue_entries w.accounts accts.Outbound)
  queues_stand =
      All-right (StandsAt heap) (catalogue_entries (map name_row w.names))
      (queue_entries w.accounts accts.Inbound ++ queue_entries w.accounts accts.Outbound)
      (others_stand heap w s.stands.blocks)

  below : All (λ (t : Ticket). t.number < w.accounts.next) (w.accounts.inbound.tickets ++ w.accounts.outbound.tickets)
  below =
      All-unmap (λ n. n < w.accounts.next) (λ (t : Ticket). t.number)
      (w.accounts.inbound.tickets ++ w.accounts.outbound.tickets) s.whole.queues.below

  pub tickets_are : (account : Acct) → tickets heap words account ≡ tickets_of w.accounts account
  tickets_are accts.Inbound =
      queue_are accts.Inbound
      (few_tickets w.accounts.inbound.tickets s.whole.queues.inbound.tickets s.fits.inbound
      (All-left (λ (t : Ticket). t.number < w.accounts.next) w.accounts.inbound.tickets w.accounts.outbound.tickets below))
      (All-left (StandsAt heap) (queue_entries w.accounts accts.Inbound) (queue_entries w.accounts accts.Outbound) queues_stand)
  tickets_are accts.Outbound =
      queue_are accts.Outbound
      (few_tickets w.accounts.outbound.tickets s.whole.queues.outbound.tickets s.fits.outbound
      (All-right (λ (t : Ticket). t.number < w.accounts.next) w.accounts.inbound.tickets w.accounts.outbound.tickets below))
      (All-right (StandsAt heap) (queue_entries w.accounts accts.Inbound) (queue_entries w.accounts accts.Outbound) queues_stand)

  -- the maxima that are told
  pub maxima_are : (account : Acct) → amounts_in heap account FILE_MAXIMUM ≡ (account_of w.accounts account).maxima
  unfolding roots_by
  maxima_are accts.Inbound = λ i. record { file = s.stands.roots i 95; bulk = s.stands.roots i 96; heap = s.stands.roots i 97 }
  maxima_are accts.Outbound = λ i. record { file = s.stands.roots i 103; bulk = s.stands.roots i 104; heap = s.stands.roots i 105 }

  pub next_is : heap.roots NEXT_TICKET ≡ w.accounts.next
  unfolding roots_by
  next_is = λ i. s.stands.roots i 108

  accounts_are : accounts_told heap words ≡ w.accounts
  accounts_are = λ i. record {
    inbound = record { tickets = tickets_are accts.Inbound i; maxima = maxima_are accts.Inbound i };
    outbound = record { tickets = tickets_are accts.Outbound i; maxima = maxima_are accts.Outbound i };
    next = next_is i;
  }

  -- all that is told
  pub world_is : AreBytes bytes → world_of bytes ≡ w
  world_is are =
      let things =
      finite.same_map nat_cmp_total finite.nat_cmp-IsAntisymmetric (world_told heap words).things w.things
      (λ q. ties.thing_is heap words (heap_audited are) q ∙ thing_is bytes w P s q) in
      λ i. record {
        things = things i;
        names = names_are i;
        accounts = accounts_are i;
        marks = sym s.stands.marks i;
        shown = sym s.stands.shown i;
        taken = sym s.stands.taken i;
      }
