-- The queues of a told world keep their law.
use Rattle.std.proofs.Common.{◌≡◌, ◌≤◌, ◌<◌, ◌*◌, ◌/◌, ◌==◌, ◌&&◌, ◌||◌, ℕ, Bool, List, true, false, length, nat_eq, take, arith, ap, ◌∙◌, refl, sym, subst, eqb-true}
use Rattle.std.specs.Prelude.{All, IfSome, nat_le, nat_lt}
use Rattle.std.specs.List.{IsDistinct, slice_index_or}
use Rattle.std.proofs.lemmas.Bool.{and_from, and_parts, le-leb, leb-true}
use Rattle.std.proofs.lemmas.List.{map-append}
use Rattle.std.proofs.lemmas.List.Elements.{All-append, All-map}
use Rattle.sdr_base.specs.KeptHeap.{root_in}
use Rattle.sdr_base.specs.Stored.{number_at}
use Rattle.sdr_base.specs.declared.account.Acct.{Acct}
use Rattle.sdr_base.specs.declared.account.Acct.TheVariants as accts
use Rattle.sdr_base.specs.declared.account.Amounts.{Amounts}
use Rattle.sdr_base.specs.declared.kind.Kind.TheVariants as kinds
use Rattle.sdr_base.specs.declared.kind.Space.TheVariants as spaces
use Rattle.audit_counts.specs.Counted.{IsCounted}
use Rattle.audit_owners.specs.Members.{members}
use Rattle.audit_counts.specs.Queues as queues
use Rattle.audit_counts.specs.Queues.{AreLawful, IsLawful, amounts_in, is_left_rightly, room, ticket_in, tickets}
use Rattle.sdr_model.specs.Accounts.{most_amount}
use Rattle.sdr_model.specs.Amounts.{amounts_by, are_within, is_nothing, minus, no_amounts}
use Rattle.sdr_model.specs.Charges.{rooms}
use Rattle.sdr_model.specs.Queue.{front_waiting}
use Rattle.sdr_model.specs.Valid.{IsBarred, IsValidAccount, IsValidTicket, KeepQueues}
use Rattle.sdr_model.specs.declared.accounts.Ticket.{Ticket}
use Rattle.audit_owners.specs.Chains.{first_link, is_member}
use Rattle.audit_owners.specs.View.{View, is_kind, view_in, word_of}
use Rattle.audit_owners.specs.declared.owner.Owner.TheVariants as owners
use Rattle.audit_world.proofs.LayoutLemmas.{HasLayout, word_told}
use Rattle.audit_world.proofs.OccupiedLemmas.{all_so, goes_members, occupancy_told}
use Rattle.audit_world.proofs.OwnLemmas.{IsAudited, layout_of, own_of}
use Rattle.audit_world.proofs.PartLemmas.{queue_chain}
use Rattle.audit_world.proofs.RootLemmas.{root_is}
use Rattle.audit_world.specs.Told.{account_in, world_of}
use Rattle.audit_blocks.specs.Content.{field, is_flag}
use Rattle.audit_blocks.specs.Control.{ControlIsRight, may_be}

-- what the layout of a ticket asks of its first bytes, and of its length
pub record IsTicket (count : ℕ) (first : List ℕ) : Type 0 where
  pub long : count ≡ 96
  pub coarse : field first 2 ≤ 255
  pub fine : field first 3 ≤ 255
  pub file : field first 4 ≤ most_amount
  pub bulk : field first 5 ≤ most_amount
  pub heap : field first 6 ≤ most_amount

pub is_ticket_so : (bytes : List ℕ) → HasLayout kinds.Ticket bytes → IsTicket (length bytes) (take 96 bytes)
is_ticket_so bytes l =
    let first : List ℕ = take 96 bytes in
    let p = and_parts _ (is_flag (field first 10)) l in
    let q = and_parts _ (nat_le (field first 6) most_amount) p.0 in
    let r = and_parts _ (nat_le (field first 5) most_amount) q.0 in
    let s = and_parts _ (nat_le (field first 4) most_amount) r.0 in
    let t = and_parts _ (nat_le (field first 3) 255) s.0 in
    let u = and_parts _ (nat_le (field first 2) 255) t.0 in
    let v = and_parts _ (is_flag (field first 1)) u.0 in
    let w = and_parts (length bytes == 96) (nat_le (field first 0) most_amount) v.0 in
    record {
      long = eqb-true (length bytes) 96 w.0;
      coarse = leb-true (field first 2) 255 u.1;
      fine = leb-true (field first 3) 255 t.1;
      file = leb-true (field first 4) most_amount s.1;
      bulk = leb-true (field first 5) most_amount r.1;
      heap = leb-true (field first 6) most_amount q.1;
    }

-- amounts that are nothing are none
nothing_is : (a : Amounts) → is_nothing a ≡ true → a ≡ no_amounts
nothing_is a is =
    let p = and_parts (a.file == 0 && a.bulk == 0) (a.heap == 0) is in
    let q = and_parts (a.file == 0) (a.bulk == 0) p.0 in
    let file = eqb-true a.file 0 q.0 in
    let bulk = eqb-true a.bulk 0 q.1 in
    let heap = eqb-true a.heap 0 p.1 in
    λ i. record { file = file i; bulk = bulk i; heap = heap i }

-- a ticket that waits has nothing left
waiting_so : (t : Ticket) → is_left_rightly t ≡ true → t.granted ≡ false → t.left ≡ no_amounts
waiting_so t right waits =
    let p = and_parts (are_within t.left t.asked) (t.granted || is_nothing t.left) right in
    nothing_is t.left (sym (ap (λ (b : Bool). b || is_nothing t.left) waits) ∙ p.1)

module _ (heap : View) (words : ℕ) (a : IsAudited heap words) where
  -- what the ticket at an address asks is at most the greatest amount
  asked_few : (addr : ℕ) → is_kind kinds.Ticket (heap.blocks addr) ≡ true → are_within (ticket_in heap addr).asked (amounts_by (λ space. most_amount)) ≡ true
  asked_few addr is =
      let b = own_of heap words a kinds.Ticket addr is in
      let l = is_ticket_so b.own.bytes (layout_of heap words a kinds.Ticket addr b) in
      let long = l.long in
      let file = word_told (heap.blocks addr) b.own 4 b.is (omega (arith, long)) (omega arith) in
      let bulk = word_told (heap.blocks addr) b.own 5 b.is (omega (arith, long)) (omega arith) in
      let space = word_told (heap.blocks addr) b.own 6 b.is (omega (arith, long)) (omega arith) in
      and_from (nat_le (word_of (heap.blocks addr) 4) most_amount && nat_le (word_of (heap.blocks addr) 5) most_amount) (nat_le (word_of (heap.blocks addr) 6) most_amount)
      (and_from (nat_le (word_of (heap.blocks addr) 4) most_amount) (nat_le (word_of (heap.blocks addr) 5) most_amount)
      (ap (λ (n : ℕ). nat_le n most_amount) file ∙ le-leb (field (take 96 b.own.bytes) 4) most_amount l.file)
      (ap (λ (n : ℕ). nat_le n most_amount) bulk ∙ le-leb (field (take 96 b.own.bytes) 5) most_amount l.bulk))
      (ap (λ (n : ℕ). nat_le n most_amount) space ∙ le-leb (field (take 96 b.own.bytes) 6) most_amount l.heap)

  -- the blocks in a queue are tickets
  pub ticket_members : (account : Acct) → All (λ n. is_member heap (owners.Queue account) n ≡ true) (members heap words (owners.Queue account))
  ticket_members account =
      goes_members heap words (owners.Queue account) 0 (first_link heap (owners.Queue account)) (members heap words (owners.Queue account)) (queue_chain heap words a account).last 0
      (queue_chain heap words a account).goes

  -- the tickets of an account are valid
  tickets_valid : (account : Acct) → IsLawful heap words account → All IsValidTicket (tickets heap words account)
  tickets_valid account lawful =
      let asked : All (λ t. are_within t.asked (amounts_by (λ space. most_amount)) ≡ true) (tickets heap words account) =
      All-map (λ (t : Ticket). are_within t.asked (amounts_by (λ space. most_amount)) ≡ true) (ticket_in heap) (members heap words (owners.Queue account))
      (all_so (λ n. is_member heap (owners.Queue account) n ≡ true) (λ n. are_within (ticket_in heap n).asked (amounts_by (λ space. most_amount)) ≡ true)
      (λ n member. asked_few n member) (members heap words (owners.Queue account)) (ticket_members account)) in
      λ k d less. record {
        asked = asked k d less;
        left = (and_parts _ _ (lawful.queue.left k d less)).0;
        waiting = waiting_so (slice_index_or (tickets heap words account) k d) (lawful.queue.left k d less);
      }

module _ (bytes : List ℕ) (right : ControlIsRight bytes) (a : IsAudited (view_in bytes) (length bytes / 8)) (lawful : AreLawful (view_in bytes) (length bytes / 8)) where
  -- a control word that is a maximum
  maximum_at : (word : ℕ) → nat_le 89 word ≡ true → nat_lt word 128 ≡ true → ((v : ℕ) → may_be bytes word v ≡ nat_le v most_amount) → word < 128 → nat_le (root_in bytes word) most_amount ≡ true
  maximum_at word low high most below =
      ap (λ (n : ℕ). nat_le n most_amount) (root_is bytes word (λ i. low i && high i)) ∙ sym (most (number_at (8 * word) bytes)) ∙ right word below

  next_at : (nat_le 1 (root_in bytes 108) && nat_le (root_in bytes 108) most_amount) ≡ true
  next_at = ap (λ (n : ℕ). nat_le 1 n && nat_le n most_amount) (root_is bytes 108 refl) ∙ right 108 (omega arith)

  -- the next ticket has a number from 1 on
  pub next_least : 1 ≤ root_in bytes 108
  next_least = leb-true 1 (root_in bytes 108) (and_parts (nat_le 1 (root_in bytes 108)) (nat_le (root_in bytes 108) most_amount) next_at).0

  maxima_few : (account : Acct) → are_within (amounts_in (view_in bytes) account 3) (amounts_by (λ space. most_amount)) ≡ true
  maxima_few accts.Inbound =
      and_from _ _ (and_from _ _ (maximum_at 95 refl refl (λ v. refl) (omega arith)) (maximum_at 96 refl refl (λ v. refl) (omega arith)))
      (maximum_at 97 refl refl (λ v. refl) (omega arith))
  maxima_few accts.Outbound =
      and_from _ _ (and_from _ _ (maximum_at 103 refl refl (λ v. refl) (omega arith)) (maximum_at 104 refl refl (λ v. refl) (omega arith)))
      (maximum_at 105 refl refl (λ v. refl) (omega arith))

  account_valid : (account : Acct) → IsLawful (view_in bytes) (length bytes / 8) account → IsValidAccount (account_in (view_in bytes) (length bytes / 8) account)
  account_valid account law = record {
    tickets = tickets_valid (view_in bytes) (length bytes / 8) a account law;
    order = law.queue.order;
    maxima = maxima_few account;
  }

  -- both queues keep their law
  pub queues_kept : KeepQueues (world_of bytes).accounts
  queues_kept =
      let heap : View = view_in bytes in
      let inbound : List Ticket = tickets heap (length bytes / 8) accts.Inbound in
      let outbound : List Ticket = tickets heap (length bytes / 8) accts.Outbound in
      let parts = map-append (λ (t : Ticket). t.number) inbound outbound in
      record {
        inbound = account_valid accts.Inbound lawful.inbound;
        outbound = account_valid accts.Outbound lawful.outbound;
        distinct = subst (IsDistinct nat_eq) (sym parts) lawful.outbound.distinct;
        below =
            subst (All (λ n. n < root_in bytes 108)) (sym parts)
            (All-append (λ n. n < root_in bytes 108) (queues.ticket_numbers inbound) (queues.ticket_numbers outbound) lawful.inbound.queue.below lawful.outbound.queue.below);
        next = leb-true (root_in bytes 108) most_amount (and_parts (nat_le 1 (root_in bytes 108)) (nat_le (root_in bytes 108) most_amount) next_at).1;
      }

  module _ (c : IsCounted (view_in bytes) (length bytes / 8)) where
    -- the room is what the control words tell
    room_same : (account : Acct) → room (view_in bytes) account ≡ rooms (world_of bytes) account
    room_same accts.Inbound =
        let told = occupancy_told (view_in bytes) (length bytes / 8) a c accts.Inbound in
        λ i. minus (amounts_in (view_in bytes) accts.Inbound 3) (record { file = told spaces.File i; bulk = told spaces.Bulk i; heap = told spaces.Heap i })
    room_same accts.Outbound =
        let told = occupancy_told (view_in bytes) (length bytes / 8) a c accts.Outbound in
        λ i. minus (amounts_in (view_in bytes) accts.Outbound 3) (record { file = told spaces.File i; bulk = told spaces.Bulk i; heap = told spaces.Heap i })

    -- the first ticket that waits asks for more
    pub queues_barred : (account : Acct) → IsBarred (world_of bytes) account
    queues_barred accts.Inbound =
        subst (λ (r : Amounts). IfSome (front_waiting (tickets (view_in bytes) (length bytes / 8) accts.Inbound)) (λ t. are_within t.asked r ≡ false)) (room_same accts.Inbound)
        lawful.inbound.queue.barred
    queues_barred accts.Outbound =
        subst (λ (r : Amounts). IfSome (front_waiting (tickets (view_in bytes) (length bytes / 8) accts.Outbound)) (λ t. are_within t.asked r ≡ false)) (room_same accts.Outbound)
        lawful.outbound.queue.barred
