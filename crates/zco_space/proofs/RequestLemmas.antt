-- A new ticket gets its number and its place, and the queue is served.
use Rattle.std.proofs.Common.{◌≡◌, ◌≤◌, ◌<◌, ◌+◌, ℕ, List, [], ◌∷◌, ◌++◌, Bool, true, false, cond, None, Some, refl, sym, ap, ◌∙◌, subst, take, drop}
use Rattle.std.specs.Prelude.{Option, nat_le}
use Rattle.std.specs.List.{prefix_len}
use Rattle.std.specs.Option.{option_map, option_map_or, option_or}
use Rattle.std.proofs.lemmas.Bool.{le-leb, lt-leb}
use Rattle.sdr_base.specs.Blocks.{Blocks}
use Rattle.sdr_base.specs.Entries.{BlocksAre}
use Rattle.sdr_base.specs.Making.{besides, with_moves}
use Rattle.sdr_base.specs.Objects.{Heap, OnlyShort, OnlyUnmoved, with_root}
use Rattle.sdr_base.specs.declared.account.Acct.{Acct}
use Rattle.sdr_base.specs.declared.account.Amounts.{Amounts}
use Rattle.sdr_base.specs.declared.kind.Space.{Space}
use Rattle.sdr_base.specs.declared.moves.Move.TheVariants.{Took}
use Rattle.sdr_base.specs.declared.refusal.Refusal.{Refusal}
use Rattle.sdr_base.specs.declared.refusal.Refusal.TheVariants as refusals
use Rattle.sdr_base.specs.declared.stop.Stop.{Stop}
use Rattle.sdr_base.specs.declared.stop.Stop.TheVariants.{Refused, DiskFault, MediaFault, Failed}
use Rattle.sdr_base.proofs.HeapLemmas.{heap_blocks}
use Rattle.sdr_model.specs.AccountSteps.{new_ticket}
use Rattle.sdr_model.specs.Accounts.{most_amount}
use Rattle.sdr_model.specs.Amounts.{amount, first_above}
use Rattle.sdr_model.specs.Queue.{enqueued, served, stands_before}
use Rattle.sdr_model.specs.declared.accounts.Ticket.{Ticket}
use Rattle.zco_acct.specs.Kept.{KeepsQueue, SomeQueue, queue_entries}
use Rattle.zco_acct.specs.Walks.{Searches, has_number}
use Rattle.zco_acct.specs.Words.{first_word, last_word, maxima_in, occupied_in, with_occupied}
use Rattle.zco_acct.specs.declared.queue.Found.{Found}
use Rattle.zco_acct.proofs.QueueLemmas.{found_is}
use Rattle.zco_space.specs.Links.{with_ends}
use Rattle.zco_space.specs.Places.{EntersQueue, at_addr}
use Rattle.zco_space.specs.Requests.{IsNumbered, NumberStops, RequestsTicket, RequestStops, TellsGranted, request_refusal, requested, requests_granted, with_request}
use Rattle.zco_space.specs.Served.{ServesQueue, newly_granted, occupied_after, queue_served}
use Rattle.zco_space.proofs.RootLemmas.{first_of_next, last_of_next, maxima_of_ends, maxima_of_next, occupied_of_ends, occupied_of_next}
use Rattle.zco_space.proofs.ServedLemmas.{count_after, count-moved, count_served}

-- whether a ticket is granted, as the search found it
pub told_found : {heap : Heap} {acct : Acct} {number : ℕ} (found : Found) → Searches heap acct (has_number number) (Some found) →
    TellsGranted acct number heap found.ticket.granted
told_found found s = record {
  tells = λ tickets k.
      ap (λ (o : Option Ticket). option_map_or (λ (t : Ticket). t.granted) o false) (sym (found_is (s.searched tickets k)));
}

pub told_none : {heap : Heap} {acct : Acct} {number : ℕ} → Searches heap acct (has_number number) None →
    TellsGranted acct number heap false
told_none s = record {
  tells = λ tickets k.
      ap (λ (o : Option Ticket). option_map_or (λ (t : Ticket). t.granted) o false) (sym (s.searched tickets k));
}

-- a number is given, or why not
abbrev used_up : Bool → Option Refusal
used_up b = cond b (Some (refusals.BadTicket most_amount)) None

module _ (heap : Heap) (acct : Acct) (asked most : Amounts) (m : most ≡ maxima_in heap acct) where
  abbrev above : Option Space → Option Refusal
  above = option_map (λ (space : Space). refusals.TooLarge space (amount asked space) (amount (maxima_in heap acct) space))

  pub too_large : (space : Space) → first_above asked most ≡ Some space →
      request_refusal heap acct asked ≡ Some (refusals.TooLarge space (amount asked space) (amount most space))
  too_large space e =
      ap (λ (o : Option Space). option_or (above o) (used_up (nat_le most_amount (heap.roots 108))))
      (ap (first_above asked) (sym m) ∙ e)
      ∙ ap (λ a. Some (refusals.TooLarge space (amount asked space) (amount a space))) (sym m)

  no_number : (b : Bool) → first_above asked most ≡ None → nat_le most_amount (heap.roots 108) ≡ b →
      request_refusal heap acct asked ≡ used_up b
  no_number b e f =
      ap (λ (o : Option Space). option_or (above o) (used_up (nat_le most_amount (heap.roots 108))))
      (ap (first_above asked) (sym m) ∙ e)
      ∙ ap used_up f

  pub numbers_used : (number : ℕ) → first_above asked most ≡ None → number ≡ heap.roots 108 → most_amount ≤ number →
      request_refusal heap acct asked ≡ Some (refusals.BadTicket most_amount)
  numbers_used number e n le =
      no_number true e (ap (nat_le most_amount) (sym n) ∙ le-leb most_amount number le)

  pub numbered : (number : ℕ) → first_above asked most ≡ None → number ≡ heap.roots 108 → number < most_amount →
      IsNumbered acct asked heap number
  numbered number e n lt = record {
    allowed = no_number false e (ap (nat_le most_amount) (sym n) ∙ lt-leb most_amount number lt);
    is_next = n;
    small = lt;
  }

-- a request is refused for want of a number, or of room
pub stops_unnumbered : (acct : Acct) (asked : Amounts) (old new : Heap) (stop : Stop) → new ≡ old →
    NumberStops acct asked old stop → RequestStops acct asked old new stop
stops_unnumbered acct asked old new (Refused (refusals.TooLarge space much most)) same s = (s, same)
stops_unnumbered acct asked old new (Refused (refusals.BadTicket ticket)) same s = (s, same)
stops_unnumbered acct asked old new (Refused refusal) same s = absurd s
stops_unnumbered acct asked old new DiskFault same s = s
stops_unnumbered acct asked old new MediaFault same s = s
stops_unnumbered acct asked old new Failed same s = s

-- or for want of a block or of log room
pub stops_short : (acct : Acct) (asked : Amounts) (old new : Heap) (stop : Stop) →
    request_refusal old acct asked ≡ None → OnlyShort 96 old new stop → RequestStops acct asked old new stop
stops_short acct asked old new (Refused (refusals.NoBlock need)) a u = (a, u)
stops_short acct asked old new (Refused (refusals.LogFull lines room)) a u = (a, u)
stops_short acct asked old new (Refused refusal) a u = absurd u
stops_short acct asked old new DiskFault a u = tt
stops_short acct asked old new MediaFault a u = absurd u
stops_short acct asked old new Failed a u = tt

-- a stop once the ticket is in its queue
pub short_since : {acct : Acct} {new : Ticket} {addr : ℕ} {old mid : Heap} (back last : Heap) (stop : Stop) → SomeQueue old acct →
    EntersQueue acct new old mid addr → back.moves ≡ mid.moves → back.spare ≡ mid.spare → OnlyUnmoved back last stop →
    OnlyShort 96 old last stop
short_since {addr = addr} back last (Refused (refusals.LogFull lines room)) q e m p u =
    let o = e.others q.tickets q.keeps in
    record {
      addr = addr;
      made = Took 96 addr ∷ [];
      first = record { rest = []; whole = refl };
      moves = u.moves ∙ m ∙ ap (λ (h : Heap). h.moves) o;
      spare = u.spare ∙ p ∙ ap (λ (h : Heap). h.spare) o;
    }
short_since back last (Refused refusal) q e m p u = absurd u
short_since back last DiskFault q e m p u = tt
short_since back last MediaFault q e m p u = absurd u
short_since back last Failed q e m p u = tt

-- the address of the new ticket doesn't matter
moved_there : (heap : Heap) (acct : Acct) (asked : Amounts) (coarse fine : ℕ) (tickets : List Ticket) (addr : ℕ) →
    count_served (maxima_in heap acct) (occupied_in heap acct) (requested heap asked coarse fine tickets addr)
    ≡ count_served (maxima_in heap acct) (occupied_in heap acct) (requested heap asked coarse fine tickets 0)
moved_there heap acct asked coarse fine tickets addr =
    let new = new_ticket (heap.roots 108) 0 asked coarse fine in
    let place = prefix_len (λ (t : Ticket). stands_before t new) tickets in
    count-moved (maxima_in heap acct) (occupied_in heap acct) (take place tickets) new addr 0 (drop place tickets)

-- the new ticket
abbrev pub asking : ℕ → Amounts → ℕ → ℕ → Ticket
asking number asked coarse fine = new_ticket number 0 asked coarse fine

module _ {acct : Acct} (asked : Amounts) (coarse fine : ℕ) {number addr : ℕ} {old mid back : Heap}
    (n : IsNumbered acct asked old number)
    (e : EntersQueue acct (asking number asked coarse fine) old mid addr)
    (w : back ≡ with_root mid 108 (number + 1)) where
  module _ {tickets : List Ticket} (k : KeepsQueue old acct tickets) where
    -- the queue with it
    enters_as : enqueued tickets (at_addr (asking number asked coarse fine) addr) ≡ requested old asked coarse fine tickets addr
    enters_as = ap (λ x. enqueued tickets (new_ticket x addr asked coarse fine)) n.is_next

    -- is kept
    pub kept_back : KeepsQueue back acct (requested old asked coarse fine tickets addr)
    kept_back =
        let m = e.keeps tickets k in
        subst (KeepsQueue back acct) enters_as (record {
          rest = m.rest;
          stands = subst (λ (b : Blocks). BlocksAre b
              (queue_entries acct (enqueued tickets (at_addr (asking number asked coarse fine) addr)) ++ m.rest))
              (sym (heap_blocks w)) m.stands;
          first = ap (λ (h : Heap). h.roots (first_word acct)) w ∙ first_of_next mid acct (number + 1) ∙ m.first;
          last = ap (λ (h : Heap). h.roots (last_word acct)) w ∙ last_of_next mid acct (number + 1) ∙ m.last;
          fits = m.fits;
        })

    maxima_back : maxima_in back acct ≡ maxima_in old acct
    maxima_back =
        ap (λ (h : Heap). maxima_in h acct) w ∙ maxima_of_next mid acct (number + 1)
        ∙ ap (λ (h : Heap). maxima_in h acct) (e.others tickets k)
        ∙ maxima_of_ends (with_moves old (Took 96 addr ∷ [])) acct
        (enqueued tickets (at_addr (asking number asked coarse fine) addr))

    occupied_back : occupied_in back acct ≡ occupied_in old acct
    occupied_back =
        ap (λ (h : Heap). occupied_in h acct) w ∙ occupied_of_next mid acct (number + 1)
        ∙ ap (λ (h : Heap). occupied_in h acct) (e.others tickets k)
        ∙ occupied_of_ends (with_moves old (Took 96 addr ∷ [])) acct
        (enqueued tickets (at_addr (asking number asked coarse fine) addr))

    -- what serving it comes to
    pub served_back : (queue : List Ticket) → queue_served back acct queue ≡ queue_served old acct queue
    served_back queue =
        ap (λ m. served m (occupied_in back acct) queue) maxima_back
        ∙ ap (λ o. served (maxima_in old acct) o queue) occupied_back

  -- the whole call
  pub requests : {new : Heap} {count : ℕ} {answer : Bool} → ServesQueue acct back new count →
      TellsGranted acct number new answer → RequestsTicket acct asked coarse fine old new (number, answer)
  requests {new} {count} {answer} v t = record {
    addr = addr;
    allowed = n.allowed;
    number = n.is_next;
    adds = λ tickets k.
        let a = e.adds tickets k in
        let queue = requested old asked coarse fine tickets addr in
        record {
          nonzero = a.nonzero;
          small = a.small;
          fresh = a.fresh;
          changes = record {
            kept = λ rest z.
                subst (λ (q : List Ticket). BlocksAre new.blocks (queue_entries acct q ++ rest)) (served_back k queue)
                ((v.changes queue (kept_back k)).kept rest
                (subst (λ (q : List Ticket). BlocksAre back.blocks (queue_entries acct q ++ rest)) (enters_as k)
                (subst (λ (b : Blocks). BlocksAre b
                (queue_entries acct (enqueued tickets (at_addr (asking number asked coarse fine) addr)) ++ rest))
                (sym (heap_blocks w)) (a.changes.kept rest z))));
          };
        };
    others = λ tickets k.
        let queue = requested old asked coarse fine tickets addr in
        let after = occupied_after (occupied_in back acct) queue (queue_served back acct queue) in
        let home = with_moves old (Took 96 addr ∷ []) in
        v.others queue (kept_back k)
        ∙ ap (λ (h : Heap). besides (with_occupied h acct after)) w
        ∙ ap (λ (h : Heap). with_occupied (with_root h 108 (number + 1)) acct after) (e.others tickets k)
        ∙ ap (λ (l : List Ticket). besides (with_occupied (with_root (with_ends home acct l) 108 (number + 1)) acct after)) (enters_as k)
        ∙ ap (λ x. besides (with_occupied (with_root (with_ends home acct queue) 108 (x + 1)) acct after)) n.is_next
        ∙ ap (λ (a : Amounts). besides (with_occupied (with_request old acct addr queue) acct
        (occupied_after a queue (queue_served back acct queue)))) (occupied_back k)
        ∙ ap (λ (l : List Ticket). besides (with_occupied (with_request old acct addr queue) acct
        (occupied_after (occupied_in old acct) queue l))) (served_back k queue);
    granted = λ tickets k.
        let queue = requested old asked coarse fine tickets addr in
        t.tells (queue_served old acct queue)
        (subst (KeepsQueue new acct) (served_back k queue) (v.keeps queue (kept_back k)));
  }

  -- how many are granted then
  pub granted_there : {tickets : List Ticket} (k : KeepsQueue old acct tickets) →
      newly_granted (requested old asked coarse fine tickets addr)
      (queue_served back acct (requested old asked coarse fine tickets addr))
      ≡ requests_granted old acct asked coarse fine tickets
  granted_there {tickets} k =
      ap (newly_granted (requested old asked coarse fine tickets addr)) (served_back k (requested old asked coarse fine tickets addr))
      ∙ sym (count_after (maxima_in old acct) (occupied_in old acct) (requested old asked coarse fine tickets addr))
      ∙ moved_there old acct asked coarse fine tickets addr
      ∙ count_after (maxima_in old acct) (occupied_in old acct) (requested old asked coarse fine tickets 0)
