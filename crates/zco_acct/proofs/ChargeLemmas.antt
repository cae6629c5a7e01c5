-- What a charge comes to, from what its parts do.
use Rattle.std.proofs.Common.{◌≡◌, ℕ, List, [], ◌∷◌, ◌++◌, true, false, cond, None, Some, sym, ap, ◌∙◌, subst, arith, eq-eqb}
use Rattle.std.specs.Prelude.{Option, find}
use Rattle.std.specs.Option.{option_or}
use Rattle.sdr_base.specs.Blocks.{Blocks}
use Rattle.sdr_base.specs.Entries.{Entries, BlocksAre}
use Rattle.sdr_base.specs.Making.{besides}
use Rattle.sdr_base.specs.Objects.{Heap, OnlyUnmoved}
use Rattle.sdr_base.specs.declared.account.Acct.{Acct}
use Rattle.sdr_base.specs.declared.account.Amounts.{Amounts}
use Rattle.sdr_base.specs.declared.refusal.Refusal.{Refusal}
use Rattle.sdr_base.specs.declared.refusal.Refusal.TheVariants as refusals
use Rattle.sdr_base.specs.declared.stop.Stop.{Stop}
use Rattle.sdr_base.specs.declared.stop.Stop.TheVariants.{Refused, DiskFault, MediaFault, Failed}
use Rattle.sdr_base.proofs.HeapLemmas.{heap_blocks}
use Rattle.sdr_base.proofs.WritingLemmas.{reaches_less}
use Rattle.sdr_model.specs.Amounts.{minus, plus}
use Rattle.sdr_model.specs.declared.accounts.Ticket.{Ticket}
use Rattle.zco_acct.specs.Charges.{ChargesAccount, ChargeStops, SomeGrant, UsesGrant, charged, tickets_covered}
use Rattle.zco_acct.specs.Kept.{SomeQueue, queue_entries}
use Rattle.zco_acct.specs.Refusals.{Allows, GrantsOf, IsGrant, IsUsable, RefusedAs, charge_refusal, left_of, named_ticket, room_refusal, ticket_left, ticket_refusal, uncovered_by, unusable}
use Rattle.zco_acct.specs.Walks.{has_number}
use Rattle.zco_acct.specs.Words.{maxima_in, occupied_in, with_occupied}
use Rattle.zco_acct.specs.declared.queue.Found.{Found}
use Rattle.zco_acct.proofs.GrantLemmas.{regranted}
use Rattle.zco_acct.proofs.QueueLemmas.{found_is, found_there}
use Rattle.zco_acct.proofs.TicketLemmas.{ticket_reaches}

-- the ticket that a charge names isn't refused
pub usable : (number : ℕ) (tickets : List Ticket) (grant : Option Found) → IsGrant number tickets grant →
    ticket_refusal tickets number ≡ None
usable number tickets None is =
    ap (λ b. cond b None (unusable number (find (has_number number) tickets))) (eq-eqb number 0 is)
usable number tickets (Some found) is =
    ap (λ b. cond b None (unusable number (find (has_number number) tickets))) is.nonzero
    ∙ ap (unusable number) (found_is is.first)
    ∙ ap (λ b. cond b None (Some (refusals.NotAwarded number))) is.granted

-- what is left of its grant
pub left_is : (number : ℕ) (tickets : List Ticket) (grant : Option Found) → IsGrant number tickets grant →
    ticket_left (named_ticket tickets number) ≡ left_of grant
left_is number tickets None is =
    ap (λ b. ticket_left (cond b None (find (has_number number) tickets))) (eq-eqb number 0 is)
left_is number tickets (Some found) is =
    ap (λ b. ticket_left (cond b None (find (has_number number) tickets))) is.nonzero
    ∙ ap ticket_left (found_is is.first)

-- the tickets where the grant of the first of a number is used
used : (number : ℕ) (amounts : Amounts) (xs : List Ticket) (t : Ticket) (ys : List Ticket) →
    find (has_number number) xs ≡ None → has_number number t ≡ true →
    tickets_covered number amounts (xs ++ (t ∷ ys)) ≡ xs ++ (record t { left = minus t.left amounts } ∷ ys)
unfolding tickets_covered
used number amounts [] t ys none is =
    ap (λ v. cond v (record t { left = minus t.left amounts } ∷ ys) (t ∷ tickets_covered number amounts ys)) is
used number amounts (x ∷ xs) t ys none is =
    elim (has_number number x) as (λ v. cond v (Some x) (find (has_number number) xs) ≡ None →
    cond v (record x { left = minus x.left amounts } ∷ (xs ++ (t ∷ ys)))
    (x ∷ tickets_covered number amounts (xs ++ (t ∷ ys)))
    ≡ x ∷ (xs ++ (record t { left = minus t.left amounts } ∷ ys))) [
      | true ↦ λ k. let d : Some x ≡ None = k in cc
      | false ↦ λ k. ap (λ (l : List Ticket). x ∷ l) (used number amounts xs t ys k is)
    ] none

-- a ticket that is granted, granted again
still_granted : (t : Ticket) (left : Amounts) → t.granted ≡ true →
    record t { left = left; granted = true } ≡ record t { left = left }
still_granted t left g = λ i. record t { left = left; granted = sym g i }

-- the tickets after a charge
pub charged_is : {number : ℕ} {tickets : List Ticket} {found : Found} (amounts : Amounts) →
    (is : IsUsable number tickets found) →
    charged tickets number amounts
    ≡ is.first.before ++ (record found.ticket { left = minus found.ticket.left amounts; granted = true } ∷ is.first.behind)
charged_is {number} {tickets} {found} amounts is =
    let f = is.first in
    ap (λ b. cond b tickets (tickets_covered number amounts tickets)) is.nonzero
    ∙ ap (tickets_covered number amounts) f.whole
    ∙ used number amounts f.before found.ticket f.behind f.none f.passes
    ∙ ap (λ (x : Ticket). f.before ++ (x ∷ f.behind))
    (sym (still_granted found.ticket (minus found.ticket.left amounts) is.granted))

-- the blocks of the queue after a charge
stands_charged : (old mid : Heap) (acct : Acct) (number : ℕ) (amounts : Amounts) (tickets : List Ticket) (grant : Option Found) →
    IsGrant number tickets grant → UsesGrant grant amounts old mid → (rest : Entries) →
    BlocksAre old.blocks (queue_entries acct tickets ++ rest) →
    BlocksAre mid.blocks (queue_entries acct (charged tickets number amounts) ++ rest)
stands_charged old mid acct number amounts tickets None is u rest s =
    subst (λ (b : Blocks). BlocksAre b (queue_entries acct (charged tickets number amounts) ++ rest))
    (sym (heap_blocks u))
    (subst (λ (ts : List Ticket). BlocksAre old.blocks (queue_entries acct ts ++ rest))
    (sym (ap (λ b. cond b tickets (tickets_covered number amounts tickets)) (eq-eqb number 0 is))) s)
stands_charged old mid acct number amounts tickets (Some found) is u rest s =
    let f = is.first in
    subst (λ (ts : List Ticket). BlocksAre mid.blocks (queue_entries acct ts ++ rest)) (sym (charged_is amounts is))
    (regranted old.blocks mid.blocks acct rest f.before found.ticket f.behind (minus found.ticket.left amounts)
    (heap_blocks u)
    (subst (λ (ts : List Ticket). BlocksAre old.blocks (queue_entries acct ts ++ rest)) f.whole s))

-- all but the blocks stays where a grant is used
pub used_besides : (old mid : Heap) (amounts : Amounts) (grant : Option Found) → UsesGrant grant amounts old mid →
    besides mid ≡ besides old
used_besides old mid amounts None u = ap besides u
used_besides old mid amounts (Some found) u = ap besides u

-- a charge is allowed where its ticket may be used and there is room for what isn't covered
pub may_charge : {heap : Heap} {acct : Acct} {number : ℕ} (amounts : Amounts) (grant : Option Found) →
    GrantsOf heap acct number grant →
    Allows heap acct (λ tickets. room_refusal tickets (minus amounts (left_of grant)) (occupied_in heap acct) (maxima_in heap acct)) →
    Allows heap acct (λ tickets. charge_refusal tickets number amounts (occupied_in heap acct) (maxima_in heap acct))
may_charge {heap} {acct} {number} amounts grant g free = record {
  none = λ tickets k.
      ap (λ (o : Option Refusal). option_or o
      (room_refusal tickets (uncovered_by tickets number amounts) (occupied_in heap acct) (maxima_in heap acct)))
      (usable number tickets grant (g.grants tickets k))
      ∙ ap (λ a. room_refusal tickets (minus amounts a) (occupied_in heap acct) (maxima_in heap acct))
      (left_is number tickets grant (g.grants tickets k))
      ∙ free.none tickets k;
}

-- the whole call
pub charges : (old mid new : Heap) {acct : Acct} {number : ℕ} {amounts after : Amounts} (grant : Option Found) →
    GrantsOf old acct number grant →
    after ≡ plus (occupied_in old acct) (minus amounts (left_of grant)) →
    Allows old acct (λ tickets. room_refusal tickets (minus amounts (left_of grant)) (occupied_in old acct) (maxima_in old acct)) →
    UsesGrant grant amounts old mid → new ≡ with_occupied mid acct after → ChargesAccount acct number amounts old new
charges old mid new {acct} {number} {amounts} {after} grant g sum free u w = record {
  allows = may_charge amounts grant g free;
  changes = λ tickets k. record {
    kept = λ rest s.
        subst (λ (b : Blocks). BlocksAre b (queue_entries acct (charged tickets number amounts) ++ rest)) (sym (heap_blocks w))
        (stands_charged old mid acct number amounts tickets grant (g.grants tickets k) u rest s);
  };
  others = λ tickets k.
      ap besides w ∙ ap (λ (h : Heap). with_occupied h acct after) (used_besides old mid amounts grant u)
      ∙ ap (λ a. besides (with_occupied old acct a)) sum
      ∙ ap (λ a. besides (with_occupied old acct (plus (occupied_in old acct) (minus amounts a))))
      (sym (left_is number tickets grant (g.grants tickets k)));
}

-- the grant is there
pub some_grant : {heap : Heap} {acct : Acct} {number : ℕ} (grant : Option Found) → SomeQueue heap acct →
    GrantsOf heap acct number grant → SomeGrant grant heap
some_grant None k g = tt
some_grant (Some found) k g =
    reaches_less _ 96 88
    (ticket_reaches (record {
      acct = _;
      next = _;
      ticket = found.ticket;
      keeps = found_there k.keeps (g.grants k.tickets k.keeps).first;
    })) (omega arith)

-- a charge that is allowed stops where there is no log room
pub stops_full : (old : Heap) (acct : Acct) (number : ℕ) (amounts : Amounts) (new : Heap) (stop : Stop) →
    Allows old acct (λ tickets. charge_refusal tickets number amounts (occupied_in old acct) (maxima_in old acct)) →
    OnlyUnmoved old new stop → ChargeStops acct number amounts old new stop
stops_full old acct number amounts new (Refused (refusals.LogFull lines room)) allows u = (allows, u)
stops_full old acct number amounts new (Refused refusal) allows u = absurd u
stops_full old acct number amounts new DiskFault allows u = tt
stops_full old acct number amounts new MediaFault allows u = absurd u
stops_full old acct number amounts new Failed allows u = tt

-- a charge stops for its ticket
pub stops_ticket : (old : Heap) (acct : Acct) (number : ℕ) (amounts : Amounts) (new : Heap) (stop : Stop) → new ≡ old →
    RefusedAs old acct (λ tickets. ticket_refusal tickets number) stop → ChargeStops acct number amounts old new stop
stops_ticket old acct number amounts new (Refused (refusals.LogFull lines room)) same r = absurd r
stops_ticket old acct number amounts new (Refused refusal) same r = (
  record {
    some = λ tickets k.
        ap (λ (o : Option Refusal). option_or o
        (room_refusal tickets (uncovered_by tickets number amounts) (occupied_in old acct) (maxima_in old acct)))
        (r.some tickets k);
  },
  same,
)
stops_ticket old acct number amounts new DiskFault same r = tt
stops_ticket old acct number amounts new MediaFault same r = absurd r
stops_ticket old acct number amounts new Failed same r = tt

-- it stops for what its ticket's grant doesn't cover
pub stops_room : (old : Heap) (acct : Acct) (number : ℕ) (amounts : Amounts) (grant : Option Found) (new : Heap) (stop : Stop) →
    GrantsOf old acct number grant → new ≡ old →
    RefusedAs old acct (λ tickets. room_refusal tickets (minus amounts (left_of grant)) (occupied_in old acct) (maxima_in old acct)) stop →
    ChargeStops acct number amounts old new stop
stops_room old acct number amounts grant new (Refused (refusals.LogFull lines room)) g same r = absurd r
stops_room old acct number amounts grant new (Refused refusal) g same r = (
  record {
    some = λ tickets k.
        ap (λ (o : Option Refusal). option_or o
        (room_refusal tickets (uncovered_by tickets number amounts) (occupied_in old acct) (maxima_in old acct)))
        (usable number tickets grant (g.grants tickets k))
        ∙ ap (λ a. room_refusal tickets (minus amounts a) (occupied_in old acct) (maxima_in old acct))
        (left_is number tickets grant (g.grants tickets k))
        ∙ r.some tickets k;
  },
  same,
)
stops_room old acct number amounts grant new DiskFault g same r = tt
stops_room old acct number amounts grant new MediaFault g same r = absurd r
stops_room old acct number amounts grant new Failed g same r = tt
