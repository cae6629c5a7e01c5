-- A ticket goes, what was left of it is given back, and the queue is served.
use Rattle.std.proofs.Common.{◌≡◌, ℕ, List, [], ◌∷◌, ◌++◌, refl, sym, ap, ◌∙◌, arith, subst, append-nil}
use Rattle.std.specs.Option.{option_map_or}
use Rattle.std.specs.Prelude.{Option}
use Rattle.sdr_base.specs.Blocks.{Blocks}
use Rattle.sdr_base.specs.Entries.{BlocksAre}
use Rattle.sdr_base.specs.Making.{besides, with_moves}
use Rattle.sdr_base.specs.Objects.{Heap, OnlyUnmoved}
use Rattle.sdr_base.specs.declared.account.Acct.{Acct}
use Rattle.sdr_base.specs.declared.account.Acct.TheVariants as accts
use Rattle.sdr_base.specs.declared.account.Amounts.{Amounts}
use Rattle.sdr_base.specs.declared.moves.Move.TheVariants.{Gave}
use Rattle.sdr_base.specs.declared.refusal.Refusal.TheVariants.{LogFull}
use Rattle.sdr_base.specs.declared.stop.Stop.{Stop}
use Rattle.sdr_base.specs.declared.stop.Stop.TheVariants.{Refused, DiskFault, MediaFault, Failed}
use Rattle.sdr_base.proofs.HeapLemmas.{heap_blocks}
use Rattle.sdr_model.specs.Amounts.{minus}
use Rattle.sdr_model.specs.Queue.{served}
use Rattle.sdr_model.specs.declared.accounts.Ticket.{Ticket}
use Rattle.zco_acct.specs.Kept.{KeepsQueue, SomeQueue, queue_entries}
use Rattle.zco_acct.specs.Walks.{has_number}
use Rattle.zco_acct.specs.Words.{first_word, last_word, maxima_in, occupied_in, with_occupied}
use Rattle.zco_acct.specs.declared.queue.Found.{Found}
use Rattle.zco_space.specs.Links.{with_ends}
use Rattle.zco_space.specs.Located.{StandsIn}
use Rattle.zco_space.specs.Served.{ServesQueue, newly_granted, occupied_after, queue_served}
use Rattle.zco_space.specs.Shreds.{ShredsTicket, ShredStops, TakesOut, given_back, queue_of, shredded, shreds_granted, without_number}
use Rattle.zco_space.proofs.FindLemmas.{located_is}
use Rattle.zco_space.proofs.OutLemmas.{without_is}
use Rattle.zco_space.proofs.RootLemmas.{first_of_occupied, last_of_occupied, maxima_of_ends, maxima_of_occupied, occupied_again, occupied_of_ends, occupied_of_occupied}

module _ {number : ℕ} {acct : Acct} {found : Found} {old mid back : Heap} (s : StandsIn old number acct found)
    (t : TakesOut acct found old mid)
    (w : back ≡ with_occupied mid acct (minus (occupied_in mid acct) found.ticket.left)) where
  module _ {tickets : List Ticket} (k : KeepsQueue old acct tickets) where
    -- the queue without the ticket is kept
    pub kept_back : KeepsQueue back acct (without_number number tickets)
    kept_back =
        let m = t.keeps (has_number number) tickets k (s.first.searched tickets k) in
        let amounts = minus (occupied_in mid acct) found.ticket.left in
        subst (KeepsQueue back acct) (sym (without_is number (s.first.searched tickets k))) (record {
          rest = m.rest;
          stands = subst (λ (b : Blocks). BlocksAre b (queue_entries acct ((s.first.searched tickets k).before
              ++ (s.first.searched tickets k).behind) ++ m.rest)) (sym (heap_blocks w)) m.stands;
          first = ap (λ (h : Heap). h.roots (first_word acct)) w ∙ first_of_occupied mid acct amounts ∙ m.first;
          last = ap (λ (h : Heap). h.roots (last_word acct)) w ∙ last_of_occupied mid acct amounts ∙ m.last;
          fits = m.fits;
        })

    maxima_back : maxima_in back acct ≡ maxima_in old acct
    maxima_back =
        let f = s.first.searched tickets k in
        ap (λ (h : Heap). maxima_in h acct) w
        ∙ maxima_of_occupied mid acct (minus (occupied_in mid acct) found.ticket.left)
        ∙ ap (λ (h : Heap). maxima_in h acct) (t.others (has_number number) tickets k f)
        ∙ maxima_of_ends (with_moves old (Gave found.ticket.block ∷ [])) acct (f.before ++ f.behind)

    occupied_back : occupied_in back acct ≡ given_back old acct found.ticket
    occupied_back =
        let f = s.first.searched tickets k in
        ap (λ (h : Heap). occupied_in h acct) w
        ∙ occupied_of_occupied mid acct (minus (occupied_in mid acct) found.ticket.left)
        ∙ ap (λ (a : Amounts). minus a found.ticket.left)
        (ap (λ (h : Heap). occupied_in h acct) (t.others (has_number number) tickets k f)
        ∙ occupied_of_ends (with_moves old (Gave found.ticket.block ∷ [])) acct (f.before ++ f.behind))

    -- what serving it comes to
    pub served_back : queue_served back acct (without_number number tickets) ≡ shredded old acct number found.ticket tickets
    served_back =
        ap (λ m. served m (occupied_in back acct) (without_number number tickets)) maxima_back
        ∙ ap (λ o. served (maxima_in old acct) o (without_number number tickets)) occupied_back

  -- the whole call
  pub shreds : {new : Heap} {count : ℕ} → ServesQueue acct back new count → ShredsTicket number old new
  shreds {new} {count} v = record {
    acct = acct;
    ticket = found.ticket;
    is = located_is acct found s;
    changes = λ tickets k. record {
      kept = λ rest z.
          let f = s.first.searched tickets k in
          subst (λ (q : List Ticket). BlocksAre new.blocks (queue_entries acct q ++ rest)) (served_back k)
          ((v.changes (without_number number tickets) (kept_back k)).kept rest
          (subst (λ (q : List Ticket). BlocksAre back.blocks (queue_entries acct q ++ rest)) (sym (without_is number f))
          (subst (λ (b : Blocks). BlocksAre b (queue_entries acct (f.before ++ f.behind) ++ rest)) (sym (heap_blocks w))
          ((t.changes (has_number number) tickets k f).kept rest z))));
    };
    others = λ tickets k.
        let f = s.first.searched tickets k in
        let q = without_number number tickets in
        let amounts = minus (occupied_in mid acct) found.ticket.left in
        let after = occupied_after (occupied_in back acct) q (queue_served back acct q) in
        let home = with_moves old (Gave found.ticket.block ∷ []) in
        v.others q (kept_back k)
        ∙ ap (λ (h : Heap). besides (with_occupied h acct after)) w
        ∙ ap besides (occupied_again mid acct amounts after)
        ∙ ap (λ (h : Heap). with_occupied h acct after) (t.others (has_number number) tickets k f)
        ∙ ap (λ (l : List Ticket). besides (with_occupied (with_ends home acct l) acct after)) (sym (without_is number f))
        ∙ ap (λ (a : Amounts). besides (with_occupied (with_ends home acct q) acct
        (occupied_after a q (queue_served back acct q)))) (occupied_back k)
        ∙ ap (λ (l : List Ticket). besides (with_occupied (with_ends home acct q) acct
        (occupied_after (given_back old acct found.ticket) q l))) (served_back k);
  }

-- how many are granted then
pub granted_there : {number : ℕ} {acct : Acct} {found : Found} {old : Heap} → StandsIn old number acct found →
    (inbound outbound : List Ticket) → KeepsQueue old accts.Inbound inbound → KeepsQueue old accts.Outbound outbound →
    shreds_granted old number inbound outbound
    ≡ newly_granted (without_number number (queue_of acct inbound outbound))
    (shredded old acct number found.ticket (queue_of acct inbound outbound))
granted_there {number} {acct} {found} {old} s inbound outbound k l =
    ap (λ (o : Option (Acct × Ticket)). option_map_or (λ (p : Acct × Ticket).
    newly_granted (without_number number (queue_of p.0 inbound outbound))
    (shredded old p.0 number p.1 (queue_of p.0 inbound outbound))) o 0)
    (located_is acct found s inbound outbound k l)

-- the call stops before the ticket is given back
pub stops_before : {number : ℕ} {acct : Acct} {found : Found} {old : Heap} (new : Heap) (stop : Stop) →
    StandsIn old number acct found → OnlyUnmoved old new stop → ShredStops number old new stop
stops_before {acct = acct} {found = found} {old = old} new (Refused (LogFull lines room)) s u = record {
  acct = acct;
  ticket = found.ticket;
  is = located_is acct found s;
  made = [];
  first = record { rest = Gave found.ticket.block ∷ []; whole = refl };
  moves = u.moves ∙ sym (append-nil old.moves);
  spare = let e = u.spare in omega (arith, e);
}
stops_before new (Refused refusal) s u = absurd u
stops_before new DiskFault s u = tt
stops_before new MediaFault s u = absurd u
stops_before new Failed s u = tt

-- or after
pub stops_after : {number : ℕ} {acct : Acct} {found : Found} {old mid : Heap} (back new : Heap) (stop : Stop) →
    StandsIn old number acct found → TakesOut acct found old mid → SomeQueue old acct → back.moves ≡ mid.moves →
    back.spare ≡ mid.spare → OnlyUnmoved back new stop → ShredStops number old new stop
stops_after {number} {acct} {found} {old} {mid} back new (Refused (LogFull lines room)) s t q m p u =
    let o = t.others (has_number number) q.tickets q.keeps (s.first.searched q.tickets q.keeps) in
    record {
      acct = acct;
      ticket = found.ticket;
      is = located_is acct found s;
      made = Gave found.ticket.block ∷ [];
      first = record { rest = []; whole = refl };
      moves = u.moves ∙ m ∙ ap (λ (h : Heap). h.moves) o;
      spare = u.spare ∙ p ∙ ap (λ (h : Heap). h.spare) o;
    }
stops_after back new (Refused refusal) s t q m p u = absurd u
stops_after back new DiskFault s t q m p u = tt
stops_after back new MediaFault s t q m p u = absurd u
stops_after back new Failed s t q m p u = tt
