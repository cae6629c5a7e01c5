-- The steps of a service, with whichever queue is kept.
use Rattle.std.proofs.Common.{◌≡◌, ◌≢◌, ◌≤◌, ◌+◌, ◌*◌, ℕ, List, [], ◌∷◌, ◌++◌, true, false, sym, ap, ◌∙◌, arith, subst, take}
use Rattle.std.specs.Prelude.{IfSome}
use Rattle.sdr_base.specs.Blocks.{Reaches}
use Rattle.sdr_base.specs.Entries.{Few, BlocksAre}
use Rattle.sdr_base.specs.Making.{besides}
use Rattle.sdr_base.specs.Objects.{Heap, OnlyUnmoved}
use Rattle.sdr_base.specs.declared.account.Acct.{Acct}
use Rattle.sdr_base.specs.declared.account.Amounts.{Amounts}
use Rattle.sdr_base.specs.declared.stop.Stop.{Stop}
use Rattle.sdr_base.proofs.WritingLemmas.{reaches_less}
use Rattle.sdr_model.specs.Amounts.{are_within, minus, plus}
use Rattle.sdr_model.specs.Queue.{front_waiting}
use Rattle.sdr_model.specs.declared.accounts.Ticket.{Ticket}
use Rattle.sdr_base.specs.declared.kind.Space.TheVariants as spaces
use Rattle.sdr_model.proofs.AmountLemmas.{within_in}
use Rattle.zco_acct.specs.Kept.{AmountsFit, KeepsQueue, SomeQueue, SomeTicket, queue_entries}
use Rattle.zco_acct.specs.Tickets.{TellsTicket, with_grant}
use Rattle.zco_acct.specs.Words.{first_word, last_word, maxima_in, occupied_in, with_occupied}
use Rattle.zco_acct.specs.declared.ticket.Queued.{Queued}
use Rattle.zco_acct.proofs.MoveLemmas.{unmoved_since}
use Rattle.zco_acct.proofs.TicketLemmas.{ticket_reaches}
use Rattle.zco_space.specs.Served.{GrantsTicket, ServesQueue, newly_granted, queue_served, waiting_tickets}
use Rattle.zco_space.proofs.LinesLemmas.{waiting_next}
use Rattle.zco_space.proofs.RootLemmas.{first_of_occupied, last_of_occupied}
use Rattle.zco_space.proofs.ServedLemmas.{All-served, count-fits, count_after, count_served, first-served, front_waits, last-served, sum_after}
use Rattle.zco_space.proofs.ServingLemmas.{Ends, Serves, at_cursor, cursor_is, ends_with_none, ends_with_one, grants, more, none_left, none_more, read_here, skips}

-- where what is asked fits, the sum fits a word
pub sum_fits : {m o : Amounts} (a : Amounts) → AmountsFit m → AmountsFit o → are_within a (minus m o) ≡ true → AmountsFit (plus o a)
sum_fits {m} {o} a f h e = record {
  file = let w = within_in a (minus m o) spaces.File e in let x = f.file in let y = h.file in omega (arith, w, x, y);
  bulk = let w = within_in a (minus m o) spaces.Bulk e in let x = f.bulk in let y = h.bulk in omega (arith, w, x, y);
  heap = let w = within_in a (minus m o) spaces.Heap e in let x = f.heap in let y = h.heap in omega (arith, w, x, y);
}

module _ {old now : Heap} {acct : Acct} {taken : Amounts} {cursor count i : ℕ} (s : Serves old now acct taken cursor count i) where
  -- the ticket at the cursor is there
  pub some_here : SomeQueue old acct → cursor ≢ 0 → SomeTicket (now.blocks cursor)
  some_here q n =
      let w = s.serving q.tickets q.keeps in
      record { acct = acct; next = _; ticket = (more q.keeps w n).ticket; keeps = at_cursor q.keeps w (more q.keeps w n) }

  -- so its grant may be written
  pub inside_here : {value : Queued} → SomeQueue old acct → cursor ≢ 0 → TellsTicket (now.blocks cursor) cursor value →
      Reaches (now.blocks value.ticket.block) 88
  inside_here {value} q n t =
      let w = s.serving q.tickets q.keeps in
      let e = more q.keeps w n in
      let one : value.ticket ≡ e.ticket = ap (λ (v : Queued). v.ticket) (read_here q.keeps w e t) in
      subst (λ p. Reaches (now.blocks p) 88) (cursor_is q.keeps w e ∙ sym (ap (λ (x : Ticket). x.block) one))
      (reaches_less _ 96 88 (ticket_reaches (some_here q n)) (omega arith))

  -- it is passed
  pub passes : {value : Queued} → cursor ≢ 0 → TellsTicket (now.blocks cursor) cursor value → value.ticket.granted ≡ true →
      Serves old now acct taken value.next count (i + 1)
  passes {value} n t g = record {
    serving = λ tickets k.
        let w = s.serving tickets k in
        let e = more k w n in
        let r = read_here k w e t in
        skips k w e r (ap (λ (v : Queued). v.ticket.granted) (sym r) ∙ g);
  }

  -- it is granted
  pub goes_on : {value : Queued} {m after : Amounts} (next : Heap) → m ≡ maxima_in old acct → cursor ≢ 0 →
      TellsTicket (now.blocks cursor) cursor value → value.ticket.granted ≡ false →
      are_within value.ticket.asked (minus m taken) ≡ true → GrantsTicket acct value.ticket taken now next after →
      Serves old next acct after value.next (count + 1) (i + 1)
  goes_on {value} {m} {after} next most n t g fits grant = record {
    serving = λ tickets k.
        let w = s.serving tickets k in
        let e = more k w n in
        let r = read_here k w e t in
        let one : value.ticket ≡ e.ticket = ap (λ (v : Queued). v.ticket) r in
        grants k w e r (ap (λ (x : Ticket). x.granted) (sym one) ∙ g)
        (ap (λ (x : Ticket). are_within x.asked (minus (maxima_in old acct) taken)) (sym one)
        ∙ ap (λ a. are_within value.ticket.asked (minus a taken)) (sym most) ∙ fits)
        (grant.sum ∙ ap (λ (x : Ticket). plus taken x.asked) one)
        (grant.granted ∙ ap (λ (x : Ticket). with_occupied (with_grant now x.block x.asked) acct after) one);
  }

  -- the queue was served
  serves : ((tickets : List Ticket) → (k : KeepsQueue old acct tickets) →
      Ends (maxima_in old acct) (occupied_in old acct) taken count (s.serving tickets k).done (s.serving tickets k).left tickets) →
      ServesQueue acct old now count
  serves ends = record {
    changes = λ tickets k. record {
      kept = λ rest t.
          subst (λ (l : List Ticket). BlocksAre now.blocks (queue_entries acct l ++ rest)) (sym (ends tickets k).comes)
          ((s.serving tickets k).stands rest t);
    };
    keeps = λ tickets k.
        let w = s.serving tickets k in
        let m = maxima_in old acct in
        let o = occupied_in old acct in
        let same = w.others in
        record {
          rest = k.rest;
          stands =
              subst (λ (l : List Ticket). BlocksAre now.blocks (queue_entries acct l ++ k.rest)) (sym (ends tickets k).comes)
              (w.stands k.rest k.stands);
          first = ap (λ (h : Heap). h.roots (first_word acct)) same ∙ first_of_occupied old acct taken ∙ k.first
              ∙ sym (first-served m o tickets);
          last = ap (λ (h : Heap). h.roots (last_word acct)) same ∙ last_of_occupied old acct taken ∙ k.last
              ∙ sym (last-served 0 m o tickets);
          fits = All-served m o tickets k.fits;
        };
    others = λ tickets k.
        (s.serving tickets k).others
        ∙ ap (λ a. besides (with_occupied old acct a)) (sym (ends tickets k).sum ∙ sum_after (maxima_in old acct) (occupied_in old acct) tickets);
    counted = λ tickets k.
        sym (ends tickets k).counted ∙ count_after (maxima_in old acct) (occupied_in old acct) tickets;
    front = λ tickets k.
        subst (λ a. IfSome (front_waiting (queue_served old acct tickets)) (λ t. are_within t.asked (minus (maxima_in old acct) a) ≡ false))
        (sum_after (maxima_in old acct) (occupied_in old acct) tickets)
        (front_waits (maxima_in old acct) (occupied_in old acct) tickets);
  }

  pub serves_all : cursor ≡ 0 → ServesQueue acct old now count
  serves_all z = serves (λ tickets k. let w = s.serving tickets k in ends_with_none k w (none_left k w z))

  pub serves_most : Few old.size old.blocks → old.size ≤ 64 * 262144 → i ≡ 1048576 → ServesQueue acct old now count
  serves_most few small all =
      serves (λ tickets k. let w = s.serving tickets k in ends_with_none k w (none_more k w few small all))

  pub serves_some : {value : Queued} {m : Amounts} → m ≡ maxima_in old acct → cursor ≢ 0 →
      TellsTicket (now.blocks cursor) cursor value → value.ticket.granted ≡ false →
      are_within value.ticket.asked (minus m taken) ≡ false → ServesQueue acct old now count
  serves_some {value} {m} most n t g fails =
      serves (λ tickets k.
      let w = s.serving tickets k in
      let e = more k w n in
      let one : value.ticket ≡ e.ticket = ap (λ (v : Queued). v.ticket) (read_here k w e t) in
      ends_with_one k w e (ap (λ (x : Ticket). x.granted) (sym one) ∙ g)
      (ap (λ (x : Ticket). are_within x.asked (minus (maxima_in old acct) taken)) (sym one)
      ∙ ap (λ a. are_within value.ticket.asked (minus a taken)) (sym most) ∙ fails))

  -- how many were granted is no more than the whole queue comes to
  pub count_most : {tickets : List Ticket} → KeepsQueue old acct tickets →
      count ≤ newly_granted tickets (queue_served old acct tickets)
  count_most {tickets} k =
      let c = (s.serving tickets k).counted in
      let a = count_after (maxima_in old acct) (occupied_in old acct) tickets in omega (arith, c, a)

  -- and less, where one more fits
  pub count_below : {value : Queued} {m : Amounts} {tickets : List Ticket} → KeepsQueue old acct tickets →
      m ≡ maxima_in old acct → cursor ≢ 0 →
      TellsTicket (now.blocks cursor) cursor value → value.ticket.granted ≡ false →
      are_within value.ticket.asked (minus m taken) ≡ true →
      count + 1 ≤ newly_granted tickets (queue_served old acct tickets)
  count_below {value} {m} {tickets} k most n t g fits =
      let w = s.serving tickets k in
      let e = more k w n in
      let one : value.ticket ≡ e.ticket = ap (λ (v : Queued). v.ticket) (read_here k w e t) in
      let c = w.counted in
      let l = ap (count_served (maxima_in old acct) taken) e.is in
      let f =
      count-fits (maxima_in old acct) taken e.ticket e.behind (ap (λ (x : Ticket). x.granted) (sym one) ∙ g)
      (ap (λ (x : Ticket). are_within x.asked (minus (maxima_in old acct) taken)) (sym one)
      ∙ ap (λ a. are_within value.ticket.asked (minus a taken)) (sym most) ∙ fits) in
      let a = count_after (maxima_in old acct) (occupied_in old acct) tickets in omega (arith, c, l, f, a)

  -- the ticket at the cursor is the next that waits
  pub taken_next : {value : Queued} {tickets : List Ticket} → KeepsQueue old acct tickets → cursor ≢ 0 →
      TellsTicket (now.blocks cursor) cursor value → value.ticket.granted ≡ false →
      take (count + 1) (waiting_tickets tickets) ≡ take count (waiting_tickets tickets) ++ value.ticket ∷ []
  taken_next {value} {tickets} k n t g =
      let w = s.serving tickets k in
      let e = more k w n in
      let one : value.ticket ≡ e.ticket = ap (λ (v : Queued). v.ticket) (read_here k w e t) in
      let whole : tickets ≡ w.passed ++ (e.ticket ∷ e.behind) = w.whole ∙ ap (λ (l : List Ticket). w.passed ++ l) e.is in
      ap (λ (l : List Ticket). take (count + 1) (waiting_tickets l)) whole
      ∙ waiting_next w.passed e.ticket e.behind count (ap (λ (x : Ticket). x.granted) (sym one) ∙ g) w.waited
      ∙ ap (λ (l : List Ticket). take count (waiting_tickets l) ++ e.ticket ∷ []) (sym whole)
      ∙ ap (λ (x : Ticket). take count (waiting_tickets tickets) ++ x ∷ []) (sym one)

  -- no move was made
  pub unmoved : (next : Heap) (stop : Stop) → OnlyUnmoved now next stop → SomeQueue old acct → OnlyUnmoved old next stop
  unmoved next stop u q =
      let o = (s.serving q.tickets q.keeps).others in
      unmoved_since old now next stop (ap (λ (h : Heap). h.moves) o) (ap (λ (h : Heap). h.spare) o) u
