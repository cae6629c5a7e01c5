-- A queue is served, ticket by ticket.
use Rattle.std.proofs.Common.{inl, inr, ◌≡◌, ◌≢◌, ◌≤◌, ◌+◌, ◌*◌, ℕ, List, [], ◌∷◌, ◌++◌, length, true, false, None, Some, refl, sym, ap, ◌∙◌, arith, subst, append_assoc, length-append}
use Rattle.std.specs.Prelude.{All, ◌⊎◌}
use Rattle.sdr_base.specs.Entries.{Entries, Few, BlocksAre}
use Rattle.sdr_base.specs.Linked.{first_of}
use Rattle.sdr_base.specs.Making.{besides}
use Rattle.sdr_base.specs.Objects.{Heap}
use Rattle.sdr_base.specs.declared.account.Acct.{Acct}
use Rattle.sdr_base.specs.declared.account.Amounts.{Amounts}
use Rattle.sdr_base.proofs.HeapLemmas.{heap_blocks}
use Rattle.sdr_base.proofs.LinkedLemmas.{length-linked}
use Rattle.sdr_base.proofs.StandingLemmas.{at-nowhere}
use Rattle.sdr_model.specs.Amounts.{are_within, minus, plus}
use Rattle.sdr_model.specs.Queue.{granted, served}
use Rattle.sdr_model.specs.declared.accounts.Ticket.{Ticket}
use Rattle.zco_acct.specs.Kept.{KeepsQueue, KeepsTicket, TicketFits, block_of, queue_entries, queued_block}
use Rattle.zco_acct.specs.Tickets.{TellsTicket, with_grant}
use Rattle.zco_acct.specs.Words.{first_word, maxima_in, occupied_in, with_occupied}
use Rattle.zco_acct.specs.declared.ticket.Queued.{Queued}
use Rattle.zco_acct.proofs.GrantLemmas.{regranted}
use Rattle.zco_acct.proofs.QueueLemmas.{HasFirst, empty_or, fits_from, has_first, stands_there}
use Rattle.zco_space.proofs.RootLemmas.{occupied_again, occupied_same}
use Rattle.zco_space.specs.Served.{waiting_tickets}
use Rattle.zco_space.proofs.LinesLemmas.{waited_more, waited_passed}
use Rattle.zco_space.proofs.ServedLemmas.{count-fits, count-granted, count-waits, count_served, served-fits, served-granted, served-waits, sum-fits, sum-granted, sum-waits, sum_served}

-- of a queue so many tickets were passed, and so many of them granted, those that waited; with those as they are now, what is left comes to what
-- the whole queue comes to
pub record Serving (old now : Heap) (acct : Acct) (m taken : Amounts) (cursor count i : ℕ) (tickets : List Ticket) : Type 0 where
  pub passed : List Ticket
  pub done : List Ticket
  pub left : List Ticket
  pub whole : tickets ≡ passed ++ left
  pub counted_passed : length passed ≡ i
  pub waited : length (waiting_tickets passed) ≡ count
  pub at_cursor : cursor ≡ first_of block_of 0 left
  pub stands : (rest : Entries) → BlocksAre old.blocks (queue_entries acct tickets ++ rest) →
      BlocksAre now.blocks (queue_entries acct (done ++ left) ++ rest)
  pub others : besides now ≡ besides (with_occupied old acct taken)
  pub comes : served m (occupied_in old acct) tickets ≡ done ++ served m taken left
  pub sum : sum_served m (occupied_in old acct) tickets ≡ sum_served m taken left
  pub counted : count_served m (occupied_in old acct) tickets ≡ count + count_served m taken left

-- what is left stays as it is: the queue comes to what it is now
pub record Ends (m first taken : Amounts) (count : ℕ) (done left tickets : List Ticket) : Type 0 where
  pub comes : served m first tickets ≡ done ++ left
  pub sum : sum_served m first tickets ≡ taken
  pub counted : count_served m first tickets ≡ count

-- so it is with whichever queue is kept
pub record Serves (old now : Heap) (acct : Acct) (taken : Amounts) (cursor count i : ℕ) : Type 0 where
  pub serving : (tickets : List Ticket) → KeepsQueue old acct tickets →
      Serving old now acct (maxima_in old acct) taken cursor count i tickets

pub starts : {old : Heap} {acct : Acct} {taken : Amounts} {cursor : ℕ} → taken ≡ occupied_in old acct →
    cursor ≡ old.roots (first_word acct) → Serves old old acct taken cursor 0 0
starts {old} {acct} {taken} {cursor} t e = record {
  serving = λ tickets k. record {
    passed = [];
    done = [];
    left = tickets;
    whole = refl;
    counted_passed = refl;
    waited = refl;
    at_cursor = e ∙ k.first;
    stands = λ rest s. s;
    others = ap besides (sym (ap (λ a. with_occupied old acct a) t ∙ occupied_same old acct));
    comes = ap (λ a. served (maxima_in old acct) a tickets) (sym t);
    sum = ap (λ a. sum_served (maxima_in old acct) a tickets) (sym t);
    counted = ap (λ a. count_served (maxima_in old acct) a tickets) (sym t)
        ∙ (let n = count_served (maxima_in old acct) taken tickets in let z : n ≡ 0 + n = omega arith in z);
  };
}

module _ {old now : Heap} {acct : Acct} {m taken : Amounts} {cursor count i : ℕ} {tickets : List Ticket}
    (k : KeepsQueue old acct tickets) (w : Serving old now acct m taken cursor count i tickets) where
  pub more : cursor ≢ 0 → HasFirst w.left
  more n = has_first w.left (λ z. n (w.at_cursor ∙ z))

  left_fits : (e : HasFirst w.left) → All TicketFits (e.ticket ∷ e.behind)
  left_fits e =
      fits_from w.passed e.ticket e.behind
      (subst (All TicketFits) (w.whole ∙ ap (λ (l : List Ticket). w.passed ++ l) e.is) k.fits)

  stands_now : (e : HasFirst w.left) → (rest : Entries) → BlocksAre old.blocks (queue_entries acct tickets ++ rest) →
      BlocksAre now.blocks (queue_entries acct (w.done ++ (e.ticket ∷ e.behind)) ++ rest)
  stands_now e rest s =
      subst (λ (l : List Ticket). BlocksAre now.blocks (queue_entries acct (w.done ++ l) ++ rest)) e.is
      (w.stands rest s)

  pub cursor_is : (e : HasFirst w.left) → cursor ≡ e.ticket.block
  cursor_is e = w.at_cursor ∙ ap (first_of block_of 0) e.is

  -- the ticket at the cursor is there
  pub at_cursor : (e : HasFirst w.left) → KeepsTicket (now.blocks cursor) acct (first_of block_of 0 e.behind) e.ticket
  at_cursor e =
      subst (λ p. KeepsTicket (now.blocks p) acct (first_of block_of 0 e.behind) e.ticket) (sym (cursor_is e))
      (stands_there now.blocks acct k.rest w.done e.ticket e.behind (stands_now e k.rest k.stands) (left_fits e))

  -- and was read
  pub read_here : {value : Queued} → (e : HasFirst w.left) → TellsTicket (now.blocks cursor) cursor value →
      value ≡ record { ticket = e.ticket; next = first_of block_of 0 e.behind }
  read_here e t = t.tells acct (first_of block_of 0 e.behind) e.ticket (at_cursor e) (sym (cursor_is e))

  -- one that is granted already is passed
  pub skips : {value : Queued} → (e : HasFirst w.left) →
      value ≡ record { ticket = e.ticket; next = first_of block_of 0 e.behind } → e.ticket.granted ≡ true →
      Serving old now acct m taken value.next count (i + 1) tickets
  skips {value} e r g = record {
    passed = w.passed ++ (e.ticket ∷ []);
    done = w.done ++ (e.ticket ∷ []);
    left = e.behind;
    whole = w.whole ∙ ap (λ (l : List Ticket). w.passed ++ l) e.is ∙ sym (append_assoc w.passed (e.ticket ∷ []) e.behind);
    counted_passed = let l = length-append w.passed (e.ticket ∷ []) in let c = w.counted_passed in omega (arith, l, c);
    waited = waited_passed w.passed e.ticket count g w.waited;
    at_cursor = ap (λ (v : Queued). v.next) r;
    stands = λ rest s.
        subst (λ (l : List Ticket). BlocksAre now.blocks (queue_entries acct l ++ rest))
        (sym (append_assoc w.done (e.ticket ∷ []) e.behind)) (stands_now e rest s);
    others = w.others;
    comes = w.comes ∙ ap (λ (l : List Ticket). w.done ++ served m taken l) e.is
        ∙ ap (λ (l : List Ticket). w.done ++ l) (served-granted m taken e.ticket e.behind g)
        ∙ sym (append_assoc w.done (e.ticket ∷ []) (served m taken e.behind));
    sum = w.sum ∙ ap (sum_served m taken) e.is ∙ sum-granted m taken e.ticket e.behind g;
    counted = w.counted
        ∙ ap (λ n. count + n) (ap (count_served m taken) e.is ∙ count-granted m taken e.ticket e.behind g);
  }

  -- one that fits is granted
  pub grants : {value : Queued} {next : Heap} {after : Amounts} → (e : HasFirst w.left) →
      value ≡ record { ticket = e.ticket; next = first_of block_of 0 e.behind } → e.ticket.granted ≡ false →
      are_within e.ticket.asked (minus m taken) ≡ true → after ≡ plus taken e.ticket.asked →
      next ≡ with_occupied (with_grant now e.ticket.block e.ticket.asked) acct after →
      Serving old next acct m after value.next (count + 1) (i + 1) tickets
  grants {value} {next} {after} e r g fits sum is = record {
    passed = w.passed ++ (e.ticket ∷ []);
    done = w.done ++ (granted e.ticket ∷ []);
    left = e.behind;
    whole = w.whole ∙ ap (λ (l : List Ticket). w.passed ++ l) e.is ∙ sym (append_assoc w.passed (e.ticket ∷ []) e.behind);
    counted_passed = let l = length-append w.passed (e.ticket ∷ []) in let c = w.counted_passed in omega (arith, l, c);
    waited = waited_more w.passed e.ticket count g w.waited;
    at_cursor = ap (λ (v : Queued). v.next) r;
    stands = λ rest s.
        subst (λ (l : List Ticket). BlocksAre next.blocks (queue_entries acct l ++ rest))
        (sym (append_assoc w.done (granted e.ticket ∷ []) e.behind))
        (regranted now.blocks next.blocks acct rest w.done e.ticket e.behind e.ticket.asked (heap_blocks is)
        (stands_now e rest s));
    others = ap besides is
        ∙ ap (λ (h : Heap). with_occupied h acct after) w.others
        ∙ ap besides (occupied_again old acct taken after);
    comes = w.comes ∙ ap (λ (l : List Ticket). w.done ++ served m taken l) e.is
        ∙ ap (λ (l : List Ticket). w.done ++ l) (served-fits m taken e.ticket e.behind g fits)
        ∙ ap (λ a. w.done ++ (granted e.ticket ∷ served m a e.behind)) (sym sum)
        ∙ sym (append_assoc w.done (granted e.ticket ∷ []) (served m after e.behind));
    sum = w.sum ∙ ap (sum_served m taken) e.is ∙ sum-fits m taken e.ticket e.behind g fits
        ∙ ap (λ a. sum_served m a e.behind) (sym sum);
    counted = w.counted
        ∙ ap (λ n. count + n) (ap (count_served m taken) e.is ∙ count-fits m taken e.ticket e.behind g fits
        ∙ ap (λ a. 1 + count_served m a e.behind) (sym sum))
        ∙ (let n = count_served m after e.behind in
        let z : count + (1 + n) ≡ count + 1 + n = omega arith in z);
  }

  -- for none is left
  pub ends_with_none : w.left ≡ [] → Ends m (occupied_in old acct) taken count w.done w.left tickets
  ends_with_none none = record {
    comes = w.comes ∙ ap (λ (l : List Ticket). w.done ++ served m taken l) none
        ∙ ap (λ (l : List Ticket). w.done ++ l) (sym none);
    sum = w.sum ∙ ap (sum_served m taken) none;
    counted = w.counted ∙ ap (λ l. count + count_served m taken l) none ∙ (let z : count + 0 ≡ count = omega arith in z);
  }

  -- for the first of them doesn't fit
  pub ends_with_one : (e : HasFirst w.left) → e.ticket.granted ≡ false →
      are_within e.ticket.asked (minus m taken) ≡ false →
      Ends m (occupied_in old acct) taken count w.done w.left tickets
  ends_with_one e g fails = record {
    comes = w.comes ∙ ap (λ (l : List Ticket). w.done ++ served m taken l) e.is
        ∙ ap (λ (l : List Ticket). w.done ++ l) (served-waits m taken e.ticket e.behind g fails)
        ∙ ap (λ (l : List Ticket). w.done ++ l) (sym e.is);
    sum = w.sum ∙ ap (sum_served m taken) e.is ∙ sum-waits m taken e.ticket e.behind g fails;
    counted = w.counted
        ∙ ap (λ n. count + n) (ap (count_served m taken) e.is ∙ count-waits m taken e.ticket e.behind g fails)
        ∙ (let z : count + 0 ≡ count = omega arith in z);
  }

  none_at_zero : (e : HasFirst w.left) → cursor ≢ 0
  none_at_zero e z =
      let t = at_cursor e in
      let s = stands_now e k.rest k.stands in
      let nowhere : now.blocks 0 ≡ None =
      s.same 0 ∙ at-nowhere 0 (queue_entries acct (w.done ++ (e.ticket ∷ e.behind)) ++ k.rest) s.null in
      let d : None ≡ Some (queued_block acct 0 (first_of block_of 0 e.behind) e.ticket) =
      sym nowhere ∙ ap now.blocks (sym z) ∙ t.block in cc

  ended : cursor ≡ 0 → (w.left ≡ []) ⊎ HasFirst w.left → w.left ≡ []
  ended z (inl e) = e
  ended z (inr e) = absurd (none_at_zero e z)

  -- where the cursor is 0 none is left
  pub none_left : cursor ≡ 0 → w.left ≡ []
  none_left z = ended z (empty_or w.left)

  nothing : (left : List Ticket) → length left ≡ 0 → left ≡ []
  nothing [] n = refl
  nothing (t ∷ left) n = absurd (omega (arith, n))

  -- nor where as many were passed as the heap may have
  pub none_more : Few old.size old.blocks → old.size ≤ 64 * 262144 → i ≡ 1048576 → w.left ≡ []
  none_more few small all =
      let n : 16 * length (queue_entries acct tickets ++ k.rest) ≤ old.size =
      few.few (queue_entries acct tickets ++ k.rest) k.stands in
      let a = length-append (queue_entries acct tickets) k.rest in
      let l = length-linked block_of (queued_block acct) 0 0 tickets in
      let whole = ap (length {A = Ticket}) w.whole in
      let both = length-append w.passed w.left in
      let c = w.counted_passed in
      nothing w.left (omega (arith, n, a, l, whole, both, c, small, all))
