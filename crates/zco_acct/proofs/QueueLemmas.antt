-- The queue of an account is walked, ticket by ticket.
use Rattle.std.proofs.Common.{inl, inr, ◌≡◌, ◌≢◌, ◌<◌, ◌^◌, ℕ, ◌+◌, ◌*◌, ◌≤◌, List, [], ◌∷◌, ◌++◌, length, Bool, true, false, cond, refl, sym, ap, ◌∙◌, arith, subst, append_assoc, append-nil, length-append}
use Rattle.std.specs.Prelude.{All, Option, Some, None, find, ◌⊎◌}
use Rattle.std.specs.Option.{option_or}
use Rattle.std.proofs.lemmas.List.Elements.{All-head, All-tail}
use Rattle.std.proofs.lemmas.List.Folds.{find-append}
use Rattle.sdr_base.specs.Blocks.{Blocks}
use Rattle.sdr_base.specs.Entries.{Entries, Few, BlocksAre}
use Rattle.sdr_base.specs.Linked.{first_of}
use Rattle.sdr_base.specs.Objects.{Heap}
use Rattle.sdr_base.specs.declared.account.Acct.{Acct}
use Rattle.sdr_base.specs.declared.account.Acct.TheVariants as accts
use Rattle.sdr_base.proofs.ChainLemmas.{linked_found}
use Rattle.sdr_base.proofs.LinkedLemmas.{last-append, length-linked}
use Rattle.sdr_base.proofs.StandingLemmas.{at-nowhere}
use Rattle.sdr_model.specs.declared.accounts.Ticket.{Ticket}
use Rattle.zco_acct.specs.Kept.{KeepsQueue, KeepsTicket, SomeQueue, SomeTicket, TicketFits, block_of, queue_entries, queued_block}
use Rattle.zco_acct.specs.Tickets.{TellsTicket}
use Rattle.zco_acct.specs.Walks.{IsFirst, Searches, Walked, Walks}
use Rattle.zco_acct.specs.Words.{first_word}
use Rattle.zco_acct.specs.declared.queue.Found.{Found}
use Rattle.zco_acct.specs.declared.ticket.Queued.{Queued}

-- there is a first one
pub record HasFirst (left : List Ticket) : Type 0 where
  pub ticket : Ticket
  pub behind : List Ticket
  pub is : left ≡ ticket ∷ behind

pub has_first : (left : List Ticket) → first_of block_of 0 left ≢ 0 → HasFirst left
has_first [] n = absurd (n refl)
has_first (ticket ∷ behind) n = record { ticket = ticket; behind = behind; is = refl }

pub empty_or : (left : List Ticket) → (left ≡ []) ⊎ HasFirst left
empty_or [] = inl refl
empty_or (ticket ∷ behind) = inr (record { ticket = ticket; behind = behind; is = refl })

nothing : (left : List Ticket) → length left ≡ 0 → left ≡ []
nothing [] n = refl
nothing (ticket ∷ left) n = absurd (omega (arith, n))

-- what holds of all holds of one between two parts, and of those behind it
pub fits_from : (xs : List Ticket) (t : Ticket) (ys : List Ticket) → All TicketFits (xs ++ (t ∷ ys)) →
    All TicketFits (t ∷ ys)
fits_from [] t ys f = f
fits_from (x ∷ xs) t ys f = fits_from xs t ys (All-tail TicketFits x (xs ++ (t ∷ ys)) f)

pub first_fits : (tickets : List Ticket) → All TicketFits tickets → first_of block_of 0 tickets < 2 ^ 64
first_fits [] f = omega arith
first_fits (t ∷ ts) f = (All-head TicketFits t ts f).block

-- one between two parts is there, wherever they stand
pub stands_there : (blocks : Blocks) (acct : Acct) (rest : Entries) (xs : List Ticket) (t : Ticket) (ys : List Ticket) →
    BlocksAre blocks (queue_entries acct (xs ++ (t ∷ ys)) ++ rest) → All TicketFits (t ∷ ys) →
    KeepsTicket (blocks t.block) acct (first_of block_of 0 ys) t
stands_there blocks acct rest xs t ys s f = record {
  block = linked_found block_of (queued_block acct) blocks [] rest 0 0 xs t ys s;
  fits = All-head TicketFits t ys f;
  small = first_fits ys (All-tail TicketFits t ys f);
}

-- so it is in a queue that is kept
pub here : {heap : Heap} {acct : Acct} {tickets : List Ticket} → KeepsQueue heap acct tickets →
    (xs : List Ticket) (t : Ticket) (ys : List Ticket) → tickets ≡ xs ++ (t ∷ ys) →
    KeepsTicket (heap.blocks t.block) acct (first_of block_of 0 ys) t
here {heap} {acct} {tickets} k xs t ys e =
    stands_there heap.blocks acct k.rest xs t ys
    (subst (λ (ts : List Ticket). BlocksAre heap.blocks (queue_entries acct ts ++ k.rest)) e k.stands)
    (fits_from xs t ys (subst (All TicketFits) e k.fits))

-- no ticket stands at 0
pub none_at_zero : {heap : Heap} {acct of : Acct} {tickets : List Ticket} {t : Ticket} {addr next : ℕ} →
    KeepsQueue heap acct tickets → KeepsTicket (heap.blocks addr) of next t → addr ≢ 0
none_at_zero {heap} {acct} {of} {tickets} {t} {addr} {next} k e z =
    let none : heap.blocks 0 ≡ None = k.stands.same 0 ∙ at-nowhere 0 (queue_entries acct tickets ++ k.rest) k.stands.null in
    let d : None ≡ Some (queued_block of 0 next t) = sym none ∙ ap heap.blocks (sym z) ∙ e.block in cc

module _ {test : Ticket → Bool} {tickets : List Ticket} {previous cursor i : ℕ} (w : Walked test tickets previous cursor i) where
  pub more : cursor ≢ 0 → HasFirst w.left
  more n = has_first w.left (λ z. n (w.at_cursor ∙ z))

  pub cut : (e : HasFirst w.left) → tickets ≡ w.passed ++ (e.ticket ∷ e.behind)
  cut e = w.whole ∙ ap (λ (t : List Ticket). w.passed ++ t) e.is

  pub cursor_is : (e : HasFirst w.left) → cursor ≡ e.ticket.block
  cursor_is e = w.at_cursor ∙ ap (first_of block_of 0) e.is

  pub at_cursor : {heap : Heap} {acct : Acct} → KeepsQueue heap acct tickets → (e : HasFirst w.left) →
      KeepsTicket (heap.blocks cursor) acct (first_of block_of 0 e.behind) e.ticket
  at_cursor {heap} {acct} k e =
      subst (λ p. KeepsTicket (heap.blocks p) acct (first_of block_of 0 e.behind) e.ticket) (sym (cursor_is e))
      (here k w.passed e.ticket e.behind (cut e))

  -- the first one that is left doesn't pass, and is passed
  pub onward : (next : ℕ) (e : HasFirst w.left) → test e.ticket ≡ false → next ≡ first_of block_of 0 e.behind →
      Walked test tickets cursor next (i + 1)
  onward next e fails n = record {
    passed = w.passed ++ (e.ticket ∷ []);
    left = e.behind;
    whole = cut e ∙ sym (append_assoc w.passed (e.ticket ∷ []) e.behind);
    counted = let l = length-append w.passed (e.ticket ∷ []) in let c = w.counted in omega (arith, l, c);
    none = find-append test w.passed (e.ticket ∷ [])
        ∙ ap (λ (o : Option Ticket). option_or o (find test (e.ticket ∷ []))) w.none
        ∙ ap (λ v. cond v (Some e.ticket) None) fails;
    at_cursor = n;
    at_previous = cursor_is e ∙ sym (last-append block_of (queued_block accts.Inbound) 0 w.passed (e.ticket ∷ []));
  }

  -- where the cursor is 0 none is left
  ended : {heap : Heap} {acct : Acct} → KeepsQueue heap acct tickets → cursor ≡ 0 → (w.left ≡ []) ⊎ HasFirst w.left →
      w.left ≡ []
  ended k z (inl e) = e
  ended k z (inr e) = absurd (none_at_zero k (at_cursor k e) z)

  pub none_left : {heap : Heap} {acct : Acct} → KeepsQueue heap acct tickets → cursor ≡ 0 → w.left ≡ []
  none_left k z = ended k z (empty_or w.left)

  -- where as many were passed as the heap may have none is left
  pub none_more : {heap : Heap} {acct : Acct} → KeepsQueue heap acct tickets → Few heap.size heap.blocks →
      heap.size ≤ 64 * 262144 → i ≡ 1048576 → w.left ≡ []
  none_more {heap} {acct} k few small all =
      let n : 16 * length (queue_entries acct tickets ++ k.rest) ≤ heap.size =
      few.few (queue_entries acct tickets ++ k.rest) k.stands in
      let a = length-append (queue_entries acct tickets) k.rest in
      let l = length-linked block_of (queued_block acct) 0 0 tickets in
      let whole = ap (length {A = Ticket}) w.whole in
      let both = length-append w.passed w.left in
      let c = w.counted in
      nothing w.left (omega (arith, n, a, l, whole, both, c, small, all))

  pub all_passed : w.left ≡ [] → tickets ≡ w.passed
  all_passed none = w.whole ∙ ap (λ (t : List Ticket). w.passed ++ t) none ∙ append-nil w.passed

  pub not_found : w.left ≡ [] → find test tickets ≡ None
  not_found none = ap (find test) (all_passed none) ∙ w.none

pub begun : {heap : Heap} {acct : Acct} {test : Ticket → Bool} {cursor : ℕ} → cursor ≡ heap.roots (first_word acct) →
    Walks heap acct test 0 cursor 0
begun e = record {
  walked = λ tickets k. record {
    passed = [];
    left = tickets;
    whole = refl;
    counted = refl;
    none = refl;
    at_cursor = e ∙ k.first;
    at_previous = refl;
  };
}

module _ {heap : Heap} {acct : Acct} {test : Ticket → Bool} {previous cursor i : ℕ} where
  -- the ticket at the cursor is there
  pub some_here : SomeQueue heap acct → Walks heap acct test previous cursor i → cursor ≢ 0 → SomeTicket (heap.blocks cursor)
  some_here k s n =
      let w = s.walked k.tickets k.keeps in
      record { acct = acct; next = _; ticket = (more w n).ticket; keeps = at_cursor w k.keeps (more w n) }

  -- what was read there is the first one that is left
  read_here : {value : Queued} {tickets : List Ticket} → KeepsQueue heap acct tickets →
      (w : Walked test tickets previous cursor i) (e : HasFirst w.left) → TellsTicket (heap.blocks cursor) cursor value →
      value ≡ record { ticket = e.ticket; next = first_of block_of 0 e.behind }
  read_here k w e t = t.tells acct (first_of block_of 0 e.behind) e.ticket (at_cursor w k e) (sym (cursor_is w e))

  -- it is passed
  pub passes : {value : Queued} → Walks heap acct test previous cursor i → cursor ≢ 0 →
      TellsTicket (heap.blocks cursor) cursor value → test value.ticket ≡ false →
      Walks heap acct test cursor value.next (i + 1)
  passes {value} s n t fails = record {
    walked = λ tickets k.
        let w = s.walked tickets k in
        let e = more w n in
        let r = read_here k w e t in
        onward w value.next e (ap (λ (v : Queued). test v.ticket) (sym r) ∙ fails) (ap (λ (v : Queued). v.next) r);
  }

  -- it is the first that passes
  pub found_here : {value : Queued} (found : Found) → Walks heap acct test previous cursor i → cursor ≢ 0 →
      TellsTicket (heap.blocks cursor) cursor value → test value.ticket ≡ true →
      found ≡ record { previous = previous; ticket = value.ticket; next = value.next } → Searches heap acct test (Some found)
  found_here {value} found s n t holds is = record {
    searched = λ tickets k.
        let w = s.walked tickets k in
        let e = more w n in
        let r = read_here k w e t in
        let ticket : found.ticket ≡ e.ticket = ap (λ (f : Found). f.ticket) is ∙ ap (λ (v : Queued). v.ticket) r in
        record {
          before = w.passed;
          behind = e.behind;
          whole = cut w e ∙ ap (λ (x : Ticket). w.passed ++ (x ∷ e.behind)) (sym ticket);
          none = w.none;
          passes = ap (λ (f : Found). test f.ticket) is ∙ holds;
          at_previous = ap (λ (f : Found). f.previous) is ∙ w.at_previous;
          at_next = ap (λ (f : Found). f.next) is ∙ ap (λ (v : Queued). v.next) r;
        };
  }

  -- none passes
  pub found_none : Walks heap acct test previous cursor i → cursor ≡ 0 → Searches heap acct test None
  found_none s z = record { searched = λ tickets k. let w = s.walked tickets k in not_found w (none_left w k z) }

  pub found_no_more : Walks heap acct test previous cursor i → Few heap.size heap.blocks → heap.size ≤ 64 * 262144 →
      i ≡ 1048576 → Searches heap acct test None
  found_no_more s few small all = record {
    searched = λ tickets k. let w = s.walked tickets k in not_found w (none_more w k few small all);
  }

-- the first that passes is the one that is found
pub found_is : {test : Ticket → Bool} {tickets : List Ticket} {found : Found} → (f : IsFirst test tickets found) →
    find test tickets ≡ Some found.ticket
found_is {test} {tickets} {found} f =
    ap (find test) f.whole ∙ find-append test f.before (found.ticket ∷ f.behind)
    ∙ ap (λ (o : Option Ticket). option_or o (find test (found.ticket ∷ f.behind))) f.none
    ∙ ap (λ v. cond v (Some found.ticket) (find test f.behind)) f.passes

-- its block is there
pub found_there : {heap : Heap} {acct : Acct} {test : Ticket → Bool} {tickets : List Ticket} {found : Found} →
    KeepsQueue heap acct tickets → (f : IsFirst test tickets found) →
    KeepsTicket (heap.blocks found.ticket.block) acct (first_of block_of 0 f.behind) found.ticket
found_there {found = found} k f = here k f.before found.ticket f.behind f.whole
