-- Where a new ticket goes in a queue.
use Rattle.std.proofs.Common.{◌≡◌, ◌+◌, ℕ, suc, List, [], ◌∷◌, ◌++◌, Bool, true, false, cond, None, Some, refl, sym, ap, ◌∙◌, arith, append-nil}
use Rattle.std.specs.Prelude.{find, insert, not}
use Rattle.std.specs.List.{prefix_len}
use Rattle.sdr_base.specs.Objects.{Heap}
use Rattle.sdr_base.specs.declared.account.Acct.{Acct}
use Rattle.sdr_model.specs.Queue.{enqueued, stands_before}
use Rattle.sdr_model.specs.declared.accounts.Ticket.{Ticket}
use Rattle.zco_acct.specs.Walks.{Searches, is_behind}
use Rattle.zco_acct.specs.Words.{last_word}
use Rattle.zco_acct.specs.declared.queue.Found.{Found}
use Rattle.zco_space.specs.Places.{FindsPlace, at_addr}

not_true : (b : Bool) → not b ≡ true → b ≡ false
not_true true e = cc
not_true false e = refl

-- one further on
further : (x : Ticket) (xs : List Ticket) (k : ℕ) (new : Ticket) → insert (x ∷ xs) (1 + k) new ≡ x ∷ insert xs k new
further x xs k new = let one : 1 + k ≡ suc k = omega arith in ap (λ j. insert (x ∷ xs) j new) one

module _ (new : Ticket) (addr : ℕ) where
  -- behind one that stands before it
  past : (x : Ticket) (xs : List Ticket) → stands_before x new ≡ true →
      enqueued (x ∷ xs) (at_addr new addr) ≡ x ∷ enqueued xs (at_addr new addr)
  past x xs e =
      ap (λ b. insert (x ∷ xs) (cond b (1 + prefix_len (λ t. stands_before t (at_addr new addr)) xs) 0) (at_addr new addr)) e
      ∙ further x xs (prefix_len (λ t. stands_before t (at_addr new addr)) xs) (at_addr new addr)

  -- in front of one that doesn't
  front : (x : Ticket) (xs : List Ticket) → stands_before x new ≡ false →
      enqueued (x ∷ xs) (at_addr new addr) ≡ at_addr new addr ∷ x ∷ xs
  front x xs e =
      ap (λ b. insert (x ∷ xs) (cond b (1 + prefix_len (λ t. stands_before t (at_addr new addr)) xs) 0) (at_addr new addr)) e

  step : (x : Ticket) (xs : List Ticket) (b : Bool) → stands_before x new ≡ b →
      cond (not b) (Some x) (find (is_behind new) xs) ≡ None →
      (find (is_behind new) xs ≡ None) × (stands_before x new ≡ true)
  step x xs true is e = (e, is)
  step x xs false is e = let d : Some x ≡ None = e in cc

  -- behind all that stand before it
  enters_at : (xs : List Ticket) (t : Ticket) (ys : List Ticket) → find (is_behind new) xs ≡ None →
      is_behind new t ≡ true → enqueued (xs ++ (t ∷ ys)) (at_addr new addr) ≡ xs ++ (at_addr new addr ∷ t ∷ ys)
  enters_at [] t ys none is = front t ys (not_true (stands_before t new) is)
  enters_at (x ∷ xs) t ys none is =
      let s = step x xs (stands_before x new) refl none in
      past x (xs ++ (t ∷ ys)) s.1 ∙ ap (λ (l : List Ticket). x ∷ l) (enters_at xs t ys s.0 is)

  -- at the end, where all do
  enters_last : (xs : List Ticket) → find (is_behind new) xs ≡ None →
      enqueued xs (at_addr new addr) ≡ xs ++ (at_addr new addr ∷ [])
  enters_last [] none = refl
  enters_last (x ∷ xs) none =
      let s = step x xs (stands_before x new) refl none in
      past x xs s.1 ∙ ap (λ (l : List Ticket). x ∷ l) (enters_last xs s.0)

-- the search for one that doesn't found the place
pub place_found : {heap : Heap} {acct : Acct} (new : Ticket) (found : Found) → Searches heap acct (is_behind new) (Some found) →
    FindsPlace acct new heap (record { previous = found.previous; next = found.ticket.block })
place_found new found s = record {
  finds = λ tickets k.
      let f = s.searched tickets k in
      record {
        before = f.before;
        behind = found.ticket ∷ f.behind;
        whole = f.whole;
        enters = λ addr.
            ap (λ (l : List Ticket). enqueued l (at_addr new addr)) f.whole
            ∙ enters_at new addr f.before found.ticket f.behind f.none f.passes;
        at_previous = f.at_previous;
        at_next = refl;
      };
}

-- it found none: the place is at the end
pub place_last : {heap : Heap} {acct : Acct} (new : Ticket) (previous : ℕ) → Searches heap acct (is_behind new) None →
    previous ≡ heap.roots (last_word acct) → FindsPlace acct new heap (record { previous = previous; next = 0 })
place_last new previous s e = record {
  finds = λ tickets k. record {
    before = tickets;
    behind = [];
    whole = sym (append-nil tickets);
    enters = λ addr. enters_last new addr tickets (s.searched tickets k);
    at_previous = e ∙ k.last;
    at_next = refl;
  };
}
