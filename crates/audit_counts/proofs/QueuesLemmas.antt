-- What holds of the tickets in a queue.
use Rattle.std.proofs.Common.{◌≡◌, ◌≢◌, ◌≤◌, ◌<◌, ◌+◌, ℕ, Bool, true, false, not, cond, List, [], ◌∷◌, ◌++◌, get_or, length, map, drop, take, arith, ap, ◌∙◌, refl, sym, subst, inl, inr}
use Rattle.std.specs.Prelude.{AllPairs, None, Some, find, nat_eq}
use Rattle.std.specs.Cmp.{unsigned_Decides}
use Rattle.std.specs.List.{All, IsDistinct}
use Rattle.std.proofs.lemmas.Map.Made.{AllPairs-from_IsDistinct, IsDistinct-from_AllPairs}
use Rattle.sdr_base.specs.declared.account.Acct.{Acct}
use Rattle.audit_owners.specs.Members.{members}
use Rattle.audit_owners.specs.declared.owner.Owner.TheVariants as owners
use Rattle.std.specs.Option.{option_or}
use Rattle.std.proofs.lemmas.Bool.{cases_lt}
use Rattle.std.proofs.lemmas.List.{get_or-map, length-map, map-append, take-append-drop, take_more}
use Rattle.std.proofs.lemmas.List.Folds.{find-append}
use Rattle.std.proofs.lemmas.List.Elements.{All-from_get_or, All-get_or, All-map}
use Rattle.audit_counts.proofs.OrderLemmas.{apart}
use Rattle.audit_counts.specs.Queues.{IsLawful, IsQueue, numbers_before, ticket_numbers, numbers_up_to, ticket_in}
use Rattle.sdr_model.specs.Queue.{front_waiting}
use Rattle.sdr_model.specs.Valid.{may_precede}
use Rattle.sdr_model.specs.declared.accounts.Ticket.{Ticket}
use Rattle.audit_owners.specs.View.{View}

module _ {X : Type 0} (f : ℕ → X) (P : X → Type 0) (xs : List ℕ) where
  -- what holds at each place holds of all
  pub all_of : (i : ℕ) → length xs ≤ i → ((k : ℕ) → k < i → P (f (get_or xs k 0))) → All P (map f xs)
  all_of i all holds = All-map P f xs (All-from_get_or (λ y. P (f y)) xs 0 (λ k less. holds k (omega (arith, all, less))))

  -- and at each place, what holds of all
  pub one_of : (i : ℕ) → i < length xs → All P (map f xs) → P (f (get_or xs i 0))
  one_of i less all =
      let long = length-map xs f in
      subst P (get_or-map f xs i 0 (f 0) less) (All-get_or P (map f xs) i (f 0) (omega (arith, long, less)) all)

-- the numbers of tickets are those in their blocks
pub numbers_at : (heap : View) (xs : List ℕ) → ticket_numbers (map (ticket_in heap) xs) ≡ map (λ addr. (ticket_in heap addr).number) xs
numbers_at heap [] = refl
numbers_at heap (x ∷ xs) = ap (λ (l : List ℕ). (ticket_in heap x).number ∷ l) (numbers_at heap xs)

-- one more place of which something holds
pub one_more : (P : ℕ → Type 0) (i : ℕ) → ((k : ℕ) → k < i → P k) → P i → (k : ℕ) → k < i + 1 → P k
one_more P i before here k less = elim (cases_lt k i) [
  | inl below ↦ before k below
  | inr above ↦ let e : i ≡ k = omega (arith, less, above) in subst P e here
]

module _ (heap : View) (xs : List ℕ) where
  -- the ticket at a place
  ticket_is : (k : ℕ) → k < length xs → get_or (map (ticket_in heap) xs) k (ticket_in heap 0) ≡ ticket_in heap (get_or xs k 0)
  ticket_is k less = get_or-map (ticket_in heap) xs k 0 (ticket_in heap 0) less

  -- tickets each of which may stand before the next are in order
  pub in_order : ((k : ℕ) → k + 1 < length xs → may_precede (ticket_in heap (get_or xs k 0)) (ticket_in heap (get_or xs (k + 1) 0)) ≡ true) →
      AllPairs (λ a b. may_precede a b ≡ true) (map (ticket_in heap) xs)
  in_order holds i j d less inside =
      let long = length-map xs (ticket_in heap) in
      let there : j < length xs = omega (arith, long, inside) in
      let pair =
      apart (map (ticket_in heap) xs) (ticket_in heap 0)
      (λ k more.
      let k' : k + 1 < length xs = omega (arith, long, more) in
      ap (λ (t : Ticket). may_precede t (get_or (map (ticket_in heap) xs) (k + 1) (ticket_in heap 0))) (ticket_is k (omega (arith, k')))
      ∙ ap (λ (t : Ticket). may_precede (ticket_in heap (get_or xs k 0)) t) (ticket_is (k + 1) k')
      ∙ holds k k')
      i j less inside in
      ap (λ (t : Ticket). may_precede t (get_or (map (ticket_in heap) xs) j d)) (get_or-map (ticket_in heap) xs i 0 d (omega (arith, less, there)))
      ∙ ap (λ (t : Ticket). may_precede (ticket_in heap (get_or xs i 0)) t) (get_or-map (ticket_in heap) xs j 0 d there)
      ∙ sym (ap (λ (t : Ticket). may_precede t (get_or (map (ticket_in heap) xs) j (ticket_in heap 0))) (ticket_is i (omega (arith, less, there)))
      ∙ ap (λ (t : Ticket). may_precede (ticket_in heap (get_or xs i 0)) t) (ticket_is j there))
      ∙ pair

  -- and of those that are, each may
  pub neighbours : AllPairs (λ a b. may_precede a b ≡ true) (map (ticket_in heap) xs) → (k : ℕ) → k + 1 < length xs →
      may_precede (ticket_in heap (get_or xs k 0)) (ticket_in heap (get_or xs (k + 1) 0)) ≡ true
  neighbours order k less =
      let long = length-map xs (ticket_in heap) in
      sym (ap (λ (t : Ticket). may_precede t (get_or (map (ticket_in heap) xs) (k + 1) (ticket_in heap 0))) (ticket_is k (omega (arith, less)))
      ∙ ap (λ (t : Ticket). may_precede (ticket_in heap (get_or xs k 0)) t) (ticket_is (k + 1) less))
      ∙ order k (k + 1) (ticket_in heap 0) (omega arith) (omega (arith, long, less))

  -- one ticket more
  pub row_more : (i d : ℕ) → i < length xs → map (ticket_in heap) (take (i + 1) xs) ≡ map (ticket_in heap) (take i xs) ++ (ticket_in heap (get_or xs i d) ∷ [])
  row_more i d less = ap (map (ticket_in heap)) (take_more xs i d less) ∙ map-append (ticket_in heap) (take i xs) (get_or xs i d ∷ [])

  -- a granted ticket isn't the first that waits
  pub front_later : (i d : ℕ) → i < length xs → front_waiting (map (ticket_in heap) (take i xs)) ≡ None → (ticket_in heap (get_or xs i d)).granted ≡ true →
      front_waiting (map (ticket_in heap) (take (i + 1) xs)) ≡ None
  front_later i d less none granted =
      let t = ticket_in heap (get_or xs i d) in
      let ts = map (ticket_in heap) (take i xs) in
      ap front_waiting (row_more i d less)
      ∙ find-append (λ u. not u.granted) ts (t ∷ [])
      ∙ ap (λ o. option_or o (find (λ u. not u.granted) (t ∷ []))) none
      ∙ ap (λ (b : Bool). cond (not b) (Some t) None) granted

  -- and one that waits is
  pub front_here : (i d : ℕ) → i < length xs → front_waiting (map (ticket_in heap) (take i xs)) ≡ None → (ticket_in heap (get_or xs i d)).granted ≡ false →
      front_waiting (map (ticket_in heap) xs) ≡ Some (ticket_in heap (get_or xs i d))
  front_here i d less none waits =
      let t = ticket_in heap (get_or xs i d) in
      let ts = map (ticket_in heap) (take i xs) in
      let p : Ticket → Bool = λ u. not u.granted in
      ap (λ l. front_waiting (map (ticket_in heap) l)) (sym (take-append-drop (i + 1) xs))
      ∙ ap front_waiting (map-append (ticket_in heap) (take (i + 1) xs) (drop (i + 1) xs))
      ∙ find-append p (map (ticket_in heap) (take (i + 1) xs)) (map (ticket_in heap) (drop (i + 1) xs))
      ∙ ap (λ o. option_or o (find p (map (ticket_in heap) (drop (i + 1) xs))))
      (ap front_waiting (row_more i d less) ∙ find-append p ts (t ∷ []) ∙ ap (λ o. option_or o (find p (t ∷ []))) none
      ∙ ap (λ (b : Bool). cond (not b) (Some t) None) waits)

module _ (heap : View) (words : ℕ) (account : Acct) (numbers tickets : List ℕ) where
  -- the numbers up to those of an account, as they were put together
  pub numbers_are : (before : List ℕ) → before ≡ numbers_before heap words account → tickets ≡ members heap words (owners.Queue account) →
      numbers ≡ before ++ ticket_numbers (map (ticket_in heap) tickets) → numbers ≡ numbers_up_to heap words account
  numbers_are before before_are tickets_are is =
      is
      ∙ ap (λ (l : List ℕ). l ++ ticket_numbers (map (ticket_in heap) tickets)) before_are
      ∙ ap (λ (l : List ℕ). numbers_before heap words account ++ ticket_numbers (map (ticket_in heap) l)) tickets_are

  -- a queue whose numbers are distinct keeps the law
  pub lawful : numbers ≡ numbers_up_to heap words account → tickets ≡ members heap words (owners.Queue account) →
      AllPairs (λ a b. a ≢ b) numbers → IsQueue heap account (map (ticket_in heap) tickets) → IsLawful heap words account
  lawful numbers_is tickets_are apart queue = record {
    distinct = subst (IsDistinct nat_eq) numbers_is (IsDistinct-from_AllPairs unsigned_Decides numbers apart);
    queue = subst (λ (l : List ℕ). IsQueue heap account (map (ticket_in heap) l)) tickets_are queue;
  }

  -- and one that keeps it is such
  pub lawful_apart : numbers ≡ numbers_up_to heap words account → IsLawful heap words account → AllPairs (λ a b. a ≢ b) numbers
  lawful_apart numbers_is law =
      AllPairs-from_IsDistinct unsigned_Decides numbers (subst (IsDistinct nat_eq) (sym numbers_is) law.distinct)

  pub lawful_queue : tickets ≡ members heap words (owners.Queue account) → IsLawful heap words account → IsQueue heap account (map (ticket_in heap) tickets)
  lawful_queue tickets_are law = subst (λ (l : List ℕ). IsQueue heap account (map (ticket_in heap) l)) (sym tickets_are) law.queue
