-- A charge that an account of a world allows or refuses, as its row says.
use Rattle.std.proofs.Common.{◌≡◌, ◌∙◌, ◌+◌, ◌==◌, ℕ, zero, suc, List, [], ◌∷◌, Bool, true, false, cond, find, not, set, refl, sym, ap, arith, if◌then◌else◌}
use Rattle.std.specs.List.{position_or_len}
use Rattle.std.specs.Option.{option_map, option_or}
use Rattle.std.specs.Prelude.{Option, None, Some, MatchOption, slice_get}
use Rattle.sdr_base.specs.Linked.{first_of, last_of}
use Rattle.sdr_base.specs.declared.account.Acct.{Acct}
use Rattle.sdr_base.specs.declared.account.Acct.TheVariants as accts
use Rattle.sdr_base.specs.declared.account.Amounts.{Amounts}
use Rattle.sdr_base.specs.declared.kind.Space.{Space}
use Rattle.sdr_base.specs.declared.refusal.Refusal.{Refusal}
use Rattle.sdr_base.specs.declared.refusal.Refusal.TheVariants as refusals
use Rattle.law_steps.proofs.BarredLemmas.{amount_by}
use Rattle.sdr_machine.proofs.WorkLemmas.{on_false, on_none, on_some, on_true}
use Rattle.sdr_model.specs.Accounts.{account_of, pending_in, tickets_of}
use Rattle.sdr_model.specs.Amounts.{amount, amounts_by, first_above, minus, no_amounts}
use Rattle.sdr_model.specs.Charges.{occupancies, occupancy, rooms}
use Rattle.sdr_model.specs.Charging as model
use Rattle.sdr_model.specs.Charging.{Charges, with_covered}
use Rattle.sdr_model.specs.Queue.{barrier}
use Rattle.sdr_model.specs.Steps.{Outcome, Refuses}
use Rattle.sdr_model.specs.World.{World}
use Rattle.sdr_model.specs.declared.accounts.Pending.{Pending}
use Rattle.sdr_model.specs.declared.accounts.Ticket.{Ticket}
use Rattle.sdr_model.specs.declared.answer.Reply.TheVariants as replies
use Rattle.zco_acct.specs.Charges as acct
use Rattle.zco_acct.specs.Charges.{charged}
use Rattle.zco_acct.specs.Kept.{block_of}
use Rattle.zco_acct.specs.Refusals.{charge_refusal, no_space, room_refusal, ticket_left, unusable}
use Rattle.zco_acct.specs.Walks.{has_number}
use Rattle.step_zco.proofs.MovedLemmas.{SameEnds}
use Rattle.step_zco.proofs.MovingLemmas.{moved}
use Rattle.step_zco.proofs.FoundLemmas.{IsFoundAt, found_at, found_pending, none_pending, pending_at}

-- the ticket that a charge uses is set at its place
used_at : (number : ℕ) (amounts : Amounts) (ts : List Ticket) (place : ℕ) (t : Ticket) →
    position_or_len (has_number number) ts ≡ place → slice_get ts place ≡ Some t →
    acct.tickets_covered number amounts ts ≡ set ts place (record t { left = minus t.left amounts })
unfolding acct.tickets_covered
used_at number amounts [] place t at there = absurd cc
used_at number amounts (x ∷ xs) place t at there =
    by (x.number == number) refl place at there (λ p at there. used_at number amounts xs p t at there)
  where
    by : (b : Bool) → (x.number == number) ≡ b → (p : ℕ) → cond (not b) (1 + position_or_len (has_number number) xs) 0 ≡ p →
        slice_get (x ∷ xs) p ≡ Some t →
        ((k : ℕ) → position_or_len (has_number number) xs ≡ k → slice_get xs k ≡ Some t →
        acct.tickets_covered number amounts xs ≡ set xs k (record t { left = minus t.left amounts })) →
        (if b then record x { left = minus x.left amounts } ∷ xs else x ∷ acct.tickets_covered number amounts xs)
        ≡ set (x ∷ xs) p (record t { left = minus t.left amounts })
    by true e zero at there rest =
        let same : x ≡ t = cc in ap (λ (u : Ticket). record u { left = minus u.left amounts } ∷ xs) same
    by true e (suc p) at there rest = absurd (omega (arith, at))
    by false e zero at there rest = absurd (omega (arith, at))
    by false e (suc p) at there rest = ap (λ (us : List Ticket). x ∷ us) (rest p (omega (arith, at)) there)

-- a charge leaves the ends of a queue
used_first : (number : ℕ) (amounts : Amounts) (ts : List Ticket) →
    first_of block_of 0 (acct.tickets_covered number amounts ts) ≡ first_of block_of 0 ts
unfolding acct.tickets_covered
used_first number amounts [] = refl
used_first number amounts (t ∷ ts) =
    elim (t.number == number) as (λ b. first_of block_of 0
    (if b then record t { left = minus t.left amounts } ∷ ts else t ∷ acct.tickets_covered number amounts ts)
    ≡ t.block) [
      | true ↦ refl
      | false ↦ refl
    ]

used_last : (number : ℕ) (amounts : Amounts) (prev : ℕ) (ts : List Ticket) →
    last_of block_of prev (acct.tickets_covered number amounts ts) ≡ last_of block_of prev ts
unfolding acct.tickets_covered
used_last number amounts prev [] = refl
used_last number amounts prev (t ∷ ts) =
    let ih = used_last number amounts t.block ts in
    elim (t.number == number) as (λ b. last_of block_of prev
    (if b then record t { left = minus t.left amounts } ∷ ts else t ∷ acct.tickets_covered number amounts ts)
    ≡ last_of block_of t.block ts) [
      | true ↦ refl
      | false ↦ ih
    ]

pub charged_ends : (number : ℕ) (amounts : Amounts) (ts : List Ticket) → SameEnds ts (charged ts number amounts)
charged_ends number amounts ts =
    elim (number == 0) as (λ b. SameEnds ts (if b then ts else acct.tickets_covered number amounts ts)) [
      | true ↦ record { first = refl; last = refl }
      | false ↦ record { first = used_first number amounts ts; last = used_last number amounts 0 ts }
    ]

-- the world with an account's own tickets is as it was
pub stays : (w : World) (acct : Acct) → w ≡ moved w w.things acct (tickets_of w.accounts acct)
stays w accts.Inbound = refl
stays w accts.Outbound = refl

-- neither a ticket nor a space stands in the way
none_first : {A B C : Type 0} (f : A → C) (g : B → C) (a : Option A) (b : Option B) →
    option_or (option_map f a) (option_map g b) ≡ None → (a ≡ None) × (b ≡ None)
none_first f g None None is = (refl, refl)
none_first f g None (Some b) is = absurd cc
none_first f g (Some a) b is = absurd cc

-- a refusal by another name
refuses_as : {w : World} {o : Outcome} {this that : Refusal} → this ≡ that → Refuses w o that → Refuses w o this
refuses_as same r = (r.0, r.1, r.2 ∙ ap (λ (x : Refusal). replies.Refused x) (sym same))

-- a charge of an account, with a ticket or none
module _ (w : World) (one : Acct) (number : ℕ) (charge : Space → ℕ) where
  abbrev tickets : List Ticket
  tickets = tickets_of w.accounts one

  abbrev maxima : Amounts
  maxima = (account_of w.accounts one).maxima

  abbrev amounts : Amounts
  amounts = amounts_by charge

  -- why the account refuses it, if it does
  abbrev pub refusal_of : Option Refusal
  refusal_of = charge_refusal tickets number amounts (occupancies w one) maxima

  -- it doesn't: the row goes on in the world in which the grant is used
  pub record IsPaid : Type 1 where
    pub pending : Option Pending
    pub used : with_covered w pending amounts ≡ moved w w.things one (charged tickets number amounts)
    pub goes : (o : Outcome) (goes : World → Type 0) → goes (with_covered w pending amounts) → Charges w o one number charge goes

  -- what isn't covered, where so much is left of a grant
  abbrev uncovered : Amounts → Amounts
  uncovered left = minus amounts left

  -- the account has room for the rest
  rest_paid : (left : Amounts) → room_refusal tickets (uncovered left) (occupancies w one) maxima ≡ None →
      (barrier (uncovered left) tickets ≡ None) × (first_above (uncovered left) (rooms w one) ≡ None)
  rest_paid left none =
      none_first (λ (t : Ticket). refusals.Queue t.number) (no_space (occupancies w one) (uncovered left) maxima)
      (barrier (uncovered left) tickets) (first_above (uncovered left) (rooms w one)) none

  used_moved : (t : Ticket) (f : IsFoundAt number tickets t) → (number == 0) ≡ false →
      with_covered w (Some (pending_at one f.place t)) amounts ≡ moved w w.things one (charged tickets number amounts)
  used_moved t f e =
      let is : set tickets f.place (record t { left = minus t.left amounts }) ≡ charged tickets number amounts =
      sym (ap (λ (b : Bool). if b then tickets else acct.tickets_covered number amounts tickets) e
      ∙ used_at number amounts tickets f.place t f.at f.there) in
      set_moved (set tickets f.place (record t { left = minus t.left amounts })) f.place t
      ∙ ap (λ (us : List Ticket). moved w w.things one us) is
    where
      set_moved : (us : List Ticket) (place : ℕ) (t : Ticket) →
          with_covered w (Some (pending_at one place t)) amounts
          ≡ moved w w.things one (set tickets place (record t { left = minus t.left amounts }))
      set_moved us place t = by one
        where
          by : (a : Acct) → with_covered w (Some (pending_at a place t)) amounts
              ≡ moved w w.things a (set (tickets_of w.accounts a) place (record t { left = minus t.left amounts }))
          by accts.Inbound = refl
          by accts.Outbound = refl

  pub paid : refusal_of ≡ None → IsPaid
  paid none = by (number == 0) refl none
    where
      granted : (t : Ticket) → find (has_number number) tickets ≡ Some t → (number == 0) ≡ false → (g : Bool) → t.granted ≡ g →
          option_or (if g then None else Some (refusals.NotAwarded number))
          (room_refusal tickets (uncovered t.left) (occupancies w one) maxima) ≡ None → IsPaid
      granted t here e true g none =
          let f = found_at number tickets t here in
          let free = rest_paid t.left none in
          record {
            pending = Some (pending_at one f.place t);
            used = used_moved t f e;
            goes = λ o goes h.
                on_false _ _ (number == 0) e
                (on_some _ _ (pending_in w.accounts one number) (pending_at one f.place t)
                (found_pending w.accounts one number t f)
                (on_true _ _ t.granted g
                (on_none _ _ (barrier (uncovered t.left) tickets) free.0
                (on_none _ _ (first_above (uncovered t.left) (rooms w one)) free.1 h))));
          }
      granted t here e false g none = absurd cc

      named : (o : Option Ticket) → find (has_number number) tickets ≡ o → (number == 0) ≡ false →
          option_or (unusable number o) (room_refusal tickets (uncovered (ticket_left o)) (occupancies w one) maxima) ≡ None →
          IsPaid
      named None here e none = absurd cc
      named (Some t) here e none = granted t here e t.granted refl none

      by : (b : Bool) → (number == 0) ≡ b →
          option_or (if b then None else unusable number (find (has_number number) tickets))
          (room_refusal tickets (uncovered (ticket_left (if b then None else find (has_number number) tickets)))
          (occupancies w one) maxima) ≡ None → IsPaid
      by true e none =
          let free = rest_paid no_amounts none in
          record {
            pending = None;
            used = stays w one ∙ ap (λ (b : Bool). moved w w.things one (if b then tickets else acct.tickets_covered number amounts tickets)) (sym e);
            goes = λ o goes h.
                on_true _ _ (number == 0) e
                (on_none _ _ (barrier (uncovered no_amounts) tickets) free.0
                (on_none _ _ (first_above (uncovered no_amounts) (rooms w one)) free.1 h));
          }
      by false e none = named (find (has_number number) tickets) refl e none

  -- it does: the row refuses the call
  pub unpaid : (that : Refusal) → refusal_of ≡ Some that → (o : Outcome) (goes : World → Type 0) → Refuses w o that →
      Charges w o one number charge goes
  unpaid that some o goes r = by (number == 0) refl some
    where
      -- for the room
      rest : (left : Amounts) → room_refusal tickets (uncovered left) (occupancies w one) maxima ≡ Some that → (used : World) →
          MatchOption (barrier (uncovered left) tickets)
          (MatchOption (first_above (uncovered left) (rooms w one)) (goes used)
          (λ space. Refuses w o (model.no_space w one (uncovered left) space)))
          (λ t. Refuses w o (refusals.Queue t.number))
      rest left some used = queue (barrier (uncovered left) tickets) (first_above (uncovered left) (rooms w one)) some
        where
          said : (space : Space) → no_space (occupancies w one) (uncovered left) maxima space
              ≡ model.no_space w one (uncovered left) space
          said space =
              ap (λ (n : ℕ). refusals.NoSpace space n (amount (uncovered left) space) (amount maxima space))
              (amount_by (occupancy w one) space)

          queue : (b : Option Ticket) (f : Option Space) →
              option_or (option_map (λ (t : Ticket). refusals.Queue t.number) b)
              (option_map (no_space (occupancies w one) (uncovered left) maxima) f) ≡ Some that →
              MatchOption b
              (MatchOption f (goes used) (λ space. Refuses w o (model.no_space w one (uncovered left) space)))
              (λ t. Refuses w o (refusals.Queue t.number))
          queue None None is = absurd cc
          queue None (Some space) is =
              let same : no_space (occupancies w one) (uncovered left) maxima space ≡ that = cc in
              refuses_as (sym (said space) ∙ same) r
          queue (Some t) f is = let same : refusals.Queue t.number ≡ that = cc in refuses_as same r

      granted : (t : Ticket) → find (has_number number) tickets ≡ Some t → (number == 0) ≡ false → (g : Bool) → t.granted ≡ g →
          option_or (if g then None else Some (refusals.NotAwarded number))
          (room_refusal tickets (uncovered t.left) (occupancies w one) maxima) ≡ Some that → Charges w o one number charge goes
      granted t here e true is some =
          let f = found_at number tickets t here in
          on_false _ _ (number == 0) e
          (on_some _ _ (pending_in w.accounts one number) (pending_at one f.place t) (found_pending w.accounts one number t f)
          (on_true _ _ t.granted is (rest t.left some (with_covered w (Some (pending_at one f.place t)) amounts))))
      granted t here e false is some =
          let f = found_at number tickets t here in
          let same : refusals.NotAwarded number ≡ that = cc in
          on_false _ _ (number == 0) e
          (on_some _ _ (pending_in w.accounts one number) (pending_at one f.place t) (found_pending w.accounts one number t f)
          (on_false _ _ t.granted is (refuses_as same r)))

      named : (x : Option Ticket) → find (has_number number) tickets ≡ x → (number == 0) ≡ false →
          option_or (unusable number x) (room_refusal tickets (uncovered (ticket_left x)) (occupancies w one) maxima) ≡ Some that →
          Charges w o one number charge goes
      named None here e some =
          let same : refusals.BadTicket number ≡ that = cc in
          on_false _ _ (number == 0) e
          (on_none _ _ (pending_in w.accounts one number) (none_pending w.accounts one number here) (refuses_as same r))
      named (Some t) here e some = granted t here e t.granted refl some

      by : (b : Bool) → (number == 0) ≡ b →
          option_or (if b then None else unusable number (find (has_number number) tickets))
          (room_refusal tickets (uncovered (ticket_left (if b then None else find (has_number number) tickets)))
          (occupancies w one) maxima) ≡ Some that → Charges w o one number charge goes
      by true e some = on_true _ _ (number == 0) e (rest no_amounts some w)
      by false e some = named (find (has_number number) tickets) refl e some
