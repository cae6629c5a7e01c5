-- A request for space, as a step.
use Rattle.std.proofs.Common.{◌≡◌, ◌∙◌, ◌≤◌, ◌+◌, ◌==◌, ◌++◌, ℕ, List, [], ◌∷◌, Bool, true, false, true≢false, inl, nat_le, refl, sym, ap, subst, arith, if◌then◌else◌}
use Rattle.std.proofs.lemmas.Bool.Decides.{nat_tests}
use Rattle.std.specs.List.{AllByRecursion}
use Rattle.std.specs.Option.{option_map, option_or}
use Rattle.std.specs.Prelude.{All, Option, None, Some}
use Rattle.step_things.proofs.RowLemmas.{TakesAim, row_refused, short_refused, took_has}
use Rattle.step_things.specs.Answering.{Answered, IsRefused, IsReady}
use Rattle.sdr_stands.specs.Standing.{HeapStandsFor, with_taken_marked}
use Rattle.sdr_base.specs.Blocks.{with_at}
use Rattle.sdr_base.specs.Entries.{Changes}
use Rattle.sdr_base.specs.Linked.{first_of, last_of}
use Rattle.sdr_base.specs.Objects.{Heap}
use Rattle.sdr_base.specs.declared.account.Acct.{Acct}
use Rattle.sdr_base.specs.declared.account.Acct.TheVariants as accts
use Rattle.sdr_base.specs.declared.account.Amounts.{Amounts}
use Rattle.sdr_base.specs.declared.kind.Space.{Space}
use Rattle.sdr_base.specs.declared.moves.Move.{Move}
use Rattle.sdr_base.specs.declared.moves.Move.TheVariants.{Took}
use Rattle.sdr_base.specs.declared.refusal.Refusal.{Refusal}
use Rattle.sdr_base.specs.declared.refusal.Refusal.TheVariants as refusals
use Rattle.sdr_base.specs.declared.stop.Stop.TheVariants as stops
use Rattle.law_steps.proofs.AccountQueues.{account_kept, queues_from}
use Rattle.law_steps.proofs.QueueLaws.{within_all}
use Rattle.law_steps.proofs.QueueOrder.{all_placed, enqueued_is}
use Rattle.law_steps.specs.Fresh.{AreFresh}
use Rattle.sdr_machine.proofs.WorkLemmas.{on_false, on_none, on_some, on_true}
use Rattle.sdr_model.specs.AccountSteps.{is_granted, new_ticket, with_request}
use Rattle.sdr_model.specs.Accounts.{account_of, most_amount, pending_in, tickets_of}
use Rattle.sdr_model.specs.Amounts.{amount, amounts_by, first_above}
use Rattle.sdr_model.specs.Blocks.{addresses_of, blocks_of}
use Rattle.sdr_model.specs.Fields.{IsWord}
use Rattle.sdr_model.specs.Queue.{enqueued, served}
use Rattle.sdr_model.specs.Rows.{ByRow}
use Rattle.sdr_model.specs.Steps.{taken_addresses}
use Rattle.sdr_model.specs.Valid.{IsValidTicket}
use Rattle.sdr_model.specs.World.{World}
use Rattle.sdr_model.specs.declared.accounts.Ticket.{Ticket}
use Rattle.sdr_model.specs.declared.answer.Reply.{Reply}
use Rattle.sdr_model.specs.declared.answer.Reply.TheVariants as replies
use Rattle.sdr_model.specs.declared.call.Call.{Call}
use Rattle.sdr_model.specs.declared.call.Call.TheVariants as calls
use Rattle.zco_acct.specs.Kept.{block_of, queue_entries}
use Rattle.zco_acct.specs.Words.{first_word, last_word, occupied_in}
use Rattle.step_zco.proofs.AccountLemmas.{account_becomes, account_with, account_words, roots_before, served_words, world_with}
use Rattle.step_zco.proofs.ComingLemmas.{tickets_kept}
use Rattle.step_zco.proofs.FoundLemmas.{granted_is}
use Rattle.step_zco.proofs.GrantLemmas.{grants_many, new_awaits}
use Rattle.step_zco.proofs.OccupiedLemmas.{left_entered, occupied_same, occupied_with, served_occupied}
use Rattle.step_zco.proofs.QueueLemmas.{maxima_are, next_is, occupied_is, queue_kept}
use Rattle.step_zco.proofs.WordLemmas.{AccountWords, ends_set, next_set, occupied_set, roots_with, set_occupied}
use Rattle.step_zco.specs.AccountAnswering.{grants_of}
use Rattle.zco_space.specs.Requests.{RequestStops, RequestsTicket, number_granted, request_refusal, requested, requests_granted}
use Rattle.zco_space.specs.Served.{newly_granted, occupied_after, queue_served}

-- a request of an account, by what it asks
abbrev pub asks : Acct → Amounts → ℕ → ℕ → Call
asks acct asked coarse fine = calls.Request acct asked.file asked.bulk asked.heap coarse fine

-- a heap that stands for a world, and what is asked in it
module _ (old new : Heap) (w : World) (acct : Acct) (asked : Amounts) (coarse fine : ℕ) (s : HeapStandsFor old w)
    (valid_world : IsReady w) where
  abbrev tickets : List Ticket
  tickets = tickets_of w.accounts acct

  abbrev maxima : Amounts
  maxima = (account_of w.accounts acct).maxima

  -- the ticket at an address, and the queue with it, before and after it is served
  abbrev new_at : ℕ → Ticket
  new_at addr = new_ticket w.accounts.next addr asked coarse fine

  abbrev queue_at : ℕ → List Ticket
  queue_at addr = enqueued tickets (new_at addr)

  abbrev served_at : ℕ → List Ticket
  served_at addr = served maxima (occupied_with w acct (queue_at addr)) (queue_at addr)

  -- nothing is left of it, so as much is occupied
  occupied_at : (addr : ℕ) → occupied_in old acct ≡ occupied_with w acct (queue_at addr)
  occupied_at addr = occupied_is acct s ∙ occupied_same w acct tickets (queue_at addr)
      (λ space. left_entered space tickets (new_at addr) refl)

  requested_is : (addr : ℕ) → requested old asked coarse fine tickets addr ≡ queue_at addr
  requested_is addr = ap (λ (n : ℕ). enqueued tickets (new_ticket n addr asked coarse fine)) (next_is s)

  pub served_is : (addr : ℕ) → queue_served old acct (requested old asked coarse fine tickets addr) ≡ served_at addr
  served_is addr = λ i. served (maxima_are acct s i) (occupied_at addr i) (requested_is addr i)

  -- why the row refuses it
  world_refusal : request_refusal old acct asked
      ≡ option_or (option_map (λ space. refusals.TooLarge space (amount asked space) (amount maxima space))
      (first_above asked maxima))
      (if nat_le most_amount w.accounts.next then Some (refusals.BadTicket most_amount) else None)
  world_refusal = λ i.
      option_or
      (option_map (λ space. refusals.TooLarge space (amount asked space) (amount (maxima_are acct s i) space))
      (first_above asked (maxima_are acct s i)))
      (if nat_le most_amount (next_is s i) then Some (refusals.BadTicket most_amount) else None)

  low : nat_le most_amount w.accounts.next ≡ false → (w.accounts.next == most_amount) ≡ false
  low is = grind (arith, nat_tests)

  high : w.accounts.next ≤ most_amount → nat_le most_amount w.accounts.next ≡ true →
      (w.accounts.next == most_amount) ≡ true
  high most is = grind (arith, nat_tests)

  -- where it doesn't
  pub record IsAllowed : Type 0 where
    pub within : first_above asked maxima ≡ None
    pub numbered : (w.accounts.next == most_amount) ≡ false

  pub allowed : request_refusal old acct asked ≡ None → IsAllowed
  allowed none = by (first_above asked maxima) (nat_le most_amount w.accounts.next) refl refl (sym world_refusal ∙ none)
    where
      by : (o : Option Space) (b : Bool) → first_above asked maxima ≡ o → nat_le most_amount w.accounts.next ≡ b →
          option_or (option_map (λ space. refusals.TooLarge space (amount asked space) (amount maxima space)) o)
          (if b then Some (refusals.BadTicket most_amount) else None) ≡ None → IsAllowed
      by (Some space) b e f is = absurd cc
      by None true e f is = absurd cc
      by None false e f is = record { within = e; numbered = low f }

  -- where it does
  pub refuses : (refusal : Refusal) → request_refusal old acct asked ≡ Some refusal → old.moves ≡ [] → new ≡ old →
      ByRow w (record { moves = new.moves; after = w; reply = replies.Refused refusal }) (asks acct asked coarse fine)
  refuses refusal some unmoved same =
      row_refused w (asks acct asked coarse fine) new refusal (ap (λ (h : Heap). h.moves) same ∙ unmoved)
      (by (first_above asked maxima) (nat_le most_amount w.accounts.next) refl refl (sym world_refusal ∙ some))
    where
      by : (o : Option Space) (b : Bool) → first_above asked maxima ≡ o → nat_le most_amount w.accounts.next ≡ b →
          option_or (option_map (λ space. refusals.TooLarge space (amount asked space) (amount maxima space)) o)
          (if b then Some (refusals.BadTicket most_amount) else None) ≡ Some refusal →
          ByRow w (record { moves = []; after = w; reply = replies.Refused refusal }) (asks acct asked coarse fine)
      by (Some space) b e f is =
          let this : refusals.TooLarge space (amount asked space) (amount maxima space) ≡ refusal = cc in
          on_some _ _ (first_above asked maxima) space e (refl, refl, ap (λ r. replies.Refused r) (sym this))
      by None true e f is =
          let this : refusals.BadTicket most_amount ≡ refusal = cc in
          on_none _ _ (first_above asked maxima) e
          (on_true _ _ (w.accounts.next == most_amount) (high valid_world.whole.queues.next f)
          (refl, refl, ap (λ r. replies.Refused r) (sym this)))
      by None false e f is = absurd cc

  -- the world with the ticket at an address
  abbrev next_at : ℕ → World
  next_at addr = with_request w acct (new_at addr)

  abbrev reply_at : ℕ → Reply
  reply_at addr = replies.Ticket w.accounts.next (is_granted (pending_in (next_at addr).accounts acct w.accounts.next))

  pub request_row : (addr : ℕ) → IsAllowed →
      ByRow w (record {
        moves = Took 96 addr ∷ [];
        after = with_taken_marked (next_at addr) (Took 96 addr ∷ []);
        reply = reply_at addr;
      }) (asks acct asked coarse fine)
  request_row addr a =
      on_none _ _ (first_above asked maxima) a.within
      (on_false _ _ (w.accounts.next == most_amount) a.numbered (refl, (refl, refl)))

  pub request_aim : IsAllowed → TakesAim w (asks acct asked coarse fine) 96
  request_aim a = record { after = _; reply = _; row = request_row 0 a; answered = refl }

  -- the ticket and the queue are valid
  queue_valid : (addr : ℕ) → IsAllowed → AllByRecursion IsValidTicket (queue_at addr)
  queue_valid addr a =
      let account = account_kept w.accounts acct (queues_from w.accounts valid_world.whole.queues) in
      subst (AllByRecursion IsValidTicket) (sym (enqueued_is tickets (new_at addr)))
      (all_placed IsValidTicket tickets (new_at addr)
      (record {
        asked = within_all asked maxima (amounts_by (λ space. most_amount)) a.within account.maxima;
        left = grind (arith, nat_tests);
        waiting = λ waits. refl;
      }) account.queue.valid)

  occupied_then : (addr : ℕ) → IsAllowed →
      occupied_after (occupied_in old acct) (requested old asked coarse fine tickets addr)
      (queue_served old acct (requested old asked coarse fine tickets addr))
      ≡ occupied_with w acct (served_at addr)
  occupied_then addr a =
      (λ i. occupied_after (occupied_at addr i) (requested_is addr i) (served_is addr i))
      ∙ served_occupied w acct maxima (queue_at addr) (queue_valid addr a)

  -- the control words
  roots_then : (addr : ℕ) → IsAllowed → {roots : ℕ → ℕ} →
      roots ≡ set_occupied (with_at (with_at (with_at old.roots (first_word acct)
      (first_of block_of 0 (requested old asked coarse fine tickets addr))) (last_word acct)
      (last_of block_of 0 (requested old asked coarse fine tickets addr))) 108 (old.roots 108 + 1)) acct
      (occupied_after (occupied_in old acct) (requested old asked coarse fine tickets addr)
      (queue_served old acct (requested old asked coarse fine tickets addr))) →
      roots ≡ roots_with w acct (account_words w acct (account_with w acct (served_at addr))) (w.accounts.next + 1)
  roots_then addr a is =
      let was = account_words w acct (account_of w.accounts acct) in
      let first = first_of block_of 0 (queue_at addr) in
      let last = last_of block_of 0 (queue_at addr) in
      let next = w.accounts.next in
      let o = occupied_with w acct (served_at addr) in
      let ended : AccountWords = record was { first = first; last = last } in
      is
      ∙ (λ i. set_occupied (with_at (with_at (with_at ((s.roots ∙ roots_before w acct) i) (first_word acct)
      (first_of block_of 0 (requested_is addr i))) (last_word acct) (last_of block_of 0 (requested_is addr i))) 108
      (next_is s i + 1)) acct (occupied_then addr a i))
      ∙ ap (λ (r : ℕ → ℕ). set_occupied (with_at r 108 (next + 1)) acct o) (ends_set w acct was next first last)
      ∙ ap (λ (r : ℕ → ℕ). set_occupied r acct o) (next_set w acct ended next (next + 1))
      ∙ occupied_set w acct ended (next + 1) o
      ∙ ap (λ (b : AccountWords). roots_with w acct b (next + 1))
      (served_words w acct maxima (occupied_with w acct (queue_at addr)) (queue_at addr))

-- the world with a request is that with another account
request_world : (w : World) (acct : Acct) (t : Ticket) →
    with_request w acct t
    ≡ world_with w acct (account_with w acct (served (account_of w.accounts acct).maxima
    (occupied_with w acct (enqueued (tickets_of w.accounts acct) t)) (enqueued (tickets_of w.accounts acct) t)))
    (t.number + 1)
request_world w accts.Inbound t = refl
request_world w accts.Outbound t = refl

pub request_tickets : (w : World) (acct : Acct) (t : Ticket) →
    tickets_of (with_request w acct t).accounts acct
    ≡ served (account_of w.accounts acct).maxima (occupied_with w acct (enqueued (tickets_of w.accounts acct) t))
    (enqueued (tickets_of w.accounts acct) t)
request_tickets w accts.Inbound t = refl
request_tickets w accts.Outbound t = refl

-- it was answered
pub requested_answered : (old new : Heap) (w : World) (acct : Acct) (asked : Amounts) (coarse fine : ℕ)
    (value : ℕ × Bool) →
    old.moves ≡ [] → HeapStandsFor old w → IsReady w → RequestsTicket acct asked coarse fine old new value →
    Answered w (asks acct asked coarse fine) new [] (replies.Ticket value.0 value.1)
requested_answered old new w acct asked coarse fine value unmoved s served r =
    let ts = tickets_of w.accounts acct in
    let k = queue_kept acct s (tickets_kept served) in
    let addr = r.addr in
    let moves = Took 96 addr ∷ [] in
    let t = new_ticket w.accounts.next addr asked coarse fine in
    let us = served_at old new w acct asked coarse fine s served addr in
    let is = served_is old new w acct asked coarse fine s served addr in
    let a = allowed old new w acct asked coarse fine s served r.allowed in
    let next = r.number ∙ next_is s in
    let adds = r.adds ts k in
    let others = r.others ts k in
    let m = took_has w 96 addr old new s served.whole.valid adds.fresh adds.nonzero adds.small
    (ap (λ (h : Heap). h.moves) others ∙ ap (λ (ms : List Move). ms ++ moves) unmoved) in
    let reply : replies.Ticket value.0 value.1
    ≡ replies.Ticket w.accounts.next (is_granted (pending_in (with_request w acct t).accounts acct w.accounts.next)) =
    (λ i. replies.Ticket (next i) ((r.granted ts k ∙ (λ j. number_granted (is j) (next j))
    ∙ ap (λ (xs : List Ticket). number_granted xs w.accounts.next) (sym (request_tickets w acct t))
    ∙ granted_is (with_request w acct t).accounts acct w.accounts.next) i)) in
    record {
      after = with_taken_marked (with_request w acct t) moves;
      row = subst (λ (ms : List Move). ByRow w (record {
        moves = ms;
        after = with_taken_marked (with_request w acct t) moves;
        reply = replies.Ticket value.0 value.1;
      }) (asks acct asked coarse fine)) (sym m.is)
          (subst (λ (p : Reply). ByRow w (record {
            moves = moves;
            after = with_taken_marked (with_request w acct t) moves;
            reply = p;
          }) (asks acct asked coarse fine)) (sym reply) (request_row old new w acct asked coarse fine s served addr a));
      answered = refl;
      fresh = subst (λ (ms : List Move). AreFresh (addresses_of (blocks_of w)) ms) (sym m.is) m.fresh;
      stands = subst (λ (v : World). HeapStandsFor new (with_taken_marked v moves)) (sym (request_world w acct t))
          (account_becomes old new w acct (account_with w acct us) (w.accounts.next + 1) moves s
          (subst (λ (xs : List Ticket). Changes old.blocks new.blocks (queue_entries acct ts)
          (queue_entries acct xs)) is adds.changes)
          (ap (λ (h : Heap). h.marks) others)
          (roots_then old new w acct asked coarse fine s served addr a (ap (λ (h : Heap). h.roots) others)));
      gave = refl;
      words = subst (λ (ms : List Move). All IsWord (taken_addresses ms)) (sym m.is) m.words;
      taken = refl;
    }

-- or refused
pub requested_refused : (old new : Heap) (w : World) (acct : Acct) (asked : Amounts) (coarse fine : ℕ) (was : List ℕ)
    (refusal : Refusal) → old.moves ≡ [] → HeapStandsFor old w → IsReady w →
    RequestStops acct asked old new (stops.Refused refusal) →
    IsRefused w (asks acct asked coarse fine) old new was was refusal
requested_refused old new w acct asked coarse fine was (refusals.TooLarge space much most) unmoved s served m = record {
  step = inl (refuses old new w acct asked coarse fine s served (refusals.TooLarge space much most) m.0 unmoved m.1);
  left = λ reads. absurd (true≢false (sym reads));
  gave = refl;
}
requested_refused old new w acct asked coarse fine was (refusals.BadTicket ticket) unmoved s served m = record {
  step = inl (refuses old new w acct asked coarse fine s served (refusals.BadTicket ticket) m.0 unmoved m.1);
  left = λ reads. absurd (true≢false (sym reads));
  gave = refl;
}
requested_refused old new w acct asked coarse fine was refusal unmoved s served m =
    short_refused w (asks acct asked coarse fine) 96 old new was refusal refl
    (request_aim old new w acct asked coarse fine s served
    (allowed old new w acct asked coarse fine s served m.0)) unmoved m.1

-- so many tickets were granted
pub request_grants : (old new : Heap) (w : World) (acct : Acct) (asked : Amounts) (coarse fine : ℕ) →
    HeapStandsFor old w →
    IsReady w →
    requests_granted old acct asked coarse fine (tickets_of w.accounts acct) ≤ grants_of w (asks acct asked coarse fine)
request_grants old new w acct asked coarse fine s served =
    let ts = tickets_of w.accounts acct in
    let q = queues_from w.accounts served.whole.queues in
    let t = new_ticket w.accounts.next 0 asked coarse fine in
    let is = served_is old new w acct asked coarse fine s served 0 in
    let asked_is = requested_is old new w acct asked coarse fine s served 0 in
    subst (λ (n : ℕ). n ≤ grants_of w (asks acct asked coarse fine)) (sym (λ i. newly_granted (asked_is i) (is i)))
    (grants_many w (with_request w acct t) acct (account_of w.accounts acct).maxima (occupied_with w acct
    (enqueued ts t))
    (enqueued ts t) (new_awaits w q acct t refl) (request_tickets w acct t))
