-- A ticket that goes, as a step.
use Rattle.std.proofs.Common.{◌≡◌, ◌∙◌, ◌≤◌, ◌++◌, ℕ, List, [], ◌∷◌, true≢false, inl, remove, refl, sym, ap, subst, arith}
use Rattle.std.specs.List.{AllByRecursion}
use Rattle.std.specs.Option.{option_map_or}
use Rattle.std.specs.Prelude.{All, Option, None, Some}
use Rattle.step_things.proofs.RowLemmas.{gave_has, row_refused}
use Rattle.step_things.specs.Answering.{Aim, Answered, IsRefused, IsReady}
use Rattle.sdr_stands.specs.Standing.{HeapStandsFor}
use Rattle.sdr_base.specs.Blocks.{with_at}
use Rattle.sdr_base.specs.Entries.{Changes}
use Rattle.sdr_base.specs.Linked.{first_of, last_of}
use Rattle.sdr_base.specs.Objects.{Heap}
use Rattle.sdr_base.specs.declared.account.Acct.{Acct}
use Rattle.sdr_base.specs.declared.account.Acct.TheVariants as accts
use Rattle.sdr_base.specs.declared.account.Amounts.{Amounts}
use Rattle.sdr_base.specs.declared.moves.Move.{Move}
use Rattle.sdr_base.specs.declared.moves.Move.TheVariants.{Gave}
use Rattle.sdr_base.specs.declared.refusal.Refusal.{Refusal}
use Rattle.sdr_base.specs.declared.refusal.Refusal.TheVariants as refusals
use Rattle.sdr_base.specs.declared.stop.Stop.TheVariants as stops
use Rattle.law_steps.proofs.AccountQueues.{account_kept, queues_from}
use Rattle.law_steps.proofs.BarredLemmas.{left_gone}
use Rattle.law_steps.proofs.QueueLemmas.{all_gone}
use Rattle.law_steps.specs.Fresh.{AreFresh}
use Rattle.sdr_machine.proofs.WorkLemmas.{on_none, on_some}
use Rattle.sdr_machine.specs.Demand.{grants_between}
use Rattle.sdr_model.specs.AccountSteps.{pending_of, without_ticket}
use Rattle.sdr_model.specs.Accounts.{account_of, tickets_of}
use Rattle.sdr_model.specs.Amounts.{minus}
use Rattle.sdr_model.specs.Blocks.{addresses_of, blocks_of}
use Rattle.sdr_model.specs.Fields.{IsWord}
use Rattle.sdr_model.specs.Queue.{served}
use Rattle.sdr_model.specs.Rows.{ByRow}
use Rattle.sdr_model.specs.Steps.{taken_addresses}
use Rattle.sdr_model.specs.Valid.{IsValidTicket}
use Rattle.sdr_model.specs.World.{World}
use Rattle.sdr_model.specs.declared.accounts.Pending.{Pending}
use Rattle.sdr_model.specs.declared.accounts.Ticket.{Ticket}
use Rattle.sdr_model.specs.declared.answer.Reply.TheVariants as replies
use Rattle.sdr_model.specs.declared.call.Call.TheVariants as calls
use Rattle.zco_acct.specs.Kept.{block_of, queue_entries}
use Rattle.zco_acct.specs.Words.{first_word, last_word}
use Rattle.step_zco.proofs.AccountLemmas.{account_becomes, account_with, account_words, roots_before, served_words, unmarked, world_with}
use Rattle.step_zco.proofs.ComingLemmas.{tickets_kept}
use Rattle.step_zco.proofs.FoundLemmas.{IsPending, located_pending, pending_at, unlocated}
use Rattle.step_zco.proofs.GrantLemmas.{grants_many, left_await}
use Rattle.step_zco.proofs.OccupiedLemmas.{occupied_less, occupied_with, served_occupied}
use Rattle.step_zco.proofs.QueueLemmas.{maxima_are, occupied_is, queue_kept}
use Rattle.step_zco.proofs.WordLemmas.{AccountWords, ends_set, occupied_set, roots_with, set_occupied}
use Rattle.step_zco.specs.AccountAnswering.{grants_of}
use Rattle.zco_space.specs.Served.{newly_granted, occupied_after}
use Rattle.zco_space.specs.Shreds.{ShredStops, ShredsTicket, given_back, located, queue_of, shredded, shreds_granted, without_number}

-- the world without a ticket is that with another account
gone_world : (w : World) (acct : Acct) (place : ℕ) (t : Ticket) →
    without_ticket w (pending_at acct place t)
    ≡ world_with w acct (account_with w acct (served (account_of w.accounts acct).maxima
    (occupied_with w acct (remove (tickets_of w.accounts acct) place)) (remove (tickets_of w.accounts acct) place)))
    w.accounts.next
gone_world w accts.Inbound place t = refl
gone_world w accts.Outbound place t = refl

gone_tickets : (w : World) (acct : Acct) (place : ℕ) (t : Ticket) →
    tickets_of (without_ticket w (pending_at acct place t)).accounts acct
    ≡ served (account_of w.accounts acct).maxima (occupied_with w acct (remove (tickets_of w.accounts acct) place))
    (remove (tickets_of w.accounts acct) place)
gone_tickets w accts.Inbound place t = refl
gone_tickets w accts.Outbound place t = refl

-- a ticket of a world that goes
module _ (old : Heap) (w : World) (s : HeapStandsFor old w) (valid_world : IsReady w) (number : ℕ) (acct : Acct)
    (t : Ticket)
    (p : IsPending w number acct t) where
  abbrev tickets : List Ticket
  tickets = tickets_of w.accounts acct

  abbrev maxima : Amounts
  maxima = (account_of w.accounts acct).maxima

  abbrev left : List Ticket
  left = remove tickets p.found.place

  abbrev after : World
  after = without_ticket w (pending_at acct p.found.place t)

  abbrev served_left : List Ticket
  served_left = served maxima (occupied_with w acct left) left

  given_is : given_back old acct t ≡ occupied_with w acct left
  given_is =
      ap (λ (a : Amounts). minus a t.left) (occupied_is acct s)
      ∙ occupied_less w acct tickets left t.left (λ space. left_gone space tickets p.found.place t p.found.there)

  pub shredded_is : shredded old acct number t tickets ≡ served_left
  shredded_is = λ i. served (maxima_are acct s i) (given_is i) (p.found.gone i)

  pub shred_row : ByRow w (record { moves = Gave t.block ∷ []; after = record after { shown = [] }; reply = replies.Done })
      (calls.Shred number)
  shred_row = on_some _ _ (pending_of w number) (pending_at acct p.found.place t) p.is (refl, refl, refl)

  pub shred_aim : Aim w (calls.Shred number)
  shred_aim = record { to = _; row = shred_row; answered = refl }

  left_valid : AllByRecursion IsValidTicket left
  left_valid =
      all_gone IsValidTicket tickets p.found.place
      (account_kept w.accounts acct (queues_from w.accounts valid_world.whole.queues)).queue.valid

  occupied_then : occupied_after (given_back old acct t) (without_number number tickets)
      (shredded old acct number t tickets)
      ≡ occupied_with w acct served_left
  occupied_then =
      (λ i. occupied_after (given_is i) (p.found.gone i) (shredded_is i))
      ∙ served_occupied w acct maxima left left_valid

  pub left_roots : {roots : ℕ → ℕ} →
      roots ≡ set_occupied (with_at (with_at old.roots (first_word acct) (first_of block_of 0
      (without_number number tickets)))
      (last_word acct) (last_of block_of 0 (without_number number tickets))) acct
      (occupied_after (given_back old acct t) (without_number number tickets) (shredded old acct number t tickets)) →
      roots ≡ roots_with w acct (account_words w acct (account_with w acct served_left)) w.accounts.next
  left_roots is =
      let was = account_words w acct (account_of w.accounts acct) in
      let first = first_of block_of 0 left in
      let last = last_of block_of 0 left in
      let o = occupied_with w acct served_left in
      let ended : AccountWords = record was { first = first; last = last } in
      is
      ∙ (λ i. set_occupied (with_at (with_at ((s.roots ∙ roots_before w acct) i) (first_word acct)
      (first_of block_of 0 (p.found.gone i))) (last_word acct) (last_of block_of 0 (p.found.gone i))) acct
      (occupied_then i))
      ∙ ap (λ (r : ℕ → ℕ). set_occupied r acct o) (ends_set w acct was w.accounts.next first last)
      ∙ occupied_set w acct ended w.accounts.next o
      ∙ ap (λ (b : AccountWords). roots_with w acct b w.accounts.next)
      (served_words w acct maxima (occupied_with w acct left) left)

  pub left_stands : (new : Heap) →
      Changes old.blocks new.blocks (queue_entries acct tickets) (queue_entries acct
      (shredded old acct number t tickets)) →
      new.marks ≡ old.marks →
      new.roots ≡ roots_with w acct (account_words w acct (account_with w acct served_left)) w.accounts.next →
      HeapStandsFor new after
  left_stands new changes marks roots =
      subst (HeapStandsFor new) (sym (gone_world w acct p.found.place t))
      (unmarked (account_becomes old new w acct (account_with w acct served_left) w.accounts.next (Gave t.block ∷ []) s
      (subst (λ (xs : List Ticket). Changes old.blocks new.blocks (queue_entries acct tickets)
      (queue_entries acct xs)) shredded_is
      changes)
      marks roots))

  -- so many tickets are granted then
  pub left_grants : newly_granted (without_number number tickets) (shredded old acct number t tickets)
      ≤ grants_between w after
  left_grants =
      subst (λ (n : ℕ). n ≤ grants_between w after) (sym (λ i. newly_granted (p.found.gone i) (shredded_is i)))
      (grants_many w after acct maxima (occupied_with w acct left) left
      (left_await w (queues_from w.accounts valid_world.whole.queues) acct p.found.place)
      (gone_tickets w acct p.found.place t))

-- it went
pub shredded_answered : (old new : Heap) (w : World) (number : ℕ) → old.moves ≡ [] → HeapStandsFor old w → IsReady w →
    ShredsTicket number old new → Answered w (calls.Shred number) new [] replies.Done
shredded_answered old new w number unmoved s served r =
    let keeps = tickets_kept served in
    let acct = r.acct in
    let t = r.ticket in
    let ts = tickets_of w.accounts acct in
    let k = queue_kept acct s keeps in
    let p = located_pending w number acct t
    (r.is w.accounts.inbound.tickets w.accounts.outbound.tickets (queue_kept accts.Inbound s keeps)
    (queue_kept accts.Outbound s keeps)) in
    let others = r.others ts k in
    let after = without_ticket w (pending_at acct p.found.place t) in
    let m = gave_has w (t.block ∷ []) new
    (ap (λ (h : Heap). h.moves) others ∙ ap (λ (ms : List Move). ms ++ Gave t.block ∷ []) unmoved) in
    let stands = left_stands old w s served number acct t p new (r.changes ts k) (ap (λ (h : Heap). h.marks) others)
    (left_roots old w s served number acct t p (ap (λ (h : Heap). h.roots) others)) in
    record {
      after = record after { shown = [] };
      row = subst (λ (ms : List Move). ByRow w (record { moves = ms; after = record after { shown = [] }; reply = replies.Done })
          (calls.Shred number)) (sym m.is) (shred_row old w s served number acct t p);
      answered = refl;
      fresh = subst (λ (ms : List Move). AreFresh (addresses_of (blocks_of w)) ms) (sym m.is) m.fresh;
      stands = record { blocks = stands.blocks; roots = stands.roots; marks = stands.marks };
      gave = refl;
      words = subst (λ (ms : List Move). All IsWord (taken_addresses ms)) (sym m.is) m.words;
      taken = refl;
    }

-- or it was refused
pub shredded_refused : (old new : Heap) (w : World) (number : ℕ) (was : List ℕ) (refusal : Refusal) → old.moves ≡ [] →
    HeapStandsFor old w → IsReady w → ShredStops number old new (stops.Refused refusal) →
    IsRefused w (calls.Shred number) old new was was refusal
shredded_refused old new w number was (refusals.BadTicket ticket) unmoved s served m =
    let keeps = tickets_kept served in
    let none = unlocated w number
    (m.1.lacks w.accounts.inbound.tickets w.accounts.outbound.tickets (queue_kept accts.Inbound s keeps)
    (queue_kept accts.Outbound s keeps)) in
    record {
      step = inl (row_refused w (calls.Shred number) new (refusals.BadTicket ticket)
          (ap (λ (h : Heap). h.moves) m.2 ∙ unmoved)
          (on_none _ _ (pending_of w number) none.none (
            refl,
            refl,
            ap (λ (n : ℕ). replies.Refused
                (refusals.BadTicket n)) m.0,
          )));
      left = λ reads. absurd (true≢false (sym reads));
      gave = refl;
    }
shredded_refused old new w number was (refusals.LogFull lines room) unmoved s served m =
    let keeps = tickets_kept served in
    let p = located_pending w number m.acct m.ticket
    (m.is w.accounts.inbound.tickets w.accounts.outbound.tickets (queue_kept accts.Inbound s keeps)
    (queue_kept accts.Outbound s keeps)) in
    record {
      step = (shred_aim old w s served number m.acct m.ticket p, refl);
      left = λ reads. absurd (true≢false (sym reads));
      gave = refl;
    }
shredded_refused old new w number was refusal unmoved s served m = absurd m

-- so many tickets were granted
queue_is : (w : World) (acct : Acct) →
    queue_of acct w.accounts.inbound.tickets w.accounts.outbound.tickets ≡ tickets_of w.accounts acct
queue_is w accts.Inbound = refl
queue_is w accts.Outbound = refl

-- by the ticket's account
abbrev granted_by : Heap → ℕ → World → Option (Acct × Ticket) → ℕ
granted_by old number w o =
    option_map_or (λ (q : Acct × Ticket).
    newly_granted (without_number number (queue_of q.0 w.accounts.inbound.tickets w.accounts.outbound.tickets))
    (shredded old q.0 number q.1 (queue_of q.0 w.accounts.inbound.tickets w.accounts.outbound.tickets)))
    o 0

pub shred_grants : (old : Heap) (w : World) (number : ℕ) → HeapStandsFor old w → IsReady w →
    shreds_granted old number w.accounts.inbound.tickets w.accounts.outbound.tickets ≤ grants_of w (calls.Shred number)
shred_grants old w number s served =
    by (located number w.accounts.inbound.tickets w.accounts.outbound.tickets) refl
  where
    by : (o : Option (Acct × Ticket)) → located number w.accounts.inbound.tickets w.accounts.outbound.tickets ≡ o →
        granted_by old number w (located number w.accounts.inbound.tickets w.accounts.outbound.tickets)
        ≤ grants_of w (calls.Shred number)
    by None e = let none = ap (granted_by old number w) e in omega (arith, none)
    by (Some q) e =
        let p = located_pending w number q.0 q.1 e in
        let many = left_grants old w s served number q.0 q.1 p in
        let is : granted_by old number w (located number w.accounts.inbound.tickets w.accounts.outbound.tickets)
        ≡ newly_granted (without_number number (tickets_of w.accounts q.0)) (shredded old q.0 number q.1
        (tickets_of w.accounts q.0)) =
        ap (granted_by old number w) e ∙ ap (λ (ts : List Ticket). newly_granted (without_number number ts)
        (shredded old q.0 number q.1 ts)) (queue_is w q.0) in
        let left : grants_of w (calls.Shred number) ≡ grants_between w (without_ticket w
        (pending_at q.0 p.found.place q.1)) =
        ap (λ (o : Option Pending). grants_between w (option_map_or (without_ticket w) o w)) p.is in
        omega (arith, many, is, left)
