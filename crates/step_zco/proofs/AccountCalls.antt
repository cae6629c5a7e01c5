-- What is occupied and a maximum, read and set, as steps.
use Rattle.std.proofs.Common.{◌≡◌, ◌∙◌, ◌≤◌, ◌<◌, ◌++◌, ℕ, List, [], true, false, true≢false, inl, nat_lt, refl, sym, ap, subst, arith}
use Rattle.std.specs.Prelude.{All}
use Rattle.std.proofs.lemmas.Bool.Decides.{nat_tests}
use Rattle.std.proofs.lemmas.List.Elements.{All-nil}
use Rattle.step_things.proofs.RowLemmas.{row_refused, shows, unmoved_answered}
use Rattle.step_things.specs.Answering.{Aim, Answered, IsRefused, IsReady}
use Rattle.sdr_stands.specs.Standing.{HeapStandsFor}
use Rattle.sdr_base.specs.Blocks.{Blocks, with_at}
use Rattle.sdr_base.specs.Entries.{Changes, Entries, BlocksAre}
use Rattle.sdr_base.specs.Objects.{Heap}
use Rattle.sdr_base.specs.declared.account.Acct.{Acct}
use Rattle.sdr_base.specs.declared.account.Acct.TheVariants as accts
use Rattle.sdr_base.specs.declared.account.Amounts.{Amounts}
use Rattle.sdr_base.specs.declared.kind.Space.{Space}
use Rattle.sdr_base.specs.declared.kind.Space.TheVariants as spaces
use Rattle.sdr_base.specs.declared.moves.Move.{Move}
use Rattle.sdr_base.specs.declared.refusal.Refusal.{Refusal}
use Rattle.sdr_base.specs.declared.refusal.Refusal.TheVariants as refusals
use Rattle.sdr_base.specs.declared.stop.Stop.TheVariants as stops
use Rattle.law_steps.proofs.AccountQueues.{keep_from, queues_from}
use Rattle.law_steps.proofs.BarredLemmas.{amount_by}
use Rattle.law_steps.proofs.QueueLaws.{queued_keeps}
use Rattle.law_steps.proofs.ZcoOutcomes.{Queued}
use Rattle.law_steps.specs.Fresh.{AreFresh}
use Rattle.sdr_machine.proofs.WorkLemmas.{on_false, on_true}
use Rattle.sdr_machine.specs.Demand.{grants_between}
use Rattle.sdr_model.specs.AccountSteps.{with_maximum}
use Rattle.sdr_model.specs.Accounts.{account_of, most_amount, tickets_of, with_account}
use Rattle.sdr_model.specs.Amounts.{amount}
use Rattle.sdr_model.specs.Blocks.{addresses_of, blocks_of}
use Rattle.sdr_model.specs.Charges.{occupancy}
use Rattle.sdr_model.specs.Fields.{FitsFields, IsWord}
use Rattle.sdr_model.specs.Queue.{with_served}
use Rattle.sdr_model.specs.Rows.{ByRow}
use Rattle.sdr_model.specs.Steps.{taken_addresses}
use Rattle.sdr_model.specs.World.{World}
use Rattle.sdr_model.specs.declared.answer.Reply.TheVariants as replies
use Rattle.sdr_model.specs.declared.call.Call.TheVariants as calls
use Rattle.zco_acct.specs.Changes.{MaximumStops, SetsMaximum}
use Rattle.zco_acct.specs.Kept.{SomeQueue, queue_entries}
use Rattle.zco_acct.specs.Words.{first_word, last_word, maxima_in, maximum_word, occupied_in}
use Rattle.step_zco.proofs.AccountLemmas.{account_becomes, account_words, roots_before, unmarked, world_with}
use Rattle.step_zco.proofs.ComingLemmas.{log_full, tickets_kept}
use Rattle.step_zco.proofs.QueueLemmas.{maxima_are, occupied_is}
use Rattle.step_zco.proofs.WordLemmas.{maximum_set}
use Rattle.step_zco.specs.AccountAnswering.{KeepsTickets, Grants, grants_of}

-- a call on a heap that stands for a world and stays as it is
module _ (old new : Heap) (w : World) (unmoved : old.moves ≡ []) (s : HeapStandsFor old w) (same : new ≡ old) where
  pub occupancy_answered : (acct : Acct) (space : Space) (value : ℕ) → value ≡ amount (occupied_in old acct) space →
      Answered w (calls.Occupancy acct space) new [] (replies.Value value)
  occupancy_answered acct space value is =
      let told = is ∙ ap (λ (a : Amounts). amount a space) (occupied_is acct s) ∙ amount_by (occupancy w acct) space in
      unmoved_answered w (record w { shown = [] }) (calls.Occupancy acct space) new [] (replies.Value value)
      (ap (λ (h : Heap). h.moves) same ∙ unmoved) (refl, refl, ap (λ (n : ℕ). replies.Value n) told) refl
      (shows old new w [] same s) refl refl

  pub maximum_answered : (acct : Acct) (space : Space) (value : ℕ) → value ≡ amount (maxima_in old acct) space →
      Answered w (calls.Maximum acct space) new [] (replies.Value value)
  maximum_answered acct space value is =
      let told = is ∙ ap (λ (a : Amounts). amount a space) (maxima_are acct s) in
      unmoved_answered w (record w { shown = [] }) (calls.Maximum acct space) new [] (replies.Value value)
      (ap (λ (h : Heap). h.moves) same ∙ unmoved) (refl, refl, ap (λ (n : ℕ). replies.Value n) told) refl
      (shows old new w [] same s) refl refl

-- the world with another maximum, before the queue is served
abbrev pub maxed : World → Acct → Space → ℕ → World
maxed w acct space value = record w {
  accounts = with_account w.accounts acct (with_maximum (account_of w.accounts acct) space value);
}

maxed_world : (w : World) (acct : Acct) (space : Space) (value : ℕ) →
    maxed w acct space value ≡ world_with w acct (with_maximum (account_of w.accounts acct) space value) w.accounts.next
maxed_world w accts.Inbound space value = refl
maxed_world w accts.Outbound space value = refl

-- its tickets are kept, and what is granted is what was
pub maxed_keeps : (w : World) (acct : Acct) (space : Space) (value : ℕ) → value ≤ most_amount → KeepsTickets w →
    KeepsTickets (maxed w acct space value)
maxed_keeps w acct space value small keeps = record {
  queues = keep_from _ (queued_keeps w acct (with_account w.accounts acct (with_maximum
      (account_of w.accounts acct) space value))
      (Queued.maximum space value small refl refl) (queues_from w.accounts keeps.queues));
  fits = by acct;
}
  where
    by : (a : Acct) → FitsFields (maxed w a space value)
    by accts.Inbound = record {
      things = keeps.fits.things;
      names = keeps.fits.names;
      inbound = keeps.fits.inbound;
      outbound = keeps.fits.outbound;
    }
    by accts.Outbound = record {
      things = keeps.fits.things;
      names = keeps.fits.names;
      inbound = keeps.fits.inbound;
      outbound = keeps.fits.outbound;
    }

pub maxed_grants : (w : World) (acct : Acct) (space : Space) (value : ℕ) →
    grants_between (maxed w acct space value) (with_served (maxed w acct space value) acct)
    ≡ grants_of w (calls.SetMaximum acct space value)
maxed_grants w accts.Inbound space value = refl
maxed_grants w accts.Outbound space value = refl

-- the blocks stay
blocks_stay : {b b' : Blocks} (es : Entries) → b' ≡ b → Changes b b' es es
blocks_stay es same = record { kept = λ rest st. subst (λ (b : Blocks). BlocksAre b (es ++ rest)) (sym same) st }

pub maxed_stands : {old mid : Heap} {w : World} {acct : Acct} {space : Space} {value : ℕ} → HeapStandsFor old w →
    SetsMaximum acct space value old mid → HeapStandsFor mid (maxed w acct space value)
maxed_stands {old} {mid} {w} {acct} {space} {value} s set =
    let was = account_words w acct (account_of w.accounts acct) in
    subst (HeapStandsFor mid) (sym (maxed_world w acct space value))
    (unmarked (account_becomes old mid w acct (with_maximum
    (account_of w.accounts acct) space value) w.accounts.next [] s
    (blocks_stay (queue_entries acct (tickets_of w.accounts acct)) (ap (λ (h : Heap). h.blocks) set.set))
    (ap (λ (h : Heap). h.marks) set.set)
    (ap (λ (h : Heap). h.roots) set.set
    ∙ ap (λ (r : ℕ → ℕ). with_at r (maximum_word acct space) value) (s.roots ∙ roots_before w acct)
    ∙ maximum_set w acct was w.accounts.next space value)))

-- a maximum's word is neither that of the first ticket nor that of the last
ends_apart : (roots : ℕ → ℕ) (acct : Acct) (space : Space) (value : ℕ) →
    (with_at roots (maximum_word acct space) value (first_word acct) ≡ roots (first_word acct))
    × (with_at roots (maximum_word acct space) value (last_word acct) ≡ roots (last_word acct))
unfolding with_at
ends_apart roots accts.Inbound spaces.File value = (refl, refl)
ends_apart roots accts.Inbound spaces.Bulk value = (refl, refl)
ends_apart roots accts.Inbound spaces.Heap value = (refl, refl)
ends_apart roots accts.Outbound spaces.File value = (refl, refl)
ends_apart roots accts.Outbound spaces.Bulk value = (refl, refl)
ends_apart roots accts.Outbound spaces.Heap value = (refl, refl)

-- the queue that the heap keeps then
pub maxed_queue : (old mid : Heap) (acct : Acct) (space : Space) (value : ℕ) → SomeQueue old acct →
    SetsMaximum acct space value old mid → SomeQueue mid acct
maxed_queue old mid acct space value some set =
    let k = some.keeps in
    record {
      tickets = some.tickets;
      keeps = record {
        rest = k.rest;
        stands = (blocks_stay (queue_entries acct some.tickets) (ap (λ
            (h : Heap). h.blocks) set.set)).kept k.rest k.stands;
        first = ap (λ (h : Heap). h.roots (first_word acct)) set.set ∙ (ends_apart old.roots acct space value).0
            ∙ k.first;
        last = ap (λ (h : Heap). h.roots (last_word acct)) set.set ∙ (ends_apart old.roots acct space value).1 ∙ k.last;
        fits = k.fits;
      };
    }

-- the row of a call that sets a maximum
above_not : (value : ℕ) → value ≤ most_amount → nat_lt most_amount value ≡ false
above_not value small = grind (arith, nat_tests)

above : (value : ℕ) → most_amount < value → nat_lt most_amount value ≡ true
above value large = grind (arith, nat_tests)

abbrev maxed_shown : World → Acct → Space → ℕ → World
maxed_shown w acct space value = record (with_served (maxed w acct space value) acct) { shown = [] }

maximum_row : (w : World) (acct : Acct) (space : Space) (value : ℕ) → value ≤ most_amount →
    ByRow w (record { moves = []; after = maxed_shown w acct space value; reply = replies.Done })
    (calls.SetMaximum acct space value)
maximum_row w acct space value small = on_false _ _ (nat_lt most_amount value) (above_not value small)
    (refl, refl, refl)

pub maximum_aim : (w : World) (acct : Acct) (space : Space) (value : ℕ) → value ≤ most_amount →
    Aim w (calls.SetMaximum acct space value)
maximum_aim w acct space value small = record { to = _; row = maximum_row w acct space value small; answered = refl }

-- it was set, and the queue served
pub maximum_answered_by : (old mid new : Heap) (w : World) (acct : Acct) (space : Space) (value : ℕ) → old.moves ≡ [] →
    HeapStandsFor old w → IsReady w → SetsMaximum acct space value old mid → Grants acct mid new →
    Answered w (calls.SetMaximum acct space value) new [] replies.Done
maximum_answered_by old mid new w acct space value unmoved s served set serves =
    let stands = serves.stands (maxed w acct space value) (maxed_stands s set)
    (maxed_keeps w acct space value set.small (tickets_kept served)) in
    let none : new.moves ≡ [] = serves.moves ∙ ap (λ (h : Heap). h.moves) set.set ∙ unmoved in
    record {
      after = maxed_shown w acct space value;
      row = subst (λ (ms : List Move). ByRow w (record { moves = ms; after = maxed_shown w acct space value; reply = replies.Done })
          (calls.SetMaximum acct space value)) (sym none) (maximum_row w acct space value set.small);
      answered = refl;
      fresh = subst (λ (ms : List Move). AreFresh (addresses_of (blocks_of w)) ms) (sym none) tt;
      stands = record { blocks = stands.blocks; roots = stands.roots; marks = stands.marks };
      gave = refl;
      words = subst (λ (ms : List Move). All IsWord (taken_addresses ms)) (sym none) (All-nil IsWord);
      taken = refl;
    }

-- or it was refused
pub maximum_refused : (old new : Heap) (w : World) (acct : Acct) (space : Space) (value : ℕ) (was : List ℕ)
    (refusal : Refusal) →
    old.moves ≡ [] → MaximumStops space value old new (stops.Refused refusal) →
    IsRefused w (calls.SetMaximum acct space value) old new was was refusal
maximum_refused old new w acct space value was (refusals.TooLarge of asked most) unmoved m = record {
  step = inl (row_refused w (calls.SetMaximum acct space value) new (refusals.TooLarge of asked most)
      (ap (λ (h : Heap). h.moves) m.4 ∙ unmoved)
      (on_true _ _ (nat_lt most_amount value) (above value m.3)
      (refl, refl, λ i. replies.Refused (refusals.TooLarge (m.0 i) (m.1 i) (m.2 i)))));
  left = λ reads. absurd (true≢false (sym reads));
  gave = refl;
}
maximum_refused old new w acct space value was refusal unmoved m =
    log_full w (calls.SetMaximum acct space value) old old new was refusal refl (maximum_aim w acct space value m.0) m.1
