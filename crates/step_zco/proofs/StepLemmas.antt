-- How a call on sources is a step.
use Rattle.std.proofs.Common.{◌≡◌, ℕ, List, [], true, inl, refl, sym, ap, subst, arith, append-nil}
use Rattle.std.specs.Prelude.{All}
use Rattle.step_things.specs.Answering.{Answered}
use Rattle.sdr_stands.proofs.ChangeLemmas.{part_changed}
use Rattle.sdr_stands.proofs.RootsLemmas.{roots_where}
use Rattle.sdr_stands.specs.Standing.{HeapStandsFor, entries_of, roots_of, with_taken_marked}
use Rattle.sdr_base.specs.Entries.{Changes}
use Rattle.sdr_base.specs.Making.{Made}
use Rattle.sdr_base.specs.Objects.{Heap}
use Rattle.sdr_base.specs.declared.account.Acct.{Acct}
use Rattle.sdr_base.specs.declared.account.Acct.TheVariants as accts
use Rattle.sdr_base.specs.declared.kind.Space.{Space}
use Rattle.sdr_base.specs.declared.moves.Move.{Move}
use Rattle.law_steps.proofs.AccountQueues.{Queues, queues_from}
use Rattle.law_steps.proofs.GrantLemmas.{all_as_before, none_granted}
use Rattle.law_steps.proofs.OccupancyLaws.{occupancy_moves}
use Rattle.law_steps.proofs.SourceLaws.{sources_kept}
use Rattle.law_steps.proofs.SourceViews.{fit_same}
use Rattle.law_steps.specs.Charged.{charged, grants, released}
use Rattle.law_steps.specs.Fresh.{AreFresh}
use Rattle.sdr_model.specs.Accounts.{tickets_of}
use Rattle.sdr_model.specs.Blocks.{addresses_of, blocks_of}
use Rattle.sdr_model.specs.Charges.{occupancy}
use Rattle.sdr_model.specs.Fields.{IsWord}
use Rattle.sdr_model.specs.Rows.{ByRow}
use Rattle.sdr_model.specs.Step.{is_answer}
use Rattle.sdr_model.specs.Steps.{taken_addresses}
use Rattle.sdr_model.specs.Things.{Things}
use Rattle.sdr_model.specs.Valid.{FitTogether, KeepQueues}
use Rattle.sdr_model.specs.Whole.{IsWhole}
use Rattle.sdr_model.specs.World.{World}
use Rattle.sdr_model.specs.declared.answer.Reply.{Reply}
use Rattle.sdr_model.specs.declared.call.Call.{Call}

-- a queue that stays has granted nothing since
grants_none : (w : World) → KeepQueues w.accounts → (acct : Acct) (space : Space) →
    grants (tickets_of w.accounts acct) (tickets_of w.accounts acct) space ≡ 0
grants_none w keep acct space = by acct (queues_from w.accounts keep)
  where
    by : (a : Acct) → Queues w.accounts → grants (tickets_of w.accounts a) (tickets_of w.accounts a) space ≡ 0
    by accts.Inbound q =
        none_granted w.accounts.inbound.tickets space w.accounts.inbound.tickets
        (all_as_before w.accounts.inbound.tickets (λ k. let few = q.few k in omega (arith, few)))
    by accts.Outbound q =
        none_granted w.accounts.outbound.tickets space w.accounts.outbound.tickets
        (all_as_before w.accounts.outbound.tickets (λ k. let few = q.few k in omega (arith, few)))

-- a call charges nothing, and releases nothing
pub record IsFree (w : World) (call : Call) : Type 0 where
  pub charge : (acct : Acct) (space : Space) → charged w call acct space ≡ 0
  pub release : (acct : Acct) (space : Space) → released w call acct space ≡ 0

-- the world with these things after such a call
module _ (w : World) (things : Things) (call : Call) (moves : List Move) (reply : Reply) (whole : IsWhole w)
    (fresh : AreFresh (addresses_of (blocks_of w)) moves)
    (row : ByRow w (record { moves = moves; after = with_taken_marked (record w { things = things }) moves; reply = reply }) call)
    (answered : is_answer reply ≡ true) where
  abbrev pub later : World
  later = record w { things = things }

  -- occupies what it did
  same_occupancy : IsFree w call → (acct : Acct) (space : Space) → occupancy later acct space ≡ occupancy w acct space
  same_occupancy free acct space =
      let law = occupancy_moves w (with_taken_marked later moves) call moves reply acct space whole.valid whole.fits whole.queues
      fresh (inl row) answered in
      let none = grants_none w whole.queues acct space in
      let c = free.charge acct space in
      let r = free.release acct space in omega (arith, law, none, c, r)

  -- so its control words are what they were
  pub roots_kept : IsFree w call → roots_of later ≡ roots_of w
  roots_kept free =
      ap (λ (occupied : Acct → Space → ℕ). roots_where w occupied) (λ i acct space. same_occupancy free acct space i)

  -- its sources and extents fit each other
  pub fits_later : FitTogether later
  fits_later =
      fit_same (with_taken_marked later moves) later refl
      (sources_kept w (with_taken_marked later moves) call moves reply whole.valid whole.fits fresh (inl row))

  -- and the call was answered, where the heap stands for it
  pub answered_later : {new : Heap} → new.moves ≡ moves → All IsWord (taken_addresses moves) →
      HeapStandsFor new (with_taken_marked later moves) → Answered w call new [] reply
  answered_later {new} is words stands = record {
    after = with_taken_marked later moves;
    row = subst (λ (ms : List Move). ByRow w (record { moves = ms; after = with_taken_marked later moves; reply = reply }) call)
        (sym is) row;
    answered = answered;
    fresh = subst (λ (ms : List Move). AreFresh (addresses_of (blocks_of w)) ms) (sym is) fresh;
    stands = stands;
    gave = refl;
    words = subst (λ (ms : List Move). All IsWord (taken_addresses ms)) (sym is) words;
    taken = refl;
  }

-- all blocks of a world become those of another
pub all_changed : {old new : Heap} {w : World} (w' : World) (moves : List Move) → HeapStandsFor old w →
    Changes old.blocks new.blocks (entries_of w) (entries_of w') → Made moves old new → roots_of w' ≡ roots_of w →
    w'.marks ≡ w.marks → HeapStandsFor new (with_taken_marked w' moves)
all_changed {old} {new} {w} w' moves s c made roots marks =
    part_changed w' moves s
    (record { before = []; behind = []; was = sym (append-nil (entries_of w)); is = sym (append-nil (entries_of w')) })
    c made roots marks
