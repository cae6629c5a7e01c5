-- A clone takes no payload.
use Rattle.std.proofs.Common.{◌≡◌, ℕ, ◌==◌, ◌||◌, ◌+◌, List, [], ◌∷◌, true, false, true≢false, inl, inr, Option, Some, None, MatchOption, length, map, nat_lt, replicate, refl, sym, ap, ◌∙◌}
use Rattle.std.specs.FinMap as finite
use Rattle.sdr_base.specs.declared.account.Acct.{Acct}
use Rattle.sdr_base.specs.declared.kind.Space.{Space}
use Rattle.sdr_base.specs.declared.refusal.Refusal.TheVariants as refusals
use Rattle.sdr_base.specs.declared.moves.Move.{Move}
use Rattle.sdr_base.specs.declared.moves.Move.TheVariants.{Took}
use Rattle.sdr_base.specs.declared.refusal.Refusal.{Refusal}
use Rattle.law_steps.proofs.Effects.{IsFresh}
use Rattle.law_steps.proofs.SourceViews.{same_view}
use Rattle.law_steps.proofs.OutcomeLemmas.{first_fresh}
use Rattle.law_steps.specs.Fresh.{AreFresh}
use Rattle.law_steps.specs.Payload.{TakesNoPayload}
use Rattle.sdr_model.proofs.Cases.{in_bool, in_option}
use Rattle.sdr_model.specs.Accounts.{pending_in, tickets_of}
use Rattle.sdr_model.specs.declared.accounts.Pending.{Pending}
use Rattle.sdr_model.specs.Amounts.{amounts_by, first_above, minus}
use Rattle.sdr_model.specs.Blocks.{addresses_of, blocks_of}
use Rattle.sdr_model.specs.Charges.{object_charge, rooms}
use Rattle.sdr_model.specs.Charging.{Charges, grant_left, no_space, with_covered}
use Rattle.sdr_model.specs.ObjectSteps.{with_object}
use Rattle.sdr_model.specs.PartSteps.{ClonePart, asked_extents, clone_moves, object_of}
use Rattle.sdr_model.specs.Queue.{barrier}
use Rattle.sdr_model.specs.Step.{Step, StopsWith, is_answer}
use Rattle.sdr_model.specs.Steps.{DoesWith, Outcome, Refuses, taken_at, takes_from}
use Rattle.sdr_model.specs.Cuts.{placed}
use Rattle.sdr_model.specs.Things.{with_at, extent_need, object_need}
use Rattle.sdr_model.specs.World.{World, as_raw, thing_at}
use Rattle.sdr_model.specs.Zco.{object_at}
use Rattle.sdr_model.specs.declared.answer.Reply.{Reply}
use Rattle.sdr_model.specs.declared.answer.Reply.TheVariants as replies
use Rattle.sdr_model.specs.declared.call.Call.{Call}
use Rattle.sdr_model.specs.declared.call.Call.TheVariants as calls
use Rattle.sdr_model.specs.declared.things.Thing.TheVariants as things
use Rattle.sdr_model.specs.declared.zco.Extent.{Extent}

-- a refusal is no answer, and neither is a stop
unanswered : {R : Type 0} {w : World} (o : Outcome) (refusal : Refusal) → is_answer o.reply ≡ true
    → Refuses w o refusal → R
unanswered o refusal answered h = absurd (true≢false (sym answered ∙ ap is_answer h.2))

pub stop_unanswered : (reply : Reply) (call : Call) (all moves : List Move) → StopsWith reply call all moves
    → is_answer reply ≡ false
stop_unanswered (replies.Refused refusal) call all moves s = refl
stop_unanswered replies.MediaFault call all moves s = refl
stop_unanswered reply call all moves s = absurd s

-- the needs of so many extents
needs_same : (es : List Extent) → map (λ e. extent_need) es ≡ replicate (length es) extent_need
needs_same [] = refl
needs_same (e ∷ es) = ap (λ needs. extent_need ∷ needs) (needs_same es)

-- what follows from an answered call that charges
in_charge : {R : Type 0} (w : World) (o : Outcome) (acct : Acct) (number : ℕ) (charge : Space → ℕ)
    (goes : World → Type 0)
    → is_answer o.reply ≡ true → Charges w o acct number charge goes
    → ((used : World) → used.things ≡ w.things → goes used → R) → R
in_charge {R} w o acct number charge goes answered h f =
    in_bool (number == 0) h (space None)
    (λ h. in_option (pending_in w.accounts acct number) h (λ h. unanswered o _ answered h)
    (λ p h. in_bool p.ticket.granted h (space (Some p)) (λ h. unanswered o _ answered h)))
  where
    same : (p : Option Pending) → (with_covered w p (amounts_by charge)).things ≡ w.things
    same None = refl
    same (Some p) = refl

    space : (p : Option Pending)
        → (let uncovered = minus (amounts_by charge) (grant_left p) in
        MatchOption (barrier uncovered (tickets_of w.accounts acct))
        (MatchOption (first_above uncovered (rooms w acct)) (goes (with_covered w p (amounts_by charge)))
        (λ space. Refuses w o (no_space w acct uncovered space))) (λ t. Refuses w o (refusals.Queue t.number))) → R
    space p h =
        let uncovered = minus (amounts_by charge) (grant_left p) in
        in_option (barrier uncovered (tickets_of w.accounts acct)) h
        (λ h. in_option (first_above uncovered (rooms w acct)) h (f (with_covered w p (amounts_by charge)) (same p))
        (λ s h. unanswered o _ answered h)) (λ t h. unanswered o _ answered h)

row_takes : (w : World) (o : Outcome) (addr ticket offset bytes : ℕ) → IsFresh w o → is_answer o.reply ≡ true
    → ClonePart w o addr ticket offset bytes → TakesNoPayload w o.moves o.after
row_takes w o addr ticket offset bytes fresh answered h =
    in_option (object_at w addr) h (λ h. unanswered o _ answered h) (λ z h.
    in_bool (bytes == 0 || nat_lt z.part.length (offset + bytes)) h (λ h. unanswered o _ answered h) (λ h.
    in_charge w o z.account ticket (λ space. object_charge space (object_of z.account (asked_extents z offset bytes)))
    (λ used. DoesWith w o (λ at. clone_moves at (asked_extents z offset bytes))
    (λ at. with_object used (at 0) (object_of z.account (placed at 1 (asked_extents z offset bytes))))
    (λ at. replies.At (at 0))) answered h (λ used same did.
    let at = taken_at o.moves in
    let es = asked_extents z offset bytes in
    let none = first_fresh w o object_need (at 0) _ did.0 fresh in
    let new = Some (things.Object (object_of z.account (placed at 1 es))) in
    record {
      extents = length es;
      takes = did.0 ∙ ap (λ needs. Took object_need (at 0) ∷ takes_from at 1 needs) (needs_same es);
      raws = λ q. ap (λ (v : World). as_raw (thing_at v q)) did.1 ∙ ap
          (λ m. as_raw (finite.get (with_at m (at 0) new) q)) same
          ∙ same_view as_raw w.things (at 0) new (sym (ap as_raw none)) q;
    })))

-- A clone that is answered takes no payload.
pub clone_takes_no_payload : (w w' : World) (addr ticket offset bytes : ℕ) (moves : List Move) (reply : Reply)
    → AreFresh (addresses_of (blocks_of w)) moves
    → Step w (calls.ClonePart addr ticket offset bytes) moves w' reply → is_answer reply ≡ true
    → TakesNoPayload w moves w'
clone_takes_no_payload w w' addr ticket offset bytes moves reply fresh (inl row) answered =
    row_takes w (record { moves = moves; after = w'; reply = reply }) addr ticket offset bytes fresh answered row
clone_takes_no_payload w w' addr ticket offset bytes moves reply fresh (inr stops) answered =
    absurd (true≢false (sym answered
    ∙ stop_unanswered reply (calls.ClonePart addr ticket offset bytes) stops.aim.moves moves stops.stopped))
