-- The part of an object that is set, as a step.
use Rattle.std.proofs.Common.{◌≡◌, ◌∙◌, ◌+◌, ◌≤◌, ◌<◌, ℕ, List, [], true, false, inl, nat_lt, Some, refl, ap, subst, arith}
use Rattle.std.proofs.lemmas.Bool.Decides.{nat_tests}
use Rattle.std.specs.FinMap as finite
use Rattle.step_things.proofs.ListLemmas.{IsSmall}
use Rattle.step_things.proofs.RowLemmas.{Moved, full_refused, marks_none, misnamed_refused, moved_nothing, row_refused, unmoved_answered}
use Rattle.step_things.specs.Answering.{Aim, Answered, IsRefused, IsReady}
use Rattle.sdr_stands.proofs.ChangeLemmas.{part_changed}
use Rattle.sdr_stands.proofs.PartLemmas.{thing_changed}
use Rattle.sdr_stands.proofs.RootsLemmas.{roots_where}
use Rattle.sdr_stands.specs.Rows.{extent_row, object_row}
use Rattle.sdr_stands.specs.Standing.{HeapStandsFor, roots_of}
use Rattle.sdr_stands.specs.Ties.{TieAlike}
use Rattle.sdr_base.specs.Objects.{Heap}
use Rattle.sdr_base.specs.ZcoObjects.{ExtentRow}
use Rattle.sdr_base.specs.declared.account.Acct.{Acct}
use Rattle.sdr_base.specs.declared.account.Acct.TheVariants as accts
use Rattle.sdr_base.specs.declared.kind.Kind.TheVariants as kinds
use Rattle.sdr_base.specs.declared.kind.Space.{Space}
use Rattle.sdr_base.specs.declared.refusal.Refusal.{Refusal}
use Rattle.sdr_base.specs.declared.refusal.Refusal.TheVariants as refusals
use Rattle.sdr_base.specs.declared.stop.Stop.TheVariants as stops
use Rattle.law_steps.proofs.ChargeMoves.{MovesCharge, SameCharge, object_moves}
use Rattle.law_steps.proofs.SourceMoves.{nothing, sources_stay}
use Rattle.sdr_machine.proofs.WorkLemmas.{on_false, on_some, on_true}
use Rattle.sdr_model.proofs.SumLemmas.{sum_by-map}
use Rattle.sdr_model.specs.Accounts.{tickets_of}
use Rattle.sdr_model.specs.Charges.{left_in, occupancy}
use Rattle.sdr_model.specs.ObjectSteps.{with_object}
use Rattle.sdr_model.specs.Rows.{ByRow}
use Rattle.sdr_model.specs.Steps.{Does, Outcome, RefusedIf}
use Rattle.sdr_model.specs.Things.{Things}
use Rattle.sdr_model.specs.World.{World}
use Rattle.sdr_model.specs.Zco.{as_object, extents_length, object_at}
use Rattle.sdr_model.specs.declared.answer.Reply.TheVariants as replies
use Rattle.sdr_model.specs.declared.call.Call.{Call}
use Rattle.sdr_model.specs.declared.call.Call.TheVariants as calls
use Rattle.sdr_model.specs.declared.things.Thing.TheVariants as things
use Rattle.sdr_model.specs.declared.zco.ZcoObject.{ZcoObject}
use Rattle.step_zco.proofs.ObjectLemmas.{IsObjectAt, no_object, object_is_at, object_kept}
use Rattle.zco_obj.specs.Kept as rows
use Rattle.zco_part.specs.Delimiting.{Delimits, DelimitStops, HasPart, OfObject}

-- a part that lies within so many bytes, and one that doesn't
within : (offset bytes have : ℕ) → offset + bytes ≤ have → nat_lt have (offset + bytes) ≡ false
within offset bytes have fits = grind (arith, nat_tests)

past : (offset bytes have : ℕ) → have < offset + bytes → nat_lt have (offset + bytes) ≡ true
past offset bytes have long = grind (arith, nat_tests)

-- the rows of an object's extents have the bytes of the extents
row_length : (z : ZcoObject) → rows.extents_length (object_row z).extents ≡ extents_length z.extents
row_length z = sum_by-map (λ (r : ExtentRow). r.length) extent_row z.extents

-- no account's charges move where nothing is charged and nothing released
charges_stay : {m n : Things} (acct : Acct) → MovesCharge m n acct nothing nothing → SameCharge m n
charges_stay accts.Inbound moves accts.Inbound space = let own = moves.own space in omega (arith, own)
charges_stay accts.Inbound moves accts.Outbound space = moves.other accts.Outbound refl space
charges_stay accts.Outbound moves accts.Inbound space = moves.other accts.Inbound refl space
charges_stay accts.Outbound moves accts.Outbound space = let own = moves.own space in omega (arith, own)

-- a call on a heap that stands for a world in which it is served
module _ (old new : Heap) (w : World) (unmoved : old.moves ≡ []) (s : HeapStandsFor old w) (served : IsReady w) (small : IsSmall old)
    (addr offset bytes : ℕ) where
  abbrev call : Call
  call = calls.Delimit addr offset bytes

  -- of an object that is there
  module _ (at : IsObjectAt w addr) where
    abbrev z : ZcoObject
    z = at.object

    -- with the other part
    abbrev after : ZcoObject
    after = record z { part = record { offset = offset; length = bytes } }

    -- it names what it named, and charges what it charged
    alike : TieAlike (Some (things.Object z)) (Some (things.Object after))
    alike = record { raws = λ raw. refl; sources = λ source acct. refl }

    same_occupancy : (acct : Acct) (space : Space) → occupancy (with_object w addr after) acct space ≡ occupancy w acct space
    same_occupancy acct space =
        let charges : MovesCharge w.things (finite.insert w.things addr (things.Object after)) z.account nothing nothing =
        object_moves w.things addr z.account (Some z) (Some after) nothing nothing at.there refl refl
        (sources_stay w.things z.account (Some z) (Some after) (λ q. refl)) (λ space. refl) in
        ap (λ (n : ℕ). n + left_in space (tickets_of w.accounts acct)) (charges_stay z.account charges acct space)

    same_roots : roots_of (with_object w addr after) ≡ roots_of w
    same_roots = ap (λ (occupied : Acct → Space → ℕ). roots_where w occupied) (λ i acct space. same_occupancy acct space i)

    -- how the row goes on
    abbrev setting : Outcome → Type 0
    setting o = Does o [] (with_object w addr after) replies.Done

    abbrev going : Outcome → ZcoObject → Type 0
    going o x =
        RefusedIf w o (nat_lt (extents_length x.extents) (offset + bytes)) (refusals.BadRange offset bytes (extents_length x.extents))
        (Does o [] (with_object w addr (record x { part = record { offset = offset; length = bytes } })) replies.Done)

    on_object : (o : Outcome) → going o z → ByRow w o call
    on_object o h = on_some _ (going o) (object_at w addr) z (ap as_object at.there) h

    abbrev outcome : Outcome
    outcome = record { moves = []; after = record (with_object w addr after) { shown = [] }; reply = replies.Done }

    set_row : offset + bytes ≤ extents_length z.extents → ByRow w outcome call
    set_row fits =
        on_object outcome
        (on_false _ (setting outcome) _ (within offset bytes (extents_length z.extents) fits) (refl, refl, refl))

    aim : offset + bytes ≤ extents_length z.extents → Aim w call
    aim fits = record { to = outcome; row = set_row fits; answered = refl }

    -- the extents have the bytes
    has : OfObject (HasPart offset bytes) addr old → offset + bytes ≤ extents_length z.extents
    has h =
        let fits = h.holds (object_row z) (object_kept old w s served small addr z at.there) in
        let same = row_length z in omega (arith, fits, same)

    -- the heap stands for the world with the part
    set_stands : Delimits addr offset bytes old new → HeapStandsFor new (record (with_object w addr after) { shown = [] })
    set_stands d =
        let m : Moved w [] old new = moved_nothing w old new unmoved d.same in
        subst (HeapStandsFor new) (marks_none (with_object w addr after) [] refl)
        (part_changed (with_object w addr after) [] s (thing_changed w addr (things.Object z) (things.Object after) at.there alike)
        (d.changes (object_row z) (object_kept old w s served small addr z at.there)) m.made same_roots refl)

    -- the row refuses a part that they haven't
    past_row : (off count have : ℕ) →
        (off ≡ offset) × (count ≡ bytes) × (have ≡ extents_length z.extents) × (extents_length z.extents < offset + bytes) → new ≡ old →
        ByRow w (record { moves = new.moves; after = w; reply = replies.Refused (refusals.BadRange off count have) }) call
    past_row off count have p same =
        let o : Outcome = record { moves = []; after = w; reply = replies.Refused (refusals.BadRange off count have) } in
        row_refused w call new (refusals.BadRange off count have) (ap (λ (h : Heap). h.moves) same ∙ unmoved)
        (on_object o
        (on_true _ (setting o) _ (past offset bytes (extents_length z.extents) p.3)
        (refl, refl, λ i. replies.Refused (refusals.BadRange (p.0 i) (p.1 i) (p.2 i)))))

  -- it was set
  pub delimited : Delimits addr offset bytes old new → Answered w call new [] replies.Done
  delimited d =
      let at = object_is_at old w addr s served d.has.kind in
      unmoved_answered w (record (with_object w addr (after at)) { shown = [] }) call new [] replies.Done
      (ap (λ (h : Heap). h.moves) d.same ∙ unmoved) (set_row at (has at d.has)) refl (set_stands at d) refl refl

  -- or it wasn't
  pub undelimited : (was : List ℕ) (refusal : Refusal) → DelimitStops addr offset bytes old new (stops.Refused refusal) →
      IsRefused w call old new was was refusal
  undelimited was (refusals.BadRange off count have) m =
      let at = object_is_at old w addr s served m.0.kind in
      let lacks = m.0.holds (object_row at.object) (object_kept old w s served small addr at.object at.there) in
      let same = row_length at.object in
      let long = lacks.3 in
      record {
        step = inl (past_row at off count have (lacks.0, lacks.1, lacks.2 ∙ same, omega (arith, long, same)) m.1);
        left = λ reads. m.1;
        gave = refl;
      }
  undelimited was (refusals.LogFull lines room) m =
      let at = object_is_at old w addr s served m.0.kind in
      full_refused w call old new was (refusals.LogFull lines room) refl (aim at (has at m.0)) m.1
  undelimited was refusal m =
      misnamed_refused w call addr kinds.Object (object_at w addr) _ old new was (λ o h. h)
      (no_object old w addr s served.whole.valid) unmoved m.1 s served.whole.valid refusal m.0
