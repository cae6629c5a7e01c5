-- A header or trailer that goes, as a step.
use Rattle.std.proofs.Common.{◌≡◌, ◌∙◌, ℕ, List, [], ◌∷◌, ◌++◌, Option, Some, None, false, true≢false, inl, length, refl, sym, ap, subst, arith, if◌then◌else◌}
use Rattle.std.specs.FinMap as finite
use Rattle.std.specs.Option.{option_map, option_map_or}
use Rattle.std.specs.Prelude.{All, IfSome}
use Rattle.step_things.proofs.ListLemmas.{IsSmall}
use Rattle.step_things.proofs.RowLemmas.{HasMoves, gave_has, misnamed_refused, row_refused}
use Rattle.step_things.specs.Answering.{Aim, Answered, IsRefused, IsReady}
use Rattle.sdr_stands.specs.Rows.{capsule_row, object_row}
use Rattle.sdr_stands.specs.Standing.{HeapStandsFor, with_taken_marked}
use Rattle.sdr_stands.specs.Ties.{TieAlike}
use Rattle.sdr_base.specs.Entries.{Changes}
use Rattle.sdr_base.specs.Objects.{Heap, OnlyUnmoved}
use Rattle.sdr_base.specs.ZcoObjects.{CapsuleRow, ObjectRow, object_entries}
use Rattle.sdr_base.specs.declared.account.Acct.{Acct}
use Rattle.sdr_base.specs.declared.kind.Kind.TheVariants as kinds
use Rattle.sdr_base.specs.declared.kind.Space.{Space}
use Rattle.sdr_base.specs.declared.kind.Space.TheVariants as spaces
use Rattle.sdr_base.specs.declared.moves.Move.{Move}
use Rattle.sdr_base.specs.declared.moves.Move.TheVariants.{Gave}
use Rattle.sdr_base.specs.declared.refusal.Refusal.{Refusal}
use Rattle.sdr_base.specs.declared.refusal.Refusal.TheVariants as refusals
use Rattle.sdr_base.specs.declared.stop.Stop.TheVariants as stops
use Rattle.law_steps.proofs.ChargeMoves.{MovesCharge, object_moves}
use Rattle.law_steps.proofs.ObjectFields.{put_fits}
use Rattle.law_steps.proofs.SourceMoves.{nothing, sources_stay}
use Rattle.law_steps.specs.Fresh.{AreFresh}
use Rattle.sdr_machine.proofs.WorkLemmas.{on_none, on_some}
use Rattle.sdr_machine.specs.Demand.{grants_between}
use Rattle.sdr_model.specs.Accounts.{is_same_account, tickets_of}
use Rattle.sdr_model.specs.Amounts.{amounts_by, in_space, minus}
use Rattle.sdr_model.specs.Blocks.{addresses_of, blocks_of}
use Rattle.sdr_model.specs.Charges.{capsule_bytes}
use Rattle.sdr_model.specs.Fields.{FitsThing, IsWord}
use Rattle.sdr_model.specs.ObjectSteps as object
use Rattle.sdr_model.specs.ObjectSteps.{last_capsule, with_object}
use Rattle.sdr_model.specs.Queue.{with_served}
use Rattle.sdr_model.specs.Reading.{is_reading}
use Rattle.sdr_model.specs.Rows.{ByRow}
use Rattle.sdr_model.specs.Steps.{On, Outcome, gave, taken_addresses}
use Rattle.sdr_model.specs.Things.{Things}
use Rattle.sdr_model.specs.World.{World, thing_at}
use Rattle.sdr_model.specs.Zco.{as_object, naming, object_at}
use Rattle.sdr_model.specs.declared.answer.Reply.TheVariants as replies
use Rattle.sdr_model.specs.declared.call.Call.{Call}
use Rattle.sdr_model.specs.declared.things.Thing.{Thing}
use Rattle.sdr_model.specs.declared.things.Thing.TheVariants as things
use Rattle.sdr_model.specs.declared.zco.Capsule.{Capsule}
use Rattle.sdr_model.specs.declared.zco.ZcoObject.{ZcoObject}
use Rattle.zco_acct.specs.Kept.{queue_entries}
use Rattle.zco_acct.specs.Words.{occupied_in}
use Rattle.step_zco.proofs.ChargeLemmas.{stays}
use Rattle.step_zco.proofs.DropLemmas.{DropsOne, framed}
use Rattle.step_zco.proofs.LosingLemmas.{StillFits}
use Rattle.step_zco.proofs.MovedLemmas.{moved_stands}
use Rattle.step_zco.proofs.MovingLemmas.{both_change, moved, things_swap}
use Rattle.step_zco.proofs.ObjectLemmas.{no_object, object_is_at, object_kept}
use Rattle.step_zco.proofs.PayingLemmas.{freed_occupied}
use Rattle.step_zco.specs.ObjectAnswering.{left_with}
use Rattle.step_zco.proofs.AccountLemmas.{unmarked}
use Rattle.step_zco.proofs.ComingLemmas.{log_full}
use Rattle.step_zco.specs.AccountAnswering.{KeepsTickets, Grants}
use Rattle.zco_obj.specs.Discards.{Discarded, DiscardsCapsule, DiscardsOne, DiscardStops, GaveOne}
use Rattle.zco_obj.specs.Reading.{Tells}

-- a call on a heap that stands for a world in which it is served
module _ (old : Heap) (w : World) (unmoved : old.moves ≡ []) (s : HeapStandsFor old w) (served : IsReady w) (small : IsSmall old)
    (pick : ZcoObject → Option Capsule) (without : ZcoObject → ZcoObject) (pick_row : ObjectRow → Option CapsuleRow)
    (without_row : ObjectRow → ObjectRow) (drops : DropsOne pick without pick_row without_row) (still : StillFits without_row) (call : Call)
    (changing : is_reading call ≡ false) (addr : ℕ)
    (row : (o : Outcome) → On w o addr (object_at w addr) (λ z. object.Discards w o addr z (pick z) (without z)) → ByRow w o call)
  where
    -- the world without it, before the queue is served, and after
    abbrev pub lost : ZcoObject → World
    lost z = with_object w addr (without z)

    abbrev after : ZcoObject → World
    after z = record (with_served (lost z) z.account) { shown = [] }

    -- where the object is there
    abbrev going : Outcome → ZcoObject → Type 0
    going o z = object.Discards w o addr z (pick z) (without z)

    -- and has one
    abbrev dropping : Outcome → ZcoObject → Capsule → Type 0
    dropping o z c = (o.moves ≡ gave (c.block ∷ [])) × (o.after ≡ after z) × (o.reply ≡ replies.Done)

    discard_row : (z : ZcoObject) (c : Capsule) → thing_at w addr ≡ Some (things.Object z) → pick z ≡ Some c →
        ByRow w (record { moves = gave (c.block ∷ []); after = after z; reply = replies.Done }) call
    discard_row z c there is =
        let o : Outcome = record { moves = gave (c.block ∷ []); after = after z; reply = replies.Done } in
        row o
        (on_some _ (going o) (object_at w addr) z (ap as_object there)
        (on_some _ (dropping o z) (pick z) c is (refl, refl, refl)))

    discard_aim : (z : ZcoObject) (c : Capsule) → thing_at w addr ≡ Some (things.Object z) → pick z ≡ Some c → Aim w call
    discard_aim z c there is = record { to = _; row = discard_row z c there is; answered = refl }

    -- the object that is there, and what goes from it
    pub record Drops : Type 0 where
      pub object : ZcoObject
      pub there : thing_at w addr ≡ Some (things.Object object)
      pub capsule : Capsule
      pub is : pick object ≡ Some capsule

    -- that it went
    pub record Dropped (mid : Heap) : Type 0 where
      pub gone : Drops
      pub discarded : Discarded addr (object_row gone.object) (without_row (object_row gone.object)) (capsule_row gone.capsule) old mid

    pub dropped : (mid : Heap) → DiscardsCapsule pick_row without_row addr old mid → Dropped mid
    dropped mid d =
        let at = object_is_at old w addr s served d.kind in
        let z = at.object in
        let one = d.discards (object_row z) (object_kept old w s served small addr z at.there) in
        by z at.there (pick z) refl
        (subst (λ (o : Option CapsuleRow). DiscardsOne addr (object_row z) o (without_row (object_row z)) old mid) (drops.picked z) one)
      where
        by : (z : ZcoObject) → thing_at w addr ≡ Some (things.Object z) → (o : Option Capsule) → pick z ≡ o →
            DiscardsOne addr (object_row z) (option_map capsule_row o) (without_row (object_row z)) old mid → Dropped mid
        by z there None is one = absurd one
        by z there (Some c) is one =
            record { gone = record { object = z; there = there; capsule = c; is = is }; discarded = one }

    -- the heap stands for the world without it
    pub lost_stands : {mid : Heap} (d : Dropped mid) → HeapStandsFor mid (lost d.gone.object)
    lost_stands {mid} d =
        let z = d.gone.object in
        let c = d.gone.capsule in
        let acct = z.account in
        let ts = tickets_of w.accounts acct in
        let new = without z in
        let m : Things = finite.insert w.things addr (things.Object new) in
        let u = record w { things = m } in
        let frees : Space → ℕ = in_space spaces.Heap (capsule_bytes (length c.text)) in
        let charges : MovesCharge w.things m acct nothing frees =
        object_moves w.things addr acct (Some z) (Some new) nothing frees d.gone.there refl (drops.account z)
        (sources_stay w.things acct (Some z) (Some new) (λ q. ap (naming q) (drops.extents z)))
        (λ space. let less = drops.less z c d.gone.is space in omega (arith, less)) in
        let alike : TieAlike (Some (things.Object z)) (Some (things.Object new)) = record {
          raws = λ raw. refl;
          sources = λ source b. λ i. if is_same_account b (sym (drops.account z) i)
              then naming source (sym (drops.extents z) i) else 0;
        } in
        let moves = Gave c.block ∷ [] in
        let others = d.discarded.others in
        let changes : Changes old.blocks mid.blocks (object_entries addr (object_row z)) (object_entries addr (object_row new)) =
        subst (λ (r : ObjectRow). Changes old.blocks mid.blocks (object_entries addr (object_row z)) (object_entries addr r))
        (sym (drops.rows z)) d.discarded.changes in
        let stood : HeapStandsFor mid (with_taken_marked (moved w m acct ts) moves) =
        moved_stands w m acct ts (minus (occupied_in old acct) (amounts_by frees)) charges.other (freed_occupied acct s m frees charges)
        (record { first = refl; last = refl }) moves s
        (both_change w m acct ts
        (things_swap w addr (Some (things.Object z)) (Some (things.Object new)) d.gone.there alike)
        (framed (object_entries addr (object_row z)) (object_entries addr (object_row new)) (queue_entries acct ts) changes))
        (ap (λ (h : Heap). h.marks) others) (ap (λ (h : Heap). h.roots) others) in
        subst (HeapStandsFor mid) (sym (stays u acct)) (unmarked stood)

    -- whose tickets are kept
    pub lost_keeps : {mid : Heap} (d : Dropped mid) → KeepsTickets (lost d.gone.object)
    lost_keeps d =
        let z = d.gone.object in
        let fit = subst (λ (o : Option Thing). IfSome o (λ thing. IsWord addr × FitsThing thing)) d.gone.there (served.fits.things addr) in
        record {
          queues = served.whole.queues;
          fits = put_fits w addr (things.Object (without z)) fit.0 (drops.fits z fit.1) served.fits;
        }

    -- the account that is told then is the object's
    pub own_account : {mid : Heap} {acct : Acct} (d : Dropped mid) → Tells mid.blocks addr (λ r. r.account) acct →
        acct ≡ d.gone.object.account
    own_account {mid} d told =
        let z = d.gone.object in
        let k = object_kept old w s served small addr z d.gone.there in
        told.tells (without_row (object_row z))
        (record {
          rest = k.rest;
          stands = d.discarded.changes.kept k.rest k.stands;
          fits = still.fits (object_row z) k.fits;
        }) ∙ still.account (object_row z)

    -- serving its queue grants as many tickets as the row does
    pub lost_grants : {mid : Heap} {acct : Acct} (d : Dropped mid) → Tells mid.blocks addr (λ r. r.account) acct →
        grants_between (lost d.gone.object) (with_served (lost d.gone.object) acct) ≡ grants_between w (left_with w addr without)
    lost_grants d told =
        let z = d.gone.object in
        ap (λ (a : Acct). grants_between (lost z) (with_served (lost z) a)) (own_account d told)
        ∙ ap (λ (o : Option ZcoObject). grants_between w (option_map_or (λ z. with_served (lost z) z.account) o w))
        (sym (ap as_object d.gone.there))

    -- the heap in which the queue is served stands for the world without it
    pub served_stands : {mid heap : Heap} (d : Dropped mid) → heap ≡ mid → HeapStandsFor heap (lost d.gone.object)
    served_stands d same = subst (λ (h : Heap). HeapStandsFor h (lost d.gone.object)) (sym same) (lost_stands d)

    -- it went, and the queue was served
    pub discard_answered : {mid heap new : Heap} {acct : Acct} (d : Dropped mid) → heap ≡ mid →
        Tells mid.blocks addr (λ r. r.account) acct → Grants acct heap new → Answered w call new [] replies.Done
    discard_answered {mid} {heap} {new} {acct} d same told serves =
        let z = d.gone.object in
        let c = d.gone.capsule in
        let own = own_account d told in
        let stands : HeapStandsFor new (with_served (lost z) z.account) =
        subst (λ (a : Acct). HeapStandsFor new (with_served (lost z) a)) own
        (serves.stands (lost z) (served_stands d same) (lost_keeps d)) in
        let is : new.moves ≡ gave (c.block ∷ []) =
        serves.moves ∙ ap (λ (h : Heap). h.moves) same ∙ ap (λ (h : Heap). h.moves) d.discarded.others
        ∙ ap (λ (ms : List Move). ms ++ Gave c.block ∷ []) unmoved in
        let has : HasMoves w (gave (c.block ∷ [])) new = gave_has w (c.block ∷ []) new is in
        record {
          after = after z;
          row = subst (λ (ms : List Move). ByRow w (record { moves = ms; after = after z; reply = replies.Done }) call) (sym is)
              (discard_row z c d.gone.there d.gone.is);
          answered = refl;
          fresh = subst (λ (ms : List Move). AreFresh (addresses_of (blocks_of w)) ms) (sym is) has.fresh;
          stands = record { blocks = stands.blocks; roots = stands.roots; marks = stands.marks };
          gave = refl;
          words = subst (λ (ms : List Move). All IsWord (taken_addresses ms)) (sym is) has.words;
          taken = refl;
        }

    -- there was no log room to serve it
    pub unserved : {mid : Heap} (heap new : Heap) (d : Dropped mid) (was : List ℕ) (refusal : Refusal) →
        OnlyUnmoved heap new (stops.Refused refusal) → IsRefused w call old new was was refusal
    unserved heap new d was refusal m =
        let x = d.gone in
        log_full w call old heap new was refusal changing (discard_aim x.object x.capsule x.there x.is) m

    -- none went
    module _ (new : Heap) where
      -- since there is none
      none_row : (z : ZcoObject) → thing_at w addr ≡ Some (things.Object z) → pick z ≡ None → new ≡ old →
          ByRow w (record { moves = new.moves; after = w; reply = replies.Refused refusals.NoCapsule }) call
      none_row z there none same =
          let o : Outcome = record { moves = []; after = w; reply = replies.Refused refusals.NoCapsule } in
          row_refused w call new refusals.NoCapsule (ap (λ (h : Heap). h.moves) same ∙ unmoved)
          (row o
          (on_some _ (going o) (object_at w addr) z (ap as_object there)
          (on_none _ (dropping o z) (pick z) none (refl, refl, refl))))

      no_pick : (z : ZcoObject) (o : Option Capsule) → pick z ≡ o → option_map capsule_row o ≡ None → pick z ≡ None
      no_pick z None is none = is
      no_pick z (Some c) is none = absurd cc

      -- or since there was no log room
      full_aim : (z : ZcoObject) (o : Option Capsule) → thing_at w addr ≡ Some (things.Object z) → pick z ≡ o →
          GaveOne (option_map capsule_row o) old new → Aim w call
      full_aim z None there is some = absurd some
      full_aim z (Some c) there is some = discard_aim z c there is

      pub discard_refused : (was : List ℕ) (refusal : Refusal) → DiscardStops pick_row addr old new (stops.Refused refusal) →
          IsRefused w call old new was was refusal
      discard_refused was refusals.NoCapsule m =
          let at = object_is_at old w addr s served m.0.kind in
          let z = at.object in
          let none = m.0.none (object_row z) (object_kept old w s served small addr z at.there) in
          record {
            step = inl (none_row z at.there (no_pick z (pick z) refl (sym (drops.picked z) ∙ none)) m.1);
            left = λ reads. m.1;
            gave = refl;
          }
      discard_refused was (refusals.LogFull lines room) m =
          let at = object_is_at old w addr s served m.kind in
          let z = at.object in
          let some = m.gave (object_row z) (object_kept old w s served small addr z at.there) in
          record {
            step = (
              full_aim z (pick z) at.there refl
                  (subst (λ (o : Option CapsuleRow). GaveOne o old new) (drops.picked z) some),
              changing,
            );
            left = λ reads. absurd (true≢false (sym reads ∙ changing));
            gave = refl;
          }
      discard_refused was refusal m =
          misnamed_refused w call addr kinds.Object (object_at w addr) going old new was row
          (no_object old w addr s served.whole.valid) unmoved m.1 s served.whole.valid refusal m.0
