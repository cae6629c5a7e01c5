-- An object that is destroyed, as a step.
use Rattle.std.proofs.Common.{◌≡◌, ◌∙◌, ◌+◌, ◌*◌, ◌≤◌, ℕ, List, [], ◌∷◌, ◌++◌, map, Option, true≢false, length, refl, sym, ap, subst, arith, length-append, None}
use Rattle.std.proofs.lemmas.List.{length-map}
use Rattle.std.specs.Option.{option_map_or}
use Rattle.std.specs.Prelude.{All}
use Rattle.step_things.proofs.ListLemmas.{IsSmall}
use Rattle.step_things.proofs.RowLemmas.{HasMoves, gave_has, gave_takes, misnamed_refused}
use Rattle.step_things.specs.Answering.{Aim, Answered, IsRefused, IsReady}
use Rattle.sdr_stands.specs.Rows.{extent_row, object_row}
use Rattle.sdr_stands.specs.Standing.{HeapStandsFor, entries_of, with_taken_marked}
use Rattle.sdr_base.specs.Entries.{Changes}
use Rattle.sdr_base.specs.Objects.{Heap, Misses, OnlyUnmoved}
use Rattle.sdr_base.specs.ZcoObjects.{capsule_addr}
use Rattle.sdr_base.specs.declared.account.Acct.{Acct}
use Rattle.sdr_base.specs.declared.kind.Kind.TheVariants as kinds
use Rattle.sdr_base.specs.declared.kind.Space.{Space}
use Rattle.sdr_base.specs.declared.moves.Move.{Move}
use Rattle.sdr_base.specs.declared.refusal.Refusal.{Refusal}
use Rattle.sdr_base.specs.declared.refusal.Refusal.TheVariants as refusals
use Rattle.sdr_base.specs.declared.stop.Stop.TheVariants as stops
use Rattle.law_steps.proofs.ChargeMoves.{MovesCharge}
use Rattle.law_steps.proofs.SourceMoves.{nothing}
use Rattle.law_steps.proofs.ZcoOutcomes.{drop_release}
use Rattle.law_steps.specs.Fresh.{AreFresh}
use Rattle.sdr_machine.proofs.WorkLemmas.{on_some}
use Rattle.sdr_machine.specs.Demand.{grants_between}
use Rattle.sdr_model.specs.Accounts.{tickets_of}
use Rattle.sdr_model.specs.Amounts.{amounts_by, minus}
use Rattle.sdr_model.specs.Blocks.{addresses_of, blocks_of}
use Rattle.sdr_model.specs.Fields.{IsWord}
use Rattle.sdr_model.specs.Gone.{gone_things, without_things}
use Rattle.sdr_model.specs.ObjectSteps.{destroy_blocks}
use Rattle.sdr_model.specs.Queue.{with_served}
use Rattle.sdr_model.specs.RowMoves.{destroyed_blocks}
use Rattle.sdr_model.specs.Rows.{ByRow}
use Rattle.sdr_model.specs.Steps.{gave, taken_addresses, without_thing}
use Rattle.sdr_model.specs.Valid.{FitTogether}
use Rattle.sdr_model.specs.World.{World}
use Rattle.sdr_model.specs.Zco.{as_object, object_at}
use Rattle.sdr_model.specs.declared.answer.Reply.TheVariants as replies
use Rattle.sdr_model.specs.declared.call.Call.TheVariants as calls
use Rattle.sdr_model.specs.declared.zco.ZcoObject.{ZcoObject}
use Rattle.zco_acct.specs.Kept.{queue_entries}
use Rattle.zco_acct.specs.Words.{occupied_in}
use Rattle.step_zco.proofs.ChargeLemmas.{stays}
use Rattle.step_zco.proofs.DropLemmas.{framed}
use Rattle.step_zco.proofs.DestroyLeft.{extents_few}
use Rattle.step_zco.proofs.DestroyKept.{keeps_sources, sources, used}
use Rattle.step_zco.proofs.GoneLosses.{lost_charge, lost_fields, lost_fits}
use Rattle.step_zco.proofs.GoneCharges.{charge_same}
use Rattle.step_zco.proofs.GoneMoves.{destroyed_same}
use Rattle.step_zco.proofs.GoneTies.{leaves_none, left_things, lost_is, lost_world}
use Rattle.step_zco.proofs.GoneWorlds.{beside, left_first, own_blocks, own_first}
use Rattle.step_zco.proofs.MovedLemmas.{moved_stands}
use Rattle.step_zco.proofs.MovingLemmas.{both_alike, moved}
use Rattle.step_zco.proofs.ObjectLemmas.{IsObjectAt, no_object, object_is_at, object_kept}
use Rattle.step_zco.proofs.PayingLemmas.{freed_occupied}
use Rattle.step_zco.specs.ObjectAnswering.{destroy_lines, grants_of}
use Rattle.step_zco.proofs.AccountLemmas.{unmarked}
use Rattle.step_zco.proofs.ComingLemmas.{log_full}
use Rattle.step_zco.specs.AccountAnswering.{KeepsTickets, Grants}
use Rattle.zco_obj.specs.Destroying.{DestroysObject, DestroyStops, KeepsSources, ObjectGone, charges_of, gone_object, gone_parts, parts_lines}
use Rattle.zco_obj.specs.Gone.{NamedSource, gone_blocks, sources_left}
use Rattle.zco_obj.specs.Reading.{Tells}

-- a call on a heap that stands for a world in which it is served
module _ (old : Heap) (w : World) (unmoved : old.moves ≡ []) (s : HeapStandsFor old w) (served : IsReady w) (small : IsSmall old)
    (addr : ℕ) where
  -- of an object that is there
  module _ (at : IsObjectAt w addr) where
    abbrev z : ZcoObject
    z = at.object

    abbrev pub rows : List NamedSource
    rows = sources old w s served small addr z at.there

    -- the world without it, before the queue is served, and after
    abbrev pub lost : World
    lost = lost_world w addr z.extents None

    abbrev after : World
    after = record (with_served lost z.account) { shown = [] }

    pub keeps : KeepsSources old.blocks addr (object_row z) rows
    keeps = keeps_sources old w s served small addr z at.there

    destroy_row : ByRow w (record { moves = gave (destroy_blocks w addr z); after = after; reply = replies.Done }) (calls.Destroy addr)
    destroy_row =
        on_some _ _ (object_at w addr) z (ap as_object at.there)
        (refl, ap (λ (v : World). record (with_served v z.account) { shown = [] }) (sym (lost_is w addr z.extents)), refl)

    pub aim : Aim w (calls.Destroy addr)
    aim = record { to = _; row = destroy_row; answered = refl }

    fits : FitTogether lost
    fits = lost_fits w addr z at.there served.whole.fits

    -- its tickets are kept
    pub lost_keeps : KeepsTickets lost
    lost_keeps = record { queues = served.whole.queues; fits = lost_fields w addr z at.there served.fits }

    -- it charged so much, with the sources that no other object of the account names
    abbrev frees : Space → ℕ
    frees = drop_release w z None z.extents

    amounts_same : charges_of (object_row z) rows ≡ amounts_by frees
    amounts_same =
        let u = used w addr z served.whole.fits at.there in charge_same w z u.sources u.are

    -- the blocks that go
    pub blocks_same : destroy_blocks w addr z ≡ gone_object addr (object_row z) rows
    blocks_same =
        let u = used w addr z served.whole.fits at.there in destroyed_same w z u.sources u.are.found addr

    -- the heap stands for the world without it
    pub lost_stands : {mid : Heap} → ObjectGone addr (object_row z) rows old mid → HeapStandsFor mid lost
    lost_stands {mid} g =
        let u = used w addr z served.whole.fits at.there in
        let acct = z.account in
        let ts = tickets_of w.accounts acct in
        let m = left_things w addr z.extents None in
        let charges : MovesCharge w.things m acct nothing frees = lost_charge w addr z at.there served.whole.fits in
        let moves = gave (gone_object addr (object_row z) rows) in
        let own = own_blocks w addr z at.there served.whole.fits z.extents None (leaves_none z) u.sources u.are in
        let left = sources_left z.account (map extent_row z.extents) rows in
        let changes : Changes old.blocks mid.blocks (entries_of w) (entries_of (moved w m acct ts)) =
        both_alike w m acct ts own left (beside w addr z at.there served.whole.fits z.extents None (leaves_none z) u.sources u.are)
        (own_first w addr z at.there served.whole.fits z.extents None (leaves_none z) u.sources u.are)
        (left_first w addr z at.there served.whole.fits z.extents None (leaves_none z) u.sources u.are fits)
        (framed own left (queue_entries acct ts) g.changes) in
        let stood : HeapStandsFor mid (with_taken_marked (moved w m acct ts) moves) =
        moved_stands w m acct ts (minus (occupied_in old acct) (charges_of (object_row z) rows)) charges.other
        (ap (minus (occupied_in old acct)) amounts_same ∙ freed_occupied acct s m frees charges)
        (record { first = refl; last = refl }) moves s changes
        (ap (λ (h : Heap). h.marks) g.others) (ap (λ (h : Heap). h.roots) g.others) in
        let none : HeapStandsFor mid (with_taken_marked (moved w m acct ts) []) =
        subst (λ (taken : List ℕ). HeapStandsFor mid (record (moved w m acct ts) { marks = w.marks ++ taken; shown = [] }))
        (gave_takes (gone_object addr (object_row z) rows)) stood in
        subst (HeapStandsFor mid) (sym (stays lost acct)) (unmarked none)

    -- the account that was told before is the object's
    pub own_account : {acct : Acct} → Tells old.blocks addr (λ r. r.account) acct → acct ≡ z.account
    own_account told = told.tells (object_row z) (object_kept old w s served small addr z at.there)

    -- it is gone, and the queue was served
    pub gone_answered : {mid new : Heap} {acct : Acct} → ObjectGone addr (object_row z) rows old mid →
        Tells old.blocks addr (λ r. r.account) acct → Grants acct mid new → Answered w (calls.Destroy addr) new [] replies.Done
    gone_answered {mid} {new} {acct} g told serves =
        let stands : HeapStandsFor new (with_served lost z.account) =
        subst (λ (a : Acct). HeapStandsFor new (with_served lost a)) (own_account told)
        (serves.stands lost (lost_stands g) lost_keeps) in
        let is : new.moves ≡ gave (destroy_blocks w addr z) =
        serves.moves ∙ ap (λ (h : Heap). h.moves) g.others
        ∙ ap (λ (ms : List Move). ms ++ gave (gone_object addr (object_row z) rows)) unmoved
        ∙ ap (λ (addrs : List ℕ). gave addrs) (sym blocks_same) in
        let has : HasMoves w (gave (destroy_blocks w addr z)) new = gave_has w (destroy_blocks w addr z) new is in
        record {
          after = after;
          row = subst (λ (ms : List Move). ByRow w (record { moves = ms; after = after; reply = replies.Done }) (calls.Destroy addr))
              (sym is) destroy_row;
          answered = refl;
          fresh = subst (λ (ms : List Move). AreFresh (addresses_of (blocks_of w)) ms) (sym is) has.fresh;
          stands = record { blocks = stands.blocks; roots = stands.roots; marks = stands.marks };
          gave = refl;
          words = subst (λ (ms : List Move). All IsWord (taken_addresses ms)) (sym is) has.words;
          taken = refl;
        }

    -- serving its queue grants as many tickets as the row does
    grants_same : {acct : Acct} → Tells old.blocks addr (λ r. r.account) acct →
        grants_between lost (with_served lost acct) ≡ grants_of w (calls.Destroy addr)
    grants_same {acct} told =
        ap (λ (a : Acct). grants_between lost (with_served lost a)) (own_account told)
        ∙ ap (λ (v : World). grants_between w (with_served v z.account)) (sym (lost_is w addr z.extents))
        ∙ ap (λ (o : Option ZcoObject). grants_between w
        (option_map_or
        (λ z. with_served (without_thing (without_things w (gone_things w z.extents z.extents)) addr) z.account) o w))
        (sym (ap as_object at.there))

    -- so the lines are enough for all of it
    pub lines_enough : {acct : Acct} → Tells old.blocks addr (λ r. r.account) acct →
        27 + parts_lines (object_row z) rows + 32 * grants_between lost (with_served lost acct) ≤ destroy_lines w addr
    lines_enough {acct} told =
        let row = object_row z in
        let gone = gone_blocks rows row.extents row.extents in
        let headers = map capsule_addr row.headers in
        let trailers = map capsule_addr row.trailers in
        let many : length (destroyed_blocks w addr (object_at w addr)) ≡ length (gone_object addr row rows) =
        ap (λ (o : Option ZcoObject). length (destroyed_blocks w addr o)) (ap as_object at.there)
        ∙ ap (λ (addrs : List ℕ). length addrs) blocks_same in
        omega (
          arith,
          many,
          grants_same told,
          extents_few rows row.extents row.extents,
          length-append (gone_parts row rows) (addr ∷ []),
          length-append (headers ++ gone) trailers,
          length-append headers gone,
          length-map row.headers capsule_addr,
          length-map row.trailers capsule_addr,
        )

  -- whichever object was destroyed
  module _ {mid : Heap} (d : DestroysObject addr old mid) where
    pub object : IsObjectAt w addr
    object = object_is_at old w addr s served d.kind

    pub gone : ObjectGone addr (object_row object.object) (rows object) old mid
    gone = d.gone (object_row object.object) (rows object) (keeps object)

    pub destroyed : {new : Heap} {acct : Acct} → Tells old.blocks addr (λ r. r.account) acct → Grants acct mid new →
        Answered w (calls.Destroy addr) new [] replies.Done
    destroyed told serves = gone_answered object gone told serves

    -- there was no log room to serve its queue
    pub unserved : (new : Heap) (was : List ℕ) (refusal : Refusal) → OnlyUnmoved mid new (stops.Refused refusal) →
        IsRefused w (calls.Destroy addr) old new was was refusal
    unserved new was refusal m = log_full w (calls.Destroy addr) old mid new was refusal refl (aim object) m

  -- none was: there is none
  pub misnamed : (new : Heap) (was : List ℕ) (refusal : Refusal) → Misses (old.blocks addr) addr kinds.Object (stops.Refused refusal) →
      new ≡ old → IsRefused w (calls.Destroy addr) old new was was refusal
  misnamed new was refusal m same =
      misnamed_refused w (calls.Destroy addr) addr kinds.Object (object_at w addr) _ old new was (λ o h. h)
      (no_object old w addr s served.whole.valid) unmoved same s served.whole.valid refusal m

  -- or there was no log room
  pub undestroyed : (new : Heap) (was : List ℕ) (refusal : Refusal) → DestroyStops addr old new (stops.Refused refusal) →
      IsRefused w (calls.Destroy addr) old new was was refusal
  undestroyed new was (refusals.BadAddress bad) m = misnamed new was (refusals.BadAddress bad) m.0 m.1
  undestroyed new was (refusals.WrongKind bad number) m = misnamed new was (refusals.WrongKind bad number) m.0 m.1
  undestroyed new was (refusals.LogFull lines room) m = record {
    step = (aim (object_is_at old w addr s served m.kind), refl);
    left = λ reads. absurd (true≢false (sym reads));
    gave = refl;
  }
  undestroyed new was refusal m = absurd m
