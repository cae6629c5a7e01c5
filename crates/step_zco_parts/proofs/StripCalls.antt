-- An object that is cut to its part, as a step.
use Rattle.std.proofs.Common.{◌≡◌, ◌∙◌, ◌+◌, ◌*◌, ◌≤◌, ℕ, List, [], ◌++◌, Option, Some, true≢false, length, refl, sym, ap, subst, arith, append_assoc}
use Rattle.std.specs.Option.{option_map_or}
use Rattle.std.specs.Prelude.{All, IfSome}
use Rattle.step_things.proofs.ListLemmas.{IsSmall}
use Rattle.step_things.proofs.RowLemmas.{HasMoves, gave_has, gave_takes, misnamed_refused}
use Rattle.step_things.specs.Answering.{Aim, Answered, IsRefused, IsReady}
use Rattle.sdr_stands.specs.Rows.{object_row}
use Rattle.sdr_stands.specs.Standing.{HeapStandsFor, entries_of, other_entries, with_taken_marked}
use Rattle.sdr_base.specs.Entries.{Changes, Entries, BlocksAre}
use Rattle.sdr_base.specs.Objects.{Heap, Misses, OnlyUnmoved}
use Rattle.sdr_base.specs.ZcoObjects.{object_entries}
use Rattle.sdr_base.specs.declared.account.Acct.{Acct}
use Rattle.sdr_base.specs.declared.kind.Kind.TheVariants as kinds
use Rattle.sdr_base.specs.declared.kind.Space.{Space}
use Rattle.sdr_base.specs.declared.moves.Move.{Move}
use Rattle.sdr_base.specs.declared.refusal.Refusal.{Refusal}
use Rattle.sdr_base.specs.declared.refusal.Refusal.TheVariants as refusals
use Rattle.sdr_base.specs.declared.stop.Stop.TheVariants as stops
use Rattle.law_steps.proofs.ChargeMoves.{MovesCharge}
use Rattle.law_steps.proofs.SourceMoves.{nothing}
use Rattle.law_steps.proofs.ZcoOutcomes.{drop_release}
use Rattle.law_steps.specs.Fresh.{AreFresh}
use Rattle.sdr_machine.proofs.WorkLemmas.{on_some}
use Rattle.sdr_machine.specs.Demand.{grants_between}
use Rattle.sdr_model.specs.Accounts.{tickets_of}
use Rattle.sdr_model.specs.Amounts.{amounts_by, minus}
use Rattle.sdr_model.specs.Blocks.{addresses_of, blocks_of}
use Rattle.sdr_model.specs.Fields.{IsWord}
use Rattle.sdr_model.specs.Gone.{gone_blocks as world_blocks, gone_things, without_things}
use Rattle.sdr_model.specs.ObjectSteps.{with_object}
use Rattle.sdr_model.specs.PartSteps.{outside_part, stripped}
use Rattle.sdr_model.specs.Queue.{with_served}
use Rattle.sdr_model.specs.RowMoves.{stripped_blocks}
use Rattle.sdr_model.specs.Rows.{ByRow}
use Rattle.sdr_model.specs.Steps.{gave, taken_addresses}
use Rattle.sdr_model.specs.Valid.{FitTogether, IsValidObject, IsValidThing}
use Rattle.sdr_model.specs.World.{World}
use Rattle.sdr_model.specs.Zco.{as_object, object_at}
use Rattle.sdr_model.specs.declared.answer.Reply.TheVariants as replies
use Rattle.sdr_model.specs.declared.call.Call.TheVariants as calls
use Rattle.sdr_model.specs.declared.things.Thing.{Thing}
use Rattle.sdr_model.specs.declared.zco.ZcoObject.{ZcoObject}
use Rattle.zco_acct.specs.Kept.{queue_entries}
use Rattle.zco_acct.specs.Words.{occupied_in}
use Rattle.step_zco.proofs.ChargeLemmas.{stays}
use Rattle.step_zco.proofs.DestroyLeft.{extents_few}
use Rattle.step_zco.proofs.DropLemmas.{framed}
use Rattle.step_zco.proofs.MovedLemmas.{moved_stands}
use Rattle.step_zco.proofs.MovingLemmas.{both_alike, moved}
use Rattle.step_zco.proofs.ObjectLemmas.{IsObjectAt, no_object, object_fits, object_is_at, object_kept}
use Rattle.step_zco.proofs.PayingLemmas.{freed_occupied}
use Rattle.zco_strip.specs.Cuts as cuts
use Rattle.zco_strip.specs.Stripping.{KeepsToStrip, ObjectStripped, StripsObject, StripStops, gone_outside, stripped_amounts}
use Rattle.zco_strip.specs.Stripping as rows
use Rattle.step_zco_parts.proofs.CutGone.{gone_same, less_same}
use Rattle.step_zco_parts.proofs.CutRows.{bytes_row}
use Rattle.step_zco_parts.proofs.CutSources.{both, named_all}
use Rattle.step_zco_parts.proofs.CutWorlds.{all_first, behind, cut_first}
use Rattle.step_zco_parts.proofs.StripLosses.{cut_charges, cut_fields, cut_fits, cut_is, cut_world}
use Rattle.step_zco_parts.specs.Stripping.{left_cut, strip_lines}
use Rattle.step_zco.proofs.AccountLemmas.{unmarked}
use Rattle.step_zco.proofs.ComingLemmas.{log_full}
use Rattle.step_zco.specs.AccountAnswering.{KeepsTickets, Grants}
use Rattle.zco_obj.specs.Gone.{NamedSource, sources_entries, sources_left}
use Rattle.zco_obj.specs.Reading.{Tells}

-- a call on a heap that stands for a world in which it is served
module _ (old : Heap) (w : World) (unmoved : old.moves ≡ []) (s : HeapStandsFor old w) (served : IsReady w) (small : IsSmall old)
    (addr : ℕ) where
  -- of an object that is there
  module _ (at : IsObjectAt w addr) where
    abbrev z : ZcoObject
    z = at.object

    abbrev pub sources : List NamedSource
    sources = both w addr z served.whole.fits at.there

    abbrev beside : Entries
    beside = behind w addr z served.whole.fits at.there

    -- the world in which it is cut to its part, before the queue is served, and after
    abbrev pub lost : World
    lost = cut_world w addr z

    abbrev after : World
    after = record (with_served lost z.account) { shown = [] }

    -- the object is kept with the sources that its extents name, each of which has a byte
    pub keeps : KeepsToStrip old.blocks addr (object_row z) sources
    keeps =
        let own = object_entries addr (object_row z) in
        let named = sources_entries sources in
        let valid : IsValidObject z = subst (λ (o : Option Thing). IfSome o IsValidThing) at.there (served.whole.valid.things addr) in
        record {
          keeps = record {
            rest = beside ++ other_entries w;
            stands = subst (λ (es : Entries). BlocksAre old.blocks es)
                (append_assoc (own ++ named) beside (other_entries w) ∙ append_assoc own named (beside ++ other_entries w))
                ((all_first w addr z served.whole.fits at.there).forth old.blocks (other_entries w) s.blocks);
            fits = object_fits old w s served small addr z at.there;
            named = named_all w addr z served.whole.fits at.there old s served small;
          };
          bytes = bytes_row z valid;
        }

    strip_row : ByRow w
        (record { moves = gave (world_blocks w (outside_part z) (outside_part z)); after = after; reply = replies.Done })
        (calls.Strip addr)
    strip_row =
        on_some _ _ (object_at w addr) z (ap as_object at.there)
        (refl, ap (λ (v : World). record (with_served v z.account) { shown = [] }) (sym (cut_is w addr z)), refl)

    pub aim : Aim w (calls.Strip addr)
    aim = record { to = _; row = strip_row; answered = refl }

    fits : FitTogether lost
    fits = cut_fits w addr z at.there served.whole.fits

    -- its tickets are kept
    pub lost_keeps : KeepsTickets lost
    lost_keeps = record {
      queues = served.whole.queues;
      fits = cut_fields w addr z at.there served.whole.valid served.whole.fits served.fits;
    }

    -- it charges so much less, with the sources that no other extent of the account names
    abbrev frees : Space → ℕ
    frees = drop_release w z (Some (stripped z)) (outside_part z)

    amounts_same : stripped_amounts (object_row z) sources ≡ amounts_by frees
    amounts_same = less_same w addr z served.whole.fits at.there

    -- the blocks that go
    pub blocks_same : world_blocks w (outside_part z) (outside_part z) ≡ gone_outside (object_row z) sources
    blocks_same = gone_same w addr z served.whole.fits at.there

    -- the heap stands for the world in which it is cut
    pub lost_stands : {mid : Heap} → ObjectStripped addr (object_row z) sources old mid → HeapStandsFor mid lost
    lost_stands {mid} g =
        let acct = z.account in
        let ts = tickets_of w.accounts acct in
        let m = lost.things in
        let charges : MovesCharge w.things m acct nothing frees = cut_charges w addr z at.there served.whole.fits in
        let moves = gave (gone_outside (object_row z) sources) in
        let own = object_entries addr (object_row z) ++ sources_entries sources in
        let left =
        object_entries addr (cuts.stripped (object_row z))
        ++ sources_left z.account (cuts.outside (object_row z)) sources in
        let changes : Changes old.blocks mid.blocks (entries_of w) (entries_of (moved w m acct ts)) =
        both_alike w m acct ts own left beside (all_first w addr z served.whole.fits at.there)
        (cut_first w addr z served.whole.fits at.there fits) (framed own left (queue_entries acct ts) g.changes) in
        let stood : HeapStandsFor mid (with_taken_marked (moved w m acct ts) moves) =
        moved_stands w m acct ts (minus (occupied_in old acct) (stripped_amounts (object_row z) sources)) charges.other
        (ap (minus (occupied_in old acct)) amounts_same ∙ freed_occupied acct s m frees charges)
        (record { first = refl; last = refl }) moves s changes
        (ap (λ (h : Heap). h.marks) g.others) (ap (λ (h : Heap). h.roots) g.others) in
        let none : HeapStandsFor mid (with_taken_marked (moved w m acct ts) []) =
        subst (λ (taken : List ℕ). HeapStandsFor mid (record (moved w m acct ts) { marks = w.marks ++ taken; shown = [] }))
        (gave_takes (gone_outside (object_row z) sources)) stood in
        subst (HeapStandsFor mid) (sym (stays lost acct)) (unmarked none)

    -- the account that was told before is the object's
    pub own_account : {acct : Acct} → Tells old.blocks addr (λ r. r.account) acct → acct ≡ z.account
    own_account told = told.tells (object_row z) (object_kept old w s served small addr z at.there)

    -- it was cut, and the queue was served
    pub gone_answered : {mid new : Heap} {acct : Acct} → ObjectStripped addr (object_row z) sources old mid →
        Tells old.blocks addr (λ r. r.account) acct → Grants acct mid new → Answered w (calls.Strip addr) new [] replies.Done
    gone_answered {mid} {new} {acct} g told serves =
        let stands : HeapStandsFor new (with_served lost z.account) =
        subst (λ (a : Acct). HeapStandsFor new (with_served lost a)) (own_account told)
        (serves.stands lost (lost_stands g) lost_keeps) in
        let is : new.moves ≡ gave (world_blocks w (outside_part z) (outside_part z)) =
        serves.moves ∙ ap (λ (h : Heap). h.moves) g.others
        ∙ ap (λ (ms : List Move). ms ++ gave (gone_outside (object_row z) sources)) unmoved
        ∙ ap (λ (addrs : List ℕ). gave addrs) (sym blocks_same) in
        let went = world_blocks w (outside_part z) (outside_part z) in
        let has : HasMoves w (gave went) new = gave_has w went new is in
        record {
          after = after;
          row = subst (λ (ms : List Move). ByRow w (record { moves = ms; after = after; reply = replies.Done }) (calls.Strip addr))
              (sym is) strip_row;
          answered = refl;
          fresh = subst (λ (ms : List Move). AreFresh (addresses_of (blocks_of w)) ms) (sym is) has.fresh;
          stands = record { blocks = stands.blocks; roots = stands.roots; marks = stands.marks };
          gave = refl;
          words = subst (λ (ms : List Move). All IsWord (taken_addresses ms)) (sym is) has.words;
          taken = refl;
        }

    -- serving its queue grants as many tickets as the row does
    grants_same : {acct : Acct} → Tells old.blocks addr (λ r. r.account) acct →
        grants_between lost (with_served lost acct) ≡ grants_between w (left_cut w addr)
    grants_same {acct} told =
        ap (λ (a : Acct). grants_between lost (with_served lost a)) (own_account told)
        ∙ ap (λ (v : World). grants_between w (with_served v z.account)) (sym (cut_is w addr z))
        ∙ ap (λ (o : Option ZcoObject). grants_between w
        (option_map_or
        (λ z. with_served (with_object (without_things w (gone_things w (outside_part z) (outside_part z))) addr (stripped z)) z.account)
        o w))
        (sym (ap as_object at.there))

    -- so the lines are enough for all of it
    pub lines_enough : {acct : Acct} → Tells old.blocks addr (λ r. r.account) acct →
        rows.strip_lines (object_row z) sources + 32 * grants_between lost (with_served lost acct) ≤ strip_lines w addr
    lines_enough {acct} told =
        let out = cuts.outside (object_row z) in
        let many : length (stripped_blocks w (object_at w addr)) ≡ length (gone_outside (object_row z) sources) =
        ap (λ (o : Option ZcoObject). length (stripped_blocks w o)) (ap as_object at.there)
        ∙ ap (λ (addrs : List ℕ). length addrs) blocks_same in
        omega (arith, many, grants_same told, extents_few sources out out)

  -- whichever object was cut
  module _ {mid : Heap} (d : StripsObject addr old mid) where
    pub object : IsObjectAt w addr
    object = object_is_at old w addr s served d.kind

    pub gone : ObjectStripped addr (object_row object.object) (sources object) old mid
    gone = d.strips (object_row object.object) (sources object) (keeps object)

    pub cut : {new : Heap} {acct : Acct} → Tells old.blocks addr (λ r. r.account) acct → Grants acct mid new →
        Answered w (calls.Strip addr) new [] replies.Done
    cut told serves = gone_answered object gone told serves

    -- there was no log room to serve its queue
    pub unserved : (new : Heap) (was : List ℕ) (refusal : Refusal) → OnlyUnmoved mid new (stops.Refused refusal) →
        IsRefused w (calls.Strip addr) old new was was refusal
    unserved new was refusal m = log_full w (calls.Strip addr) old mid new was refusal refl (aim object) m

  -- none was: there is none
  pub misnamed : (new : Heap) (was : List ℕ) (refusal : Refusal) → Misses (old.blocks addr) addr kinds.Object (stops.Refused refusal) →
      new ≡ old → IsRefused w (calls.Strip addr) old new was was refusal
  misnamed new was refusal m same =
      misnamed_refused w (calls.Strip addr) addr kinds.Object (object_at w addr) _ old new was (λ o h. h)
      (no_object old w addr s served.whole.valid) unmoved same s served.whole.valid refusal m

  -- or there was no log room
  pub uncut : (new : Heap) (was : List ℕ) (refusal : Refusal) → StripStops addr old new (stops.Refused refusal) →
      IsRefused w (calls.Strip addr) old new was was refusal
  uncut new was (refusals.BadAddress bad) m = misnamed new was (refusals.BadAddress bad) m.0 m.1
  uncut new was (refusals.WrongKind bad number) m = misnamed new was (refusals.WrongKind bad number) m.0 m.1
  uncut new was (refusals.LogFull lines room) m = record {
    step = (aim (object_is_at old w addr s served m.kind), refl);
    left = λ reads. absurd (true≢false (sym reads));
    gave = refl;
  }
  uncut new was refusal m = absurd m
