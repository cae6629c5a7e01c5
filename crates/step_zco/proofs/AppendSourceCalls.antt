-- A part of a source that an object gets, as a step.
use Rattle.std.proofs.Common.{◌≡◌, ◌∙◌, ℕ, List, [], ◌∷◌, ◌++◌, Some, None, false, true, inl, refl, sym, ap, subst, append_assoc}
use Rattle.step_things.proofs.ListLemmas.{IsSmall}
use Rattle.step_things.proofs.RowLemmas.{TakesAim, moved_answered, row_refused, took_has}
use Rattle.step_things.specs.Answering.{Answered, IsRefused, IsReady}
use Rattle.sdr_stands.specs.Rows.{object_row}
use Rattle.sdr_stands.specs.Standing.{HeapStandsFor, thing_entries, with_taken_marked}
use Rattle.sdr_stands.specs.Ties.{ties_of}
use Rattle.sdr_base.specs.Entries.{Entries}
use Rattle.sdr_base.specs.Objects.{Heap}
use Rattle.sdr_base.specs.Section.{section}
use Rattle.sdr_base.specs.ZcoObjects.{object_entries}
use Rattle.sdr_base.specs.declared.account.Amounts.{Amounts}
use Rattle.sdr_base.specs.declared.kind.Space.{Space}
use Rattle.sdr_base.specs.declared.moves.Move.{Move}
use Rattle.sdr_base.specs.declared.moves.Move.TheVariants.{Took}
use Rattle.sdr_base.specs.declared.refusal.Refusal.{Refusal}
use Rattle.sdr_base.specs.declared.refusal.Refusal.TheVariants as refusals
use Rattle.sdr_base.specs.declared.stop.Stop.TheVariants as stops
use Rattle.sdr_machine.proofs.WorkLemmas.{on_false, on_some, on_true}
use Rattle.sdr_model.specs.Accounts.{tickets_of}
use Rattle.sdr_model.specs.Amounts.{amounts_by}
use Rattle.sdr_model.specs.Charges.{use_charge}
use Rattle.sdr_model.specs.Charging.{Charges}
use Rattle.sdr_model.specs.ObjectSteps as object
use Rattle.sdr_model.specs.ObjectSteps.{with_object}
use Rattle.sdr_model.specs.Rows.{ByRow}
use Rattle.sdr_model.specs.Steps.{Outcome, Takes}
use Rattle.sdr_model.specs.Things.{extent_need}
use Rattle.sdr_model.specs.World.{World}
use Rattle.sdr_model.specs.Zco.{as_object, as_source, object_at, source_at}
use Rattle.sdr_model.specs.declared.answer.Reply.TheVariants as replies
use Rattle.sdr_model.specs.declared.call.Call.{Call}
use Rattle.sdr_model.specs.declared.call.Call.TheVariants as calls
use Rattle.sdr_model.specs.declared.zco.ZcoSource.{ZcoSource}
use Rattle.zco_acct.specs.Charges.{charged}
use Rattle.step_zco.proofs.AlikeLemmas.{StandAlike}
use Rattle.step_zco.proofs.AppendLemmas.{AppendsNamed, in_range, out_of_range, use_told}
use Rattle.step_zco.proofs.AppendSources.{IsPair, pair_after, pair_at, pair_before, pair_charge, pair_kept, pair_object, pair_others, pair_things}
use Rattle.step_zco.proofs.ChargeLemmas.{IsPaid, paid, unpaid}
use Rattle.step_zco.proofs.MovingLemmas.{both_alike}
use Rattle.step_zco.proofs.PayingLemmas.{paid_stands, paid_world, room_refused, same_refusal}
use Rattle.zco_obj.specs.Amounts.{use_amounts}
use Rattle.zco_obj.specs.AppendStops.{RangeRefused, SourceAllowed, SourceStops}
use Rattle.zco_obj.specs.Appending.{AppendsSource, IsWithin, OfSource}
use Rattle.zco_obj.specs.Charging.{Pays, refusal_in}
use Rattle.zco_obj.specs.Extents.{extent_of, with_extent}
use Rattle.zco_obj.specs.declared.extent.ExtentPiece.{ExtentPiece}
use Rattle.zco_ref.specs.Counting.{attached}
use Rattle.zco_ref.specs.Kept.{CountedSource, counted_entries}
use Rattle.step_zco.proofs.SourceLemmas.{counted_in, source_stands}

-- a call on a heap that stands for a world in which it is served
module _ (old new : Heap) (w : World) (unmoved : old.moves ≡ []) (s : HeapStandsFor old w) (served : IsReady w) (small : IsSmall old)
    (addr number named offset bytes : ℕ) where
  abbrev call : Call
  call = calls.AppendExtent addr number named offset bytes

  abbrev piece : ExtentPiece
  piece = record { of = named; offset = offset; bytes = bytes }

  -- where the source is
  module _ (p : IsPair w addr named) where
    abbrev charge : Space → ℕ
    charge = use_charge w p.object.account named p.source

    abbrev after : ℕ → World
    after block = paid_world w (pair_things w addr named p block offset bytes) p.object.account number charge

    abbrev outcome : ℕ → Outcome
    outcome block = record {
      moves = Took extent_need block ∷ [];
      after = with_taken_marked (after block) (Took extent_need block ∷ []);
      reply = replies.Done;
    }

    abbrev taking : Outcome → World → Type 0
    taking o used =
        Takes w o extent_need (λ block. with_object used addr (pair_object w addr named p block offset bytes)) (λ block. replies.Done)

    abbrev charging : Outcome → Type 0
    charging o = Charges w o p.object.account number charge (taking o)

    abbrev ranging : Outcome → Type 0
    ranging o = object.InRange w o offset bytes p.source.length (charging o)

    on_pair : (o : Outcome) → object.AppendsSource w o addr p.object number named p.source offset bytes → ByRow w o call
    on_pair o h =
        on_some _ (AppendsNamed w o addr number named offset bytes) (object_at w addr) p.object (ap as_object p.there)
        (on_some _ (λ (x : ZcoSource). object.AppendsSource w o addr p.object number named x offset bytes) (source_at w named) p.source
        (ap as_source p.named_there) h)

    on_charge : (o : Outcome) → p.source.flagged ≡ false → IsWithin piece p.source.length → charging o → ByRow w o call
    on_charge o unflagged within h =
        on_pair o
        (on_false _ (ranging o) p.source.flagged unflagged
        (on_false _ (charging o) _ (in_range offset bytes p.source.length within.some within.within) h))

    appended_row : (block : ℕ) → p.source.flagged ≡ false → IsWithin piece p.source.length →
        IsPaid w p.object.account number charge → ByRow w (outcome block) call
    appended_row block unflagged within paid =
        on_charge (outcome block) unflagged within
        (paid.goes (outcome block) (taking (outcome block)) (
          refl,
          (
            sym (ap (λ (used : World). record (with_object used addr (pair_object w addr named p block offset bytes)) {
              marks = w.marks ++ block ∷ [];
              shown = [];
            }) paid.used),
            refl,
          ),
        ))

    appended_aim : p.source.flagged ≡ false → IsWithin piece p.source.length → IsPaid w p.object.account number charge →
        TakesAim w call extent_need
    appended_aim unflagged within paid =
        record { after = _; reply = _; row = appended_row 0 unflagged within paid; answered = refl }

    -- the charge is that of the world
    same_charge : use_amounts p.object.account (counted_in w named p.source) ≡ amounts_by charge
    same_charge = use_told w named p.source p.object.account

    -- the heap stands for the world with the extent
    appended_stands : (block : ℕ) →
        Pays p.object.account number (amounts_by charge) (tickets_of w.accounts p.object.account) (Took extent_need block ∷ [])
        (object_entries addr (object_row p.object) ++ counted_entries named (counted_in w named p.source))
        (object_entries addr (with_extent (object_row p.object) (extent_of block piece))
        ++ counted_entries named (attached p.object.account (counted_in w named p.source))) old new →
        HeapStandsFor new (with_taken_marked (after block) (Took extent_need block ∷ []))
    appended_stands block pays =
        let m = pair_things w addr named p block offset bytes in
        let acct = p.object.account in
        let own = object_entries addr (object_row p.object) in
        let longer = object_entries addr (with_extent (object_row p.object) (extent_of block piece)) in
        let source = counted_entries named (counted_in w named p.source) in
        let counted = counted_entries named (attached acct (counted_in w named p.source)) in
        let rest = section (thing_entries (ties_of w)) (pair_others w addr named p) in
        paid_stands m acct number charge (Took extent_need block ∷ []) s (pair_charge w addr named p block offset bytes) pays
        (both_alike w m acct (charged (tickets_of w.accounts acct) number (amounts_by charge)) (own ++ source) (longer ++ counted) rest
        (subst (λ (es : Entries). StandAlike (section (thing_entries (ties_of w)) w.things) es) (sym (append_assoc own source rest))
        (pair_before w addr named p))
        (subst (λ (es : Entries). StandAlike (section (thing_entries (ties_of (record w { things = m }))) m) es)
        (sym (append_assoc longer counted rest)) (pair_after w addr named p block offset bytes))
        pays.changes)

    -- it was appended
    pub pair_appended : AppendsSource addr number piece old new → Answered w call new [] replies.Done
    pair_appended a =
        let acct = p.object.account in
        let ts = tickets_of w.accounts acct in
        let source = counted_in w named p.source in
        let may = a.may.holds source (source_stands old w named p.source s served small p.named_there) in
        let pays : Pays acct number (amounts_by charge) ts (Took extent_need a.addr ∷ [])
        (object_entries addr (object_row p.object) ++ counted_entries named source)
        (object_entries addr (with_extent (object_row p.object) (extent_of a.addr piece)) ++ counted_entries named (attached acct source))
        old new =
        subst (λ amounts. Pays acct number amounts ts (Took extent_need a.addr ∷ [])
        (object_entries addr (object_row p.object) ++ counted_entries named source)
        (object_entries addr (with_extent (object_row p.object) (extent_of a.addr piece)) ++ counted_entries named (attached acct source))
        old new) same_charge (a.pays (object_row p.object) ts source (pair_kept old w s served small addr named p)) in
        let moves = Took extent_need a.addr ∷ [] in
        let is : new.moves ≡ moves =
        ap (λ (h : Heap). h.moves) pays.others ∙ ap (λ (ms : List Move). ms ++ moves) unmoved in
        moved_answered w (after a.addr) call moves new replies.Done
        (took_has w extent_need a.addr old new s served.whole.valid a.new_block.free a.new_block.nonzero a.new_block.small is)
        (appended_stands a.addr pays) refl
        (appended_row a.addr may.unflagged may.within
        (paid w acct number charge (sym (same_refusal acct s number charge) ∙ pays.allowed))) refl

    -- what the account says
    may_pay : refusal_in old p.object.account number (use_amounts p.object.account (counted_in w named p.source))
        (tickets_of w.accounts p.object.account) ≡ None → IsPaid w p.object.account number charge
    may_pay none =
        paid w p.object.account number charge
        (sym (same_refusal p.object.account s number charge)
        ∙ subst (λ (a : Amounts). refusal_in old p.object.account number a (tickets_of w.accounts p.object.account) ≡ None)
        same_charge none)

    -- a row that refuses the call
    abbrev refusing : Refusal → Outcome
    refusing refusal = record { moves = []; after = w; reply = replies.Refused refusal }

    refusing_row : (refusal : Refusal) → new ≡ old →
        object.AppendsSource w (refusing refusal) addr p.object number named p.source offset bytes →
        ByRow w (record { moves = new.moves; after = w; reply = replies.Refused refusal }) call
    refusing_row refusal same h =
        row_refused w call new refusal (ap (λ (h : Heap). h.moves) same ∙ unmoved) (on_pair (refusing refusal) h)

    flagged_row : p.source.flagged ≡ true → new ≡ old →
        ByRow w (record { moves = new.moves; after = w; reply = replies.Refused refusals.NotFound }) call
    flagged_row flagged same =
        refusing_row refusals.NotFound same (on_true _ (ranging (refusing refusals.NotFound)) p.source.flagged flagged (refl, refl, refl))

    range_row : (off count have : ℕ) → p.source.flagged ≡ false →
        RangeRefused piece p.source.length (stops.Refused (refusals.BadRange off count have)) → new ≡ old →
        ByRow w (record { moves = new.moves; after = w; reply = replies.Refused (refusals.BadRange off count have) }) call
    range_row off count have unflagged r same =
        let o = refusing (refusals.BadRange off count have) in
        refusing_row (refusals.BadRange off count have) same
        (on_false _ (ranging o) p.source.flagged unflagged
        (on_true _ (charging o) _ (out_of_range offset bytes p.source.length r.3)
        (refl, refl, λ i. replies.Refused (refusals.BadRange (r.0 i) (r.1 i) (r.2 i)))))

    unpaid_row : (refusal : Refusal) → p.source.flagged ≡ false → IsWithin piece p.source.length →
        refusal_in old p.object.account number (use_amounts p.object.account (counted_in w named p.source))
        (tickets_of w.accounts p.object.account) ≡ Some refusal → new ≡ old →
        ByRow w (record { moves = new.moves; after = w; reply = replies.Refused refusal }) call
    unpaid_row refusal unflagged within some same =
        row_refused w call new refusal (ap (λ (h : Heap). h.moves) same ∙ unmoved)
        (on_charge (refusing refusal) unflagged within
        (unpaid w p.object.account number charge refusal
        (sym (same_refusal p.object.account s number charge)
        ∙ subst
        (λ (a : Amounts). refusal_in old p.object.account number a (tickets_of w.accounts p.object.account) ≡ Some refusal)
        same_charge some)
        (refusing refusal) (taking (refusing refusal)) (refl, refl, refl)))

    -- where it wants a block, or log room, its row would answer it
    allowed_aim : SourceAllowed addr number piece old (counted_in w named p.source) → TakesAim w call extent_need
    allowed_aim a =
        appended_aim a.may.unflagged a.may.within
        (may_pay (a.allows.allows (object_row p.object) (tickets_of w.accounts p.object.account)
        (pair_kept old w s served small addr named p).beside.keeps))

  -- it was appended
  pub source_appended : AppendsSource addr number piece old new → Answered w call new [] replies.Done
  source_appended a = pair_appended (pair_at old w s served small addr named a.may.is_object a.may.is_source) a

  -- the pair that is there, and what holds of its source
  pair_of : {P : CountedSource → Type 0} → OfSource P addr named old → IsPair w addr named
  pair_of m = pair_at old w s served small addr named m.is_object m.is_source

  held : {P : CountedSource → Type 0} (m : OfSource P addr named old) → P (counted_in w named (pair_of m).source)
  held m =
      let p = pair_of m in
      m.holds (counted_in w named p.source) (source_stands old w named p.source s served small p.named_there)

  -- or it wasn't
  pub source_refused : (was : List ℕ) (refusal : Refusal) → SourceStops addr number piece old new (stops.Refused refusal) →
      IsRefused w call old new was was refusal
  source_refused was refusals.NotFound m =
      record { step = inl (flagged_row (pair_of m.0) (held m.0) m.1); left = λ reads. m.1; gave = refl }
  source_refused was (refusals.BadRange off count have) m =
      let h = held m.0 in
      record { step = inl (range_row (pair_of m.0) off count have h.0 h.1 m.1); left = λ reads. m.1; gave = refl }
  source_refused was (refusals.NoBlock missing) m =
      room_refused w call extent_need old new was (refusals.NoBlock missing) refl (allowed_aim (pair_of m.0) (held m.0)) unmoved m.1
  source_refused was (refusals.LogFull lines room) m =
      room_refused w call extent_need old new was (refusals.LogFull lines room) refl (allowed_aim (pair_of m.0) (held m.0)) unmoved m.1
  source_refused was refusal m =
      let p = pair_of m.0 in
      let h = held m.0 in
      let some = h.refuses.refuses (object_row p.object) (tickets_of w.accounts p.object.account)
      (pair_kept old w s served small addr named p).beside.keeps in
      record { step = inl (unpaid_row p refusal h.may.unflagged h.may.within some m.1); left = λ reads. m.1; gave = refl }
