-- A part of a raw object that an object gets, which a new source takes over, as a step.
use Rattle.std.proofs.Common.{◌≡◌, ◌≢◌, ◌∙◌, ℕ, List, [], ◌∷◌, ◌++◌, Some, None, inl, length, refl, sym, ap, subst, append_assoc}
use Rattle.step_things.proofs.ListLemmas.{IsSmall}
use Rattle.step_things.proofs.RawLemmas.{no_raw}
use Rattle.step_things.proofs.RowLemmas.{misnamed_refused, moved_answered, row_refused}
use Rattle.step_things.specs.Answering.{Answered, IsRefused, IsReady}
use Rattle.sdr_stands.proofs.ChangeLemmas.{apart, nothing_at}
use Rattle.sdr_stands.specs.Rows.{object_row}
use Rattle.sdr_stands.specs.Standing.{HeapStandsFor, other_entries, thing_entries, with_taken_marked}
use Rattle.sdr_stands.specs.Ties.{or_null, ties_of}
use Rattle.sdr_base.proofs.StandingLemmas.{found}
use Rattle.sdr_base.specs.Entries.{Entries, BlocksAre}
use Rattle.sdr_base.specs.Objects.{Heap, Misses}
use Rattle.sdr_base.specs.Raws.{raw_block, raw_entries}
use Rattle.sdr_base.specs.Section.{section}
use Rattle.sdr_base.specs.ZcoObjects.{object_entries}
use Rattle.sdr_base.specs.declared.kind.Kind.TheVariants as kinds
use Rattle.sdr_base.specs.declared.kind.Space.{Space}
use Rattle.sdr_base.specs.declared.kind.Space.TheVariants as spaces
use Rattle.sdr_base.specs.declared.moves.Move.{Move}
use Rattle.sdr_base.specs.declared.moves.Move.TheVariants.{Took}
use Rattle.sdr_base.specs.declared.refusal.Refusal.{Refusal}
use Rattle.sdr_base.specs.declared.refusal.Refusal.TheVariants as refusals
use Rattle.sdr_base.specs.declared.stop.Stop.TheVariants as stops
use Rattle.sdr_machine.proofs.WorkLemmas.{on_false, on_none, on_some, on_true}
use Rattle.sdr_model.specs.Accounts.{tickets_of}
use Rattle.sdr_model.specs.Amounts.{amounts_by}
use Rattle.sdr_model.specs.Charges.{bytes_charge}
use Rattle.sdr_model.specs.Charging.{Charges}
use Rattle.sdr_model.specs.ObjectSteps as object
use Rattle.sdr_model.specs.ObjectSteps.{raw_append_moves, with_object}
use Rattle.sdr_model.specs.Rows.{ByRow}
use Rattle.sdr_model.specs.Steps.{DoesWith, On, Outcome, with_thing}
use Rattle.sdr_model.specs.Things.{extent_need, source_need}
use Rattle.sdr_model.specs.World.{World, as_raw, thing_at}
use Rattle.sdr_model.specs.Zco.{as_object, as_source, object_at, source_at, source_naming}
use Rattle.sdr_model.specs.declared.answer.Reply.TheVariants as replies
use Rattle.sdr_model.specs.declared.call.Call.{Call}
use Rattle.sdr_model.specs.declared.call.Call.TheVariants as calls
use Rattle.sdr_model.specs.declared.things.Thing.TheVariants as things
use Rattle.sdr_model.specs.declared.zco.ZcoObject.{ZcoObject}
use Rattle.sdr_model.specs.declared.zco.ZcoSource.{ZcoSource}
use Rattle.zco_acct.specs.Charges.{charged}
use Rattle.step_zco.proofs.AlikeLemmas.{StandAlike}
use Rattle.step_zco.proofs.AppendLemmas.{AppendsNamed, in_range, last_apart, out_of_range, took_two}
use Rattle.step_zco.proofs.AppendRaws.{IsWithRawAt, raw_after, raw_at, raw_before, raw_charge, raw_kept, raw_object, raw_others, raw_things, taking}
use Rattle.step_zco.proofs.ChargeLemmas.{IsPaid, paid, unpaid}
use Rattle.step_zco.proofs.MovingLemmas.{both_alike}
use Rattle.step_zco.proofs.ObjectLemmas.{object_is_at}
use Rattle.step_zco.proofs.PayingLemmas.{TakesTwo, paid_stands, paid_world, rooms_refused, same_refusal}
use Rattle.zco_obj.specs.Amounts.{extent_amounts}
use Rattle.zco_obj.specs.AppendStops.{NamesNoRaw, RangeRefused, RawAllowed, RawPieceStops}
use Rattle.zco_obj.specs.Appending.{AppendsRaw, HasPiece, IsWithin, OfRaw, taken_piece, taking_over}
use Rattle.zco_obj.specs.Beside.{KeepsWithRaw}
use Rattle.zco_obj.specs.Charging.{Pays, refusal_in}
use Rattle.zco_obj.specs.Extents.{extent_of, with_extent}
use Rattle.zco_obj.specs.declared.extent.ExtentPiece.{ExtentPiece}
use Rattle.zco_ref.specs.Counting.{attached}
use Rattle.zco_ref.specs.Kept.{KeepsRaw, counted_entries}
use Rattle.step_zco.proofs.NamingCalls.{unnamed_at, used_as}
use Rattle.step_zco.proofs.SourceLemmas.{no_source}

-- a call on a heap that stands for a world in which it is served
module _ (old new : Heap) (w : World) (unmoved : old.moves ≡ []) (s : HeapStandsFor old w) (served : IsReady w) (small : IsSmall old)
    (addr number raw offset bytes : ℕ) where
  abbrev call : Call
  call = calls.AppendExtent addr number raw offset bytes

  abbrev piece : ExtentPiece
  piece = record { of = raw; offset = offset; bytes = bytes }

  abbrev moves : ℕ → ℕ → List Move
  moves source block = Took (source_need 0) source ∷ Took extent_need block ∷ []

  -- a row that refuses the call
  abbrev refusing : Refusal → Outcome
  refusing refusal = record { moves = []; after = w; reply = replies.Refused refusal }

  -- where the object is there, and no source is
  on_object : (o : Outcome) (z : ZcoObject) → thing_at w addr ≡ Some (things.Object z) → source_at w raw ≡ None →
      On w o raw (as_raw (thing_at w raw)) (λ text. object.AppendsRaw w o addr z number raw text offset bytes) → ByRow w o call
  on_object o z there none h =
      on_some _ (AppendsNamed w o addr number raw offset bytes) (object_at w addr) z (ap as_object there)
      (on_none _ (λ (x : ZcoSource). object.AppendsSource w o addr z number raw x offset bytes) (source_at w raw) none h)

  -- where the raw object is
  module _ (p : IsWithRawAt w addr raw) where
    -- the whole raw object is charged
    abbrev charge : Space → ℕ
    charge = bytes_charge spaces.Heap (length p.text)

    abbrev after : ℕ → ℕ → World
    after source block = paid_world w (raw_things w addr raw p source block offset bytes) p.object.account number charge

    abbrev outcome : ℕ → ℕ → Outcome
    outcome source block = record {
      moves = moves source block;
      after = with_taken_marked (after source block) (moves source block);
      reply = replies.Done;
    }

    abbrev taking_both : Outcome → World → Type 0
    taking_both o used =
        DoesWith w o raw_append_moves
        (λ at. with_object (with_thing used (at 0) (things.Source (taking w addr raw p (at 0) (at 1) offset bytes))) addr
        (raw_object w addr raw p (at 0) (at 1) offset bytes))
        (λ at. replies.Done)

    abbrev charging : Outcome → Type 0
    charging o = Charges w o p.object.account number charge (taking_both o)

    abbrev ranging : Outcome → Type 0
    ranging o = object.InRange w o offset bytes (length p.text) (charging o)

    on_raw : (o : Outcome) → object.AppendsRaw w o addr p.object number raw p.text offset bytes → ByRow w o call
    on_raw o h =
        on_object o p.object p.there (ap as_source p.raw_there)
        (on_some _ (λ (text : List ℕ). object.AppendsRaw w o addr p.object number raw text offset bytes) (as_raw (thing_at w raw)) p.text
        (ap as_raw p.raw_there) h)

    on_range : (o : Outcome) → source_naming w raw ≡ None → ranging o → ByRow w o call
    on_range o unnamed h = on_raw o (on_none (ranging o) _ (source_naming w raw) unnamed h)

    on_charge : (o : Outcome) → source_naming w raw ≡ None → IsWithin piece (length p.text) → charging o →
        ByRow w o call
    on_charge o unnamed within h =
        on_range o unnamed (on_false _ (charging o) _ (in_range offset bytes (length p.text) within.some within.within) h)

    appended_row : (source block : ℕ) → source_naming w raw ≡ None → IsWithin piece (length p.text) →
        IsPaid w p.object.account number charge → ByRow w (outcome source block) call
    appended_row source block unnamed within paid =
        on_charge (outcome source block) unnamed within
        (paid.goes (outcome source block) (taking_both (outcome source block)) (
          refl,
          sym (ap (λ (used : World). record (with_object
              (with_thing used source (things.Source (taking w addr raw p source block offset bytes))) addr
              (raw_object w addr raw p source block offset bytes)) {
                marks = w.marks ++ source ∷ block ∷ [];
                shown = [];
              }) paid.used),
          refl,
        ))

    -- the word of the raw object is kept
    kept_word : KeepsRaw (old.blocks raw) (or_null (source_naming w raw)) p.text
    kept_word =
        let a = apart raw (things.Raw p.text) s p.raw_there in
        record {
          block = found old.blocks raw (raw_block (or_null (source_naming w raw)) p.text) [] a.rest a.stands;
          small = (raw_kept old w s served small addr raw p).small;
        }

    -- where no source names it
    module _ (unnamed : source_naming w raw ≡ None) where
      kept_unnamed : KeepsRaw (old.blocks raw) 0 p.text
      kept_unnamed = subst (λ (n : ℕ). KeepsRaw (old.blocks raw) n p.text) (ap or_null unnamed) kept_word

      both_kept : KeepsWithRaw old addr (object_row p.object) (tickets_of w.accounts p.object.account) raw 0 p.text
      both_kept =
          subst (λ (n : ℕ). KeepsWithRaw old addr (object_row p.object) (tickets_of w.accounts p.object.account) raw n p.text)
          (ap or_null unnamed) (raw_kept old w s served small addr raw p)

      -- the heap stands for the world with the source and the extent
      appended_stands : (source block : ℕ) → thing_at w source ≡ None →
          Pays p.object.account number (extent_amounts spaces.Heap (length p.text)) (tickets_of w.accounts p.object.account) (moves source block)
          (object_entries addr (object_row p.object) ++ raw_entries raw 0 p.text)
          (object_entries addr (with_extent (object_row p.object) (extent_of block (taken_piece source piece)))
          ++ (counted_entries source (attached p.object.account (taking_over raw p.text)) ++ raw_entries raw source p.text)) old new →
          HeapStandsFor new (with_taken_marked (after source block) (moves source block))
      appended_stands source block free pays =
          let m = raw_things w addr raw p source block offset bytes in
          let acct = p.object.account in
          let own = object_entries addr (object_row p.object) in
          let longer = object_entries addr (with_extent (object_row p.object) (extent_of block (taken_piece source piece))) in
          let counted = counted_entries source (attached acct (taking_over raw p.text)) in
          let rest = section (thing_entries (ties_of w)) (raw_others w addr raw p) in
          let was : StandAlike (section (thing_entries (ties_of w)) w.things) ((own ++ raw_entries raw 0 p.text) ++ rest) =
          subst (λ (es : Entries). StandAlike (section (thing_entries (ties_of w)) w.things) es)
          (sym (append_assoc own (raw_entries raw 0 p.text) rest))
          (subst (λ (n : ℕ). StandAlike (section (thing_entries (ties_of w)) w.things) (own ++ (raw_entries raw n p.text ++ rest)))
          (ap or_null unnamed) (raw_before w addr raw p)) in
          let now : StandAlike (section (thing_entries (ties_of (record w { things = m }))) m)
          ((longer ++ (counted ++ raw_entries raw source p.text)) ++ rest) =
          subst (λ (es : Entries). StandAlike (section (thing_entries (ties_of (record w { things = m }))) m) es)
          (sym (append_assoc longer (counted ++ raw_entries raw source p.text) rest))
          (raw_after w addr raw p source block offset bytes unnamed served.whole.fits free) in
          paid_stands m acct number charge (moves source block) s
          (raw_charge w addr raw p source block offset bytes unnamed served.whole.fits free) pays
          (both_alike w m acct (charged (tickets_of w.accounts acct) number (amounts_by charge)) (own ++ raw_entries raw 0 p.text)
          (longer ++ (counted ++ raw_entries raw source p.text)) rest was now pays.changes)

      -- the two blocks are at two addresses
      both_apart : (source block : ℕ) → thing_at w source ≡ None →
          HeapStandsFor new (with_taken_marked (after source block) (moves source block)) → block ≢ source
      both_apart source block free stands =
          let m = raw_things w addr raw p source block offset bytes in
          let row = object_row p.object in
          let e = extent_of block (taken_piece source piece) in
          let counted = attached p.object.account (taking_over raw p.text) in
          let rest = raw_entries raw source p.text ++ section (thing_entries (ties_of w)) (raw_others w addr raw p) in
          let others = other_entries (with_taken_marked (after source block) (moves source block)) in
          last_apart addr row e source counted (rest ++ others)
          (subst (λ (es : Entries). BlocksAre new.blocks es)
          (append_assoc (object_entries addr (with_extent row e)) (counted_entries source counted ++ rest) others)
          ((raw_after w addr raw p source block offset bytes unnamed served.whole.fits free).forth new.blocks others stands.blocks))

      -- it was appended
      pub pair_appended : (a : AppendsRaw addr number piece old new) → HasPiece piece p.text → Answered w call new [] replies.Done
      pair_appended a has =
          let acct = p.object.account in
          let free = nothing_at a.source s a.new_source.free in
          let pays = a.pays (object_row p.object) (tickets_of w.accounts acct) p.text both_kept in
          let stands = appended_stands a.source a.addr free pays in
          let is : new.moves ≡ moves a.source a.addr =
          ap (λ (h : Heap). h.moves) pays.others ∙ ap (λ (ms : List Move). ms ++ moves a.source a.addr) unmoved in
          moved_answered w (after a.source a.addr) call (moves a.source a.addr) new replies.Done
          (took_two w (source_need 0) extent_need a.source a.addr old new s served.whole.valid a.new_source a.new_block
          (both_apart a.source a.addr free stands) is)
          stands refl
          (appended_row a.source a.addr unnamed has
          (paid w acct number charge (sym (same_refusal acct s number charge) ∙ pays.allowed))) refl

      -- where it wants a block, or log room, its row would answer it
      allowed_aim : RawAllowed addr number piece old p.text → TakesTwo w call (source_need 0) extent_need
      allowed_aim a =
          let acct = p.object.account in
          let none = a.allows.allows (object_row p.object) (tickets_of w.accounts acct) both_kept.beside.keeps in
          record {
            after = _;
            reply = replies.Done;
            row = λ source block.
                appended_row source block unnamed a.has
                (paid w acct number charge (sym (same_refusal acct s number charge) ∙ none));
            answered = refl;
          }

    range_row : (off count have : ℕ) → source_naming w raw ≡ None →
        RangeRefused piece (length p.text) (stops.Refused (refusals.BadRange off count have)) → new ≡ old →
        ByRow w (record { moves = new.moves; after = w; reply = replies.Refused (refusals.BadRange off count have) }) call
    range_row off count have unnamed r same =
        let refusal = refusals.BadRange off count have in
        row_refused w call new refusal (ap (λ (h : Heap). h.moves) same ∙ unmoved)
        (on_range (refusing refusal) unnamed
        (on_true _ (charging (refusing refusal)) _ (out_of_range offset bytes (length p.text) r.3)
        (refl, refl, λ i. replies.Refused (refusals.BadRange (r.0 i) (r.1 i) (r.2 i)))))

    unpaid_row : (refusal : Refusal) → source_naming w raw ≡ None → IsWithin piece (length p.text) →
        refusal_in old p.object.account number (amounts_by charge) (tickets_of w.accounts p.object.account) ≡ Some refusal →
        new ≡ old →
        ByRow w (record { moves = new.moves; after = w; reply = replies.Refused refusal }) call
    unpaid_row refusal unnamed within some same =
        let o = refusing refusal in
        row_refused w call new refusal (ap (λ (h : Heap). h.moves) same ∙ unmoved)
        (on_charge o unnamed within
        (unpaid w p.object.account number charge refusal (sym (same_refusal p.object.account s number charge) ∙ some) o (taking_both o)
        (refl, refl, refl)))

  -- the raw object that is there, that no source names it, and what holds of its bytes
  module _ {P : List ℕ → Type 0} (m : OfRaw P addr raw old) where
    abbrev there : IsWithRawAt w addr raw
    there = raw_at old w s served small addr raw m.is_object m.unnamed.kind

    none_on : source_naming w raw ≡ None
    none_on =
        unnamed_at old new w unmoved s served raw (m.unnamed.none (or_null (source_naming w raw)) there.text (kept_word there))

    held : P there.text
    held = m.holds there.text (kept_unnamed there none_on)

  -- it was appended
  pub raw_appended : AppendsRaw addr number piece old new → Answered w call new [] replies.Done
  raw_appended a = pair_appended (there a.may) (none_on a.may) a (held a.may)

  -- the address is that of no raw object
  misnamed : (was : List ℕ) (refusal : Refusal) → NamesNoRaw addr piece old refusal →
      Misses (old.blocks raw) raw kinds.Raw (stops.Refused refusal) → new ≡ old → IsRefused w call old new was was refusal
  misnamed was refusal m misses same =
      let z = object_is_at old w addr s served m.is_object in
      let none = no_source old w raw s served.whole.valid m.other in
      misnamed_refused w call raw kinds.Raw (as_raw (thing_at w raw))
      (λ o text. object.AppendsRaw w o addr z.object number raw text offset bytes) old new was
      (λ o h. on_object o z.object z.there none h) (no_raw old w raw s served.whole.valid) unmoved same s served.whole.valid refusal misses

  -- or it wasn't
  pub raw_refused : (was : List ℕ) (refusal : Refusal) → RawPieceStops addr number piece old new (stops.Refused refusal) →
      IsRefused w call old new was was refusal
  raw_refused was (refusals.BadAddress bad) m = misnamed was (refusals.BadAddress bad) m.0 m.0.stops m.1
  raw_refused was (refusals.WrongKind bad kind) m = misnamed was (refusals.WrongKind bad kind) m.0 m.0.stops m.1
  raw_refused was (refusals.InUse bad count) m =
      let p = raw_at old w s served small addr raw m.0.is_object m.0.stops.1.kind in
      let u = used_as old new w unmoved s served raw count small m.0.stops.1 in
      record {
        step =
            inl (row_refused w call new (refusals.InUse bad count) (ap (λ (h : Heap). h.moves) m.1 ∙ unmoved)
            (on_raw p (refusing (refusals.InUse bad count))
            (on_some (ranging p (refusing (refusals.InUse bad count))) _ (source_naming w raw) u.0 u.1
            (refl, refl, λ i. replies.Refused (refusals.InUse (m.0.stops.0 i) (u.2 i))))));
        left = λ reads. m.1;
        gave = refl;
      }
  raw_refused was (refusals.BadRange off count have) m =
      record { step = inl (range_row (there m.0) off count have (none_on m.0) (held m.0) m.1); left = λ reads. m.1; gave = refl }
  raw_refused was (refusals.NoBlock missing) m =
      rooms_refused w call (source_need 0) extent_need old new was (refusals.NoBlock missing) refl
      (allowed_aim (there m.0) (none_on m.0) (held m.0)) unmoved m.1
  raw_refused was (refusals.LogFull lines room) m =
      rooms_refused w call (source_need 0) extent_need old new was (refusals.LogFull lines room) refl
      (allowed_aim (there m.0) (none_on m.0) (held m.0)) unmoved m.1
  raw_refused was refusal m =
      let p = there m.0 in
      let h = held m.0 in
      let some = h.refuses.refuses (object_row p.object) (tickets_of w.accounts p.object.account)
      (both_kept p (none_on m.0)).beside.keeps in
      record { step = inl (unpaid_row p refusal (none_on m.0) h.has some m.1); left = λ reads. m.1; gave = refl }
