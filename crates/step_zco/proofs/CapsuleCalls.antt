-- A header or trailer that is added, as a step.
use Rattle.std.proofs.Common.{◌≡◌, ◌∙◌, ◌+◌, ◌<◌, ◌⊎◌, ℕ, List, [], ◌∷◌, ◌++◌, Some, true, false, inl, inr, length, refl, sym, ap, subst, arith, if◌then◌else◌}
use Rattle.std.proofs.lemmas.List.{map-append}
use Rattle.std.proofs.lemmas.Bool.Decides.{nat_tests}
use Rattle.std.specs.FinMap as finite
use Rattle.step_things.proofs.ListLemmas.{IsSmall}
use Rattle.step_things.proofs.RowLemmas.{TakesAim, misnamed_refused, moved_answered, row_refused, took_has}
use Rattle.step_things.specs.Answering.{Answered, IsRefused, IsReady}
use Rattle.sdr_stands.specs.Rows.{capsule_row, object_row}
use Rattle.sdr_stands.specs.Standing.{HeapStandsFor, with_taken_marked}
use Rattle.sdr_stands.specs.Ties.{TieAlike}
use Rattle.sdr_base.specs.Entries.{Changes}
use Rattle.sdr_base.specs.Objects.{Heap}
use Rattle.sdr_base.specs.ZcoObjects.{CapsuleRow, ObjectRow, object_entries}
use Rattle.sdr_base.specs.declared.kind.Kind.TheVariants as kinds
use Rattle.sdr_base.specs.declared.kind.Space.{Space}
use Rattle.sdr_base.specs.declared.kind.Space.TheVariants as spaces
use Rattle.sdr_base.specs.declared.moves.Move.{Move}
use Rattle.sdr_base.specs.declared.moves.Move.TheVariants.{Took}
use Rattle.sdr_base.specs.declared.refusal.Refusal.{Refusal}
use Rattle.sdr_base.specs.declared.refusal.Refusal.TheVariants as refusals
use Rattle.sdr_base.specs.declared.stop.Stop.TheVariants as stops
use Rattle.law_steps.proofs.ChargeMoves.{MovesCharge, object_moves}
use Rattle.law_steps.proofs.ObjectRows.{header_charge, trailer_charge}
use Rattle.law_steps.proofs.SourceMoves.{nothing, sources_stay}
use Rattle.sdr_machine.proofs.WorkLemmas.{on_false, on_some, on_true}
use Rattle.sdr_model.specs.Accounts.{is_same_account, tickets_of}
use Rattle.sdr_model.specs.Amounts.{amounts_by, in_space}
use Rattle.sdr_model.specs.Charges.{capsule_bytes, capsule_charge, object_charge}
use Rattle.sdr_model.specs.Charging.{Charges}
use Rattle.sdr_model.specs.Limits.{is_no_capsule, longest_capsule}
use Rattle.sdr_model.specs.ObjectSteps as object
use Rattle.sdr_model.specs.ObjectSteps.{with_object}
use Rattle.sdr_model.specs.Reading.{is_reading}
use Rattle.sdr_model.specs.Rows.{ByRow}
use Rattle.sdr_model.specs.Steps.{Outcome, RefusedIf, Takes}
use Rattle.sdr_model.specs.Things.{Things, capsule_need}
use Rattle.sdr_model.specs.World.{World, thing_at}
use Rattle.sdr_model.specs.Zco.{as_object, naming, object_at}
use Rattle.sdr_model.specs.declared.answer.Reply.TheVariants as replies
use Rattle.sdr_model.specs.declared.call.Call.{Call}
use Rattle.sdr_model.specs.declared.things.Thing.TheVariants as things
use Rattle.sdr_model.specs.declared.zco.Capsule.{Capsule}
use Rattle.sdr_model.specs.declared.zco.ZcoObject.{ZcoObject}
use Rattle.zco_acct.specs.Charges.{charged}
use Rattle.zco_acct.specs.Kept.{queue_entries}
use Rattle.step_zco.proofs.ChargeLemmas.{IsPaid, paid, unpaid}
use Rattle.step_zco.proofs.MovingLemmas.{both_change, things_swap}
use Rattle.step_zco.proofs.ObjectLemmas.{no_object, object_is_at, object_with_queue}
use Rattle.step_zco.proofs.PayingLemmas.{paid_stands, paid_world, room_refused, same_refusal}
use Rattle.zco_obj.specs.Capsules.{AddsCapsule, CapsuleStops, IsCapsuleLength, with_header, with_trailer}
use Rattle.zco_obj.specs.Charging.{ObjectAllows, refusal_in}

-- an object with one header or trailer more has the row with one more, names what it named, and charges as much more
pub record AddsOne (more : ZcoObject → Capsule → ZcoObject) (more_row : ObjectRow → CapsuleRow → ObjectRow) : Type 0 where
  pub rows : (z : ZcoObject) (c : Capsule) → object_row (more z c) ≡ more_row (object_row z) (capsule_row c)
  pub account : (z : ZcoObject) (c : Capsule) → (more z c).account ≡ z.account
  pub extents : (z : ZcoObject) (c : Capsule) → (more z c).extents ≡ z.extents
  pub charge : (z : ZcoObject) (c : Capsule) (space : Space) →
      object_charge space (more z c) ≡ object_charge space z + capsule_charge space c

pub adds_header : AddsOne object.with_header with_header
adds_header = record {
  rows = λ z c. refl;
  account = λ z c. refl;
  extents = λ z c. refl;
  charge = λ z c space. header_charge z c space;
}

pub adds_trailer : AddsOne object.with_trailer with_trailer
adds_trailer = record {
  rows = λ z c. ap (λ (rows : List CapsuleRow). record (object_row z) { trailers = rows }) (map-append capsule_row z.trailers (c ∷ []));
  account = λ z c. refl;
  extents = λ z c. refl;
  charge = λ z c space. trailer_charge z c space;
}

-- a length that a header or trailer has, or hasn't
is_capsule : (count : ℕ) → IsCapsuleLength count → is_no_capsule count ≡ false
is_capsule count fits = let some = fits.some in let short = fits.short in grind (arith, nat_tests)

no_capsule : (count : ℕ) → (count ≡ 0) ⊎ (longest_capsule < count) → is_no_capsule count ≡ true
no_capsule count (inl none) = grind (arith, nat_tests)
no_capsule count (inr long) = grind (arith, nat_tests)

-- a call on a heap that stands for a world in which it is served
module _ (old new : Heap) (w : World) (unmoved : old.moves ≡ []) (s : HeapStandsFor old w) (served : IsReady w)
    (more : ZcoObject → Capsule → ZcoObject) (more_row : ObjectRow → CapsuleRow → ObjectRow) (adds : AddsOne more more_row)
    (call : Call) (changing : is_reading call ≡ false) (addr number : ℕ) (text : List ℕ)
    (row : (o : Outcome) → object.AddsCapsule w o addr number text more → ByRow w o call) where
  abbrev charge : Space → ℕ
  charge = in_space spaces.Heap (capsule_bytes (length text))

  abbrev need : ℕ
  need = capsule_need (length text)

  abbrev capsule : ℕ → Capsule
  capsule block = record { block = block; text = text }

  -- the things with the object that has one more
  abbrev things_with : ZcoObject → ℕ → Things
  things_with z block = finite.insert w.things addr (things.Object (more z (capsule block)))

  abbrev after : ZcoObject → ℕ → World
  after z block = paid_world w (things_with z block) z.account number charge

  abbrev outcome : ZcoObject → ℕ → Outcome
  outcome z block = record {
    moves = Took need block ∷ [];
    after = with_taken_marked (after z block) (Took need block ∷ []);
    reply = replies.Done;
  }

  -- where the object is there, where its length is one, and where its account is charged
  abbrev paying : Outcome → ZcoObject → World → Type 0
  paying o z used = Takes w o need (λ block. with_object used addr (more z (capsule block))) (λ block. replies.Done)

  abbrev charging : Outcome → ZcoObject → Type 0
  charging o z = Charges w o z.account number charge (paying o z)

  abbrev going : Outcome → ZcoObject → Type 0
  going o z = RefusedIf w o (is_no_capsule (length text)) (refusals.BadLength (length text) longest_capsule) (charging o z)

  added_row : (z : ZcoObject) (block : ℕ) → thing_at w addr ≡ Some (things.Object z) → IsCapsuleLength (length text) →
      IsPaid w z.account number charge → ByRow w (outcome z block) call
  added_row z block there fits p =
      row (outcome z block)
      (on_some _ (going (outcome z block)) (object_at w addr) z (ap as_object there)
      (on_false _ _ (is_no_capsule (length text)) (is_capsule (length text) fits)
      (p.goes (outcome z block) (paying (outcome z block) z) (
        refl,
        (
          sym (ap (λ (used : World). record (with_object used addr (more z (capsule block))) {
            marks = w.marks ++ block ∷ [];
            shown = [];
          }) p.used),
          refl,
        ),
      ))))

  added_aim : (z : ZcoObject) → thing_at w addr ≡ Some (things.Object z) → IsCapsuleLength (length text) →
      IsPaid w z.account number charge → TakesAim w call need
  added_aim z there fits p = record { after = _; reply = _; row = added_row z 0 there fits p; answered = refl }

  -- where the account refuses
  refused_row : (z : ZcoObject) (refusal : Refusal) → thing_at w addr ≡ Some (things.Object z) → IsCapsuleLength (length text) →
      refusal_in old z.account number (amounts_by charge) (tickets_of w.accounts z.account) ≡ Some refusal → new ≡ old →
      ByRow w (record { moves = new.moves; after = w; reply = replies.Refused refusal }) call
  refused_row z refusal there fits some same =
      let o : Outcome = record { moves = []; after = w; reply = replies.Refused refusal } in
      row_refused w call new refusal (ap (λ (h : Heap). h.moves) same ∙ unmoved)
      (row o
      (on_some _ (going o) (object_at w addr) z (ap as_object there)
      (on_false _ _ (is_no_capsule (length text)) (is_capsule (length text) fits)
      (unpaid w z.account number charge refusal (sym (same_refusal z.account s number charge) ∙ some) o (paying o z)
      (refl, refl, refl)))))

  -- where it allows the charge
  may_pay : (z : ZcoObject) → thing_at w addr ≡ Some (things.Object z) → IsSmall old →
      ObjectAllows addr number (λ acct. amounts_by charge) old → IsPaid w z.account number charge
  may_pay z there small allows =
      paid w z.account number charge
      (sym (same_refusal z.account s number charge)
      ∙ allows.allows (object_row z) (tickets_of w.accounts z.account) (object_with_queue old w addr z s served small there))

  -- the object names what it named
  alike : (z : ZcoObject) (block : ℕ) → TieAlike (Some (things.Object z)) (Some (things.Object (more z (capsule block))))
  alike z block = record {
    raws = λ raw. refl;
    sources = λ source acct.
        λ i. if is_same_account acct (sym (adds.account z (capsule block)) i)
        then naming source (sym (adds.extents z (capsule block)) i) else 0;
  }

  -- it was added
  pub capsule_added : IsSmall old → AddsCapsule more_row addr number text old new → Answered w call new [] replies.Done
  capsule_added small c =
      let at = object_is_at old w addr s served c.kind in
      let z = at.object in
      let block = c.addr in
      let ts = tickets_of w.accounts z.account in
      let pays = c.pays (object_row z) ts (object_with_queue old w addr z s served small at.there) in
      let p = paid w z.account number charge (sym (same_refusal z.account s number charge) ∙ pays.allowed) in
      let moves = Took need block ∷ [] in
      let charges : MovesCharge w.things (things_with z block) z.account charge nothing =
      object_moves w.things addr z.account (Some z) (Some (more z (capsule block))) charge nothing at.there refl
      (adds.account z (capsule block))
      (sources_stay w.things z.account (Some z) (Some (more z (capsule block))) (λ q. ap (naming q) (adds.extents z (capsule block))))
      (λ space. let more = adds.charge z (capsule block) space in omega (arith, more)) in
      let is : new.moves ≡ moves =
      ap (λ (h : Heap). h.moves) pays.others ∙ ap (λ (ms : List Move). ms ++ moves) unmoved in
      moved_answered w (after z block) call moves new replies.Done
      (took_has w need block old new s served.whole.valid c.new_block.free c.new_block.nonzero c.new_block.small is)
      (paid_stands (things_with z block) z.account number charge moves s charges pays
      (both_change w (things_with z block) z.account (charged ts number (amounts_by charge))
      (things_swap w addr (Some (things.Object z)) (Some (things.Object (more z (capsule block)))) at.there (alike z block))
      (subst (λ (r : ObjectRow). Changes old.blocks new.blocks
      (object_entries addr (object_row z) ++ queue_entries z.account ts)
      (object_entries addr r ++ queue_entries z.account (charged ts number (amounts_by charge))))
      (sym (adds.rows z (capsule block))) pays.changes)))
      refl (added_row z block at.there c.fits p) refl

  -- or it wasn't
  pub capsule_refused : (was : List ℕ) (refusal : Refusal) → IsSmall old →
      CapsuleStops addr number text old new (stops.Refused refusal) → IsRefused w call old new was was refusal
  capsule_refused was (refusals.BadAddress bad) small m =
      misnamed_refused w call addr kinds.Object (object_at w addr) going old new was row
      (no_object old w addr s served.whole.valid) unmoved m.1 s served.whole.valid (refusals.BadAddress bad) m.0
  capsule_refused was (refusals.WrongKind bad kind) small m =
      misnamed_refused w call addr kinds.Object (object_at w addr) going old new was row
      (no_object old w addr s served.whole.valid) unmoved m.1 s served.whole.valid (refusals.WrongKind bad kind) m.0
  capsule_refused was (refusals.BadLength bad most) small m =
      let at = object_is_at old w addr s served m.0 in
      let o : Outcome = record { moves = []; after = w; reply = replies.Refused (refusals.BadLength bad most) } in
      record {
        step =
            inl (row_refused w call new (refusals.BadLength bad most) (ap (λ (h : Heap). h.moves) m.2 ∙ unmoved)
            (row o
            (on_some _ (going o) (object_at w addr) at.object (ap as_object at.there)
            (on_true _ _ (is_no_capsule (length text)) (no_capsule (length text) m.1.2)
            (refl, refl, λ i. replies.Refused (refusals.BadLength (m.1.0 i) (m.1.1 i)))))));
        left = λ reads. m.2;
        gave = refl;
      }
  capsule_refused was (refusals.NoBlock missing) small m =
      let at = object_is_at old w addr s served m.0.kind in
      room_refused w call need old new was (refusals.NoBlock missing) changing
      (added_aim at.object at.there m.0.fits (may_pay at.object at.there small m.0.allows)) unmoved m.1
  capsule_refused was (refusals.LogFull lines room) small m =
      let at = object_is_at old w addr s served m.0.kind in
      room_refused w call need old new was (refusals.LogFull lines room) changing
      (added_aim at.object at.there m.0.fits (may_pay at.object at.there small m.0.allows)) unmoved m.1
  capsule_refused was refusal small m =
      let at = object_is_at old w addr s served m.0.kind in
      let some = m.0.refuses.refuses (object_row at.object) (tickets_of w.accounts at.object.account)
      (object_with_queue old w addr at.object s served small at.there) in
      record { step = inl (refused_row at.object refusal at.there m.0.fits some m.1); left = λ reads. m.1; gave = refl }
