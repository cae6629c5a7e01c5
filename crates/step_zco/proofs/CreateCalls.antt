-- An object that is made, as a step.
use Rattle.std.proofs.Common.{◌≡◌, ◌∙◌, ℕ, List, [], ◌∷◌, ◌++◌, Some, None, Bool, true, false, cond, inl, refl, sym, ap, arith}
use Rattle.std.specs.FinMap as finite
use Rattle.step_things.proofs.RowLemmas.{TakesAim, moved_answered, row_refused, took_has}
use Rattle.step_things.specs.Answering.{Answered, IsRefused, IsReady}
use Rattle.sdr_stands.proofs.ChangeLemmas.{nothing_at}
use Rattle.sdr_stands.specs.Standing.{HeapStandsFor, with_taken_marked}
use Rattle.sdr_stands.specs.Ties.{TieAlike}
use Rattle.sdr_base.specs.Objects.{Heap}
use Rattle.sdr_base.specs.declared.account.Acct.{Acct}
use Rattle.sdr_base.specs.declared.kind.Space.{Space}
use Rattle.sdr_base.specs.declared.kind.Space.TheVariants as spaces
use Rattle.sdr_base.specs.declared.moves.Move.{Move}
use Rattle.sdr_base.specs.declared.moves.Move.TheVariants.{Took}
use Rattle.sdr_base.specs.declared.refusal.Refusal.{Refusal}
use Rattle.sdr_base.specs.declared.refusal.Refusal.TheVariants as refusals
use Rattle.sdr_base.specs.declared.stop.Stop.TheVariants as stops
use Rattle.law_steps.proofs.ChargeMoves.{MovesCharge, object_moves}
use Rattle.law_steps.proofs.SourceMoves.{nothing, sources_stay}
use Rattle.sdr_model.specs.Accounts.{is_same_account, tickets_of}
use Rattle.sdr_model.specs.Amounts.{amounts_by, in_space}
use Rattle.sdr_model.specs.Charges.{object_bytes}
use Rattle.sdr_model.specs.ObjectSteps.{with_object}
use Rattle.sdr_model.specs.Rows.{ByRow}
use Rattle.sdr_model.specs.Steps.{Outcome, Takes}
use Rattle.sdr_model.specs.Things.{Things, object_need}
use Rattle.sdr_model.specs.World.{World}
use Rattle.sdr_model.specs.Zco.{empty_object}
use Rattle.sdr_model.specs.declared.answer.Reply.TheVariants as replies
use Rattle.sdr_model.specs.declared.call.Call.TheVariants as calls
use Rattle.sdr_model.specs.declared.things.Thing.TheVariants as things
use Rattle.zco_acct.specs.Charges.{charged}
use Rattle.step_zco.proofs.ChargeLemmas.{IsPaid, paid, unpaid}
use Rattle.step_zco.proofs.HeapAmounts.{in_heap-none}
use Rattle.step_zco.proofs.MovingLemmas.{both_change, things_swap}
use Rattle.step_zco.proofs.PayingLemmas.{paid_stands, paid_world, room_refused, same_refusal}
use Rattle.step_zco.proofs.ComingLemmas.{tickets_kept}
use Rattle.step_zco.proofs.QueueLemmas.{queue_kept}
use Rattle.zco_obj.specs.Charging.{refusal_in}
use Rattle.zco_obj.specs.Making.{CreatesObject, CreateStops}

-- an object with nothing in it names no source
names_nothing : (acct : Acct) → TieAlike None (Some (things.Object (empty_object acct)))
names_nothing acct = record { raws = λ raw. refl; sources = λ source b. by (is_same_account b acct) }
  where
    by : (t : Bool) → ◌≡◌ {A = ℕ} 0 (cond t 0 0)
    by true = refl
    by false = refl

-- a call on a heap that stands for a world in which it is served
module _ (old new : Heap) (w : World) (unmoved : old.moves ≡ []) (s : HeapStandsFor old w) (served : IsReady w) (acct : Acct)
    (number : ℕ) where
  abbrev charge : Space → ℕ
  charge = in_space spaces.Heap object_bytes

  -- the things with the object at an address
  abbrev things_with : ℕ → Things
  things_with addr = finite.insert w.things addr (things.Object (empty_object acct))

  abbrev outcome : ℕ → Outcome
  outcome addr = record {
    moves = Took object_need addr ∷ [];
    after = with_taken_marked (paid_world w (things_with addr) acct number charge) (Took object_need addr ∷ []);
    reply = replies.At addr;
  }

  -- where the account is charged
  abbrev goes_on : Outcome → World → Type 0
  goes_on o used = Takes w o object_need (λ addr. with_object used addr (empty_object acct)) (λ addr. replies.At addr)

  create_row : (addr : ℕ) → IsPaid w acct number charge → ByRow w (outcome addr) (calls.Create acct number)
  create_row addr p =
      p.goes (outcome addr) (goes_on (outcome addr)) (
        refl,
        (
          sym (ap (λ (used : World). record (with_object used addr (empty_object acct)) {
            marks = w.marks ++ addr ∷ [];
            shown = [];
          }) p.used),
          refl,
        ),
      )

  create_aim : IsPaid w acct number charge → TakesAim w (calls.Create acct number) object_need
  create_aim p = record { after = _; reply = _; row = create_row 0 p; answered = refl }

  -- where the account refuses
  refused_row : (refusal : Refusal) →
      refusal_in old acct number (amounts_by charge) (tickets_of w.accounts acct) ≡ Some refusal → new ≡ old →
      ByRow w (record { moves = new.moves; after = w; reply = replies.Refused refusal }) (calls.Create acct number)
  refused_row refusal some same =
      let o : Outcome = record { moves = []; after = w; reply = replies.Refused refusal } in
      row_refused w (calls.Create acct number) new refusal (ap (λ (h : Heap). h.moves) same ∙ unmoved)
      (unpaid w acct number charge refusal (sym (same_refusal acct s number charge) ∙ some) o (goes_on o) (refl, refl, refl))

  -- it was made
  pub created : (addr : ℕ) → CreatesObject acct number addr old new →
      Answered w (calls.Create acct number) new [] (replies.At addr)
  created addr c =
      let ts = tickets_of w.accounts acct in
      let k = queue_kept acct s (tickets_kept served) in
      let pays = c.pays ts k in
      let none = nothing_at addr s c.new_block.free in
      let p = paid w acct number charge (sym (same_refusal acct s number charge) ∙ pays.allowed) in
      let moves = Took object_need addr ∷ [] in
      let charges : MovesCharge w.things (things_with addr) acct charge nothing =
      object_moves w.things addr acct None (Some (empty_object acct)) charge nothing none tt refl
      (sources_stay w.things acct None (Some (empty_object acct)) (λ q. refl))
      (λ space. let no_extents = in_heap-none space in omega (arith, no_extents)) in
      let is : new.moves ≡ moves =
      ap (λ (h : Heap). h.moves) pays.others ∙ ap (λ (ms : List Move). ms ++ moves) unmoved in
      moved_answered w (paid_world w (things_with addr) acct number charge) (calls.Create acct number) moves new (replies.At addr)
      (took_has w object_need addr old new s served.whole.valid c.new_block.free c.new_block.nonzero c.new_block.small is)
      (paid_stands (things_with addr) acct number charge moves s charges pays
      (both_change w (things_with addr) acct (charged ts number (amounts_by charge))
      (things_swap w addr None (Some (things.Object (empty_object acct))) none (names_nothing acct)) pays.changes))
      refl (create_row addr p) refl

  -- or it wasn't
  pub uncreated : (was : List ℕ) (refusal : Refusal) → CreateStops acct number old new (stops.Refused refusal) →
      IsRefused w (calls.Create acct number) old new was was refusal
  uncreated was (refusals.NoBlock missing) m =
      room_refused w (calls.Create acct number) object_need old new was (refusals.NoBlock missing) refl
      (create_aim (paid w acct number charge (sym (same_refusal acct s number charge)
      ∙ m.0.none (tickets_of w.accounts acct) (queue_kept acct s (tickets_kept served))))) unmoved m.1
  uncreated was (refusals.LogFull lines room) m =
      room_refused w (calls.Create acct number) object_need old new was (refusals.LogFull lines room) refl
      (create_aim (paid w acct number charge (sym (same_refusal acct s number charge)
      ∙ m.0.none (tickets_of w.accounts acct) (queue_kept acct s (tickets_kept served))))) unmoved m.1
  uncreated was refusal m = record {
    step = inl (refused_row refusal (m.0.some (tickets_of w.accounts acct) (queue_kept acct s (tickets_kept served))) m.1);
    left = λ reads. m.1;
    gave = refl;
  }
