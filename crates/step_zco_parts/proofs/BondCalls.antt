-- An object that is bonded, as a step, or why it isn't.
use Rattle.std.proofs.Common.{◌≡◌, ◌∙◌, ◌++◌, ℕ, List, [], ◌∷◌, true≢false, inl, inr, length, refl, sym, ap, subst, arith, append_assoc}
use Rattle.std.proofs.lemmas.List.{length-map}
use Rattle.std.proofs.lemmas.List.Elements.{All-append}
use Rattle.step_things.proofs.KindLemmas.{none_of}
use Rattle.step_things.proofs.ListLemmas.{IsSmall}
use Rattle.step_things.proofs.RowLemmas.{HasMoves, misnamed_refused, moved_answered, row_refused}
use Rattle.step_things.specs.Answering.{Answered, IsRefused, IsReady}
use Rattle.sdr_stands.specs.Rows.{capsule_row, object_row}
use Rattle.sdr_stands.specs.Standing.{HeapStandsFor, thing_entries, with_taken_marked}
use Rattle.sdr_stands.specs.Ties.{ties_of}
use Rattle.sdr_base.specs.Entries.{Entries}
use Rattle.sdr_base.specs.Objects.{Heap, Misses}
use Rattle.sdr_base.specs.ZcoObjects.{CapsuleRow, ObjectRow, object_entries}
use Rattle.sdr_base.specs.declared.account.Acct.{Acct}
use Rattle.sdr_base.specs.declared.account.Amounts.{Amounts}
use Rattle.sdr_base.specs.declared.kind.Kind.TheVariants as kinds
use Rattle.sdr_base.specs.declared.kind.Space.{Space}
use Rattle.sdr_base.specs.declared.moves.Move.{Move}
use Rattle.sdr_base.specs.declared.moves.Move.TheVariants.{Short, Took}
use Rattle.sdr_base.specs.declared.refusal.Refusal.{Refusal}
use Rattle.sdr_base.specs.declared.refusal.Refusal.TheVariants as refusals
use Rattle.sdr_base.specs.declared.stop.Stop.TheVariants as stops
use Rattle.law_steps.proofs.BondLaws.{Tracks}
use Rattle.law_steps.proofs.BondTracks.{tracks_from}
use Rattle.law_steps.proofs.ChargeMoves.{MovesCharge}
use Rattle.law_steps.proofs.DistinctLemmas.{absent}
use Rattle.law_steps.proofs.SourceMoves.{nothing}
use Rattle.law_steps.specs.Fresh.{AreFresh}
use Rattle.sdr_model.specs.Accounts.{tickets_of}
use Rattle.sdr_model.specs.Amounts.{amounts_by}
use Rattle.sdr_model.specs.Blocks.{addresses_of, blocks_of}
use Rattle.sdr_model.specs.BondSteps as bonds
use Rattle.sdr_model.specs.BondSteps.{bond_charge, bond_moves, bonded, with_bonded}
use Rattle.sdr_model.specs.Rows.{ByRow}
use Rattle.sdr_model.specs.Steps.{Outcome, taken_at}
use Rattle.sdr_model.specs.Things.{Things}
use Rattle.sdr_model.specs.World.{World}
use Rattle.sdr_model.specs.Zco.{object_at}
use Rattle.sdr_model.specs.declared.accounts.Ticket.{Ticket}
use Rattle.sdr_model.specs.declared.answer.Reply.TheVariants as replies
use Rattle.sdr_model.specs.declared.call.Call.{Call}
use Rattle.sdr_model.specs.declared.call.Call.TheVariants as calls
use Rattle.sdr_model.specs.declared.things.Thing.TheVariants as things
use Rattle.sdr_model.specs.declared.zco.Capsule.{Capsule}
use Rattle.sdr_model.specs.declared.zco.ZcoObject.{ZcoObject}
use Rattle.zco_acct.specs.Charges.{charged}
use Rattle.step_zco.proofs.AlikeLemmas.{one_first}
use Rattle.step_zco.proofs.ChargeLemmas.{IsPaid, paid, unpaid}
use Rattle.step_zco.proofs.MovingLemmas.{both_alike}
use Rattle.step_zco.proofs.ObjectLemmas.{IsObjectAt, no_object, object_is_at, object_with_queue}
use Rattle.step_zco.proofs.PayingLemmas.{paid_stands, same_refusal}
use Rattle.zco_bond.proofs.BondedLemmas.{capsules-append, length-capsules}
use Rattle.zco_bond.specs.Bonded as rows
use Rattle.zco_bond.specs.Bonded.{BondedCapsule, bonded_sources, bonding_moves, capsules_of, joined, whole_of}
use Rattle.zco_bond.specs.Bonding.{BondsObject, BondStops, ObjectBonded}
use Rattle.zco_bond.specs.Chaining.{IsBondRow}
use Rattle.zco_bond.specs.Charging.{BondAllowed, BondRefused, bond_amounts, ends_of}
use Rattle.zco_bond.specs.Fresh.{is_free}
use Rattle.zco_bond.specs.Rows.{LacksAmong, MadeAmong}
use Rattle.step_zco_parts.proofs.BondRows.{after, after_things, bond_row, does, moves_are, on_object, outcome, told}
use Rattle.step_zco_parts.proofs.ChargeLemmas.{amounts_told, bond_charged}
use Rattle.step_zco_parts.proofs.BondFreshLemmas.{fresh_come, fresh_moves, small_words}
use Rattle.step_zco_parts.proofs.RowLemmas.{length_by}
use Rattle.step_zco_parts.proofs.ThingsLemmas.{Come}
use Rattle.step_zco_parts.proofs.WorldLemmas.{bonded_first, bonded_part, both_by, heads_by, rest, tails_by}
use Rattle.zco_obj.specs.Charging.{Pays, refusal_in}
use Rattle.zco_obj.specs.Kept.{KeepsWithQueue}

-- two lists that are joined are told by the length of the first
split : {X : Type 0} (xs xs' ys ys' : List X) → length xs ≡ length xs' → xs ++ ys ≡ xs' ++ ys' → (xs ≡ xs') × (ys ≡ ys')
split [] [] ys ys' long is = (refl, is)
split [] (x ∷ xs') ys ys' long is = absurd (omega (arith, long))
split (x ∷ xs) [] ys ys' long is = absurd (omega (arith, long))
split (x ∷ xs) (x' ∷ xs') ys ys' long is =
    let one : x ≡ x' = cc in
    let others : xs ++ ys ≡ xs' ++ ys' = cc in
    let both = split xs xs' ys ys' (omega (arith, long)) others in (λ i. one i ∷ both.0 i, both.1)

-- a call on a heap that stands for a world in which it is served
module _ (old new : Heap) (w : World) (unmoved : old.moves ≡ []) (s : HeapStandsFor old w) (served : IsReady w) (small : IsSmall old)
    (addr number : ℕ) where
  abbrev call : Call
  call = calls.Bond addr number

  -- of an object that is there
  module _ (o : IsObjectAt w addr) where
    abbrev z : ZcoObject
    z = o.object

    abbrev cs : List Capsule
    cs = bonds.capsules_of z

    abbrev acct : Acct
    acct = z.account

    abbrev row : ObjectRow
    row = object_row z

    abbrev tickets : List Ticket
    tickets = tickets_of w.accounts acct

    abbrev charge : Space → ℕ
    charge = bond_charge cs

    keeps : KeepsWithQueue old addr row tickets
    keeps = object_with_queue old w addr z s served small o.there

    -- it was bonded
    module _ (b : ObjectBonded addr number row tickets old new) where
      abbrev bs : List BondedCapsule
      bs = b.headers ++ b.trailers

      abbrev at : ℕ → ℕ
      at = taken_at (bonding_moves bs)

      abbrev moves : List Move
      moves = bonding_moves bs

      abbrev things_then : Things
      things_then = after_things w addr number z o.there bs

      whole : capsules_of bs ≡ ends_of row
      whole =
          capsules-append b.headers b.trailers ∙ (λ i. b.are.of_headers i ++ b.are.of_trailers i)

      parts : (b.headers ≡ heads_by at z) × (b.trailers ≡ tails_by at z)
      parts =
          let capsules = length-capsules b.headers in
          let are = ap (λ (l : List CapsuleRow). length l) b.are.of_headers in
          let many = length-map z.headers capsule_row in
          let by = length_by at 0 z.headers in
          split b.headers (heads_by at z) b.trailers (tails_by at z) (omega (arith, capsules, are, many, by))
          (told w addr number z o.there bs whole ∙ both_by at z)

      abbrev used : List ℕ
      used = addresses_of (blocks_of w)

      fresh : AreFresh used moves
      fresh =
          fresh_moves (is_free old.blocks) used moves (λ q free. absent q used (none_of old w q s served.whole.valid free)) b.takes

      row_fresh : AreFresh used (bond_moves at 0 cs)
      row_fresh = subst (λ (ms : List Move). AreFresh used ms) (moves_are w addr number z o.there bs whole) fresh

      tracks : Tracks w.things used cs
      tracks = tracks_from w addr z served.whole.valid o.there

      come : Come w.things at 0 cs
      come = fresh_come at w.things used 0 cs tracks row_fresh

      charges : MovesCharge w.things things_then acct charge nothing
      charges = bond_charged w addr z at used o.there served.whole.fits tracks row_fresh

      abbrev part : Entries
      part = bonded_part w addr z at o.there served.whole.fits come

      pays : Pays acct number (amounts_by charge) tickets moves (object_entries addr row) part old new
      pays =
          subst (λ (a : Amounts). Pays acct number a tickets moves (object_entries addr row) part old new) (amounts_told z)
          (subst (λ (es : Entries). Pays acct number (bond_amounts row) tickets moves (object_entries addr row) es old new)
          (λ i. object_entries addr (whole_of row (joined (parts.0 i) row.extents (parts.1 i)))
          ++ bonded_sources acct (parts.0 i ++ parts.1 i)) b.pays)

      -- the heap stands for the world after it
      pub bonded_stands : HeapStandsFor new (with_taken_marked (after w addr number z o.there bs) moves)
      bonded_stands =
          paid_stands things_then acct number charge moves s charges pays
          (both_alike w things_then acct (charged tickets number (amounts_by charge)) (object_entries addr row) part
          (rest w addr z at o.there served.whole.fits come)
          (one_first (thing_entries (ties_of w)) w.things addr (things.Object z) o.there)
          (bonded_first w addr z at o.there served.whole.fits come) pays.changes)

      has : HasMoves w moves new
      has = record {
        is = ap (λ (h : Heap). h.moves) pays.others ∙ ap (λ (ms : List Move). ms ++ moves) unmoved;
        fresh = fresh;
        words = small_words bs (All-append rows.IsSmall b.headers b.trailers b.are.headers_small b.are.trailers_small);
      }

      pub object_answered : Answered w call new [] replies.Done
      object_answered =
          moved_answered w (after w addr number z o.there bs) call moves new replies.Done has bonded_stands refl
          (bond_row w addr number z o.there bs whole (paid w acct number charge (sym (same_refusal acct s number charge) ∙ pays.allowed))) refl

    -- its account refuses it by the world as by the rows
    same_cause : refusal_in old acct number (amounts_by charge) tickets ≡ refusal_in old acct number (bond_amounts row) tickets
    same_cause = ap (λ (a : Amounts). refusal_in old acct number a tickets) (sym (amounts_told z))

    may_pay : BondAllowed addr number old → IsPaid w acct number charge
    may_pay a =
        paid w acct number charge (sym (same_refusal acct s number charge) ∙ same_cause ∙ a.allows row tickets keeps)

    -- there was no block for one of its moves
    pub object_lacks : (was : List ℕ) (missing : ℕ) → BondAllowed addr number old → LacksAmong (IsBondRow (ends_of row)) missing old new →
        IsRefused w call old new was was (refusals.NoBlock missing)
    object_lacks was missing a l = record {
      step = inr (record {
        aim = outcome w addr number z o.there l.row.bonded;
        row = bond_row w addr number z o.there l.row.bonded l.row.whole (may_pay a);
        answered = refl;
        stopped = record {
          done = l.made;
          addr = l.addr;
          rest = l.first.rest;
          whole = sym l.row.is ∙ l.first.whole ∙ append_assoc l.made (Took missing l.addr ∷ []) l.first.rest;
          short = l.moves ∙ ap (λ (ms : List Move). ms ++ (l.made ++ Short missing ∷ [])) unmoved;
        };
        same = refl;
      });
      left = λ reads. absurd (true≢false (sym reads));
      gave = refl;
    }

    -- or no log room
    pub object_full : (was : List ℕ) (lines room : ℕ) → BondAllowed addr number old → MadeAmong (IsBondRow (ends_of row)) old new →
        IsRefused w call old new was was (refusals.LogFull lines room)
    object_full was lines room a l = record {
      step = (record { to = outcome w addr number z o.there l.row.bonded; row = bond_row w addr number z o.there l.row.bonded l.row.whole (may_pay a); answered = refl }, refl);
      left = λ reads. absurd (true≢false (sym reads));
      gave = refl;
    }

    -- or its account refuses it
    pub object_unpaid : (refusal : Refusal) → BondRefused addr number old refusal → new ≡ old →
        ByRow w (record { moves = new.moves; after = w; reply = replies.Refused refusal }) call
    object_unpaid refusal r same =
        let to : Outcome = record { moves = []; after = w; reply = replies.Refused refusal } in
        row_refused w call new refusal (ap (λ (h : Heap). h.moves) same ∙ unmoved)
        (on_object w addr number z o.there to
        (unpaid w acct number charge refusal (sym (same_refusal acct s number charge) ∙ same_cause ∙ r.refuses row tickets keeps) to (does w addr number z o.there to)
        (refl, refl, refl)))

  -- it was bonded
  pub bond_answered : BondsObject addr number old new → Answered w call new [] replies.Done
  bond_answered b =
      let o = object_is_at old w addr s served b.kind in
      object_answered o (b.bonds (object_row o.object) (tickets_of w.accounts o.object.account) (keeps o))

  -- there is none
  misnamed : (was : List ℕ) (refusal : Refusal) → Misses (old.blocks addr) addr kinds.Object (stops.Refused refusal) → new ≡ old →
      IsRefused w call old new was was refusal
  misnamed was refusal m same =
      misnamed_refused w call addr kinds.Object (object_at w addr) _ old new was (λ to h. h)
      (no_object old w addr s served.whole.valid) unmoved same s served.whole.valid refusal m

  -- or it wasn't
  pub bond_refused : (was : List ℕ) (refusal : Refusal) → BondStops addr number old new (stops.Refused refusal) →
      IsRefused w call old new was was refusal
  bond_refused was (refusals.BadAddress bad) m = misnamed was (refusals.BadAddress bad) m.0 m.1
  bond_refused was (refusals.WrongKind bad kind) m = misnamed was (refusals.WrongKind bad kind) m.0 m.1
  bond_refused was (refusals.NoBlock missing) m =
      let o = object_is_at old w addr s served m.0.kind in
      object_lacks o was missing m.0.holds (m.1.lacks (object_row o.object) (tickets_of w.accounts o.object.account) (keeps o))
  bond_refused was (refusals.LogFull lines room) m =
      let o = object_is_at old w addr s served m.0.kind in
      object_full o was lines room m.0.holds (m.1.made (object_row o.object) (tickets_of w.accounts o.object.account) (keeps o))
  bond_refused was refusal m =
      let o = object_is_at old w addr s served m.0.kind in
      record { step = inl (object_unpaid o refusal m.0.holds m.1); left = λ reads. m.1; gave = refl }
