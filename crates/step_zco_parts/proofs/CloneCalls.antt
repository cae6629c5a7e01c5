-- A part of an object that is cloned, as a step.
use Rattle.std.proofs.Common.{◌≡◌, ◌∙◌, ◌+◌, ◌*◌, ◌-◌, ◌<◌, ◌⊎◌, ℕ, List, [], ◌∷◌, ◌++◌, Option, Some, None, Result, true≢false, inl, inr, length, map, replicate, refl, sym, ap, subst, arith, append_assoc, length-append}
use Rattle.std.proofs.lemmas.List.{length-map, length-replicate, map-append}
use Rattle.std.specs.FinMap as finite
use Rattle.std.specs.Option.{option_map_or}
use Rattle.std.specs.Prelude.{slice_index}
use Rattle.step_things.proofs.ListLemmas.{IsSmall}
use Rattle.step_things.proofs.RowLemmas.{misnamed_refused, moved_answered, row_refused}
use Rattle.step_things.specs.Answering.{Aim, Answered, IsRefused, IsReady}
use Rattle.sdr_stands.proofs.ChangeLemmas.{apart, nothing_at}
use Rattle.sdr_stands.specs.Rows.{object_row}
use Rattle.sdr_stands.specs.Standing.{HeapStandsFor, entries_of, thing_entries, with_taken_marked}
use Rattle.sdr_stands.specs.Ties.{ties_of}
use Rattle.sdr_base.specs.Blocks.{IsKind}
use Rattle.sdr_base.specs.Entries.{Changes, Entries, BlocksAre}
use Rattle.sdr_base.specs.Objects.{Heap}
use Rattle.sdr_base.specs.Section.{section}
use Rattle.sdr_base.specs.Works.{Spends}
use Rattle.sdr_base.specs.ZcoObjects.{ObjectRow, object_entries}
use Rattle.sdr_base.specs.declared.account.Amounts.{Amounts}
use Rattle.sdr_base.specs.declared.has_heap.HasHeap.{Ghosts}
use Rattle.sdr_base.specs.declared.kind.Kind.TheVariants as kinds
use Rattle.sdr_base.specs.declared.kind.Space.{Space}
use Rattle.sdr_base.specs.declared.moves.Move.{Move}
use Rattle.sdr_base.specs.declared.moves.Move.TheVariants.{Short, Took}
use Rattle.sdr_base.specs.declared.refusal.Refusal.{Refusal}
use Rattle.sdr_base.specs.declared.refusal.Refusal.TheVariants as refusals
use Rattle.sdr_base.specs.declared.stop.Stop.{Stop}
use Rattle.sdr_base.specs.declared.stop.Stop.TheVariants as stops
use Rattle.sdr_base.proofs.WorksLemmas.{works_more}
use Rattle.law_steps.proofs.ExtentLemmas.{placed_names}
use Rattle.law_steps.proofs.SourceViews.{here_at}
use Rattle.law_steps.proofs.ThingLemmas.{object_is}
use Rattle.sdr_machine.proofs.WorkLemmas.{on_false, on_some, on_true}
use Rattle.sdr_model.specs.Accounts.{tickets_of}
use Rattle.sdr_model.specs.Amounts.{amounts_by}
use Rattle.sdr_model.specs.Charges.{object_charge}
use Rattle.sdr_model.specs.Charging.{Charges, with_covered}
use Rattle.sdr_model.specs.Cuts as model
use Rattle.sdr_model.specs.ObjectSteps.{InRange, with_object}
use Rattle.sdr_model.specs.PartSteps.{asked_extents, clone_moves, object_of}
use Rattle.sdr_model.specs.Rows.{ByRow}
use Rattle.sdr_model.specs.Step.{Stops}
use Rattle.sdr_model.specs.Steps.{DoesWith, Outcome, taken_addresses}
use Rattle.sdr_model.specs.Things.{Things, extent_need, object_need}
use Rattle.sdr_model.specs.World.{World, thing_at}
use Rattle.sdr_model.specs.Zco.{as_object, object_at}
use Rattle.sdr_model.specs.declared.accounts.Ticket.{Ticket}
use Rattle.sdr_model.specs.declared.answer.Reply.TheVariants as replies
use Rattle.sdr_model.specs.declared.call.Call.{Call}
use Rattle.sdr_model.specs.declared.call.Call.TheVariants as calls
use Rattle.sdr_model.specs.declared.things.Thing.TheVariants as things
use Rattle.sdr_model.specs.declared.zco.Extent.{Extent}
use Rattle.sdr_model.specs.declared.zco.ZcoObject.{ZcoObject}
use Rattle.zco_acct.specs.Charges.{charged}
use Rattle.step_zco.proofs.AlikeLemmas.{StandAlike}
use Rattle.step_zco.proofs.AppendLemmas.{in_range, out_of_range}
use Rattle.step_zco.proofs.ChargeLemmas.{IsPaid, paid, unpaid}
use Rattle.step_zco.proofs.DestroyKept.{used}
use Rattle.step_zco.proofs.GoneTies.{leaves_none}
use Rattle.step_zco.proofs.GoneUses.{UsedBy}
use Rattle.step_zco.proofs.GoneWorlds.{beside, own_first}
use Rattle.step_zco.proofs.MovingLemmas.{both_alike}
use Rattle.step_zco.proofs.ObjectLemmas.{IsObjectAt, no_object, object_is_at, object_kept}
use Rattle.step_zco.proofs.PayingLemmas.{paid_stands, paid_world, same_refusal}
use Rattle.zco_obj.specs.Charging.{Pays, refusal_in}
use Rattle.zco_obj.specs.Gone.{NamedSource, sources_entries}
use Rattle.zco_obj.specs.declared.extent.ExtentPiece.{ExtentPiece}
use Rattle.zco_part.specs.Charging.{clone_amounts}
use Rattle.zco_part.specs.Cloning.{ClonesPart, CloneAllowed, CloneStops, HasRange, IsCloned, KeepsToClone, LacksNext, OfCloned, next_need, takes_clone, takes_first}
use Rattle.zco_part.specs.Copying.{takes_extents}
use Rattle.zco_part.specs.Pieces.{asked, extents_at, whole_row}
use Rattle.zco_part.specs.Sources.{all_counted}
use Rattle.step_zco_parts.proofs.CloneCharges.{clone_charge, clone_moves_charge, named_as_often, uncut}
use Rattle.step_zco_parts.proofs.CloneTies.{cloned, cloned_first}
use Rattle.step_zco_parts.proofs.PartFreshLemmas.{clone_distinct, took_clone}
use Rattle.step_zco_parts.proofs.PartKeptLemmas.{kept_to_clone, rows}
use Rattle.step_zco_parts.proofs.PieceLemmas.{asked_same, clone_row, named, spots, taken_clone, takes_as_rows}

-- a call on a heap that stands for a world in which it is served
module _ (old new : Heap) (w : World) (unmoved : old.moves ≡ []) (s : HeapStandsFor old w) (served : IsReady w) (small : IsSmall old)
    (addr number offset bytes : ℕ) where
  abbrev call : Call
  call = calls.ClonePart addr number offset bytes

  abbrev charge_for : ZcoObject → Space → ℕ
  charge_for x space = object_charge space (object_of x.account (asked_extents x offset bytes))

  -- how its row goes on, where the object is there, where the range is one, and where the account is charged
  abbrev making : Outcome → ZcoObject → World → Type 0
  making o x u =
      DoesWith w o (λ at. clone_moves at (asked_extents x offset bytes))
      (λ at. with_object u (at 0) (object_of x.account (model.placed at 1 (asked_extents x offset bytes))))
      (λ at. replies.At (at 0))

  abbrev charging : Outcome → ZcoObject → Type 0
  charging o x = Charges w o x.account number (charge_for x) (making o x)

  abbrev going : Outcome → ZcoObject → Type 0
  going o x = InRange w o offset bytes x.part.length (charging o x)

  -- of an object that is there
  module _ (at : IsObjectAt w addr) where
    abbrev z : ZcoObject
    z = at.object

    abbrev es : List Extent
    es = asked_extents z offset bytes

    abbrev tickets : List Ticket
    tickets = tickets_of w.accounts z.account

    abbrev sources : List NamedSource
    sources = rows old w s served small addr z at.there

    abbrev mine : UsedBy w z.extents z.extents
    mine = used w addr z served.whole.fits at.there

    on_object : (o : Outcome) → going o z → ByRow w o call
    on_object o h = on_some _ (going o) (object_at w addr) z (ap as_object at.there) h

    on_charge : (o : Outcome) → HasRange offset bytes (object_row z) → charging o z → ByRow w o call
    on_charge o range h =
        on_object o (on_false _ (charging o z) _ (in_range offset bytes z.part.length range.some range.within) h)

    -- what its blocks keep
    kept : KeepsToClone old addr (object_row z) tickets sources
    kept = kept_to_clone old w s served small addr z at.there

    -- the charge is that of the world
    same_charge : clone_amounts (asked offset bytes (object_row z)) ≡ amounts_by (charge_for z)
    same_charge = ap clone_amounts (asked_same z offset bytes) ∙ clone_charge z.account es

    many : length (asked offset bytes (object_row z)) ≡ length es
    many = ap (length {A = ExtentPiece}) (asked_same z offset bytes) ∙ length-map es named

    -- the world with a clone whose blocks have these addresses
    module _ (clone : ℕ) (addrs : List ℕ) (same : length addrs ≡ length es) where
      abbrev extents : List Extent
      extents = model.placed (spots clone addrs es same) 1 es

      abbrev made : ZcoObject
      made = object_of z.account extents

      abbrev things_with : Things
      things_with = finite.insert w.things clone (things.Object made)

      abbrev after : World
      after = paid_world w things_with z.account number (charge_for z)

      abbrev moves : List Move
      moves = takes_clone clone addrs

      abbrev outcome : Outcome
      outcome = record { moves = moves; after = with_taken_marked after moves; reply = replies.At clone }

      cloned_row : HasRange offset bytes (object_row z) → IsPaid w z.account number (charge_for z) → ByRow w outcome call
      cloned_row range p =
          let taken = taken_clone clone addrs in
          let used = with_covered w p.pending (amounts_by (charge_for z)) in
          let world = λ (u : World) (l : List ℕ).
          record (with_object u (slice_index l 0) (object_of z.account (model.placed (slice_index l) 1 es))) {
            marks = w.marks ++ taken_addresses moves;
            shown = [];
          } in
          on_charge outcome range
          (p.goes outcome (making outcome z) (
            takes_as_rows clone addrs es same ∙ ap (λ (l : List ℕ). clone_moves (slice_index l) es) (sym taken),
            sym (ap (λ (u : World). world u (clone ∷ addrs)) p.used) ∙ ap (λ (l : List ℕ). world used l) (sym taken),
            ap (λ (l : List ℕ). replies.At (slice_index l 0)) (sym taken),
          ))

      cloned_aim : HasRange offset bytes (object_row z) → IsPaid w z.account number (charge_for z) → Aim w call
      cloned_aim range p = record { to = outcome; row = cloned_row range p; answered = refl }

      -- the account has paid, and the blocks of the clone have come
      abbrev own : Entries
      own = object_entries addr (object_row z) ++ sources_entries sources

      abbrev counted : Entries
      counted = object_entries addr (object_row z) ++ sources_entries (all_counted z.account (map named es) sources)

      abbrev IsPaidFor : Type 0
      IsPaidFor =
          Pays z.account number (amounts_by (charge_for z)) tickets moves own (object_entries clone (object_row made) ++ counted) old new

      paid_for : IsCloned addr number offset bytes clone addrs old new (object_row z) tickets sources → IsPaidFor
      paid_for i =
          subst
          (λ (r : ObjectRow). Pays z.account number (amounts_by (charge_for z)) tickets moves own (object_entries clone r ++ counted) old new)
          (clone_row clone addrs es same z.account)
          (subst
          (λ (ps : List ExtentPiece). Pays z.account number (amounts_by (charge_for z)) tickets moves own
          (object_entries clone (whole_row z.account (extents_at addrs ps))
          ++ (object_entries addr (object_row z) ++ sources_entries (all_counted z.account ps sources))) old new)
          (asked_same z offset bytes)
          (subst
          (λ (a : Amounts). Pays z.account number a tickets moves own
          (object_entries clone (whole_row z.account (extents_at addrs (asked offset bytes (object_row z))))
          ++ (object_entries addr (object_row z)
          ++ sources_entries (all_counted z.account (asked offset bytes (object_row z)) sources))) old new)
          same_charge i.pays))

      -- so the heap stands for the world with the clone
      cloned_stands : thing_at w clone ≡ None → IsPaidFor → HeapStandsFor new (with_taken_marked after moves)
      cloned_stands none pays =
          let acct = z.account in
          let rest = beside w addr z at.there served.whole.fits z.extents None (leaves_none z) mine.sources mine.are in
          let u = cloned w clone acct extents none in
          let front = object_entries clone (object_row made) in
          let first : StandAlike (section (thing_entries (ties_of u)) u.things) ((front ++ counted) ++ rest) =
          subst (λ (xs : Entries). StandAlike (section (thing_entries (ties_of u)) u.things) xs) (sym (append_assoc front counted rest))
          (cloned_first w clone acct extents none addr z at.there served.whole.fits mine.sources mine.are (map named es)
          (λ q. named_as_often q es ∙ sym (placed_names q (spots clone addrs es same) 1 es))
          (λ q no.
          placed_names q (spots clone addrs es same) 1 es
          ∙ uncut q (z.part.offset + offset) (z.part.offset + offset + bytes) z.extents no)) in
          let changes : Changes old.blocks new.blocks (entries_of w) (entries_of after) =
          both_alike w things_with acct (charged tickets number (amounts_by (charge_for z))) own (front ++ counted) rest
          (own_first w addr z at.there served.whole.fits z.extents None (leaves_none z) mine.sources mine.are) first pays.changes in
          paid_stands things_with acct number (charge_for z) moves s
          (clone_moves_charge w clone addr z (spots clone addrs es same) (z.part.offset + offset) (z.part.offset + offset + bytes) at.there none)
          pays changes

    -- it was cloned
    pub clone_answered : (clone : ℕ) → ClonesPart addr number offset bytes old new clone → Answered w call new [] (replies.At clone)
    clone_answered clone c =
        let i = c.clones (object_row z) tickets sources kept in
        let range = c.has.holds (object_row z) (object_kept old w s served small addr z at.there) in
        let same = i.each ∙ many in
        let none = nothing_at clone s c.new_block.free in
        let pays = paid_for clone c.addrs same i in
        let p = paid w z.account number (charge_for z) (sym (same_refusal z.account s number (charge_for z)) ∙ pays.allowed) in
        let stands = cloned_stands clone c.addrs same none pays in
        let thing = things.Object (made clone c.addrs same) in
        let alone = apart clone thing stands (here_at w.things clone (Some thing)) in
        let distinct = clone_distinct clone z.account c.addrs (map named es) alone.rest (same ∙ sym (length-map es named))
        (subst (λ (r : ObjectRow). BlocksAre new.blocks (object_entries clone r ++ alone.rest))
        (sym (clone_row clone c.addrs es same z.account)) alone.stands) in
        let is : new.moves ≡ takes_clone clone c.addrs =
        ap (λ (h : Heap). h.moves) pays.others ∙ ap (λ (ms : List Move). ms ++ takes_clone clone c.addrs) unmoved in
        moved_answered w (after clone c.addrs same) call (takes_clone clone c.addrs) new (replies.At clone)
        (took_clone old w s served.whole.valid clone c.addrs new c.new_block c.new_blocks distinct is)
        stands refl (cloned_row clone c.addrs same range p) refl

    -- what the account says
    may_pay : OfCloned (CloneAllowed number offset bytes old) addr old → IsPaid w z.account number (charge_for z)
    may_pay m =
        paid w z.account number (charge_for z)
        (sym (same_refusal z.account s number (charge_for z))
        ∙ subst (λ (a : Amounts). refusal_in old z.account number a tickets ≡ None) same_charge
        (m.holds (object_row z) tickets sources kept).1)

    in_part : OfCloned (CloneAllowed number offset bytes old) addr old → HasRange offset bytes (object_row z)
    in_part m = (m.holds (object_row z) tickets sources kept).0

    -- where it wants log room, its row would answer it
    clone_aim : OfCloned (CloneAllowed number offset bytes old) addr old → Aim w call
    clone_aim m =
        cloned_aim 0 (replicate (length es) 0) (length-replicate (length es) 0) (in_part m) (may_pay m)

    -- so it would where it wants a block, with those that it has
    lacks_block : (missing : ℕ) → OfCloned (CloneAllowed number offset bytes old) addr old → LacksNext addr offset bytes missing old new →
        Stops w (record { moves = new.moves; after = w; reply = replies.Refused (refusals.NoBlock missing) }) call
    lacks_block missing m l = by l.addrs l.is not_all l.moves
      where
        not_all : length l.addrs < 1 + length es
        not_all =
            let all = l.few.holds (object_row z) tickets sources kept in
            let same = many in omega (arith, all, same)

        by : (addrs : List ℕ) → missing ≡ next_need addrs → length addrs < 1 + length es →
            new.moves ≡ old.moves ++ (takes_first addrs ++ Short missing ∷ []) →
            Stops w (record { moves = new.moves; after = w; reply = replies.Refused (refusals.NoBlock missing) }) call
        by [] is few moved =
            let zeros = replicate (length es) 0 in
            let same = length-replicate (length es) 0 in
            record {
              aim = outcome 0 zeros same;
              row = cloned_row 0 zeros same (in_part m) (may_pay m);
              answered = refl;
              stopped = record {
                done = [];
                addr = 0;
                rest = takes_extents zeros;
                whole = sym (ap (λ (n : ℕ). Took n 0 ∷ takes_extents zeros) is);
                short = moved ∙ ap (λ (ms : List Move). ms ++ Short missing ∷ []) unmoved;
              };
              same = refl;
            }
        by (clone ∷ addrs) is few moved =
            let left = length es - (1 + length addrs) in
            let zeros = replicate left 0 in
            let all = addrs ++ (0 ∷ zeros) in
            let same : length all ≡ length es =
            omega (arith, few, length-append addrs (0 ∷ zeros), length-replicate {A = ℕ} left 0) in
            record {
              aim = outcome clone all same;
              row = cloned_row clone all same (in_part m) (may_pay m);
              answered = refl;
              stopped = record {
                done = takes_clone clone addrs;
                addr = 0;
                rest = takes_extents zeros;
                whole =
                    ap (λ (ms : List Move). Took object_need clone ∷ ms)
                    (map-append (λ (a : ℕ). Took extent_need a) addrs (0 ∷ zeros))
                    ∙ sym (ap (λ (n : ℕ). takes_clone clone addrs ++ (Took n 0 ∷ takes_extents zeros)) is);
                short = moved ∙ ap (λ (ms : List Move). ms ++ (takes_clone clone addrs ++ Short missing ∷ [])) unmoved;
              };
              same = refl;
            }

    -- the row refuses a range that the part hasn't
    range_row : (off count have : ℕ) →
        (off ≡ offset) × (count ≡ bytes) × (have ≡ z.part.length) × ((bytes ≡ 0) ⊎ (z.part.length < offset + bytes)) → new ≡ old →
        ByRow w (record { moves = new.moves; after = w; reply = replies.Refused (refusals.BadRange off count have) }) call
    range_row off count have r same =
        let o : Outcome = record { moves = []; after = w; reply = replies.Refused (refusals.BadRange off count have) } in
        row_refused w call new (refusals.BadRange off count have) (ap (λ (h : Heap). h.moves) same ∙ unmoved)
        (on_object o
        (on_true _ (charging o z) _ (out_of_range offset bytes z.part.length r.3)
        (refl, refl, λ i. replies.Refused (refusals.BadRange (r.0 i) (r.1 i) (r.2 i)))))

    -- or where the account refuses
    unpaid_row : (refusal : Refusal) → HasRange offset bytes (object_row z) →
        refusal_in old z.account number (clone_amounts (asked offset bytes (object_row z))) tickets ≡ Some refusal → new ≡ old →
        ByRow w (record { moves = new.moves; after = w; reply = replies.Refused refusal }) call
    unpaid_row refusal range some same =
        let o : Outcome = record { moves = []; after = w; reply = replies.Refused refusal } in
        row_refused w call new refusal (ap (λ (h : Heap). h.moves) same ∙ unmoved)
        (on_charge o range
        (unpaid w z.account number (charge_for z) refusal
        (sym (same_refusal z.account s number (charge_for z))
        ∙ subst (λ (a : Amounts). refusal_in old z.account number a tickets ≡ Some refusal) same_charge some)
        o (making o z) (refl, refl, refl)))

  -- it was cloned
  pub clone_made : (clone : ℕ) → ClonesPart addr number offset bytes old new clone → Answered w call new [] (replies.At clone)
  clone_made clone c = clone_answered (object_is_at old w addr s served c.has.kind) clone c

  -- or it wasn't
  pub clone_refused : (was : List ℕ) (refusal : Refusal) → CloneStops addr number offset bytes old new (stops.Refused refusal) →
      IsRefused w call old new was was refusal
  clone_refused was (refusals.BadAddress bad) m =
      misnamed_refused w call addr kinds.Object (object_at w addr) going old new was (λ o h. h)
      (no_object old w addr s served.whole.valid) unmoved m.1 s served.whole.valid (refusals.BadAddress bad) m.0
  clone_refused was (refusals.WrongKind bad kind) m =
      misnamed_refused w call addr kinds.Object (object_at w addr) going old new was (λ o h. h)
      (no_object old w addr s served.whole.valid) unmoved m.1 s served.whole.valid (refusals.WrongKind bad kind) m.0
  clone_refused was (refusals.BadRange off count have) m =
      let at = object_is_at old w addr s served m.0.kind in
      let lacks = m.0.holds (object_row at.object) (object_kept old w s served small addr at.object at.there) in
      record { step = inl (range_row at off count have lacks m.1); left = λ reads. m.1; gave = refl }
  clone_refused was (refusals.NoBlock missing) m =
      let at = object_is_at old w addr s served m.0.kind in
      record { step = inr (lacks_block at missing m.0 m.1); left = λ reads. absurd (true≢false (sym reads)); gave = refl }
  clone_refused was (refusals.LogFull lines room) m =
      let at = object_is_at old w addr s served m.0.kind in
      record { step = (clone_aim at m.0, refl); left = λ reads. absurd (true≢false (sym reads)); gave = refl }
  clone_refused was refusal m =
      let at = object_is_at old w addr s served m.0.kind in
      let says = m.0.holds (object_row at.object) (tickets at) (sources at) (kept at) in
      record { step = inl (unpaid_row at refusal says.0 says.1 m.1); left = λ reads. m.1; gave = refl }

  -- so many lines it touches at most, by the extents that are asked for in the world
  pub clone_works : {S T : Type 0} {m : Ghosts S} {a b : S} {r : Result T Stop} →
      ((row : ObjectRow) (tickets : List Ticket) (sources : List NamedSource) → KeepsToClone old addr row tickets sources →
      Spends m (34 + 33 * length (asked offset bytes row)) a b r) →
      ((IsKind (old.blocks addr) kinds.Object → ⊥) → Spends m 0 a b r) →
      Spends m (option_map_or (λ x. 34 + 33 * length (asked_extents x offset bytes)) (object_at w addr) 0) a b r
  clone_works {S} {T} {m} {a} {b} {r} works missed = by (object_at w addr) refl
    where
      by : (o : Option ZcoObject) → object_at w addr ≡ o →
          Spends m (option_map_or (λ x. 34 + 33 * length (asked_extents x offset bytes)) o 0) a b r
      by None is =
          missed (λ kind.
          let at = object_is_at old w addr s served kind in
          let no : None ≡ Some at.object = sym is ∙ ap as_object at.there in absurd (cc))
      by (Some x) is =
          let at : IsObjectAt w addr = record { object = x; there = object_is (thing_at w addr) x is } in
          let same = many at in
          works_more (works (object_row x) (tickets at) (sources at) (kept at)) (omega (arith, same))
