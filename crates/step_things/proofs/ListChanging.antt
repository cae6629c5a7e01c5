-- Calls that change lists, as steps.
use Rattle.std.proofs.Common.{◌≡◌, ◌∙◌, ◌++◌, ℕ, List, [], ◌∷◌, false, true≢false, Some, refl, sym, ap, subst, map}
use Rattle.std.proofs.lemmas.List.{map-set}
use Rattle.std.proofs.lemmas.Simd.{map-map}
use Rattle.std.specs.Prelude.{insert, remove, set}
use Rattle.step_things.proofs.ListLemmas.{IsListAt, IsSmall, list_is_at}
use Rattle.step_things.proofs.ListReading.{element_missed, list_missed}
use Rattle.step_things.proofs.RowLemmas.{Moved, full_refused, gave_back, gave_takes, marks_none, moved_nothing, short_refused, thing_changed, thing_made, thing_went, took_one}
use Rattle.step_things.proofs.SortingLemmas.{order_is, ordered_place_is}
use Rattle.step_things.proofs.SpotLemmas.{IsSpotAt, spot_is_at}
use Rattle.step_things.specs.Answering.{Aim, Answered, IsRefused, IsReady}
use Rattle.step_things.specs.Sorting.{Sorts}
use Rattle.sdr_stands.specs.Rows.{element_row, list_row}
use Rattle.sdr_stands.specs.Standing.{HeapStandsFor, with_taken_marked}
use Rattle.sdr_base.specs.Entries.{Adds, Changes}
use Rattle.sdr_base.specs.Lists.{ListElement, addr_of, list_entries}
use Rattle.sdr_base.specs.Making.{Made, MakesThing}
use Rattle.sdr_base.specs.Objects.{Heap, OnlyShort}
use Rattle.sdr_base.specs.declared.kind.Kind.TheVariants as kinds
use Rattle.sdr_base.specs.declared.moves.Move.{Move}
use Rattle.sdr_base.specs.declared.moves.Move.TheVariants.{Gave, Took}
use Rattle.sdr_base.specs.declared.refusal.Refusal.{Refusal}
use Rattle.sdr_base.specs.declared.refusal.Refusal.TheVariants as refusals
use Rattle.sdr_base.specs.declared.stop.Stop.TheVariants as stops
use Rattle.law_steps.proofs.EditLemmas.{map-insert, map-remove}
use Rattle.sdr_list.specs.Calls.{ChangeStops, DeletesElement, InsertStops, InsertsBeside, InsertsInList, SetsInElement, SetsInList}
use Rattle.sdr_list.specs.Destroying.{DestroyStops, DestroysList}
use Rattle.sdr_list.specs.Kept.{with_datum, with_element, without_element}
use Rattle.sdr_list.specs.Orders as blocks
use Rattle.sdr_list.specs.Preorders.{key_order}
use Rattle.sdr_list.specs.declared.orders.ListKeys.{ListKeys as Order}
use Rattle.sdr_machine.proofs.WorkLemmas.{on_some}
use Rattle.sdr_model.specs.ListSteps as steps
use Rattle.sdr_model.specs.ListSteps.{Inserts, as_list}
use Rattle.sdr_model.specs.Reading.{is_reading}
use Rattle.sdr_model.specs.Rows.{ByRow}
use Rattle.sdr_model.specs.Steps.{Does, On, Outcome, gave, taken_addresses, with_thing, without_thing}
use Rattle.sdr_model.specs.Things.{Spot, element_need, list_need}
use Rattle.sdr_model.specs.World.{World, spot_of, thing_at}
use Rattle.sdr_model.specs.declared.answer.Reply.TheVariants as replies
use Rattle.sdr_model.specs.declared.call.Call.{Call}
use Rattle.sdr_model.specs.declared.call.Call.TheVariants as calls
use Rattle.sdr_model.specs.declared.keys.Keys.{Keys}
use Rattle.sdr_model.specs.declared.things.Element.{Element}
use Rattle.sdr_model.specs.declared.things.SdrList.{SdrList}
use Rattle.sdr_model.specs.declared.things.Thing.TheVariants as things

-- the list with a new element at a place
abbrev inserted_row : SdrList → ℕ → ℕ → ℕ → SdrList
inserted_row row place addr datum = record row { elements = insert row.elements place (record { block = addr; datum = datum }) }

-- an element was inserted
abbrev insert_outcome : World → ℕ → SdrList → ℕ → ℕ → ℕ → Outcome
insert_outcome w list row place datum addr = record {
  moves = Took element_need addr ∷ [];
  after = with_taken_marked (with_thing w list (things.List (inserted_row row place addr datum))) (Took element_need addr ∷ []);
  reply = replies.At addr;
}

inserts_row : (w : World) (list : ℕ) (row : SdrList) (place datum addr : ℕ)
    → Inserts w (insert_outcome w list row place datum addr) list row place datum
inserts_row w list row place datum addr = (refl, (refl, refl))

-- a call on a heap that stands for a world in which it is served
module _ (old new : Heap) (w : World) (unmoved : old.moves ≡ []) (s : HeapStandsFor old w) (served : IsReady w)
    (small : IsSmall old) where
  -- a list became another, by moves that take nothing
  list_becomes : (call : Call) (list : ℕ) (row other : SdrList) (moves : List Move) → taken_addresses moves ≡ []
      → thing_at w list ≡ Some (things.List row)
      → Moved w moves old new
      → Changes old.blocks new.blocks (list_entries list (list_row row)) (list_entries list (list_row other))
      → ((o : Outcome) → Does o moves (with_thing w list (things.List other)) replies.Done → ByRow w o call)
      → Answered w call new [] replies.Done
  list_becomes call list row other moves none there moved change by_row =
      thing_changed w call list (things.List row) (things.List other) moves replies.Done old new there tt tt s moved change
      (by_row _ (refl, marks_none (with_thing w list (things.List other)) moves none, refl)) refl

  -- an element came into a list
  element_came : (call : Call) (list : ℕ) (row : SdrList) (place datum addr : ℕ) → thing_at w list ≡ Some (things.List row)
      → Adds old.blocks new.blocks addr (list_entries list (list_row row))
      (list_entries list (with_element (list_row row) place addr datum))
      → Made (Took element_need addr ∷ []) old new → ByRow w (insert_outcome w list row place datum addr) call
      → Answered w call new [] (replies.At addr)
  element_came call list row place datum addr there adds made by_row =
      let same : with_element (list_row row) place addr datum ≡ list_row (inserted_row row place addr datum) =
      ap (λ (es : List ListElement). record { user = row.user; elements = es })
      (sym (map-insert element_row row.elements place (record { block = addr; datum = datum }))) in
      let change : Changes old.blocks new.blocks (list_entries list (list_row row))
      (list_entries list (list_row (inserted_row row place addr datum))) =
      subst (λ r. Changes old.blocks new.blocks (list_entries list (list_row row)) (list_entries list r)) same adds.changes in
      thing_changed w call list (things.List row) (things.List (inserted_row row place addr datum)) (Took element_need addr ∷ [])
      (replies.At addr) old new
      there tt tt s (took_one w element_need addr old new s served.whole.valid unmoved adds.fresh adds.nonzero adds.small made)
      change by_row refl

  -- into one that is named, at a place that is found from it
  pub inserted_in : (call : Call) (list : ℕ) (place : _) (place' : SdrList → ℕ) (datum addr : ℕ)
      → ((o : Outcome) → steps.InsertAt w o list place' datum → ByRow w o call) → InsertsInList list place datum addr old new
      → ((row : SdrList) → place (list_row row) ≡ place' row) → Answered w call new [] (replies.At addr)
  inserted_in call list place place' datum addr row inserts alike =
      let l = list_is_at old w list s served small inserts.kind in
      element_came call list l.row (place' l.row) datum addr l.there
      (subst (λ (p : ℕ). Adds old.blocks new.blocks addr (list_entries list (list_row l.row))
      (list_entries list (with_element (list_row l.row) p addr datum)))
      (alike l.row) (inserts.adds (list_row l.row) l.keeps))
      inserts.made
      (row _ (on_some _ _ (as_list (thing_at w list)) l.row (ap as_list l.there)
      (inserts_row w list l.row (place' l.row) datum addr)))

  -- or beside an element
  pub inserted_beside : (call : Call) (element : ℕ) (place : ℕ → ℕ) (datum addr : ℕ)
      → ((o : Outcome) → steps.InsertBeside w o element place datum → ByRow w o call)
      → InsertsBeside element place datum addr old new
      → Answered w call new [] (replies.At addr)
  inserted_beside call element place datum addr row inserts =
      let e = spot_is_at old w element s served small inserts.kind in
      element_came call e.spot.list e.spot.row (place e.spot.place) datum addr e.there (inserts.adds _ e.keeps) inserts.made
      (row _ (on_some _ _ (spot_of w element) e.spot e.found
      (inserts_row w e.spot.list e.spot.row (place e.spot.place) datum addr)))

  -- why none came into a list
  pub insert_refused_in : (call : Call) (list : ℕ) (place : SdrList → ℕ) (datum : ℕ) (was : List ℕ) (refusal : Refusal)
      → ((o : Outcome) → steps.InsertAt w o list place datum → ByRow w o call) → is_reading call ≡ false
      → InsertStops kinds.List list old new (stops.Refused refusal) → IsRefused w call old new was was refusal
  insert_refused_in call list place datum was (refusals.BadAddress bad) row changing m =
      list_missed old new w unmoved s served small call list _ was (refusals.BadAddress bad) m.1 row m.0
  insert_refused_in call list place datum was (refusals.WrongKind bad number) row changing m =
      list_missed old new w unmoved s served small call list _ was (refusals.WrongKind bad number) m.1 row m.0
  insert_refused_in call list place datum was refusal row changing m =
      let l = list_is_at old w list s served small m.0 in
      short_refused w call element_need old new was refusal changing
      (record {
        after = _;
        reply = _;
        row = row _ (on_some _ _ (as_list (thing_at w list)) l.row (ap as_list l.there)
            (inserts_row w list l.row (place l.row) datum 0));
        answered = refl;
      }) unmoved m.1

  -- or beside an element
  pub insert_refused_beside : (call : Call) (element : ℕ) (place : ℕ → ℕ) (datum : ℕ) (was : List ℕ) (refusal : Refusal)
      → ((o : Outcome) → steps.InsertBeside w o element place datum → ByRow w o call) → is_reading call ≡ false
      → InsertStops kinds.Element element old new (stops.Refused refusal) → IsRefused w call old new was was refusal
  insert_refused_beside call element place datum was (refusals.BadAddress bad) row changing m =
      element_missed old new w unmoved s served small call element _ was (refusals.BadAddress bad) m.1 row m.0
  insert_refused_beside call element place datum was (refusals.WrongKind bad number) row changing m =
      element_missed old new w unmoved s served small call element _ was (refusals.WrongKind bad number) m.1 row m.0
  insert_refused_beside call element place datum was refusal row changing m =
      let e = spot_is_at old w element s served small m.0 in
      short_refused w call element_need old new was refusal changing
      (record {
        after = _;
        reply = _;
        row = row _ (on_some _ _ (spot_of w element) e.spot e.found
            (inserts_row w e.spot.list e.spot.row (place e.spot.place) datum 0));
        answered = refl;
      }) unmoved m.1

  -- the place of an element in order
  pub ordered_answered : (list datum : ℕ) (keys : Keys) (order : Order) (addr : ℕ) → Sorts keys order
      → InsertsInList list (blocks.ordered_place (key_order order) old.blocks datum) datum addr old new
      → Answered w (calls.InsertOrdered list datum keys) new [] (replies.At addr)
  ordered_answered list datum keys order addr sorts inserts =
      inserted_in (calls.InsertOrdered list datum keys) list (blocks.ordered_place (key_order order) old.blocks datum)
      (steps.ordered_place w (steps.compare_keys keys) datum) datum addr (λ o h. h) inserts
      (λ row. ap (λ by. blocks.ordered_place by old.blocks datum (list_row row)) (order_is keys order sorts)
      ∙ ordered_place_is old w (steps.compare_keys keys) datum row s served.whole.valid)

  -- why a list isn't changed
  pub change_refused_in : (call : Call) (list : ℕ) (goes : Outcome → SdrList → Type 0) (was : List ℕ) (refusal : Refusal)
      → ((o : Outcome) → On w o list (as_list (thing_at w list)) (goes o) → ByRow w o call) → is_reading call ≡ false
      → (IsListAt old w list → Aim w call) → ChangeStops kinds.List list old new (stops.Refused refusal)
      → IsRefused w call old new was was refusal
  change_refused_in call list goes was (refusals.BadAddress bad) row changing aim m =
      list_missed old new w unmoved s served small call list goes was (refusals.BadAddress bad) m.1 row m.0
  change_refused_in call list goes was (refusals.WrongKind bad number) row changing aim m =
      list_missed old new w unmoved s served small call list goes was (refusals.WrongKind bad number) m.1 row m.0
  change_refused_in call list goes was refusal row changing aim m =
      full_refused w call old new was refusal changing (aim (list_is_at old w list s served small m.0)) m.1

  -- why that of an element isn't
  pub change_refused_of : (call : Call) (element : ℕ) (goes : Outcome → Spot → Type 0) (was : List ℕ) (refusal : Refusal)
      → ((o : Outcome) → On w o element (spot_of w element) (goes o) → ByRow w o call) → is_reading call ≡ false
      → (IsSpotAt old w element → Aim w call) → ChangeStops kinds.Element element old new (stops.Refused refusal)
      → IsRefused w call old new was was refusal
  change_refused_of call element goes was (refusals.BadAddress bad) row changing aim m =
      element_missed old new w unmoved s served small call element goes was (refusals.BadAddress bad) m.1 row m.0
  change_refused_of call element goes was (refusals.WrongKind bad number) row changing aim m =
      element_missed old new w unmoved s served small call element goes was (refusals.WrongKind bad number) m.1 row m.0
  change_refused_of call element goes was refusal row changing aim m =
      full_refused w call old new was refusal changing (aim (spot_is_at old w element s served small m.0)) m.1

  -- the user's number was set
  pub user_set : (list user : ℕ) → SetsInList list (λ row. record row { user = user }) old new
      → Answered w (calls.SetListUser list user) new [] replies.Done
  user_set list user sets =
      let l = list_is_at old w list s served small sets.kind in
      list_becomes (calls.SetListUser list user) list l.row (record l.row { user = user }) [] refl l.there
      (moved_nothing w old new unmoved sets.same) (sets.changes (list_row l.row) l.keeps)
      (λ o does. on_some _ _ (as_list (thing_at w list)) l.row (ap as_list l.there) does)

  pub user_refused : (list user : ℕ) (was : List ℕ) (refusal : Refusal)
      → ChangeStops kinds.List list old new (stops.Refused refusal)
      → IsRefused w (calls.SetListUser list user) old new was was refusal
  user_refused list user was refusal m =
      change_refused_in (calls.SetListUser list user) list _ was refusal (λ o h. h) refl
      (λ l. record {
        to = record {
          moves = [];
          after = record (with_thing w list (things.List (record l.row { user = user }))) { shown = [] };
          reply = replies.Done;
        };
        row = on_some _ _ (as_list (thing_at w list)) l.row (ap as_list l.there) (refl, refl, refl);
        answered = refl;
      }) m

  -- an element's datum was set
  abbrev datum_row : SdrList → ℕ → ℕ → ℕ → SdrList
  datum_row row place element datum = record row { elements = set row.elements place (record { block = element; datum = datum }) }

  pub datum_set : (element datum : ℕ) → SetsInElement element (λ spot. with_datum spot.row spot.place element datum) old new
      → Answered w (calls.SetDatum element datum) new [] replies.Done
  datum_set element datum sets =
      let e = spot_is_at old w element s served small sets.kind in
      let same : with_datum (list_row e.spot.row) e.spot.place element datum ≡ list_row
      (datum_row e.spot.row e.spot.place element datum) =
      ap (λ (es : List ListElement). record { user = e.spot.row.user; elements = es })
      (sym (map-set element_row e.spot.row.elements e.spot.place (record { block = element; datum = datum }))) in
      list_becomes (calls.SetDatum element datum) e.spot.list e.spot.row (datum_row e.spot.row e.spot.place element datum) [] refl
      e.there
      (moved_nothing w old new unmoved sets.same)
      (subst (λ r. Changes old.blocks new.blocks (list_entries e.spot.list (list_row e.spot.row)) (list_entries e.spot.list r))
      same (sets.changes _ e.keeps))
      (λ o does. on_some _ _ (spot_of w element) e.spot e.found does)

  pub datum_refused : (element datum : ℕ) (was : List ℕ) (refusal : Refusal)
      → ChangeStops kinds.Element element old new (stops.Refused refusal)
      → IsRefused w (calls.SetDatum element datum) old new was was refusal
  datum_refused element datum was refusal m =
      change_refused_of (calls.SetDatum element datum) element _ was refusal (λ o h. h) refl
      (λ e. record {
        to = record {
          moves = [];
          after = record (with_thing w e.spot.list (things.List (datum_row e.spot.row e.spot.place element datum)))
              { shown = [] };
          reply = replies.Done;
        };
        row = on_some _ _ (spot_of w element) e.spot e.found (refl, refl, refl);
        answered = refl;
      }) m

  -- an element went out of its list
  abbrev shorter_row : SdrList → ℕ → SdrList
  shorter_row row place = record row { elements = remove row.elements place }

  pub deleted : (element : ℕ) → DeletesElement element old new → Answered w (calls.Delete element) new [] replies.Done
  deleted element deletes =
      let e = spot_is_at old w element s served small deletes.kind in
      let same : without_element (list_row e.spot.row) e.spot.place ≡ list_row (shorter_row e.spot.row e.spot.place) =
      ap (λ (es : List ListElement). record { user = e.spot.row.user; elements = es })
      (sym (map-remove element_row e.spot.row.elements e.spot.place)) in
      list_becomes (calls.Delete element) e.spot.list e.spot.row (shorter_row e.spot.row e.spot.place) (Gave element ∷ []) refl
      e.there
      (gave_back w (element ∷ []) old new unmoved deletes.made)
      (subst (λ r. Changes old.blocks new.blocks (list_entries e.spot.list (list_row e.spot.row)) (list_entries e.spot.list r))
      same (deletes.changes _ e.keeps))
      (λ o does. on_some _ _ (spot_of w element) e.spot e.found does)

  pub delete_refused : (element : ℕ) (was : List ℕ) (refusal : Refusal)
      → ChangeStops kinds.Element element old new (stops.Refused refusal)
      → IsRefused w (calls.Delete element) old new was was refusal
  delete_refused element was refusal m =
      change_refused_of (calls.Delete element) element _ was refusal (λ o h. h) refl
      (λ e. record {
        to = record {
          moves = Gave element ∷ [];
          after = record (with_thing w e.spot.list (things.List (shorter_row e.spot.row e.spot.place))) { shown = [] };
          reply = replies.Done;
        };
        row = on_some _ _ (spot_of w element) e.spot e.found (refl, refl, refl);
        answered = refl;
      }) m

  -- a list went with its elements
  abbrev blocks_in : ℕ → SdrList → List ℕ
  blocks_in list row = map (λ (e : Element). e.block) row.elements ++ list ∷ []

  pub destroyed : (list : ℕ) → DestroysList list old new → Answered w (calls.ListDestroy list) new [] replies.Done
  destroyed list destroys =
      let l = list_is_at old w list s served small destroys.kind in
      let made : Made (gave (blocks_in list l.row)) old new =
      subst (λ (addrs : List ℕ). Made (gave (addrs ++ list ∷ [])) old new) (map-map addr_of element_row l.row.elements)
      (destroys.made (list_row l.row) l.keeps) in
      thing_went w (calls.ListDestroy list) list (things.List l.row) (gave (blocks_in list l.row)) replies.Done old new l.there tt
      s
      (gave_back w (blocks_in list l.row) old new unmoved made) (destroys.changes (list_row l.row) l.keeps)
      (on_some _ _ (as_list (thing_at w list)) l.row (ap as_list l.there)
      (refl, marks_none (without_thing w list) (gave (blocks_in list l.row)) (gave_takes (blocks_in list l.row)), refl)) refl

  pub destroy_refused : (list : ℕ) (was : List ℕ) (refusal : Refusal) → DestroyStops list old new (stops.Refused refusal)
      → IsRefused w (calls.ListDestroy list) old new was was refusal
  destroy_refused list was (refusals.BadAddress bad) m =
      list_missed old new w unmoved s served small (calls.ListDestroy list) list _ was (refusals.BadAddress bad) m.1 (λ o h. h)
      m.0
  destroy_refused list was (refusals.WrongKind bad number) m =
      list_missed old new w unmoved s served small (calls.ListDestroy list) list _ was (refusals.WrongKind bad number) m.1
      (λ o h. h) m.0
  destroy_refused list was (refusals.LogFull lines room) m = record {
    step =
        let l = list_is_at old w list s served small m.kind in (
          record {
            to = record {
              moves = gave (blocks_in list l.row);
              after = record (without_thing w list) { shown = [] };
              reply =
                  replies.Done;
            };
            row = on_some _ _ (as_list (thing_at w list)) l.row (ap as_list l.there) (refl, refl, refl);
            answered = refl;
          },
          refl,
        );
    left = λ reads. absurd (true≢false (sym reads));
    gave = refl;
  }
  destroy_refused list was refusal m = absurd m

  -- a list was made
  pub list_made : (user addr : ℕ) → MakesThing list_need addr (list_entries addr (record { user = user; elements = [] })) old new
      → Answered w (calls.List user) new [] (replies.At addr)
  list_made user addr makes =
      thing_made w (calls.List user) list_need addr (things.List (record {
        user =
            user;
        elements = [];
      })) old new unmoved s served.whole.valid tt makes
      (refl, (refl, refl))

  pub list_unmade : (user : ℕ) (was : List ℕ) (refusal : Refusal) → OnlyShort list_need old new (stops.Refused refusal)
      → IsRefused w (calls.List user) old new was was refusal
  list_unmade user was refusal m =
      short_refused w (calls.List user) list_need old new was refusal refl
      (record { after = _; reply = replies.At 0; row = (refl, (refl, refl)); answered = refl }) unmoved m
