-- Calls that read lists and elements, as steps.
use Rattle.std.proofs.Common.{◌≡◌, ◌∙◌, ◌+◌, ℕ, List, [], true, refl, sym, ap, length}
use Rattle.std.proofs.lemmas.List.{length-map}
use Rattle.step_things.proofs.AddressLemmas.{addr_before_is, addr_from_is, last_addr_is}
use Rattle.step_things.proofs.ListLemmas.{IsSmall, list_is_at, no_list}
use Rattle.step_things.proofs.RowLemmas.{looked, misnamed_refused}
use Rattle.step_things.proofs.SortingLemmas.{equal_addr_is, order_is}
use Rattle.step_things.proofs.SpotLemmas.{IsSpotAt, no_spot, spot_is_at}
use Rattle.step_things.specs.Answering.{Answered, IsRefused, IsReady}
use Rattle.step_things.specs.Sorting.{Sorts}
use Rattle.sdr_stands.specs.Rows.{element_row, list_row}
use Rattle.sdr_stands.specs.Standing.{HeapStandsFor}
use Rattle.sdr_base.specs.Linked.{first_of, last_of}
use Rattle.sdr_base.specs.Lists.{ListRow, addr_of}
use Rattle.sdr_base.specs.Objects.{Heap, Misses}
use Rattle.sdr_base.specs.declared.kind.Kind.TheVariants as kinds
use Rattle.sdr_base.specs.declared.refusal.Refusal.{Refusal}
use Rattle.sdr_base.specs.declared.stop.Stop.TheVariants as stops
use Rattle.sdr_list.specs.Calls.{TellsOfElement, TellsOfList}
use Rattle.sdr_list.specs.Kept.{Spot as Place, addr_before, addr_from}
use Rattle.sdr_list.specs.Orders as blocks
use Rattle.sdr_list.specs.Preorders.{key_order}
use Rattle.sdr_list.specs.declared.orders.ListKeys.{ListKeys as Order}
use Rattle.sdr_model.specs.ListSteps as steps
use Rattle.sdr_model.specs.ListSteps.{as_list, datum_at, datum_of, element_addr, last_addr}
use Rattle.sdr_model.specs.Rows.{ByRow}
use Rattle.sdr_model.specs.Step.{is_answer}
use Rattle.sdr_model.specs.Steps.{On, Outcome, ReadsBytes}
use Rattle.sdr_model.specs.Things.{Spot}
use Rattle.sdr_model.specs.World.{World, spot_of, thing_at}
use Rattle.sdr_model.specs.declared.answer.Reply.{Reply}
use Rattle.sdr_model.specs.declared.answer.Reply.TheVariants as replies
use Rattle.sdr_model.specs.declared.call.Call.{Call}
use Rattle.sdr_model.specs.declared.call.Call.TheVariants as calls
use Rattle.sdr_model.specs.declared.keys.Keys.{Keys}
use Rattle.sdr_model.specs.declared.things.SdrList.{SdrList}

-- a call on a heap that stands for a world in which it is served
module _ (old new : Heap) (w : World) (unmoved : old.moves ≡ []) (s : HeapStandsFor old w) (served : IsReady w)
    (small : IsSmall old) where
  -- a number that was read off a list is the machine's
  list_told : (call : Call) (list value : ℕ) (of : ListRow → ℕ) (is : SdrList → ℕ) (say : ℕ → Reply) → new ≡ old
      → ((o : Outcome) → On w o list (as_list (thing_at w list)) (λ row. ReadsBytes w o [] (say (is row))) →
      ByRow w o call)
      → TellsOfList list of old.blocks value → ((row : SdrList) → of (list_row row) ≡ is row) → is_answer (say value) ≡ true
      → Answered w call new [] (say value)
  list_told call list value of is say same row told alike answered =
      let l = list_is_at old w list s served small told.kind in
      looked w call list (as_list (thing_at w list)) (λ x. []) (λ x. say (is x)) l.row old new (say value) row
      (ap as_list l.there)
      (ap say (told.tells (list_row l.row) l.keeps ∙ alike l.row)) answered unmoved same s

  -- and so is one that was read off an element
  element_told : (call : Call) (element value : ℕ) (of : Place → ℕ) (is : Spot → ℕ) (say : ℕ → Reply) → new ≡ old
      → ((o : Outcome) → On w o element (spot_of w element) (λ spot. ReadsBytes w o [] (say (is spot))) →
      ByRow w o call)
      → TellsOfElement element of old.blocks value
      → ((e : IsSpotAt old w element)
      → of (record { list = e.spot.list; row = list_row e.spot.row; place = e.spot.place; datum = e.datum }) ≡ is e.spot)
      → is_answer (say value) ≡ true → Answered w call new [] (say value)
  element_told call element value of is say same row told alike answered =
      let e = spot_is_at old w element s served small told.kind in
      looked w call element (spot_of w element) (λ x. []) (λ x. say (is x)) e.spot old new (say value) row e.found
      (ap say (told.tells _ e.keeps ∙ alike e)) answered unmoved same s

  pub list_length_answered : (list value : ℕ) → new ≡ old → TellsOfList list (λ row. length row.elements) old.blocks value
      → Answered w (calls.ListLength list) new [] (replies.Value value)
  list_length_answered list value same told =
      list_told (calls.ListLength list) list value (λ row. length row.elements) (λ row. length row.elements)
      (λ n. replies.Value n) same (λ o h. h) told
      (λ row. length-map row.elements element_row) refl

  pub list_user_answered : (list value : ℕ) → new ≡ old → TellsOfList list (λ row. row.user) old.blocks value
      → Answered w (calls.ListUser list) new [] (replies.Value value)
  list_user_answered list value same told =
      list_told (calls.ListUser list) list value (λ row. row.user) (λ row. row.user) (λ n. replies.Value n) same (λ o h. h) told
      (λ row. refl) refl

  pub first_answered : (list addr : ℕ) → new ≡ old → TellsOfList list (λ row. first_of addr_of 0 row.elements) old.blocks addr
      → Answered w (calls.First list) new [] (replies.At addr)
  first_answered list addr same told =
      list_told (calls.First list) list addr (λ row. first_of addr_of 0 row.elements) (λ row. element_addr row.elements 0)
      (λ n. replies.At n) same
      (λ o h. h) told (λ row. addr_from_is row.elements 0) refl

  pub last_answered : (list addr : ℕ) → new ≡ old → TellsOfList list (λ row. last_of addr_of 0 row.elements) old.blocks addr
      → Answered w (calls.Last list) new [] (replies.At addr)
  last_answered list addr same told =
      list_told (calls.Last list) list addr (λ row. last_of addr_of 0 row.elements) (λ row. last_addr row.elements)
      (λ n. replies.At n) same
      (λ o h. h) told (λ row. last_addr_is row.elements) refl

  pub search_answered : (list datum : ℕ) (keys : Keys) (order : Order) (addr : ℕ) → new ≡ old → Sorts keys order
      → TellsOfList list (blocks.equal_addr (key_order order) old.blocks datum) old.blocks addr
      → Answered w (calls.Search list datum keys) new [] (replies.At addr)
  search_answered list datum keys order addr same sorts told =
      list_told (calls.Search list datum keys) list addr (blocks.equal_addr (key_order order) old.blocks datum)
      (steps.equal_addr w (steps.compare_keys keys) datum) (λ n. replies.At n) same (λ o h. h) told
      (λ row. ap (λ by. blocks.equal_addr by old.blocks datum (list_row row)) (order_is keys order sorts)
      ∙ equal_addr_is old w (steps.compare_keys keys) datum row s served.whole.valid) refl

  pub next_answered : (element addr : ℕ) → new ≡ old
      → TellsOfElement element (λ spot. addr_from spot.row (spot.place + 1)) old.blocks addr
      → Answered w (calls.Next element) new [] (replies.At addr)
  next_answered element addr same told =
      element_told (calls.Next element) element addr (λ spot. addr_from spot.row (spot.place + 1))
      (λ x. element_addr x.row.elements (x.place + 1))
      (λ n. replies.At n) same (λ o h. h) told (λ e. addr_from_is e.spot.row.elements (e.spot.place + 1)) refl

  pub prev_answered : (element addr : ℕ) → new ≡ old
      → TellsOfElement element (λ spot. addr_before spot.row spot.place) old.blocks addr
      → Answered w (calls.Prev element) new [] (replies.At addr)
  prev_answered element addr same told =
      element_told (calls.Prev element) element addr (λ spot. addr_before spot.row spot.place) steps.addr_before
      (λ n. replies.At n) same
      (λ o h. h) told (λ e. addr_before_is e.spot.row.elements e.spot.place e.within) refl

  pub datum_answered : (element value : ℕ) → new ≡ old → TellsOfElement element (λ spot. spot.datum) old.blocks value
      → Answered w (calls.Datum element) new [] (replies.Value value)
  datum_answered element value same told =
      element_told (calls.Datum element) element value (λ spot. spot.datum) (λ x. datum_at x.row.elements x.place)
      (λ n. replies.Value n) same
      (λ o h. h) told (λ e. sym (ap datum_of e.here)) refl

  -- the address of what is no list is refused
  pub list_missed : (call : Call) (list : ℕ) (goes : Outcome → SdrList → Type 0) (was : List ℕ) (refusal : Refusal) → new ≡ old
      → ((o : Outcome) → On w o list (as_list (thing_at w list)) (goes o) → ByRow w o call)
      → Misses (old.blocks list) list kinds.List (stops.Refused refusal) → IsRefused w call old new was was refusal
  list_missed call list goes was refusal same row m =
      misnamed_refused w call list kinds.List (as_list (thing_at w list)) goes old new was row
      (no_list old w list s served.whole.valid)
      unmoved same s served.whole.valid refusal m

  -- and that of what is no element
  pub element_missed : (call : Call) (element : ℕ) (goes : Outcome → Spot → Type 0) (was : List ℕ) (refusal : Refusal) → new ≡ old
      → ((o : Outcome) → On w o element (spot_of w element) (goes o) → ByRow w o call)
      → Misses (old.blocks element) element kinds.Element (stops.Refused refusal) → IsRefused w call old new was was refusal
  element_missed call element goes was refusal same row m =
      misnamed_refused w call element kinds.Element (spot_of w element) goes old new was row
      (no_spot old w element s served small)
      unmoved same s served.whole.valid refusal m
