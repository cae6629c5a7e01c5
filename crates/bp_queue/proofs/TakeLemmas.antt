-- The first one of the highest class is taken: what that makes of the state.
use Rattle.std.proofs.Common.{◌≡◌, ℕ, List, [], ◌∷◌, ◌++◌, Option, Some, None, not, refl, sym, ap, ◌∙◌, subst}
use Rattle.std.specs.Prelude.{◌==◌, filter, map, option_map}
use Rattle.std.specs.Option.{option_or}
use Rattle.sdr_base.specs.Making.{GaveSome, Made, gave}
use Rattle.sdr_base.specs.Objects.{Heap, OnlyFault}
use Rattle.sdr_base.specs.declared.refusal.Refusal.TheVariants as refusals
use Rattle.sdr_base.specs.declared.stop.Stop.{Stop}
use Rattle.sdr_base.specs.declared.stop.Stop.TheVariants.{Refused, DiskFault, MediaFault, Failed}
use Rattle.sdr_base.proofs.GaveLemmas.{none_made}
use Rattle.bp_queue.specs.Calls.{Tells, highest_item}
use Rattle.bp_queue.specs.Classes.{is_class}
use Rattle.bp_queue.specs.Kept.{KeepsQueues, Row, SomeQueues, state_of, waiting_of}
use Rattle.bp_queue.specs.Removing.{RemoveStops, RemovesItem, SomeItem}
use Rattle.bp_queue.specs.Runs.{QueueStep, Takes}
use Rattle.bp_queue.specs.Sorting.{first, sorted_by}
use Rattle.bp_queue.specs.States.{Waiting, class_of, except, highest, itself, object_of, ranks_as, without}
use Rattle.bp_queue.specs.Taking.{TakeStops, TakesFirst, blocks_of}
use Rattle.bp_queue.specs.declared.class.Class.{Class}
use Rattle.bp_queue.specs.declared.class.Class.TheVariants as classes
use Rattle.bp_queue.specs.declared.queues.Queues.{Queues}
use Rattle.bp_queue.proofs.FirstLemmas.{is_item, no_row, some_item, some_row, split_among}
use Rattle.bp_queue.proofs.FitLemmas.{rows_apart, without_between}
use Rattle.bp_queue.proofs.SortingLemmas.{Apart, map-filter, map-sorted}
use Rattle.bp_queue.proofs.StateLemmas.{Differ, highest_among}

-- the first one of the rows of a class is that of the state
first-map : (rows : List Row) → first (map waiting_of rows) ≡ option_map waiting_of (first rows)
first-map [] = refl
first-map (r ∷ rows) = refl

class_of-state : (class : Class) (rows : List Row) → class_of itself class (state_of rows) ≡ state_of (class_of waiting_of class rows)
class_of-state class rows =
    sym (map-sorted waiting_of ranks_as (filter (λ r. is_class class r.waiting.class) rows)
    ∙ ap (sorted_by ranks_as) (map-filter waiting_of (λ w. is_class class w.class) rows))

or-map : (o p : Option Row) → option_map waiting_of (option_or o p) ≡ option_or (option_map waiting_of o) (option_map waiting_of p)
or-map None p = refl
or-map (Some r) p = refl

first_of-state : (class : Class) (rows : List Row) →
    first (class_of itself class (state_of rows)) ≡ option_map waiting_of (first (class_of waiting_of class rows))
first_of-state class rows = ap first (class_of-state class rows) ∙ first-map (class_of waiting_of class rows)

pub highest-state : (rows : List Row) → highest itself (state_of rows) ≡ option_map waiting_of (highest waiting_of rows)
highest-state rows =
    let u = first_of-state classes.Urgent rows in
    let n = first_of-state classes.Normal rows in
    let b = first_of-state classes.Bulk rows in
    let each : highest itself (state_of rows)
    ≡ option_or (option_map waiting_of (first (class_of waiting_of classes.Urgent rows)))
    (option_or (option_map waiting_of (first (class_of waiting_of classes.Normal rows)))
    (option_map waiting_of (first (class_of waiting_of classes.Bulk rows)))) =
    λ i. option_or (u i) (option_or (n i) (b i)) in
    each
    ∙ ap (option_or (option_map waiting_of (first (class_of waiting_of classes.Urgent rows))))
    (sym (or-map (first (class_of waiting_of classes.Normal rows)) (first (class_of waiting_of classes.Bulk rows))))
    ∙ sym (or-map (first (class_of waiting_of classes.Urgent rows))
    (option_or (first (class_of waiting_of classes.Normal rows)) (first (class_of waiting_of classes.Bulk rows))))

pub without-state : (object : ℕ) (rows : List Row) → without itself object (state_of rows) ≡ state_of (without waiting_of object rows)
without-state object rows = sym (map-filter waiting_of (λ w. not (w.object == object)) rows)

except-state : (o : Option Row) (rows : List Row) → except itself (option_map waiting_of o) (state_of rows) ≡ state_of (except waiting_of o rows)
except-state None rows = refl
except-state (Some r) rows = without-state r.waiting.object rows

object-state : (o : Option Row) → object_of itself (option_map waiting_of o) ≡ object_of waiting_of o
object-state None = refl
object-state (Some r) = refl

-- a take is a step of the state
takes_step : (rows : List Row) (object : ℕ) → object ≡ object_of waiting_of (highest waiting_of rows) →
    QueueStep (state_of rows) (Takes object) (state_of (except waiting_of (highest waiting_of rows) rows))
takes_step rows object e =
    let h = highest-state rows in (
      e ∙ sym (ap (object_of itself) h ∙ object-state (highest waiting_of rows)),
      sym (ap (λ (o : Option Waiting). except itself o (state_of rows)) h ∙ except-state (highest waiting_of rows) rows),
    )

module _ {q : Queues} (old : Heap) where
  -- none waits
  pub takes_none : Tells q highest_item old.blocks None → TakesFirst q old old 0
  takes_none t = record {
    takes = λ next rows rest k.
        let none = no_row (highest waiting_of rows) (t.tells next rows rest k) in
        record {
          keeps =
              subst (λ (o : Option Row). KeepsQueues old.blocks q next (except waiting_of o rows) rest) (sym none) k;
          made = subst (λ (o : Option Row). Made (gave (blocks_of o)) old old) (sym none) (none_made old);
          named = sym (ap (object_of waiting_of) none);
          step = takes_step rows 0 (sym (ap (object_of waiting_of) none));
        };
  }

  module _ {item : ℕ} (t : Tells q highest_item old.blocks (Some item)) where
    -- the item is one of the queues
    pub highest_there : SomeQueues old.blocks q → SomeItem old.blocks item
    highest_there s =
        let f = some_row (highest waiting_of s.rows) item (t.tells s.next s.rows s.rest s.keeps) in
        some_item s.keeps f.0 (highest_among waiting_of f.0 s.rows f.1) f.2

    -- it has gone
    pub takes_one : {new : Heap} {object : ℕ} → RemovesItem item old new object → TakesFirst q old new object
    takes_one {new} {object} m = record {
      takes = λ next rows rest k.
          let f = some_row (highest waiting_of rows) item (t.tells next rows rest k) in
          let a = highest_among waiting_of f.0 rows f.1 in
          let s = split_among f.0 rows a in
          let g = m.removes q next s.0 f.0 s.1 rest (is_item k f.0 a f.2) in
          let fewer : s.0 ++ s.1 ≡ except waiting_of (highest waiting_of rows) rows =
          sym (ap (λ (o : Option Row). except waiting_of o rows) f.1
          ∙ ap (without waiting_of f.0.waiting.object) s.2
          ∙ without_between s.0 s.1 f.0 (subst (Apart (Differ waiting_of)) s.2 (rows_apart k.fits))) in
          let named : object ≡ object_of waiting_of (highest waiting_of rows) = g.named ∙ sym (ap (object_of waiting_of) f.1) in
          record {
            keeps = subst (λ (xs : List Row). KeepsQueues new.blocks q next xs rest) fewer g.keeps;
            made = subst (λ (o : Option Row). Made (gave (blocks_of o)) old new) (sym f.1) g.made;
            named = named;
            step = takes_step rows object named;
          };
    }

    pub take_stops : (new : Heap) (stop : Stop) → RemoveStops item old new stop → TakeStops q old new stop
    take_stops new (Refused (refusals.LogFull lines room)) u = record {
      gives = λ next rows rest k.
          let f = some_row (highest waiting_of rows) item (t.tells next rows rest k) in
          let a = highest_among waiting_of f.0 rows f.1 in
          let s = split_among f.0 rows a in
          subst (λ (o : Option Row). GaveSome (blocks_of o) old new) (sym f.1) (u.gives q next s.0 f.0 s.1 rest (is_item k f.0 a f.2));
    }
    take_stops new (Refused refusal) u = u
    take_stops new DiskFault u = u
    take_stops new MediaFault u = u
    take_stops new Failed u = u

pub take_missed : (q : Queues) (old new : Heap) (stop : Stop) → OnlyFault stop → TakeStops q old new stop
take_missed q old new (Refused refusal) u = absurd u
take_missed q old new DiskFault u = u
take_missed q old new MediaFault u = u
take_missed q old new Failed u = u
