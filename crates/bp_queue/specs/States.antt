-- What waits in queues, and in which order.
use Rattle.std.specs.Prelude.{ℕ, ◌==◌, Bool, not, nat_le, nat_lt, List, filter, Option, Some, None}
use Rattle.std.specs.Option.{option_or}
use Rattle.bp_queue.specs.Classes.{is_class}
use Rattle.bp_queue.specs.Sorting.{first, sorted_by}
use Rattle.bp_queue.specs.declared.class.Class.{Class}
use Rattle.bp_queue.specs.declared.class.Class.TheVariants as classes

-- One that waits: the item that stands for it, its class, its ordinal, its deadline, and the object.
pub record Waiting : Type 0 where
  pub item : ℕ
  pub class : Class
  pub ordinal : ℕ
  pub deadline : ℕ
  pub object : ℕ

-- whether a deadline isn't later than another's
abbrev pub is_due_by : Waiting → Waiting → Bool
is_due_by a b = nat_le a.deadline b.deadline

-- whether an ordinal isn't lower than another's
abbrev pub ranks_as : Waiting → Waiting → Bool
ranks_as a b = nat_le b.ordinal a.ordinal

-- Things of which each says who waits, in the order in which they were put.
module _ {X : Type 0} (of : X → Waiting) where
  -- these by deadline
  abbrev pub line_of : List X → List X
  line_of = sorted_by (λ a b. is_due_by (of a) (of b))

  -- those of a class, the highest ordinal first
  abbrev pub class_of : Class → List X → List X
  class_of class xs = sorted_by (λ a b. ranks_as (of a) (of b)) (filter (λ x. is_class class (of x).class) xs)

  -- the first one of the highest class that isn't empty
  abbrev pub highest : List X → Option X
  highest xs =
      option_or (first (class_of classes.Urgent xs))
      (option_or (first (class_of classes.Normal xs)) (first (class_of classes.Bulk xs)))

  -- all but those that name an object
  abbrev pub without : ℕ → List X → List X
  without object = filter (λ x. not ((of x).object == object))

  -- all but this one, where there is one
  abbrev pub except : Option X → List X → List X
  except None xs = xs
  except (Some x) xs = without (of x).object xs

  -- the object of this one, 0 where there is none
  abbrev pub object_of : Option X → ℕ
  object_of None = 0
  object_of (Some x) = (of x).object

  -- those whose deadline is later
  abbrev pub later_than : ℕ → List X → List X
  later_than now = filter (λ x. nat_lt now (of x).deadline)

  -- those that are overdue, by deadline
  abbrev pub overdue : ℕ → List X → List X
  overdue now xs = filter (λ x. nat_le (of x).deadline now) (line_of xs)

-- a queue state: those that wait, in the order in which they were put
abbrev pub State : Type 0
State = List Waiting

-- who waits says it of itself
abbrev pub itself : Waiting → Waiting
itself w = w
