-- The classes of items.
use Rattle.std.specs.Prelude.{ℕ, ◌==◌, Bool}
use Rattle.bp_queue.specs.declared.class.Class.{Class}
use Rattle.bp_queue.specs.declared.class.Class.TheVariants as classes

-- the number of a class
abbrev pub class_number : Class → ℕ
class_number classes.Bulk = 1
class_number classes.Normal = 2
class_number classes.Urgent = 3

-- whether two classes are the same
abbrev pub is_class : Class → Class → Bool
is_class a b = class_number a == class_number b
