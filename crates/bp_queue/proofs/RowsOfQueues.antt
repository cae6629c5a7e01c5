-- Worked rows: three objects wait, and what is first, overdue and left.
use Rattle.std.proofs.Common.{◌≡◌, List, [], ◌∷◌, ◌++◌, Some, refl}
use Rattle.bp_queue.specs.Kept.{item_bytes}
use Rattle.bp_queue.specs.Runs.{QueueCall, Puts, Takes, Expires, Looks, put_and_stay}
use Rattle.bp_queue.specs.States.{State, Waiting, class_of, except, highest, itself, later_than, line_of, overdue}
use Rattle.bp_queue.specs.declared.class.Class.TheVariants as classes

abbrev a : Waiting
a = record { item = 2456; class = classes.Bulk; ordinal = 0; deadline = 50; object = 2216 }

abbrev b : Waiting
b = record { item = 2600; class = classes.Urgent; ordinal = 1; deadline = 30; object = 2296 }

abbrev c : Waiting
c = record { item = 2744; class = classes.Urgent; ordinal = 9; deadline = 70; object = 2376 }

abbrev three : State
three = a ∷ b ∷ c ∷ []

row_line : line_of itself three ≡ b ∷ a ∷ c ∷ []
row_line = refl

row_urgent : class_of itself classes.Urgent three ≡ c ∷ b ∷ []
row_urgent = refl

row_normal : class_of itself classes.Normal three ≡ []
row_normal = refl

row_highest : highest itself three ≡ Some c
row_highest = refl

row_not_yet : overdue itself 29 three ≡ []
row_not_yet = refl

-- what is due now is overdue
row_now : overdue itself 30 three ≡ b ∷ []
row_now = refl

row_taken : except itself (highest itself three) three ≡ a ∷ b ∷ []
row_taken = refl

row_expired : later_than itself 50 (a ∷ b ∷ []) ≡ []
row_expired = refl

row_order : overdue itself 50 (a ∷ b ∷ []) ≡ b ∷ a ∷ []
row_order = refl

-- those of one ordinal and one deadline stand as they were put
abbrev tied : Waiting
tied = record { item = 2888; class = classes.Urgent; ordinal = 9; deadline = 30; object = 3000 }

row_tied : class_of itself classes.Urgent (b ∷ c ∷ tied ∷ []) ≡ c ∷ tied ∷ b ∷ []
row_tied = refl

row_tied_line : line_of itself (b ∷ c ∷ tied ∷ []) ≡ b ∷ tied ∷ c ∷ []
row_tied_line = refl

-- the run of these calls
abbrev run : List QueueCall
run = Puts a ∷ Puts b ∷ Puts c ∷ Looks ∷ Expires 29 0 ∷ Takes 2376 ∷ []

row_run : put_and_stay run ≡ a ∷ b ∷ []
row_run = refl

row_all : put_and_stay (run ++ (Expires 50 2 ∷ [])) ≡ []
row_all = refl

-- an object that was taken may be put again
row_again : put_and_stay (Puts a ∷ Takes 2216 ∷ Puts a ∷ []) ≡ a ∷ []
row_again = refl

-- the bytes of an item
row_bytes : item_bytes (record { waiting = c; number = 3; in_class = 2808; in_line = 2848 })
    ≡ 0 ∷ 0 ∷ 0 ∷ 0 ∷ 0 ∷ 0 ∷ 0 ∷ 70 ∷ 246 ∷ 3 ∷ 0 ∷ 0 ∷ 0 ∷ 0 ∷ 0 ∷ 0
    ∷ 0 ∷ 0 ∷ 0 ∷ 0 ∷ 0 ∷ 0 ∷ 0 ∷ 3 ∷ 0 ∷ 0 ∷ 0 ∷ 0 ∷ 0 ∷ 0 ∷ 9 ∷ 72
    ∷ 0 ∷ 0 ∷ 0 ∷ 0 ∷ 0 ∷ 0 ∷ 10 ∷ 248 ∷ 0 ∷ 0 ∷ 0 ∷ 0 ∷ 0 ∷ 0 ∷ 11 ∷ 32 ∷ []
row_bytes = refl
