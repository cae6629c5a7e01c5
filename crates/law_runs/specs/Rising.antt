-- How lock numbers and moments rise in a journal.
use Rattle.std.specs.Prelude.{◌<◌, ◌≤◌, ℕ, List, [], ◌∷◌, ⊤}
use Rattle.sdr_model.specs.declared.journal.Entry.{Entry}

-- the lock numbers rise from above this one
abbrev pub NumbersRise : ℕ → List Entry → Type 0
NumbersRise number [] = ⊤
NumbersRise number (e ∷ entries) = (number < e.number) × NumbersRise e.number entries

-- from this moment on, each entry begins no earlier than the one before it was done, and is done no earlier than it began
abbrev pub MomentsRise : ℕ → List Entry → Type 0
MomentsRise done [] = ⊤
MomentsRise done (e ∷ entries) = (done ≤ e.begun) × (e.begun ≤ e.done) × MomentsRise e.done entries
