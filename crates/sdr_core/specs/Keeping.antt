-- What the keeper of a log keeps.
use Rattle.std.specs.Prelude.{◌≡◌, ◌≤◌, ◌+◌, ◌==◌, ℕ, Bool, true, List, [], ◌∷◌, ◌++◌, Option, None, MatchOption, find, length, map, vec_capacity, vec_len, ⊤}
use Rattle.std.specs.List.{AllByRecursion}
use Rattle.sdr_machine.specs.Core.{Work}
use Rattle.sdr_core.specs.declared.spoken.Spoken.{Spoken}

-- what a daemon has said in its open transaction
abbrev pub work_of : Spoken → Work
work_of s = record { daemon = s.daemon; said = s.said.items }

-- the open transactions
abbrev pub works_of : List Spoken → List Work
works_of spoken = map work_of spoken

-- whether the transaction is the daemon's
abbrev pub is_of : ℕ → Work → Bool
is_of daemon w = w.daemon == daemon

-- no two of these are of one daemon
abbrev pub AreApart : List Work → Type 0
AreApart [] = ⊤
AreApart (w ∷ works) = (find (is_of w.daemon) works ≡ None) × AreApart works

-- there is room for so many more that are said
abbrev pub HasSpace : ℕ → Spoken → Type 0
HasSpace n s = vec_len s.said + n ≤ vec_capacity s.said

-- in each open transaction there is room for one more that is said
abbrev pub AreSpacious : List Spoken → Type 0
AreSpacious spoken = AllByRecursion (HasSpace 1) spoken

-- what the daemon has said, if it is in a transaction
abbrev pub spoken_of : List Spoken → ℕ → Option Spoken
spoken_of spoken daemon = find (λ (s : Spoken). s.daemon == daemon) spoken

-- there is room for so many more that the daemon says in its transaction
abbrev pub MaySay : ℕ → List Spoken → ℕ → Type 0
MaySay n spoken daemon = MatchOption (spoken_of spoken daemon) ⊤ (HasSpace n)

-- At this place stands the first that is the daemon's.
pub record StandsAt (spoken : List Spoken) (daemon place : ℕ) : Type 0 where
  pub front : List Spoken
  pub own : Spoken
  pub rest : List Spoken
  pub whole : spoken ≡ front ++ own ∷ rest
  pub place_is : place ≡ length front
  pub here : (own.daemon == daemon) ≡ true
  pub none : spoken_of front daemon ≡ None
