-- Which daemons of a roll hold numbers.
use Rattle.std.specs.Prelude.{◌≡◌, ◌==◌, ◌+◌, ℕ, List, [], ◌∷◌, Bool, false, IsSome, is_none, is_some, if◌then◌else◌, ⊤}
use Rattle.std.specs.List.{list_all, list_any}
use Rattle.sdr_machine.specs.declared.daemon.Daemon.{Daemon}

-- how many of these daemons hold a number
abbrev pub holders : List Daemon → ℕ
holders [] = 0
holders (d ∷ ds) = if is_some d.holds then holders ds + 1 else holders ds

-- whether no number is held by these daemons
abbrev pub hold_none : List Daemon → Bool
hold_none ds = list_all (λ (d : Daemon). is_none d.holds) ds

-- the daemon may hold a number behind daemons of these ids: it hasn't left, and is the first of its id
pub record MayHold (before : List ℕ) (d : Daemon) : Type 0 where
  pub stays : d.left ≡ false
  pub first : list_any (λ id. id == d.id) before ≡ false

-- each of these daemons that holds a number may, where daemons of these ids stand before them
abbrev pub HoldFirst : List ℕ → List Daemon → Type 0
HoldFirst before [] = ⊤
HoldFirst before (d ∷ ds) = (IsSome d.holds → MayHold before d) × HoldFirst (d.id ∷ before) ds
