-- The lock numbers that are held, and those that are done.
use Rattle.std.specs.Prelude.{◌≡◌, ◌+◌, ℕ, zero, suc, Bool, false, List, [], ◌∷◌, Some, ⊤, if◌then◌else◌}
use Rattle.std.specs.List.{list_any}
use Rattle.sdr_machine.specs.Leaving.{holds_number}
use Rattle.sdr_machine.specs.Roll.{Roll}
use Rattle.sdr_machine.specs.declared.daemon.Daemon.{Daemon}
use Rattle.sdr_machine.specs.declared.daemon.Holding.{Holding}

-- whether one of these daemons holds the number
abbrev pub is_held : List Daemon → ℕ → Bool
is_held ds number = list_any (holds_number number) ds

-- no number is held by two of these daemons
abbrev pub HoldApart : List Daemon → Type 0
HoldApart [] = ⊤
HoldApart (d ∷ ds) = ((h : Holding) → d.holds ≡ Some h → is_held ds h.number ≡ false) × HoldApart ds

-- how many numbers from 1 to this one fail the test
abbrev pub count_failing : (ℕ → Bool) → ℕ → ℕ
count_failing test zero = 0
count_failing test (suc number) = if test (suc number) then count_failing test number else count_failing test number + 1

-- how many numbers are done: those that were drawn and that no daemon holds
abbrev pub numbers_done : Roll → ℕ
numbers_done r = count_failing (is_held r.daemons) r.drawn
