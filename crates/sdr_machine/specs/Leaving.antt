-- The leaves at the end of a schedule.
use Rattle.std.specs.Prelude.{◌≡◌, ◌==◌, ◌++◌, ℕ, Bool, false, List, [], ◌∷◌, Option, None, MatchOption, filter, find, map, not}
use Rattle.std.specs.Option.{option_map_or}
use Rattle.sdr_base.specs.Media.{Told}
use Rattle.sdr_model.specs.declared.event.Event.TheVariants as events
use Rattle.sdr_model.specs.declared.event.Leave.{Leave}
use Rattle.sdr_machine.specs.Core.{Core, CoreStep}
use Rattle.sdr_machine.specs.Machine.{Made}
use Rattle.sdr_machine.specs.Roll.{Roll, served_number}
use Rattle.sdr_machine.specs.declared.daemon.Daemon.{Daemon}
use Rattle.sdr_machine.specs.declared.daemon.Holding.{Holding}

-- a daemon has made its event of a leave, which stands on no line, by which the core has come to another
pub record MakesLeave (told : Option Told) (leave : Leave) (daemon : ℕ) (c : Core) (e : Made) (c' : Core) : Type 0 where
  pub daemon_is : e.daemon ≡ daemon
  pub event : e.said.event ≡ events.Leaves leave
  pub line : e.said.line ≡ 0
  pub step : CoreStep told c e c'

-- a daemon makes its leave first, and what then holds of the rest
pub record LeavesThen (told : Option Told) (leave : Leave) (daemon : ℕ) (c : Core) (e : Made) (Then : Core → Type 0) : Type 0 where
  pub next : Core
  pub leaves : MakesLeave told leave daemon c e next
  pub rest : Then next

-- from c, these daemons have made one leave each, in this order, and the core is then c'
abbrev pub LeaveInTurn : Option Told → Leave → List ℕ → Core → List Made → Core → Type 0
LeaveInTurn told leave [] c [] c' = c' ≡ c
LeaveInTurn told leave (daemon ∷ daemons) c (e ∷ made) c' =
    LeavesThen told leave daemon c e (λ next. LeaveInTurn told leave daemons next made c')
LeaveInTurn told leave daemons c made c' = ⊥

-- whether the daemon holds this number
abbrev pub holds_number : ℕ → Daemon → Bool
holds_number number d = option_map_or (λ (h : Holding). h.number == number) d.holds false

-- the daemon whose number is served, if one is held
abbrev pub served_daemon : Roll → Option Daemon
served_daemon r = find (holds_number (served_number r)) r.daemons

-- From c, the daemon whose number is served has made a leave, until none held one: each holder leaves, in lock order.
abbrev pub HoldersLeave : Option Told → Leave → Core → List Made → Core → Type 0
HoldersLeave told leave c [] c' = (c' ≡ c) × (served_daemon c.machine.roll ≡ None)
HoldersLeave told leave c (e ∷ made) c' =
    MatchOption (served_daemon c.machine.roll) ⊥
    (λ (d : Daemon). LeavesThen told leave d.id c e (λ next. HoldersLeave told leave next made c'))

-- the daemons that haven't left, in their order
abbrev pub staying : Roll → List ℕ
staying r = map (λ (d : Daemon). d.id) (filter (λ (d : Daemon). not d.left) r.daemons)

-- The leaves at the end: those who hold a number make one, in lock order; then those who hadn't left yet do, in their order.
pub record AllLeave (told : Option Told) (leave : Leave) (c : Core) (made : List Made) (c' : Core) : Type 0 where
  pub first : List Made
  pub last : List Made
  pub all : made ≡ first ++ last
  pub between : Core
  pub holders : HoldersLeave told leave c first between
  pub others : LeaveInTurn told leave (staying between.machine.roll) between last c'
