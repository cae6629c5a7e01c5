-- The roll of a machine: its daemons, how many numbers they have drawn, and whether the disk has failed.
use Rattle.std.specs.Prelude.{ℕ, ◌+◌, ◌<◌, ◌^◌, ◌⊎◌, ◌==◌, ◌||◌, List, [], ◌∷◌, Bool, true, false, Option, None, Some, IsSome, option_and_then, find, map, min, not, position, slice_set, if◌then◌else◌}
use Rattle.std.specs.List.{list_all}
use Rattle.std.specs.Option.{option_map_or}
use Rattle.sdr_model.specs.AccountSteps.{is_granted, pending_of}
use Rattle.sdr_model.specs.World.{World}
use Rattle.sdr_machine.specs.Nesting.{nested}
use Rattle.sdr_machine.specs.declared.daemon.Daemon.{Daemon}
use Rattle.sdr_machine.specs.declared.daemon.Holding.{Holding}
use Rattle.sdr_machine.specs.declared.nesting.Nesting.{Nesting}

-- the daemons, how many lock numbers they have drawn, and the disk's moment as the event returned that met a disk fault
pub record Roll : Type 0 where
  pub daemons : List Daemon
  pub drawn : ℕ
  pub failed : Option ℕ

-- a daemon that hasn't come yet
abbrev pub newcomer : ℕ → Daemon
newcomer id = record { id = id; left = false; waits = None; holds = None }

-- the roll of these daemons before any event
abbrev pub first_roll : List ℕ → Roll
first_roll ids = record { daemons = map newcomer ids; drawn = 0; failed = None }

-- the daemon of a number
abbrev pub daemon_of : Roll → ℕ → Option Daemon
daemon_of r id = find (λ (d : Daemon). d.id == id) r.daemons

-- these daemons, with this one in the place of the one of its number
abbrev pub put_daemon : List Daemon → Daemon → List Daemon
put_daemon ds d = option_map_or (λ place. slice_set ds place d) (position (λ (x : Daemon). x.id == d.id) ds) ds

-- the roll with this daemon in its place
abbrev pub with_daemon : Roll → Daemon → Roll
with_daemon r d = record r { daemons = put_daemon r.daemons d }

-- the lesser of a number that may be held and another, which is 0 where there is none
abbrev pub lesser_of : Option Holding → ℕ → ℕ
lesser_of None number = number
lesser_of (Some h) number = if number == 0 then h.number else min h.number number

-- the least number that one of these daemons holds, 0 where none does
abbrev pub least_held : List Daemon → ℕ
least_held [] = 0
least_held (d ∷ ds) = lesser_of d.holds (least_held ds)

-- The number that is served: the least that was drawn and isn't done; 0 where there is none.
abbrev pub served_number : Roll → ℕ
served_number r = least_held r.daemons

-- the daemon holds a number, or another number can be drawn
abbrev pub MayDraw : Roll → Option Holding → Type 0
MayDraw r held = IsSome held ⊎ (r.drawn < 2 ^ 60)

-- the number that the daemon of a number holds
abbrev pub held_by : Roll → ℕ → Option Holding
held_by r id = option_and_then (λ (d : Daemon). d.holds) (daemon_of r id)

-- the number that an event of a daemon is made under: the one that it holds, else the next
abbrev pub number_of : Roll → Daemon → ℕ
number_of r d = option_map_or (λ (h : Holding). h.number) d.holds (r.drawn + 1)

-- the roll in which a daemon has drawn the next number, and is at this depth
abbrev pub with_number : Roll → Daemon → ℕ → Roll
with_number r d depth =
    record (with_daemon r (record d { holds = Some (record { number = r.drawn + 1; nesting = nested depth }) })) { drawn = r.drawn + 1 }

-- the roll in which a number was drawn, and is done
abbrev pub with_drawn : Roll → Roll
with_drawn r = record r { drawn = r.drawn + 1 }

-- the daemon, whose transaction has come to this nesting under its number
abbrev pub at_nesting : Daemon → Holding → Nesting → Daemon
at_nesting d h n = record d { holds = Some (record h { nesting = n }) }

-- the daemon once a transaction, an awarded look or a stalled look of it stands in the journal: it holds no number
abbrev pub when_done : Daemon → Daemon
when_done d = record d { waits = None; holds = None }

-- the daemon after a look at a ticket that waits: it holds no number
abbrev pub after_wait : Daemon → ℕ → Daemon
after_wait d ticket = record d { waits = Some ticket; holds = None }

-- the daemon without its number
abbrev pub when_passed_over : Daemon → Daemon
when_passed_over d = record d { holds = None }

-- the daemon after its leave
abbrev pub after_leave : Daemon → Daemon
after_leave d = record d { left = true; waits = None; holds = None }

-- the roll after a disk fault, at this moment
abbrev pub with_fault : Roll → ℕ → Roll
with_fault r moment = record r { failed = Some moment }

-- whether the daemon's last entry is a wait for this ticket
abbrev pub waits_for : Daemon → ℕ → Bool
waits_for d ticket = option_map_or (λ t. t == ticket) d.waits false

-- whether the daemon's last entry is a leave, or a wait for a ticket that isn't granted in the world
abbrev pub is_stuck : World → Daemon → Bool
is_stuck w d = d.left || option_map_or (λ t. not (is_granted (pending_of w t))) d.waits false

-- whether every daemon has left, or waits for a ticket that isn't granted in the world
abbrev pub is_stalled : Roll → World → Bool
is_stalled r w = list_all (is_stuck w) r.daemons
