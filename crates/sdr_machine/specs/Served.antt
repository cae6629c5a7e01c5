-- The ground of a lock, beside the transaction under the number that is served.
use Rattle.std.specs.Prelude.{◌≡◌, ◌≤◌, ℕ, Option, None, Some, ⊤}
use Rattle.std.specs.List.{AllByRecursion}
use Rattle.sdr_model.specs.declared.answer.Reply.{Reply}
use Rattle.sdr_model.specs.declared.call.Call.{Call}
use Rattle.sdr_machine.specs.Nesting.{noted}
use Rattle.sdr_machine.specs.Roll.{Roll, daemon_of, served_number}
use Rattle.sdr_machine.specs.declared.daemon.Daemon.{Daemon}
use Rattle.sdr_machine.specs.declared.daemon.Holding.{Holding}
use Rattle.sdr_machine.specs.declared.has_ground.HasGround.{Ghosts}
use Rattle.sdr_machine.specs.declared.nesting.Nesting.{Nesting}

-- a number that is held lies between 1 and the last number drawn
abbrev pub HoldsWithin : ℕ → Option Holding → Type 0
HoldsWithin drawn None = ⊤
HoldsWithin drawn (Some h) = (1 ≤ h.number) × (h.number ≤ drawn)

-- and so does the number of a daemon that holds one
abbrev pub IsNumberDrawn : ℕ → Daemon → Type 0
IsNumberDrawn drawn d = HoldsWithin drawn d.holds

-- the daemon of a number holds this
pub record HoldsNumber (r : Roll) (id : ℕ) (d : Daemon) (h : Holding) : Type 0 where
  pub found : daemon_of r id ≡ Some d
  pub holds : d.holds ≡ Some h

-- each number that is held was drawn, and no two daemons hold the same number
pub record HoldsDrawn (r : Roll) : Type 0 where
  pub within : AllByRecursion (IsNumberDrawn r.drawn) r.daemons
  pub apart : (id other : ℕ) (d d' : Daemon) (h h' : Holding) → HoldsNumber r id d h → HoldsNumber r other d' h' → h.number ≡ h'.number → id ≡ other

-- the daemon is one of the roll's, and holds no number
pub record HoldsNone (r : Roll) (d : Daemon) : Type 0 where
  pub found : daemon_of r d.id ≡ Some d
  pub none : d.holds ≡ None

-- the daemon is one of the roll's, and the number that it holds is served
pub record HoldsServed (r : Roll) (d : Daemon) (h : Holding) : Type 0 where
  pub held : HoldsNumber r d.id d h
  pub served : served_number r ≡ h.number

-- the ground goes on behind a call, unless its reply dooms the transaction
abbrev pub GoesOnAfter : {T : Type 0} → Ghosts T → Call → Reply → T → Type 0
GoesOnAfter g call reply t = (n : Nesting) → (noted call reply n).doom ≡ None → g.going t

-- The ground goes on unless the transaction is doomed, and is idle where it hasn't begun.
pub record FitsNesting {T : Type 0} (g : Ghosts T) (n : Nesting) (t : T) : Type 0 where
  pub going : n.doom ≡ None → g.going t
  pub idle : n.depth ≡ 0 → g.idle t

-- The disk of the ground hasn't failed. The ground fits the transaction under the served number, and is idle where none is served.
pub record IsGroundReady {T : Type 0} (g : Ghosts T) (r : Roll) (t : T) : Type 0 where
  pub numbers : HoldsDrawn r
  pub sound : g.sound t
  pub served : (id : ℕ) (d : Daemon) (h : Holding) → HoldsNumber r id d h → served_number r ≡ h.number → FitsNesting g h.nesting t
  pub free : served_number r ≡ 0 → g.idle t

-- what a lock keeps: its ground is ready for its roll, unless the disk has failed
abbrev pub KeepsGroundReady : {T : Type 0} → Ghosts T → Roll → T → Type 0
KeepsGroundReady g r t = r.failed ≡ None → IsGroundReady g r t
