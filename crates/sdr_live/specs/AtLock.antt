-- What is so of a daemon between two turns at a lock.
use Rattle.std.specs.Prelude.{◌≡◌, ◌<◌, ℕ, List, All, false, length}
use Rattle.sdr_model.specs.declared.journal.Entry.{Entry}
use Rattle.sdr_turn.specs.Seats.{Lock, Seated, IsIdleSeat, IsNewSeat}
use Rattle.sdr_daemon.specs.Coming.{is_over}
use Rattle.sdr_daemon.specs.Drawing.{have_leave}
use Rattle.sdr_daemon.specs.declared.coming.Coming.{Coming}

-- A daemon has this seat at the lock, which holds no number and has the place of one of these daemons. Nothing comes next just where a leave
-- is among the entries that it added.
pub record IsAtLock (lock : Lock) (daemons : List ℕ) (seat : Seated Entry) (coming : Coming) : Type 0 where
  pub idle : IsIdleSeat lock.id seat
  pub place : seat.knows.place < length daemons
  pub comes : is_over coming ≡ have_leave seat.knows.mine

-- Seats at the lock before any turn, and what their daemons do first.
pub record AreBeforeTurns (lock : Lock) (daemons : List ℕ) (seats : List (Seated Entry)) (first : List Coming) : Type 0 where
  pub new : All (IsNewSeat lock.id) seats
  pub places : All (λ (s : Seated Entry). s.knows.place < length daemons) seats
  pub stay : All (λ (c : Coming). is_over c ≡ false) first
