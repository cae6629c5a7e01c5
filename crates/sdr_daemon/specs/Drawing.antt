-- What a daemon does while it holds a lock that is taken by number.
use Rattle.std.specs.Prelude.{◌≡◌, ◌+◌, ◌==◌, ℕ, Bool, List, Some, slice_index_or, slice_set, unwrap_or}
use Rattle.std.specs.List.{list_any, position_or_len}
use Rattle.sdr_machine.specs.Legal.{is_leave}
use Rattle.sdr_model.specs.declared.event.Leave.TheVariants as leaves
use Rattle.sdr_model.specs.declared.journal.Entry.{Entry}
use Rattle.sdr_turn.specs.Entries.{MayAdd, made_at}
use Rattle.sdr_daemon.specs.Progressing.{ScriptedCore}
use Rattle.sdr_daemon.specs.declared.script_place.ScriptPlace.{ScriptPlace}

-- the place of a daemon among these, or their number where it isn't one of them
abbrev pub place_of : List ℕ → ℕ → ℕ
place_of daemons daemon = position_or_len (λ id. id == daemon) daemons

-- the entries of the daemon at a place
abbrev pub entries_at : List ℕ → ℕ → List Entry → List Entry
entries_at daemons place journal = made_at (λ (e : Entry). place_of daemons e.daemon) place journal

-- whether one of these entries is a leave
abbrev pub have_leave : List Entry → Bool
have_leave entries = list_any (λ (e : Entry). is_leave e.what) entries

-- The daemon at a place has gone on, by so many numbers that it drew. The progress of all others is as it was.
pub record GoesOnAt (drawn place : ℕ) (old new : List ScriptPlace) : Type 0 where
  pub own : ScriptPlace
  pub is : new ≡ slice_set old place own
  pub daemon : own.daemon ≡ (slice_index_or old place own).daemon
  pub counted : own.drawn ≡ (slice_index_or old place own).drawn + drawn

-- The daemon at a place has drawn the next number. The journal has at most one entry more, of that number and of that daemon.
pub record DrawsAt {T : Type 0} (daemons : List ℕ) (place : ℕ) (old new : ScriptedCore T) : Type 0 where
  pub drawn : new.core.lock.roll.drawn ≡ old.core.lock.roll.drawn + 1
  pub adds : MayAdd (λ (e : Entry). e.number) (λ (e : Entry). place_of daemons e.daemon) new.core.lock.roll.drawn place old.core.log.journal new.core.log.journal
  pub goes_on : GoesOnAt 1 place old.progress new.progress

-- the progress of a daemon that means to leave from then on, for want of memory unless it meant to before
abbrev pub starved : ScriptPlace → ScriptPlace
starved s = record s { leaving = Some (unwrap_or s.leaving leaves.Memory) }
