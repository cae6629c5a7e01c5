-- A disk in memory, as contracts see it, and how it answers its calls.
use Rattle.std.specs.Prelude.{◌≡◌, ◌↔◌, ◌⊎◌, ◌==◌, ◌-◌, ℕ, Bool, true, false, List, Contains, option_map}
use Rattle.std.specs.Prelude.{Result, IsErr, IsTrue, OnOk, OnErr}
use Rattle.std.specs.Option.{option_map_or}
use Rattle.std.specs.declared.option.Option.{Option}
use Rattle.sdr_base.specs.Causes.{counted}
use Rattle.sdr_disk.specs.History.{History, MayLeave, bytes_read, moment_of, with_change}
use Rattle.sdr_disk.specs.Moments.{IsAtEnd}
use Rattle.sdr_disk.specs.declared.change.Change.{Change}
use Rattle.sdr_disk.specs.declared.change.Outcome.{Outcome}
use Rattle.sdr_disk.specs.declared.change.Outcome.TheVariants.{Done, Failed}

-- its bytes and changes, its calls and faults so far, how many growths of its record were refused,
-- the numbers of the calls that fail, and for how many writes and syncs more it goes on, where it is to stop
pub record Memory : Type 0 where
  pub history : History
  pub calls : ℕ
  pub faults : ℕ
  pub starved : ℕ
  pub failing : List ℕ
  pub left : Option ℕ

-- the bytes that a read gives
abbrev pub bytes_now : Memory → List ℕ
bytes_now d = bytes_read d.history

-- it tells what a crash may leave
abbrev pub tells_now : Memory → Bool
tells_now d = true

-- its moment
abbrev pub moment_now : Memory → ℕ
moment_now d = moment_of d.history

-- a crash at a moment may leave this image
abbrev pub CrashLeaves : Memory → ℕ → List ℕ → Type 0
CrashLeaves d = MayLeave d.history

-- after one call more
abbrev pub called : Memory → Memory
called d = record d { calls = counted d.calls }

-- after one call more, which failed
abbrev pub failed : Memory → Memory
failed d = record d { calls = counted d.calls; faults = counted d.faults }

-- after one call more, which failed for want of memory for its record
abbrev pub starved : Memory → Memory
starved d = record d { calls = counted d.calls; faults = counted d.faults; starved = counted d.starved }

-- whether it has stopped: it was to stop, and no write or sync is left
abbrev pub is_stopped : Memory → Bool
is_stopped d = option_map_or (λ changes. changes == 0) d.left false

-- with one write or sync less left
abbrev pub spent : Memory → Memory
spent d = record d { left = option_map (λ changes. changes - 1) d.left }

-- with one change more
abbrev pub changed : Change → Memory → Memory
changed change d = record d { history = with_change change d.history }

-- how a read is answered, and what the disk is then: it fails just where the call's number is listed or the disk has stopped
pub record AnswersRead {T E : Type 0} (result : Result T E) (old new : Memory) : Type 0 where
  pub ok : OnOk result (new ≡ called old)
  pub err : OnErr result (new ≡ failed old)
  pub listed : IsErr result ↔ (Contains old.failing (counted old.calls) ⊎ IsTrue (is_stopped old))

-- why a write or a sync failed, and what the disk is then
pub data Fails (change : Outcome → Change) (old new : Memory) : Type 0 where
  stopped : IsTrue (is_stopped old) → new ≡ failed old → Fails change old new
  at_end : IsAtEnd (moment_now old) → new ≡ failed old → Fails change old new
  no_memory : new ≡ spent (starved old) → Fails change old new
  listed : Contains old.failing (counted old.calls) → new ≡ changed (change Failed) (spent (failed old)) →
      Fails change old new

-- how a write or a sync is answered, and what the disk is then: one that has stopped fails and changes nothing
pub record CallsDisk {T E : Type 0} (change : Outcome → Change) (result : Result T E) (old new : Memory) : Type 0 where
  pub ok : OnOk result (new ≡ changed (change Done) (spent (called old)))
  pub err : OnErr result (Fails change old new)
  pub listed : Contains old.failing (counted old.calls) → IsErr result
  pub stops : IsTrue (is_stopped old) → IsErr result × (new ≡ failed old)
