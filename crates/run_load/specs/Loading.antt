-- A load that was run on the heap of a disk, and how it ended.
use Rattle.std.specs.Prelude.{◌≡◌, ℕ, Bool, true, false, List, Option, length, ⊤}
use Rattle.run_load.specs.Summing.{summary_of}
use Rattle.run_load.specs.declared.loading.LoadEnd.{LoadEnd}
use Rattle.run_load.specs.declared.loading.LoadEnd.TheVariants as ends
use Rattle.run_load.specs.declared.loading.Loaded.{Loaded}
use Rattle.run_load.specs.declared.summary.Summary.{Summary}
use Rattle.sdr_base.specs.Causes.{Rose}
use Rattle.sdr_base.specs.Media.{Told}
use Rattle.sdr_base.specs.declared.media.Media.{Ghosts as MediaGhosts}
use Rattle.sdr_core.specs.Caused.{MediaChange, media_change}
use Rattle.sdr_disk.specs.declared.disk.Disk.{Ghosts as DiskGhosts}
use Rattle.sdr_load.specs.Schedule.{script_for}
use Rattle.sdr_machine.specs.Crash.{is_sound}
use Rattle.sdr_machine.specs.Ground.{State}
use Rattle.sdr_machine.specs.Legal.{IsAfter}
use Rattle.sdr_machine.specs.Standing.{GroundState}
use Rattle.sdr_model.specs.declared.journal.Entry.{Entry}
use Rattle.sdr_run.specs.Playing.{ReplaysSteps}
use Rattle.sdr_run.specs.Replaying.{RanOn}
use Rattle.sdr_run.specs.declared.recording.Ran.{Ran}
use Rattle.sdr_station.specs.Grounded.{Grounded, StandsInMemory}
use Rattle.sdr_words.specs.Daemons.{daemons_of}

-- the daemons of a load of so many rounds
abbrev pub load_daemons : ℕ → List ℕ
load_daemons rounds = daemons_of (script_for rounds)

-- The steps of a load of so many rounds were made in order, all of them unless memory was wanting; then all daemons made their leaves, which
-- tell whether it was, and the journal is the one of this run.
abbrev pub RunsRounds : MediaChange → State → ℕ → List Entry → Bool → Type 0
RunsRounds media first rounds journal starved = ReplaysSteps media first (script_for rounds) journal starved (λ text. ⊤)

-- P tells of the summary of the journal and of the state that stands behind all of it.
pub record SumsUp (told : Option Told) (daemons : List ℕ) (first : State) (journal : List Entry) (P : Summary → Type 0) : Type 0 where
  pub state : State
  pub after : IsAfter told daemons first journal (length journal) state
  pub tells : P (summary_of journal state.world)

-- How a load of so many rounds ended, by its journal, and by whether memory was wanting. It is summed up where it was not, and the disk failed
-- in no entry, nor as the list was read.
abbrev pub EndsSo : Option Told → State → ℕ → List Entry → Bool → LoadEnd → Type 0
EndsSo told first rounds journal starved (ends.Summed summary) =
    (is_sound journal ≡ true) × (starved ≡ false) × SumsUp told (load_daemons rounds) first journal (λ s. summary ≡ s)
EndsSo told first rounds journal starved ends.Starved = (is_sound journal ≡ true) × (starved ≡ true)
EndsSo told first rounds journal starved ends.Failed = is_sound journal ≡ false
EndsSo told first rounds journal starved ends.Unread = (is_sound journal ≡ true) × (starved ≡ false)

-- A load of so many rounds was run on the heap of a disk, from the state that was opened, and ended so. Where the list wasn't read, the
-- disk's count of faults rose.
pub record LoadsOn {D M : Type 0} (d : DiskGhosts D) (m : MediaGhosts M) (rounds : ℕ) (disk : D) (files : M) (result : Loaded D M) : Type 0 where
  pub starved : Bool
  pub on_heap : RanOn d m (load_daemons rounds) disk result.disk files result.journal
      (λ first. RunsRounds (media_change m.told m.faults m.short files result.media) first rounds result.journal starved
      × EndsSo (m.told files) first rounds result.journal starved result.end)
  pub cause : result.end ≡ ends.Unread → Rose (d.faults disk) (d.faults result.disk)

-- how a run is told to have ended that has come to this
abbrev pub TellsEnd : {D M : Type 0} → Ran (Grounded D M) → LoadEnd → Type 0
TellsEnd ran (ends.Summed summary) =
    (ran.failed ≡ false) × (ran.starved ≡ false)
    × ((v : GroundState) → StandsInMemory ran.base v → summary ≡ summary_of ran.journal v.before.world)
TellsEnd ran ends.Starved = (ran.failed ≡ false) × (ran.starved ≡ true)
TellsEnd ran ends.Failed = ran.failed ≡ true
TellsEnd ran ends.Unread = (ran.failed ≡ false) × (ran.starved ≡ false)
