-- A schedule that is played: which events its steps make, and what is printed of them.
use Rattle.std.specs.Prelude.{◌≡◌, ◌≤◌, ◌+◌, ℕ, List, [], ◌++◌, Bool, true, false, Option}
use Rattle.std.specs.Io.KnownBytes.{Appends}
use Rattle.sdr_base.specs.Causes.{Rose}
use Rattle.sdr_base.specs.Written.{AppendsPart}
use Rattle.sdr_core.specs.Caused.{AreCaused, MediaChange, from_to}
use Rattle.sdr_core.specs.Going.{media_of}
use Rattle.sdr_core.specs.declared.has_run.HasRun.{Ghosts}
use Rattle.sdr_run.specs.Needing.{outside_along}
use Rattle.sdr_run.specs.Schedule.{FollowsScript, run_text}
use Rattle.sdr_run.specs.declared.playing.Played.{Played}
use Rattle.sdr_words.specs.Daemons.{daemons_of}
use Rattle.sdr_machine.specs.Core.{Core, RunsCore, first_core}
use Rattle.sdr_machine.specs.Ground.{State}
use Rattle.sdr_machine.specs.Leaving.{AllLeave}
use Rattle.sdr_machine.specs.Machine.{Made}
use Rattle.sdr_model.specs.declared.event.Leave.{Leave}
use Rattle.sdr_model.specs.declared.event.Leave.TheVariants as leaves
use Rattle.sdr_model.specs.declared.journal.Entry.{Entry}
use Rattle.sdr_model.specs.declared.script.ScriptStep.{ScriptStep}

-- what is seen of an output: the bytes that it took, where it tells them, and how often it has failed
pub record Output : Type 0 where
  pub taken : Option (List ℕ)
  pub faults : ℕ

-- what is seen of one
abbrev pub output : {X : Type 0} → (X → Option (List ℕ)) → (X → ℕ) → X → Output
output taken faults x = record { taken = taken x; faults = faults x }

-- the text was printed whole, or a part of it from the front where the output has failed
abbrev pub IsPrinted : Bool → Output → Output → List ℕ → Type 0
IsPrinted true old now text = Appends old.taken now.taken text
IsPrinted false old now text = Rose old.faults now.faults × AppendsPart old.taken now.taken text

-- whatever was printed before, this was printed behind it
abbrev pub PrintsMore : Bool → Bool → Output → Output → List ℕ → Type 0
PrintsMore was going old now line =
    (first : Output) (text : List ℕ) → first.faults ≤ old.faults → IsPrinted was first old text → IsPrinted going first now (text ++ line)

-- the leave that daemons make at the end, where memory was wanting or not
abbrev pub leave_of : Bool → Leave
leave_of true = leaves.Memory
leave_of false = leaves.Done

-- The script's steps but the last ones of these were made in order, on a core of the script's daemons, with these answers; then
-- all made their leaves, and the journal is the one of this run. P tells of the steps that are left and the text of the answers.
pub record Replays (media : MediaChange) (first : State) (script : List ScriptStep) (leave : Leave)
    (journal : List Entry)
    (P : List ScriptStep → List ℕ → Type 0) : Type 0 where
  pub front : List ScriptStep
  pub rest : List ScriptStep
  pub steps : script ≡ front ++ rest
  pub made : List Made
  pub follows : FollowsScript [] front made
  pub core : Core
  pub runs : RunsCore media.before.told (first_core (daemons_of script) first) made core
  pub leaving : List Made
  pub last : Core
  pub leaves : AllLeave media.before.told leave core leaving last
  pub journal_is : last.log.journal ≡ journal
  pub caused : AreCaused made media
  pub printed : P rest (run_text made)

-- The steps were made, all of them unless memory was wanting, and the leaves tell whether it was. P tells of the text of the answers.
abbrev pub ReplaysSteps : MediaChange → State → List ScriptStep → List Entry → Bool → (List ℕ → Type 0) → Type 0
ReplaysSteps media first script journal starved P =
    Replays media first script (leave_of starved) journal (λ rest text. (starved ≡ false → rest ≡ []) × P text)

-- A schedule was played on a run from this core: some of its steps were made in order, all of them unless memory was wanting; then all made
-- their leaves, which tell whether it was, by which the run has come to another core. The answers were printed. Media were asked at most once for each
-- extent that lies with them and of which an event needs bytes.
pub record PlaysFrom {R : Type 0} (r : Ghosts R) (first : Core) (before after : R) (script : List ScriptStep) (out out' : Output) (played : Played) : Type 0
  where
    pub front : List ScriptStep
    pub rest : List ScriptStep
    pub steps : script ≡ front ++ rest
    pub made : List Made
    pub follows : FollowsScript [] front made
    pub core : Core
    pub runs : RunsCore (r.told before) first made core
    pub leaving : List Made
    pub last : Core
    pub leaves : AllLeave (r.told before) (leave_of played.starved) core leaving last
    pub here : r.at after last
    pub caused : AreCaused made (from_to (media_of r before) (media_of r after))
    pub asks : r.asks after ≤ r.asks before + outside_along (r.told before) first made core runs
    pub all : played.starved ≡ false → rest ≡ []
    pub printed : IsPrinted played.printing out out' (run_text made)

-- so it was, whatever core the run had come to
pub record Plays {R : Type 0} (r : Ghosts R) (before after : R) (script : List ScriptStep) (out out' : Output) (played : Played) : Type 0 where
  pub each : (first : Core) → r.at before first → PlaysFrom r first before after script out out' played
