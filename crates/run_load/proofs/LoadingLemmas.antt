-- A load that was run on the heap of a disk.
use Rattle.std.proofs.Common.{◌≡◌, ◌∙◌, ◌≤◌, ◌+◌, ◌*◌, ℕ, zero, suc, List, [], ◌∷◌, Bool, true, false, not, filter, length, nat_le, refl, sym, ap, subst, arith, true≢false}
use Rattle.std.specs.Prelude.{◌↔◌, Option}
use Rattle.std.specs.List.{range_with_len}
use Rattle.std.proofs.lemmas.List.{length-append}
use Rattle.run_load.specs.Loading.{EndsSo, LoadsOn, RunsRounds, TellsEnd, load_daemons}
use Rattle.run_load.specs.declared.loading.LoadEnd.{LoadEnd}
use Rattle.run_load.specs.declared.loading.LoadEnd.TheVariants as ends
use Rattle.run_load.specs.declared.loading.Loaded.{Loaded}
use Rattle.sdr_base.proofs.WrittenLemmas.{rose_later}
use Rattle.sdr_base.specs.Causes.{Rose}
use Rattle.sdr_base.specs.Media.{Told}
use Rattle.sdr_base.specs.declared.media.Media.{Ghosts as MediaGhosts}
use Rattle.sdr_core.specs.Caused.{MediaChange, SeenMedia, from_to, seen_media}
use Rattle.sdr_core.specs.CoreKept.{RunStart}
use Rattle.sdr_disk.specs.Moments.{Reads}
use Rattle.sdr_disk.specs.declared.disk.Disk.{Ghosts as DiskGhosts}
use Rattle.sdr_image.specs.Opened.{Holds}
use Rattle.sdr_load.proofs.RoundLemmas.{round_is_short}
use Rattle.sdr_load.specs.Rounds.{round_of}
use Rattle.sdr_load.specs.Schedule.{said_from, script_for}
use Rattle.sdr_load.specs.Statements.{numbered}
use Rattle.sdr_load.specs.declared.statement.Statement.{Statement}
use Rattle.sdr_machine.specs.Crash.{is_sound}
use Rattle.sdr_machine.specs.Ground.{State}
use Rattle.sdr_model.specs.declared.journal.Entry.{Entry}
use Rattle.sdr_model.specs.declared.script.ScriptStep.{ScriptStep}
use Rattle.sdr_run.proofs.ReplayingLemmas.{ground_of, ran_opened}
use Rattle.sdr_run.specs.Handed.{HandedDisk, StaysAsHanded, handed_as}
use Rattle.sdr_run.specs.Opening.{OpenedSo}
use Rattle.sdr_run.specs.Playing.{Output, ReplaysSteps}
use Rattle.sdr_run.specs.Recording.{PlaysOut}
use Rattle.sdr_run.specs.Replaying.{IsSettled, RanOn, begins_on}
use Rattle.sdr_run.specs.declared.recording.Ran.{Ran}
use Rattle.sdr_station.specs.Grounded.{Grounded, StandsSome}
use Rattle.sdr_station.specs.Opening.{first_on}
use Rattle.sdr_words.specs.Daemons.{all_daemons}
use Rattle.sdr_machine.specs.declared.has_ground.HasGround.{Ghosts}

-- a step for each statement
numbered_length : (line : ℕ) (statements : List Statement) → length (numbered line statements) ≡ length statements
numbered_length line [] = refl
numbered_length line (s ∷ statements) = ap suc (numbered_length (line + 1) statements)

-- at most ten a round
rounds_length : (round rounds : ℕ) → length (said_from round rounds) ≤ 10 * rounds
rounds_length round zero = omega arith
rounds_length round (suc rounds) =
    omega (arith, round_is_short round, rounds_length (round + 1) rounds, length-append (round_of round) (said_from (round + 1) rounds))

-- a load has few steps
pub load_is_short : (rounds : ℕ) → length (script_for rounds) ≤ 10 * (rounds + 1)
load_is_short rounds = omega (arith, numbered_length 1 (said_from 0 (rounds + 1)), rounds_length 0 (rounds + 1))

-- the first daemons are the numbers from 1
pub first_are : (count : ℕ) → count ≤ 4 → filter (λ daemon. nat_le daemon count) all_daemons ≡ range_with_len 1 count
first_are zero few = refl
first_are (suc zero) few = refl
first_are (suc (suc zero)) few = refl
first_are (suc (suc (suc zero))) few = refl
first_are (suc (suc (suc (suc zero)))) few = refl
first_are (suc (suc (suc (suc (suc count))))) few = absurd (omega (arith, few))

-- what is printed of a run is no matter to a load
unprinted : (media : MediaChange) (first : State) (script : List ScriptStep) (journal : List Entry) (starved : Bool) (P : List ℕ → Type 0)
    → ReplaysSteps media first script journal starved P → ReplaysSteps media first script journal starved (λ text. Unit {0})
unprinted media first script journal starved P r = record {
  front = r.front;
  rest = r.rest;
  steps = r.steps;
  made = r.made;
  follows = r.follows;
  core = r.core;
  runs = r.runs;
  leaving = r.leaving;
  last = r.last;
  leaves = r.leaves;
  journal_is = r.journal_is;
  caused = r.caused;
  printed = (r.printed.0, tt);
}

-- the disk failed in no entry, where it is told not to have failed
is_sound_of : (failed sound : Bool) → failed ≡ not sound → failed ≡ false → sound ≡ true
is_sound_of failed true is whole = refl
is_sound_of failed false is whole = absurd (true≢false (sym is ∙ whole))

is_broken_of : (failed sound : Bool) → failed ≡ not sound → failed ≡ true → sound ≡ false
is_broken_of failed false is broken = refl
is_broken_of failed true is broken = absurd (true≢false (sym broken ∙ is))

-- A heap that was opened on a disk with media, as it was handed in, under a condition that is met where the disk was settled.
module _ {D M : Type 0} (d : DiskGhosts D) (m : MediaGhosts M) (disk : D) (files : M) (rounds : ℕ) (g : Grounded D M) (condition : Type 0)
    (met : condition ↔ IsSettled d disk) (o : OpenedSo d disk files g) (was : HandedDisk) (handed : was ≡ handed_as d disk) where
  abbrev ground : Ghosts (Grounded D M)
  ground = ground_of d m condition

  abbrev shows : M → SeenMedia
  shows = seen_media m.told m.faults m.short

  -- how it ended, by what it stands for
  ends_so : (out out' : Output) (ran : Ran (Grounded D M)) (end : LoadEnd)
      → PlaysOut ground (begins_on m was (script_for rounds) g) (script_for rounds) g out out' ran → TellsEnd ran end
      → EndsSo (m.told g.media) (first_on g) rounds ran.journal ran.starved end
  ends_so out out' ran (ends.Summed summary) plays tells =
      let sound = is_sound_of ran.failed (is_sound ran.journal) plays.failed tells.0 in
      let s = plays.ended sound in
      (sound, tells.1, record { state = s.for.before; after = s.tells.after; tells = tells.2 s.for s.holds.memory })
  ends_so out out' ran ends.Starved plays tells = (is_sound_of ran.failed (is_sound ran.journal) plays.failed tells.0, tells.1)
  ends_so out out' ran ends.Failed plays tells = is_broken_of ran.failed (is_sound ran.journal) plays.failed tells
  ends_so out out' ran ends.Unread plays tells = (is_sound_of ran.failed (is_sound ran.journal) plays.failed tells.0, tells.1)

  loaded_so : (out out' : Output) (ran : Ran (Grounded D M)) (result : Loaded D M)
      → PlaysOut ground (begins_on m was (script_for rounds) g) (script_for rounds) g out out' ran → result.journal ≡ ran.journal → TellsEnd ran result.end
      → (result.end ≡ ends.Unread → Rose (d.faults ran.base.heap.cells.disk) (d.faults result.disk))
      → Reads d.bytes d.tells_crashes d.moment d.may_hold_after ran.base.heap.cells.disk result.disk
      → d.faults ran.base.heap.cells.disk ≤ d.faults result.disk
      → result.media ≡ ran.base.media → Holds d.bytes ran.base.heap.cells → d.tells_crashes result.disk ≡ was.tells → StaysAsHanded was.bytes (d.bytes result.disk) ran.base.heap.cells.frame
      → d.moment result.disk ≡ ran.base.moment → LoadsOn d m rounds disk files result
  loaded_so out out' ran result plays journal_is tells cause reads later media_is holds told stays seen = record {
    starved = ran.starved;
    cause = λ is. rose_later (d.faults disk) (d.faults ran.base.heap.cells.disk) (d.faults result.disk)
        (subst (λ (w : HandedDisk). w.faults ≤ d.faults ran.base.heap.cells.disk) handed plays.run.counted) (cause is);
    on_heap = subst (λ (journal : List Entry). RanOn d m (load_daemons rounds) disk result.disk files journal
        (λ first. RunsRounds (from_to (shows files) (shows result.media)) first rounds journal ran.starved
        × EndsSo (m.told files) first rounds journal ran.starved result.end)) (sym journal_is)
        (ran_opened d m disk files (script_for rounds) g condition met o was handed ran.journal ran.base result.disk
        (λ first. RunsRounds (from_to (shows files) (shows result.media)) first rounds ran.journal ran.starved
        × EndsSo (m.told files) first rounds ran.journal ran.starved result.end)
        plays.run plays.ended reads later holds told stays seen (
          subst (λ (x : M). RunsRounds (from_to (shows x) (shows result.media)) (first_on g) rounds ran.journal ran.starved) o.with_media
              (subst (λ (x : M). RunsRounds (from_to (shows g.media) (shows x)) (first_on g) rounds ran.journal ran.starved) (sym media_is)
              (unprinted (from_to (shows g.media) (shows ran.base.media)) (first_on g) (script_for rounds) ran.journal ran.starved _ plays.replays)),
          subst (λ (told : Option Told). EndsSo told (first_on g) rounds ran.journal ran.starved result.end) (ap m.told o.with_media)
              (ends_so out out' ran result.end plays tells),
        ));
  }

  -- what a load has come to
  pub loaded : (script : List ScriptStep) → script ≡ script_for rounds → (out out' : Output) (ran : Ran (Grounded D M)) (result : Loaded D M)
      → PlaysOut ground (begins_on m was script g) script g out out' ran → result.journal ≡ ran.journal → TellsEnd ran result.end
      → (result.end ≡ ends.Unread → Rose (d.faults ran.base.heap.cells.disk) (d.faults result.disk))
      → Reads d.bytes d.tells_crashes d.moment d.may_hold_after ran.base.heap.cells.disk result.disk
      → d.faults ran.base.heap.cells.disk ≤ d.faults result.disk
      → result.media ≡ ran.base.media → Holds d.bytes ran.base.heap.cells → d.tells_crashes result.disk ≡ was.tells → StaysAsHanded was.bytes (d.bytes result.disk) ran.base.heap.cells.frame
      → d.moment result.disk ≡ ran.base.moment → LoadsOn d m rounds disk files result
  loaded script is out out' ran result plays =
      loaded_so out out' ran result (subst (λ (s : List ScriptStep). PlaysOut ground (begins_on m was s g) s g out out' ran) is plays)

-- where the disk failed in no entry, the heap in memory stands for something
pub sound_stands : {D M : Type 0} (d : DiskGhosts D) (m : MediaGhosts M) (condition : Type 0) (b : RunStart) (script : List ScriptStep) (before : Grounded D M)
    (out out' : Output) (ran : Ran (Grounded D M)) → PlaysOut (ground_of d m condition) b script before out out' ran → ran.failed ≡ false → StandsSome ran.base
sound_stands d m condition b script before out out' ran plays whole =
    let s = plays.ended (is_sound_of ran.failed (is_sound ran.journal) plays.failed whole) in
    record { for = s.for; holds = s.holds.memory }

-- and no line is touched
pub sound_untouched : {D M : Type 0} (d : DiskGhosts D) (m : MediaGhosts M) (condition : Type 0) (b : RunStart) (script : List ScriptStep) (before : Grounded D M)
    (out out' : Output) (ran : Ran (Grounded D M)) → PlaysOut (ground_of d m condition) b script before out out' ran → ran.failed ≡ false
    → ran.base.heap.cells.touched ≡ []
sound_untouched d m condition b script before out out' ran plays whole =
    let s = plays.ended (is_sound_of ran.failed (is_sound ran.journal) plays.failed whole) in
    s.holds.memory.untouched (ap (λ (x : State). x.demand) s.tells.closed ∙ s.holds.memory.before.demand)
