-- A schedule that was played on a core.
use Rattle.std.proofs.Common.{◌≡◌, ◌∙◌, List, [], ℕ, Bool, not, refl, sym, ap, subst}
use Rattle.sdr_core.proofs.CoreRunLemmas.{core_run}
use Rattle.sdr_core.specs.Caused.{AreCaused, from_to, media_on}
use Rattle.sdr_core.specs.CoreKept.{BeginsOn, IsRunOf, LoggedLock, RunStart}
use Rattle.sdr_core.specs.CoreRun.{CoreAt}
use Rattle.sdr_core.specs.Ended.{StandsEnded}
use Rattle.sdr_machine.specs.Core.{Core, RunsCore, first_core}
use Rattle.sdr_machine.specs.Crash.{is_sound}
use Rattle.sdr_machine.specs.Leaving.{AllLeave}
use Rattle.sdr_machine.specs.Roll.{first_roll}
use Rattle.sdr_machine.specs.Standing.{standing_at}
use Rattle.sdr_machine.specs.declared.has_ground.HasGround.{Ghosts}
use Rattle.sdr_model.specs.declared.journal.Entry.{Entry}
use Rattle.sdr_model.specs.declared.script.ScriptStep.{ScriptStep}
use Rattle.sdr_run.specs.Playing.{Output, Plays, PlaysFrom, leave_of}
use Rattle.sdr_run.specs.Recording.{PlaysOut}
use Rattle.sdr_run.specs.declared.playing.Played.{Played}
use Rattle.sdr_words.specs.Daemons.{daemons_of}

-- a core before any event has come to the first core
begun_at : {T : Type 0} (g : Ghosts T) (b : RunStart) (daemons : List ℕ) (base : T) (k : LoggedLock T) → BeginsOn g b daemons base
    → k ≡ record { lock = record { roll = first_roll daemons; base = base }; log = record { works = []; journal = [] } } → CoreAt g k (first_core daemons b.first)
begun_at {T} g b daemons base k begins made =
    subst (λ (x : LoggedLock T). CoreAt g x (first_core daemons b.first)) (sym made)
    (record { for = standing_at b.first begins.moves; stood = λ sound. begins.stands; is = refl })

-- what was played on it is a run of the script, of which the journal is
pub plays_out : {T : Type 0} (g : Ghosts T) (b : RunStart) (base : T) (script : List ScriptStep) (daemons : List ℕ) (k last : LoggedLock T) (played : Played)
    (out out' : Output) (journal : List Entry) (left : T) (failed : Bool) → daemons ≡ daemons_of script → BeginsOn g b daemons base
    → k ≡ record { lock = record { roll = first_roll daemons; base = base }; log = record { works = []; journal = [] } }
    → Plays (core_run g) k last script out out' played → journal ≡ last.log.journal → left ≡ last.lock.base → IsRunOf g b journal left
    → StandsEnded g b journal left → failed ≡ not (is_sound journal)
    → PlaysOut g b script base out out' (record { journal = journal; base = left; failed = failed; starved = played.starved; printing = played.printing })
plays_out {T} g b base script daemons k last played out out' journal left failed named begins made plays journal_is left_is run ended failed_is =
    let p : PlaysFrom (core_run g) (first_core daemons b.first) k last script out out' played = plays.each (first_core daemons b.first) (begun_at g b daemons base k begins made) in
    let begun : k.lock.base ≡ base = ap (λ (x : LoggedLock T). x.lock.base) made in
    record {
      replays = record {
        front = p.front;
        rest = p.rest;
        steps = p.steps;
        made = p.made;
        follows = p.follows;
        core = p.core;
        runs = subst (λ (x : T). RunsCore (g.told x) (first_core (daemons_of script) b.first) p.made p.core) begun
            (subst (λ (ds : List ℕ). RunsCore (g.told k.lock.base) (first_core ds b.first) p.made p.core) named p.runs);
        leaving = p.leaving;
        last = p.last;
        leaves = subst (λ (x : T). AllLeave (g.told x) (leave_of played.starved) p.core p.leaving p.last) begun p.leaves;
        journal_is = ap (λ (c : Core). c.log.journal) (sym p.here.is) ∙ sym journal_is;
        caused = subst (λ (x : T). AreCaused p.made (from_to (media_on g x) (media_on g left))) begun
            (subst (λ (x : T). AreCaused p.made (from_to (media_on g k.lock.base) (media_on g x))) (sym left_is) p.caused);
        printed = (p.all, p.printed);
      };
      run = run;
      ended = ended;
      failed = failed_is;
    }
