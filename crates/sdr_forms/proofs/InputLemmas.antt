-- What is answered to an input whose script is run on the heap of the disk.
use Rattle.std.proofs.Common.{◌≡◌, ◌≤◌, ◌+◌, ℕ, [], List, IfSome, length, refl, sym, subst, inl, inr, arith}
use Rattle.std.specs.Io.KnownBytes.{IsAtEnd}
use Rattle.sdr_base.specs.Causes.{Rose}
use Rattle.sdr_base.specs.declared.media.Media.{Ghosts as MediaGhosts}
use Rattle.sdr_base.specs.declared.sink.Sink.{Ghosts as SinkGhosts}
use Rattle.sdr_base.specs.declared.source.Source.{Ghosts as SourceGhosts}
use Rattle.sdr_core.proofs.CausedLemmas.{failed_refl}
use Rattle.sdr_core.specs.Caused.{HaveFailed, seen_media}
use Rattle.sdr_disk.specs.declared.disk.Disk.{Ghosts as DiskGhosts}
use Rattle.sdr_log.specs.Calls.{KeepsDisk}
use Rattle.sdr_model.specs.declared.script.ScriptStep.{ScriptStep}
use Rattle.sdr_forms.proofs.OnHeapLemmas.{TellsText, answers_of, ran_comes, tell_comes}
use Rattle.sdr_forms.specs.Answers.{Seen, change_of, seen}
use Rattle.sdr_forms.specs.OnHeap.{AnswersOnHeap, ComesTo, HowRun}
use Rattle.sdr_forms.specs.Still.{HadScript, NamesBadLine, Tells}
use Rattle.sdr_forms.specs.Telling.{AnswersInput, RunsOrNot}
use Rattle.sdr_forms.specs.declared.outcome.RunOutcome.{RunOutcome}
use Rattle.sdr_words.specs.declared.error.ScriptError.{ScriptError}
use Rattle.sdr_words.specs.declared.error.ScriptError.TheVariants as scripts

-- where no script was read, it is answered so
tell_answers : {D M : Type 0} (d : DiskGhosts D) (m : MediaGhosts M) (R : HowRun) (t : TellsText R) (source source' sink sink' : Seen)
    (disk : D) (files : M) (error : ScriptError) (status : ℕ) → Tells error status sink.bytes sink'.bytes sink.faults sink'.faults
    → NamesBadLine source.bytes error → (error ≡ scripts.Input → Rose source.faults source'.faults)
    → AnswersOnHeap d m R status source source' disk disk files files [] sink sink'
tell_answers d m R t source source' sink sink' disk files error status tells bad cause =
    answers_of d m R t source source' sink sink' disk disk files files [] status
    (tell_comes d m R t source source' sink sink' disk disk files files [] error status (refl, refl, refl) tells bad cause)

-- a script that was run, or not, on the heap of the disk is what the input spelled
script_answers : {D M : Type 0} (d : DiskGhosts D) (m : MediaGhosts M) (R : HowRun) (t : TellsText R) (source source' sink sink' : Seen)
    (disk : D) (files : M) (script : List ScriptStep) (r : RunOutcome D M) → IsAtEnd source'.bytes → HadScript source.bytes script
    → RunsOrNot d m R disk files script sink sink' r → AnswersOnHeap d m R r.status source source' disk r.disk files r.media r.journal sink sink'
script_answers d m R t source source' sink sink' disk files script r read had (inl not) =
    answers_of d m R t source source' sink sink' disk r.disk files r.media r.journal r.status
    (ComesTo.shut not.why not.status (record {
      script = script;
      input = had;
      not_run = not.not_run;
      unread = not.unread;
      none = not.none;
      written = not.written;
    }))
script_answers d m R t source source' sink sink' disk files script r read had (inr was) =
    answers_of d m R t source source' sink sink' disk r.disk files r.media r.journal r.status
    (ran_comes d m R t source source' sink sink' disk r.disk files r.media r.journal was.failed was.starved was.printing r.status was.mid read
    was.later was.tells was.failed_is (record { script = script; input = had; ran = was.ran }))

-- the disk keeps its length, and tells what a crash may leave as before, whether a script was run on it or not
kept : {D M : Type 0} (d : DiskGhosts D) (m : MediaGhosts M) (R : HowRun) (disk : D) (files : M) (script : List ScriptStep) (sink sink' : Seen)
    (r : RunOutcome D M) → RunsOrNot d m R disk files script sink sink' r → KeepsDisk d.bytes d.tells_crashes disk r.disk
kept d m R disk files script sink sink' r (inl not) = not.not_run.keeps
kept d m R disk files script sink sink' r (inr was) = was.ran.leaves.keeps

-- and its count of faults has not fallen
not_fallen : {D M : Type 0} (d : DiskGhosts D) (m : MediaGhosts M) (R : HowRun) (disk : D) (files : M) (script : List ScriptStep) (sink sink' : Seen)
    (r : RunOutcome D M) → RunsOrNot d m R disk files script sink sink' r → d.faults disk ≤ d.faults r.disk
not_fallen d m R disk files script sink sink' r (inl not) = not.not_run.later
not_fallen d m R disk files script sink sink' r (inr was) = was.ran.leaves.later

module _ {D M S K : Type 0} (d : DiskGhosts D) (m : MediaGhosts M) (s : SourceGhosts S) (k : SinkGhosts K) (R : HowRun) (t : TellsText R)
    (disk : D) (files : M) (input input' : S) (output output' : K) (later : s.faults input ≤ s.faults input')
    (reads : s.reads input' ≤ s.reads input + 1048577)
    (each : IfSome (s.left input) (λ bytes. s.reads input' ≤ s.reads input + length bytes + 1))
    (told : k.faults output ≤ k.faults output') where
  abbrev source : S → Seen
  source = seen s.left s.faults

  abbrev sink : K → Seen
  sink = seen k.taken k.faults

  -- its script was run, or not
  pub script_ran : (script : List ScriptStep) (r : RunOutcome D M) → IsAtEnd (s.left input') → HadScript (s.left input) script
      → RunsOrNot d m R disk files script (sink output) (sink output') r → HaveFailed 0 0 (change_of m files r.media)
      → AnswersInput d m s k R disk files input input' output output' r
  script_ran script r read had ran media = record {
    answers = script_answers d m R t (source input) (source input') (sink output) (sink output') disk files script r read had ran;
    later = (later, told, not_fallen d m R disk files script (sink output) (sink output') r ran);
    reads = reads;
    each = each;
    keeps = kept d m R disk files script (sink output) (sink output') r ran;
    media = media;
  }

  -- it wasn't read
  pub none_read : (error : ScriptError) (status : ℕ) (r : RunOutcome D M) → r ≡ record { status = status; journal = []; disk = disk; media = files }
      → Tells error status (k.taken output) (k.taken output') (k.faults output) (k.faults output') → NamesBadLine (s.left input) error
      → (error ≡ scripts.Input → Rose (s.faults input) (s.faults input'))
      → AnswersInput d m s k R disk files input input' output output' r
  none_read error status r is tells bad cause =
      subst (λ (x : RunOutcome D M). AnswersInput d m s k R disk files input input' output output' x) (sym is)
      (record {
        answers = tell_answers d m R t (source input) (source input') (sink output) (sink output') disk files error status tells bad cause;
        later = (later, told, omega arith);
        reads = reads;
        each = each;
        keeps = record { size = refl; tells = refl };
        media = failed_refl (seen_media m.told m.faults m.short files);
      })
