-- What a load answers follows from what it came to.
use Rattle.std.proofs.Common.{◌≡◌, ◌⊎◌, ℕ, List, [], Bool, true, false, Some, refl, subst, inl, inr, arith}
use Rattle.std.specs.Prelude.{⊤}
use Rattle.std.specs.Io.KnownBytes.{Appends}
use Rattle.run_load.specs.Loading.{EndsSo, LoadsOn, RunsRounds, SumsUp, load_daemons}
use Rattle.run_load.specs.SummaryText.{summary_text}
use Rattle.run_load.specs.declared.loading.LoadEnd.{LoadEnd}
use Rattle.run_load.specs.declared.loading.LoadEnd.TheVariants as ends
use Rattle.run_load.specs.declared.loading.Loaded.{Loaded}
use Rattle.run_load.specs.declared.summary.Summary.{Summary}
use Rattle.sdr_base.specs.Causes.{Rose}
use Rattle.sdr_base.specs.Pools.{Pools}
use Rattle.sdr_base.specs.Written.{AppendsPart}
use Rattle.sdr_base.specs.declared.media.Media.{Ghosts as MediaGhosts}
use Rattle.sdr_disk.specs.declared.disk.Disk.{Ghosts as DiskGhosts}
use Rattle.sdr_log.specs.Log.{put_back_of}
use Rattle.sdr_machine.specs.Ground.{State}
use Rattle.sdr_model.specs.World.{World}
use Rattle.sdr_model.specs.declared.journal.Entry.{Entry}
use Rattle.sdr_run.specs.Replaying.{IsNotRun, RanOn}
use Rattle.sdr_forms.proofs.ShutLemmas.{by_shut, shut_status}
use Rattle.sdr_forms.specs.Answers.{Seen, Wrote, change_of}
use Rattle.sdr_forms.specs.Shutting.{line_shut, status_shut}
use Rattle.sdr_forms.specs.Loading.{AnswersLoad, HadLoad, IsWholeLoad, LoadComesTo, TellsLoad}
use Rattle.sdr_forms.specs.declared.status.TheConstants.{DONE, USAGE, OUTPUT_FAULT, NOT_FORMATTED, DAMAGED, NO_MEMORY}
use Rattle.sdr_stands.specs.Standing.{StandsForWhole}
use Rattle.sdr_station.specs.Opening.{first_on}
use Rattle.sdr_station.specs.declared.error.OpenError.{OpenError}
use Rattle.sdr_station.specs.declared.error.OpenError.TheVariants as errors

module _ {D M : Type 0} (d : DiskGhosts D) (m : MediaGhosts M) (rounds : ℕ) (disk disk' : D) (files files' : M) (journal : List Entry) (sink sink' : Seen) where
  -- what was run is told of more weakly
  had_of : (starved known : Bool) (P Q : State → Type 0) → starved ≡ known → ((first : State) → P first → Q first)
      → RanOn d m (load_daemons rounds) disk disk' files journal (λ first. RunsRounds (change_of m files files') first rounds journal starved × P first)
      → HadLoad d m rounds disk disk' files files' journal known Q
  had_of starved known P Q is more ran = record {
    ran = record {
      ground = ran.ground;
      with_media = ran.with_media;
      open_so = ran.open_so;
      runs = (
        subst (λ (b : Bool). RunsRounds (change_of m files files') (first_on ran.ground) rounds journal b) is ran.runs.0,
        more (first_on ran.ground) ran.runs.1,
      );
      legal = ran.legal;
      leaves = ran.leaves;
    };
  }

  abbrev Ran : LoadEnd → Bool → Type 0
  Ran end starved =
      RanOn d m (load_daemons rounds) disk disk' files journal
      (λ first. RunsRounds (change_of m files files') first rounds journal starved × EndsSo (m.told files) first rounds journal starved end)

  whole_of : (starved : Bool) (summary : Summary) (P : List ℕ → Type 0) → P (summary_text rounds summary) → Ran (ends.Summed summary) starved
      → IsWholeLoad d m rounds disk disk' files files' journal P
  whole_of starved summary P wrote ran = record {
    sound = ran.runs.1.0;
    had = had_of starved false (λ first. EndsSo (m.told files) first rounds journal starved (ends.Summed summary))
        (λ first. SumsUp (m.told files) (load_daemons rounds) first journal (λ (s : Summary). P (summary_text rounds s))) ran.runs.1.1
        (λ first so. record {
          state = so.2.state;
          after = so.2.after;
          tells = subst (λ (s : Summary). P (summary_text rounds s)) so.2.tells wrote;
        }) ran;
  }

  -- by how it ended
  load_comes : (starved : Bool) (end : LoadEnd) (status : ℕ) → Ran end starved → (end ≡ ends.Unread → Rose (d.faults disk) (d.faults disk'))
      → TellsLoad rounds end status sink sink' → LoadComesTo d m rounds status disk disk' files files' journal sink sink'
  load_comes starved (ends.Summed summary) status ran cause (inl tells) =
      LoadComesTo.done tells.0 (whole_of starved summary (Appends sink.bytes sink'.bytes) tells.1 ran)
  load_comes starved (ends.Summed summary) status ran cause (inr tells) =
      LoadComesTo.unwritten tells.0 tells.1 (whole_of starved summary _ tells.2 ran)
  load_comes starved ends.Starved status ran cause tells =
      LoadComesTo.starved tells.0 ran.runs.1.0 (had_of starved true _ (λ first. ⊤) ran.runs.1.1 (λ first so. tt) ran) tells.1
  load_comes starved ends.Failed status ran cause tells =
      LoadComesTo.failed tells.0 ran.runs.1 starved (had_of starved starved _ (λ first. ⊤) refl (λ first so. tt) ran) tells.1
  load_comes starved ends.Unread status ran cause tells =
      LoadComesTo.unread tells.0 ran.runs.1.0 (cause refl) (had_of starved false _ (λ first. ⊤) ran.runs.1.1 (λ first so. tt) ran) tells.1

  completes : (status : ℕ) → ¬ Rose sink.faults sink'.faults → ¬ Rose (d.faults disk) (d.faults disk')
      → LoadComesTo d m rounds status disk disk' files files' journal sink sink'
      → (status ≡ DONE) ⊎ (status ≡ NOT_FORMATTED) ⊎ (status ≡ DAMAGED) ⊎ (status ≡ NO_MEMORY)
  completes status no_output no_disk (LoadComesTo.done is whole) = inl is
  completes status no_output no_disk (LoadComesTo.unwritten is rose whole) = absurd (no_output rose)
  completes status no_output no_disk (LoadComesTo.failed is broken starved had none) = absurd (no_disk (had.ran.leaves.cause broken))
  completes status no_output no_disk (LoadComesTo.unread is sound rose had none) = absurd (no_disk rose)
  completes status no_output no_disk (LoadComesTo.starved is sound had wrote) = inr (inr (inr is))
  completes status no_output no_disk (LoadComesTo.shut why is was) = shut_status why status _ _ _ no_disk is was.not_run.why

  takes_standing : (status : ℕ) (heap : List ℕ) (w : World) (P : Pools) → put_back_of (d.bytes disk) ≡ Some heap → StandsForWhole heap w P
      → ¬ Rose sink.faults sink'.faults → ¬ Rose (d.faults disk) (d.faults disk')
      → LoadComesTo d m rounds status disk disk' files files' journal sink sink' → (status ≡ DONE) ⊎ (status ≡ NO_MEMORY)
  takes_standing status heap w P gives stands no_output no_disk (LoadComesTo.done is whole) = inl is
  takes_standing status heap w P gives stands no_output no_disk (LoadComesTo.unwritten is rose whole) = absurd (no_output rose)
  takes_standing status heap w P gives stands no_output no_disk (LoadComesTo.failed is broken starved had none) =
      absurd (no_disk (had.ran.leaves.cause broken))
  takes_standing status heap w P gives stands no_output no_disk (LoadComesTo.unread is sound rose had none) = absurd (no_disk rose)
  takes_standing status heap w P gives stands no_output no_disk (LoadComesTo.starved is sound had wrote) = inr is
  takes_standing status heap w P gives stands no_output no_disk (LoadComesTo.shut why is was) =
      (by_shut why status _ _ (d.bytes disk) no_disk is was.not_run.why).taken heap w P gives stands

  -- no load answers that the words are no form
  pub never_usage : (status : ℕ) → LoadComesTo d m rounds status disk disk' files files' journal sink sink' → status ≡ USAGE → ⊥
  never_usage status (LoadComesTo.done is whole) usage = omega (arith, is, usage)
  never_usage status (LoadComesTo.unwritten is rose whole) usage = omega (arith, is, usage)
  never_usage status (LoadComesTo.failed is broken starved had none) usage = omega (arith, is, usage)
  never_usage status (LoadComesTo.unread is sound rose had none) usage = omega (arith, is, usage)
  never_usage status (LoadComesTo.starved is sound had wrote) usage = omega (arith, is, usage)
  never_usage status (LoadComesTo.shut errors.NotFormatted is was) usage = omega (arith, is, usage)
  never_usage status (LoadComesTo.shut (errors.Damaged place why) is was) usage = omega (arith, is, usage)
  never_usage status (LoadComesTo.shut errors.DiskFault is was) usage = omega (arith, is, usage)
  never_usage status (LoadComesTo.shut errors.NoMemory is was) usage = omega (arith, is, usage)

  -- so it answers
  pub load_answers : (status : ℕ) → LoadComesTo d m rounds status disk disk' files files' journal sink sink'
      → AnswersLoad rounds d m status disk disk' files files' journal sink sink'
  load_answers status comes = record {
    comes = comes;
    complete = λ no_output no_disk. completes status no_output no_disk comes;
    taken = λ heap w P gives stands no_output no_disk. takes_standing status heap w P gives stands no_output no_disk comes;
  }

-- a load that was run, and what was told of it
pub answers_loaded : {D M : Type 0} (d : DiskGhosts D) (m : MediaGhosts M) (rounds : ℕ) (disk : D) (files : M) (ran : Loaded D M) (status : ℕ) (sink sink' : Seen)
    → LoadsOn d m rounds disk files ran → TellsLoad rounds ran.end status sink sink'
    → AnswersLoad rounds d m status disk ran.disk files ran.media ran.journal sink sink'
answers_loaded d m rounds disk files ran status sink sink' on tells =
    load_answers d m rounds disk ran.disk files ran.media ran.journal sink sink' status
    (load_comes d m rounds disk ran.disk files ran.media ran.journal sink sink' on.starved ran.end status on.on_heap on.cause tells)

-- a load that was not run, and why
pub answers_unloaded : {D M : Type 0} (d : DiskGhosts D) (m : MediaGhosts M) (rounds : ℕ) (disk disk' : D) (files files' : M) (journal : List Entry)
    (why : OpenError) (status : ℕ) (sink sink' : Seen) → IsNotRun d disk disk' why → files' ≡ files → journal ≡ [] → status ≡ status_shut why
    → Wrote sink sink' (line_shut why) → AnswersLoad rounds d m status disk disk' files files' journal sink sink'
answers_unloaded d m rounds disk disk' files files' journal why status sink sink' not_run unread none is written =
    load_answers d m rounds disk disk' files files' journal sink sink' status
    (LoadComesTo.shut why is (record { not_run = not_run; unread = unread; none = none; written = written }))

-- a summary that was written whole or in part
pub tells_summed : (rounds : ℕ) (summary : Summary) (line : List ℕ) (status : ℕ) (sink sink' : Seen) → line ≡ summary_text rounds summary
    → (status ≡ DONE) ⊎ (status ≡ OUTPUT_FAULT) → (status ≡ DONE → Appends sink.bytes sink'.bytes line)
    → (status ≡ OUTPUT_FAULT → AppendsPart sink.bytes sink'.bytes line) → (status ≡ OUTPUT_FAULT → Rose sink.faults sink'.faults)
    → TellsLoad rounds (ends.Summed summary) status sink sink'
tells_summed rounds summary line status sink sink' same (inl is) whole part cause =
    inl (is, subst (λ (text : List ℕ). Appends sink.bytes sink'.bytes text) same (whole is))
tells_summed rounds summary line status sink sink' same (inr is) whole part cause =
    inr (is, cause is, subst (λ (text : List ℕ). AppendsPart sink.bytes sink'.bytes text) same (part is))
