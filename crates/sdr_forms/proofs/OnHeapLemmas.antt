-- What a form answers that runs a script on the heap of the disk follows from what it came to.
use Rattle.std.proofs.Common.{◌≡◌, ◌∙◌, ◌≤◌, ◌⊎◌, ℕ, List, ◌++◌, Bool, true, false, not, Some, IsOk, IsErr, ap, append-nil, refl, sym, subst, inl, inr, arith}
use Rattle.std.specs.Prelude.{codes}
use Rattle.std.specs.Io.KnownBytes.{Appends, IsAtEnd}
use Rattle.sdr_stands.specs.Standing.{StandsForWhole}
use Rattle.sdr_base.specs.Causes.{Rose}
use Rattle.sdr_base.specs.Pools.{Pools}
use Rattle.sdr_base.specs.Written.{AppendsPart}
use Rattle.sdr_base.specs.declared.media.Media.{Ghosts as MediaGhosts}
use Rattle.sdr_board.specs.Totals.{totals}
use Rattle.sdr_board.specs.declared.totals.Totals.{Totals}
use Rattle.sdr_disk.specs.declared.disk.Disk.{Ghosts as DiskGhosts}
use Rattle.sdr_core.specs.Caused.{MediaChange}
use Rattle.sdr_machine.specs.Crash.{is_sound}
use Rattle.sdr_machine.specs.Ground.{State}
use Rattle.sdr_log.specs.Log.{put_back_of}
use Rattle.sdr_model.specs.World.{World}
use Rattle.sdr_model.specs.declared.journal.Entry.{Entry}
use Rattle.sdr_model.specs.declared.script.ScriptStep.{ScriptStep}
use Rattle.run_live.specs.declared.daemons.RanTotals.{RanTotals}
use Rattle.run_live.specs.Daemons.{RunsOn}
use Rattle.sdr_run.specs.Playing.{IsPrinted, ReplaysSteps}
use Rattle.sdr_run.specs.Replaying.{RanOn}
use Rattle.sdr_run.specs.Schedule.{run_text}
use Rattle.sdr_forms.proofs.ShutLemmas.{by_shut, shut_status}
use Rattle.sdr_forms.proofs.StillLemmas.{none_refused, spells_none, writes_behind}
use Rattle.sdr_forms.specs.Answers.{Seen, Wrote, change_of, output_of}
use Rattle.sdr_forms.specs.OnHeap.{AnswersOnHeap, ComesTo, HadOnHeap, HowRun, IsUntouched}
use Rattle.sdr_forms.specs.Running.{PrintsJournal, line_asked, printed_journal}
use Rattle.sdr_forms.specs.Telling.{Telling}
use Rattle.sdr_forms.specs.Still.{NamesBadLine, Tells}
use Rattle.sdr_forms.specs.declared.status.TheConstants.{DONE, USAGE, INPUT_FAULT, NOT_FORMATTED, DAMAGED, REFUSED_LINE, NO_MEMORY}
use Rattle.sdr_station.specs.Opening.{first_on}
use Rattle.sdr_station.specs.declared.error.OpenError.TheVariants as errors
use Rattle.sdr_text.specs.JournalText.{journal_text}
use Rattle.sdr_text.proofs.TextLemmas.{part_front}
use Rattle.sdr_words.specs.Daemons.{daemons_of}
use Rattle.sdr_words.specs.Script.{input_script}
use Rattle.sdr_words.specs.declared.error.ScriptError.{ScriptError}
use Rattle.sdr_words.specs.declared.error.ScriptError.TheVariants as scripts

-- what was printed was written whole or in part
wrote_of : (printing : Bool) (old now : Seen) (text : List ℕ) → IsPrinted printing (output_of old) (output_of now) text → Wrote old now text
wrote_of true old now text printed = inl printed
wrote_of false old now text printed = inr printed

not_false : (b : Bool) → true ≡ not b → b ≡ false
not_false true is = is
not_false false is = refl

not_true : (b : Bool) → false ≡ not b → b ≡ true
not_true true is = refl
not_true false is = is

-- What is told of a run tells of one text, and may be told more weakly.
pub record TellsText (R : HowRun) : Type 1 where
  pub weaker : (media : MediaChange) (first : State) (script : List ScriptStep) (journal : List Entry) (starved : Bool) (P Q : List ℕ → Type 0)
      → ((text : List ℕ) → P text → Q text) → R media first script journal starved P → R media first script journal starved Q
  pub tells : (media : MediaChange) (first : State) (script : List ScriptStep) (journal : List Entry) (starved : Bool) (P : List ℕ → Type 0)
      → R media first script journal starved P → (text : List ℕ) × P text

-- what is told of a replay does
pub replay_tells : TellsText ReplaysSteps
replay_tells = record {
  weaker = λ media first script journal starved P Q more h. record {
    front = h.front;
    rest = h.rest;
    steps = h.steps;
    made = h.made;
    follows = h.follows;
    core = h.core;
    runs = h.runs;
    leaving = h.leaving;
    last = h.last;
    leaves = h.leaves;
    journal_is = h.journal_is;
    caused = h.caused;
    printed = (h.printed.0, more (run_text h.made) h.printed.1);
  };
  tells = λ media first script journal starved P h. (run_text h.made, h.printed.1);
}

-- and what is told of daemons that ran, with totals or without
pub run_tells : (with_totals : Bool) → TellsText (PrintsJournal with_totals)
run_tells with_totals = record {
  weaker = λ media first script journal starved P Q more h. record { runs = h.runs; text = more (printed_journal with_totals journal) h.text };
  tells = λ media first script journal starved P h. (printed_journal with_totals journal, h.text);
}

-- a journal's text with the line of its totals behind it, where that is asked, is what is printed of the journal
printed_is : (asked : Bool) (journal : List Entry) → journal_text journal ++ line_asked asked (totals journal) ≡ printed_journal asked journal
printed_is true journal = refl
printed_is false journal = append-nil (journal_text journal)

-- daemons ran on the heap of the disk, and of the journal's text, and of the line of its totals where that is asked, this was told
pub ran_printed : {D M : Type 0} (d : DiskGhosts D) (m : MediaGhosts M) (disk : D) (files : M) (script : List ScriptStep) (ran : RanTotals (D × M))
    (asked printing : Bool) (sink mid : Seen) → RunsOn d m disk files script ran
    → IsPrinted printing (output_of sink) (output_of mid) (journal_text ran.journal ++ line_asked asked ran.totals)
    → RanOn d m (daemons_of script) disk ran.base.0 files ran.journal
    (λ first. PrintsJournal asked (change_of m files ran.base.1) first script ran.journal ran.starved (IsPrinted printing (output_of sink) (output_of mid)))
ran_printed d m disk files script ran asked printing sink mid on printed = record {
  ground = on.on_heap.ground;
  with_media = on.on_heap.with_media;
  open_so = on.on_heap.open_so;
  runs = record {
    runs = on.on_heap.runs;
    text = subst (λ (text : List ℕ). IsPrinted printing (output_of sink) (output_of mid) text)
        (ap (λ (t : Totals). journal_text ran.journal ++ line_asked asked t) on.totals_are ∙ printed_is asked ran.journal) printed;
  };
  legal = on.on_heap.legal;
  leaves = on.on_heap.leaves;
}

module _ {D M : Type 0} (d : DiskGhosts D) (m : MediaGhosts M) (R : HowRun) (t : TellsText R) (source source' sink sink' : Seen) (disk disk' : D)
    (files files' : M) (journal : List Entry) where
  -- what was run is told of more weakly
  had_weaker : (starved : Bool) (P Q : List ℕ → Type 0) → ((text : List ℕ) → P text → Q text)
      → HadOnHeap d m R source.bytes disk disk' files files' journal starved P → HadOnHeap d m R source.bytes disk disk' files files' journal starved Q
  had_weaker starved P Q more h = record {
    script = h.script;
    input = h.input;
    ran = record {
      ground = h.ran.ground;
      with_media = h.ran.with_media;
      open_so = h.ran.open_so;
      runs = t.weaker (change_of m files files') (first_on h.ran.ground) h.script journal starved P Q more h.ran.runs;
      legal = h.ran.legal;
      leaves = h.ran.leaves;
    };
  }

  -- what stopped one that was run is told by the status
  pub ran_comes : (failed starved printing : Bool) (status : ℕ) (mid : Seen) → IsAtEnd source'.bytes → sink.faults ≤ mid.faults
      → Telling failed starved printing status mid sink' → failed ≡ not (is_sound journal)
      → HadOnHeap d m R source.bytes disk disk' files files' journal starved (IsPrinted printing (output_of sink) (output_of mid))
      → ComesTo d m R status source source' disk disk' files files' journal sink sink'
  ran_comes true starved printing status mid read later tells failed had =
      ComesTo.failed tells.0 (record {
        starved = starved;
        failed = not_false (is_sound journal) failed;
        ran = had_weaker starved (IsPrinted printing (output_of sink) (output_of mid)) (λ text. Wrote sink sink' text)
            (λ text p. subst (λ (s : Seen). Wrote sink s text) (sym tells.1) (wrote_of printing sink mid text p)) had;
      })
  ran_comes false true true status mid read later tells failed had =
      ComesTo.starved tells.0 (record {
        sound = not_true (is_sound journal) failed;
        ran = had_weaker true (IsPrinted true (output_of sink) (output_of mid)) (λ text. Wrote sink sink' (text ++ codes "no memory\n"))
            (λ text p. writes_behind sink.bytes mid.bytes sink'.bytes sink.faults mid.faults sink'.faults text _ p later tells.1) had;
      })
  ran_comes false true false status mid read later tells failed had =
      ComesTo.starved tells.0 (record {
        sound = not_true (is_sound journal) failed;
        ran = had_weaker true (IsPrinted false (output_of sink) (output_of mid)) (λ text. Wrote sink sink' (text ++ codes "no memory\n"))
            (λ text p. subst (λ (s : Seen). Wrote sink s (text ++ codes "no memory\n")) (sym tells.1)
            (inr (p.0, part_front sink.bytes mid.bytes text _ p.1))) had;
      })
  ran_comes false false true status mid read later tells failed had =
      ComesTo.done tells.0 (record {
        read = read;
        sound = not_true (is_sound journal) failed;
        ran = had_weaker false (IsPrinted true (output_of sink) (output_of mid)) (λ text. Appends sink.bytes sink'.bytes text)
            (λ text p. subst (λ (s : Seen). Appends sink.bytes s.bytes text) (sym tells.1) p) had;
      })
  ran_comes false false false status mid read later tells failed had =
      let part = t.tells (change_of m files files') (first_on had.ran.ground) had.script journal false
      (IsPrinted false (output_of sink) (output_of mid)) had.ran.runs in
      ComesTo.unwritten tells.0 (subst (λ (s : Seen). Rose sink.faults s.faults) (sym tells.1) part.1.0) (record {
        read = read;
        sound = not_true (is_sound journal) failed;
        ran = had_weaker false (IsPrinted false (output_of sink) (output_of mid)) (λ text. AppendsPart sink.bytes sink'.bytes text)
            (λ text p. subst (λ (s : Seen). AppendsPart sink.bytes s.bytes text) (sym tells.1) p.1) had;
      })

  -- why no script was read is told by the status
  pub tell_comes : (error : ScriptError) (status : ℕ) → IsUntouched disk disk' files files' journal → Tells error status sink.bytes sink'.bytes sink.faults sink'.faults
      → NamesBadLine source.bytes error → (error ≡ scripts.Input → Rose source.faults source'.faults)
      → ComesTo d m R status source source' disk disk' files files' journal sink sink'
  tell_comes scripts.Input status same tells bad cause = ComesTo.unread tells.0 (cause refl) same tells.1
  tell_comes (scripts.Line line) status same tells bad cause =
      ComesTo.refused tells.0 same (record { line = line; input = bad; written = tells.1 })
  tell_comes scripts.NoMemory status same tells bad cause = ComesTo.unheld tells.0 same tells.1

  refused_only : (status : ℕ) (bytes : List ℕ) → source.bytes ≡ Some bytes → IsErr (input_script bytes)
      → ComesTo d m R status source source' disk disk' files files' journal sink sink'
      → IsUntouched disk disk' files files' journal × ((status ≡ INPUT_FAULT) ⊎ (status ≡ REFUSED_LINE) ⊎ (status ≡ NO_MEMORY))
  refused_only status bytes told refused (ComesTo.done is whole) = absurd (spells_none source.bytes bytes whole.ran.script told refused whole.ran.input)
  refused_only status bytes told refused (ComesTo.unwritten is rose whole) = absurd (spells_none source.bytes bytes whole.ran.script told refused whole.ran.input)
  refused_only status bytes told refused (ComesTo.failed is ran) = absurd (spells_none source.bytes bytes ran.ran.script told refused ran.ran.input)
  refused_only status bytes told refused (ComesTo.starved is ran) = absurd (spells_none source.bytes bytes ran.ran.script told refused ran.ran.input)
  refused_only status bytes told refused (ComesTo.shut why is was) = absurd (spells_none source.bytes bytes was.script told refused was.input)
  refused_only status bytes told refused (ComesTo.unread is rose same wrote) = (same, inl is)
  refused_only status bytes told refused (ComesTo.refused is same line) = (same, inr (inl is))
  refused_only status bytes told refused (ComesTo.unheld is same wrote) = (same, inr (inr is))

  completes : (status : ℕ) (bytes : List ℕ) → source.bytes ≡ Some bytes → IsOk (input_script bytes)
      → ¬ Rose source.faults source'.faults → ¬ Rose sink.faults sink'.faults → ¬ Rose (d.faults disk) (d.faults disk')
      → ComesTo d m R status source source' disk disk' files files' journal sink sink'
      → (status ≡ DONE) ⊎ (status ≡ NOT_FORMATTED) ⊎ (status ≡ DAMAGED) ⊎ (status ≡ NO_MEMORY)
  completes status bytes told ok no_input no_output no_disk (ComesTo.done is whole) = inl is
  completes status bytes told ok no_input no_output no_disk (ComesTo.unwritten is rose whole) = absurd (no_output rose)
  completes status bytes told ok no_input no_output no_disk (ComesTo.failed is ran) = absurd (no_disk (ran.ran.ran.leaves.cause ran.failed))
  completes status bytes told ok no_input no_output no_disk (ComesTo.starved is ran) = inr (inr (inr is))
  completes status bytes told ok no_input no_output no_disk (ComesTo.shut why is was) = shut_status why status _ _ _ no_disk is was.not_run.why
  completes status bytes told ok no_input no_output no_disk (ComesTo.unread is rose same wrote) = absurd (no_input rose)
  completes status bytes told ok no_input no_output no_disk (ComesTo.refused is same line) =
      absurd (none_refused source.bytes bytes line.line told ok line.input)
  completes status bytes told ok no_input no_output no_disk (ComesTo.unheld is same wrote) = inr (inr (inr is))

  takes_standing : (status : ℕ) (bytes : List ℕ) → source.bytes ≡ Some bytes → IsOk (input_script bytes)
      → (heap : List ℕ) (w : World) (P : Pools) → put_back_of (d.bytes disk) ≡ Some heap → StandsForWhole heap w P
      → ¬ Rose source.faults source'.faults → ¬ Rose sink.faults sink'.faults → ¬ Rose (d.faults disk) (d.faults disk')
      → ComesTo d m R status source source' disk disk' files files' journal sink sink' → (status ≡ DONE) ⊎ (status ≡ NO_MEMORY)
  takes_standing status bytes told ok heap w P gives stands no_input no_output no_disk (ComesTo.done is whole) = inl is
  takes_standing status bytes told ok heap w P gives stands no_input no_output no_disk (ComesTo.unwritten is rose whole) = absurd (no_output rose)
  takes_standing status bytes told ok heap w P gives stands no_input no_output no_disk (ComesTo.failed is ran) =
      absurd (no_disk (ran.ran.ran.leaves.cause ran.failed))
  takes_standing status bytes told ok heap w P gives stands no_input no_output no_disk (ComesTo.starved is ran) = inr is
  takes_standing status bytes told ok heap w P gives stands no_input no_output no_disk (ComesTo.shut why is was) =
      (by_shut why status _ _ _ no_disk is was.not_run.why).taken heap w P gives stands
  takes_standing status bytes told ok heap w P gives stands no_input no_output no_disk (ComesTo.unread is rose same wrote) = absurd (no_input rose)
  takes_standing status bytes told ok heap w P gives stands no_input no_output no_disk (ComesTo.refused is same line) =
      absurd (none_refused source.bytes bytes line.line told ok line.input)
  takes_standing status bytes told ok heap w P gives stands no_input no_output no_disk (ComesTo.unheld is same wrote) = inr is

  -- no such form answers that the words are no form
  pub never_usage : (status : ℕ) → ComesTo d m R status source source' disk disk' files files' journal sink sink' → status ≡ USAGE → ⊥
  never_usage status (ComesTo.done is whole) usage = omega (arith, is, usage)
  never_usage status (ComesTo.unwritten is rose whole) usage = omega (arith, is, usage)
  never_usage status (ComesTo.failed is ran) usage = omega (arith, is, usage)
  never_usage status (ComesTo.starved is ran) usage = omega (arith, is, usage)
  never_usage status (ComesTo.shut errors.NotFormatted is was) usage = omega (arith, is, usage)
  never_usage status (ComesTo.shut (errors.Damaged place why) is was) usage = omega (arith, is, usage)
  never_usage status (ComesTo.shut errors.DiskFault is was) usage = omega (arith, is, usage)
  never_usage status (ComesTo.shut errors.NoMemory is was) usage = omega (arith, is, usage)
  never_usage status (ComesTo.unread is rose same wrote) usage = omega (arith, is, usage)
  never_usage status (ComesTo.refused is same line) usage = omega (arith, is, usage)
  never_usage status (ComesTo.unheld is same wrote) usage = omega (arith, is, usage)

  -- so the answer is one of such a form
  pub answers_of : (status : ℕ) → ComesTo d m R status source source' disk disk' files files' journal sink sink' → AnswersOnHeap d m R status source source' disk disk' files files' journal sink sink'
  answers_of status comes = record {
    comes = comes;
    exact = λ bytes told refused. refused_only status bytes told refused comes;
    complete = λ bytes told ok no_input no_output no_disk. completes status bytes told ok no_input no_output no_disk comes;
    taken = λ bytes told ok heap w P gives stands no_input no_output no_disk.
        takes_standing status bytes told ok heap w P gives stands no_input no_output no_disk comes;
  }
