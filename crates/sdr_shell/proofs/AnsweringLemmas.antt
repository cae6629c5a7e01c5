-- What is answered to words of a form follows from what the form answers.
use Rattle.std.proofs.Common.{◌≡◌, ◌≤◌, ◌+◌, ℕ, Bool, [], Option, None, Some, IfSome, List, length, refl, sym, ap, subst, inl, inr, true≢false, arith}
use Rattle.std.specs.Prelude.{codes}
use Rattle.sdr_base.specs.declared.media.Media.{Ghosts as MediaGhosts}
use Rattle.sdr_base.specs.declared.sink.Sink.{Ghosts as SinkGhosts}
use Rattle.sdr_base.specs.declared.source.Source.{Ghosts as SourceGhosts}
use Rattle.sdr_core.proofs.CausedLemmas.{failed_refl}
use Rattle.sdr_core.specs.Caused.{HaveFailed, seen_media}
use Rattle.sdr_disk.specs.Pending.{IsSynced}
use Rattle.sdr_disk.specs.declared.disk.Disk.{Ghosts as DiskGhosts}
use Rattle.sdr_log.specs.Calls.{KeepsDisk}
use Rattle.sdr_log.specs.declared.frame.Frame.{Frame}
use Rattle.sdr_run.specs.Playing.{ReplaysSteps}
use Rattle.sdr_forms.proofs.InspectLemmas as inspection
use Rattle.sdr_forms.proofs.LoadLemmas as load
use Rattle.sdr_forms.proofs.OnHeapLemmas as heap_run
use Rattle.sdr_forms.proofs.RecoverLemmas as recovery
use Rattle.sdr_forms.proofs.StillLemmas.{reads_none}
use Rattle.sdr_forms.specs.Answers.{AnswersDry, AnswersFormat, Seen, Wrote, change_of, seen}
use Rattle.sdr_forms.specs.Formatting.{HasFormatted, IsFormatStatus, LeavesDisk}
use Rattle.sdr_forms.specs.Inspecting.{AnswersInspect}
use Rattle.sdr_forms.specs.Loading.{AnswersLoad}
use Rattle.sdr_forms.specs.Recovering.{AnswersRecover}
use Rattle.sdr_forms.specs.Running.{AnswersRun, PrintsJournal}
use Rattle.sdr_forms.specs.Still.{IsDryStatus}
use Rattle.sdr_forms.specs.Telling.{AnswersInput}
use Rattle.sdr_shell.specs.Words.{AnswersForm}
use Rattle.sdr_forms.specs.declared.form.Form.{Form}
use Rattle.sdr_forms.specs.declared.form.Form.TheVariants as forms
use Rattle.sdr_forms.specs.declared.outcome.RunOutcome.{RunOutcome}
use Rattle.sdr_forms.specs.declared.status.TheConstants.{USAGE, TOO_SMALL}

-- no dry run answers that the words are no form
dry_not_usage : (status : ℕ) → IsDryStatus status → status ≡ USAGE → ⊥
dry_not_usage status (inl is) usage = omega (arith, is, usage)
dry_not_usage status (inr (inl is)) usage = omega (arith, is, usage)
dry_not_usage status (inr (inr (inl is))) usage = omega (arith, is, usage)
dry_not_usage status (inr (inr (inr (inl is)))) usage = omega (arith, is, usage)
dry_not_usage status (inr (inr (inr (inr is)))) usage = omega (arith, is, usage)

-- nor does formatting
format_not_usage : (status : ℕ) → IsFormatStatus status → status ≡ USAGE → ⊥
format_not_usage status (inl is) usage = omega (arith, is, usage)
format_not_usage status (inr (inl is)) usage = omega (arith, is, usage)
format_not_usage status (inr (inr (inl is))) usage = omega (arith, is, usage)
format_not_usage status (inr (inr (inr is))) usage = omega (arith, is, usage)

-- where formatting leaves the disk, it is too small
format_leaves : (status : ℕ) → IsFormatStatus status → LeavesDisk status → status ≡ TOO_SMALL
format_leaves status (inl is) leaves = elim leaves [
  | inl l ↦ omega (arith, is, l)
  | inr (inl l) ↦ omega (arith, is, l)
  | inr (inr (inl l)) ↦ omega (arith, is, l)
  | inr (inr (inr (inl l))) ↦ omega (arith, is, l)
  | inr (inr (inr (inr l))) ↦ omega (arith, is, l)
]
format_leaves status (inr (inl is)) leaves = elim leaves [
  | inl l ↦ omega (arith, is, l)
  | inr (inl l) ↦ omega (arith, is, l)
  | inr (inr (inl l)) ↦ omega (arith, is, l)
  | inr (inr (inr (inl l))) ↦ omega (arith, is, l)
  | inr (inr (inr (inr l))) ↦ omega (arith, is, l)
]
format_leaves status (inr (inr (inl is))) leaves = elim leaves [
  | inl l ↦ omega (arith, is, l)
  | inr (inl l) ↦ omega (arith, is, l)
  | inr (inr (inl l)) ↦ omega (arith, is, l)
  | inr (inr (inr (inl l))) ↦ omega (arith, is, l)
  | inr (inr (inr (inr l))) ↦ omega (arith, is, l)
]
format_leaves status (inr (inr (inr is))) leaves = is

-- what is given back where there is no entry
abbrev pub unrun : {D M : Type 0} → ℕ → D → M → RunOutcome D M
unrun status disk files = record { status = status; journal = []; disk = disk; media = files }

module _ {D M S K : Type 0} (d : DiskGhosts D) (m : MediaGhosts M) (s : SourceGhosts S) (k : SinkGhosts K) (disk : D) (files : M) (input input' : S)
    (output output' : K) where
  abbrev source : S → Seen
  source = seen s.left s.faults

  abbrev sink : K → Seen
  sink = seen k.taken k.faults

  -- what is given back is answered to the form that the words were found to be
  pub form_at : (form known : Option Form) (r given : RunOutcome D M) → form ≡ known → r ≡ given
      → AnswersForm d m s k known disk files input input' output output' given → AnswersForm d m s k form disk files input input' output output' r
  form_at form known r given is same a =
      subst (λ (x : RunOutcome D M). AnswersForm d m s k form disk files input input' output output' x) (sym same)
      (subst (λ (f : Option Form). AnswersForm d m s k f disk files input input' output output' given) (sym is) a)

  -- to words that are no form
  pub answers_usage : Wrote (sink output) (sink output') (codes "usage\n") → k.faults output ≤ k.faults output'
      → AnswersForm d m s k None disk files input input output output' (unrun USAGE disk files)
  answers_usage text later = record {
    usage = (λ is. refl, λ none. refl);
    usage_text = λ is. text;
    usage_input = λ none. refl;
    dry = λ is. absurd (cc);
    format = tt;
    synced = tt;
    counts = (omega arith, later, omega arith, omega arith);
    each = reads_none (s.left input) (s.reads input);
    replay = λ is. absurd (cc);
    run = λ totals is. absurd (cc);
    load = λ rounds is. absurd (cc);
    recover = λ is. absurd (cc);
    inspect = λ is. absurd (cc);
    given = λ _ _ _. refl;
    media = failed_refl (seen_media m.told m.faults m.short files);
    unread = λ _ _ _ _. refl;
    same = λ _ _. refl;
    keeps = record { size = refl; tells = refl };
  }

  -- to `dry`
  pub answers_dry : (status : ℕ) (files' : M) → AnswersDry m status (source input) (source input') files files' (sink output) (sink output')
      → (s.faults input ≤ s.faults input') × (k.faults output ≤ k.faults output') → s.reads input' ≤ s.reads input + 1048577
      → IfSome (s.left input) (λ bytes. s.reads input' ≤ s.reads input + length bytes + 1) → HaveFailed 0 0 (change_of m files files')
      → AnswersForm d m s k (Some forms.Dry) disk files input input' output output' (unrun status disk files')
  answers_dry status files' answers later reads each media = record {
    usage = (λ is. absurd (dry_not_usage status answers.known is), λ none. absurd (cc));
    usage_text = λ is. absurd (dry_not_usage status answers.known is);
    usage_input = λ none. absurd (cc);
    dry = λ is. (refl, answers);
    format = tt;
    synced = tt;
    counts = (later.0, later.1, omega arith, reads);
    each = each;
    replay = λ is. absurd (cc);
    run = λ totals is. absurd (cc);
    load = λ rounds is. absurd (cc);
    recover = λ is. absurd (cc);
    inspect = λ is. absurd (cc);
    given = λ _ _ _. refl;
    media = media;
    unread = λ other _ _ _. absurd (other refl);
    same = λ _ _. refl;
    keeps = record { size = refl; tells = refl };
  }

  -- to `format`
  pub answers_format : (frame : Frame) (status : ℕ) (disk' : D)
      → AnswersFormat d status frame disk disk' (sink output) (sink output')
      → (HasFormatted status → IsSynced d.bytes d.tells_crashes d.moment d.may_hold_after disk')
      → (d.faults disk ≤ d.faults disk') × (k.faults output ≤ k.faults output') → (status ≡ TOO_SMALL → disk' ≡ disk)
      → KeepsDisk d.bytes d.tells_crashes disk disk'
      → AnswersForm d m s k (Some (forms.Format frame)) disk files input input output output' (unrun status disk' files)
  answers_format frame status disk' answers synced later small keeps = record {
    usage = (λ is. absurd (format_not_usage status answers.known is), λ none. absurd (cc));
    usage_text = λ is. absurd (format_not_usage status answers.known is);
    usage_input = λ none. absurd (cc);
    dry = λ is. absurd (cc);
    format = (refl, answers);
    synced = synced;
    counts = (omega arith, later.1, later.0, omega arith);
    each = reads_none (s.left input) (s.reads input);
    replay = λ is. absurd (cc);
    run = λ totals is. absurd (cc);
    load = λ rounds is. absurd (cc);
    recover = λ is. absurd (cc);
    inspect = λ is. absurd (cc);
    given = λ _ _ _. refl;
    media = failed_refl (seen_media m.told m.faults m.short files);
    unread = λ _ _ _ _. refl;
    same = λ _ leaves. small (format_leaves status answers.known leaves);
    keeps = keeps;
  }

  -- to `replay`
  pub answers_replay : (r : RunOutcome D M) → AnswersInput d m s k ReplaysSteps disk files input input' output output' r
      → AnswersForm d m s k (Some forms.Replay) disk files input input' output output' r
  answers_replay r e =
      let never : r.status ≡ USAGE → ⊥ =
      heap_run.never_usage d m ReplaysSteps heap_run.replay_tells (source input) (source input') (sink output) (sink output') disk r.disk files r.media r.journal
      r.status e.answers.comes in
      record {
        usage = (λ is. absurd (never is), λ none. absurd (cc));
        usage_text = λ is. absurd (never is);
        usage_input = λ none. absurd (cc);
        dry = λ is. absurd (cc);
        format = tt;
        synced = tt;
        counts = (e.later.0, e.later.1, e.later.2, e.reads);
        each = e.each;
        replay = λ is. e.answers;
        run = λ totals is. absurd (cc);
        load = λ rounds is. absurd (cc);
        recover = λ is. absurd (cc);
        inspect = λ is. absurd (cc);
        given = λ other _ _. absurd (other refl);
        media = e.media;
        unread = λ _ other _ _. absurd (other refl);
        same = λ opens. absurd (true≢false opens);
        keeps = e.keeps;
      }

  -- to `run`, with totals or without
  pub answers_run : (with_totals : Bool) (r : RunOutcome D M) → AnswersInput d m s k (PrintsJournal with_totals) disk files input input' output output' r
      → AnswersForm d m s k (Some (forms.Run with_totals)) disk files input input' output output' r
  answers_run with_totals r e =
      let never : r.status ≡ USAGE → ⊥ =
      heap_run.never_usage d m (PrintsJournal with_totals) (heap_run.run_tells with_totals) (source input) (source input') (sink output) (sink output') disk r.disk files r.media r.journal
      r.status e.answers.comes in
      record {
        usage = (λ is. absurd (never is), λ none. absurd (cc));
        usage_text = λ is. absurd (never is);
        usage_input = λ none. absurd (cc);
        dry = λ is. absurd (cc);
        format = tt;
        synced = tt;
        counts = (e.later.0, e.later.1, e.later.2, e.reads);
        each = e.each;
        replay = λ is. absurd (cc);
        run = λ totals is.
            let same : with_totals ≡ totals = cc is in
            subst (λ (b : Bool). AnswersRun b d m r.status (source input) (source input') disk r.disk files r.media r.journal (sink output) (sink output')) same
            e.answers;
        load = λ rounds is. absurd (cc);
        recover = λ is. absurd (cc);
        inspect = λ is. absurd (cc);
        given = λ _ other _. absurd (true≢false other);
        media = e.media;
        unread = λ _ _ other _. absurd (true≢false other);
        same = λ opens. absurd (true≢false opens);
        keeps = e.keeps;
      }

  -- to `load`
  pub answers_load : (rounds : ℕ) (r : RunOutcome D M)
      → AnswersLoad rounds d m r.status disk r.disk files r.media r.journal (sink output) (sink output')
      → HaveFailed 0 0 (change_of m files r.media) → (k.faults output ≤ k.faults output') × (d.faults disk ≤ d.faults r.disk)
      → KeepsDisk d.bytes d.tells_crashes disk r.disk → AnswersForm d m s k (Some (forms.Load rounds)) disk files input input output output' r
  answers_load rounds r answers media later keeps =
      let never : r.status ≡ USAGE → ⊥ =
      load.never_usage d m rounds disk r.disk files r.media r.journal (sink output) (sink output') r.status answers.comes in
      record {
        usage = (λ is. absurd (never is), λ none. absurd (cc));
        usage_text = λ is. absurd (never is);
        usage_input = λ none. absurd (cc);
        dry = λ is. absurd (cc);
        format = tt;
        synced = tt;
        counts = (omega arith, later.0, later.1, omega arith);
        each = reads_none (s.left input) (s.reads input);
        replay = λ is. absurd (cc);
        run = λ totals is. absurd (cc);
        load = λ asked is.
            let same : rounds ≡ asked = cc in
            (refl, subst (λ (n : ℕ). AnswersLoad n d m r.status disk r.disk files r.media r.journal (sink output) (sink output')) same answers);
        recover = λ is. absurd (cc);
        inspect = λ is. absurd (cc);
        given = λ _ _ other. absurd (true≢false other);
        media = media;
        unread = λ _ _ _ other. absurd (true≢false other);
        same = λ opens. absurd (true≢false opens);
        keeps = keeps;
      }

  -- to `recover`
  pub answers_recover : (status : ℕ) (disk' : D)
      → AnswersRecover d status disk disk' (sink output) (sink output') → (k.faults output ≤ k.faults output') × (d.faults disk ≤ d.faults disk')
      → KeepsDisk d.bytes d.tells_crashes disk disk'
      → AnswersForm d m s k (Some forms.Recover) disk files input input output output' (unrun status disk' files)
  answers_recover status disk' answers later keeps =
      let never : status ≡ USAGE → ⊥ = recovery.never_usage d status disk disk' (sink output) (sink output') answers.comes in
      record {
        usage = (λ is. absurd (never is), λ none. absurd (cc));
        usage_text = λ is. absurd (never is);
        usage_input = λ none. absurd (cc);
        dry = λ is. absurd (cc);
        format = tt;
        synced = tt;
        counts = (omega arith, later.0, later.1, omega arith);
        each = reads_none (s.left input) (s.reads input);
        replay = λ is. absurd (cc);
        run = λ totals is. absurd (cc);
        load = λ rounds is. absurd (cc);
        recover = λ is. (refl, answers);
        inspect = λ is. absurd (cc);
        given = λ _ _ _. refl;
        media = failed_refl (seen_media m.told m.faults m.short files);
        unread = λ _ _ _ _. refl;
        same = λ opens. absurd (true≢false opens);
        keeps = keeps;
      }

  -- to `inspect`
  pub answers_inspect : (status : ℕ) (disk' : D)
      → AnswersInspect d status disk disk' (sink output) (sink output') → (k.faults output ≤ k.faults output') × (d.faults disk ≤ d.faults disk')
      → AnswersForm d m s k (Some forms.Inspect) disk files input input output output' (unrun status disk' files)
  answers_inspect status disk' answers later =
      let never : status ≡ USAGE → ⊥ = inspection.never_usage d status disk disk' (sink output) (sink output') answers.comes in
      record {
        usage = (λ is. absurd (never is), λ none. absurd (cc));
        usage_text = λ is. absurd (never is);
        usage_input = λ none. absurd (cc);
        dry = λ is. absurd (cc);
        format = tt;
        synced = tt;
        counts = (omega arith, later.0, later.1, omega arith);
        each = reads_none (s.left input) (s.reads input);
        replay = λ is. absurd (cc);
        run = λ totals is. absurd (cc);
        load = λ rounds is. absurd (cc);
        recover = λ is. absurd (cc);
        inspect = λ is. (refl, answers);
        given = λ _ _ _. refl;
        media = failed_refl (seen_media m.told m.faults m.short files);
        unread = λ _ _ _ _. refl;
        same = λ opens. absurd (true≢false opens);
        keeps = record { size = ap (λ (x : List ℕ). length x) answers.reads.same; tells = answers.reads.tells };
      }
