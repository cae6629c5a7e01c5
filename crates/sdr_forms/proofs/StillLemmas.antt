-- What a last line adds to a run, and what follows from the statuses.
use Rattle.std.proofs.Common.{◌≡◌, ◌≤◌, ◌<◌, ◌+◌, ◌↔◌, IfSome, ℕ, List, ◌++◌, ◌⊎◌, inl, inr, Bool, true, false, ◌&&◌, Option, Some, None, Ok, Err, IsOk, IsErr, length, true≢false, refl, sym, subst, arith}
use Rattle.std.specs.Io.KnownBytes.{Appends}
use Rattle.std.proofs.KnownBytes.{Appends-trans}
use Rattle.sdr_base.specs.Causes.{Rose}
use Rattle.sdr_base.proofs.WrittenLemmas.{rose_later}
use Rattle.sdr_log.specs.declared.frame.Frame.{Frame}
use Rattle.std.specs.Prelude.{codes, MatchBool}
use Rattle.sdr_forms.specs.Form.{OnFormat}
use Rattle.sdr_forms.specs.declared.form.Form.{Form}
use Rattle.sdr_core.proofs.CausedLemmas.{failed_refl}
use Rattle.sdr_core.specs.Caused.{HaveFailed, MediaChange, media_change, seen_media}
use Rattle.sdr_base.specs.Written.{AppendsPart}
use Rattle.sdr_base.specs.declared.media.Media.{Ghosts as MediaGhosts}
use Rattle.sdr_run.specs.Asking.{AsksAlong}
use Rattle.sdr_run.specs.Dry.{IsDry}
use Rattle.sdr_run.specs.Playing.{IsPrinted}
use Rattle.sdr_run.specs.declared.drying.DryRun.{DryRun}
use Rattle.sdr_forms.specs.Answers.{RanAsking, Seen, Wrote, output_of}
use Rattle.sdr_forms.specs.Telling.{Telling}
use Rattle.sdr_run.specs.Schedule.{RunsWhole, SomeRun}
use Rattle.sdr_forms.specs.Formatting.{IsFormatStatus}
use Rattle.sdr_forms.specs.Still.{WritesOut, HadScript, HadBadLine, HadRun, IsDryStatus, IsRefused, NamesBadLine, Tells}
use Rattle.sdr_words.specs.Script.{input_script}
use Rattle.sdr_words.specs.declared.error.ScriptError.{ScriptError}
use Rattle.sdr_words.specs.declared.error.ScriptError.TheVariants as errors
use Rattle.sdr_forms.specs.declared.status.TheConstants.{DONE, INPUT_FAULT, OUTPUT_FAULT, DISK_FAULT, REFUSED_LINE, NO_MEMORY, TOO_SMALL}
use Rattle.sdr_model.specs.declared.script.ScriptStep.{ScriptStep}
use Rattle.sdr_text.proofs.TextLemmas.{part_later}
use Rattle.sdr_run.proofs.DryLemmas.{asks_none, asks_of, some_none, some_of, some_weaker, whole_of}
use Rattle.sdr_run.proofs.PlayingLemmas.{part_more}

-- a last line behind a text that was written whole
pub writes_behind : (old mid new : Option (List ℕ)) (before between now : ℕ) (text line : List ℕ)
    → Appends old mid text → before ≤ between → WritesOut mid new between now line → WritesOut old new before now (text ++ line)
writes_behind old mid new before between now text line a later (inl w) = inl (Appends-trans old mid new text line a w)
writes_behind old mid new before between now text line a later (inr f) =
    inr (rose_later before between now later f.0, part_later old mid new text line a f.1)

-- a last line behind the answers of a run
pub some_behind : (media : MediaChange) (script : List ScriptStep) (old mid new : Option (List ℕ)) (before between now : ℕ) (line : List ℕ)
    → SomeRun media script (λ rest text. Appends old mid text) → before ≤ between → WritesOut mid new between now line
    → SomeRun media script (λ rest text. WritesOut old new before now (text ++ line))
some_behind media script old mid new before between now line r later w =
    some_weaker media script (λ rest text. Appends old mid text) (λ rest text. WritesOut old new before now (text ++ line))
    (λ rest text h. writes_behind old mid new before between now text line h later w) r

-- Memory was wanting before the first step, which the last line tells: media and the output are as before.
module _ {M : Type 0} (m : MediaGhosts M) (script : List ScriptStep) (files files' : M) (same : files' ≡ files) where
  pub unrun_media : HaveFailed 0 0 (media_change m.told m.faults m.short files files')
  unrun_media =
      subst (λ (x : M). HaveFailed 0 0 (media_change m.told m.faults m.short files x)) (sym same)
      (failed_refl (seen_media m.told m.faults m.short files))

  pub unrun_starved : (sink sink' : Seen) → Wrote sink sink' (codes "no memory\n")
      → SomeRun (media_change m.told m.faults m.short files files') script
      (λ rest text. WritesOut sink.bytes sink'.bytes sink.faults sink'.faults (text ++ codes "no memory\n"))
  unrun_starved sink sink' wrote =
      subst (λ (x : M). SomeRun (media_change m.told m.faults m.short files x) script
      (λ rest text. WritesOut sink.bytes sink'.bytes sink.faults sink'.faults (text ++ codes "no memory\n"))) (sym same)
      (some_behind (media_change m.told m.faults m.short files files) script sink.bytes sink.bytes sink'.bytes sink.faults sink.faults sink'.faults
      (codes "no memory\n") (some_none (seen_media m.told m.faults m.short files) script sink.bytes) (omega arith) wrote)

  pub unrun_asks : (sink sink' : Seen) → Wrote sink sink' (codes "no memory\n") → RanAsking (m.told files) script (m.asks files) (m.asks files') sink sink'
  unrun_asks sink sink' wrote = record {
    played = record { starved = true; printing = true };
    mid = sink;
    asks = subst (λ (x : M). AsksAlong (m.told files) script (m.asks files) (m.asks x) (output_of sink) (output_of sink) (record { starved = true; printing = true }))
        (sym same) (asks_none (m.told files) script (m.asks files) (output_of sink));
    tells = wrote;
  }

-- A script was run in memory, and what stopped the run was told behind its text.
module _ {M : Type 0} (m : MediaGhosts M) (script : List ScriptStep) (files : M) (sink mid sink' : Seen) (ran : DryRun M) (status : ℕ)
    (dry : IsDry m script files (output_of sink) (output_of mid) ran) (tells : Telling false ran.played.starved ran.played.printing status mid sink') where
  abbrev seen_change : MediaChange
  seen_change = media_change m.told m.faults m.short files ran.media

  -- what the status tells, by what stopped it
  told_by : (starved printing : Bool) → ran.played.starved ≡ starved → ran.played.printing ≡ printing → Telling false starved printing status mid sink'
  told_by starved printing one two = subst (λ b. Telling false starved b status mid sink') two (subst (λ b. Telling false b ran.played.printing status mid sink') one tells)

  some_printed : (printing : Bool) → ran.played.printing ≡ printing → SomeRun seen_change script (λ rest text. IsPrinted printing (output_of sink) (output_of mid) text)
  some_printed printing is =
      some_weaker seen_change script (λ rest text. IsPrinted ran.played.printing (output_of sink) (output_of mid) text)
      (λ rest text. IsPrinted printing (output_of sink) (output_of mid) text)
      (λ rest text p. subst (λ b. IsPrinted b (output_of sink) (output_of mid) text) is p) (some_of m script files (output_of sink) (output_of mid) ran dry)

  pub dry_known : (status ≡ DONE) ⊎ (status ≡ OUTPUT_FAULT) ⊎ (status ≡ NO_MEMORY)
  dry_known = by ran.played.starved ran.played.printing refl refl
    where
      by : (starved printing : Bool) → ran.played.starved ≡ starved → ran.played.printing ≡ printing → (status ≡ DONE) ⊎ (status ≡ OUTPUT_FAULT) ⊎ (status ≡ NO_MEMORY)
      by true true one two = inr (inr (told_by true true one two).0)
      by true false one two = inr (inr (told_by true false one two).0)
      by false true one two = inl (told_by false true one two).0
      by false false one two = inr (inl (told_by false false one two).0)

  pub dry_done : status ≡ DONE → RunsWhole seen_change script (Appends sink.bytes sink'.bytes)
  dry_done is = by ran.played.starved ran.played.printing refl refl
    where
      by : (starved printing : Bool) → ran.played.starved ≡ starved → ran.played.printing ≡ printing → RunsWhole seen_change script (Appends sink.bytes sink'.bytes)
      by true true one two = let t = (told_by true true one two).0 in absurd (omega (arith, is, t))
      by true false one two = let t = (told_by true false one two).0 in absurd (omega (arith, is, t))
      by false false one two = let t = (told_by false false one two).0 in absurd (omega (arith, is, t))
      by false true one two =
          subst (λ (s : Seen). RunsWhole seen_change script (Appends sink.bytes s.bytes)) (sym (told_by false true one two).1)
          (whole_of m script files (output_of sink) (output_of mid) ran dry one two)

  pub dry_fault : status ≡ OUTPUT_FAULT → Rose sink.faults sink'.faults
  dry_fault is = by ran.played.starved ran.played.printing refl refl
    where
      by : (starved printing : Bool) → ran.played.starved ≡ starved → ran.played.printing ≡ printing → Rose sink.faults sink'.faults
      by true true one two = let t = (told_by true true one two).0 in absurd (omega (arith, is, t))
      by true false one two = let t = (told_by true false one two).0 in absurd (omega (arith, is, t))
      by false true one two = let t = (told_by false true one two).0 in absurd (omega (arith, is, t))
      by false false one two = subst (λ (s : Seen). Rose sink.faults s.faults) (sym (told_by false false one two).1) (some_printed false two).printed.0

  pub dry_part : status ≡ OUTPUT_FAULT → SomeRun seen_change script (λ rest text. AppendsPart sink.bytes sink'.bytes text)
  dry_part is = by ran.played.starved ran.played.printing refl refl
    where
      by : (starved printing : Bool) → ran.played.starved ≡ starved → ran.played.printing ≡ printing → SomeRun seen_change script (λ rest text. AppendsPart sink.bytes sink'.bytes text)
      by true true one two = let t = (told_by true true one two).0 in absurd (omega (arith, is, t))
      by true false one two = let t = (told_by true false one two).0 in absurd (omega (arith, is, t))
      by false true one two = let t = (told_by false true one two).0 in absurd (omega (arith, is, t))
      by false false one two =
          subst (λ (s : Seen). SomeRun seen_change script (λ rest text. AppendsPart sink.bytes s.bytes text)) (sym (told_by false false one two).1)
          (some_weaker seen_change script (λ rest text. IsPrinted false (output_of sink) (output_of mid) text) (λ rest text. AppendsPart sink.bytes mid.bytes text)
          (λ rest text p. p.1) (some_printed false two))

  pub dry_starved : sink.faults ≤ mid.faults → status ≡ NO_MEMORY
      → SomeRun seen_change script (λ rest text. WritesOut sink.bytes sink'.bytes sink.faults sink'.faults (text ++ codes "no memory\n"))
  dry_starved later is = by ran.played.starved ran.played.printing refl refl
    where
      by : (starved printing : Bool) → ran.played.starved ≡ starved → ran.played.printing ≡ printing
          → SomeRun seen_change script (λ rest text. WritesOut sink.bytes sink'.bytes sink.faults sink'.faults (text ++ codes "no memory\n"))
      by false true one two = let t = (told_by false true one two).0 in absurd (omega (arith, is, t))
      by false false one two = let t = (told_by false false one two).0 in absurd (omega (arith, is, t))
      by true true one two =
          some_behind seen_change script sink.bytes mid.bytes sink'.bytes sink.faults mid.faults sink'.faults (codes "no memory\n") (some_printed true two) later (told_by true true one two).1
      by true false one two =
          subst (λ (s : Seen). SomeRun seen_change script (λ rest text. WritesOut sink.bytes s.bytes sink.faults s.faults (text ++ codes "no memory\n"))) (sym (told_by true false one two).1)
          (some_weaker seen_change script (λ rest text. IsPrinted false (output_of sink) (output_of mid) text)
          (λ rest text. WritesOut sink.bytes mid.bytes sink.faults mid.faults (text ++ codes "no memory\n"))
          (λ rest text p. inr (p.0, part_more sink.bytes mid.bytes text (codes "no memory\n") p.1)) (some_printed false two))

  pub dry_asks : RanAsking (m.told files) script (m.asks files) (m.asks ran.media) sink sink'
  dry_asks = record {
    played = ran.played;
    mid = mid;
    asks = asks_of m script files (output_of sink) (output_of mid) ran dry;
    tells = by ran.played.starved ran.played.printing refl refl;
  }
    where
      by : (starved printing : Bool) → ran.played.starved ≡ starved → ran.played.printing ≡ printing
          → MatchBool (starved && printing) (Wrote mid sink' (codes "no memory\n")) (sink' ≡ mid)
      by true true one two = (told_by true true one two).1
      by true false one two = (told_by true false one two).1
      by false true one two = (told_by false true one two).1
      by false false one two = (told_by false false one two).1

-- what a told input spells
pub told_script : (left : Option (List ℕ)) (bytes : List ℕ) (script : List ScriptStep) → left ≡ Some bytes → HadScript left script → input_script bytes ≡ Ok script
told_script None bytes script told h = cc
told_script (Some input) bytes script told h = cc (told, h.had, h.spells)

-- an input that is refused spells no script
pub spells_none : (left : Option (List ℕ)) (bytes : List ℕ) (script : List ScriptStep) → left ≡ Some bytes → IsErr (input_script bytes)
    → HadScript left script → ⊥
spells_none left bytes script told refused had = absurd (true≢false (sym (subst IsErr (told_script left bytes script told had) refused)))

-- so it was not run
pub not_run : (left : Option (List ℕ)) (bytes : List ℕ) (media : MediaChange) (P : List ScriptStep → List ℕ → Type 0)
    → left ≡ Some bytes → IsErr (input_script bytes) → HadRun left media P → ⊥
not_run left bytes media P told refused run = spells_none left bytes run.script told refused run.input

-- a status that tells of a refused line stands for one
pub tells_refused : (error : ScriptError) (status : ℕ) (left old new : Option (List ℕ)) (before now : ℕ)
    → Tells error status old new before now → status ≡ REFUSED_LINE → NamesBadLine left error
    → IsRefused left old new before now
tells_refused errors.Input status left old new before now t is bad = absurd (omega (arith, t.0, is))
tells_refused (errors.Line line) status left old new before now t is bad = record { line = line; input = bad; written = t.1 }
tells_refused errors.NoMemory status left old new before now t is bad = absurd (omega (arith, t.0, is))

-- and one that tells of no memory for it
pub tells_starved : (error : ScriptError) (status : ℕ) (old new : Option (List ℕ)) (before now : ℕ)
    → Tells error status old new before now → status ≡ NO_MEMORY → WritesOut old new before now (codes "no memory\n")
tells_starved errors.Input status old new before now t is = absurd (omega (arith, t.0, is))
tells_starved (errors.Line line) status old new before now t is = absurd (omega (arith, t.0, is))
tells_starved errors.NoMemory status old new before now t is = t.1

-- the status of a script that was run tells of no fault or refusal of its input
pub ran_reads : (status : ℕ) → (status ≡ DONE) ⊎ (status ≡ OUTPUT_FAULT) ⊎ (status ≡ NO_MEMORY) → (status ≡ INPUT_FAULT) ⊎ (status ≡ REFUSED_LINE) → ⊥
ran_reads status (inl done) (inl input) = omega (arith, done, input)
ran_reads status (inl done) (inr line) = omega (arith, done, line)
ran_reads status (inr (inl output)) (inl input) = omega (arith, output, input)
ran_reads status (inr (inl output)) (inr line) = omega (arith, output, line)
ran_reads status (inr (inr starved)) (inl input) = omega (arith, starved, input)
ran_reads status (inr (inr starved)) (inr line) = omega (arith, starved, line)

-- an input that isn't read
pub reads_none : (left : Option (List ℕ)) (reads : ℕ) → IfSome left (λ bytes. reads ≤ reads + length bytes + 1)
reads_none None reads = tt
reads_none (Some bytes) reads = omega arith

-- what a told input has refused
pub told_line : (left : Option (List ℕ)) (bytes : List ℕ) (line : ℕ) → left ≡ Some bytes → HadBadLine left line → input_script bytes ≡ Err line
told_line None bytes line told h = cc
told_line (Some input) bytes line told h = cc (told, h.had, h.refused)

-- an input that is accepted has no refused line
pub none_refused : (left : Option (List ℕ)) (bytes : List ℕ) (line : ℕ) → left ≡ Some bytes → IsOk (input_script bytes) → HadBadLine left line → ⊥
none_refused left bytes line told ok bad = absurd (true≢false (sym (subst IsOk (told_line left bytes line told bad) ok)))

-- a dry run of an accepted script ends well, unless there is a fault or no memory
pub dry_completes : (status : ℕ) (left old new : Option (List ℕ)) (source source' before now : ℕ) (bytes : List ℕ) → IsDryStatus status
    → (status ≡ INPUT_FAULT → Rose source source') → (status ≡ OUTPUT_FAULT → Rose before now) → (status ≡ REFUSED_LINE → IsRefused left old new before now)
    → left ≡ Some bytes → IsOk (input_script bytes) → ¬ Rose source source' → ¬ Rose before now → (status ≡ DONE) ⊎ (status ≡ NO_MEMORY)
dry_completes status left old new source source' before now bytes known input output refused told ok no_input no_output =
    elim known [
      | inl done ↦ inl done
      | inr (inl is) ↦ absurd (no_input (input is))
      | inr (inr (inl is)) ↦ absurd (no_output (output is))
      | inr (inr (inr (inl is))) ↦ absurd (none_refused left bytes (refused is).line told ok (refused is).input)
      | inr (inr (inr (inr is))) ↦ inr is
    ]

-- a disk that is long enough is formatted, unless there is a fault
pub format_completes : (status size need disk disk' before now : ℕ) → IsFormatStatus status → (status ≡ TOO_SMALL) ↔ (size < need)
    → (status ≡ DISK_FAULT → Rose disk disk') → (status ≡ OUTPUT_FAULT → Rose before now) → need ≤ size → ¬ Rose disk disk' → ¬ Rose before now → status ≡ DONE
format_completes status size need disk disk' before now known small fault output enough no_disk no_output =
    elim known [
      | inl done ↦ done
      | inr (inl is) ↦ absurd (no_output (output is))
      | inr (inr (inl is)) ↦ absurd (no_disk (fault is))
      | inr (inr (inr is)) ↦ let short = small.0 is in absurd (omega (arith, short, enough))
    ]

-- the script that was read is the one that ran
pub had_run : (left : Option (List ℕ)) (media : MediaChange) (script ran : List ScriptStep)
    (P : List ScriptStep → List ℕ → Type 0)
    → HadScript left script → ran ≡ script → SomeRun media ran P → HadRun left media P
had_run left media script ran P had same run = record {
  script = script;
  input = had;
  run = subst (λ s. SomeRun media s P) same run;
}

-- what holds of a form holds of the words that are it
pub on_form : (o : Option Form) (form : Form) (P : Frame → Type 0) → o ≡ Some form → OnFormat (Some form) P → OnFormat o P
on_form o form P is holds = subst (λ o. OnFormat o P) (sym is) holds
