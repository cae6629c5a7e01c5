-- A dry run, and what is promised of it.
use Rattle.std.proofs.Common.{◌≡◌, ℕ, List, [], true, false, true≢false, Option, refl, subst, arith}
use Rattle.std.proofs.KnownBytes.{Appends-nil}
use Rattle.std.specs.Io.KnownBytes.{Appends}
use Rattle.sdr_base.specs.Media.{Told}
use Rattle.sdr_base.specs.declared.media.Media.{Ghosts as MediaGhosts}
use Rattle.sdr_core.proofs.CausedLemmas.{failed_refl}
use Rattle.sdr_core.specs.Caused.{MediaChange, SeenMedia, from_to, media_change}
use Rattle.sdr_machine.specs.Core.{first_core}
use Rattle.sdr_machine.specs.Ground.{bare}
use Rattle.sdr_model.specs.World.{empty_world}
use Rattle.sdr_model.specs.declared.script.ScriptStep.{ScriptStep}
use Rattle.mem_machine.proofs.RunLemmas.{memory_run}
use Rattle.mem_machine.specs.MemoryRun.{MemoryRun, first_run}
use Rattle.sdr_run.specs.Asking.{AsksAlong}
use Rattle.sdr_run.specs.Dry.{IsDry}
use Rattle.sdr_machine.specs.Leaving.{AllLeave}
use Rattle.sdr_run.specs.Playing.{IsPrinted, Output, Plays, PlaysFrom, leave_of}
use Rattle.sdr_run.specs.Schedule.{RunsDry, RunsWhole, SomeRun, run_text}
use Rattle.sdr_run.specs.declared.drying.DryRun.{DryRun}
use Rattle.sdr_run.specs.declared.playing.Played.{Played}
use Rattle.sdr_words.specs.Daemons.{daemons_of}

-- what was played in memory is a dry run
pub dry_of : {M : Type 0} (m : MediaGhosts M) (script : List ScriptStep) (files : M) (after : MemoryRun M) (out out' : Output) (played : Played)
    → Plays (memory_run m) (first_run (daemons_of script) files) after script out out' played
    → IsDry m script files out out' (record { media = after.media; played = played })
dry_of {M} m script files after out out' played plays =
    let p : PlaysFrom (memory_run m) (first_core (daemons_of script) (bare empty_world)) (first_run (daemons_of script) files) after script out out' played =
    plays.each (first_core (daemons_of script) (bare empty_world)) refl in
    let run : RunsDry (m.told files) script p.rest p.made p.core = record { front = p.front; steps = p.steps; follows = p.follows; runs = p.runs } in
    record {
      rest = p.rest;
      made = p.made;
      core = p.core;
      run = run;
      leaving = p.leaving;
      last = p.last;
      leaves = p.leaves;
      caused = p.caused;
      asks = p.asks;
      printed = (p.all, p.printed);
    }

module _ {M : Type 0} (m : MediaGhosts M) (script : List ScriptStep) (files : M) (out out' : Output) (ran : DryRun M) (dry : IsDry m script files out out' ran) where
  -- all steps were made, and all left
  pub whole_of : ran.played.starved ≡ false → ran.played.printing ≡ true → RunsWhole (media_change m.told m.faults m.short files ran.media) script (Appends out.taken out'.taken)
  whole_of fed printing = record {
    made = dry.made;
    core = dry.core;
    run = subst (λ (rest : List ScriptStep). RunsDry (m.told files) script rest dry.made dry.core) (dry.printed.0 fed) dry.run;
    leaving = dry.leaving;
    last = dry.last;
    leaves = subst (λ b. AllLeave (m.told files) (leave_of b) dry.core dry.leaving dry.last) fed dry.leaves;
    caused = dry.caused;
    printed = subst (λ b. IsPrinted b out out' (run_text dry.made)) printing dry.printed.1;
  }

  -- some steps were made
  pub some_of : SomeRun (media_change m.told m.faults m.short files ran.media) script (λ rest text. IsPrinted ran.played.printing out out' text)
  some_of = record { rest = dry.rest; made = dry.made; core = dry.core; run = dry.run; caused = dry.caused; printed = dry.printed.1 }

  -- so often media were asked
  pub asks_of : AsksAlong (m.told files) script (m.asks files) (m.asks ran.media) out out' ran.played
  asks_of = record { rest = dry.rest; made = dry.made; core = dry.core; run = dry.run; printed = dry.printed; asks = dry.asks }

-- what else holds of what a run has left and has printed
pub some_weaker : (media : MediaChange) (script : List ScriptStep) (P Q : List ScriptStep → List ℕ → Type 0)
    → ((rest : List ScriptStep) (text : List ℕ) → P rest text → Q rest text) → SomeRun media script P →
    SomeRun media script Q
some_weaker media script P Q more r = record {
  rest = r.rest;
  made = r.made;
  core = r.core;
  run = r.run;
  caused = r.caused;
  printed = more r.rest (run_text r.made) r.printed;
}

-- no step was made
none_run : (told : Option Told) (script : List ScriptStep) → RunsDry told script script [] (first_core (daemons_of script) (bare empty_world))
none_run told script = record { front = []; steps = refl; follows = tt; runs = refl }

-- and nothing was printed
pub some_none : (media : SeenMedia) (script : List ScriptStep) (old : Option (List ℕ)) → SomeRun (from_to media media) script (λ rest text. Appends old old text)
some_none media script old = record {
  rest = script;
  made = [];
  core = first_core (daemons_of script) (bare empty_world);
  run = none_run media.told script;
  caused = failed_refl media;
  printed = Appends-nil old;
}

-- nor were media asked
pub asks_none : (told : Option Told) (script : List ScriptStep) (asked : ℕ) (old : Output)
    → AsksAlong told script asked asked old old (record { starved = true; printing = true })
asks_none told script asked old = record {
  rest = script;
  made = [];
  core = first_core (daemons_of script) (bare empty_world);
  run = none_run told script;
  printed = (λ fed. absurd (true≢false fed), Appends-nil old.taken);
  asks = omega arith;
}
