-- A schedule that is played, and what it has printed.
use Rattle.std.proofs.Common.{◌≡◌, ◌∙◌, ◌≤◌, ℕ, List, [], ◌∷◌, ◌++◌, Bool, true, false, true≢false, Option, Result, Ok, Err, OnErr, OnOk, is_ok, refl, sym, ap, subst, append-nil, append_assoc, arith}
use Rattle.std.proofs.KnownBytes.{Appends-nil, Appends-trans}
use Rattle.std.specs.Io.KnownBytes.{Appends, Keeps, append_known}
use Rattle.sdr_base.proofs.WrittenLemmas.{rose_later}
use Rattle.sdr_base.specs.Causes.{HasCause}
use Rattle.sdr_base.specs.Written.{AppendsPart}
use Rattle.sdr_buffer.proofs.WaitingLemmas.{all_of_none, all_passed, append_known-nil, grows_more, grows_none, grows_part, none_of, part_passed}
use Rattle.sdr_buffer.specs.Waiting.{Grows}
use Rattle.sdr_core.specs.Going.{GoesUnasked, MakesNext, NextCore, media_of}
use Rattle.sdr_core.specs.declared.has_run.HasRun.{Ghosts as RunGhosts}
use Rattle.sdr_core.proofs.CausedLemmas.{caused_by, caused_later, caused_more, failed_refl, stayed_by}
use Rattle.sdr_run.proofs.ScheduleLemmas.{bindings_after-push, follows-push, outside_along-push, run_text-push, runs-push}
use Rattle.sdr_core.specs.Caused.{IsCaused, from_to}
use Rattle.sdr_run.specs.Schedule.{MakesEvent, bindings_after, run_text}
use Rattle.sdr_machine.specs.Asked.{outside_asked}
use Rattle.sdr_machine.specs.Core.{Core, CoreStep}
use Rattle.sdr_machine.specs.Leaving.{AllLeave}
use Rattle.sdr_machine.specs.Machine.{Made}
use Rattle.sdr_machine.specs.declared.came.Came.{Came}
use Rattle.sdr_model.specs.declared.answer.Answer.{Answer}
use Rattle.sdr_model.specs.declared.event.Event.{Event}
use Rattle.sdr_model.specs.declared.script.ScriptStep.{ScriptStep}
use Rattle.sdr_run.specs.Playing.{IsPrinted, Output, Plays, PrintsMore, leave_of}
use Rattle.sdr_run.specs.Running.{AnswersStep, HasMade, HasRun, MakesStep, Running, TellsGiven}
use Rattle.sdr_run.specs.Steps.{StartsWith}
use Rattle.sdr_text.proofs.TextLemmas.{part_later}
use Rattle.sdr_text.specs.Text.{line_text}
use Rattle.sdr_words.specs.Bindings.{Binding, bound, event_of}

-- a part of a text is one of a longer text
pub part_more : (old new : Option (List ℕ)) (text more : List ℕ) → AppendsPart old new text → AppendsPart old new (text ++ more)
part_more old new text more p = record {
  front = p.front;
  rest = p.rest ++ more;
  written = p.written;
  whole = ap (λ l. l ++ more) p.whole ∙ append_assoc p.front p.rest more;
}

-- where a line was printed, or a part of it, the output is told to be going or to have failed
pub printed_as : {T E : Type 0} (r : Result T E) (was going : Bool) (old now : Output) (line : List ℕ) → was ≡ true → going ≡ is_ok r
    → OnOk r (Appends old.taken now.taken line) → OnErr r (AppendsPart old.taken now.taken line) → HasCause old.faults now.faults r → PrintsMore was going old now line
printed_as (Ok x) was going old now line is told all part cause =
    subst (λ (b : Bool). PrintsMore b going old now line) (sym is)
    (subst (λ (b : Bool). PrintsMore true b old now line) (sym told) (λ first text below printed. Appends-trans first.taken old.taken now.taken text line printed all))
printed_as (Err e) was going old now line is told all part cause =
    subst (λ (b : Bool). PrintsMore b going old now line) (sym is)
    (subst (λ (b : Bool). PrintsMore true b old now line) (sym told)
    (λ first text below printed. (
      rose_later first.faults old.faults now.faults below cause.failed,
      part_later first.taken old.taken now.taken text line printed part,
    )))

-- what waited was passed on, or a part of it, and no line was printed
pub passed_as : {T E : Type 0} (r : Result T E) (was going : Bool) (old now : Output) → was ≡ true → going ≡ is_ok r → Keeps old.taken now.taken
    → HasCause old.faults now.faults r → PrintsMore was going old now []
passed_as r was going old now is told keeps cause =
    printed_as r was going old now [] is told (all_of_none r old.taken now.taken keeps) (none_of r old.taken now.taken [] keeps) cause

-- what holds where the output took all
pub where_going : {T E : Type 0} {P : Type 0} (r : Result T E) (going : Bool) → going ≡ is_ok r → OnOk r P → going ≡ true → P
where_going (Ok x) going told p is = p
where_going (Err e) going told p is = absurd (true≢false (sym is ∙ told))

-- nothing is printed where the output has failed
pub printed_none : (p : Bool) (old : Output) (line : List ℕ) → p ≡ false → PrintsMore p p old old line
printed_none p old line is =
    subst (λ (b : Bool). PrintsMore b b old old line) (sym is)
    (λ first text below printed. (printed.0, part_more first.taken old.taken text line printed.1))

-- no line was printed
pub prints_nothing : (p : Bool) (out : Output) → PrintsMore p p out out []
prints_nothing p out = λ first text below printed. subst (IsPrinted p first out) (sym (append-nil text)) printed

-- a line was printed behind that
pub prints_then : (was between going : Bool) (old mid now : Output) (line : List ℕ) → PrintsMore was between old mid [] → old.faults ≤ mid.faults
    → PrintsMore between going mid now line → PrintsMore was going old now line
prints_then was between going old mid now line none later more = λ first text below printed.
    more first text (omega (arith, below, later)) (subst (IsPrinted between first mid) (append-nil text) (none first text below printed))

pub ruleset silent = (prints_nothing, grows_none, grows_more, grows_part)

-- where nothing waits, or the output has failed, the output took the text, or a part of it
pub printed_out : (going : Bool) (first now : Output) (waiting text : List ℕ) → (going ≡ true → waiting ≡ []) → Grows first.taken now.taken
    → IsPrinted going first (record { taken = append_known now.taken waiting; faults = now.faults }) text → IsPrinted going first now text
printed_out true first now waiting text empty grows printed =
    all_passed first.taken now.taken [] waiting text refl (empty refl) (subst (λ known. Appends known (append_known now.taken waiting) text) (sym (append_known-nil first.taken)) printed)
printed_out false first now waiting text empty grows printed = (
  printed.0,
  part_passed first.taken now.taken [] waiting text refl grows
      (subst (λ known. AppendsPart known (append_known now.taken waiting) text) (sym (append_known-nil first.taken)) printed.1),
)

-- where nothing waited at first, the text is that of the output
pub began_empty : (going : Bool) (first now : Output) (waiting text : List ℕ) → waiting ≡ []
    → IsPrinted going (record { taken = append_known first.taken waiting; faults = first.faults }) now text → IsPrinted going first now text
began_empty going first now waiting text none printed =
    let same : append_known first.taken waiting ≡ first.taken = ap (append_known first.taken) none ∙ append_known-nil first.taken in
    subst (λ known. IsPrinted going (record { taken = known; faults = first.faults }) now text) same printed

-- nothing was made yet
pub running_start : {R : Type 0} (r : RunGhosts R) (now : R) (first : Core) (script : List ScriptStep) (out : Output) → r.at now first
    → Running r now first script script [] now (IsPrinted true out out)
running_start r now first script out here = record {
  at = record {
    made = [];
    core = first;
    here = here;
    front = [];
    steps = refl;
    follows = tt;
    runs = refl;
    caused = failed_refl (media_of r now);
    asks = omega arith;
    printed = Appends-nil out.taken;
  };
  names = refl;
}

-- a step was answered by its event
pub answered_by : {R : Type 0} (r : RunGhosts R) (bindings : List Binding) (step : ScriptStep) (event : Event) (came : Came) (old new : R) (Prints : List ℕ → Type 0)
    → event ≡ event_of bindings step → MakesNext r step.daemon step.line event came old new
    → TellsGiven r new came (λ bytes. Prints (line_text step.line step.daemon came.answer bytes)) → AnswersStep r bindings step old new Prints
answered_by r bindings step event came old new Prints is makes prints = record {
  came = came;
  makes = subst (λ (ev : Event). MakesNext r step.daemon step.line ev came old new) is makes;
  prints = prints;
}

-- and its name holds what the answer gave
pub made_by_event : {R : Type 0} (r : RunGhosts R) (bindings : List Binding) (step : ScriptStep) (event : Event) (came : Came) (old new : R) (bindings' : List Binding)
    (Prints : List ℕ → Type 0) → event ≡ event_of bindings step → MakesNext r step.daemon step.line event came old new
    → TellsGiven r new came (λ bytes. Prints (line_text step.line step.daemon came.answer bytes)) → bindings' ≡ bound bindings step came.answer
    → MakesStep r bindings step old new bindings' Prints
unfolding answered_by
made_by_event r bindings step event came old new bindings' Prints is makes prints names =
    record { answers = answered_by r bindings step event came old new Prints is makes prints; names = names }

-- the run so far, by the step that is next
pub running_at : {R : Type 0} (r : RunGhosts R) (before : R) (from : Core) (script left : List ScriptStep) (step : ScriptStep) (bindings : List Binding) (now : R)
    (P : List ℕ → Type 0) (next : StartsWith left step) → Running r before from script left bindings now P → Running r before from script (step ∷ next.rest) bindings now P
running_at r before from script left step bindings now P next at = subst (λ (rest : List ScriptStep). Running r before from script rest bindings now P) next.is at

module _ {R : Type 0} (r : RunGhosts R) (before : R) (from : Core) (script : List ScriptStep) (step : ScriptStep) (rest : List ScriptStep) (bindings : List Binding) (old new : R)
    (was going : Bool) (first out after : Output) (at : Running r before from script (step ∷ rest) bindings old (IsPrinted was first out))
    (below : first.faults ≤ out.faults) (a : AnswersStep r bindings step old new (PrintsMore was going out after)) where
  n : NextCore r step.daemon step.line (event_of bindings step) a.came at.at.core old new
  n = a.makes.each at.at.core at.at.here

  abbrev e : Made
  e = n.made

  told_same : r.told old ≡ r.told before
  told_same = at.at.caused.told

  event_made : MakesEvent (bindings_after [] at.at.front at.at.made) step e
  event_made = record { line = n.line_is; daemon = n.daemon_is; event = n.event_is ∙ ap (λ names. event_of names step) at.names }

  core_step : CoreStep (r.told before) at.at.core e n.next
  core_step = subst (λ told. CoreStep told at.at.core e n.next) told_same n.step

  caused_here : IsCaused e.said.answer (from_to (media_of r old) (media_of r new))
  caused_here =
      subst (λ (x : Answer). IsCaused x (from_to (media_of r old) (media_of r new))) (sym n.answer_is)
      (caused_by a.came.answer (media_of r old) (media_of r new) a.makes.told a.makes.lapses a.makes.gap)

  line_here : line_text step.line step.daemon a.came.answer a.prints.bytes ≡ line_text e.said.line e.daemon e.said.answer e.said.bytes
  line_here = λ i. line_text (sym n.line_is i) (sym n.daemon_is i) (sym n.answer_is i) (n.bytes_are a.prints.bytes a.prints.gives i)

  -- one more step was made
  pub made_next : HasMade r before from script rest new (IsPrinted going first after)
  made_next = record {
    made = at.at.made ++ e ∷ [];
    core = n.next;
    here = n.here;
    front = at.at.front ++ step ∷ [];
    steps = at.at.steps ∙ sym (append_assoc at.at.front (step ∷ []) rest);
    follows = follows-push [] at.at.front at.at.made step e at.at.follows event_made;
    runs = runs-push (r.told before) from at.at.core n.next at.at.made e at.at.runs core_step;
    caused = caused_more at.at.made e (media_of r before) (media_of r old) (media_of r new) at.at.caused caused_here;
    asks =
        let more = outside_along-push (r.told before) from at.at.core n.next at.at.made e at.at.runs core_step in
        let here : outside_asked at.at.core.machine step.daemon (event_of bindings step) ≡ outside_asked at.at.core.machine e.daemon e.said.event =
        λ i. outside_asked at.at.core.machine (sym n.daemon_is i) (sym n.event_is i) in
        omega (arith, at.at.asks, n.few, more, here);
    printed =
        subst (IsPrinted going first after) (sym (run_text-push at.at.made e))
        (subst (λ line. IsPrinted going first after (run_text at.at.made ++ line)) line_here (a.prints.tells first (run_text at.at.made) below at.at.printed));
  }

  -- and its name holds what its answer gave
  pub running_next : (bindings' : List Binding) → bindings' ≡ bound bindings step a.came.answer
      → Running r before from script rest bindings' new (IsPrinted going first after)
  unfolding made_next
  running_next bindings' names = record {
    at = made_next;
    names =
        names ∙ ap (λ held. bound held step a.came.answer) at.names ∙ ap (λ answer. bound (bindings_after [] at.at.front at.at.made) step answer) (sym n.answer_is)
        ∙ sym (bindings_after-push [] at.at.front at.at.made step e at.at.follows);
  }

-- what was made, of whose text something else is told
pub made_printed : {R : Type 0} (r : RunGhosts R) (before : R) (from : Core) (script rest : List ScriptStep) (now : R) (P Q : List ℕ → Type 0)
    → ((text : List ℕ) → P text → Q text) → HasMade r before from script rest now P → HasMade r before from script rest now Q
made_printed r before from script rest now P Q turns at = record {
  made = at.made;
  core = at.core;
  here = at.here;
  front = at.front;
  steps = at.steps;
  follows = at.follows;
  runs = at.runs;
  caused = at.caused;
  asks = at.asks;
  printed = turns (run_text at.made) at.printed;
}

-- nothing was done, and no line was printed
pub made_still : {R : Type 0} (r : RunGhosts R) (before : R) (from : Core) (script rest : List ScriptStep) (old new : R) (was going : Bool)
    (first out after : Output) → HasMade r before from script rest old (IsPrinted was first out) → first.faults ≤ out.faults → new ≡ old
    → PrintsMore was going out after [] → HasMade r before from script rest new (IsPrinted going first after)
made_still {R} r before from script rest old new was going first out after at below same none =
    subst (λ (k : R). HasMade r before from script rest k (IsPrinted going first after)) (sym same)
    (made_printed r before from script rest old (IsPrinted was first out) (IsPrinted going first after)
    (λ text printed. subst (IsPrinted going first after) (append-nil text) (none first text below printed)) at)

-- what was made, of which more is told
pub made_also : {R : Type 0} (r : RunGhosts R) (before : R) (from : Core) (script rest : List ScriptStep) (now : R) (starved : Bool) (P : List ℕ → Type 0)
    → (starved ≡ false → rest ≡ []) → HasMade r before from script rest now P
    → HasMade r before from script rest now (λ text. (starved ≡ false → rest ≡ []) × P text)
made_also r before from script rest now starved P none at =
    made_printed r before from script rest now P (λ text. (starved ≡ false → rest ≡ []) × P text) (λ text p. (none, p)) at

-- so far as lines were passed on, the output took them
pub ran_printed : {R : Type 0} (r : RunGhosts R) (before : R) (script : List ScriptStep) (now : R) (starved : Bool) (P Q : List ℕ → Type 0)
    → ((text : List ℕ) → P text → Q text) → HasRun r before script now (λ rest text. (starved ≡ false → rest ≡ []) × P text)
    → HasRun r before script now (λ rest text. (starved ≡ false → rest ≡ []) × Q text)
ran_printed r before script now starved P Q turns ran = record {
  rest = ran.rest;
  each = λ from here.
      made_printed r before from script ran.rest now (λ text. (starved ≡ false → ran.rest ≡ []) × P text) (λ text. (starved ≡ false → ran.rest ≡ []) × Q text)
      (λ text p. (p.0, turns text p.1)) (ran.each from here);
}

-- all have left
pub plays_all : {R : Type 0} (r : RunGhosts R) (before now after : R) (script : List ScriptStep) (starved printing : Bool) (out out' : Output)
    → HasRun r before script now (λ rest text. (starved ≡ false → rest ≡ []) × IsPrinted printing out out' text)
    → GoesUnasked r (AllLeave (r.told now) (leave_of starved)) now after
    → Plays r before after script out out' (record { starved = starved; printing = printing })
plays_all r before now after script starved printing out out' ran goes = record {
  each = λ from here.
      let at = ran.each from here in
      let left = goes.each at.core at.here in
      record {
        front = at.front;
        rest = ran.rest;
        steps = at.steps;
        made = at.made;
        follows = at.follows;
        core = at.core;
        runs = at.runs;
        leaving = left.made;
        last = left.core;
        leaves = subst (λ told. AllLeave told (leave_of starved) at.core left.made left.core) at.caused.told left.tells;
        here = left.here;
        caused = caused_later at.made (media_of r before) (media_of r now) (media_of r after) at.caused
            (stayed_by (media_of r now) (media_of r after) goes.told goes.lapses);
        asks = omega (arith, at.asks, goes.asks);
        all = at.printed.0;
        printed = at.printed.1;
      };
}
