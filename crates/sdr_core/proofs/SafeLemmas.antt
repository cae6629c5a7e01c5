-- What a crash leaves after an event more of a core run.
use Rattle.std.proofs.Common.{◌≡◌, ◌∙◌, ◌≤◌, ◌<◌, ◌++◌, ◌&&◌, ℕ, List, [], ◌∷◌, Bool, true, false, true≢false, not, Option, None, Some, IsSome, is_none, inl, MatchBool, MatchOption, length, nat_le, refl, sym, ap, subst, arith, append-nil, length-append}
use Rattle.std.proofs.lemmas.Bool.Decides.{nat_tests}
use Rattle.std.specs.Option.{option_to_list}
use Rattle.sdr_base.proofs.WrittenLemmas.{rose_later}
use Rattle.sdr_machine.specs.Core.{Core, CoreStep, all_said, closed_by, first_core}
use Rattle.sdr_machine.specs.Crash.{LeavesOr, OpensAfter, as_ended, done_by, end_told, is_sound, is_whole, commits_by}
use Rattle.sdr_machine.specs.Ground.{committed}
use Rattle.sdr_machine.specs.Legal.{IsAfter, MayFollow, is_fault}
use Rattle.sdr_machine.specs.Machine.{Made, MachineStep}
use Rattle.sdr_machine.specs.Roll.{first_roll, number_of}
use Rattle.sdr_machine.specs.Serving.{Asks, Locked, IsInSomeState, is_disk_fault, is_fault_answer, made_by}
use Rattle.sdr_machine.specs.Transaction.{IsAnswered, Runs}
use Rattle.sdr_machine.specs.declared.came.Came.{Came}
use Rattle.sdr_machine.specs.declared.has_ground.HasGround.{Ghosts}
use Rattle.sdr_model.specs.declared.answer.Answer.TheVariants as answers
use Rattle.sdr_model.specs.declared.answer.Close.TheVariants as closes
use Rattle.sdr_model.specs.declared.answer.Reply.TheVariants as replies
use Rattle.sdr_model.specs.declared.event.Event.{Event}
use Rattle.sdr_model.specs.declared.journal.Entry.{Entry}
use Rattle.sdr_model.specs.declared.journal.What.TheVariants as whats
use Rattle.law_runs.proofs.CoreLemmas.{KeepsCore}
use Rattle.law_runs.proofs.JournalLemmas.{AreSound}
use Rattle.law_runs.proofs.RunLemmas.{core_step_keeps, run_is_after, run_keeps, step_adds}
use Rattle.law_runs.specs.Adding.{AddsRightly, FailsRightly, entry_added}
use Rattle.sdr_core.proofs.AddedLemmas.{IsAdded, added_is, answered_fault, closing_adds, ends_in_vain, fault_said}
use Rattle.sdr_core.proofs.CrashLemmas.{done_by-done, done_by-open, done_by-unsound}
use Rattle.sdr_core.proofs.EndLemmas.{EndsOrFaults, IsOuterEnd, end_keeps, outer_end}
use Rattle.sdr_core.proofs.OpeningLemmas.{WouldStand, failed_safe, faulted_safe, still_safe, whole_safe}
use Rattle.sdr_core.proofs.RunLemmas.{keeps_legal, later}
use Rattle.sdr_core.proofs.SaidLemmas.{entries_caused}
use Rattle.sdr_core.proofs.TimeLemmas.{between_more, run_between}
use Rattle.sdr_core.specs.Caused.{from_to, media_on}
use Rattle.sdr_core.specs.CoreKept.{RunStart, BeginsOn, IsRunOf, LoggedLock, KeepsRun, KeepsSafe, StepsCore, core_at, first_media, last_done}

both : (a b : Bool) → (a && b) ≡ true → (a ≡ true) × (b ≡ true)
both true b e = (refl, e)
both false b e = absurd (true≢false (sym e))

and_false : (a : Bool) → (a && false) ≡ false
and_false true = refl
and_false false = refl

-- a journal with one entry more
sound_whole : (journal : List Entry) (x : Entry) → is_sound journal ≡ true → is_whole x ≡ true → is_sound (journal ++ x ∷ []) ≡ true
sound_whole [] x sound whole = ap (λ b. b && true) whole
sound_whole (first ∷ journal) x sound whole =
    let b = both (is_whole first) (is_sound journal) sound in λ i. b.0 i && sound_whole journal x b.1 whole i

sound_broken : (journal : List Entry) (x : Entry) → is_whole x ≡ false → is_sound (journal ++ x ∷ []) ≡ false
sound_broken [] x broken = ap (λ b. b && true) broken
sound_broken (first ∷ journal) x broken = ap (λ b. is_whole first && b) (sound_broken journal x broken) ∙ and_false (is_whole first)

sound_unsound : (journal : List Entry) (x : Entry) → is_sound journal ≡ false → is_sound (journal ++ x ∷ []) ≡ false
sound_unsound [] x unsound = absurd (true≢false unsound)
sound_unsound (first ∷ journal) x unsound = by (is_whole first) unsound (sound_unsound journal x)
  where
    by : (b : Bool) → (b && is_sound journal) ≡ false → (is_sound journal ≡ false → is_sound (journal ++ x ∷ []) ≡ false) → (b && is_sound (journal ++ x ∷ [])) ≡ false
    by true unsound rest = rest unsound
    by false unsound rest = refl

-- where no disk fault is met in any, none is met in all, nor in the last
are_sound : (journal : List Entry) → AreSound journal → is_sound journal ≡ true
are_sound [] sound = refl
are_sound (first ∷ journal) sound = ap (λ b. not b && is_sound journal) sound.0 ∙ are_sound journal sound.1

last_sound : (journal : List Entry) (x : Entry) → AreSound (journal ++ x ∷ []) → is_fault x.what ≡ false
last_sound [] x sound = sound.0
last_sound (first ∷ journal) x sound = last_sound journal x sound.1

first_sound : (journal : List Entry) (x : Entry) → AreSound (journal ++ x ∷ []) → is_sound journal ≡ true
first_sound [] x sound = refl
first_sound (first ∷ journal) x sound = ap (λ b. not b && is_sound journal) sound.0 ∙ first_sound journal x sound.1

-- which failed
some_failed : (failed : Option ℕ) → ((failed ≡ None) → ⊥) → is_none failed ≡ false
some_failed None broken = absurd (broken refl)
some_failed (Some moment) broken = refl

-- a disk fault for which no call was answered
is_fault_told : (a : Came) → (a.called ≡ true → ⊥) → a.answer ≡ answers.Reply replies.DiskFault → is_disk_fault a ≡ true
is_fault_told a quiet fault = by a.called quiet
  where
    by : (b : Bool) → (b ≡ true → ⊥) → (not b && is_fault_answer a.answer) ≡ true
    by true quiet = absurd (quiet refl)
    by false quiet = ap is_fault_answer fault

-- An event that was made of a core, of which a crash left some first entries.
module _ {T : Type 0} (g : Ghosts T) (b : RunStart) (old new : LoggedLock T) (daemon line : ℕ) (event : Event)
    (a : Came)
    (run : KeepsRun g b old) (safe : KeepsSafe g b old.log.journal old.lock.roll.failed old.lock.base)
    (steps : StepsCore g daemon line event a old new) (asks : Asks g (commits_by old.lock.roll daemon event) a old.lock new.lock)
    (called : a.called ≡ true → new.lock.roll.failed ≡ None) where
  abbrev pub stood : IsInSomeState g.stands new.lock (λ v. CoreStep (g.told old.lock.base) (core_at old run.for)
      (made_by daemon event a (g.moment old.lock.base) (g.moment new.lock.base) line v) (core_at new v))
  stood = steps.each run.for run.stood

  abbrev pub made : Made
  made = made_by daemon event a (g.moment old.lock.base) (g.moment new.lock.base) line stood.for

  abbrev pub before : Core
  before = core_at old run.for

  abbrev pub after : Core
  after = core_at new stood.for

  step : CoreStep b.told before made after
  step = subst (λ told. CoreStep told before made after) run.media stood.tells

  pub machine_step : MachineStep before.machine made after.machine
  machine_step = subst (MachineStep before.machine made) (sym (ap (λ (x : Core). x.machine) step.history)) step.step

  keeps : KeepsCore b.told b.daemons b.first before
  keeps = run_keeps b.told b.daemons b.first run.made before run.runs

  next : KeepsCore b.told b.daemons b.first after × AddsRightly b.told b.daemons before made after.machine × FailsRightly before made after.machine
  next = core_step_keeps b.told b.daemons b.first before made after keeps step

  abbrev pub journal : List Entry
  journal = old.log.journal

  grows : new.log.journal ≡ journal ++ option_to_list (entry_added before made after.machine)
  grows = step_adds b.told before made after step

  rose : g.moment old.lock.base ≤ g.moment new.lock.base
  rose = later g (commits_by old.lock.roll daemon event) a old.lock new.lock run.for run.stood asks

  here : IsAfter b.told b.daemons b.first journal (length journal) run.for.before
  here = run_is_after b.told b.daemons b.first run.made before run.runs

  start_later : b.start ≤ g.moment new.lock.base
  start_later = let first = safe.later in omega (arith, rose)

  counted_later : b.faults ≤ g.faults new.lock.base
  counted_later = let first = safe.counted in let more = asks.kept.later in omega arith

  -- no entry is added
  module _ (none : entry_added before made after.machine ≡ None) where
    same_journal : new.log.journal ≡ journal
    same_journal = grows ∙ ap (λ o. journal ++ option_to_list o) none ∙ append-nil journal

    same_failed : new.lock.roll.failed ≡ old.lock.roll.failed
    same_failed = subst (λ o. MatchOption o (after.machine.roll.failed ≡ before.machine.roll.failed)
        (λ (x : Entry). MatchBool (is_fault x.what) (made.said.answer ≡ answers.Reply replies.DiskFault) (after.machine.roll.failed ≡ before.machine.roll.failed))) none next.2

    no_entry : {R : Type 0} (x : Entry) → entry_added before made after.machine ≡ Some x → R
    no_entry x some = let no : None ≡ Some x = sym none ∙ some in absurd cc

    keeps_none : old.lock.roll.failed ≡ None → commits_by old.lock.roll daemon event ≡ false
    keeps_none sound = by (commits_by old.lock.roll daemon event) refl
      where
        by : (k : Bool) → commits_by old.lock.roll daemon event ≡ k → k ≡ false
        by false is = refl
        by true is = let end = outer_end old.lock.roll daemon event is in adds (end_keeps before.machine made after.machine sound end machine_step)
          where
            adds : EndsOrFaults before.machine made after.machine → true ≡ false
            adds (EndsOrFaults.ends answer left) =
                let end = outer_end old.lock.roll daemon event is in
                no_entry _ (closing_adds before made after.machine end.daemon closes.Ended end.found (ap closed_by answer))
            adds (EndsOrFaults.faults told left) =
                let end = outer_end old.lock.roll daemon event is in
                no_entry _ (closing_adds before made after.machine end.daemon closes.Faulted end.found (ap closed_by told.answer))

    safe_none : old.lock.roll.failed ≡ None → KeepsSafe g b new.log.journal new.lock.roll.failed new.lock.base
    safe_none sound = subst (λ entries. KeepsSafe g b entries new.lock.roll.failed new.lock.base) (sym same_journal) (record {
      sound = safe.sound ∙ ap is_none (sym same_failed);
      all = λ _ m ge. safe.all sound m (omega (arith, rose));
      early = safe.early;
      crash = still_safe g b.told b.daemons b.first b.start journal old.lock.base new.lock.base run.for safe.crash (safe.all sound) here (run.stood sound)
          (subst (λ k. LeavesOr k g old.lock.base new.lock.base) (keeps_none sound) asks.any_moment);
      later = start_later;
      counted = counted_later;
      cause = λ broken. let more = asks.kept.later in let was = safe.cause broken in omega arith;
    })

  -- an entry is added
  module _ (x : Entry) (some : entry_added before made after.machine ≡ Some x) where
    more_journal : new.log.journal ≡ journal ++ x ∷ []
    more_journal = grows ∙ ap (λ o. journal ++ option_to_list o) some

    added : IsAdded before made after.machine x
    added = added_is before made after.machine x some

    begun : x.begun ≡ g.moment old.lock.base
    begun = ap (λ (y : Entry). y.begun) added.is

    done : x.done ≡ g.moment new.lock.base
    done = ap (λ (y : Entry). y.done) added.is

    what_is : x.what ≡ added.what
    what_is = ap (λ (y : Entry). y.what) added.is

    stands : MayFollow b.told b.daemons journal run.for.before x.number x.daemon x.what stood.for.before
    stands = subst (λ o. MatchOption o (stood.for.before ≡ run.for.before)
        (λ (y : Entry). MayFollow b.told b.daemons journal run.for.before y.number y.daemon y.what stood.for.before)) some next.1

    fails : MatchBool (is_fault x.what) (a.answer ≡ answers.Reply replies.DiskFault) (new.lock.roll.failed ≡ old.lock.roll.failed)
    fails = subst (λ o. MatchOption o (after.machine.roll.failed ≡ before.machine.roll.failed)
        (λ (y : Entry). MatchBool (is_fault y.what) (made.said.answer ≡ answers.Reply replies.DiskFault) (after.machine.roll.failed ≡ before.machine.roll.failed))) some next.2

    sound_after : new.lock.roll.failed ≡ None → AreSound (journal ++ x ∷ [])
    sound_after none = subst AreSound more_journal (next.0.journal.sound none)

    late : (m : ℕ) → m < b.start → nat_le x.done m ≡ false
    late m lt = let is = done in let from = start_later in let after_m : m < x.done = omega arith in grind (arith, nat_tests)

    in_time : (m : ℕ) → g.moment new.lock.base ≤ m → nat_le x.done m ≡ true
    in_time m ge = let is = done in let by_then : x.done ≤ m = omega arith in grind (arith, nat_tests)

    -- no disk fault was met in it
    module _ (sound : old.lock.roll.failed ≡ None) (whole : is_fault x.what ≡ false) where
      same_still : new.lock.roll.failed ≡ None
      same_still = subst (λ k. MatchBool k (a.answer ≡ answers.Reply replies.DiskFault) (new.lock.roll.failed ≡ old.lock.roll.failed)) whole fails ∙ sound

      is_kept : commits_by old.lock.roll daemon event ≡ true → stood.for.before ≡ committed run.for.now
      is_kept keeping = by (end_keeps before.machine made after.machine sound (outer_end old.lock.roll daemon event keeping) machine_step)
        where
          by : EndsOrFaults before.machine made after.machine → stood.for.before ≡ committed run.for.now
          by (EndsOrFaults.ends answer left) = left
          by (EndsOrFaults.faults told left) =
              absurd (true≢false (sym (answered_fault before made after.machine x added told.answer) ∙ ap is_fault (sym what_is) ∙ whole))

      sound_before : is_sound journal ≡ true
      sound_before = safe.sound ∙ ap is_none sound

      safe_whole : KeepsSafe g b (journal ++ x ∷ []) new.lock.roll.failed new.lock.base
      safe_whole = record {
        sound = sound_whole journal x sound_before (ap not whole) ∙ sym (ap is_none same_still);
        all = λ _ m ge. done_by-done m journal x (λ i. not (whole i) && in_time m ge i) (safe.all sound m (omega (arith, rose))) ∙ sym (length-append journal (x ∷ []));
        early = λ m lt. done_by-open m journal x (ap (λ k. is_whole x && k) (late m lt) ∙ and_false (is_whole x)) ∙ safe.early m lt;
        crash = whole_safe g b.told b.daemons b.first b.start journal old.lock.base new.lock.base run.for safe.crash (safe.all sound) here (run.stood sound)
            (commits_by old.lock.roll daemon event) asks.any_moment x begun stood.for (ap not whole) done (stood.stood same_still) stands is_kept g.crash_now;
        later = start_later;
        counted = counted_later;
        cause = λ broken. absurd (true≢false (sym (sound_whole journal x sound_before (ap not whole)) ∙ broken));
      }

    -- the disk failed in it
    module _ (sound : old.lock.roll.failed ≡ None) (fault : is_fault x.what ≡ true) where
      broken : new.lock.roll.failed ≡ None → ⊥
      broken none = true≢false (sym fault ∙ last_sound journal x (sound_after none))

      answer : a.answer ≡ answers.Reply replies.DiskFault
      answer = subst (λ k. MatchBool k (a.answer ≡ answers.Reply replies.DiskFault) (new.lock.roll.failed ≡ old.lock.roll.failed)) fault fails

      would : commits_by old.lock.roll daemon event ≡ true → WouldStand b.told b.daemons journal run.for.before x (committed run.for.now)
      would keeping = record {
        what = whats.Work (end_told (all_said old.log.works daemon made.said)) closes.Ended;
        ended = ap as_ended (what_is ∙ fault_said before made after.machine x added (ap is_fault (sym what_is) ∙ fault));
        stands =
            subst (λ n. Runs b.told run.for.before n (end_told (all_said old.log.works daemon made.said)) closes.Ended (committed run.for.now)) number
            (ends_in_vain b.told b.daemons b.first before made keeps sound end (given (end_keeps before.machine made after.machine sound end machine_step)));
      }
        where
          end : IsOuterEnd old.lock.roll daemon event
          end = outer_end old.lock.roll daemon event keeping

          given : EndsOrFaults before.machine made after.machine → IsAnswered made.said (answers.Reply replies.DiskFault)
          given (EndsOrFaults.faults told left) = told
          given (EndsOrFaults.ends closed left) = let no : answers.Closed closes.Ended ≡ answers.Reply replies.DiskFault = sym closed ∙ answer in absurd cc

          number : number_of old.lock.roll end.daemon ≡ x.number
          number =
              let one : Some end.daemon ≡ Some added.daemon = sym end.found ∙ added.found in
              let same : end.daemon ≡ added.daemon = cc in
              ap (number_of old.lock.roll) same ∙ sym (ap (λ (y : Entry). y.number) added.is)

      safe_fault : KeepsSafe g b (journal ++ x ∷ []) new.lock.roll.failed new.lock.base
      safe_fault = record {
        sound = sound_broken journal x (ap not fault) ∙ sym (some_failed new.lock.roll.failed broken);
        all = λ none. absurd (broken none);
        early = λ m lt. done_by-open m journal x (ap (λ k. not k && nat_le x.done m) fault) ∙ safe.early m lt;
        crash = faulted_safe g b.told b.daemons b.first b.start journal old.lock.base new.lock.base run.for safe.crash (safe.all sound) here (run.stood sound)
            (commits_by old.lock.roll daemon event) asks.any_moment x begun (ap not fault) would;
        later = start_later;
        counted = counted_later;
        cause = λ _. rose_later b.faults (g.faults old.lock.base) (g.faults new.lock.base) safe.counted
            (asks.cause (is_fault_told a (λ call. broken (called call)) answer));
      }

    -- the disk had failed before
    module _ (moment : ℕ) (failed : old.lock.roll.failed ≡ Some moment) where
      same_base : new.lock.base ≡ old.lock.base
      same_base = asks.failed (subst IsSome (sym failed) refl)

      unsound : is_sound journal ≡ false
      unsound = safe.sound ∙ ap is_none failed

      broken_still : new.lock.roll.failed ≡ None → ⊥
      broken_still none = true≢false (sym (first_sound journal x (sound_after none)) ∙ unsound)

      safe_failed : KeepsSafe g b (journal ++ x ∷ []) new.lock.roll.failed new.lock.base
      safe_failed = record {
        sound = sound_unsound journal x unsound ∙ sym (some_failed new.lock.roll.failed broken_still);
        all = λ none. absurd (broken_still none);
        early = λ m lt. (done_by-unsound m journal x unsound).0 ∙ safe.early m lt;
        crash = failed_safe g b.told b.daemons b.first b.start journal old.lock.base new.lock.base x unsound safe.crash same_base;
        later = start_later;
        counted = counted_later;
        cause = λ _. let more = asks.kept.later in let was = safe.cause unsound in omega arith;
      }

  -- the ground isn't asked where the disk had failed
  safe_same : (moment : ℕ) → old.lock.roll.failed ≡ Some moment → entry_added before made after.machine ≡ None
      → KeepsSafe g b new.log.journal new.lock.roll.failed new.lock.base
  safe_same moment failed none =
      subst (λ entries. KeepsSafe g b entries new.lock.roll.failed new.lock.base) (sym (same_journal none))
      (subst (λ f. KeepsSafe g b journal f new.lock.base) (sym (same_failed none))
      (subst (λ t. KeepsSafe g b journal old.lock.roll.failed t) (sym (asks.failed (subst IsSome (sym failed) refl))) safe))

  pub safe_after : KeepsSafe g b new.log.journal new.lock.roll.failed new.lock.base
  safe_after = by (entry_added before made after.machine) refl old.lock.roll.failed refl
    where
      by : (o : Option Entry) → entry_added before made after.machine ≡ o → (f : Option ℕ) → old.lock.roll.failed ≡ f
          → KeepsSafe g b new.log.journal new.lock.roll.failed new.lock.base
      by None none None sound = safe_none none sound
      by None none (Some moment) failed = safe_same moment failed none
      by (Some x) some (Some moment) failed =
          subst (λ entries. KeepsSafe g b entries new.lock.roll.failed new.lock.base) (sym (more_journal x some)) (safe_failed x some moment failed)
      by (Some x) some None sound = subst (λ entries. KeepsSafe g b entries new.lock.roll.failed new.lock.base) (sym (more_journal x some)) (of (is_fault x.what) refl)
        where
          of : (k : Bool) → is_fault x.what ≡ k → KeepsSafe g b (journal ++ x ∷ []) new.lock.roll.failed new.lock.base
          of true fault = safe_fault x some sound fault
          of false whole = safe_whole x some sound whole

done_none : (m : ℕ) → done_by m [] ≡ 0
unfolding done_by
done_none m = refl

-- as the run begins
pub safe_first : {T : Type 0} (g : Ghosts T) (b : RunStart) (daemons : List ℕ) (base : T) → BeginsOn g b daemons base → KeepsSafe g b [] None base
safe_first g b daemons base begins = record {
  sound = refl;
  all = λ _ m ge. done_none m;
  early = λ m lt. done_none m;
  crash = λ m image ge le left.
      inl (subst (λ k. OpensAfter g.opens b.told b.daemons b.first [] k image) (sym (done_none m))
      (record { state = b.first; opened = begins.opening m image ge le left; tells = inl refl }));
  later = begins.later;
  counted = begins.faults;
  cause = λ broken. absurd (true≢false broken);
}

-- as a core is made
pub safe_new : {T : Type 0} (g : Ghosts T) (b : RunStart) (daemons : List ℕ) (base : T) (lock : Locked T) (entries : List Entry)
    → lock ≡ record { roll = first_roll daemons; base = base } → entries ≡ [] → BeginsOn g b daemons base → KeepsSafe g b entries lock.roll.failed lock.base
safe_new {T} g b daemons base lock entries made none begins =
    subst (λ (l : Locked T). KeepsSafe g b entries l.roll.failed l.base) (sym made)
    (subst (λ es. KeepsSafe g b es None base) (sym none) (safe_first g b daemons base begins))

none_of : (failed : Option ℕ) → is_none failed ≡ true → failed ≡ None
none_of None is = refl
none_of (Some moment) is = absurd (true≢false (sym is))

-- what is given back as the run ends
pub run_ends : {T : Type 0} (g : Ghosts T) (b : RunStart) (k : LoggedLock T) (journal : List Entry) (base : T) → journal ≡ k.log.journal → base ≡ k.lock.base
    → KeepsRun g b k → KeepsSafe g b k.log.journal k.lock.roll.failed k.lock.base → IsRunOf g b journal base
run_ends {T} g b k journal base same_journal same_base run safe =
    subst (λ entries. IsRunOf g b entries base) (sym same_journal) (subst (λ (t : T). IsRunOf g b k.log.journal t) (sym same_base) (record {
      legal = keeps_legal g b k run;
      in_time =
          between_more b.start (last_done b.start run.made) (g.moment k.lock.base) run.done k.log.journal
          (run_between b.told b.start b.start run.made (first_core b.daemons b.first) (core_at k run.for) (omega arith) tt run.in_time run.runs);
      caused = entries_caused b.told b.daemons b.first (from_to (first_media b) (media_on g k.lock.base)) run.made (core_at k run.for) run.runs run.caused;
      crash = safe.crash;
      early = safe.early;
      all = λ sound m ge. safe.all (none_of k.lock.roll.failed (sym safe.sound ∙ sound)) m ge;
      rests = λ sound. record {
        for = run.for;
        holds = run.stood (none_of k.lock.roll.failed (sym safe.sound ∙ sound));
        tells = run_is_after b.told b.daemons b.first run.made (core_at k run.for) run.runs;
      };
      later = safe.later;
      counted = safe.counted;
      cause = safe.cause;
    }))
