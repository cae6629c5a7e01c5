-- What a question of a heap comes to.
use Rattle.std.specs.Prelude.{IfOk, OnErr, OnOk}
use Rattle.std.proofs.Common.{◌≡◌, ◌∙◌, ℕ, List, [], ◌∷◌, ◌++◌, Bool, true, false, Result, Ok, Err, inl, inr, refl, sym, ap, subst, true≢false}
use Rattle.run_load.specs.Asking.{AnswersByRow, AsksOnly, FailsAsked, IsAskable, IsQuestion}
use Rattle.law_steps.proofs.StepLemmas.{reading_shows, refused_leaves}
use Rattle.sdr_base.proofs.WrittenLemmas.{rose_later}
use Rattle.sdr_base.specs.Causes.{Rose}
use Rattle.sdr_base.specs.Media.{Told}
use Rattle.sdr_base.specs.Pools.{Pools}
use Rattle.sdr_base.specs.declared.moves.Move.{Move}
use Rattle.sdr_base.specs.declared.refusal.Refusal.TheVariants as refusals
use Rattle.sdr_disk.specs.declared.disk.Disk.{Ghosts as DiskGhosts}
use Rattle.sdr_machine.specs.Ground.{Ground, Replied, State, Steps, StepsOn}
use Rattle.sdr_machine.specs.Serving.{Brings, Calls, SomeState}
use Rattle.sdr_machine.specs.Standing.{GroundState}
use Rattle.sdr_model.specs.Reading.{is_reading, reads_media}
use Rattle.sdr_model.specs.Step.{Step, StopsWith, is_answer}
use Rattle.sdr_model.specs.World.{World}
use Rattle.sdr_model.specs.declared.answer.Reply.{Reply}
use Rattle.sdr_model.specs.declared.answer.Reply.TheVariants as replies
use Rattle.sdr_model.specs.declared.call.Call.{Call}
use Rattle.sdr_run.proofs.QuietLemmas.{quiet_then}
use Rattle.sdr_run.specs.Quiet.{IsSame, StaysQuiet}
use Rattle.sdr_station.specs.Grounded.{Grounded, StandsInMemory}
use Rattle.std.specs.declared.option.Option.{Option}

-- a call without moves lacks no block
lacks_none : {X : Type 0} (done rest : List X) (x : X) → [] ≡ done ++ x ∷ rest → ⊥
lacks_none [] rest x is = cc
lacks_none (y ∷ done) rest x is = cc

-- a question doesn't stop on its way
never_stops : (reply : Reply) (call : Call) (all moves : List Move) → all ≡ [] → is_reading call ≡ true → reads_media call ≡ false
    → StopsWith reply call all moves → ⊥
never_stops (replies.Refused (refusals.NoBlock need)) call all moves none reads unasked s = lacks_none s.done s.rest _ (sym none ∙ s.whole)
never_stops (replies.Refused (refusals.LogFull lines room)) call all moves none reads unasked s = true≢false (sym reads ∙ s.1)
never_stops (replies.Refused (refusals.SourceShort have want)) call all moves none reads unasked s = true≢false (sym s.1 ∙ unasked)
never_stops (replies.Refused refusal) call all moves none reads unasked s = absurd s
never_stops replies.MediaFault call all moves none reads unasked s = true≢false (sym s.1 ∙ unasked)
never_stops reply call all moves none reads unasked s = absurd s

module _ (w w' : World) (call : Call) (moves : List Move) (reply : Reply) (question : IsQuestion call) where
  -- its row answers it
  row_answers : Step w call moves w' reply → AnswersByRow w call reply
  row_answers (inl row) = record { outcome = record { moves = moves; after = w'; reply = reply }; row = row; told = refl }
  row_answers (inr stops) =
      let aim = stops.aim in
      let none = (reading_shows w aim.after call aim.moves aim.reply question.reads (inl stops.row) stops.answered).0 in
      absurd (never_stops reply call aim.moves moves none question.reads question.unasked stops.stopped)

  -- and it leaves the world but for the bytes shown
  row_shows : Step w call moves w' reply → w' ≡ record w { shown = w'.shown }
  row_shows step = by (is_answer reply) refl
    where
      by : (b : Bool) → is_answer reply ≡ b → w' ≡ record w { shown = w'.shown }
      by true answered = question.shows w w' (reading_shows w w' call moves reply question.reads step answered).1
      by false refused =
          let same = refused_leaves w w' call moves reply step refused in
          subst (λ (x : World). x ≡ record w { shown = x.shown }) (sym same) refl

-- on a heap it is a step of the machine
heap_step : (s : State) (call : Call) (o : Replied) (room : ℕ) (P : Pools) → s.base ≡ Ground.OnHeap room P → Steps s call o
    → Step s.world call o.moves o.after.world o.reply
heap_step s call o room P on steps = (subst (λ (b : Ground). StepsOn b s call o) on steps).step

module _ {D M : Type 0} (told : Option Told) (call : Call) (reply : Reply) (question : IsQuestion call) (old new : Grounded D M)
    (going : old.stopped ≡ false) (brings : Brings StandsInMemory old new (Calls told call reply)) where
  step_of : (v : GroundState) → StandsInMemory old v → (s : SomeState StandsInMemory new (Calls told call reply v))
      → Step v.now.world call s.for.moves s.for.now.world reply
  step_of v at s =
      let within = at.now going in
      heap_step v.now call (record { reply = reply; moves = s.for.moves; after = s.for.now }) _ within.pools within.base s.tells.steps

  -- what is answered, whatever it stood for
  pub asked_answers : (v : GroundState) → StandsInMemory old v → AnswersByRow v.now.world call reply
  asked_answers v at =
      let s = brings.each v at in
      row_answers v.now.world s.for.now.world call s.for.moves reply question (step_of v at s)

  -- and what it leaves
  pub asked_only : (d : DiskGhosts D) → IsAskable old → new.stopped ≡ false → new.heap.cells.touched ≡ [] → StaysQuiet d old new → AsksOnly d old new
  asked_only d ready still none quiet =
      let some = ready.stands in
      let now = brings.each some.for some.holds in
      record {
        still = quiet;
        ready = record { stands = record { for = now.for; holds = now.holds }; going = still; untouched = none };
        each = λ v at.
            let s = brings.each v at in
            record {
              for = s.for;
              holds = s.holds;
              tells = record {
                now = row_shows v.now.world s.for.now.world call s.for.moves reply question (step_of v at s);
                before = s.tells.before;
              };
            };
      }

-- the same world twice but for the bytes shown
pub shows_twice : (w x y : World) → x ≡ record w { shown = x.shown } → y ≡ record x { shown = y.shown } → y ≡ record w { shown = y.shown }
shows_twice w x y first second = second ∙ ap (λ (z : World). record z { shown = y.shown }) first

-- one question behind another
pub asks_then : {D M : Type 0} {d : DiskGhosts D} (a b c : Grounded D M) → AsksOnly d a b → AsksOnly d b c → AsksOnly d a c
asks_then {d = d} a b c first second = record {
  still = quiet_then d a b c first.still second.still;
  ready = second.ready;
  each = λ v at.
      let s = first.each v at in
      let t = second.each s.for s.holds in
      record {
        for = t.for;
        holds = t.holds;
        tells = record {
          now = shows_twice v.now.world s.for.now.world t.for.now.world s.tells.now t.tells.now;
          before = t.tells.before ∙ s.tells.before;
        };
      };
}

-- or the disk failed in the second
pub fails_then : {D M : Type 0} {d : DiskGhosts D} (a b c : Grounded D M) → AsksOnly d a b → FailsAsked d b c → FailsAsked d a c
fails_then {d = d} a b c first second = record {
  still = quiet_then d a b c first.still second.still;
  cause = rose_later (d.faults a.heap.cells.disk) (d.faults b.heap.cells.disk) (d.faults c.heap.cells.disk) first.still.later second.cause;
}

-- A question by what it was answered.
module _ {D M E : Type 0} (told : Option Told) (call : Call) (result : Result Reply E) (question : IsQuestion call) (old new : Grounded D M) where
  -- what is answered
  pub answers_by : old.stopped ≡ false → IfOk result (λ reply. Brings StandsInMemory old new (Calls told call reply))
      → IfOk result (λ reply. (v : GroundState) → StandsInMemory old v → AnswersByRow v.now.world call reply)
  answers_by going = by result
    where
      by : (r : Result Reply E) → IfOk r (λ reply. Brings StandsInMemory old new (Calls told call reply))
          → IfOk r (λ reply. (v : GroundState) → StandsInMemory old v → AnswersByRow v.now.world call reply)
      by (Ok reply) brings = asked_answers told call reply question old new going brings
      by (Err e) brings = tt

  -- and what it leaves
  pub asked_by : (d : DiskGhosts D) → IsAskable old → IfOk result (λ reply. Brings StandsInMemory old new (Calls told call reply))
      → OnOk result (new.stopped ≡ false) → new.heap.cells.touched ≡ [] → StaysQuiet d old new → OnOk result (AsksOnly d old new)
  asked_by d ready brings going none quiet = by result brings going
    where
      by : (r : Result Reply E) → IfOk r (λ reply. Brings StandsInMemory old new (Calls told call reply)) → OnOk r (new.stopped ≡ false)
          → OnOk r (AsksOnly d old new)
      by (Ok reply) brings going = asked_only told call reply question old new ready.going brings d ready going none quiet
      by (Err e) brings going = tt

-- and where the disk failed
pub fails_by : {D M T E : Type 0} (d : DiskGhosts D) (result : Result T E) (old new : Grounded D M) → StaysQuiet d old new
    → OnErr result (Rose (d.faults old.heap.cells.disk) (d.faults new.heap.cells.disk)) → OnErr result (FailsAsked d old new)
fails_by d (Ok x) old new quiet rose = tt
fails_by d (Err e) old new quiet rose = record { still = quiet; cause = rose }

-- whether it was answered or the disk failed, the disk was only read
pub still_by : {D M T E : Type 0} (d : DiskGhosts D) (result : Result T E) (old new : Grounded D M) → OnOk result (AsksOnly d old new)
    → OnErr result (FailsAsked d old new) → StaysQuiet d old new
still_by d (Ok x) old new asks fails = asks.still
still_by d (Err e) old new asks fails = fails.still

-- behind a rolling back that leaves the disk the same, the count rose where it failed
pub fails_cause : {D M T E : Type 0} (d : DiskGhosts D) (result : Result T E) (old mid new : Grounded D M) → IsSame old mid
    → OnErr result (FailsAsked d mid new) → OnErr result (Rose (d.faults old.heap.cells.disk) (d.faults new.heap.cells.disk))
fails_cause d (Ok x) old mid new same fails = tt
fails_cause {D} d (Err e) old mid new same fails =
    subst (λ (x : D). Rose (d.faults x) (d.faults new.heap.cells.disk)) same.disk fails.cause

-- what holds in any case holds where a call was stopped
pub on_err : {T E P : Type 0} (result : Result T E) → P → OnErr result P
on_err (Ok x) holds = tt
on_err (Err e) holds = holds
