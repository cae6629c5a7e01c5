-- What a begin, a line and a leave come to in the turn of a transaction.
use Rattle.std.proofs.Common.{◌≡◌, ◌∙◌, ◌<◌, ◌≤◌, ◌⊎◌, ◌+◌, ◌^◌, ℕ, List, ◌∷◌, true≢false, None, Some, inl, inr, refl, sym, ap, subst, length}
use Rattle.std.specs.Prelude.{IsSome}
use Rattle.sdr_core.specs.CoreKept.{RunStart, LoggedLock, MakesCoreStep}
use Rattle.sdr_daemon.specs.declared.turn.LineOutcome.TheVariants as outcomes
use Rattle.sdr_machine.specs.Core.{closed_by}
use Rattle.sdr_machine.specs.Roll.{Roll}
use Rattle.sdr_machine.specs.declared.came.Came.{Came}
use Rattle.sdr_machine.specs.declared.daemon.Daemon.{Daemon}
use Rattle.sdr_machine.specs.declared.has_ground.HasGround.{Ghosts}
use Rattle.sdr_model.specs.declared.answer.Answer.{Answer}
use Rattle.sdr_model.specs.declared.event.Event.TheVariants as events
use Rattle.sdr_model.specs.declared.event.Event.{Event}
use Rattle.sdr_model.specs.declared.event.Leave.TheVariants as leaves
use Rattle.sdr_model.specs.declared.event.Leave.{Leave}
use Rattle.sdr_model.specs.declared.script.ScriptStep.{ScriptStep}
use Rattle.sdr_words.specs.Bindings.{bound, event_of}
use Rattle.sdr_daemon.proofs.NextLemmas.{comes_by}
use Rattle.sdr_daemon.proofs.SayLemmas.{begun, begun_open, cut_off, line_off, line_on}
use Rattle.sdr_daemon.proofs.TurnLemmas.{starves}
use Rattle.sdr_daemon.specs.Progressing.{steps_ahead}
use Rattle.sdr_daemon.specs.Scripts.{MeansToLeave}
use Rattle.sdr_daemon.specs.TakingTurns.{DoesLine, EndsTurn, GoesBy, IsBeforeTurn, MaySayNext, MayTakeTurn, SaysLine, TakesTurn}
use Rattle.sdr_daemon.specs.Working.{BeginComesTo, ComesToWork, LineComesTo}
use Rattle.sdr_daemon.specs.declared.script_place.ScriptPlace.{ScriptPlace}
use Rattle.sdr_daemon.specs.declared.turn.LineOutcome.{LineOutcome}

-- what the names hold where the daemon doesn't mean to leave
names_held : (step : ScriptStep) (after : ℕ) (answer : Answer) (s s' : ScriptPlace) → DoesLine step after answer s s' → s'.leaving ≡ None → s'.names ≡ bound s.names step answer
names_held step after answer s s' m none = by m.names
  where
    by : ((s'.leaving ≡ s.leaving) × (s'.names ≡ bound s.names step answer)) ⊎ (s'.leaving ≡ Some leaves.Memory) → s'.names ≡ bound s.names step answer
    by (inl both) = both.1
    by (inr memory) = let not_so : None ≡ Some leaves.Memory = sym none ∙ memory in absurd cc

module _ {T : Type 0} (g : Ghosts T) (b : RunStart) (script : List ScriptStep) (old : LoggedLock T) (s : ScriptPlace) where
  pub begins_so : (new : LoggedLock T) (sa : ScriptPlace) (step : ScriptStep) (after : ℕ) (event : Event) (outcome : LineOutcome) → SaysLine g step after event old new s sa outcome → (outcome ≡ outcomes.Unsaid → ⊥)
      → event ≡ events.Begin → MaySayNext script old.lock.roll s step after events.Begin → BeginComesTo outcome g b script old new s (record sa { drawn = sa.drawn + 1 })
  begins_so new sa step after event outcome (SaysLine.unsaid is core seat) said begin may = absurd (said is)
  begins_so new sa step after event outcome (SaysLine.said came makes moves goes) said begin may = by outcome goes
    where
      makes_begin : MakesCoreStep g s.daemon step.line events.Begin came old.lock old.log new.lock new.log
      makes_begin = subst (λ (ev : Event). MakesCoreStep g s.daemon step.line ev came old.lock old.log new.lock new.log) begin makes

      comes : ComesToWork g b script old new s (record sa { drawn = sa.drawn + 1 })
      comes x t =
          begun g b script x old s t new (record sa { drawn = sa.drawn + 1 }) step after came may.ahead may.within may.stays may.made may.sound (comes_by old.lock.roll script s step after events.Begin may refl) makes_begin moves.place moves.daemon
          (ap (λ n. n + 1) moves.drawn) (names_held step after came.answer s sa moves)

      by : (w : LineOutcome) → GoesBy w came.answer s.leaving sa.leaving → BeginComesTo w g b script old new s (record sa { drawn = sa.drawn + 1 })
      by outcomes.On goes = (comes, goes.1 ∙ may.stays)
      by outcomes.Closed goes =
          λ x t. true≢false (sym (subst IsSome (begun_open g b script x old s t new step.line came may.sound makes_begin) goes))
      by outcomes.Starved goes = comes
      by outcomes.Unsaid goes = absurd goes

  module _ (k : LoggedLock T) (sa : ScriptPlace) (work : ComesToWork g b script old k s sa) (room : s.drawn + 1 < 2 ^ 40) where
    pub line_so : (new : LoggedLock T) (sb : ScriptPlace) (step : ScriptStep) (after : ℕ) (outcome : LineOutcome) → SaysLine g step after (event_of sa.names step) k new sa sb outcome
        → steps_ahead script sa.daemon sa.place ≡ step ∷ steps_ahead script sa.daemon after → after ≤ length script → sa.leaving ≡ None → LineComesTo outcome g b script after old k new s sa sb
    line_so new sb step after outcome (SaysLine.unsaid is core seat) here within none =
        subst (λ (w : LineOutcome). LineComesTo w g b script after old k new s sa sb) (sym is) (core, seat)
    line_so new sb step after outcome (SaysLine.said came makes moves goes) here within none = by outcome goes
      where
        mine : (x : Daemon) (t : IsBeforeTurn g b script x old s) → steps_ahead script s.daemon sa.place ≡ step ∷ steps_ahead script s.daemon after
        mine x t = subst (λ id. steps_ahead script id sa.place ≡ step ∷ steps_ahead script id after) (work x t).daemon here

        comes : closed_by came.answer ≡ None → ComesToWork g b script old new s sb
        comes unclosed x t =
            line_on g b script x old s t k sa (work x t) room new sb step after came (mine x t) within none makes moves.place moves.daemon moves.drawn
            (names_held step after came.answer sa sb moves) unclosed

        means : ((sb.leaving ≡ sa.leaving) × (sb.names ≡ bound sa.names step came.answer)) ⊎ (sb.leaving ≡ Some leaves.Memory) → (sb.leaving ≡ None) ⊎ (sb.leaving ≡ Some leaves.Memory)
        means (inl both) = inl (both.0 ∙ none)
        means (inr memory) = inr memory

        by : (w : LineOutcome) → GoesBy w came.answer sa.leaving sb.leaving → LineComesTo w g b script after old k new s sa sb
        by outcomes.On goes = (comes goes.0, goes.1 ∙ none, moves.place)
        by outcomes.Closed goes =
            λ x t. line_off g b script x old s t k sa (work x t) room new sb step after came (mine x t) within none makes moves.place moves.daemon moves.drawn
            (names_held step after came.answer sa sb moves) goes (means moves.names)
        by outcomes.Starved goes = comes goes.0
        by outcomes.Unsaid goes = absurd goes

    -- so it does where the line was read from these, which are the script
    pub line_read : (these : List ScriptStep) → these ≡ script → (new : LoggedLock T) (sb : ScriptPlace) (step : ScriptStep) (after : ℕ) (outcome : LineOutcome) → SaysLine g step after (event_of sa.names step) k new sa sb outcome
        → steps_ahead these sa.daemon sa.place ≡ step ∷ steps_ahead these sa.daemon after → (sa.place < after) × (after ≤ length these) → sa.leaving ≡ None → LineComesTo outcome g b script after old k new s sa sb
    line_read these same new sb step after outcome says here behind none =
        line_so new sb step after outcome says (subst (λ (l : List ScriptStep). steps_ahead l sa.daemon sa.place ≡ step ∷ steps_ahead l sa.daemon after) same here)
        (subst (λ (l : List ScriptStep). after ≤ length l) same behind.1) none

    pub cut_so : (new : LoggedLock T) (sb : ScriptPlace) (leave : Leave) (a : Came) → MakesCoreStep g sa.daemon 0 (events.Leaves leave) a k.lock k.log new.lock new.log → sb ≡ record sa { leaving = Some leave }
        → MeansToLeave (steps_ahead script sa.daemon sa.place) (Some leave) → TakesTurn g b script old new s sb
    cut_so new sb leave a makes is means x t =
        cut_off g b script x old s t k sa (work x t) room new sb leave a makes is
        (subst (λ id. MeansToLeave (steps_ahead script id sa.place) (Some leave)) (work x t).daemon means)

  -- no number is drawn behind the begin
  pub work_drawn : (k : LoggedLock T) (sa : ScriptPlace) → ComesToWork g b script old k s sa → MayTakeTurn g b script old s → old.lock.roll.drawn + 1 < 2 ^ 60 → k.lock.roll.drawn < 2 ^ 60
  work_drawn k sa work at few = subst (λ n. n < 2 ^ 60) (sym (ap (λ (r : Roll). r.drawn) (work at.daemon at.at).within.roll_is)) few

  pub work_place : (k : LoggedLock T) (sa : ScriptPlace) → ComesToWork g b script old k s sa → MayTakeTurn g b script old s → sa.place ≤ length script
  work_place k sa work at = (work at.daemon at.at).place

  -- nothing was said
  pub unsaid_so : (new : LoggedLock T) (sa : ScriptPlace) (step : ScriptStep) (after : ℕ) → MaySayNext script old.lock.roll s step after events.Begin → new ≡ old → sa ≡ s
      → TakesTurn g b script old new s (record sa { leaving = Some leaves.Memory })
  unsaid_so new sa step after may core seat x t =
      subst (λ (k : LoggedLock T). EndsTurn b script old x k s (record sa { leaving = Some leaves.Memory })) (sym core)
      (subst (λ (z : ScriptPlace). EndsTurn b script old x old s (record z { leaving = Some leaves.Memory })) (sym seat) (starves g b script x old s t step.line (comes_by old.lock.roll script s step after events.Begin may refl) may.stays))

  -- there was no memory, for a line or for its name
  pub starved_so : (k new : LoggedLock T) (sa sb : ScriptPlace) (after : ℕ) (outcome : LineOutcome) → ComesToWork g b script old k s sa → LineComesTo outcome g b script after old k new s sa sb
      → (outcome ≡ outcomes.Starved) ⊎ (outcome ≡ outcomes.Unsaid) → ComesToWork g b script old new s sb
  starved_so k new sa sb after outcome work by (inl is) = subst (λ (w : LineOutcome). LineComesTo w g b script after old k new s sa sb) is by
  starved_so k new sa sb after outcome work by (inr is) =
      let same = subst (λ (w : LineOutcome). LineComesTo w g b script after old k new s sa sb) is by in
      subst (λ (z : LoggedLock T). ComesToWork g b script old z s sb) (sym same.0) (subst (λ (z : ScriptPlace). ComesToWork g b script old k s z) (sym same.1) work)
