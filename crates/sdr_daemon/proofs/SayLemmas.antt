-- The progress of a daemon holds behind a transaction.
use Rattle.std.proofs.Common.{◌≡◌, ◌∙◌, ◌<◌, ◌≤◌, ◌⊎◌, ◌+◌, ◌^◌, ℕ, List, [], ◌∷◌, ◌++◌, MatchBool, true, true≢false, None, Some, inl, inr, arith, refl, sym, ap, subst, append_assoc}
use Rattle.std.specs.Prelude.{IsSome, length}
use Rattle.sdr_core.specs.CoreKept.{RunStart, LoggedLock, MakesCoreStep}
use Rattle.sdr_machine.specs.Core.{closed_by}
use Rattle.sdr_machine.specs.Roll.{when_done}
use Rattle.sdr_machine.specs.Serving.{made_by}
use Rattle.sdr_machine.specs.declared.came.Came.{Came}
use Rattle.sdr_machine.specs.declared.daemon.Daemon.{Daemon}
use Rattle.sdr_machine.specs.declared.has_ground.HasGround.{Ghosts}
use Rattle.sdr_model.specs.declared.event.Event.TheVariants as events
use Rattle.sdr_model.specs.declared.event.Leave.TheVariants as leaves
use Rattle.sdr_model.specs.declared.event.Leave.{Leave}
use Rattle.sdr_model.specs.declared.journal.Said.{Said}
use Rattle.sdr_model.specs.declared.journal.What.TheVariants as whats
use Rattle.sdr_model.specs.declared.script.ScriptStep.{ScriptStep}
use Rattle.sdr_words.specs.Bindings.{bound, event_of}
use Rattle.sdr_daemon.proofs.ComingLemmas.{begins}
use Rattle.sdr_daemon.proofs.DrawnLemmas.{drawn_more, drawn_on, fewer_lines}
use Rattle.sdr_daemon.proofs.InsideLemmas.{cuts, says_on}
use Rattle.sdr_daemon.proofs.ScriptLemmas.{lines_more, names_more}
use Rattle.sdr_daemon.proofs.StepLemmas.{IsStep, grown, is_statement, is_step, step_states}
use Rattle.sdr_daemon.proofs.TurnLemmas.{IsFree, ends_turn, id_is, is_free, on_way, there, ticket_of, turned}
use Rattle.sdr_daemon.specs.Progressing.{IsOnWay, WasLookRefused, steps_ahead}
use Rattle.sdr_daemon.specs.Scripts.{HasKeptSoFar, DaemonKeepsToScript, MayHaveDrawn, MeansToLeave}
use Rattle.sdr_daemon.specs.Coming.{coming_of}
use Rattle.sdr_daemon.specs.TakingTurns.{AddsAtMostOne, DoesComing, EndsTurn, IsBeforeTurn}
use Rattle.sdr_daemon.specs.TurnEvents.{BeforeTurn, IsOverWith, SaysOn, before_of}
use Rattle.sdr_daemon.specs.Turns.{DaemonTurn, IsTurn, Phase, SayLines, after_turn, entries_by, names_after, opens_work, steps_by}
use Rattle.sdr_daemon.specs.Working.{IsInWork}
use Rattle.sdr_daemon.specs.declared.coming.Coming.TheVariants as comings
use Rattle.sdr_daemon.specs.declared.script_place.ScriptPlace.{ScriptPlace}

module _ {T : Type 0} (g : Ghosts T) (b : RunStart) (script : List ScriptStep) (x : Daemon) (old : LoggedLock T) (s : ScriptPlace) (t : IsBeforeTurn g b script x old s) where
  abbrev o : BeforeTurn
  o = before_of old x

  -- it begins a transaction
  pub begun : (new : LoggedLock T) (s' : ScriptPlace) (step : ScriptStep) (after : ℕ) (a : Came) → steps_ahead script s.daemon s.place ≡ step ∷ steps_ahead script s.daemon after → after ≤ length script
      → s.leaving ≡ None → event_of s.names step ≡ events.Begin → old.lock.roll.failed ≡ None → coming_of old.lock.roll script s ≡ comings.Comes s.daemon step.line
      → MakesCoreStep g s.daemon step.line events.Begin a old.lock old.log new.lock new.log → s'.place ≡ after → s'.daemon ≡ s.daemon → s'.drawn ≡ s.drawn + 1
      → (s'.leaving ≡ None → s'.names ≡ bound s.names step a.answer) → IsInWork g b script o new s s'
  begun new s' step after a is within none event sound comes makes place same drawn names =
      let st = is_step g b s.daemon step.line events.Begin a old new t.run makes in
      let said : Said = (made_by s.daemon events.Begin a (g.moment old.lock.base) (g.moment new.lock.base) step.line st.v').said in
      record {
        run = st.run;
        line = step.line;
        comes = comes;
        lines = step ∷ [];
        said = said ∷ [];
        within = (begins st.step t.found t.stays t.free t.unsaid sound refl).0;
        at = t.way.at;
        kept = subst (λ l. HasKeptSoFar (WasLookRefused b old.lock.roll.drawn old.log.journal) (steps_by s.daemon script) l (entries_by s.daemon old.log.journal) t.way.at)
            (is ∙ ap (λ p. step ∷ steps_ahead script s.daemon p) (sym place)) t.way.kept;
        ready = ready (is_free g b script x old s t none step (steps_ahead script s.daemon after) is);
        below = t.way.below;
        say = (record { line = refl; event = sym event ∙ ap (λ n. event_of n step) (t.way.names none) }, tt);
        names = λ stays. names stays ∙ ap (λ n. bound n step a.answer) (t.way.names none);
        opens = refl;
        daemon = same;
        drawn = drawn;
        may =
            drawn_on s.drawn s'.drawn (entries_by s.daemon old.log.journal) (steps_by s.daemon script) (steps_ahead script s.daemon s.place) (steps_ahead script s.daemon s'.place) t.way.may
            (fewer_lines script s.daemon s.place s'.place step after is place s.drawn s'.drawn (omega (arith, drawn)));
        place = subst (λ p. p ≤ length script) (sym place) within;
      }
    where
      ready : IsFree x t.way.at.phase (ticket_of (event_of s.names step)) → t.way.at.phase ≡ Phase.ready
      ready (IsFree.any at) = at
      ready (IsFree.awaits awaited at same waits) = let no : None ≡ Some awaited = sym (ap ticket_of event) ∙ same in absurd cc

  pub begun_open : (new : LoggedLock T) (line : ℕ) (a : Came) → old.lock.roll.failed ≡ None → MakesCoreStep g s.daemon line events.Begin a old.lock old.log new.lock new.log → closed_by a.answer ≡ None
  begun_open new line a sound makes =
      let st = is_step g b s.daemon line events.Begin a old new t.run makes in
      ap closed_by (begins st.step t.found t.stays t.free t.unsaid sound refl).1

  opens_more : (said : List Said) (more : List Said) → opens_work said ≡ true → opens_work (said ++ more) ≡ true
  opens_more [] more opens = absurd (true≢false (sym opens))
  opens_more (x ∷ said) more opens = opens

  -- it says a line of its transaction
  module _ (k : LoggedLock T) (sa : ScriptPlace) (w : IsInWork g b script o k s sa) (room : s.drawn + 1 < 2 ^ 40) where
    own : sa.daemon ≡ x.id
    own = w.daemon ∙ sym (id_is g b script x old s t)

    module _ (new : LoggedLock T) (sb : ScriptPlace) (step : ScriptStep) (after : ℕ) (a : Came) (is : steps_ahead script s.daemon sa.place ≡ step ∷ steps_ahead script s.daemon after) (within : after ≤ length script)
        (stays : sa.leaving ≡ None) (makes : MakesCoreStep g sa.daemon step.line (event_of sa.names step) a k.lock k.log new.lock new.log) (place : sb.place ≡ after) (same : sb.daemon ≡ sa.daemon)
        (drawn : sb.drawn ≡ sa.drawn) (names : sb.leaving ≡ None → sb.names ≡ bound sa.names step a.answer) where
      st : IsStep g b sa.daemon step.line (event_of sa.names step) a k new
      st = is_step g b sa.daemon step.line (event_of sa.names step) a k new w.run makes

      abbrev said_by_it : Said
      said_by_it = (made_by sa.daemon (event_of sa.names step) a (g.moment k.lock.base) (g.moment new.lock.base) step.line st.v').said

      goes : SaysOn o w.said said_by_it new.lock.roll new.log
      goes =
          says_on st.step o w.said w.within (there g b script x old s t) t.stays t.free own (event_of sa.names step) refl
          (λ no. true≢false (sym (step_states sa.names step) ∙ ap is_statement no)) (λ leave no. true≢false (sym (step_states sa.names step) ∙ ap is_statement no))

      says : SayLines w.at.names (w.lines ++ step ∷ []) (w.said ++ said_by_it ∷ [])
      says = lines_more w.at.names w.lines w.said step said_by_it w.say (record { line = refl; event = ap (λ n. event_of n step) (w.names stays) })

      held : bound sa.names step a.answer ≡ names_after w.at.names (w.lines ++ step ∷ []) (w.said ++ said_by_it ∷ [])
      held = ap (λ n. bound n step a.answer) (w.names stays) ∙ sym (names_more w.at.names w.lines w.said step said_by_it w.say)

      rest_is : w.lines ++ steps_ahead script s.daemon sa.place ≡ (w.lines ++ step ∷ []) ++ steps_ahead script s.daemon sb.place
      rest_is =
          ap (λ l. w.lines ++ l) (is ∙ ap (λ p. step ∷ steps_ahead script s.daemon p) (sym place)) ∙ sym (append_assoc w.lines (step ∷ []) (steps_ahead script s.daemon sb.place))

      may_on : MayHaveDrawn sb.drawn (entries_by s.daemon old.log.journal) (steps_by s.daemon script) (steps_ahead script s.daemon sb.place)
      may_on =
          drawn_on sa.drawn sb.drawn (entries_by s.daemon old.log.journal) (steps_by s.daemon script) (steps_ahead script s.daemon sa.place) (steps_ahead script s.daemon sb.place) w.may
          (fewer_lines script s.daemon sa.place sb.place step after is place sa.drawn sb.drawn (omega (arith, drawn)))

      -- the transaction goes on
      pub line_on : closed_by a.answer ≡ None → IsInWork g b script o new s sb
      line_on unclosed = by goes
        where
          by : SaysOn o w.said said_by_it new.lock.roll new.log → IsInWork g b script o new s sb
          by (SaysOn.closed close closed h) = let no : None ≡ Some close = sym unclosed ∙ closed in absurd cc
          by (SaysOn.on unclosed_too within_it) = record {
            run = st.run;
            line = w.line;
            comes = w.comes;
            lines = w.lines ++ step ∷ [];
            said = w.said ++ said_by_it ∷ [];
            within = within_it;
            at = w.at;
            kept = subst (λ l. HasKeptSoFar (WasLookRefused b old.lock.roll.drawn old.log.journal) (steps_by s.daemon script) l (entries_by s.daemon old.log.journal) w.at) rest_is w.kept;
            ready = w.ready;
            below = w.below;
            say = says;
            names = λ none. names none ∙ held;
            opens = opens_more w.said (said_by_it ∷ []) w.opens;
            daemon = same ∙ w.daemon;
            drawn = drawn ∙ w.drawn;
            may = may_on;
            place = subst (λ p. p ≤ length script) (sym place) within;
          }

      -- or it closes
      pub line_off : IsSome (closed_by a.answer) → (sb.leaving ≡ None) ⊎ (sb.leaving ≡ Some leaves.Memory) → EndsTurn b script old x new s sb
      line_off closed leaving = by goes
        where
          by : SaysOn o w.said said_by_it new.lock.roll new.log → EndsTurn b script old x new s sb
          by (SaysOn.on unclosed_too within_it) = absurd (true≢false (sym (subst IsSome unclosed_too closed)))
          by (SaysOn.closed close closed_so h) =
              let turn : DaemonTurn = record { lines = w.lines ++ step ∷ []; said = w.said ++ said_by_it ∷ []; entries = h.entry ∷ []; number = old.lock.roll.drawn + 1; phase = Phase.ready } in
              let next : AddsAtMostOne o (h.entry ∷ []) = AddsAtMostOne.one h.entry refl h.next.number h.next.daemon in
              let below = w.below in
              let kept =
              turned g b script x old s t new (h.entry ∷ []) (when_done x) (old.lock.roll.drawn + 1) h.over next (omega arith) w.at (w.lines ++ steps_ahead script s.daemon sa.place) w.kept turn (steps_ahead script s.daemon sb.place) refl rest_is
              (IsTurn.works close w.ready (opens_more w.said (said_by_it ∷ []) w.opens)
              (record { entry = h.entry; is = refl; what_is = h.next.what_is; number = sym h.next.number; higher = subst (λ n. w.at.number < n) (sym h.next.number) (omega (arith, below)) }) refl) says tt in
              let d = drawn ∙ w.drawn in
              let few = t.way.few in
              let low = t.drawn in
              ends_turn g b script x old s t new sb (h.entry ∷ []) (when_done x) (old.lock.roll.drawn + 1) h.over next (omega arith) (omega arith) (DoesComing.draws w.line w.comes h.over.drawn_is d)
              (same ∙ w.daemon) (omega (arith, d)) (omega (arith, d, low)) (omega (arith, d, few)) (subst (λ p. p ≤ length script) (sym place) within)
              (subst (λ c. MatchBool c (DaemonKeepsToScript (WasLookRefused b new.lock.roll.drawn new.log.journal) new.log.journal (steps_by sb.daemon script) (entries_by sb.daemon new.log.journal))
              (IsOnWay b script new.lock.roll new.log.journal (when_done x) sb)) (sym t.stays)
              (on_way g b script x old s t new (when_done x) sb w.at turn (omega (arith, d, room)) (same ∙ w.daemon) refl (subst (λ n. old.lock.roll.drawn + 1 ≤ n) (sym h.over.drawn_is) (omega arith)) kept (by_leaving leaving)
              (drawn_more sb.drawn sb.drawn (entries_by s.daemon old.log.journal) (h.entry ∷ []) (entries_by s.daemon new.log.journal) (steps_by s.daemon script) (steps_ahead script s.daemon sb.place) (steps_ahead script s.daemon sb.place) may_on
              (grown o (h.entry ∷ []) new.log.journal s.daemon (id_is g b script x old s t) next h.over.journal_is) (omega arith))))
            where
              by_leaving : (sb.leaving ≡ None) ⊎ (sb.leaving ≡ Some leaves.Memory)
                  → ((sb.leaving ≡ None) × (sb.names ≡ names_after w.at.names (w.lines ++ step ∷ []) (w.said ++ said_by_it ∷ []))) ⊎ (sb.leaving ≡ Some leaves.Memory)
              by_leaving (inl none) = inl (none, names none ∙ held)
              by_leaving (inr memory) = inr memory

    -- it leaves in its transaction
    pub cut_off : (new : LoggedLock T) (sb : ScriptPlace) (leave : Leave) (a : Came) → MakesCoreStep g sa.daemon 0 (events.Leaves leave) a k.lock k.log new.lock new.log
        → sb ≡ record sa { leaving = Some leave } → MeansToLeave (steps_ahead script s.daemon sa.place) (Some leave) → EndsTurn b script old x new s sb
    cut_off new sb leave a makes is means =
        let st = is_step g b sa.daemon 0 (events.Leaves leave) a k new w.run makes in
        let said : Said = (made_by sa.daemon (events.Leaves leave) a (g.moment k.lock.base) (g.moment new.lock.base) 0 st.v').said in
        let c = cuts st.step o w.said w.within (there g b script x old s t) t.stays t.free own leave refl in
        let h : IsOverWith o (whats.Work (w.said ++ said ∷ []) c.0) (when_done x) new.lock.roll new.log = c.2 in
        let turn : DaemonTurn = record { lines = w.lines; said = w.said; entries = h.entry ∷ []; number = old.lock.roll.drawn + 1; phase = Phase.leaving leave } in
        let next : AddsAtMostOne o (h.entry ∷ []) = AddsAtMostOne.one h.entry refl h.next.number h.next.daemon in
        let below = w.below in
        let kept =
        turned g b script x old s t new (h.entry ∷ []) (when_done x) (old.lock.roll.drawn + 1) h.over next (omega arith) w.at (w.lines ++ steps_ahead script s.daemon sa.place) w.kept turn (steps_ahead script s.daemon sa.place) refl refl
        (IsTurn.cut c.0 said leave w.ready w.opens refl refl
        (record { entry = h.entry; is = refl; what_is = h.next.what_is; number = sym h.next.number; higher = subst (λ n. w.at.number < n) (sym h.next.number) (omega (arith, below)) }) refl) w.say tt in
        let d = w.drawn in
        let few = t.way.few in
        let low = t.drawn in
        let R : ℕ → ℕ → Type 0 = WasLookRefused b new.lock.roll.drawn new.log.journal in
        let after : ScriptPlace = record sa { leaving = Some leave } in
        subst (λ (z : ScriptPlace). EndsTurn b script old x new s z) (sym is)
        (ends_turn g b script x old s t new after (h.entry ∷ []) (when_done x) (old.lock.roll.drawn + 1) h.over next (omega arith) (omega arith) (DoesComing.draws w.line w.comes h.over.drawn_is d)
        w.daemon (omega (arith, d)) (omega (arith, d, low)) (omega (arith, d, few)) w.place
        (subst (λ z. MatchBool z (DaemonKeepsToScript R new.log.journal (steps_by sa.daemon script) (entries_by sa.daemon new.log.journal)) (IsOnWay b script new.lock.roll new.log.journal (when_done x) after)) (sym t.stays)
        (record {
          at = after_turn w.at turn;
          kept = subst (λ id. HasKeptSoFar R (steps_by id script) (steps_ahead script id sa.place) (entries_by id new.log.journal) (after_turn w.at turn)) (sym w.daemon) kept;
          below = subst (λ n. old.lock.roll.drawn + 1 ≤ n) (sym h.over.drawn_is) (omega arith);
          few = omega (arith, d, room);
          names = λ none. absurd cc;
          agrees = refl;
          means = subst (λ id. MeansToLeave (steps_ahead script id sa.place) (Some leave)) (sym w.daemon) means;
          may =
              subst (λ id. MayHaveDrawn sa.drawn (entries_by id new.log.journal) (steps_by id script) (steps_ahead script id sa.place)) (sym w.daemon)
              (drawn_more sa.drawn sa.drawn (entries_by s.daemon old.log.journal) (h.entry ∷ []) (entries_by s.daemon new.log.journal) (steps_by s.daemon script) (steps_ahead script s.daemon sa.place) (steps_ahead script s.daemon sa.place) w.may
              (grown o (h.entry ∷ []) new.log.journal s.daemon (id_is g b script x old s t) next h.over.journal_is) (omega arith));
        })))
