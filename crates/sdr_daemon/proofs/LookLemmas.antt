-- The progress of a daemon holds behind a look.
use Rattle.std.proofs.Common.{◌≡◌, ◌∙◌, ◌<◌, ◌≤◌, ◌⊎◌, ◌+◌, ◌^◌, ℕ, List, [], ◌∷◌, MatchBool, false, true, None, Some, inl, inr, arith, refl, sym, ap, subst, append-nil}
use Rattle.std.specs.List.{list_any}
use Rattle.std.specs.Prelude.{is_some, length}
use Rattle.law_runs.specs.LastEntries.{waited_ticket}
use Rattle.sdr_base.specs.declared.refusal.Refusal.TheVariants as refusals
use Rattle.sdr_core.specs.CoreKept.{RunStart, LoggedLock, MakesCoreStep}
use Rattle.sdr_machine.specs.Legal.{Lead}
use Rattle.sdr_machine.specs.Roll.{when_done, when_passed_over, after_wait}
use Rattle.sdr_machine.specs.Serving.{made_by}
use Rattle.sdr_machine.specs.Transaction.{refused}
use Rattle.sdr_machine.specs.declared.came.Came.{Came}
use Rattle.sdr_machine.specs.declared.daemon.Daemon.{Daemon}
use Rattle.sdr_machine.specs.declared.has_ground.HasGround.{Ghosts}
use Rattle.sdr_model.specs.AccountSteps.{pending_of}
use Rattle.sdr_model.specs.declared.answer.Answer.TheVariants as answers
use Rattle.sdr_model.specs.declared.event.Event.TheVariants as events
use Rattle.sdr_model.specs.declared.event.Leave.TheVariants as leaves
use Rattle.sdr_model.specs.declared.journal.Entry.{Entry}
use Rattle.sdr_model.specs.declared.journal.Said.{Said}
use Rattle.sdr_model.specs.declared.script.ScriptStep.{ScriptStep}
use Rattle.sdr_words.specs.Bindings.{bound, event_of}
use Rattle.sdr_daemon.proofs.ComingLemmas.{looks}
use Rattle.sdr_daemon.proofs.DrawnLemmas.{drawn_more, fewer_lines, wait_added, waited_before}
use Rattle.sdr_daemon.proofs.NextLemmas.{comes_with, with_line}
use Rattle.sdr_daemon.proofs.ScriptLemmas.{kept_also}
use Rattle.sdr_daemon.proofs.StepLemmas.{IsStep, grown, is_step, refused_grows, unused}
use Rattle.sdr_daemon.proofs.TurnLemmas.{IsFree, below_next, ends_turn, id_is, is_free, on_way, ticket_of, turned}
use Rattle.sdr_daemon.specs.Progressing.{IsOnWay, PhaseAgrees, WasLookRefused, steps_ahead}
use Rattle.sdr_daemon.specs.Scripts.{HasKeptSoFar, IsLookRefused, DaemonKeepsToScript, LooksNext, is_wait}
use Rattle.sdr_daemon.specs.Coming.{coming_of}
use Rattle.sdr_daemon.specs.TakingTurns.{AddsAtMostOne, DoesComing, DoesLine, EndsTurn, IsBeforeTurn}
use Rattle.sdr_daemon.specs.TurnEvents.{BeforeTurn, IsOver, LooksSo, before_of}
use Rattle.sdr_daemon.specs.Turns.{DaemonTurn, IsLine, IsTurn, MayLook, Phase, Reached, after_turn, entries_by, is_refused_outside, steps_by}
use Rattle.sdr_daemon.specs.declared.coming.Coming.TheVariants as comings
use Rattle.sdr_daemon.specs.declared.script_place.ScriptPlace.{ScriptPlace}

module _ {T : Type 0} (g : Ghosts T) (b : RunStart) (script : List ScriptStep) (x : Daemon) (old : LoggedLock T) (s : ScriptPlace) (t : IsBeforeTurn g b script x old s) where
  abbrev o : BeforeTurn
  o = before_of old x

  -- it looks at a ticket: the look is made again where the ticket waits
  pub looked : (new : LoggedLock T) (s' : ScriptPlace) (step : ScriptStep) (after ticket : ℕ) (a : Came) → steps_ahead script s.daemon s.place ≡ step ∷ steps_ahead script s.daemon after → after ≤ length script
      → s.leaving ≡ None → event_of s.names step ≡ events.Look ticket → old.lock.roll.failed ≡ None → s.drawn + 1 < 2 ^ 40
      → MakesCoreStep g s.daemon step.line (events.Look ticket) a old.lock old.log new.lock new.log
      → ((a.answer ≡ answers.Waits) × (s' ≡ record s { drawn = s.drawn + 1 })) ⊎ ((a.answer ≡ answers.Waits → ⊥) × DoesLine step after a.answer (record s { drawn = s.drawn + 1 }) s')
      → EndsTurn b script old x new s s'
  looked new s' step after ticket a is within none event sound room makes moves = by (looks st.step t.found t.stays t.free t.unsaid sound ticket refl) free moves
    where
      st : IsStep g b s.daemon step.line (events.Look ticket) a old new
      st = is_step g b s.daemon step.line (events.Look ticket) a old new t.run makes

      said : Said
      said = (made_by s.daemon (events.Look ticket) a (g.moment old.lock.base) (g.moment new.lock.base) step.line st.v').said

      R : ℕ → ℕ → Type 0
      R = WasLookRefused b new.lock.roll.drawn new.log.journal

      free : IsFree x t.way.at.phase (Some ticket)
      free = subst (IsFree x t.way.at.phase) (ap ticket_of event) (is_free g b script x old s t none step (steps_ahead script s.daemon after) is)

      may : IsFree x t.way.at.phase (Some ticket) → MayLook ticket t.way.at.phase
      may (IsFree.any at) = inl at
      may (IsFree.awaits awaited at same waits) = let one : ticket ≡ awaited = cc in inr (at ∙ ap (λ n. Phase.waiting n) (sym one))

      line : IsLine t.way.at.names step said
      line = record { line = refl; event = sym event ∙ ap (λ n. event_of n step) (t.way.names none) }

      few : s.drawn < 2 ^ 40
      few = t.way.few

      comes : coming_of old.lock.roll script s ≡ comings.Comes s.daemon step.line
      comes = comes_with old.lock.roll script s step (steps_ahead script s.daemon after) sound none room is ∙ ap (with_line s step) (ap is_refused_outside event)

      names : DoesLine step after a.answer (record s { drawn = s.drawn + 1 }) s' → ((s'.leaving ≡ None) × (s'.names ≡ bound t.way.at.names step a.answer)) ⊎ (s'.leaving ≡ Some leaves.Memory)
      names m = by_moves m.names
        where
          by_moves : ((s'.leaving ≡ s.leaving) × (s'.names ≡ bound s.names step a.answer)) ⊎ (s'.leaving ≡ Some leaves.Memory)
              → ((s'.leaving ≡ None) × (s'.names ≡ bound t.way.at.names step a.answer)) ⊎ (s'.leaving ≡ Some leaves.Memory)
          by_moves (inl both) = inl (both.0 ∙ none, both.1 ∙ ap (λ n. bound n step a.answer) (t.way.names none))
          by_moves (inr memory) = inr memory

      -- the line is done, by this turn
      done : (entries : List Entry) (x' : Daemon) → IsOver o entries x' (old.lock.roll.drawn + 1) new.lock.roll new.log → AddsAtMostOne o entries
          → x'.left ≡ false
          → IsTurn R t.way.at (record { lines = step ∷ []; said = said ∷ []; entries = entries; number = old.lock.roll.drawn + 1; phase = Phase.ready })
          → DoesLine step after a.answer (record s { drawn = s.drawn + 1 }) s' → EndsTurn b script old x new s s'
      done entries x' behind next stays turns m =
          let turn : DaemonTurn = record { lines = step ∷ []; said = said ∷ []; entries = entries; number = old.lock.roll.drawn + 1; phase = Phase.ready } in
          let kept =
          turned g b script x old s t new entries x' (old.lock.roll.drawn + 1) behind next (omega arith) t.way.at (steps_ahead script s.daemon s.place) t.way.kept turn (steps_ahead script s.daemon s'.place) refl
          (is ∙ ap (λ p. step ∷ steps_ahead script s.daemon p) (sym m.place)) turns (line, tt) tt in
          let d = m.drawn in
          let below = t.drawn in
          ends_turn g b script x old s t new s' entries x' (old.lock.roll.drawn + 1) behind next (omega arith) (omega arith) (DoesComing.draws step.line comes behind.drawn_is m.drawn) m.daemon
          (omega (arith, d)) (omega (arith, d, below)) (omega (arith, d, few)) (subst (λ p. p ≤ length script) (sym m.place) within)
          (subst (λ c. MatchBool c (DaemonKeepsToScript R new.log.journal (steps_by s'.daemon script) (entries_by s'.daemon new.log.journal)) (IsOnWay b script new.lock.roll new.log.journal x' s')) (sym stays)
          (on_way g b script x old s t new x' s' t.way.at turn (omega (arith, d, room)) m.daemon refl (subst (λ n. old.lock.roll.drawn + 1 ≤ n) (sym behind.drawn_is) (omega arith)) kept (names m)
          (drawn_more s.drawn s'.drawn (entries_by s.daemon old.log.journal) entries (entries_by s.daemon new.log.journal) (steps_by s.daemon script) (steps_ahead script s.daemon s.place) (steps_ahead script s.daemon s'.place) t.way.may
          (grown o entries new.log.journal s.daemon (id_is g b script x old s t) next behind.journal_is)
          (fewer_lines script s.daemon s.place s'.place step after is m.place s.drawn s'.drawn (omega (arith, d))))))

      refused_now : IsOver o [] (when_passed_over x) (old.lock.roll.drawn + 1) new.lock.roll new.log → pending_of st.v.before.world ticket ≡ None → R (old.lock.roll.drawn + 1) ticket
      refused_now behind missing =
          let u = unused old.log.journal old.lock.roll.drawn (old.lock.roll.drawn + 1) (omega arith) st.drawn in
          let same : new.log.journal ≡ old.log.journal = behind.journal_is ∙ append-nil old.log.journal in
          record {
            drawn_by = subst (λ n. old.lock.roll.drawn + 1 ≤ n) (sym behind.drawn_is) (omega arith);
            refused_at = subst (λ l. IsLookRefused b.told b.daemons b.first l (old.lock.roll.drawn + 1) ticket) (sym same) (record {
              unused = u.0;
              before = st.v.before;
              after = subst (λ l. Lead b.told b.daemons [] b.first l st.v.before) (sym u.1) st.keeps.journal.leads;
              none = missing;
            });
          }

      -- it is looked for again
      waiting : (entries : List Entry) (x' : Daemon) → IsOver o entries x' (old.lock.roll.drawn + 1) new.lock.roll new.log → AddsAtMostOne o entries
          → x'.left ≡ false → s' ≡ record s { drawn = s.drawn + 1 }
          → (at : Reached) → HasKeptSoFar R (steps_by s.daemon script) (steps_ahead script s.daemon s.place) (entries_by s.daemon new.log.journal) at → at.number ≤ new.lock.roll.drawn
          → (s.leaving ≡ None → s.names ≡ at.names) → PhaseAgrees at.phase x' s.leaving → list_any is_wait (entries_by s.daemon new.log.journal) ≡ true → EndsTurn b script old x new s s'
      waiting entries x' behind next stays same at kept below names agrees waited =
          let drawn = t.drawn in
          subst (λ (z : ScriptPlace). EndsTurn b script old x new s z) (sym same)
          (ends_turn g b script x old s t new (record s { drawn = s.drawn + 1 }) entries x' (old.lock.roll.drawn + 1) behind next (omega arith) (omega arith)
          (DoesComing.draws step.line comes behind.drawn_is refl) refl (omega arith) (omega (arith, drawn)) (omega (arith, few)) t.within
          (subst (λ c. MatchBool c (DaemonKeepsToScript R new.log.journal (steps_by s.daemon script) (entries_by s.daemon new.log.journal)) (IsOnWay b script new.lock.roll new.log.journal x' (record s { drawn = s.drawn + 1 }))) (sym stays)
          (record { at = at; kept = kept; below = below; few = room; names = names; agrees = agrees; means = t.way.means; may = inl waited })))

      first_wait : IsFree x t.way.at.phase (Some ticket) → (x.waits ≡ Some ticket → ⊥) → t.way.at.phase ≡ Phase.ready
      first_wait (IsFree.any at) new_one = at
      first_wait (IsFree.awaits awaited at same waits) new_one = absurd (new_one (waits ∙ sym same))

      by : LooksSo o st.v.before ticket said new.lock.roll new.log → IsFree x t.way.at.phase (Some ticket)
          → ((a.answer ≡ answers.Waits) × (s' ≡ record s { drawn = s.drawn + 1 })) ⊎ ((a.answer ≡ answers.Waits → ⊥) × DoesLine step after a.answer (record s { drawn = s.drawn + 1 }) s')
          → EndsTurn b script old x new s s'
      by (LooksSo.missing missing answer behind) fr (inl waits) = let no : answers.Waits ≡ refused (refusals.BadTicket ticket) = sym waits.0 ∙ answer in absurd cc
      by (LooksSo.missing missing answer behind) fr (inr m) =
          done [] (when_passed_over x) behind (AddsAtMostOne.none refl) t.stays
          (IsTurn.refused_look ticket (record { said = said; is = refl; event = refl }) (may fr) answer refl (below_next g b script x old s t) (refused_now behind missing) refl) m.1
      by (LooksSo.seen what ends waits_no bad h) fr (inl waits) = absurd (waits_no waits.0)
      by (LooksSo.seen what ends waits_no bad h) fr (inr m) =
          done (h.entry ∷ []) (when_done x) h.over (AddsAtMostOne.one h.entry refl h.next.number h.next.daemon) t.stays
          (IsTurn.looks ticket (record { said = said; is = refl; event = refl }) what (may fr)
          (record { entry = h.entry; is = refl; what_is = h.next.what_is; number = sym h.next.number; higher = subst (λ n. t.way.at.number < n) (sym h.next.number) (below_next g b script x old s t) }) ends refl) m.1
      by (LooksSo.again answer before behind) fr (inr m) = absurd (m.0 answer)
      by (LooksSo.again answer before behind) fr (inl waits) =
          let below = t.way.below in
          let d = behind.drawn_is in
          waiting [] (after_wait x ticket) behind (AddsAtMostOne.none refl) t.stays waits.1 t.way.at
          (subst (λ l. HasKeptSoFar R (steps_by s.daemon script) (steps_ahead script s.daemon s.place) l t.way.at) (sym (ap (entries_by s.daemon) (behind.journal_is ∙ append-nil old.log.journal)))
          (kept_also (WasLookRefused b old.lock.roll.drawn old.log.journal) R (refused_grows b o [] new.log.journal new.lock.roll.drawn (AddsAtMostOne.none refl) behind.journal_is (omega (arith, d)))
          (steps_by s.daemon script) (steps_ahead script s.daemon s.place) (entries_by s.daemon old.log.journal) t.way.at t.way.kept))
          (omega (arith, d, below)) t.way.names (agrees_again fr)
          (ap (λ l. list_any is_wait (entries_by s.daemon l)) (behind.journal_is ∙ append-nil old.log.journal)
          ∙ waited_before old.log.journal s.daemon x ticket (st.keeps.roll.agree s.daemon x t.found) before)
        where
          agrees_again : IsFree x t.way.at.phase (Some ticket) → PhaseAgrees t.way.at.phase (after_wait x ticket) s.leaving
          agrees_again (IsFree.any at) = subst (λ p. PhaseAgrees p (after_wait x ticket) s.leaving) (sym at) tt
          agrees_again (IsFree.awaits awaited at same _) = subst (λ p. PhaseAgrees p (after_wait x ticket) s.leaving) (sym at) same
      by (LooksSo.waits answer new_one h) fr (inr m) = absurd (m.0 answer)
      by (LooksSo.waits answer new_one h) fr (inl waits) =
          let turn : DaemonTurn = record { lines = []; said = []; entries = h.entry ∷ []; number = old.lock.roll.drawn + 1; phase = Phase.waiting ticket } in
          let next : AddsAtMostOne o (h.entry ∷ []) = AddsAtMostOne.one h.entry refl h.next.number h.next.daemon in
          waiting (h.entry ∷ []) (after_wait x ticket) h.over next t.stays waits.1 (after_turn t.way.at turn)
          (turned g b script x old s t new (h.entry ∷ []) (after_wait x ticket) (old.lock.roll.drawn + 1) h.over next (omega arith) t.way.at (steps_ahead script s.daemon s.place) t.way.kept turn (steps_ahead script s.daemon s.place) refl refl
          (IsTurn.waits ticket (first_wait fr new_one) refl
          (record { entry = h.entry; is = refl; what_is = h.next.what_is; number = sym h.next.number; higher = subst (λ n. t.way.at.number < n) (sym h.next.number) (below_next g b script x old s t) }) refl)
          tt (subst (LooksNext (Phase.waiting ticket) t.way.at.names) (sym is) (ap (λ n. event_of n step) (sym (t.way.names none)) ∙ event)))
          (subst (λ n. old.lock.roll.drawn + 1 ≤ n) (sym h.over.drawn_is) (omega arith)) t.way.names refl
          (ap (list_any is_wait) (grown o (h.entry ∷ []) new.log.journal s.daemon (id_is g b script x old s t) next h.over.journal_is)
          ∙ wait_added (entries_by s.daemon old.log.journal) h.entry (ap (λ what. is_some (waited_ticket what)) h.next.what_is))
