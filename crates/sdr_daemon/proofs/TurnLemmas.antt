-- The progress of a daemon holds behind a leave, a line that is passed over, and want of memory.
use Rattle.std.proofs.Common.{◌≡◌, ◌∙◌, ◌<◌, ◌≤◌, ◌⊎◌, ◌+◌, ◌-◌, ◌^◌, ◌&&◌, ℕ, List, [], ◌∷◌, ◌++◌, MatchBool, Bool, true, false, true≢false, not, Option, None, Some, inl, inr, arith, refl, sym, ap, subst, append-nil}
use Rattle.std.specs.List.{list_any}
use Rattle.std.specs.Prelude.{All, nat_lt, length}
use Rattle.sdr_machine.proofs.RollLemmas.{among, found_number, found_put, same_number}
use Rattle.sdr_base.specs.declared.refusal.Refusal.TheVariants as refusals
use Rattle.sdr_core.specs.CoreKept.{RunStart, LoggedLock, MakesCoreStep}
use Rattle.sdr_machine.specs.Crash.{is_sound}
use Rattle.sdr_machine.specs.Legal.{is_fault}
use Rattle.sdr_machine.specs.Roll.{after_leave, daemon_of}
use Rattle.sdr_machine.specs.Transaction.{refused}
use Rattle.sdr_machine.specs.declared.came.Came.{Came}
use Rattle.sdr_machine.specs.declared.daemon.Daemon.{Daemon}
use Rattle.sdr_machine.specs.declared.has_ground.HasGround.{Ghosts}
use Rattle.sdr_model.specs.declared.event.Event.TheVariants as events
use Rattle.sdr_model.specs.declared.event.Event.{Event}
use Rattle.sdr_model.specs.declared.event.Leave.TheVariants as leaves
use Rattle.sdr_model.specs.declared.event.Leave.{Leave}
use Rattle.sdr_model.specs.declared.journal.Entry.{Entry}
use Rattle.sdr_model.specs.declared.journal.Said.{Said}
use Rattle.sdr_model.specs.declared.script.ScriptStep.{ScriptStep}
use Rattle.sdr_words.specs.Bindings.{bound, event_of}
use Rattle.sdr_daemon.proofs.ComingLemmas.{leaves}
use Rattle.sdr_daemon.proofs.DrawnLemmas.{drawn_on, fewer_lines}
use Rattle.sdr_daemon.proofs.EventLemmas.{found_none}
use Rattle.sdr_daemon.proofs.ScriptLemmas.{kept_also, kept_more}
use Rattle.sdr_daemon.proofs.StepLemmas.{any_more, grown, is_step, put_same, refused_grows, unsound_below}
use Rattle.sdr_daemon.specs.Progressing.{IsOnWay, PhaseAgrees, WasLookRefused, steps_ahead}
use Rattle.sdr_daemon.specs.Scripts.{HasKeptSoFar, HasLeaveCause, DaemonKeepsToScript, IsLeaveDue, LooksNext, MayHaveDrawn, MeansToLeave, leave_due}
use Rattle.sdr_daemon.specs.Coming.{coming_of}
use Rattle.sdr_daemon.specs.TakingTurns.{AddsAtMostOne, DoesComing, DoesLine, EndsTurn, IsBeforeTurn, LeavesNext, MayDepart}
use Rattle.sdr_daemon.specs.TurnEvents.{BeforeTurn, IsOver, before_of}
use Rattle.sdr_daemon.specs.Turns.{DaemonTurn, IsTurn, Phase, Reached, SayLines, after_turn, entries_by, is_refused_outside, names_after, steps_by}
use Rattle.sdr_daemon.specs.declared.coming.Coming.TheVariants as comings
use Rattle.sdr_daemon.specs.declared.script_place.ScriptPlace.{ScriptPlace}

-- a daemon does anything next, or looks at the ticket for which it waits
pub data IsFree (x : Daemon) (phase : Phase) (ticket : Option ℕ) : Type 0 where
  any : phase ≡ Phase.ready → IsFree x phase ticket
  awaits : (awaited : ℕ) → phase ≡ Phase.waiting awaited → ticket ≡ Some awaited → x.waits ≡ Some awaited → IsFree x phase ticket

-- the ticket that a look is at
abbrev pub ticket_of : Event → Option ℕ
ticket_of (events.Look ticket) = Some ticket
ticket_of event = None

module _ {T : Type 0} (g : Ghosts T) (b : RunStart) (script : List ScriptStep) (x : Daemon) (old : LoggedLock T) (s : ScriptPlace) (t : IsBeforeTurn g b script x old s) where
  abbrev o : BeforeTurn
  o = before_of old x

  pub id_is : x.id ≡ s.daemon
  id_is = same_number x.id s.daemon (found_number old.lock.roll.daemons s.daemon x t.found)

  pub there : among x.id old.lock.roll.daemons ≡ Some x
  there = ap (λ n. among n old.lock.roll.daemons) id_is ∙ t.found

  -- the turn is over, and the daemon's progress holds
  pub ends_turn : (new : LoggedLock T) (s' : ScriptPlace) (entries : List Entry) (after : Daemon) (drawn : ℕ) → IsOver o entries after drawn new.lock.roll new.log → AddsAtMostOne o entries
      → old.lock.roll.drawn ≤ drawn → drawn ≤ old.lock.roll.drawn + 1 → DoesComing (coming_of old.lock.roll script s) old new s s' → s'.daemon ≡ s.daemon → drawn + s.drawn ≤ old.lock.roll.drawn + s'.drawn
      → s'.drawn ≤ drawn → s'.drawn ≤ 2 ^ 40 → s'.place ≤ length script
      → MatchBool after.left (DaemonKeepsToScript (WasLookRefused b new.lock.roll.drawn new.log.journal) new.log.journal (steps_by s'.daemon script) (entries_by s'.daemon new.log.journal))
      (IsOnWay b script new.lock.roll new.log.journal after s')
      → EndsTurn b script old x new s s'
  ends_turn new s' entries after drawn over next more one does same counted below few within state = record {
    entries = entries;
    after = after;
    drawn = drawn;
    over = over;
    next = next;
    more = more;
    few = one;
    does = does;
    holds = record {
      daemon = after;
      found =
          ap (λ n. daemon_of new.lock.roll n) (same ∙ sym id_is ∙ sym over.id) ∙ ap (λ ds. among after.id ds) over.daemons
          ∙ found_put old.lock.roll.daemons after x (ap (λ n. among n old.lock.roll.daemons) over.id ∙ there);
      drawn = subst (λ n. s'.drawn ≤ n) (sym over.drawn_is) below;
      few = few;
      within = within;
      state = state;
    };
    same = same;
    counted = counted;
  }

  -- where the daemon is in its script behind a turn, from a place
  pub turned : (new : LoggedLock T) (entries : List Entry) (after : Daemon) (drawn : ℕ) → IsOver o entries after drawn new.lock.roll new.log → AddsAtMostOne o entries → old.lock.roll.drawn ≤ drawn
      → (at : Reached) (from : List ScriptStep) → HasKeptSoFar (WasLookRefused b old.lock.roll.drawn old.log.journal) (steps_by s.daemon script) from (entries_by s.daemon old.log.journal) at
      → (turn : DaemonTurn) (rest : List ScriptStep) → turn.entries ≡ entries → from ≡ turn.lines ++ rest
      → IsTurn (WasLookRefused b new.lock.roll.drawn new.log.journal) at turn → SayLines at.names turn.lines turn.said
      → LooksNext turn.phase (names_after at.names turn.lines turn.said) rest
      → HasKeptSoFar (WasLookRefused b new.lock.roll.drawn new.log.journal) (steps_by s.daemon script) rest (entries_by s.daemon new.log.journal) (after_turn at turn)
  turned new entries after drawn behind next more at from was turn rest is lines turns says looks_next =
      let R : ℕ → ℕ → Type 0 = WasLookRefused b new.lock.roll.drawn new.log.journal in
      subst (λ l. HasKeptSoFar R (steps_by s.daemon script) rest l (after_turn at turn))
      (ap (λ l. entries_by s.daemon old.log.journal ++ l) is ∙ sym (grown o entries new.log.journal s.daemon id_is next behind.journal_is))
      (kept_more R (steps_by s.daemon script) from rest (entries_by s.daemon old.log.journal) at turn
      (kept_also (WasLookRefused b old.lock.roll.drawn old.log.journal) R
      (refused_grows b o entries new.log.journal new.lock.roll.drawn next behind.journal_is (subst (λ n. old.lock.roll.drawn ≤ n) (sym behind.drawn_is) more))
      (steps_by s.daemon script) from (entries_by s.daemon old.log.journal) at was)
      lines turns says looks_next)

  pub below_next : t.way.at.number < old.lock.roll.drawn + 1
  below_next = let below = t.way.below in omega (arith, below)

  -- it leaves
  pub departs : (new : LoggedLock T) (s' : ScriptPlace) (leave : Leave) (a : Came) → MayDepart old.lock.roll script s leave → IsLeaveDue s.leaving leave → LeavesNext old.lock.roll script s → MakesCoreStep g s.daemon 0 (events.Leaves leave) a old.lock old.log new.lock new.log
      → s' ≡ record s { drawn = s.drawn + 1 } → EndsTurn b script old x new s s'
  departs new s' leave a may due comes makes is =
      let st = is_step g b s.daemon 0 (events.Leaves leave) a old new t.run makes in
      let h = leaves st.step t.found t.stays t.free t.unsaid leave refl in
      let R : ℕ → ℕ → Type 0 = WasLookRefused b new.lock.roll.drawn new.log.journal in
      let next : AddsAtMostOne o (h.entry ∷ []) = AddsAtMostOne.one h.entry refl h.next.number h.next.daemon in
      let own : entries_by s.daemon new.log.journal ≡ entries_by s.daemon old.log.journal ++ h.entry ∷ [] = grown o (h.entry ∷ []) new.log.journal s.daemon id_is next h.over.journal_is in
      let kept : HasKeptSoFar R (steps_by s.daemon script) (steps_ahead script s.daemon s.place) (entries_by s.daemon old.log.journal) t.way.at =
      kept_also (WasLookRefused b old.lock.roll.drawn old.log.journal) R
      (refused_grows b o (h.entry ∷ []) new.log.journal new.lock.roll.drawn next h.over.journal_is (subst (λ n. old.lock.roll.drawn ≤ n) (sym h.over.drawn_is) (omega arith)))
      (steps_by s.daemon script) (steps_ahead script s.daemon s.place) (entries_by s.daemon old.log.journal) t.way.at t.way.kept in
      let few = t.way.few in
      let drawn = t.drawn in
      subst (λ (z : ScriptPlace). EndsTurn b script old x new s z) (sym is)
      (ends_turn new (record s { drawn = s.drawn + 1 }) (h.entry ∷ []) (after_leave x) (old.lock.roll.drawn + 1) h.over next (omega arith) (omega arith) (DoesComing.draws 0 comes h.over.drawn_is refl)
      refl (omega arith) (omega (arith, drawn)) (omega (arith, few)) t.within
      (record {
        rest = steps_ahead script s.daemon s.place;
        before = entries_by s.daemon old.log.journal;
        at = t.way.at;
        kept = kept;
        last = h.entry;
        all = own;
        leave = leave;
        leaves = h.next.what_is;
        means = means_by t.way.at.phase t.way.agrees;
        due = due_by t.way.at.phase t.way.agrees;
        higher = subst (λ n. t.way.at.number < n) (sym h.next.number) below_next;
        cause = cause st.drawn h.entry h.next.number h.over.journal_is leave may;
      }))
    where
      means_by : (p : Phase) → PhaseAgrees p x s.leaving → MeansToLeave (steps_ahead script s.daemon s.place) (leave_due p)
      means_by Phase.ready agrees = tt
      means_by (Phase.waiting ticket) agrees = tt
      means_by (Phase.leaving meant) agrees = subst (MeansToLeave (steps_ahead script s.daemon s.place)) agrees t.way.means

      due_by : (p : Phase) → PhaseAgrees p x s.leaving → IsLeaveDue (leave_due p) leave
      due_by Phase.ready agrees = tt
      due_by (Phase.waiting ticket) agrees = tt
      due_by (Phase.leaving meant) agrees = subst (λ o. IsLeaveDue o leave) agrees due

      cause : All (λ (e : Entry). e.number ≤ old.lock.roll.drawn) old.log.journal → (e : Entry) → e.number ≡ old.lock.roll.drawn + 1 → new.log.journal ≡ old.log.journal ++ e ∷ []
          → (leave : Leave) → MayDepart old.lock.roll script s leave
          → HasLeaveCause new.log.journal (entries_by s.daemon old.log.journal) (steps_by s.daemon script) e.number (steps_ahead script s.daemon s.place) leave
      cause all e number grows leaves.Done may = may
      cause all e number grows leaves.Fault may =
          let P : Entry → Bool = λ (z : Entry). is_fault z.what && nat_lt z.number e.number in
          ap (list_any P) grows ∙ any_more P old.log.journal e (unsound_below old.log.journal old.lock.roll.drawn e.number (omega (arith, number)) all (broken (is_sound old.log.journal) refl))
        where
          broken : (c : Bool) → is_sound old.log.journal ≡ c → is_sound old.log.journal ≡ false
          broken true sound = absurd (true≢false (sym (sym t.failed ∙ may) ∙ ap not sound))
          broken false sound = sound
      cause all e number grows leaves.Memory may = tt
      cause all e number grows leaves.Spent may =
          let drawn = t.drawn in
          let ahead = steps_ahead script s.daemon s.place in (
            subst (λ n. 2 ^ 40 ≤ n) (sym number) (omega (arith, drawn, may)),
            drawn_on s.drawn (2 ^ 40 - 1) (entries_by s.daemon old.log.journal) (steps_by s.daemon script) ahead ahead t.way.may (omega (arith, may)),
          )

  pub is_free : s.leaving ≡ None → (step : ScriptStep) (rest : List ScriptStep) → steps_ahead script s.daemon s.place ≡ step ∷ rest → IsFree x t.way.at.phase (ticket_of (event_of s.names step))
  is_free none step rest is = by t.way.at.phase refl (subst (LooksNext t.way.at.phase t.way.at.names) is t.way.kept.next) t.way.agrees
    where
      by : (p : Phase) → t.way.at.phase ≡ p → LooksNext t.way.at.phase t.way.at.names (step ∷ rest) → PhaseAgrees t.way.at.phase x s.leaving → IsFree x t.way.at.phase (ticket_of (event_of s.names step))
      by Phase.ready at next agrees = IsFree.any at
      by (Phase.waiting ticket) at next agrees =
          IsFree.awaits ticket at
          (ap (λ names. ticket_of (event_of names step)) (t.way.names none) ∙ ap ticket_of (subst (λ q. LooksNext q t.way.at.names (step ∷ rest)) at next))
          (subst (λ q. PhaseAgrees q x s.leaving) at agrees)
      by (Phase.leaving leave) at next agrees =
          let no : None ≡ Some leave = sym none ∙ subst (λ q. PhaseAgrees q x s.leaving) at agrees in absurd cc

  -- behind a turn by which it is ready again, the daemon is on its way
  pub on_way : (new : LoggedLock T) (after : Daemon) (s' : ScriptPlace) (at : Reached) (turn : DaemonTurn) → s'.drawn < 2 ^ 40 → s'.daemon ≡ s.daemon → turn.phase ≡ Phase.ready → turn.number ≤ new.lock.roll.drawn
      → HasKeptSoFar (WasLookRefused b new.lock.roll.drawn new.log.journal) (steps_by s.daemon script) (steps_ahead script s.daemon s'.place) (entries_by s.daemon new.log.journal) (after_turn at turn)
      → ((s'.leaving ≡ None) × (s'.names ≡ names_after at.names turn.lines turn.said)) ⊎ (s'.leaving ≡ Some leaves.Memory)
      → MayHaveDrawn s'.drawn (entries_by s.daemon new.log.journal) (steps_by s.daemon script) (steps_ahead script s.daemon s'.place) → IsOnWay b script new.lock.roll new.log.journal after s'
  on_way new after s' at turn few same ready below kept names may = record {
    at = after_turn at turn;
    kept = subst (λ id. HasKeptSoFar (WasLookRefused b new.lock.roll.drawn new.log.journal) (steps_by id script) (steps_ahead script id s'.place) (entries_by id new.log.journal) (after_turn at turn)) (sym same) kept;
    below = below;
    few = few;
    names = λ none. by_names none names;
    agrees = subst (λ p. PhaseAgrees p after s'.leaving) (sym ready) tt;
    means = by_means names;
    may = subst (λ id. MayHaveDrawn s'.drawn (entries_by id new.log.journal) (steps_by id script) (steps_ahead script id s'.place)) (sym same) may;
  }
    where
      by_names : s'.leaving ≡ None → ((s'.leaving ≡ None) × (s'.names ≡ names_after at.names turn.lines turn.said)) ⊎ (s'.leaving ≡ Some leaves.Memory)
          → s'.names ≡ names_after at.names turn.lines turn.said
      by_names none (inl both) = both.1
      by_names none (inr memory) = let no : None ≡ Some leaves.Memory = sym none ∙ memory in absurd cc

      by_means : ((s'.leaving ≡ None) × (s'.names ≡ names_after at.names turn.lines turn.said)) ⊎ (s'.leaving ≡ Some leaves.Memory)
          → MeansToLeave (steps_ahead script s'.daemon s'.place) s'.leaving
      by_means (inl both) = subst (MeansToLeave (steps_ahead script s'.daemon s'.place)) (sym both.0) tt
      by_means (inr memory) = subst (MeansToLeave (steps_ahead script s'.daemon s'.place)) (sym memory) tt

  -- it passes over a line
  pub passes : (s' : ScriptPlace) (step : ScriptStep) (after : ℕ) → steps_ahead script s.daemon s.place ≡ step ∷ steps_ahead script s.daemon after → after ≤ length script → s.place < after → s.leaving ≡ None
      → is_refused_outside (event_of s.names step) ≡ true → coming_of old.lock.roll script s ≡ comings.Passes → DoesLine step after (refused refusals.NotBegun) s s' → EndsTurn b script old x old s s'
  passes s' step after is within further none passed comes moves = by (is_free none step (steps_ahead script s.daemon after) is)
    where
      said : Said
      said = record { line = step.line; event = event_of s.names step; answer = refused refusals.NotBegun; bytes = []; moves = [] }

      turn : DaemonTurn
      turn = record { lines = step ∷ []; said = said ∷ []; entries = []; number = t.way.at.number; phase = Phase.ready }

      behind : IsOver o [] x old.lock.roll.drawn old.lock.roll old.log
      behind = record {
        journal_is = sym (append-nil old.log.journal);
        unsaid = t.unsaid;
        daemons = sym (put_same old.lock.roll.daemons x there);
        drawn_is = refl;
        id = refl;
        unheld = found_none old.lock.roll.daemons s.daemon x t.free t.found;
      }

      names : ((s'.leaving ≡ None) × (s'.names ≡ names_after t.way.at.names turn.lines turn.said)) ⊎ (s'.leaving ≡ Some leaves.Memory)
      names = by_moves moves.names
        where
          by_moves : ((s'.leaving ≡ s.leaving) × (s'.names ≡ bound s.names step (refused refusals.NotBegun))) ⊎ (s'.leaving ≡ Some leaves.Memory)
              → ((s'.leaving ≡ None) × (s'.names ≡ names_after t.way.at.names turn.lines turn.said)) ⊎ (s'.leaving ≡ Some leaves.Memory)
          by_moves (inl both) = inl (both.0 ∙ none, both.1 ∙ ap (λ n. bound n step (refused refusals.NotBegun)) (t.way.names none))
          by_moves (inr memory) = inr memory

      look_no : (ticket : ℕ) → ticket_of (event_of s.names step) ≡ Some ticket → ⊥
      look_no ticket look = by_event (event_of s.names step) passed look
        where
          by_event : (event : Event) → is_refused_outside event ≡ true → ticket_of event ≡ Some ticket → ⊥
          by_event (events.Look other) passed look = true≢false (sym passed)
          by_event event passed look = absurd cc

      by : IsFree x t.way.at.phase (ticket_of (event_of s.names step)) → EndsTurn b script old x old s s'
      by (IsFree.awaits ticket at look waits) = absurd (look_no ticket look)
      by (IsFree.any at) =
          let kept =
          turned old [] x old.lock.roll.drawn behind (AddsAtMostOne.none refl) (omega arith) t.way.at (steps_ahead script s.daemon s.place) t.way.kept turn (steps_ahead script s.daemon s'.place) refl
          (is ∙ ap (λ p. step ∷ steps_ahead script s.daemon p) (sym moves.place))
          (IsTurn.passes said at refl passed refl refl refl refl)
          (record { line = refl; event = ap (λ n. event_of n step) (t.way.names none) }, tt) tt in
          let few = t.way.few in
          ends_turn old s' [] x old.lock.roll.drawn behind (AddsAtMostOne.none refl) (omega arith) (omega arith)
          (DoesComing.passes comes refl (let p = moves.place in omega (arith, p, further)) moves.drawn) moves.daemon
          (let d = moves.drawn in omega (arith, d)) (let d = moves.drawn in let below = t.drawn in omega (arith, d, below)) (let d = moves.drawn in omega (arith, d, few))
          (subst (λ p. p ≤ length script) (sym moves.place) within)
          (subst (λ c. MatchBool c (DaemonKeepsToScript (WasLookRefused b old.lock.roll.drawn old.log.journal) old.log.journal (steps_by s'.daemon script) (entries_by s'.daemon old.log.journal))
          (IsOnWay b script old.lock.roll old.log.journal x s')) (sym t.stays)
          (on_way old x s' t.way.at turn (let d = moves.drawn in omega (arith, d, few)) moves.daemon refl t.way.below kept names
          (drawn_on s.drawn s'.drawn (entries_by s.daemon old.log.journal) (steps_by s.daemon script) (steps_ahead script s.daemon s.place) (steps_ahead script s.daemon s'.place) t.way.may
          (fewer_lines script s.daemon s.place s'.place step after is moves.place s.drawn s'.drawn (let d = moves.drawn in omega (arith, d))))))

  -- it finds no memory for its line, and means to leave
  pub starves : (line : ℕ) → coming_of old.lock.roll script s ≡ comings.Comes s.daemon line → s.leaving ≡ None → EndsTurn b script old x old s (record s { leaving = Some leaves.Memory })
  starves line comes none =
      let few = t.way.few in
      ends_turn old (record s { leaving = Some leaves.Memory }) [] x old.lock.roll.drawn (record {
        journal_is = sym (append-nil old.log.journal);
        unsaid = t.unsaid;
        daemons = sym (put_same old.lock.roll.daemons x there);
        drawn_is = refl;
        id = refl;
        unheld = found_none old.lock.roll.daemons s.daemon x t.free t.found;
      }) (AddsAtMostOne.none refl) (omega arith) (omega arith) (DoesComing.starves line comes refl none refl) refl (omega arith) t.drawn (omega (arith, few)) t.within
      (subst (λ c. MatchBool c (DaemonKeepsToScript (WasLookRefused b old.lock.roll.drawn old.log.journal) old.log.journal (steps_by s.daemon script) (entries_by s.daemon old.log.journal))
      (IsOnWay b script old.lock.roll old.log.journal x (record s { leaving = Some leaves.Memory }))) (sym t.stays)
      (record { at = t.way.at; kept = t.way.kept; below = t.way.below; few = few; names = λ none. absurd cc; agrees = agrees t.way.at.phase t.way.agrees; means = tt; may = t.way.may }))
    where
      agrees : (p : Phase) → PhaseAgrees p x s.leaving → PhaseAgrees p x (Some leaves.Memory)
      agrees Phase.ready was = tt
      agrees (Phase.waiting ticket) was = was
      agrees (Phase.leaving leave) was = let no : None ≡ Some leave = sym none ∙ was in absurd cc
