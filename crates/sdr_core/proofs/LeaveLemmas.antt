-- What a leave does to the roll, and how many entries leaves may still add.
use Rattle.std.proofs.Common.{◌≡◌, ◌∙◌, ◌≤◌, ◌+◌, ◌*◌, ◌==◌, ◌&&◌, ◌||◌, ℕ, List, [], ◌∷◌, Bool, true, false, true≢false, not, cond, length, Option, None, Some, MatchOption, inl, inr, ◌⊎◌, refl, sym, ap, subst, arith}
use Rattle.std.specs.Option.{option_map_or}
use Rattle.std.specs.Prelude.{if◌then◌else◌}
use Rattle.sdr_base.specs.declared.refusal.Refusal.TheVariants as refusals
use Rattle.sdr_model.specs.declared.answer.Answer.{Answer}
use Rattle.sdr_model.specs.declared.answer.Answer.TheVariants as answers
use Rattle.sdr_model.specs.declared.answer.Close.{Close}
use Rattle.sdr_model.specs.declared.answer.Close.TheVariants as closes
use Rattle.sdr_model.specs.declared.answer.Reply.TheVariants as replies
use Rattle.sdr_model.specs.declared.event.Event.TheVariants as events
use Rattle.sdr_model.specs.declared.event.Leave.{Leave}
use Rattle.sdr_model.specs.declared.journal.What.{What}
use Rattle.sdr_model.specs.declared.journal.What.TheVariants as whats
use Rattle.sdr_machine.specs.Core.{Under, Work, all_said, closed_by, has_left, is_failed, is_passed_over, under, what_added, what_of}
use Rattle.sdr_machine.specs.Machine.{Closes, Comes, FaultsWithin, Goes, Holds, Machine, Made, MachineStep, roll_acting, roll_coming, roll_failed, roll_holding, with_roll}
use Rattle.sdr_machine.specs.Roll.{Roll, when_done, after_leave, daemon_of, put_daemon, served_number, with_daemon, with_drawn, with_number}
use Rattle.sdr_machine.specs.Nesting.{nested}
use Rattle.sdr_machine.specs.Transaction.{refused}
use Rattle.sdr_machine.specs.declared.daemon.Daemon.{Daemon}
use Rattle.sdr_machine.specs.declared.daemon.Holding.{Holding}
use Rattle.sdr_machine.proofs.StepLemmas.{Kind, from_option, from_test, step_is}
use Rattle.sdr_machine.proofs.RollLemmas.{among, found_number, found_put, put_here, put_later, same_number}
use Rattle.sdr_core.specs.Logging.{PassesUnlessClosing, entries_of, leaves_ahead, leaves_of}

-- how many may still be added where a daemon is put in its place
pub ahead_put : (ds : List Daemon) (d x : Daemon) → among d.id ds ≡ Some x → leaves_ahead (put_daemon ds d) + leaves_of x ≡ leaves_ahead ds + leaves_of d
ahead_put [] d x found = absurd cc
ahead_put (y ∷ ds) d x found = by (y.id == d.id) refl found (ahead_put ds d x)
  where
    by : (b : Bool) → (y.id == d.id) ≡ b → cond b (Some y) (among d.id ds) ≡ Some x
        → (among d.id ds ≡ Some x → leaves_ahead (put_daemon ds d) + leaves_of x ≡ leaves_ahead ds + leaves_of d)
        → leaves_ahead (put_daemon (y ∷ ds) d) + leaves_of x ≡ leaves_of y + leaves_ahead ds + leaves_of d
    by true e found rest =
        let s : y ≡ x = cc in
        let n = ap leaves_of s in
        let put = ap leaves_ahead (put_here y ds d e) in
        omega (arith, n, put)
    by false e found rest =
        let more = rest found in
        let put = ap leaves_ahead (put_later y ds d e) in
        omega (arith, more, put)

-- it is at most two a daemon
leaves_most : (d : Daemon) → leaves_of d ≤ 2
leaves_most d = by d.left d.holds
  where
    held : (o : Option Holding) → option_map_or (λ (h : Holding). if h.nesting.depth == 0 then 1 else 2) o 1 ≤ 2
    held None = omega arith
    held (Some h) = inside (h.nesting.depth == 0)
      where
        inside : (b : Bool) → (if b then 1 else 2) ≤ 2
        inside true = omega arith
        inside false = omega arith

    by : (b : Bool) (o : Option Holding) → (if b then 0 else option_map_or (λ (h : Holding). if h.nesting.depth == 0 then 1 else 2) o 1) ≤ 2
    by true o = omega arith
    by false o = held o

pub ahead_most : (ds : List Daemon) → leaves_ahead ds ≤ 2 * length ds
ahead_most [] = omega arith
ahead_most (d ∷ ds) = let one = leaves_most d in let rest = ahead_most ds in omega arith

-- a daemon that hasn't left, and is in a transaction or not
leaves_staying : (d : Daemon) → d.left ≡ false → 1 ≤ leaves_of d
leaves_staying d stays = subst (λ b. 1 ≤ (if b then 0 else option_map_or (λ (h : Holding). if h.nesting.depth == 0 then 1 else 2) d.holds 1)) (sym stays) (held d.holds)
  where
    inside : (b : Bool) → 1 ≤ (if b then 1 else 2)
    inside true = omega arith
    inside false = omega arith

    held : (o : Option Holding) → 1 ≤ option_map_or (λ (h : Holding). if h.nesting.depth == 0 then 1 else 2) o 1
    held None = omega arith
    held (Some h) = inside (h.nesting.depth == 0)

leaves_inside : (d : Daemon) (h : Holding) → d.left ≡ false → d.holds ≡ Some h → (h.nesting.depth == 0) ≡ false → leaves_of d ≡ 2
leaves_inside d h stays holds inside =
    ap (λ b. if b then 0 else option_map_or (λ (h : Holding). if h.nesting.depth == 0 then 1 else 2) d.holds 1) stays
    ∙ ap (λ o. option_map_or (λ (h : Holding). if h.nesting.depth == 0 then 1 else 2) o 1) holds ∙ ap (λ b. if b then 1 else 2) inside

leaves_free : (d : Daemon) → d.left ≡ false → d.holds ≡ None → leaves_of d ≡ 1
leaves_free d stays none =
    ap (λ b. if b then 0 else option_map_or (λ (h : Holding). if h.nesting.depth == 0 then 1 else 2) d.holds 1) stays
    ∙ ap (λ o. option_map_or (λ (h : Holding). if h.nesting.depth == 0 then 1 else 2) o 1) none

-- the daemon is put in its own place
put_same : (ds : List Daemon) (d : Daemon) → among d.id ds ≡ Some d → put_daemon ds d ≡ ds
put_same [] d found = refl
put_same (y ∷ ds) d found = by (y.id == d.id) refl found (put_same ds d)
  where
    by : (b : Bool) → (y.id == d.id) ≡ b → cond b (Some y) (among d.id ds) ≡ Some d → (among d.id ds ≡ Some d → put_daemon ds d ≡ ds) → put_daemon (y ∷ ds) d ≡ y ∷ ds
    by true e found rest = let s : d ≡ y = cc in put_here y ds d e ∙ ap (λ z. z ∷ ds) s
    by false e found rest = put_later y ds d e ∙ ap (λ xs. y ∷ xs) (rest found)

-- where the daemon was served, it holds no number then
abbrev pub LetsGo : Machine → Daemon → Daemon → Type 0
LetsGo m d after = (h : Holding) → d.left ≡ false → d.holds ≡ Some h → (served_number m.roll == h.number) ≡ true → after.holds ≡ None

-- What a leave of a daemon does: it closes the transaction, or stands in none.
pub record LeaveIs (m : Machine) (e : Made) (m' : Machine) (d : Daemon) : Type 0 where
  pub after : Daemon
  pub id : after.id ≡ d.id
  pub roll : m'.roll.daemons ≡ put_daemon m.roll.daemons after
  pub less : leaves_of after ≤ leaves_of d
  pub closes : (close : Close) → closed_by e.said.answer ≡ Some close
      → (m.roll.failed ≡ None) × (h : Holding) × (d.holds ≡ Some h) × ((h.nesting.depth == 0) ≡ false) × (leaves_of after + 1 ≤ leaves_of d)
  pub outside : PassesUnlessClosing e.said.event e.said.answer
  pub lets_go : LetsGo m d after

or_true : (b : Bool) → (b || true) ≡ true
or_true true = refl
or_true false = refl

-- a leave is answered with no call
pub leave_quiet : (m : Machine) (e : Made) (m' : Machine) (leave : Leave) → e.said.event ≡ events.Leaves leave → MachineStep m e m'
    → (e.said.moves ≡ []) × (e.said.bytes ≡ [])
leave_quiet m e m' leave is step = by (step_is m e m' step).kind
  where
    by : Kind m e m' → (e.said.moves ≡ []) × (e.said.bytes ≡ [])
    by (Kind.stays quiet before now) = (quiet.moves, quiet.bytes)
    by (Kind.called called) = let no : events.Leaves leave ≡ events.Say called.call = sym is ∙ called.event in absurd cc
    by (Kind.closed close quiet before now) = (quiet.moves, quiet.bytes)
    by (Kind.failed quiet heap before now) = (quiet.moves, quiet.bytes)

module _ (m : Machine) (e : Made) (m' : Machine) (leave : Leave) (is : e.said.event ≡ events.Leaves leave) {d : Daemon} (found : daemon_of m.roll e.daemon ≡ Some d) where
  here : among d.id m.roll.daemons ≡ Some d
  here = ap (λ n. among n m.roll.daemons) (same_number d.id e.daemon (found_number m.roll.daemons e.daemon d found)) ∙ found

  -- a leave that stands in no transaction
  passed : (after : Daemon) (answer : Answer) → e.said.answer ≡ answer → after.id ≡ d.id → m'.roll.daemons ≡ put_daemon m.roll.daemons after
      → leaves_of after ≤ leaves_of d → closed_by answer ≡ None → (is_passed_over (events.Leaves leave) answer || is_failed answer) ≡ true → LetsGo m d after → LeaveIs m e m' d
  passed after answer told id roll less unclosed outside go = record {
    after = after;
    id = id;
    roll = roll;
    less = less;
    closes = λ close some. let no : None ≡ Some close = sym unclosed ∙ sym (ap closed_by told) ∙ some in absurd cc;
    outside = λ _. (λ i. is_passed_over (is i) (told i) || is_failed (told i)) ∙ outside;
    lets_go = go;
  }

  still : (answer : Answer) → e.said.answer ≡ answer → m'.roll.daemons ≡ m.roll.daemons → closed_by answer ≡ None
      → (is_passed_over (events.Leaves leave) answer || is_failed answer) ≡ true → LetsGo m d d → LeaveIs m e m' d
  still answer told roll unclosed outside go =
      passed d answer told refl (roll ∙ sym (put_same m.roll.daemons d here)) (omega arith) unclosed outside go

  -- one without a number is not served
  unheld : (after : Daemon) → d.holds ≡ None → LetsGo m d after
  unheld after none = λ h _ some _. let no : None ≡ Some h = sym none ∙ some in absurd cc

  unserved : {h : Holding} → d.holds ≡ Some h → (served_number m.roll == h.number) ≡ false → LetsGo m d d
  unserved {h = h} holds other = λ k _ some served.
      let one : Some h ≡ Some k = sym holds ∙ some in
      let same : h ≡ k = cc in
      absurd (true≢false (sym served ∙ sym (ap (λ (z : Holding). served_number m.roll == z.number) same) ∙ other))

  -- it draws a number
  abbrev drawn : Daemon
  drawn = record d { holds = Some (record { number = m.roll.drawn + 1; nesting = nested 0 }) }

  drawn_less : d.left ≡ false → leaves_of drawn ≤ leaves_of d
  drawn_less stays = let one = leaves_staying d stays in subst (λ b. (if b then 0 else 1) ≤ leaves_of d) (sym stays) one

  entered_less : d.left ≡ false → leaves_of (when_done d) ≡ 1
  entered_less stays = ap (λ b. if b then 0 else 1) stays

  ended : {h : Holding} → d.left ≡ false → d.holds ≡ Some h → (h.nesting.depth == 0) ≡ false → m.roll.failed ≡ None
      → Closes m d h e m' ⊎ FaultsWithin m d h (events.Leaves leave) e m' → LeaveIs m e m' d
  ended {h = h} stays holds inside sound ends = by ends
    where
      two : leaves_of d ≡ 2
      two = leaves_inside d h stays holds inside

      one : leaves_of (when_done d) ≡ 1
      one = entered_less stays

      closed : m'.roll.daemons ≡ put_daemon m.roll.daemons (when_done d) → (closed_by e.said.answer ≡ None → ⊥) → LeaveIs m e m' d
      closed roll never = record {
        after = when_done d;
        id = refl;
        roll = roll;
        less = omega (arith, one, two);
        closes = λ close some. (sound, h, holds, inside, omega (arith, one, two));
        outside = λ none. absurd (never none);
        lets_go = λ _ _ _ _. refl;
      }

      by : Closes m d h e m' ⊎ FaultsWithin m d h (events.Leaves leave) e m' → LeaveIs m e m' d
      by (inl c) = closed (ap (λ (n : Machine). n.roll.daemons) c.after)
          (λ none. let no : None ≡ Some c.close = sym none ∙ ap closed_by c.closes.told.answer in absurd cc)
      by (inr f) = closed (ap (λ (n : Machine). n.roll.daemons) f.faults.after)
          (λ none. let no : None ≡ Some closes.Faulted = sym none ∙ ap closed_by f.faults.told.answer in absurd cc)

  performs : m.roll.failed ≡ None → d.left ≡ false → (o : Option Holding) → d.holds ≡ o
      → MatchOption o (Comes m d (events.Leaves leave) e m') (λ h. Holds m d h (events.Leaves leave) e m') → LeaveIs m e m' d
  performs sound stays None none comes =
      from_test (served_number m.roll == 0) comes
      (λ _ goes. passed (after_leave d) (answers.Reply replies.Done) goes.told.answer refl (ap (λ (n : Machine). n.roll.daemons) goes.after) (omega arith) refl refl (λ _ _ _ _. refl))
      (λ _ goes. passed drawn (refused (refusals.Suspended (served_number m.roll) (m.roll.drawn + 1))) goes.told.answer refl (ap (λ (n : Machine). n.roll.daemons) goes.after)
      (drawn_less stays) refl refl (unheld drawn none))
  performs sound stays (Some h) holds holding =
      from_test (served_number m.roll == h.number) holding
      (λ _ departs. from_test (h.nesting.depth == 0) departs
      (λ _ goes. passed (after_leave d) (answers.Reply replies.Done) goes.told.answer refl (ap (λ (n : Machine). n.roll.daemons) goes.after) (omega arith) refl refl (λ _ _ _ _. refl))
      (λ inside ends. ended stays holds inside sound ends))
      (λ other goes. still (refused (refusals.Suspended (served_number m.roll) h.number)) goes.told.answer (ap (λ (n : Machine). n.roll.daemons) goes.after) refl refl
      (unserved holds other))

  -- one that has left is not asked
  gone_free : d.left ≡ true → LetsGo m d d
  gone_free gone = λ _ stays _ _. absurd (true≢false (sym gone ∙ stays))

  -- a leave where the disk had failed
  failed : (moment : ℕ) → Goes e m' (answers.Reply (replies.Failed moment)) (with_roll m (roll_failed m.roll e.daemon e.said.event)) → LeaveIs m e m' d
  failed moment goes = by d.left refl (ap (λ (n : Machine). n.roll.daemons) goes.after ∙ ap (λ (r : Roll). r.daemons) rolled)
    where
      rolled : roll_failed m.roll e.daemon e.said.event ≡ roll_acting m.roll d (events.Leaves leave)
      rolled = ap (λ o. option_map_or (λ (x : Daemon). roll_acting m.roll x e.said.event) o m.roll) found ∙ ap (roll_acting m.roll d) is

      told : e.said.answer ≡ answers.Reply (replies.Failed moment)
      told = goes.told.answer

      quiet : (is_passed_over (events.Leaves leave) (answers.Reply (replies.Failed moment)) || true) ≡ true
      quiet = or_true (is_passed_over (events.Leaves leave) (answers.Reply (replies.Failed moment)))

      left : m'.roll.daemons ≡ put_daemon m.roll.daemons (after_leave d) → LeaveIs m e m' d
      left roll = passed (after_leave d) (answers.Reply (replies.Failed moment)) told refl roll (omega arith) refl quiet (λ _ _ _ _. refl)

      coming : d.left ≡ false → d.holds ≡ None → (b : Bool)
          → m'.roll.daemons ≡ (if b then with_daemon (with_drawn m.roll) (after_leave d) else with_number m.roll d 0).daemons → LeaveIs m e m' d
      coming stays none true roll = left roll
      coming stays none false roll = passed drawn (answers.Reply (replies.Failed moment)) told refl roll (drawn_less stays) refl quiet (unheld drawn none)

      holding : {h : Holding} → d.holds ≡ Some h → (b : Bool) → (served_number m.roll == h.number) ≡ b
          → m'.roll.daemons ≡ (if b then with_daemon m.roll (after_leave d) else m.roll).daemons → LeaveIs m e m' d
      holding holds true served roll = left roll
      holding holds false other roll = still (answers.Reply (replies.Failed moment)) told roll refl quiet (unserved holds other)

      of : (o : Option Holding) → d.holds ≡ o → d.left ≡ false
          → m'.roll.daemons ≡ (option_map_or (λ (h : Holding). roll_holding m.roll d h (events.Leaves leave)) o (roll_coming m.roll d (events.Leaves leave))).daemons → LeaveIs m e m' d
      of None none stays roll = coming stays none (served_number m.roll == 0) roll
      of (Some h) holds stays roll = holding holds (served_number m.roll == h.number) refl roll

      by : (b : Bool) → d.left ≡ b
          → m'.roll.daemons ≡ (if b then m.roll else option_map_or (λ (h : Holding). roll_holding m.roll d h (events.Leaves leave)) d.holds (roll_coming m.roll d (events.Leaves leave))).daemons
          → LeaveIs m e m' d
      by true gone roll = still (answers.Reply (replies.Failed moment)) told roll refl quiet (gone_free gone)
      by false stays roll = of d.holds refl stays roll

  pub leave_is : MachineStep m e m' → LeaveIs m e m' d
  leave_is step =
      from_option m.roll.failed step
      (λ sound answered. from_option (daemon_of m.roll e.daemon) answered
      (λ none _. let no : None ≡ Some d = sym none ∙ found in absurd cc)
      (λ x there acts.
      let one : Some x ≡ Some d = sym there ∙ found in
      let same : x ≡ d = cc in
      from_test x.left acts
      (λ gone goes. still (refused refusals.NotBegun) goes.told.answer (ap (λ (n : Machine). n.roll.daemons) goes.after) refl refl
      (gone_free (ap (λ (y : Daemon). y.left) (sym same) ∙ gone)))
      (λ stays rest. performs sound (ap (λ (y : Daemon). y.left) (sym same) ∙ stays) d.holds refl
      (subst (λ ev. MatchOption d.holds (Comes m d ev e m') (λ h. Holds m d h ev e m')) is
      (subst (λ (y : Daemon). MatchOption y.holds (Comes m y e.said.event e m') (λ h. Holds m y h e.said.event e m')) same rest)))))
      (λ moment _ goes. failed moment goes)

-- how many entries a leave adds, and how many may then still be added
pub leave_entries : (m : Machine) (e : Made) (m' : Machine) (leave : Leave) (d : Daemon) (works : List Work) → e.said.event ≡ events.Leaves leave
    → daemon_of m.roll e.daemon ≡ Some d → LeaveIs m e m' d
    → entries_of (what_of (under m.roll d m'.roll e.said.event) works e) + leaves_ahead m'.roll.daemons ≤ leaves_ahead m.roll.daemons
leave_entries m e m' leave d works is found l = by (closed_by e.said.answer) refl
  where
    u : Under
    u = under m.roll d m'.roll e.said.event

    there : among l.after.id m.roll.daemons ≡ Some d
    there =
        ap (λ n. among n m.roll.daemons) (l.id ∙ same_number d.id e.daemon (found_number m.roll.daemons e.daemon d found)) ∙ found

    ahead : leaves_ahead m'.roll.daemons + leaves_of d ≡ leaves_ahead m.roll.daemons + leaves_of l.after
    ahead = ap (λ ds. leaves_ahead ds + leaves_of d) l.roll ∙ ahead_put m.roll.daemons l.after d there

    Fits : Option What → Type 0
    Fits o = entries_of o + leaves_ahead m'.roll.daemons ≤ leaves_ahead m.roll.daemons

    left_is : has_left m'.roll d.id ≡ l.after.left
    left_is =
        ap (λ ds. option_map_or (λ (x : Daemon). x.left) (among d.id ds) false) l.roll
        ∙ ap (λ n. option_map_or (λ (x : Daemon). x.left) (among n (put_daemon m.roll.daemons l.after)) false) (sym l.id)
        ∙ ap (λ o. option_map_or (λ (x : Daemon). x.left) o false) (found_put m.roll.daemons l.after d there)

    left : (a b : Bool) → l.after.left ≡ a → d.left ≡ b → Fits (if a && not b then Some (whats.Leaves leave) else None)
    left true true is_left was = let less = l.less in omega (arith, ahead)
    left false b is_left was = let less = l.less in omega (arith, ahead)
    left true false is_left was =
        let none = ap {B = ℕ} (λ b. if b then 0 else option_map_or (λ (h : Holding). if h.nesting.depth == 0 then 1 else 2) l.after.holds 1) is_left in
        let one = leaves_staying d was in
        omega (arith, ahead, none)

    by : (o : Option Close) → closed_by e.said.answer ≡ o
        → Fits (option_map_or (λ (close : Close). Some (whats.Work (all_said works e.daemon e.said) close)) o (what_added u e.said.event e.said.answer))
    by (Some close) closed = let c = l.closes close closed in let less = c.4 in omega (arith, ahead)
    by None unclosed =
        subst (λ ev. Fits (what_added u ev e.said.answer)) (sym is)
        (subst (λ b. Fits (if b && not d.left then Some (whats.Leaves leave) else None)) (sym left_is) (left l.after.left d.left refl refl))

-- an event of no daemon of the machine's leaves the roll
pub unknown_same : (m : Machine) (e : Made) (m' : Machine) → daemon_of m.roll e.daemon ≡ None → MachineStep m e m' → m'.roll.daemons ≡ m.roll.daemons
unknown_same m e m' none step =
    from_option m.roll.failed step
    (λ _ answered. from_option (daemon_of m.roll e.daemon) answered (λ _ goes. ap (λ (n : Machine). n.roll.daemons) goes.after)
    (λ d some _. let no : None ≡ Some d = sym none ∙ some in absurd cc))
    (λ moment _ goes. ap (λ (n : Machine). n.roll.daemons) goes.after
    ∙ ap (λ o. (option_map_or (λ (x : Daemon). roll_acting m.roll x e.said.event) o m.roll).daemons) none)
