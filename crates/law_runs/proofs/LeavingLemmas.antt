-- At the end of a schedule every daemon leaves.
use Rattle.std.proofs.Common.{◌≡◌, ◌≤◌, ◌<◌, ◌∙◌, ◌==◌, ℕ, List, [], ◌∷◌, Bool, true, false, not, Option, None, Some, arith, refl, sym, ap, subst, cond, filter, find, map, min, nat_eq, nat_le, true≢false}
use Rattle.std.specs.List.{AllByRecursion, IsDistinct}
use Rattle.std.specs.Option.{option_map_or}
use Rattle.std.specs.Prelude.{All, if◌then◌else◌}
use Rattle.std.proofs.lemmas.List.Elements.{All-cons, All-nil}
use Rattle.std.proofs.lemmas.Bool.Decides.{nat_tests}
use Rattle.sdr_base.specs.Media.{Told}
use Rattle.sdr_model.specs.declared.event.Event.TheVariants as events
use Rattle.sdr_model.specs.declared.event.Leave.{Leave}
use Rattle.sdr_machine.specs.Core.{Core, CoreStep, RunsCore, first_core, has_left}
use Rattle.sdr_machine.specs.Ground.{State}
use Rattle.sdr_machine.specs.Leaving.{AllLeave, HoldersLeave, LeaveInTurn, holds_number, served_daemon, staying}
use Rattle.sdr_machine.specs.Legal.{last_entry}
use Rattle.sdr_machine.specs.Machine.{Comes, Machine, Made, MachineStep, roll_acting, roll_coming, roll_failed, roll_holding}
use Rattle.sdr_machine.specs.Roll.{Roll, after_leave, daemon_of, least_held, lesser_of, put_daemon, served_number, with_daemon, with_drawn, with_number}
use Rattle.sdr_machine.specs.declared.daemon.Daemon.{Daemon}
use Rattle.sdr_machine.specs.declared.daemon.Holding.{Holding}
use Rattle.sdr_machine.proofs.StepLemmas.{from_option, from_test}
use Rattle.law_runs.specs.LastEntries.{is_by_leave}
use Rattle.law_runs.proofs.CoreLemmas.{KeepsCore}
use Rattle.sdr_machine.proofs.RollLemmas.{among, contrary, each_also, each_found, each_put, found_number, found_put, number_same, other_put, same_number}
use Rattle.law_runs.proofs.RunLemmas.{core_step_keeps, run_keeps}
use Rattle.law_runs.proofs.StalledLemmas.{IsFound, each_found_itself}

-- no daemon holds a number
abbrev NoneHold : List Daemon → Type 0
NoneHold ds = AllByRecursion (λ (d : Daemon). d.holds ≡ None) ds

-- the least number is held by a daemon, or there is none
data LeastIs (ds : List Daemon) : Type 0 where
  free : least_held ds ≡ 0 → NoneHold ds → LeastIs ds
  held : (d : Daemon) → find (holds_number (least_held ds)) ds ≡ Some d → LeastIs ds

least_is : (ds : List Daemon) → LeastIs ds
least_is [] = LeastIs.free refl tt
least_is (x ∷ ds) = by x.holds refl (least_is ds)
  where
    mine : (h : Holding) → x.holds ≡ Some h → (n : ℕ) → h.number ≡ n → find (holds_number n) (x ∷ ds) ≡ Some x
    mine h holds n is =
        ap (λ b. cond b (Some x) (find (holds_number n) ds)) (ap (λ o. option_map_or (λ (k : Holding). k.number == n) o false) holds ∙ number_same h.number n is)

    skips : (n : ℕ) (d : Daemon) → holds_number n x ≡ false → find (holds_number n) ds ≡ Some d → find (holds_number n) (x ∷ ds) ≡ Some d
    skips n d not_mine found = ap (λ b. cond b (Some x) (find (holds_number n) ds)) not_mine ∙ found

    lesser : (h : Holding) → x.holds ≡ Some h → (n : ℕ) (b c : Bool) → (n == 0) ≡ b → nat_le h.number n ≡ c → (d : Daemon) → find (holds_number n) ds ≡ Some d
        → (y : Daemon) × (find (holds_number (if n == 0 then h.number else min h.number n)) (x ∷ ds) ≡ Some y)
    lesser h holds n true c zero e d found = (x, mine h holds _ (sym (ap (λ b. if b then h.number else min h.number n) zero)))
    lesser h holds n false true some e d found =
        let le : h.number ≤ n = grind (arith, nat_tests) in
        let least : min h.number n ≡ h.number = omega arith in
        (x, mine h holds _ (sym (ap (λ b. if b then h.number else min h.number n) some ∙ least)))
    lesser h holds n false false some e d found =
        let above : n < h.number = grind (arith, nat_tests) in
        let least : min h.number n ≡ n = omega arith in
        let other : (h.number == n) ≡ false = grind (arith, nat_tests) in (
          d,
          subst (λ k. find (holds_number k) (x ∷ ds) ≡ Some d) (sym (ap (λ b. if b then h.number else min h.number n) some ∙ least))
              (skips n d (ap (λ o. option_map_or (λ (k : Holding). k.number == n) o false) holds ∙ other) found),
        )

    by : (o : Option Holding) → x.holds ≡ o → LeastIs ds → LeastIs (x ∷ ds)
    by None none (LeastIs.free zero all) = LeastIs.free (ap (λ o. lesser_of o (least_held ds)) none ∙ zero) (none, all)
    by None none (LeastIs.held d found) =
        LeastIs.held d
        (subst (λ n. find (holds_number n) (x ∷ ds) ≡ Some d) (sym (ap (λ o. lesser_of o (least_held ds)) none))
        (skips (least_held ds) d (ap (λ o. option_map_or (λ (k : Holding). k.number == least_held ds) o false) none) found))
    by (Some h) some (LeastIs.free zero all) =
        LeastIs.held x (mine h some _ (sym (ap (λ o. lesser_of o (least_held ds)) some ∙ ap (λ n. if n == 0 then h.number else min h.number n) zero)))
    by (Some h) some (LeastIs.held d found) =
        let l : (y : Daemon) × (find (holds_number (if least_held ds == 0 then h.number else min h.number (least_held ds))) (x ∷ ds) ≡ Some y) =
        lesser h some (least_held ds) (least_held ds == 0) (nat_le h.number (least_held ds)) refl refl d found in
        LeastIs.held l.0 (subst (λ o. find (holds_number (lesser_of o (least_held ds))) (x ∷ ds) ≡ Some l.0) (sym some) l.1)

-- where no number is served, none is held
unserved_none : (r : Roll) → served_daemon r ≡ None → NoneHold r.daemons
unserved_none r none = by (least_is r.daemons)
  where
    by : LeastIs r.daemons → NoneHold r.daemons
    by (LeastIs.free zero all) = all
    by (LeastIs.held d found) = absurd cc

none_serves : (ds : List Daemon) → NoneHold ds → least_held ds ≡ 0
none_serves [] all = refl
none_serves (d ∷ ds) all = ap (λ o. lesser_of o (least_held ds)) all.0 ∙ none_serves ds all.1

-- a leave by which a daemon has left, or had before
data LeaveKind (r r' : Roll) (id : ℕ) : Type 0 where
  unknown : daemon_of r id ≡ None → r' ≡ r → LeaveKind r r' id
  before : has_left r id ≡ true → r' ≡ r → LeaveKind r r' id
  now : (d : Daemon) → daemon_of r id ≡ Some d → r'.daemons ≡ put_daemon r.daemons (after_leave d) → LeaveKind r r' id

module _ (m : Machine) (e : Made) (m' : Machine) (leave : Leave) (none : NoneHold m.roll.daemons) (is : e.said.event ≡ events.Leaves leave) where
  -- none is served
  unserved : (served_number m.roll == 0) ≡ true
  unserved = number_same (served_number m.roll) 0 (none_serves m.roll.daemons none)

  holds_none : (d : Daemon) → daemon_of m.roll e.daemon ≡ Some d → d.holds ≡ None
  holds_none d found = each_found (λ (x : Daemon). x.holds ≡ None) m.roll.daemons e.daemon d found none

  left_before : (d : Daemon) → daemon_of m.roll e.daemon ≡ Some d → d.left ≡ true → has_left m.roll e.daemon ≡ true
  left_before d found left = ap (λ o. option_map_or (λ (x : Daemon). x.left) o false) found ∙ left

  comes_leaving : (d : Daemon) → daemon_of m.roll e.daemon ≡ Some d → Comes m d (events.Leaves leave) e m' → LeaveKind m.roll m'.roll e.daemon
  comes_leaving d found comes =
      from_test (served_number m.roll == 0) comes (λ _ goes. LeaveKind.now d found (ap (λ (x : Machine). x.roll.daemons) goes.after)) (λ served _. contrary unserved served)

  failed_leaving : LeaveKind m.roll (roll_failed m.roll e.daemon (events.Leaves leave)) e.daemon
  failed_leaving = by (daemon_of m.roll e.daemon) refl
    where
      coming : (d : Daemon) → daemon_of m.roll e.daemon ≡ Some d → (b : Bool) → b ≡ true
          → LeaveKind m.roll (if b then with_daemon (with_drawn m.roll) (after_leave d) else with_number m.roll d 0) e.daemon
      coming d found true e = LeaveKind.now d found refl
      coming d found false e = contrary e refl

      acting : (d : Daemon) → daemon_of m.roll e.daemon ≡ Some d → (b : Bool) → d.left ≡ b → (o : Option Holding) → o ≡ None
          → LeaveKind m.roll (if b then m.roll else option_map_or (λ (h : Holding). roll_holding m.roll d h (events.Leaves leave)) o (roll_coming m.roll d (events.Leaves leave))) e.daemon
      acting d found true left o empty = LeaveKind.before (left_before d found left) refl
      acting d found false left None empty = coming d found (served_number m.roll == 0) unserved
      acting d found false left (Some h) empty = absurd cc

      by : (o : Option Daemon) → daemon_of m.roll e.daemon ≡ o → LeaveKind m.roll (option_map_or (λ (d : Daemon). roll_acting m.roll d (events.Leaves leave)) o m.roll) e.daemon
      by None missing = LeaveKind.unknown missing refl
      by (Some d) found = acting d found d.left refl d.holds (holds_none d found)

  leave_kind : MachineStep m e m' → LeaveKind m.roll m'.roll e.daemon
  leave_kind step =
      from_option m.roll.failed step
      (λ _ answered. from_option (daemon_of m.roll e.daemon) answered (λ missing goes. LeaveKind.unknown missing (ap (λ (x : Machine). x.roll) goes.after))
      (λ d found performs. from_test d.left performs (λ left goes. LeaveKind.before (left_before d found left) (ap (λ (x : Machine). x.roll) goes.after))
      (λ _ rest. from_option d.holds rest (λ _ comes. comes_leaving d found (subst (λ event. Comes m d event e m') is comes))
      (λ h holds _. absurd (let empty = holds_none d found in cc)))))
      (λ moment _ goes. subst (λ r. LeaveKind m.roll r e.daemon) (sym (ap (λ (x : Machine). x.roll) goes.after ∙ ap (roll_failed m.roll e.daemon) is)) failed_leaving)

-- what a leave keeps
kind_none : (r r' : Roll) (id : ℕ) → LeaveKind r r' id → NoneHold r.daemons → NoneHold r'.daemons
kind_none r r' id (LeaveKind.unknown missing same) none = subst (λ (x : Roll). NoneHold x.daemons) (sym same) none
kind_none r r' id (LeaveKind.before left same) none = subst (λ (x : Roll). NoneHold x.daemons) (sym same) none
kind_none r r' id (LeaveKind.now d found gone) none = subst NoneHold (sym gone) (each_put (λ (x : Daemon). x.holds ≡ None) r.daemons (after_leave d) none refl)

-- a daemon that has left is found in the roll
gone_found : (r : Roll) (d : Daemon) (id : ℕ) → daemon_of r id ≡ Some d → among d.id (put_daemon r.daemons (after_leave d)) ≡ Some (after_leave d)
gone_found r d id found = found_put r.daemons (after_leave d) d (ap (daemon_of r) (same_number d.id id (found_number r.daemons id d found)) ∙ found)

-- a daemon of the number has left, or one is there
abbrev left_among : List Daemon → ℕ → Bool
left_among ds id = option_map_or (λ (d : Daemon). d.left) (among id ds) false

kind_keeps : (r r' : Roll) (id other : ℕ) → LeaveKind r r' id → left_among r.daemons other ≡ true → left_among r'.daemons other ≡ true
kind_keeps r r' id other (LeaveKind.unknown missing same) left = ap (λ (x : Roll). left_among x.daemons other) same ∙ left
kind_keeps r r' id other (LeaveKind.before was same) left = ap (λ (x : Roll). left_among x.daemons other) same ∙ left
kind_keeps r r' id other (LeaveKind.now d found gone) left = ap (λ ds. left_among ds other) gone ∙ by (d.id == other) refl
  where
    by : (b : Bool) → (d.id == other) ≡ b → left_among (put_daemon r.daemons (after_leave d)) other ≡ true
    by true e =
        ap (left_among (put_daemon r.daemons (after_leave d))) (sym (same_number d.id other e)) ∙ ap (λ o. option_map_or (λ (x : Daemon). x.left) o false) (gone_found r d id found)
    by false e = ap (λ o. option_map_or (λ (x : Daemon). x.left) o false) (other_put r.daemons (after_leave d) other e) ∙ left

kind_found : (r r' : Roll) (id other : ℕ) → LeaveKind r r' id → IsFound r.daemons other → IsFound r'.daemons other
kind_found r r' id other (LeaveKind.unknown missing same) is = subst (λ (x : Roll). IsFound x.daemons other) (sym same) is
kind_found r r' id other (LeaveKind.before was same) is = subst (λ (x : Roll). IsFound x.daemons other) (sym same) is
kind_found r r' id other (LeaveKind.now d found gone) is = subst (λ ds. IsFound ds other) (sym gone) (by (d.id == other) refl)
  where
    by : (b : Bool) → (d.id == other) ≡ b → IsFound (put_daemon r.daemons (after_leave d)) other
    by true e = record { daemon = after_leave d; found = ap (λ n. among n (put_daemon r.daemons (after_leave d))) (sym (same_number d.id other e)) ∙ gone_found r d id found }
    by false e = record { daemon = is.daemon; found = other_put r.daemons (after_leave d) other e ∙ is.found }

-- the daemon that made it has left
kind_left : (r r' : Roll) (id : ℕ) → LeaveKind r r' id → IsFound r.daemons id → left_among r'.daemons id ≡ true
kind_left r r' id (LeaveKind.unknown missing same) is = absurd (let found = is.found in cc)
kind_left r r' id (LeaveKind.before was same) is = ap (λ (x : Roll). left_among x.daemons id) same ∙ was
kind_left r r' id (LeaveKind.now d found gone) is =
    ap (λ ds. left_among ds id) gone
    ∙ ap (left_among (put_daemon r.daemons (after_leave d))) (sym (same_number d.id id (found_number r.daemons id d found)))
    ∙ ap (λ o. option_map_or (λ (x : Daemon). x.left) o false) (gone_found r d id found)

-- what holds after some leaves
record AfterLeaves (told : Option Told) (daemons : List ℕ) (first : State) (ids : List ℕ) (c c' : Core) : Type 0 where
  keeps : KeepsCore told daemons first c'
  left : AllByRecursion (λ id. left_among c'.machine.roll.daemons id ≡ true) ids
  still : (other : ℕ) → left_among c.machine.roll.daemons other ≡ true → left_among c'.machine.roll.daemons other ≡ true

module _ (told : Option Told) (daemons : List ℕ) (first : State) (leave : Leave) where
  -- one leave
  one_leaves : (c : Core) (e : Made) (next : Core) → NoneHold c.machine.roll.daemons → e.said.event ≡ events.Leaves leave → CoreStep told c e next
      → LeaveKind c.machine.roll next.machine.roll e.daemon
  one_leaves c e next none is step =
      subst (λ (x : Core). LeaveKind c.machine.roll x.machine.roll e.daemon) (sym step.history) (leave_kind c.machine e step.next leave none is step.step)

  known_still : (r r' : Roll) (id : ℕ) → LeaveKind r r' id → (ids : List ℕ) → AllByRecursion (λ n. IsFound r.daemons n) ids → AllByRecursion (λ n. IsFound r'.daemons n) ids
  known_still r r' id kind [] known = tt
  known_still r r' id kind (n ∷ ids) known = (kind_found r r' id n kind known.0, known_still r r' id kind ids known.1)

  in_turn : (ids : List ℕ) (c : Core) (made : List Made) (c' : Core) → KeepsCore told daemons first c → NoneHold c.machine.roll.daemons
      → AllByRecursion (λ n. IsFound c.machine.roll.daemons n) ids → LeaveInTurn told leave ids c made c' → AfterLeaves told daemons first ids c c'
  in_turn [] c [] c' keeps none known same = record {
    keeps = subst (KeepsCore told daemons first) (sym same) keeps;
    left = tt;
    still = λ other left. ap (λ (x : Core). left_among x.machine.roll.daemons other) same ∙ left;
  }
  in_turn [] c (e ∷ made) c' keeps none known turn = absurd turn
  in_turn (id ∷ ids) c [] c' keeps none known turn = absurd turn
  in_turn (id ∷ ids) c (e ∷ made) c' keeps none known turn =
      let kind : LeaveKind c.machine.roll turn.next.machine.roll e.daemon = one_leaves c e turn.next none turn.leaves.event turn.leaves.step in
      let rest : AfterLeaves told daemons first ids turn.next c' =
      in_turn ids turn.next made c' (core_step_keeps told daemons first c e turn.next keeps turn.leaves.step).0
      (kind_none c.machine.roll turn.next.machine.roll e.daemon kind none)
      (known_still c.machine.roll turn.next.machine.roll e.daemon kind ids known.1) turn.rest in
      record {
        keeps = rest.keeps;
        left = (
          rest.still id (subst (λ n. left_among turn.next.machine.roll.daemons n ≡ true) turn.leaves.daemon_is
              (kind_left c.machine.roll turn.next.machine.roll e.daemon kind (subst (IsFound c.machine.roll.daemons) (sym turn.leaves.daemon_is) known.0))),
          rest.left,
        );
        still = λ other left. rest.still other (kind_keeps c.machine.roll turn.next.machine.roll e.daemon other kind left);
      }

  -- those who hold a number leave it
  holders_leave : (made : List Made) (c c' : Core) → KeepsCore told daemons first c → HoldersLeave told leave c made c'
      → KeepsCore told daemons first c' × (served_daemon c'.machine.roll ≡ None)
  holders_leave [] c c' keeps done =
      (subst (KeepsCore told daemons first) (sym done.0) keeps, ap (λ (x : Core). served_daemon x.machine.roll) done.0 ∙ done.1)
  holders_leave (e ∷ made) c c' keeps leaving =
      from_option (served_daemon c.machine.roll) leaving (λ _ nobody. absurd nobody)
      (λ d _ leaves. holders_leave made leaves.next c' (core_step_keeps told daemons first c e leaves.next keeps leaves.leaves.step).0 leaves.rest)

  -- those who stay are known, and the others have left
  staying_known : (all ds : List Daemon) → AllByRecursion (λ (d : Daemon). among d.id all ≡ Some d) ds
      → AllByRecursion (λ n. IsFound all n) (map (λ (d : Daemon). d.id) (filter (λ (d : Daemon). not d.left) ds))
  staying_known all [] found = tt
  staying_known all (d ∷ ds) found = by d.left (staying_known all ds found.1)
    where
      by : (b : Bool) → AllByRecursion (λ n. IsFound all n) (map (λ (d : Daemon). d.id) (filter (λ (d : Daemon). not d.left) ds))
          → AllByRecursion (λ n. IsFound all n) (map (λ (d : Daemon). d.id) (cond (not b) (d ∷ filter (λ (d : Daemon). not d.left) ds) (filter (λ (d : Daemon). not d.left) ds)))
      by true rest = rest
      by false rest = (record { daemon = d; found = found.0 }, rest)

  left_or_staying : (L : ℕ → Type 0) (ds : List Daemon) → AllByRecursion L (map (λ (d : Daemon). d.id) (filter (λ (d : Daemon). not d.left) ds))
      → AllByRecursion (λ (d : Daemon). d.left ≡ true → L d.id) ds → All L (map (λ (d : Daemon). d.id) ds)
  left_or_staying L [] staying gone = All-nil L
  left_or_staying L (d ∷ ds) staying gone = by d.left refl staying (λ rest. left_or_staying L ds rest gone.1)
    where
      by : (b : Bool) → d.left ≡ b
          → AllByRecursion L (map (λ (d : Daemon). d.id) (cond (not b) (d ∷ filter (λ (d : Daemon). not d.left) ds) (filter (λ (d : Daemon). not d.left) ds)))
          → (AllByRecursion L (map (λ (d : Daemon). d.id) (filter (λ (d : Daemon). not d.left) ds)) → All L (map (λ (d : Daemon). d.id) ds))
          → All L (d.id ∷ map (λ (d : Daemon). d.id) ds)
      by true left staying rest = All-cons L d.id (map (λ (d : Daemon). d.id) ds) (gone.0 left) (rest staying)
      by false stays staying rest = All-cons L d.id (map (λ (d : Daemon). d.id) ds) staying.0 (rest staying.1)

-- a daemon that has left has a leave as its last entry
left_last : (told : Option Told) (daemons : List ℕ) (first : State) (c : Core) (id : ℕ) → KeepsCore told daemons first c → has_left c.machine.roll id ≡ true
    → is_by_leave (last_entry c.log.journal id) ≡ true
left_last told daemons first c id keeps left = by (daemon_of c.machine.roll id) refl left
  where
    by : (o : Option Daemon) → daemon_of c.machine.roll id ≡ o → option_map_or (λ (d : Daemon). d.left) o false ≡ true → is_by_leave (last_entry c.log.journal id) ≡ true
    by None found left = absurd (true≢false (sym left))
    by (Some d) found left = sym (keeps.roll.agree id d found).left ∙ left

pub run_leaves : (told : Option Told) (daemons : List ℕ) (first : State) (made : List Made) (core : Core) → RunsCore told (first_core daemons first) made core
    → IsDistinct nat_eq daemons → (leave : Leave) (leaving : List Made) (last : Core) → AllLeave told leave core leaving last
    → All (λ id. (has_left last.machine.roll id ≡ true) × (is_by_leave (last_entry last.log.journal id) ≡ true)) daemons
run_leaves told daemons first made core runs distinct leave leaving last all =
    subst (All (λ id. (has_left last.machine.roll id ≡ true) × (is_by_leave (last_entry last.log.journal id) ≡ true))) held.0.roll.numbers
    (left_or_staying told daemons first leave (λ id. (has_left last.machine.roll id ≡ true) × (is_by_leave (last_entry last.log.journal id) ≡ true)) all.between.machine.roll.daemons
    (both (staying all.between.machine.roll) after.left)
    (each_also (λ (d : Daemon). among d.id all.between.machine.roll.daemons ≡ Some d)
    (λ (d : Daemon). d.left ≡ true → (has_left last.machine.roll d.id ≡ true) × (is_by_leave (last_entry last.log.journal d.id) ≡ true))
    (λ d found left. pair d.id (after.still d.id (ap (λ o. option_map_or (λ (x : Daemon). x.left) o false) found ∙ left))) all.between.machine.roll.daemons itself))
  where
    held : KeepsCore told daemons first all.between × (served_daemon all.between.machine.roll ≡ None)
    held = holders_leave told daemons first leave all.first core all.between (run_keeps told daemons first made core runs) all.holders

    itself : AllByRecursion (λ (d : Daemon). among d.id all.between.machine.roll.daemons ≡ Some d) all.between.machine.roll.daemons
    itself = each_found_itself all.between.machine.roll.daemons (subst (IsDistinct nat_eq) (sym held.0.roll.numbers) distinct)

    after : AfterLeaves told daemons first (staying all.between.machine.roll) all.between last
    after =
        in_turn told daemons first leave (staying all.between.machine.roll) all.between all.last last held.0 (unserved_none all.between.machine.roll held.1)
        (staying_known told daemons first leave all.between.machine.roll.daemons all.between.machine.roll.daemons itself) all.others

    pair : (id : ℕ) → has_left last.machine.roll id ≡ true → (has_left last.machine.roll id ≡ true) × (is_by_leave (last_entry last.log.journal id) ≡ true)
    pair id left = (left, left_last told daemons first last id after.keeps left)

    both : (ids : List ℕ) → AllByRecursion (λ id. left_among last.machine.roll.daemons id ≡ true) ids
        → AllByRecursion (λ id. (has_left last.machine.roll id ≡ true) × (is_by_leave (last_entry last.log.journal id) ≡ true)) ids
    both [] left = tt
    both (id ∷ ids) left = (pair id left.0, both ids left.1)
