-- What an event leaves of a ground that is ready for the roll of its lock.
use Rattle.std.proofs.Common.{◌≡◌, ◌≤◌, ◌<◌, ◌∙◌, ◌==◌, ◌+◌, ◌-◌, ℕ, List, Bool, true, false, true≢false, Option, None, Some, is_some, arith, map, nat_le, refl, sym, ap, subst}
use Rattle.std.proofs.lemmas.Bool.Decides.{nat_tests}
use Rattle.std.specs.Option.{option_map_or}
use Rattle.std.specs.Prelude.{if◌then◌else◌}
use Rattle.sdr_base.specs.declared.refusal.Reason.{Reason}
use Rattle.sdr_base.specs.declared.refusal.Reason.TheVariants as reasons
use Rattle.sdr_base.specs.Refusal.{refusal_number}
use Rattle.sdr_model.specs.Reading.{is_reading}
use Rattle.sdr_model.specs.declared.answer.Answer.{Answer}
use Rattle.sdr_model.specs.declared.answer.Answer.TheVariants as answers
use Rattle.sdr_model.specs.declared.answer.Close.TheVariants as closes
use Rattle.sdr_model.specs.declared.answer.Reply.{Reply}
use Rattle.sdr_model.specs.declared.answer.Reply.TheVariants as replies
use Rattle.sdr_base.specs.declared.refusal.Refusal.TheVariants as refusals
use Rattle.sdr_model.specs.declared.call.Call.{Call}
use Rattle.sdr_model.specs.declared.event.Event.{Event}
use Rattle.sdr_machine.specs.Closing.{close_of}
use Rattle.sdr_machine.specs.Crash.{is_kept}
use Rattle.sdr_machine.specs.Nesting.{cancelled, closing, comes_to, deepened, deepest, doomed_for, ended, nested, noted}
use Rattle.sdr_machine.specs.Roll.{Roll, at_nesting, daemon_of, first_roll, newcomer, put_daemon, served_number, with_daemon, with_drawn, with_number}
use Rattle.sdr_machine.specs.Served.{FitsNesting, HoldsServed, HoldsNumber, HoldsDrawn, HoldsWithin, HoldsNone, KeepsGroundReady, IsGroundReady, IsNumberDrawn}
use Rattle.sdr_machine.specs.Serving.{Locked, after_look}
use Rattle.sdr_machine.specs.declared.daemon.Daemon.{Daemon}
use Rattle.sdr_machine.specs.declared.daemon.Holding.{Holding}
use Rattle.sdr_machine.specs.declared.has_ground.HasGround.{Ghosts}
use Rattle.sdr_machine.specs.declared.nesting.Nesting.{Nesting}
use Rattle.sdr_machine.proofs.RollLemmas.{among, contrary, each_also, each_found, each_newcomer, each_put, found_put, least_put, least_stays, least_within, number_held, number_same, other_put, same_number}

-- where a daemon is put in its place, each is that one or was there before
pub by_daemon : (ds : List Daemon) (d x : Daemon) → among d.id ds ≡ Some x → (P : ℕ → Daemon → Type 0) → P d.id d
    → ((id : ℕ) (y : Daemon) → (d.id == id) ≡ false → among id ds ≡ Some y → P id y)
    → (id : ℕ) (y : Daemon) → among id (put_daemon ds d) ≡ Some y → P id y
by_daemon ds d x found P own others id y there = by (d.id == id) refl
  where
    by : (b : Bool) → (d.id == id) ≡ b → P id y
    by true e =
        let at : d.id ≡ id = same_number d.id id e in
        let s : Some d ≡ Some y = sym (found_put ds d x found) ∙ ap (λ n. among n (put_daemon ds d)) at ∙ there in
        let t : d ≡ y = cc in
        subst (λ n. P n y) at (subst (P d.id) t own)
    by false e = others id y e (sym (other_put ds d id e) ∙ there)

-- what isn't there is not some
none_some : {A R : Type 0} {o : Option A} {a : A} → o ≡ None → o ≡ Some a → R
none_some none some = absurd (true≢false (sym (ap is_some some) ∙ ap is_some none))

-- a number that is held is the one that was drawn
held_number : (h k : Holding) → Some h ≡ Some k → h.number ≡ k.number
held_number h k same = let s : h ≡ k = cc in ap (λ (z : Holding). z.number) s

wider : (drawn more : ℕ) → drawn ≤ more → (o : Option Holding) → HoldsWithin drawn o → HoldsWithin more o
wider drawn more le None w = tt
wider drawn more le (Some h) w = let m : h.number ≤ drawn = w.1 in (w.0, omega arith)

pub held_within : {r : Roll} {id : ℕ} {d : Daemon} {h : Holding} → HoldsDrawn r → HoldsNumber r id d h → (1 ≤ h.number) × (h.number ≤ r.drawn)
held_within {r = r} {id = id} {d = d} numbers held =
    subst (HoldsWithin r.drawn) held.holds (each_found (IsNumberDrawn r.drawn) r.daemons id d held.found numbers.within)

-- where a daemon is put in its place, each number that is held was drawn, if its own was, and no other daemon holds that
pub drawn_put : (r : Roll) (x d : Daemon) (drawn : ℕ) (failed : Option ℕ) → HoldsDrawn r → daemon_of r d.id ≡ Some x → r.drawn ≤ drawn → HoldsWithin drawn d.holds
    → ((other : ℕ) (y : Daemon) (h h' : Holding) → (d.id == other) ≡ false → d.holds ≡ Some h → HoldsNumber r other y h' → h.number ≡ h'.number → ⊥)
    → HoldsDrawn (record { daemons = put_daemon r.daemons d; drawn = drawn; failed = failed })
drawn_put r x d drawn failed numbers found more within apart = record {
  within =
      each_put (IsNumberDrawn drawn) r.daemons d
      (each_also (IsNumberDrawn r.drawn) (IsNumberDrawn drawn) (λ y w. wider r.drawn drawn more y.holds w) r.daemons numbers.within) within;
  apart = λ id other y z h h' one two same.
      by_daemon r.daemons d x found (λ n y. y.holds ≡ Some h → n ≡ other)
      (λ mine. by_daemon r.daemons d x found (λ n z. z.holds ≡ Some h' → d.id ≡ n) (λ _. refl)
      (λ n z e there holds. absurd (apart n z h h' e mine (record { found = there; holds = holds }) same)) other z two.found two.holds)
      (λ n y e there holds. by_daemon r.daemons d x found (λ m z. z.holds ≡ Some h' → n ≡ m)
      (λ mine. absurd (apart n y h' h e mine (record { found = there; holds = holds }) (sym same)))
      (λ m z f here held. numbers.apart n m y z h h' (record { found = there; holds = holds }) (record { found = here; holds = held }) same) other z two.found two.holds)
      id y one.found one.holds;
}

-- a daemon that hasn't come holds nothing
pub first_drawn : (ids : List ℕ) → HoldsDrawn (first_roll ids)
first_drawn ids = record {
  within = each_newcomer (IsNumberDrawn 0) (λ id. tt) ids;
  apart = λ id other d d' h h' held also same.
      none_some
      (each_found (λ (x : Daemon). x.holds ≡ None) (map newcomer ids) id d held.found (each_newcomer (λ (x : Daemon). x.holds ≡ None) (λ id. refl) ids))
      held.holds;
}

-- what a daemon holds that draws the next number
abbrev next_held : Roll → ℕ → Holding
next_held r depth = record { number = r.drawn + 1; nesting = nested depth }

-- it draws the next number
drawn_next : (r : Roll) (d : Daemon) (depth : ℕ) → HoldsDrawn r → HoldsNone r d → HoldsDrawn (with_number r d depth)
drawn_next r d depth numbers free =
    drawn_put r d (record d { holds = Some (next_held r depth) }) (r.drawn + 1) r.failed numbers free.found
    (omega arith) (omega arith, omega arith)
    (λ other y h h' apart is held same.
    let number : r.drawn + 1 ≡ h.number = held_number _ h is in
    let most : h'.number ≤ r.drawn = (held_within numbers held).1 in
    omega arith)

-- its transaction goes on
drawn_nested : (r : Roll) (d : Daemon) (h : Holding) (n : Nesting) → HoldsDrawn r → HoldsNumber r d.id d h → HoldsDrawn (with_daemon r (at_nesting d h n))
drawn_nested r d h n numbers held =
    drawn_put r d (at_nesting d h n) r.drawn r.failed numbers held.found (omega arith) (held_within numbers held)
    (λ other y k k' apart is its same.
    contrary (number_same d.id other (numbers.apart d.id other d y h k' held its (held_number _ k is ∙ same))) apart)

-- a number is drawn, and is done
drawn_done : (r : Roll) → HoldsDrawn r → HoldsDrawn (with_drawn r)
drawn_done r numbers = record {
  within = each_also (IsNumberDrawn r.drawn) (IsNumberDrawn (r.drawn + 1)) (λ y w. wider r.drawn (r.drawn + 1) (omega arith) y.holds w) r.daemons numbers.within;
  apart = λ id other d d' h h' one two same.
      numbers.apart id other d d' h h' (record { found = one.found; holds = one.holds }) (record { found = two.found; holds = two.holds }) same;
}

-- A transaction that is kept isn't doomed.
pub kept_undoomed : (n : Nesting) (event : Event) → is_kept (closing n event) ≡ true → n.doom ≡ None
kept_undoomed n event kept = by n.doom kept
  where
    by : (doom : Option Reason) → is_kept (option_map_or (λ reason. closes.Cancelled reason) doom (close_of event n.modified)) ≡ true → doom ≡ None
    by None kept = refl
    by (Some reason) kept = absurd (true≢false (sym kept))

-- a reply keeps the depth
pub noted_depth : (call : Call) (reply : Reply) (n : Nesting) → (noted call reply n).depth ≡ n.depth
noted_depth call (replies.Refused refusal) n = by (is_reading call)
  where
    by : (b : Bool) → (if b then n else doomed_for (reasons.Refused (refusal_number refusal)) n).depth ≡ n.depth
    by true = refl
    by false = refl
noted_depth call reply n = by (is_reading call)
  where
    by : (b : Bool) → (if b then n else record n { modified = true }).depth ≡ n.depth
    by true = refl
    by false = refl

-- a daemon that has looked holds no number
pub looked_free : (d : Daemon) (ticket : ℕ) (answer : Answer) → ((after_look d ticket answer).holds ≡ None) × ((after_look d ticket answer).id ≡ d.id)
looked_free d ticket answers.Awarded = (refl, refl)
looked_free d ticket answers.Stalled = (refl, refl)
looked_free d ticket answers.Waits = (refl, refl)
looked_free d ticket answer = (refl, refl)

module _ {T : Type 0} (g : Ghosts T) where
  -- one level deeper, or doomed
  pub fits_deepened : (n : Nesting) (t : T) → FitsNesting g n t → FitsNesting g (deepened n).after t
  fits_deepened n t fits = by (nat_le deepest n.depth) refl
    where
      by : (b : Bool) → nat_le deepest n.depth ≡ b
          → FitsNesting g (if b then record { answer = answers.Reply (replies.Refused refusals.TooDeep); after = doomed_for (reasons.Refused 23) n } else comes_to n (n.depth + 1)).after t
      by true deep = record { going = λ none. none_some none refl; idle = λ zero. fits.idle zero }
      by false above = record { going = fits.going; idle = λ zero. absurd (omega (arith, zero)) }

  -- one level less deep
  pub fits_risen : (n : Nesting) (depth : ℕ) (t : T) → 1 ≤ depth → FitsNesting g n t → FitsNesting g (record n { depth = depth }) t
  fits_risen n depth t some fits = record { going = fits.going; idle = λ zero. absurd (omega (arith, zero, some)) }

  -- cancelled
  pub fits_cancelled : (n : Nesting) (t : T) → 1 < n.depth → FitsNesting g (cancelled n).after t
  fits_cancelled n t deep = record { going = λ none. none_some none refl; idle = λ zero. absurd (omega (arith, zero, deep)) }

  -- a first begin, on an idle ground
  pub fits_begun : (t : T) → g.idle t → FitsNesting g (nested 1) t
  fits_begun t idle = record { going = λ none. g.idle_going t idle; idle = λ zero. absurd (omega (arith, zero)) }

  -- an idle ground is ready for any roll
  pub ready_idle : (r : Roll) (t : T) → HoldsDrawn r → g.idle t → IsGroundReady g r t
  ready_idle r t numbers idle =
      let going : g.going t = g.idle_going t idle in
      record {
        numbers = numbers;
        sound = g.going_sound t going;
        served = λ id d h held served. record { going = λ none. going; idle = λ zero. idle };
        free = λ none. idle;
      }

  -- a daemon draws a number
  ready_drawn : (r : Roll) (d : Daemon) (depth : ℕ) (t : T) → IsGroundReady g r t → HoldsNone r d → IsGroundReady g (with_number r d depth) t
  ready_drawn r d depth t ready free = by (served_number r == 0) refl
    where
      numbers : HoldsDrawn (with_number r d depth)
      numbers = drawn_next r d depth ready.numbers free

      most : served_number r ≤ r.drawn
      most = least_within r.daemons r.drawn ready.numbers.within

      by : (b : Bool) → (served_number r == 0) ≡ b → IsGroundReady g (with_number r d depth) t
      by true none = ready_idle (with_number r d depth) t numbers (ready.free (same_number (served_number r) 0 none))
      by false some =
          let one : 1 ≤ served_number r = grind (arith, nat_tests) in
          let stays : served_number (with_number r d depth) ≡ served_number r =
          least_stays r.daemons r.drawn (record d { holds = Some (next_held r depth) }) d (next_held r depth) ready.numbers.within free.found free.none refl (omega arith) one in
          record {
            numbers = numbers;
            sound = ready.sound;
            served = λ id y h held served.
                by_daemon r.daemons (record d { holds = Some (next_held r depth) }) d free.found (λ n z. z.holds ≡ Some h → FitsNesting g h.nesting t)
                (λ mine. let number : r.drawn + 1 ≡ h.number = held_number (next_held r depth) h mine in absurd (omega (arith, number, most, stays, served)))
                (λ n z apart there holds. ready.served n z h (record { found = there; holds = holds }) (sym stays ∙ served))
                id y held.found held.holds;
            free = λ zero. absurd (omega (arith, one, stays, zero));
          }

  -- the served transaction comes to a nesting that the ground fits
  ready_nested : (r : Roll) (d : Daemon) (h : Holding) (n : Nesting) (t t' : T) → IsGroundReady g r t → HoldsServed r d h → g.sound t' → FitsNesting g n t'
      → IsGroundReady g (with_daemon r (at_nesting d h n)) t'
  ready_nested r d h n t t' ready turn sound fits =
      let stays : served_number (with_daemon r (at_nesting d h n)) ≡ served_number r =
      least_put r.daemons (at_nesting d h n) d turn.held.found (sym (ap number_held turn.held.holds)) in
      let one : 1 ≤ h.number = (held_within ready.numbers turn.held).0 in
      record {
        numbers = drawn_nested r d h n ready.numbers turn.held;
        sound = sound;
        served = λ id y k held served.
            by_daemon r.daemons (at_nesting d h n) d turn.held.found (λ m z. z.holds ≡ Some k → FitsNesting g k.nesting t')
            (λ mine. let same : record h { nesting = n } ≡ k = cc in subst (λ (x : Holding). FitsNesting g x.nesting t') same fits)
            (λ m z apart there holds.
            contrary (number_same d.id m (ready.numbers.apart d.id m d z h k turn.held (record { found = there; holds = holds })
            (sym turn.served ∙ sym stays ∙ served))) apart)
            id y held.found held.holds;
        free = λ zero. absurd (omega (arith, one, stays, zero, turn.served));
      }

  -- a lock before any event
  pub lock_first : (ids : List ℕ) (t : T) → g.idle t → KeepsGroundReady g (first_roll ids) t
  lock_first ids t idle = λ sound. ready_idle (first_roll ids) t (first_drawn ids) idle

  -- where the disk has failed, nothing is asked
  pub lock_failed : (r : Roll) (t : T) (moment : ℕ) → r.failed ≡ Some moment → KeepsGroundReady g r t
  lock_failed r t moment failed = λ none. none_some none failed

  module _ (old self : Locked T) (view : old ≡ self) (lock : KeepsGroundReady g old.roll old.base) where
    -- the ground fits the served transaction
    pub turn_fits : (d : Daemon) (h : Holding) → self.roll.failed ≡ None → HoldsServed self.roll d h → g.sound old.base × FitsNesting g h.nesting old.base
    turn_fits d h none turn =
        let ready = lock (ap (λ (l : Locked T). l.roll.failed) view ∙ none) in
        let mine = subst (λ (l : Locked T). HoldsServed l.roll d h) (sym view) turn in
        (ready.sound, ready.served d.id d h mine.held mine.served)

    -- a daemon draws a number
    pub lock_drawn : (r : Roll) (d : Daemon) (depth : ℕ) → HoldsNone self.roll d → r ≡ with_number old.roll d depth → KeepsGroundReady g r old.base
    lock_drawn r d depth free is =
        subst (λ (r : Roll). KeepsGroundReady g r old.base) (sym is)
        (λ none. ready_drawn old.roll d depth old.base (lock none) (subst (λ (l : Locked T). HoldsNone l.roll d) (sym view) free))

    -- a number is drawn, and is done
    pub lock_counted : (r : Roll) → r ≡ with_drawn old.roll → KeepsGroundReady g r old.base
    lock_counted r is =
        subst (λ (r : Roll). KeepsGroundReady g r old.base) (sym is)
        (λ none. let ready = lock none in record {
          numbers = drawn_done old.roll ready.numbers;
          sound = ready.sound;
          served = λ id d h held served. ready.served id d h (record { found = held.found; holds = held.holds }) served;
          free = ready.free;
        })

    -- the served transaction comes to a nesting
    pub lock_nested : (d : Daemon) (h : Holding) (n : Nesting) (r : Roll) (t : T) → HoldsServed self.roll d h → r ≡ with_daemon old.roll (at_nesting d h n)
        → (g.sound old.base × FitsNesting g h.nesting old.base → g.sound t × FitsNesting g n t) → KeepsGroundReady g r t
    lock_nested d h n r t turn is comes =
        subst (λ (r : Roll). KeepsGroundReady g r t) (sym is)
        (λ none.
        let mine = subst (λ (l : Locked T). HoldsServed l.roll d h) (sym view) turn in
        let fit = comes (turn_fits d h (sym (ap (λ (l : Locked T). l.roll.failed) view) ∙ none) turn) in
        ready_nested old.roll d h n old.base t (lock none) mine fit.0 fit.1)

    -- a daemon holds no number any more, and the ground is idle
    pub lock_done : (x d : Daemon) (r : Roll) (t : T) → daemon_of self.roll d.id ≡ Some x → d.holds ≡ None → r ≡ with_daemon old.roll d
        → (self.roll.failed ≡ None → g.idle t) → KeepsGroundReady g r t
    lock_done x d r t found none is idle =
        subst (λ (r : Roll). KeepsGroundReady g r t) (sym is)
        (λ sound.
        ready_idle (with_daemon old.roll d) t
        (drawn_put old.roll x d old.roll.drawn old.roll.failed (lock sound).numbers
        (subst (λ (l : Locked T). daemon_of l.roll d.id ≡ Some x) (sym view) found) (omega arith)
        (subst (HoldsWithin old.roll.drawn) (sym none) tt) (λ other y h h' apart is held same. none_some none is))
        (idle (sym (ap (λ (l : Locked T). l.roll.failed) view) ∙ sound)))
