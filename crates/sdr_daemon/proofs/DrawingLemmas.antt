-- What the daemon at a place does while it holds a lock that is taken by number.
use Rattle.std.proofs.Common.{◌≡◌, ◌∙◌, ◌<◌, ◌≤◌, ◌+◌, ◌-◌, ◌&&◌, ℕ, suc, zero, List, [], ◌∷◌, ◌++◌, true, true≢false, false, Option, None, Some, inl, inr, arith, refl, sym, ap, subst, append-nil, length-set}
use Rattle.std.proofs.lemmas.List.{get_or-set_same, get_or_default, set-get_or, set-set}
use Rattle.std.specs.Prelude.{if◌then◌else◌, is_none, is_some, length, slice_index_or, slice_set}
use Rattle.sdr_core.proofs.NumberLemmas.{run_counted}
use Rattle.sdr_core.specs.CoreKept.{KeepsRun, LoggedLock, RunStart, core_at}
use Rattle.sdr_core.specs.Numbers.{numbers_done}
use Rattle.sdr_machine.proofs.RollLemmas.{found_number, same_number}
use Rattle.sdr_machine.specs.Core.{has_left}
use Rattle.sdr_machine.specs.Holders.{hold_none, holders}
use Rattle.sdr_machine.specs.declared.daemon.Daemon.{Daemon}
use Rattle.sdr_machine.specs.declared.daemon.Holding.{Holding}
use Rattle.sdr_machine.specs.declared.has_ground.HasGround.{Ghosts}
use Rattle.sdr_model.specs.declared.event.Leave.TheVariants as leaves
use Rattle.sdr_model.specs.declared.journal.Entry.{Entry}
use Rattle.sdr_model.specs.declared.script.ScriptStep.{ScriptStep}
use Rattle.sdr_turn.specs.Entries.{MayAdd}
use Rattle.sdr_daemon.proofs.NextLemmas.{coming_there, gone_is, leaves_meant, over_is}
use Rattle.sdr_daemon.proofs.PlaceLemmas.{place_is}
use Rattle.sdr_daemon.proofs.RunLemmas.{at_place}
use Rattle.sdr_daemon.specs.Coming.{coming_at, is_over}
use Rattle.sdr_daemon.specs.Drawing.{DrawsAt, GoesOnAt, place_of}
use Rattle.sdr_daemon.specs.Progressing.{IsScriptedRun, ScriptedCore, first_progress}
use Rattle.sdr_daemon.specs.TakingTurns.{AddsAtMostOne, DoesComing, TurnsAt, is_gone}
use Rattle.sdr_daemon.specs.TurnEvents.{before_of}
use Rattle.sdr_daemon.specs.declared.coming.Coming.TheVariants as comings
use Rattle.sdr_daemon.specs.declared.coming.Coming.{Coming}
use Rattle.sdr_daemon.specs.declared.script_place.ScriptPlace.{ScriptPlace}

none_held : (ds : List Daemon) → hold_none ds ≡ true → holders ds ≡ 0
none_held [] none = refl
none_held (d ∷ ds) none = by d.holds none (none_held ds)
  where
    by : (o : Option Holding) → (is_none o && hold_none ds) ≡ true → (hold_none ds ≡ true → holders ds ≡ 0) → (if is_some o then holders ds + 1 else holders ds) ≡ 0
    by None none rest = rest none
    by (Some h) none rest = absurd (true≢false (sym none))

-- where no number is held, all that were drawn are done
pub all_done : {T : Type 0} (g : Ghosts T) (b : RunStart) (k : LoggedLock T) → KeepsRun g b k → hold_none k.lock.roll.daemons ≡ true → numbers_done k.lock.roll ≡ k.lock.roll.drawn
all_done g b k run free =
    let counted : numbers_done k.lock.roll + holders k.lock.roll.daemons ≡ k.lock.roll.drawn = run_counted b.told b.daemons b.first run.made (core_at k run.for) run.runs in
    let none = none_held k.lock.roll.daemons free in
    omega (arith, counted, none)

read_again : (these : List ScriptPlace) (place : ℕ) (d : ScriptPlace) → slice_index_or these place (slice_index_or these place d) ≡ slice_index_or these place d
read_again [] place d = refl
read_again (s ∷ these) zero d = refl
read_again (s ∷ these) (suc place) d = read_again these place d

-- it has gone on by nothing
pub goes_on_none : (place : ℕ) (these : List ScriptPlace) → GoesOnAt 0 place these these
goes_on_none place these =
    let own = slice_index_or these place (first_progress 0) in
    let again : slice_index_or these place own ≡ own = read_again these place (first_progress 0) in
    let same : own.drawn ≡ (slice_index_or these place own).drawn = ap (λ (s : ScriptPlace). s.drawn) (sym again) in
    record {
      own = own;
      is = sym (set-get_or these place (first_progress 0));
      daemon = ap (λ (s : ScriptPlace). s.daemon) (sym again);
      counted = omega (arith, same);
    }

both_go : (these : List ScriptPlace) (place m n : ℕ) (one two : ScriptPlace) → one.daemon ≡ (slice_index_or these place one).daemon → one.drawn ≡ (slice_index_or these place one).drawn + m
    → two.daemon ≡ (slice_index_or (slice_set these place one) place two).daemon → two.drawn ≡ (slice_index_or (slice_set these place one) place two).drawn + n
    → (two.daemon ≡ (slice_index_or these place two).daemon) × (two.drawn ≡ (slice_index_or these place two).drawn + (m + n))
both_go [] place m n one two same counted again more = (refl, omega (arith, counted, more))
both_go (s ∷ these) zero m n one two same counted again more = (again ∙ same, omega (arith, counted, more))
both_go (s ∷ these) (suc place) m n one two same counted again more = both_go these place m n one two same counted again more

-- it has gone on twice
pub goes_on_twice : (place m n : ℕ) (a b c : List ScriptPlace) → GoesOnAt m place a b → GoesOnAt n place b c → GoesOnAt (m + n) place a c
goes_on_twice place m n a b c first second =
    let P : List ScriptPlace → Type 0 = λ l. second.own.daemon ≡ (slice_index_or l place second.own).daemon in
    let Q : List ScriptPlace → Type 0 = λ l. second.own.drawn ≡ (slice_index_or l place second.own).drawn + n in
    let both = both_go a place m n first.own second.own first.daemon first.counted (subst P first.is second.daemon) (subst Q first.is second.counted) in
    record {
      own = second.own;
      is = second.is ∙ ap (λ l. slice_set l place second.own) first.is ∙ set-set a place first.own second.own;
      daemon = both.0;
      counted = both.1;
    }

-- it draws a number between two times at which it goes on by none
pub draws_between : {T : Type 0} (daemons : List ℕ) (place : ℕ) (a b c d : ScriptedCore T) → b.core ≡ a.core → GoesOnAt 0 place a.progress b.progress → DrawsAt daemons place b c
    → d.core ≡ c.core → GoesOnAt 0 place c.progress d.progress → DrawsAt daemons place a d
draws_between {T} daemons place a b c d before first draws behind last =
    let Adds : LoggedLock T → LoggedLock T → Type 0 = λ old new. MayAdd (λ (e : Entry). e.number) (λ (e : Entry). place_of daemons e.daemon) new.lock.roll.drawn place old.log.journal new.log.journal in
    record {
      drawn = ap (λ (k : LoggedLock T). k.lock.roll.drawn) behind ∙ draws.drawn ∙ ap (λ (k : LoggedLock T). k.lock.roll.drawn + 1) before;
      adds = subst (λ k. Adds k d.core) before (subst (λ k. Adds b.core k) (sym behind) draws.adds);
      goes_on = goes_on_twice place 1 0 a.progress c.progress d.progress (goes_on_twice place 0 1 a.progress b.progress c.progress first draws.goes_on) last;
    }

module _ {T : Type 0} (b : RunStart) (script : List ScriptStep) (place : ℕ) (v w : ScriptedCore T) (turn : TurnsAt b script place v w) where
  abbrev was : ScriptPlace
  was = slice_index_or v.progress place turn.own

  -- it has gone on by a turn
  pub turn_goes_on : (n : ℕ) → turn.own.drawn ≡ was.drawn + n → GoesOnAt n place v.progress w.progress
  turn_goes_on n counted = record { own = turn.own; is = turn.others; daemon = turn.ends.same; counted = counted }

  -- it has passed over a line
  pub turn_passes : coming_at script place v ≡ comings.Passes → (w.core ≡ v.core) × (was.place < turn.own.place) × GoesOnAt 0 place v.progress w.progress
  turn_passes comes = by turn.does
    where
      by : DoesComing (coming_at script place v) v.core w.core was turn.own → (w.core ≡ v.core) × (was.place < turn.own.place) × GoesOnAt 0 place v.progress w.progress
      by (DoesComing.passes is core further drawn) = (core, further, turn_goes_on 0 (omega (arith, drawn)))
      by (DoesComing.draws line is drawn own) = let no : comings.Passes ≡ comings.Comes was.daemon line = sym comes ∙ is in absurd cc
      by (DoesComing.starves line is core stays own) = let no : comings.Passes ≡ comings.Comes was.daemon line = sym comes ∙ is in absurd cc

  -- so it is further in its script, which isn't at an end
  pub turn_further : (d : ScriptPlace) → is_gone place v ≡ false → coming_at script place v ≡ comings.Passes
      → length script - (slice_index_or w.progress place d).place < length script - (slice_index_or v.progress place d).place
  turn_further d stays comes =
      let at : place < length v.progress = (at_place (λ (s : ScriptPlace). has_left v.core.lock.roll s.daemon) v.progress place d stays).0 in
      let is : slice_index_or w.progress place d ≡ turn.own = ap (λ l. slice_index_or l place d) turn.others ∙ get_or-set_same v.progress place turn.own d at in
      let same : (slice_index_or v.progress place d).place ≡ was.place = ap (λ (s : ScriptPlace). s.place) (get_or_default v.progress place d turn.own at) in
      let now = ap (λ (s : ScriptPlace). s.place) is in
      let further = (turn_passes comes).1 in
      let within = turn.ends.holds.within in
      omega (arith, same, now, further, within)

-- a daemon takes turns where something comes
pub takes_turns : {T : Type 0} (script : List ScriptStep) (place : ℕ) (v : ScriptedCore T) (coming : Coming) → coming ≡ coming_at script place v → is_over coming ≡ false → is_gone place v ≡ false
takes_turns script place v coming comes something = sym (over_is script place v) ∙ ap is_over (sym comes) ∙ something

module _ {T : Type 0} (g : Ghosts T) (b : RunStart) (script : List ScriptStep) (place : ℕ) (v : ScriptedCore T) (run : IsScriptedRun g b script v.core v.progress) (stays : is_gone place v ≡ false) where
  -- a turn that draws a number adds at most one entry, of the place
  pub draws_now : (w : ScriptedCore T) (turn : TurnsAt b script place v w) → w.core.lock.roll.drawn ≡ v.core.lock.roll.drawn + 1 → turn.own.drawn ≡ (slice_index_or v.progress place turn.own).drawn + 1
      → DrawsAt b.daemons place v w
  draws_now w turn drawn own = record { drawn = drawn; adds = by turn.ends.next; goes_on = turn_goes_on b script place v w turn 1 own }
    where
      s : ScriptPlace
      s = slice_index_or v.progress place turn.own

      at : place < length v.progress
      at = (at_place (λ (z : ScriptPlace). has_left v.core.lock.roll z.daemon) v.progress place turn.own stays).0

      mine : (e : Entry) → e.daemon ≡ turn.daemon.id → place_of b.daemons e.daemon ≡ place
      mine e is =
          let id : turn.daemon.id ≡ s.daemon = same_number turn.daemon.id s.daemon (found_number v.core.lock.roll.daemons s.daemon turn.daemon turn.found) in
          ap (place_of b.daemons) (is ∙ id) ∙ place_is g b script v.core v.progress run place turn.own at

      by : AddsAtMostOne (before_of v.core turn.daemon) turn.ends.entries
          → MayAdd (λ (e : Entry). e.number) (λ (e : Entry). place_of b.daemons e.daemon) w.core.lock.roll.drawn place v.core.log.journal w.core.log.journal
      by (AddsAtMostOne.none none) = inl (turn.ends.over.journal_is ∙ ap (λ l. v.core.log.journal ++ l) none ∙ append-nil v.core.log.journal)
      by (AddsAtMostOne.one e one number daemon) =
          inr (e, number ∙ sym drawn, mine e daemon, turn.ends.over.journal_is ∙ ap (λ l. v.core.log.journal ++ l) one)

  module _ (w : ScriptedCore T) (turn : TurnsAt b script place v w) (comes : coming_at script place v ≡ comings.Passes → ⊥) where
    -- where a number was drawn, it is done
    pub drawn_once : v.core.lock.roll.drawn < w.core.lock.roll.drawn → DrawsAt b.daemons place v w
    drawn_once more = by turn.does
      where
        by : DoesComing (coming_at script place v) v.core w.core (slice_index_or v.progress place turn.own) turn.own → DrawsAt b.daemons place v w
        by (DoesComing.passes is core further drawn) = absurd (comes is)
        by (DoesComing.draws line is drawn own) = draws_now w turn drawn own
        by (DoesComing.starves line is core none own) = absurd (let same = ap (λ (k : LoggedLock T). k.lock.roll.drawn) core in omega (arith, same, more))

    -- else memory was wanting
    pub starved_once : w.core.lock.roll.drawn ≤ v.core.lock.roll.drawn
        → (w.core ≡ v.core) × (turn.own ≡ record (slice_index_or v.progress place turn.own) { leaving = Some leaves.Memory })
    starved_once less = by turn.does
      where
        by : DoesComing (coming_at script place v) v.core w.core (slice_index_or v.progress place turn.own) turn.own
            → (w.core ≡ v.core) × (turn.own ≡ record (slice_index_or v.progress place turn.own) { leaving = Some leaves.Memory })
        by (DoesComing.passes is core further drawn) = absurd (comes is)
        by (DoesComing.draws line is drawn own) = absurd (omega (arith, drawn, less))
        by (DoesComing.starves line is core none own) = (core, own)

-- memory was wanting in a turn: in the next the daemon leaves, which draws a number
pub drawn_next : {T : Type 0} (g : Ghosts T) (b : RunStart) (script : List ScriptStep) (place : ℕ) (v w u : ScriptedCore T) → IsScriptedRun g b script w.core w.progress → is_gone place v ≡ false
    → (turn : TurnsAt b script place v w) → w.core ≡ v.core → turn.own ≡ record (slice_index_or v.progress place turn.own) { leaving = Some leaves.Memory }
    → (is_gone place w ≡ false → TurnsAt b script place w u) → DrawsAt b.daemons place v u
drawn_next {T} g b script place v w u run stays turn core own again = by next.does
  where
    at : place < length v.progress
    at = (at_place (λ (z : ScriptPlace). has_left v.core.lock.roll z.daemon) v.progress place turn.own stays).0

    here : (d : ScriptPlace) → slice_index_or w.progress place d ≡ turn.own
    here d = ap (λ l. slice_index_or l place d) turn.others ∙ get_or-set_same v.progress place turn.own d at

    inside : place < length w.progress
    inside = let long = ap length turn.others in let same = length-set v.progress place turn.own in omega (arith, at, long, same)

    still : is_gone place w ≡ false
    still =
        gone_is place w turn.own inside ∙ ap (λ (z : ScriptPlace). has_left w.core.lock.roll z.daemon) (here turn.own)
        ∙ ap (λ (k : LoggedLock T). has_left k.lock.roll turn.own.daemon) core ∙ ap (has_left v.core.lock.roll) turn.ends.same ∙ sym (gone_is place v turn.own at) ∙ stays

    next : TurnsAt b script place w u
    next = again still

    means : (slice_index_or w.progress place next.own).leaving ≡ Some leaves.Memory
    means = ap (λ (z : ScriptPlace). z.leaving) (here next.own ∙ own)

    leave : coming_at script place w ≡ comings.Comes (slice_index_or w.progress place next.own).daemon 0
    leave = coming_there script place w next.own still ∙ leaves_meant w.core.lock.roll script (slice_index_or w.progress place next.own) leaves.Memory means

    counted : turn.own.drawn ≡ (slice_index_or v.progress place turn.own).drawn + 0
    counted = let same = ap (λ (z : ScriptPlace). z.drawn) own in omega (arith, same)

    by : DoesComing (coming_at script place w) w.core u.core (slice_index_or w.progress place next.own) next.own → DrawsAt b.daemons place v u
    by (DoesComing.passes is same further drawn) = let no : comings.Passes ≡ comings.Comes (slice_index_or w.progress place next.own).daemon 0 = sym is ∙ leave in absurd cc
    by (DoesComing.starves line is same none starved) = let no : None ≡ Some leaves.Memory = sym none ∙ means in absurd cc
    by (DoesComing.draws line is drawn more) =
        draws_between b.daemons place v w u u core (turn_goes_on b script place v w turn 0 counted) (draws_now g b script place w run still u next drawn more) refl (goes_on_none place u.progress)
