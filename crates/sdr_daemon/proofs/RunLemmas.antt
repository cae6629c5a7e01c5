-- What the locked value keeps, by a turn of one of its daemons, and as all have left.
use Rattle.std.proofs.Common.{◌≡◌, ◌∙◌, ◌<◌, ◌≤◌, ◌≢◌, ◌==◌, ◌+◌, ◌*◌, ◌^◌, ℕ, suc, List, [], ◌∷◌, ◌++◌, Bool, true, false, true≢false, Some, MatchBool, arith, refl, sym, ap, subst, append-nil, not, zero}
use Rattle.std.proofs.Math.Seq.{map-set_same}
use Rattle.std.proofs.lemmas.List.{get_or-set_other, get_or-set_same, get_or_default, length-map, length-set}
use Rattle.std.proofs.lemmas.List.Sums.{sum_by-cons, sum_by-set}
use Rattle.std.specs.List.{AllByRecursion, IsDistinct, list_any}
use Rattle.std.specs.Option.{option_map_or}
use Rattle.std.specs.Prelude.{All, length, map, slice_index_or, slice_set, sum_by, is_some, nat_eq, slice_get}
use Rattle.std.proofs.lemmas.List.Folds.{list_all_at}
use Rattle.arrayvec.proofs.ArrayVecLemmas.{items-with_items}
use Rattle.arrayvec.specs.ArrayVec.{ArrayVec, with_items}
use Rattle.sdr_machine.proofs.RollLemmas.{among, found_number, number_same, other_put, same_number, turned}
use Rattle.law_runs.proofs.RunLemmas.{run_keeps, run_members}
use Rattle.sdr_core.specs.CoreKept.{RunStart, LoggedLock, core_at, KeepsRun}
use Rattle.sdr_core.specs.Leaving.{LastsOn}
use Rattle.sdr_machine.proofs.HolderLemmas.{put_none}
use Rattle.sdr_machine.specs.Core.{has_left}
use Rattle.sdr_machine.specs.Crash.{is_sound}
use Rattle.sdr_machine.specs.Holders.{hold_none}
use Rattle.sdr_machine.specs.Roll.{daemon_of}
use Rattle.sdr_machine.specs.declared.daemon.Daemon.{Daemon}
use Rattle.sdr_machine.specs.declared.has_ground.HasGround.{Ghosts}
use Rattle.sdr_model.specs.declared.journal.Entry.{Entry}
use Rattle.sdr_model.specs.declared.script.ScriptStep.{ScriptStep}
use Rattle.sdr_daemon.proofs.NextLemmas.{coming_there}
use Rattle.sdr_daemon.proofs.ScriptLemmas.{entries_other, kept_also, script_also, script_later}
use Rattle.sdr_daemon.proofs.StepLemmas.{refused_grows}
use Rattle.sdr_daemon.specs.Progressing.{IsOnWay, IsScriptedRun, ProgressHolds, WasLookRefused, have_left, steps_ahead}
use Rattle.sdr_daemon.specs.Scripts.{HasKeptSoFar, IsLookRefused, KeepsToScripts, DaemonKeepsToScript, MayHaveDrawn}
use Rattle.sdr_daemon.specs.Coming.{coming_at, coming_of}
use Rattle.sdr_daemon.specs.TakingTurns.{AddsAtMostOne, DoesComing, EndsTurn, IsBeforeTurn, MayTakeTurn, TakesTurn, TurnsAt, is_gone}
use Rattle.sdr_daemon.specs.TurnEvents.{BeforeTurn, before_of}
use Rattle.sdr_daemon.specs.Turns.{entries_by, steps_by}
use Rattle.sdr_daemon.specs.declared.script_place.ScriptPlace.{ScriptPlace}

-- another daemon's entries are as before
others_entries : (o : BeforeTurn) (entries journal : List Entry) (id : ℕ) → (o.daemon.id == id) ≡ false → AddsAtMostOne o entries → journal ≡ o.journal ++ entries → entries_by id journal ≡ entries_by id o.journal
others_entries o entries journal id other (AddsAtMostOne.none none) grows = ap (entries_by id) (grows ∙ ap (λ l. o.journal ++ l) none ∙ append-nil o.journal)
others_entries o entries journal id other (AddsAtMostOne.one e one number own) grows =
    ap (entries_by id) (grows ∙ ap (λ l. o.journal ++ l) one) ∙ entries_other o.journal e id (ap (λ n. n == id) own ∙ other)

-- what another daemon has kept to stays so
others_script : (b : RunStart) (o : BeforeTurn) (entries journal : List Entry) (drawn : ℕ) (steps : List ScriptStep) (own : List Entry) → AddsAtMostOne o entries → journal ≡ o.journal ++ entries → o.roll.drawn ≤ drawn
    → DaemonKeepsToScript (WasLookRefused b o.roll.drawn o.journal) o.journal steps own → DaemonKeepsToScript (WasLookRefused b drawn journal) journal steps own
others_script b o entries journal drawn steps own next grows more keeps = by next grows
  where
    grow : (n ticket : ℕ) → WasLookRefused b o.roll.drawn o.journal n ticket → WasLookRefused b drawn journal n ticket
    grow = refused_grows b o entries journal drawn next grows more

    by : AddsAtMostOne o entries → journal ≡ o.journal ++ entries → DaemonKeepsToScript (WasLookRefused b drawn journal) journal steps own
    by (AddsAtMostOne.none none) grows =
        subst (λ l. DaemonKeepsToScript (WasLookRefused b drawn journal) l steps own) (sym (grows ∙ ap (λ l. o.journal ++ l) none ∙ append-nil o.journal))
        (script_also (WasLookRefused b o.roll.drawn o.journal) (WasLookRefused b drawn journal) grow o.journal steps own keeps)
    by (AddsAtMostOne.one e one number mine) grows =
        subst (λ l. DaemonKeepsToScript (WasLookRefused b drawn journal) l steps own) (sym (grows ∙ ap (λ l. o.journal ++ l) one))
        (script_later (WasLookRefused b o.roll.drawn o.journal) (WasLookRefused b drawn journal) grow o.journal e steps own keeps)

pub each_at : (P : ℕ → Type 0) (these : List ScriptPlace) → AllByRecursion P (map (λ (s : ScriptPlace). s.daemon) these) → (i : ℕ) (d : ScriptPlace) → i < length these
    → P (slice_index_or these i d).daemon
each_at P [] each i d within = absurd (omega (arith, within))
each_at P (s ∷ these) each zero d within = each.0
each_at P (s ∷ these) each (suc i) d within = each_at P these each.1 i d (omega (arith, within))

-- no two of distinct daemons are one
distinct_at : (these : List ScriptPlace) → IsDistinct nat_eq (map (λ (s : ScriptPlace). s.daemon) these) → (i j : ℕ) (d : ScriptPlace) → i < length these → j < length these → (i ≡ j → ⊥)
    → ((slice_index_or these i d).daemon == (slice_index_or these j d).daemon) ≡ false
unfolding IsDistinct
distinct_at [] apart i j d one two ne = absurd (omega (arith, one))
distinct_at (s ∷ these) apart zero zero d one two ne = absurd (ne refl)
distinct_at (s ∷ these) apart zero (suc j) d one two ne = each_at (λ n. nat_eq s.daemon n ≡ false) these apart.0 j d (omega (arith, two))
distinct_at (s ∷ these) apart (suc i) zero d one two ne =
    turned s.daemon (slice_index_or these i d).daemon (each_at (λ n. nat_eq s.daemon n ≡ false) these apart.0 i d (omega (arith, one)))
distinct_at (s ∷ these) apart (suc i) (suc j) d one two ne =
    distinct_at these apart.1 i j d (omega (arith, one)) (omega (arith, two)) (λ same. ne (ap suc same))

module _ {T : Type 0} (g : Ghosts T) (b : RunStart) (script : List ScriptStep) (k new : LoggedLock T) (x : Daemon) (s s' : ScriptPlace) (e : EndsTurn b script k x new s s') (mine : x.id ≡ s.daemon) where
  more : k.lock.roll.drawn ≤ new.lock.roll.drawn
  more = subst (λ n. k.lock.roll.drawn ≤ n) (sym e.over.drawn_is) e.more

  -- another daemon is where it was
  seat_later : (y : ScriptPlace) → (s.daemon == y.daemon) ≡ false → ProgressHolds b script k.lock.roll k.log.journal y → ProgressHolds b script new.lock.roll new.log.journal y
  seat_later y other seated = record {
    daemon = seated.daemon;
    found = ap (λ ds. among y.daemon ds) e.over.daemons ∙ other_put k.lock.roll.daemons e.after y.daemon (ap (λ n. n == y.daemon) (e.over.id ∙ mine) ∙ other) ∙ seated.found;
    drawn = let was = seated.drawn in let m = more in omega (arith, was, m);
    few = seated.few;
    within = seated.within;
    state = by seated.daemon.left seated.state;
  }
    where
      R : ℕ → ℕ → Type 0
      R = WasLookRefused b new.lock.roll.drawn new.log.journal

      same : entries_by y.daemon new.log.journal ≡ entries_by y.daemon k.log.journal
      same = others_entries (before_of k x) e.entries new.log.journal y.daemon (ap (λ n. n == y.daemon) mine ∙ other) e.next e.over.journal_is

      by : (left : Bool)
          → MatchBool left (DaemonKeepsToScript (WasLookRefused b k.lock.roll.drawn k.log.journal) k.log.journal (steps_by y.daemon script) (entries_by y.daemon k.log.journal)) (IsOnWay b script k.lock.roll k.log.journal seated.daemon y)
          → MatchBool left (DaemonKeepsToScript R new.log.journal (steps_by y.daemon script) (entries_by y.daemon new.log.journal)) (IsOnWay b script new.lock.roll new.log.journal seated.daemon y)
      by true keeps =
          subst (λ l. DaemonKeepsToScript R new.log.journal (steps_by y.daemon script) l) (sym same)
          (others_script b (before_of k x) e.entries new.log.journal new.lock.roll.drawn (steps_by y.daemon script) (entries_by y.daemon k.log.journal) e.next e.over.journal_is more keeps)
      by false way = record {
        at = way.at;
        kept =
            subst (λ l. HasKeptSoFar R (steps_by y.daemon script) (steps_ahead script y.daemon y.place) l way.at) (sym same)
            (kept_also (WasLookRefused b k.lock.roll.drawn k.log.journal) R (refused_grows b (before_of k x) e.entries new.log.journal new.lock.roll.drawn e.next e.over.journal_is more)
            (steps_by y.daemon script) (steps_ahead script y.daemon y.place) (entries_by y.daemon k.log.journal) way.at way.kept);
        below = let was = way.below in let m = more in omega (arith, was, m);
        few = way.few;
        names = way.names;
        agrees = way.agrees;
        means = way.means;
        may = subst (λ l. MayHaveDrawn y.drawn l (steps_by y.daemon script) (steps_ahead script y.daemon y.place)) (sym same) way.may;
      }

  -- so the progress of all holds, with the one that took the turn in its place
  pub run_next : (these : List ScriptPlace) (place : ℕ) → IsScriptedRun g b script k these → place < length these → s ≡ slice_index_or these place s' → LastsOn g new.lock.base → IsScriptedRun g b script new (slice_set these place s')
  run_next these place l within here lasts = record {
    free = ap hold_none e.over.daemons ∙ put_none e.after k.lock.roll.daemons e.over.unheld l.free;
    unsaid = e.over.unsaid;
    holds = λ i d inside. by i d (i == place) refl (subst (λ n. i < n) len inside);
    ids = map-set_same (λ (z : ScriptPlace). z.daemon) these place s' s' same_here ∙ l.ids;
    named = l.named;
    apart = l.apart;
    drawn =
        (let sum = sum_by-set (λ (z : ScriptPlace). z.drawn) these place s' s' within in
        let was = ap (λ (z : ScriptPlace). z.drawn) here in
        let d = l.drawn in let counted = e.counted in let is = e.over.drawn_is in omega (arith, sum, was, d, counted, is));
    lasts = lasts;
  }
    where
      len : length (slice_set these place s') ≡ length these
      len = length-set these place s'

      same_here : s'.daemon ≡ (slice_index_or these place s').daemon
      same_here = e.same ∙ ap (λ (z : ScriptPlace). z.daemon) here

      by : (i : ℕ) (d : ScriptPlace) (c : Bool) → (i == place) ≡ c → i < length these → ProgressHolds b script new.lock.roll new.log.journal (slice_index_or (slice_set these place s') i d)
      by i d true is inside =
          let one : i ≡ place = same_number i place is in
          subst (ProgressHolds b script new.lock.roll new.log.journal)
          (sym (get_or-set_same these place s' d within) ∙ ap (λ n. slice_index_or (slice_set these place s') n d) (sym one)) e.holds
      by i d false is inside =
          let ne : i ≢ place = λ one. true≢false (sym (number_same i place one) ∙ is) in
          subst (ProgressHolds b script new.lock.roll new.log.journal) (sym (get_or-set_other these place i s' d ne))
          (seat_later (slice_index_or these i d)
          (ap (λ n. n == (slice_index_or these i d).daemon) (ap (λ (z : ScriptPlace). z.daemon) (here ∙ get_or_default these place s' d within)) ∙ distinct_at these (subst (IsDistinct nat_eq) (sym l.ids) l.apart) place i d within inside (λ one. ne (sym one)))
          (l.holds i d inside))

-- the daemons' scripts are kept to, each
each_script : (P : ℕ → Type 0) (these : List ScriptPlace) → ((i : ℕ) (d : ScriptPlace) → i < length these → P (slice_index_or these i d).daemon) → AllByRecursion P (map (λ (s : ScriptPlace). s.daemon) these)
each_script P [] all = tt
each_script P (s ∷ these) all = (all 0 s (omega arith), each_script P these (λ i d inside. all (suc i) d (omega (arith, inside))))

-- all have left: the journal keeps to the scripts
pub all_left : {T : Type 0} (g : Ghosts T) (b : RunStart) (script : List ScriptStep) (k : LoggedLock T) (these : List ScriptPlace) → KeepsRun g b k → IsScriptedRun g b script k these
    → have_left k.lock.roll these ≡ true → KeepsToScripts b.told b.first script k.log.journal
all_left g b script k these run l left = record {
  each =
      subst (λ ds. AllByRecursion (P ds) ds) l.named
      (subst (AllByRecursion (P b.daemons)) l.ids (each_script (P b.daemons) these (λ i d inside. of (slice_index_or these i d) (l.holds i d inside) (left_at i d inside (has_left k.lock.roll (slice_index_or these i d).daemon) refl))));
  others =
      subst (λ ds. All (λ (e : Entry). list_any (λ id. id == e.daemon) ds ≡ true) k.log.journal) l.named
      (run_members b.told b.daemons b.first run.made (core_at k run.for) run.runs);
}
  where
    left_at : (i : ℕ) (d : ScriptPlace) → i < length these → (c : Bool) → has_left k.lock.roll (slice_index_or these i d).daemon ≡ c → has_left k.lock.roll (slice_index_or these i d).daemon ≡ true
    left_at i d inside true is = is
    left_at i d inside false is = absurd (true≢false (sym left ∙ list_all_at (λ (s : ScriptPlace). has_left k.lock.roll s.daemon) these i d inside is))

    P : List ℕ → ℕ → Type 0
    P ds id = DaemonKeepsToScript (IsLookRefused b.told ds b.first k.log.journal) k.log.journal (steps_by id script) (entries_by id k.log.journal)

    of : (s : ScriptPlace) → ProgressHolds b script k.lock.roll k.log.journal s → has_left k.lock.roll s.daemon ≡ true → P b.daemons s.daemon
    of s seated gone =
        let is : seated.daemon.left ≡ true = ap (λ o. option_map_or (λ (d : Daemon). d.left) o false) (sym seated.found) ∙ gone in
        let keeps = subst (λ c. MatchBool c (DaemonKeepsToScript (WasLookRefused b k.lock.roll.drawn k.log.journal) k.log.journal (steps_by s.daemon script) (entries_by s.daemon k.log.journal))
        (IsOnWay b script k.lock.roll k.log.journal seated.daemon s)) is seated.state in
        script_also (WasLookRefused b k.lock.roll.drawn k.log.journal) (IsLookRefused b.told b.daemons b.first k.log.journal) (λ n ticket was. was.refused_at) k.log.journal (steps_by s.daemon script) (entries_by s.daemon k.log.journal) keeps

-- a daemon at a place that hasn't left may take a turn
pub may_take_turn : {T : Type 0} (g : Ghosts T) (b : RunStart) (script : List ScriptStep) (k : LoggedLock T) (these : List ScriptPlace) (place : ℕ) (d : ScriptPlace) → KeepsRun g b k
    → is_some k.lock.roll.failed ≡ not (is_sound k.log.journal) → IsScriptedRun g b script k these → place < length these
    → has_left k.lock.roll (slice_index_or these place d).daemon ≡ false → MayTakeTurn g b script k (slice_index_or these place d)
may_take_turn g b script k these place d run failed l within stays =
    let s = slice_index_or these place d in
    let holds = l.holds place d within in
    let is : holds.daemon.left ≡ false = ap (λ o. option_map_or (λ (x : Daemon). x.left) o false) (sym holds.found) ∙ stays in
    record {
      daemon = holds.daemon;
      at = record {
        run = run;
        found = holds.found;
        stays = is;
        free = l.free;
        unsaid = l.unsaid;
        way = subst (λ c. MatchBool c (DaemonKeepsToScript (WasLookRefused b k.lock.roll.drawn k.log.journal) k.log.journal (steps_by s.daemon script) (entries_by s.daemon k.log.journal))
            (IsOnWay b script k.lock.roll k.log.journal holds.daemon s)) is holds.state;
        failed = failed;
        drawn = holds.drawn;
        within = holds.within;
      };
    }

-- where the daemon at a place isn't gone, it is there and hasn't left
pub at_place : (gone : ScriptPlace → Bool) (these : List ScriptPlace) (place : ℕ) (d : ScriptPlace) → option_map_or gone (slice_get these place) true ≡ false
    → (place < length these) × (gone (slice_index_or these place d) ≡ false)
at_place gone [] place d stays = absurd (true≢false stays)
at_place gone (x ∷ these) zero d stays = (omega arith, stays)
at_place gone (x ∷ these) (suc place) d stays = let rest = at_place gone these place d stays in (omega (arith, rest.0), rest.1)

-- a turn of the daemon at a place leaves all progress as it was but its own, which holds again
pub turn_at : {T : Type 0} (g : Ghosts T) (b : RunStart) (script : List ScriptStep) (k new : LoggedLock T) (these : List ScriptPlace) (place : ℕ) (s s' : ScriptPlace) → KeepsRun g b k
    → is_some k.lock.roll.failed ≡ not (is_sound k.log.journal) → IsScriptedRun g b script k these → is_gone place (record { core = k; progress = these }) ≡ false
    → s ≡ slice_index_or these place s → TakesTurn g b script k new s s' → LastsOn g new.lock.base
    → IsScriptedRun g b script new (slice_set these place s')
    × TurnsAt b script place (record { core = k; progress = these }) (record { core = new; progress = slice_set these place s' })
turn_at g b script k new these place s s' run failed l stays here turns lasts =
    let at = at_place (λ (z : ScriptPlace). has_left k.lock.roll z.daemon) these place s stays in
    let may = may_take_turn g b script k these place s run failed l at.0 at.1 in
    let ready : IsBeforeTurn g b script may.daemon k s = subst (λ (z : ScriptPlace). IsBeforeTurn g b script may.daemon k z) (sym here) may.at in
    let ends : EndsTurn b script k may.daemon new s s' = turns may.daemon ready in
    let same : s ≡ slice_index_or these place s' = here ∙ get_or_default these place s s' at.0 in (
      run_next g b script k new may.daemon s s' ends (same_number may.daemon.id s.daemon (found_number k.lock.roll.daemons s.daemon may.daemon ready.found)) these place l at.0 same lasts,
      record {
        daemon = may.daemon;
        own = s';
        found = subst (λ (z : ScriptPlace). daemon_of k.lock.roll z.daemon ≡ Some may.daemon) same ready.found;
        ends = subst (λ (z : ScriptPlace). EndsTurn b script k may.daemon new z s') same ends;
        does =
            subst (λ (z : ScriptPlace). DoesComing (coming_at script place (record { core = k; progress = these })) k new z s') same
            (subst (λ c. DoesComing c k new s s') (sym (coming_there script place (record { core = k; progress = these }) s stays ∙ ap (coming_of k.lock.roll script) (sym here))) ends.does);
        others = refl;
      },
    )

-- what is read at a place through the slice of these is what stands there
read_at : (seen these : List ScriptPlace) (place : ℕ) (d : ScriptPlace) → seen ≡ these → place < length these → slice_index_or seen place d ≡ slice_index_or these place (slice_index_or seen place d)
read_at seen these place d same within = ap (λ l. slice_index_or l place d) same ∙ get_or_default these place d (slice_index_or seen place d) within

-- what is written there through that slice stands there
written_at : (v : ArrayVec ScriptPlace) (seen : List ScriptPlace) (place : ℕ) (s : ScriptPlace) → seen ≡ v.items → (with_items v (slice_set seen place s)).items ≡ slice_set v.items place s
written_at v seen place s same = items-with_items v (slice_set seen place s) (length-set seen place s ∙ ap length same) ∙ ap (λ l. slice_set l place s) same

-- so it is with a turn that is taken through the slice
pub turned_at : {T : Type 0} (g : Ghosts T) (b : RunStart) (script : List ScriptStep) (k new : LoggedLock T) (v : ArrayVec ScriptPlace) (seen : List ScriptPlace) (place : ℕ) (d s' : ScriptPlace) → KeepsRun g b k
    → is_some k.lock.roll.failed ≡ not (is_sound k.log.journal) → IsScriptedRun g b script k v.items → is_gone place (record { core = k; progress = v.items }) ≡ false
    → seen ≡ v.items → TakesTurn g b script k new (slice_index_or seen place d) s' → LastsOn g new.lock.base
    → IsScriptedRun g b script new (with_items v (slice_set seen place s')).items
    × TurnsAt b script place (record { core = k; progress = v.items }) (record { core = new; progress = (with_items v (slice_set seen place s')).items })
turned_at g b script k new v seen place d s' run failed l here same turns lasts =
    let at = at_place (λ (z : ScriptPlace). has_left k.lock.roll z.daemon) v.items place d here in
    subst (λ (these : List ScriptPlace). IsScriptedRun g b script new these × TurnsAt b script place (record { core = k; progress = v.items }) (record { core = new; progress = these }))
    (sym (written_at v seen place s' same))
    (turn_at g b script k new v.items place (slice_index_or seen place d) s' run failed l here (read_at seen v.items place d same at.0) turns lasts)

sum_most : (these : List ScriptPlace) → ((i : ℕ) (d : ScriptPlace) → i < length these → (slice_index_or these i d).drawn ≤ 2 ^ 40) → sum_by (λ (s : ScriptPlace). s.drawn) these ≤ length these * 2 ^ 40
sum_most [] each = omega arith
sum_most (s ∷ these) each =
    let first : s.drawn ≤ 2 ^ 40 = each 0 s (omega arith) in
    let rest : sum_by (λ (z : ScriptPlace). z.drawn) these ≤ length these * 2 ^ 40 = sum_most these (λ i d inside. each (suc i) d (omega (arith, inside))) in
    let whole : sum_by (λ (z : ScriptPlace). z.drawn) (s ∷ these) ≡ s.drawn + sum_by (λ (z : ScriptPlace). z.drawn) these = sum_by-cons (λ (z : ScriptPlace). z.drawn) s these in
    omega (arith, first, rest, whole)

-- few numbers are drawn
pub drawn_few : {T : Type 0} (g : Ghosts T) (b : RunStart) (script : List ScriptStep) (k : LoggedLock T) (these : List ScriptPlace) → KeepsRun g b k → IsScriptedRun g b script k these → length k.lock.roll.daemons ≤ 256
    → k.lock.roll.drawn + 1 < 2 ^ 60
drawn_few g b script k these run l few =
    let sum = sum_most these (λ i d inside. (l.holds i d inside).few) in
    let numbers = (run_keeps b.told b.daemons b.first run.made (core_at k run.for) run.runs).roll.numbers in
    let one = length-map k.lock.roll.daemons (λ (d : Daemon). d.id) in
    let two = length-map these (λ (s : ScriptPlace). s.daemon) in
    let n : length these ≤ 256 = omega (arith, ap length l.ids, ap length numbers, one, two, few) in
    let drawn = l.drawn in
    omega (arith, n, sum, drawn)
