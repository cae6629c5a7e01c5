-- Who waits and who has left, by the roll and by the journal.
use Rattle.std.proofs.Common.{◌≡◌, ◌∙◌, ◌==◌, ◌&&◌, ◌||◌, ℕ, List, [], ◌∷◌, Bool, true, false, not, Option, None, Some, refl, sym, ap, subst, cond, map, true≢false}
use Rattle.std.specs.List.{AllByRecursion, IsDistinct, list_all}
use Rattle.std.specs.Option.{option_map_or}
use Rattle.std.specs.Bool.{nat_eq}
use Rattle.sdr_model.specs.AccountSteps.{is_granted, pending_of}
use Rattle.sdr_model.specs.World.{World}
use Rattle.sdr_model.specs.declared.journal.Entry.{Entry}
use Rattle.sdr_model.specs.declared.journal.What.{What}
use Rattle.sdr_model.specs.declared.journal.What.TheVariants as whats
use Rattle.sdr_machine.specs.Legal as legal
use Rattle.sdr_machine.specs.Legal.{have_stalled, is_leave, is_wait_for, last_entry}
use Rattle.sdr_machine.specs.Roll.{Roll, is_stalled, is_stuck, waits_for}
use Rattle.sdr_machine.specs.declared.daemon.Daemon.{Daemon}
use Rattle.law_runs.specs.LastEntries.{AgreesWithLast, is_by_leave, waited_ticket, waits_by}
use Rattle.law_runs.proofs.KeepLemmas.{KeepsRoll}
use Rattle.sdr_machine.proofs.RollLemmas.{among, each_also, each_found, number_same}

-- whether a daemon waits for a ticket, by its last entry
pub waits_agree : (last : Option Entry) (d : Daemon) (ticket : ℕ) → AgreesWithLast last d
    → waits_for d ticket ≡ option_map_or (λ (e : Entry). is_wait_for ticket e.what) last false
waits_agree last d ticket agree = ap (λ o. option_map_or (λ t. t == ticket) o false) agree.waits ∙ by last
  where
    of : (what : What) → option_map_or (λ t. t == ticket) (waited_ticket what) false ≡ is_wait_for ticket what
    of (whats.Waits other) = refl
    of what = refl

    by : (o : Option Entry) → option_map_or (λ t. t == ticket) (waits_by o) false ≡ option_map_or (λ (e : Entry). is_wait_for ticket e.what) o false
    by None = refl
    by (Some e) = of e.what

-- whether it is stuck
pub stuck_agree : (w : World) (last : Option Entry) (d : Daemon) → AgreesWithLast last d
    → is_stuck w d ≡ option_map_or (λ (e : Entry). legal.ends_stuck w e.what) last false
stuck_agree w last d agree = (λ i. agree.left i || option_map_or (λ t. not (is_granted (pending_of w t))) (agree.waits i) false) ∙ by last
  where
    of : (what : What) → (is_leave what || option_map_or (λ t. not (is_granted (pending_of w t))) (waited_ticket what) false) ≡ legal.ends_stuck w what
    of (whats.Leaves leave) = refl
    of (whats.Waits ticket) = refl
    of what = refl

    by : (o : Option Entry) → (is_by_leave o || option_map_or (λ t. not (is_granted (pending_of w t))) (waits_by o) false) ≡ option_map_or (λ (e : Entry). legal.ends_stuck w e.what) o false
    by None = refl
    by (Some e) = of e.what

-- both tests pass
both_pass : (a b : Bool) → (a && b) ≡ true → (a ≡ true) × (b ≡ true)
both_pass true b e = (refl, e)
both_pass false b e = absurd (true≢false (sym e))

each_passes : (test : Daemon → Bool) (ds : List Daemon) → list_all test ds ≡ true → AllByRecursion (λ d. test d ≡ true) ds
each_passes test [] all = tt
each_passes test (d ∷ ds) all = let b = both_pass (test d) (list_all test ds) all in (b.0, each_passes test ds b.1)

passes_by_number : (test : ℕ → Bool) (ds : List Daemon) → AllByRecursion (λ d. test d.id ≡ true) ds → list_all test (map (λ (d : Daemon). d.id) ds) ≡ true
passes_by_number test [] all = refl
passes_by_number test (d ∷ ds) all = ap (λ b. b && list_all test (map (λ (x : Daemon). x.id) ds)) all.0 ∙ passes_by_number test ds all.1

-- a daemon of the number is found
pub record IsFound (ds : List Daemon) (id : ℕ) : Type 0 where
  pub daemon : Daemon
  pub found : among id ds ≡ Some daemon

found_later : (x : Daemon) (ds : List Daemon) (id : ℕ) → IsFound ds id → IsFound (x ∷ ds) id
found_later x ds id is = by (x.id == id) refl
  where
    by : (b : Bool) → (x.id == id) ≡ b → IsFound (x ∷ ds) id
    by true e = record { daemon = x; found = ap (λ b. cond b (Some x) (among id ds)) e }
    by false e = record { daemon = is.daemon; found = ap (λ b. cond b (Some x) (among id ds)) e ∙ is.found }

each_is_found : (ds : List Daemon) → AllByRecursion (λ d. IsFound ds d.id) ds
each_is_found [] = tt
each_is_found (x ∷ ds) = (
  record { daemon = x; found = ap (λ b. cond b (Some x) (among x.id ds)) (number_same x.id x.id refl) },
  each_also (λ d. IsFound ds d.id) (λ d. IsFound (x ∷ ds) d.id) (λ d is. found_later x ds d.id is) ds (each_is_found ds),
)

-- where all have stalled by the roll, they have by the journal
pub stalled_by_roll : (daemons : List ℕ) (journal : List Entry) (r : Roll) (w : World) → KeepsRoll daemons journal r → is_stalled r w ≡ true
    → have_stalled daemons journal w ≡ true
stalled_by_roll daemons journal r w keeps stalled =
    subst (λ ids. have_stalled ids journal w ≡ true) keeps.numbers
    (passes_by_number (λ id. option_map_or (λ (e : Entry). legal.ends_stuck w e.what) (last_entry journal id) false) r.daemons
    (each_also (λ d. IsFound r.daemons d.id) (λ d. option_map_or (λ (e : Entry). legal.ends_stuck w e.what) (last_entry journal d.id) false ≡ true)
    (λ d is. sym (stuck_agree w (last_entry journal d.id) is.daemon (keeps.agree d.id is.daemon is.found))
    ∙ each_found (λ y. is_stuck w y ≡ true) r.daemons d.id is.daemon is.found (each_passes (is_stuck w) r.daemons stalled))
    r.daemons (each_is_found r.daemons)))

-- where the numbers are each another, each daemon is found by its own
pub each_found_itself : (ds : List Daemon) → IsDistinct nat_eq (map (λ (d : Daemon). d.id) ds) → AllByRecursion (λ d. among d.id ds ≡ Some d) ds
unfolding IsDistinct
each_found_itself [] distinct = tt
each_found_itself (x ∷ ds) distinct =
    (ap (λ b. cond b (Some x) (among x.id ds)) (number_same x.id x.id refl), later ds distinct.0 (each_found_itself ds distinct.1))
  where
    later : (es : List Daemon) → AllByRecursion (λ n. nat_eq x.id n ≡ false) (map (λ (d : Daemon). d.id) es) → AllByRecursion (λ d. among d.id ds ≡ Some d) es
        → AllByRecursion (λ d. among d.id (x ∷ ds) ≡ Some d) es
    later [] apart all = tt
    later (d ∷ es) apart all = (ap (λ b. cond b (Some x) (among d.id ds)) apart.0 ∙ all.0, later es apart.1 all.1)

same_tests : (test : Daemon → Bool) (by : ℕ → Bool) (ds : List Daemon) → AllByRecursion (λ d. test d ≡ by d.id) ds
    → list_all test ds ≡ list_all by (map (λ (d : Daemon). d.id) ds)
same_tests test by [] all = refl
same_tests test by (d ∷ ds) all = λ i. all.0 i && same_tests test by ds all.1 i

-- all have stalled by the roll just where they have by the journal
pub stalled_same : (daemons : List ℕ) (journal : List Entry) (r : Roll) (w : World) → KeepsRoll daemons journal r → IsDistinct nat_eq daemons
    → is_stalled r w ≡ have_stalled daemons journal w
stalled_same daemons journal r w keeps distinct =
    same_tests (is_stuck w) (λ id. option_map_or (λ (e : Entry). legal.ends_stuck w e.what) (last_entry journal id) false) r.daemons
    (each_also (λ d. among d.id r.daemons ≡ Some d) (λ d. is_stuck w d ≡ option_map_or (λ (e : Entry). legal.ends_stuck w e.what) (last_entry journal d.id) false)
    (λ d found. stuck_agree w (last_entry journal d.id) d (keeps.agree d.id d found)) r.daemons
    (each_found_itself r.daemons (subst (IsDistinct nat_eq) (sym keeps.numbers) distinct)))
    ∙ ap (λ ids. have_stalled ids journal w) keeps.numbers
