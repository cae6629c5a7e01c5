-- What is seen of tickets, one after another.
use Rattle.std.proofs.Common.{◌≡◌, ◌∙◌, ◌<◌, ◌≤◌, arith, drop, take, ◌-◌, length, slice_index_or, ◌&&◌, ◌||◌, ℕ, List, [], ◌∷◌, Bool, true, false, not, Option, None, Some, unwrap_or, refl, sym, ap}
use Rattle.std.proofs.lemmas.List.{take_all}
use Rattle.std.specs.List.{list_all}
use Rattle.std.specs.Option.{option_map, option_map_or}
use Rattle.sdr_model.specs.AccountSteps.{is_granted, pending_of}
use Rattle.sdr_model.specs.declared.accounts.Pending.{Pending}
use Rattle.sdr_model.specs.declared.answer.Answer.{Answer}
use Rattle.sdr_model.specs.declared.answer.Answer.TheVariants as answers
use Rattle.sdr_machine.specs.Ground.{State}
use Rattle.sdr_machine.specs.Roll.{Roll, is_stalled, is_stuck, waits_for}
use Rattle.sdr_machine.specs.Serving.{Doubts, Finds, Sees, Shows, answer_seen, waiting_answer}
use Rattle.sdr_machine.specs.Standing.{GroundState}
use Rattle.sdr_machine.specs.declared.daemon.Daemon.{Daemon}
use Rattle.sdr_machine.proofs.GroundLemmas.{still_same, still_then}

-- a list with an item is its first one and the others
pub first_of : (ds : List Daemon) (d : Daemon) → 1 ≤ length ds → ds ≡ slice_index_or ds 0 d ∷ take (length ds - 1) (drop 1 ds)
first_of [] d within = absurd (omega (arith, within))
first_of (x ∷ ds) d within = ap (λ (rest : List Daemon). x ∷ rest) (sym (take_all (length (x ∷ ds) - 1) ds (omega arith)))

-- a list without one has none
pub none_of : (ds : List Daemon) → length ds < 1 → ds ≡ []
none_of [] below = refl
none_of (x ∷ ds) below = absurd (omega (arith, below))

-- a daemon that has left is stuck
pub finds_left : (d : Daemon) → d.left ≡ true → (v : GroundState) → Finds (d ∷ []) true v v
finds_left d left v = record {
  found = sym (ap (λ b. (b || option_map_or (λ t. not (is_granted (pending_of v.before.world t))) d.waits false) && true) left);
  still = still_same v;
}

-- one that hasn't left and doesn't wait is not
pub finds_going : (d : Daemon) → d.left ≡ false → d.waits ≡ None → (v : GroundState) → Finds (d ∷ []) false v v
finds_going d left waits v = record {
  found = sym (λ i. (left i || option_map_or (λ t. not (is_granted (pending_of v.before.world t))) (waits i) false) && true);
  still = still_same v;
}

-- a ticket is granted where it is shown so
shown_granted : (o : Option Pending) → is_granted o ≡ unwrap_or (option_map (λ (p : Pending). p.ticket.granted) o) false
shown_granted None = refl
shown_granted (Some p) = refl

with_true : (b : Bool) → b && true ≡ b
with_true true = refl
with_true false = refl

-- one that waits is stuck where its ticket isn't shown as granted
pub finds_waiting : (d : Daemon) (ticket : ℕ) (granted : Option Bool) → d.left ≡ false → d.waits ≡ Some ticket → (v v' : GroundState)
    → Shows ticket granted v v' → Finds (d ∷ []) (not (unwrap_or granted false)) v v'
finds_waiting d ticket granted left waits v v' shows = record {
  found =
      ap (λ (o : Option Bool). not (unwrap_or o false)) shows.shown
      ∙ ap not (sym (shown_granted (pending_of v.before.world ticket)))
      ∙ sym (with_true (not (is_granted (pending_of v.before.world ticket))))
      ∙ sym (λ i. (left i || option_map_or (λ t. not (is_granted (pending_of v.before.world t))) (waits i) false) && true);
  still = shows.still;
}

-- no daemon is going among none
pub finds_none : (ds : List Daemon) → ds ≡ [] → (v : GroundState) → Finds ds true v v
finds_none ds none v = record { found = sym (ap (λ (ds : List Daemon). list_all (is_stuck v.before.world) ds) none); still = still_same v }

-- where the first is stuck, it goes by the others
pub finds_others : (ds others : List Daemon) (d : Daemon) (b stuck : Bool) → b ≡ true → ds ≡ d ∷ others → (v v' v'' : GroundState)
    → Finds (d ∷ []) b v v' → Finds others stuck v' v'' → Finds ds stuck v v''
finds_others ds others d b stuck on is v v' v'' first rest =
    let here : is_stuck v.before.world d ≡ true = sym (with_true (is_stuck v.before.world d)) ∙ sym first.found ∙ on in
    record {
      found =
          rest.found
          ∙ ap (λ (s : State). list_all (is_stuck s.world) others) first.still.before
          ∙ sym (ap (λ b. b && list_all (is_stuck v.before.world) others) here)
          ∙ sym (ap (λ (ds : List Daemon). list_all (is_stuck v.before.world) ds) is);
      still = still_then v v' v'' first.still rest.still;
    }

-- where the first isn't, not all are
pub finds_first : (ds others : List Daemon) (d : Daemon) (b : Bool) → b ≡ false → ds ≡ d ∷ others → (v v' : GroundState)
    → Finds (d ∷ []) b v v' → Finds ds false v v'
finds_first ds others d b no_more is v v' first =
    let here : is_stuck v.before.world d ≡ false = sym (with_true (is_stuck v.before.world d)) ∙ sym first.found ∙ no_more in
    record {
      found =
          sym (ap (λ b. b && list_all (is_stuck v.before.world) others) here)
          ∙ sym (ap (λ (ds : List Daemon). list_all (is_stuck v.before.world) ds) is);
      still = first.still;
    }

-- a daemon that didn't wait for the ticket waits for it now
pub doubts_new : (r : Roll) (d : Daemon) (ticket : ℕ) → waits_for d ticket ≡ false → (v : GroundState) → Doubts r d ticket answers.Waits v v
doubts_new r d ticket new v = record {
  seen = sym (ap (λ b. waiting_answer b (is_stalled r v.before.world)) new);
  still = still_same v;
}

-- one that did is told whether all have stalled
pub doubts_again : (r : Roll) (d : Daemon) (ticket : ℕ) (ds : List Daemon) (stuck : Bool) (answer : Answer)
    → waits_for d ticket ≡ true → ds ≡ r.daemons → answer ≡ waiting_answer true stuck → (v v' : GroundState)
    → Finds ds stuck v v' → Doubts r d ticket answer v v'
doubts_again r d ticket ds stuck answer again same is v v' finds = record {
  seen =
      is ∙ (λ i. waiting_answer (sym again i) (finds.found i))
      ∙ ap (λ (ds : List Daemon). waiting_answer (waits_for d ticket) (list_all (is_stuck v.before.world) ds)) same;
  still = finds.still;
}

-- a ticket that isn't there, or is granted, needs no doubt
pub sees_at_once : (r : Roll) (d : Daemon) (ticket : ℕ) (granted : Option Bool) (answer : Answer)
    → ((waiting : Answer) → answer ≡ answer_seen granted ticket waiting)
    → (v v' : GroundState) → Shows ticket granted v v' → Sees r d ticket answer v v'
sees_at_once r d ticket granted answer is v v' shows = record {
  seen =
      is (waiting_answer (waits_for d ticket) (is_stalled r v.before.world))
      ∙ ap (λ (o : Option Bool). answer_seen o ticket (waiting_answer (waits_for d ticket) (is_stalled r v.before.world))) shows.shown;
  still = shows.still;
}

-- one that waits is answered by the doubt
pub sees_doubtful : (r : Roll) (d : Daemon) (ticket : ℕ) (granted : Option Bool) (answer : Answer) → granted ≡ Some false → (v v' v'' : GroundState)
    → Shows ticket granted v v' → Doubts r d ticket answer v' v'' → Sees r d ticket answer v v''
sees_doubtful r d ticket granted answer waits v v' v'' shows doubts = record {
  seen =
      doubts.seen
      ∙ ap (λ (s : State). waiting_answer (waits_for d ticket) (is_stalled r s.world)) shows.still.before
      ∙ ap (λ (o : Option Bool). answer_seen o ticket (waiting_answer (waits_for d ticket) (is_stalled r v.before.world))) (sym waits ∙ shows.shown);
  still = still_then v v' v'' shows.still doubts.still;
}
