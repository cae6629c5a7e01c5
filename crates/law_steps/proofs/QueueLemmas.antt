-- The queue of an account keeps its law: a ticket enters it, is another, or goes, and it is served.
use Rattle.std.proofs.Common.{◌≡◌, ℕ, ◌+◌, ◌<◌, ◌≤◌, zero, suc, List, [], ◌∷◌, Bool, true, false, cond, nat_eq, set, remove, refl, ap, ◌∙◌, arith, true≢false}
use Rattle.std.specs.List.{AllByRecursion, sum_by}
use Rattle.std.specs.Prelude.{Some, slice_get}
use Rattle.std.proofs.lemmas.Bool.{eqb-true}
use Rattle.std.proofs.lemmas.Bool.Decides.{nat_tests}
use Rattle.std.proofs.lemmas.List.Sums.{sum_by-cons}
use Rattle.sdr_base.specs.declared.account.Amounts.{Amounts}
use Rattle.law_steps.proofs.DistinctLemmas.{on_test, weight}
use Rattle.sdr_model.specs.Amounts.{are_within, minus, plus}
use Rattle.sdr_model.specs.Queue.{granted, served, stands_before}
use Rattle.sdr_model.specs.Valid.{IsValidTicket, may_precede}
use Rattle.sdr_model.specs.declared.accounts.Ticket.{Ticket}
use Rattle.law_steps.proofs.QueueOrder.{AreOrdered, all_placed, each, every, first_granted, goes_first, may_precede_waiting, ordered_placed, placed, waiting_precede}

-- how often a number is there
abbrev pub times : ℕ → List Ticket → ℕ
times k = sum_by (λ t. weight (nat_eq k t.number))

times-cons : (k : ℕ) (t : Ticket) (ts : List Ticket) → times k (t ∷ ts) ≡ weight (nat_eq k t.number) + times k ts
times-cons k t ts = sum_by-cons (λ (t : Ticket). weight (nat_eq k t.number)) t ts

pub times_placed : (k : ℕ) (ts : List Ticket) (n : Ticket)
    → times k (placed ts n) ≡ times k ts + weight (nat_eq k n.number)
times_placed k [] n = omega (arith, times-cons k n [])
times_placed k (t ∷ ts) n =
    on_test (stands_before t n)
    (λ e. omega (
      arith,
      ap (λ b. times k (cond b (t ∷ placed ts n) (n ∷ t ∷ ts))) e,
      times_placed k ts n,
      times-cons k t ts,
      times-cons k t (placed ts n),
    ))
    (λ e. omega (arith, ap (λ b. times k (cond b (t ∷ placed ts n) (n ∷ t ∷ ts))) e, times-cons k n (t ∷ ts)))

-- what is within itself
pub within_itself : (a : Amounts) → are_within a a ≡ true
within_itself a = grind (arith, nat_tests)

-- a granted ticket is valid again
granted_valid : (t : Ticket) → IsValidTicket t → IsValidTicket (granted t)
granted_valid t v = record {
  asked = v.asked;
  left = within_itself t.asked;
  waiting = λ no. absurd (true≢false no);
}

-- the queue law of one queue, where the next number is this
pub record IsQueue (next : ℕ) (ts : List Ticket) : Type 0 where
  pub valid : AllByRecursion IsValidTicket ts
  pub order : AreOrdered ts
  pub below : AllByRecursion (λ t. t.number < next) ts

tail : {next : ℕ} {t : Ticket} {ts : List Ticket} → IsQueue next (t ∷ ts) → IsQueue next ts
tail q = record { valid = q.valid.1; order = q.order.1; below = q.below.1 }

-- a granted ticket may be put before a queue
granted_front : (next : ℕ) (t : Ticket) (ts : List Ticket) → t.granted ≡ true → IsValidTicket t → t.number < next
    → IsQueue next ts → IsQueue next (t ∷ ts)
granted_front next t ts is valid below q = record {
  valid = (valid, q.valid);
  order = (every (λ u. may_precede t u ≡ true) (λ u. first_granted t u is) ts, q.order);
  below = (below, q.below);
}

-- what follows whatever serving does with the first ticket
pub serving : (R : List Ticket → Type 0) (m o : Amounts) (t : Ticket) (ts : List Ticket)
    → (t.granted ≡ true → R (t ∷ served m o ts))
    → (t.granted ≡ false → are_within t.asked (minus m o) ≡ true → R (granted t ∷ served m (plus o t.asked) ts))
    → (t.granted ≡ false → are_within t.asked (minus m o) ≡ false → R (t ∷ ts)) → R (served m o (t ∷ ts))
serving R m o t ts keeps grants stops = by t.granted (are_within t.asked (minus m o)) keeps grants stops
  where
    by : (a b : Bool) → (a ≡ true → R (t ∷ served m o ts))
        → (a ≡ false → b ≡ true → R (granted t ∷ served m (plus o t.asked) ts))
        → (a ≡ false → b ≡ false → R (t ∷ ts))
        → R (cond a (t ∷ served m o ts) (cond b (granted t ∷ served m (plus o t.asked) ts) (t ∷ ts)))
    by true b f g h = f refl
    by false true f g h = g refl refl
    by false false f g h = h refl refl

pub served_queue : (next : ℕ) (m o : Amounts) (ts : List Ticket) → IsQueue next ts → IsQueue next (served m o ts)
served_queue next m o [] q = q
served_queue next m o (t ∷ ts) q =
    serving (IsQueue next) m o t ts
    (λ is. granted_front next t (served m o ts) is q.valid.0 q.below.0 (served_queue next m o ts (tail q)))
    (λ waits fits. granted_front next (granted t) (served m (plus o t.asked) ts) refl
    (granted_valid t q.valid.0) q.below.0 (served_queue next m (plus o t.asked) ts (tail q)))
    (λ waits above. q)

pub times_served : (k : ℕ) (m o : Amounts) (ts : List Ticket) → times k (served m o ts) ≡ times k ts
times_served k m o [] = refl
times_served k m o (t ∷ ts) =
    serving (λ us. times k us ≡ times k (t ∷ ts)) m o t ts
    (λ is. omega (arith, times_served k m o ts, times-cons k t ts, times-cons k t (served m o ts)))
    (λ waits fits. omega (
      arith,
      times_served k m (plus o t.asked) ts,
      times-cons k t ts,
      times-cons k (granted t) (served m (plus o t.asked) ts),
    ))
    (λ waits above. refl)

-- a ticket of the same standing as another: only its block and its amounts may differ
pub record IsAlike (t u : Ticket) : Type 0 where
  pub number : u.number ≡ t.number
  pub coarse : u.coarse ≡ t.coarse
  pub fine : u.fine ≡ t.fine
  pub granted : u.granted ≡ t.granted

alike_behind : (s t u : Ticket) → IsAlike t u → may_precede s t ≡ true → may_precede s u ≡ true
alike_behind s t u a h = by s.granted refl
  where
    by : (b : Bool) → s.granted ≡ b → may_precede s u ≡ true
    by true is = first_granted s u is
    by false is =
        let two = waiting_precede s t is h in
        may_precede_waiting s u (a.granted ∙ two.0)
        (ap (λ c. goes_first s.coarse c s.fine u.fine s.number u.number) a.coarse
        ∙ ap (λ f. goes_first s.coarse t.coarse s.fine f s.number u.number) a.fine
        ∙ ap (λ n. goes_first s.coarse t.coarse s.fine t.fine s.number n) a.number
        ∙ two.1)

alike_before : (t u s : Ticket) → IsAlike t u → may_precede t s ≡ true → may_precede u s ≡ true
alike_before t u s a h = by t.granted refl
  where
    by : (b : Bool) → t.granted ≡ b → may_precede u s ≡ true
    by true is = first_granted u s (a.granted ∙ is)
    by false is =
        let two = waiting_precede t s is h in
        may_precede_waiting u s two.0
        (ap (λ c. goes_first c s.coarse u.fine s.fine u.number s.number) a.coarse
        ∙ ap (λ f. goes_first t.coarse s.coarse f s.fine u.number s.number) a.fine
        ∙ ap (λ n. goes_first t.coarse s.coarse t.fine s.fine n s.number) a.number
        ∙ two.1)

-- what stands at a place of a queue may be replaced by this one
pub record MayReplace (ts : List Ticket) (i : ℕ) (u : Ticket) : Type 0 where
  pub alike : (t : Ticket) → slice_get ts i ≡ Some t → IsAlike t u
  pub valid : (t : Ticket) → slice_get ts i ≡ Some t → IsValidTicket t → IsValidTicket u

pub all_replaced : (P : Ticket → Type 0) (ts : List Ticket) (i : ℕ) (u : Ticket)
    → ((t : Ticket) → slice_get ts i ≡ Some t → P t → P u) → AllByRecursion P ts → AllByRecursion P (set ts i u)
all_replaced P [] i u f all = tt
all_replaced P (t ∷ ts) zero u f all = (f t refl all.0, all.1)
all_replaced P (t ∷ ts) (suc i) u f all = (all.0, all_replaced P ts i u f all.1)

ordered_replaced : (ts : List Ticket) (i : ℕ) (u : Ticket) → ((t : Ticket) → slice_get ts i ≡ Some t → IsAlike t u)
    → AreOrdered ts → AreOrdered (set ts i u)
ordered_replaced [] i u a order = order
ordered_replaced (s ∷ ts) zero u a order = (
  each (λ v. may_precede s v ≡ true) (λ v. may_precede u v ≡ true) (λ v h. alike_before s u v (a s refl) h) ts order.0,
  order.1,
)
ordered_replaced (s ∷ ts) (suc i) u a order = (
  all_replaced (λ v. may_precede s v ≡ true) ts i u (λ v at h. alike_behind s v u (a v at) h) order.0,
  ordered_replaced ts i u a order.1,
)

pub replaced_queue : (next : ℕ) (ts : List Ticket) (i : ℕ) (u : Ticket) → MayReplace ts i u → IsQueue next ts
    → IsQueue next (set ts i u)
replaced_queue next ts i u r q = record {
  valid = all_replaced IsValidTicket ts i u r.valid q.valid;
  order = ordered_replaced ts i u r.alike q.order;
  below = all_replaced (λ t. t.number < next) ts i u
      (λ t at lt. omega (arith, lt, (r.alike t at).number)) q.below;
}

pub times_replaced : (k : ℕ) (ts : List Ticket) (i : ℕ) (u : Ticket)
    → ((t : Ticket) → slice_get ts i ≡ Some t → IsAlike t u) → times k (set ts i u) ≡ times k ts
times_replaced k [] i u a = refl
times_replaced k (t ∷ ts) zero u a =
    omega (arith, times-cons k t ts, times-cons k u ts, ap (λ n. weight (nat_eq k n)) (a t refl).number)
times_replaced k (t ∷ ts) (suc i) u a =
    omega (arith, times_replaced k ts i u a, times-cons k t ts, times-cons k t (set ts i u))

pub all_gone : (P : Ticket → Type 0) (ts : List Ticket) (i : ℕ) → AllByRecursion P ts → AllByRecursion P (remove ts i)
all_gone P [] zero all = tt
all_gone P [] (suc i) all = tt
all_gone P (t ∷ ts) zero all = all.1
all_gone P (t ∷ ts) (suc i) all = (all.0, all_gone P ts i all.1)

pub gone_queue : (next : ℕ) (ts : List Ticket) (i : ℕ) → IsQueue next ts → IsQueue next (remove ts i)
gone_queue next [] zero q = q
gone_queue next [] (suc i) q = q
gone_queue next (t ∷ ts) zero q = tail q
gone_queue next (t ∷ ts) (suc i) q =
    let rest = gone_queue next ts i (tail q) in
    record {
      valid = (q.valid.0, rest.valid);
      order = (all_gone (λ u. may_precede t u ≡ true) ts i q.order.0, rest.order);
      below = (q.below.0, rest.below);
    }

pub times_gone : (k : ℕ) (ts : List Ticket) (i : ℕ) → times k (remove ts i) ≤ times k ts
times_gone k [] zero = omega arith
times_gone k [] (suc i) = omega arith
times_gone k (t ∷ ts) zero = omega (arith, times-cons k t ts)
times_gone k (t ∷ ts) (suc i) =
    omega (arith, times_gone k ts i, times-cons k t ts, times-cons k t (remove ts i))

-- a new ticket of the next number may enter a queue
pub placed_queue : (next : ℕ) (ts : List Ticket) (n : Ticket) → n.granted ≡ false → n.number ≡ next → IsValidTicket n
    → IsQueue next ts → IsQueue (next + 1) (placed ts n)
placed_queue next ts n waits is valid q = record {
  valid = all_placed IsValidTicket ts n valid q.valid;
  order = ordered_placed ts n (record {
    waits = waits;
    greatest = each (λ t. t.number < next) (λ t. t.number < n.number) (λ t lt. omega (arith, lt, is)) ts q.below;
  }) q.order;
  below = all_placed (λ t. t.number < next + 1) ts n (omega (arith, is))
      (each (λ t. t.number < next) (λ t. t.number < next + 1) (λ t lt. omega (arith, lt)) ts q.below);
}

-- a queue stays one where the next number is greater
pub later_queue : (next : ℕ) (ts : List Ticket) → IsQueue next ts → IsQueue (next + 1) ts
later_queue next ts q = record {
  valid = q.valid;
  order = q.order;
  below = each (λ t. t.number < next) (λ t. t.number < next + 1) (λ t lt. omega (arith, lt)) ts q.below;
}

-- the next number is nowhere
pub times_next : (next : ℕ) (ts : List Ticket) → AllByRecursion (λ t. t.number < next) ts → times next ts ≡ 0
times_next next [] below = refl
times_next next (t ∷ ts) below =
    on_test (nat_eq next t.number)
    (λ e. absurd (omega (arith, below.0, eqb-true next t.number e)))
    (λ e. omega (arith, times_next next ts below.1, times-cons next t ts, ap weight e))
