-- What serving a queue grants.
use Rattle.std.proofs.Common.{◌≡◌, ℕ, ◌+◌, ◌≤◌, ◌==◌, ◌&&◌, ◌||◌, not, List, [], ◌∷◌, Bool, true, false, true≢false, nat_eq, refl, sym, ap, ◌∙◌, arith, if◌then◌else◌}
use Rattle.std.specs.Cmp.{nat_eq_equiv}
use Rattle.std.specs.List.{AllByRecursion, sum_by}
use Rattle.std.proofs.lemmas.List.Sums.{sum_by-cons}
use Rattle.sdr_base.specs.declared.account.Amounts.{Amounts}
use Rattle.sdr_base.specs.declared.kind.Space.{Space}
use Rattle.law_steps.proofs.BarredLemmas.{amount_by, left_in-cons}
use Rattle.law_steps.proofs.DistinctLemmas.{on_test, weight}
use Rattle.law_steps.proofs.QueueLemmas.{serving, times}
use Rattle.law_steps.specs.Charged.{grants, was_granted}
use Rattle.sdr_model.specs.Amounts.{amount, plus}
use Rattle.sdr_model.specs.Charges.{left_in}
use Rattle.sdr_model.specs.Queue.{granted, served}
use Rattle.sdr_model.specs.Valid.{IsValidTicket}
use Rattle.sdr_model.specs.declared.accounts.Ticket.{Ticket}

-- whether a ticket is granted that wasn't among these
abbrev pub newly : List Ticket → Ticket → Bool
newly old t = t.granted && not (was_granted old t.number)

-- a ticket is granted where it was among these
pub record IsAsBefore (old : List Ticket) (t : Ticket) : Type 0 where
  pub known : newly old t ≡ false
  pub waits : t.granted ≡ false → was_granted old t.number ≡ false

grants-cons : (old : List Ticket) (space : Space) (t : Ticket) (ts : List Ticket)
    → grants old (t ∷ ts) space ≡ (if newly old t then amount t.asked space else 0) + grants old ts space
grants-cons old space t ts = sum_by-cons (λ (t : Ticket). if newly old t then amount t.asked space else 0) t ts

-- none of these was granted since
pub none_granted : (old : List Ticket) (space : Space) (ts : List Ticket) → AllByRecursion (IsAsBefore old) ts
    → grants old ts space ≡ 0
none_granted old space [] all = refl
none_granted old space (t ∷ ts) all =
    omega (
      arith,
      grants-cons old space t ts,
      ap (λ b. if b then amount t.asked space else 0) all.0.known,
      none_granted old space ts all.1,
    )

-- serving grants what the tickets that it grants ask
pub served_grants : (old : List Ticket) (space : Space) (m o : Amounts) (ts : List Ticket)
    → AllByRecursion (IsAsBefore old) ts → AllByRecursion IsValidTicket ts
    → left_in space (served m o ts) ≡ left_in space ts + grants old (served m o ts) space
served_grants old space m o [] all valid = refl
served_grants old space m o (t ∷ ts) all valid =
    serving (λ us. left_in space us ≡ left_in space (t ∷ ts) + grants old us space) m o t ts
    (λ is. omega (
      arith,
      served_grants old space m o ts all.1 valid.1,
      left_in-cons space t ts,
      left_in-cons space t (served m o ts),
      grants-cons old space t (served m o ts),
      ap (λ b. if b then amount t.asked space else 0) all.0.known,
    ))
    (λ waits fits. omega (
      arith,
      served_grants old space m (plus o t.asked) ts all.1 valid.1,
      left_in-cons space t ts,
      left_in-cons space (granted t) (served m (plus o t.asked) ts),
      grants-cons old space (granted t) (served m (plus o t.asked) ts),
      ap (λ b. if not b then amount t.asked space else 0) (all.0.waits waits),
      ap (λ a. amount a space) (valid.0.waiting waits) ∙ amount_by (λ space. 0) space,
    ))
    (λ waits above. omega (arith, none_granted old space (t ∷ ts) all))

-- how many of these are granted, or wait, of a number
abbrev granted_times : ℕ → List Ticket → ℕ
granted_times k = sum_by (λ t. weight (t.number == k && t.granted))

abbrev waiting_times : ℕ → List Ticket → ℕ
waiting_times k = sum_by (λ t. weight (t.number == k && not t.granted))

granted-cons : (k : ℕ) (t : Ticket) (ts : List Ticket)
    → granted_times k (t ∷ ts) ≡ weight (t.number == k && t.granted) + granted_times k ts
granted-cons k t ts = sum_by-cons (λ (t : Ticket). weight (t.number == k && t.granted)) t ts

waiting-cons : (k : ℕ) (t : Ticket) (ts : List Ticket)
    → waiting_times k (t ∷ ts) ≡ weight (t.number == k && not t.granted) + waiting_times k ts
waiting-cons k t ts = sum_by-cons (λ (t : Ticket). weight (t.number == k && not t.granted)) t ts

all_times : (k : ℕ) (ts : List Ticket) → granted_times k ts + waiting_times k ts ≡ times k ts
all_times k [] = refl
all_times k (t ∷ ts) =
    omega (
      arith,
      all_times k ts,
      granted-cons k t ts,
      waiting-cons k t ts,
      sum_by-cons (λ (t : Ticket). weight (nat_eq k t.number)) t ts,
      one (t.number == k) t.granted,
      ap weight (nat_eq_equiv.symm k t.number),
    )
  where
    one : (b c : Bool) → weight (b && c) + weight (b && not c) ≡ weight b
    one true true = refl
    one true false = refl
    one false c = refl

-- a number was granted where it counts
was_counted : (k : ℕ) (ts : List Ticket) → was_granted ts k ≡ true → 1 ≤ granted_times k ts
was_counted k [] is = absurd (true≢false (sym is))
was_counted k (t ∷ ts) is =
    on_test (t.number == k && t.granted)
    (λ here. omega (arith, granted-cons k t ts, ap weight here))
    (λ away. omega (
      arith,
      granted-cons k t ts,
      was_counted k ts (sym (ap (λ b. b || was_granted ts k) away) ∙ is),
    ))

counted_was : (k : ℕ) (ts : List Ticket) → 1 ≤ granted_times k ts → was_granted ts k ≡ true
counted_was k [] some = absurd (omega (arith, some))
counted_was k (t ∷ ts) some =
    on_test (t.number == k && t.granted)
    (λ here. ap (λ b. b || was_granted ts k) here)
    (λ away. ap (λ b. b || was_granted ts k) away
    ∙ counted_was k ts (omega (arith, some, granted-cons k t ts, ap weight away)))

-- a number that is nowhere wasn't granted
pub never_granted : (k : ℕ) (ts : List Ticket) → times k ts ≡ 0 → was_granted ts k ≡ false
never_granted k ts none =
    on_test (was_granted ts k) (λ is. absurd (omega (arith, none, all_times k ts, was_counted k ts is))) (λ no. no)

-- tickets of distinct numbers are as before
part_as_before : (old ts : List Ticket) → ((k : ℕ) → times k old ≤ 1)
    → ((k : ℕ) → granted_times k ts ≤ granted_times k old) → ((k : ℕ) → waiting_times k ts ≤ waiting_times k old)
    → AllByRecursion (IsAsBefore old) ts
part_as_before old [] few g h = tt
part_as_before old (t ∷ ts) few g h = (
  record {
    known = known t.granted refl;
    waits = λ waits. on_test (was_granted old t.number)
        (λ was. absurd (omega (
          arith,
          was_counted t.number old was,
          all_times t.number old,
          few t.number,
          h t.number,
          waiting-cons t.number t ts,
          itself (not t.granted) (ap not waits),
        )))
        (λ no. no);
  },
  part_as_before old ts few (λ k. omega (arith, g k, granted-cons k t ts))
      (λ k. omega (arith, h k, waiting-cons k t ts)),
)
  where
    itself : (b : Bool) → b ≡ true → weight (t.number == t.number && b) ≡ 1
    itself b is = ap (λ c. weight (c && b)) (nat_eq_equiv.refl t.number) ∙ ap weight is

    known : (b : Bool) → t.granted ≡ b → newly old t ≡ false
    known false waits = ap (λ b. b && not (was_granted old t.number)) waits
    known true is =
        ap (λ b. b && not (was_granted old t.number)) is
        ∙ ap not (counted_was t.number old
        (omega (arith, g t.number, granted-cons t.number t ts, itself t.granted is)))

pub all_as_before : (old : List Ticket) → ((k : ℕ) → times k old ≤ 1) → AllByRecursion (IsAsBefore old) old
all_as_before old few = part_as_before old old few (λ k. omega arith) (λ k. omega arith)
