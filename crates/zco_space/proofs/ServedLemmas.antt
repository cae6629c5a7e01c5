-- What is occupied, and how many tickets are granted, where a queue is served.
use Rattle.std.proofs.Common.{◌≡◌, ◌≤◌, ◌+◌, ◌-◌, ℕ, List, [], ◌∷◌, ◌++◌, Bool, true, false, cond, Some, refl, sym, ap, ◌∙◌, arith, subst}
use Rattle.std.specs.Prelude.{All, IfSome, count_by, not}
use Rattle.std.proofs.lemmas.List.Elements.{All-cons, All-head, All-tail}
use Rattle.std.proofs.lemmas.List.Sums.{sum_by-cons}
use Rattle.sdr_base.specs.Linked.{first_of, last_of}
use Rattle.sdr_base.specs.declared.account.Amounts.{Amounts}
use Rattle.sdr_base.specs.declared.kind.Space.{Space}
use Rattle.sdr_model.specs.Amounts.{amount, are_within, minus, plus}
use Rattle.sdr_model.specs.Queue.{front_waiting, granted, served}
use Rattle.sdr_model.specs.declared.accounts.Ticket.{Ticket}
use Rattle.sdr_model.proofs.AmountLemmas.{amount-by, amount-plus, same_amounts}
use Rattle.zco_acct.specs.Kept.{TicketFits, block_of}
use Rattle.zco_space.specs.Places.{at_addr}
use Rattle.zco_space.specs.Served.{granted_in, newly_granted, occupied_after}

-- what is occupied once a queue was served
abbrev pub sum_served : Amounts → Amounts → List Ticket → Amounts
sum_served m o [] = o
sum_served m o (t ∷ ts) =
    cond t.granted (sum_served m o ts) (cond (are_within t.asked (minus m o)) (sum_served m (plus o t.asked) ts) o)

-- how many tickets were granted then
abbrev pub count_served : Amounts → Amounts → List Ticket → ℕ
count_served m o [] = 0
count_served m o (t ∷ ts) =
    cond t.granted (count_served m o ts) (cond (are_within t.asked (minus m o)) (1 + count_served m (plus o t.asked) ts) 0)

-- the first ticket is granted already, is granted now, or waits on
module _ (m o : Amounts) (t : Ticket) (ts : List Ticket) where
  pub served-granted : t.granted ≡ true → served m o (t ∷ ts) ≡ t ∷ served m o ts
  served-granted e =
      ap (λ b. cond b (t ∷ served m o ts)
      (cond (are_within t.asked (minus m o)) (granted t ∷ served m (plus o t.asked) ts) (t ∷ ts))) e

  pub sum-granted : t.granted ≡ true → sum_served m o (t ∷ ts) ≡ sum_served m o ts
  sum-granted e =
      ap (λ b. cond b (sum_served m o ts) (cond (are_within t.asked (minus m o)) (sum_served m (plus o t.asked) ts) o)) e

  pub count-granted : t.granted ≡ true → count_served m o (t ∷ ts) ≡ count_served m o ts
  count-granted e =
      ap (λ b. cond b (count_served m o ts)
      (cond (are_within t.asked (minus m o)) (1 + count_served m (plus o t.asked) ts) 0)) e

  pub served-fits : t.granted ≡ false → are_within t.asked (minus m o) ≡ true →
      served m o (t ∷ ts) ≡ granted t ∷ served m (plus o t.asked) ts
  served-fits e f =
      ap (λ b. cond b (t ∷ served m o ts)
      (cond (are_within t.asked (minus m o)) (granted t ∷ served m (plus o t.asked) ts) (t ∷ ts))) e
      ∙ ap (λ b. cond b (granted t ∷ served m (plus o t.asked) ts) (t ∷ ts)) f

  pub sum-fits : t.granted ≡ false → are_within t.asked (minus m o) ≡ true →
      sum_served m o (t ∷ ts) ≡ sum_served m (plus o t.asked) ts
  sum-fits e f =
      ap (λ b. cond b (sum_served m o ts) (cond (are_within t.asked (minus m o)) (sum_served m (plus o t.asked) ts) o)) e
      ∙ ap (λ b. cond b (sum_served m (plus o t.asked) ts) o) f

  pub count-fits : t.granted ≡ false → are_within t.asked (minus m o) ≡ true →
      count_served m o (t ∷ ts) ≡ 1 + count_served m (plus o t.asked) ts
  count-fits e f =
      ap (λ b. cond b (count_served m o ts)
      (cond (are_within t.asked (minus m o)) (1 + count_served m (plus o t.asked) ts) 0)) e
      ∙ ap (λ b. cond b (1 + count_served m (plus o t.asked) ts) 0) f

  pub served-waits : t.granted ≡ false → are_within t.asked (minus m o) ≡ false → served m o (t ∷ ts) ≡ t ∷ ts
  served-waits e f =
      ap (λ b. cond b (t ∷ served m o ts)
      (cond (are_within t.asked (minus m o)) (granted t ∷ served m (plus o t.asked) ts) (t ∷ ts))) e
      ∙ ap (λ b. cond b (granted t ∷ served m (plus o t.asked) ts) (t ∷ ts)) f

  pub sum-waits : t.granted ≡ false → are_within t.asked (minus m o) ≡ false → sum_served m o (t ∷ ts) ≡ o
  sum-waits e f =
      ap (λ b. cond b (sum_served m o ts) (cond (are_within t.asked (minus m o)) (sum_served m (plus o t.asked) ts) o)) e
      ∙ ap (λ b. cond b (sum_served m (plus o t.asked) ts) o) f

  pub count-waits : t.granted ≡ false → are_within t.asked (minus m o) ≡ false → count_served m o (t ∷ ts) ≡ 0
  count-waits e f =
      ap (λ b. cond b (count_served m o ts)
      (cond (are_within t.asked (minus m o)) (1 + count_served m (plus o t.asked) ts) 0)) e
      ∙ ap (λ b. cond b (1 + count_served m (plus o t.asked) ts) 0) f

-- what holds of each of the three cases
by_case : (P : Type 0) (a b : Bool) → (a ≡ true → P) → (a ≡ false → b ≡ true → P) → (a ≡ false → b ≡ false → P) → P
by_case P true b f g h = f refl
by_case P false true f g h = g refl refl
by_case P false false f g h = h refl refl

-- a number that isn't chosen
nothing_for : (b : Bool) (n : ℕ) → b ≡ false → cond b n 0 ≡ 0
nothing_for b n e = ap (λ v. cond v n 0) e

-- what a ticket asks of a space, where it is granted
granted-cons : (space : Space) (t : Ticket) (ts : List Ticket) →
    granted_in space (t ∷ ts) ≡ cond t.granted (amount t.asked space) 0 + granted_in space ts
granted-cons space t ts = sum_by-cons (λ (t : Ticket). cond t.granted (amount t.asked space) 0) t ts

count-cons : (t : Ticket) (ts : List Ticket) →
    count_by (λ (t : Ticket). t.granted) (t ∷ ts) ≡ cond t.granted 1 0 + count_by (λ (t : Ticket). t.granted) ts
count-cons t ts = sum_by-cons (λ (t : Ticket). cond t.granted 1 0) t ts

-- so much more is occupied as is granted
sum_is : (space : Space) (m o : Amounts) (ts : List Ticket) →
    (amount (sum_served m o ts) space + granted_in space ts ≡ amount o space + granted_in space (served m o ts))
    × (amount o space ≤ amount (sum_served m o ts) space)
sum_is space m o [] = (refl, omega arith)
sum_is space m o (t ∷ ts) =
    by_case _ t.granted (are_within t.asked (minus m o))
    (λ e.
    let ih = sum_is space m o ts in
    let now = ap (λ (l : List Ticket). granted_in space l) (served-granted m o t ts e) in
    let sum = ap (λ a. amount a space) (sum-granted m o t ts e) in (
      omega (arith, ih.0, now, sum, granted-cons space t ts, granted-cons space t (served m o ts)),
      omega (arith, ih.1, sum),
    ))
    (λ e f.
    let ih = sum_is space m (plus o t.asked) ts in
    let now = ap (λ (l : List Ticket). granted_in space l) (served-fits m o t ts e f) in
    let sum = ap (λ a. amount a space) (sum-fits m o t ts e f) in
    let none : cond t.granted (amount t.asked space) 0 ≡ 0 = ap (λ b. cond b (amount t.asked space) 0) e in (
      omega (
        arith,
        ih.0,
        now,
        sum,
        none,
        amount-plus o t.asked space,
        granted-cons space t ts,
        granted-cons space (granted t) (served m (plus o t.asked) ts),
      ),
      omega (arith, ih.1, sum, amount-plus o t.asked space),
    ))
    (λ e f.
    let now = ap (λ (l : List Ticket). granted_in space l) (served-waits m o t ts e f) in
    let sum = ap (λ a. amount a space) (sum-waits m o t ts e f) in (omega (arith, now, sum), omega (arith, sum)))

-- as the sums of what is asked say
pub sum_after : (m o : Amounts) (ts : List Ticket) → sum_served m o ts ≡ occupied_after o ts (served m o ts)
sum_after m o ts = same_amounts (sum_served m o ts) (occupied_after o ts (served m o ts)) (λ space.
    let s = sum_is space m o ts in
    let is : amount (sum_served m o ts) space ≡ amount o space + (granted_in space (served m o ts) - granted_in space ts) =
    omega (arith, s.0, s.1) in
    is ∙ sym (amount-by (λ space. amount o space + (granted_in space (served m o ts) - granted_in space ts)) space))

count_is : (m o : Amounts) (ts : List Ticket) →
    count_by (λ (t : Ticket). t.granted) (served m o ts) ≡ count_served m o ts + count_by (λ (t : Ticket). t.granted) ts
count_is m o [] = refl
count_is m o (t ∷ ts) =
    by_case _ t.granted (are_within t.asked (minus m o))
    (λ e.
    let ih = count_is m o ts in
    let now = ap (λ (l : List Ticket). count_by (λ (t : Ticket). t.granted) l) (served-granted m o t ts e) in
    omega (arith, ih, now, count-granted m o t ts e, count-cons t ts, count-cons t (served m o ts)))
    (λ e f.
    let ih = count_is m (plus o t.asked) ts in
    let now = ap (λ (l : List Ticket). count_by (λ (t : Ticket). t.granted) l) (served-fits m o t ts e f) in
    let none = nothing_for t.granted 1 e in
    omega (
      arith,
      ih,
      now,
      none,
      count-fits m o t ts e f,
      count-cons t ts,
      count-cons (granted t) (served m (plus o t.asked) ts),
    ))
    (λ e f.
    let now = ap (λ (l : List Ticket). count_by (λ (t : Ticket). t.granted) l) (served-waits m o t ts e f) in
    omega (arith, now, count-waits m o t ts e f))

-- as the counts say
pub count_after : (m o : Amounts) (ts : List Ticket) → count_served m o ts ≡ newly_granted ts (served m o ts)
count_after m o ts = let c = count_is m o ts in omega (arith, c)

-- the front one of these that waits doesn't fit where so much is occupied
abbrev IsBlocked : Amounts → Amounts → List Ticket → Type 0
IsBlocked m o tickets = IfSome (front_waiting tickets) (λ t. are_within t.asked (minus m o) ≡ false)

-- the first one waits, or it doesn't
blocked_first : (m o : Amounts) (t : Ticket) (ts : List Ticket) → t.granted ≡ false →
    are_within t.asked (minus m o) ≡ false → IsBlocked m o (t ∷ ts)
blocked_first m o t ts e f =
    subst (λ b. IfSome (cond (not b) (Some t) (front_waiting ts)) (λ t. are_within t.asked (minus m o) ≡ false)) (sym e) f

blocked_later : (m o : Amounts) (t : Ticket) (ts : List Ticket) → t.granted ≡ true → IsBlocked m o ts →
    IsBlocked m o (t ∷ ts)
blocked_later m o t ts e f =
    subst (λ b. IfSome (cond (not b) (Some t) (front_waiting ts)) (λ t. are_within t.asked (minus m o) ≡ false)) (sym e) f

blocked_as : (m : Amounts) {o p : Amounts} {ts us : List Ticket} → o ≡ p → ts ≡ us → IsBlocked m p us → IsBlocked m o ts
blocked_as m {o} {p} {ts} {us} a l f =
    subst (λ o. IsBlocked m o ts) (sym a) (subst (λ (ts : List Ticket). IsBlocked m p ts) (sym l) f)

-- the front one that waits doesn't fit
pub front_waits : (m o : Amounts) (ts : List Ticket) →
    IfSome (front_waiting (served m o ts)) (λ t. are_within t.asked (minus m (sum_served m o ts)) ≡ false)
front_waits m o [] = tt
front_waits m o (t ∷ ts) =
    by_case _ t.granted (are_within t.asked (minus m o))
    (λ e. blocked_as m (sum-granted m o t ts e) (served-granted m o t ts e)
    (blocked_later m (sum_served m o ts) t (served m o ts) e (front_waits m o ts)))
    (λ e f. blocked_as m (sum-fits m o t ts e f) (served-fits m o t ts e f)
    (blocked_later m (sum_served m (plus o t.asked) ts) (granted t) (served m (plus o t.asked) ts) refl
    (front_waits m (plus o t.asked) ts)))
    (λ e f. blocked_as m (sum-waits m o t ts e f) (served-waits m o t ts e f) (blocked_first m o t ts e f))

-- where a ticket stands doesn't matter
pub count-moved : (m o : Amounts) (xs : List Ticket) (t : Ticket) (a b : ℕ) (ys : List Ticket) →
    count_served m o (xs ++ (at_addr t a ∷ ys)) ≡ count_served m o (xs ++ (at_addr t b ∷ ys))
count-moved m o [] t a b ys = refl
count-moved m o (x ∷ xs) t a b ys =
    let one = count-moved m o xs t a b ys in
    let two = count-moved m (plus o x.asked) xs t a b ys in
    λ i. cond x.granted (one i) (cond (are_within x.asked (minus m o)) (1 + two i) 0)

-- the numbers of a ticket fit still once it is granted
fits_granted : {t : Ticket} → TicketFits t → TicketFits (granted t)
fits_granted f = record {
  block = f.block;
  number = f.number;
  coarse = f.coarse;
  fine = f.fine;
  asked = f.asked;
  left = f.asked;
}

pub All-served : (m o : Amounts) (ts : List Ticket) → All TicketFits ts → All TicketFits (served m o ts)
All-served m o [] f = f
All-served m o (t ∷ ts) f =
    by_case _ t.granted (are_within t.asked (minus m o))
    (λ e. subst (All TicketFits) (sym (served-granted m o t ts e))
    (All-cons TicketFits t (served m o ts) (All-head TicketFits t ts f) (All-served m o ts (All-tail TicketFits t ts f))))
    (λ e g. subst (All TicketFits) (sym (served-fits m o t ts e g))
    (All-cons TicketFits (granted t) (served m (plus o t.asked) ts) (fits_granted (All-head TicketFits t ts f))
    (All-served m (plus o t.asked) ts (All-tail TicketFits t ts f))))
    (λ e g. subst (All TicketFits) (sym (served-waits m o t ts e g)) f)

-- the first and the last ticket stay where they are
pub first-served : (m o : Amounts) (ts : List Ticket) → first_of block_of 0 (served m o ts) ≡ first_of block_of 0 ts
first-served m o [] = refl
first-served m o (t ∷ ts) =
    by_case _ t.granted (are_within t.asked (minus m o)) (λ e. ap (first_of block_of 0) (served-granted m o t ts e))
    (λ e f. ap (first_of block_of 0) (served-fits m o t ts e f))
    (λ e f. ap (first_of block_of 0) (served-waits m o t ts e f))

pub last-served : (prev : ℕ) (m o : Amounts) (ts : List Ticket) →
    last_of block_of prev (served m o ts) ≡ last_of block_of prev ts
last-served prev m o [] = refl
last-served prev m o (t ∷ ts) =
    by_case _ t.granted (are_within t.asked (minus m o))
    (λ e. ap (last_of block_of prev) (served-granted m o t ts e) ∙ last-served t.block m o ts)
    (λ e f. ap (last_of block_of prev) (served-fits m o t ts e f) ∙ last-served t.block m (plus o t.asked) ts)
    (λ e f. ap (last_of block_of prev) (served-waits m o t ts e f))
