-- The order of the tickets in a queue, and a ticket that enters it.
use Rattle.std.proofs.Common.{◌≡◌, ℕ, ◌+◌, ◌<◌, ◌==◌, ◌&&◌, ◌||◌, zero, suc, List, [], ◌∷◌, Bool, true, false, cond, not, nat_lt, nat_le, insert, refl, sym, ap, ◌∙◌, subst, arith, true≢false, one-add}
use Rattle.std.specs.List.{AllByRecursion, prefix_len}
use Rattle.std.specs.Prelude.{AllPairs}
use Rattle.std.proofs.lemmas.Bool.Decides.{nat_tests}
use Rattle.std.proofs.lemmas.List.Elements.{All-from_recursion, recursion_from_All}
use Rattle.std.proofs.lemmas.List.Kept.{AllPairs-cons}
use Rattle.law_steps.proofs.DistinctLemmas.{on_test}
use Rattle.sdr_model.specs.Queue.{enqueued, stands_before}
use Rattle.sdr_model.specs.Valid.{may_precede}
use Rattle.sdr_model.specs.declared.accounts.Ticket.{Ticket}

-- each ticket may stand before each later one
abbrev pub AreOrdered : List Ticket → Type 0
AreOrdered [] = Unit {0}
AreOrdered (t ∷ ts) = AllByRecursion (λ u. may_precede t u ≡ true) ts × AreOrdered ts

pub ordered : (ts : List Ticket) → AllPairs (λ a b. may_precede a b ≡ true) ts → AreOrdered ts
ordered [] h = tt
ordered (t ∷ ts) h = (
  recursion_from_All (λ u. may_precede t u ≡ true) ts (λ k d within. h zero (suc k) d (omega arith) (omega arith)),
  ordered ts (λ i j d lt within. h (suc i) (suc j) d (omega arith) (omega arith)),
)

pub pairs : (ts : List Ticket) → AreOrdered ts → AllPairs (λ a b. may_precede a b ≡ true) ts
pairs [] h = λ i j d lt within. absurd (omega (arith, within, lt))
pairs (t ∷ ts) h =
    AllPairs-cons (λ a b. may_precede a b ≡ true) t ts (All-from_recursion (λ u. may_precede t u ≡ true) ts h.0)
    (pairs ts h.1)

-- P of each, where it holds of all
pub every : {X : Type 0} (P : X → Type 0) → ((x : X) → P x) → (xs : List X) → AllByRecursion P xs
every P all [] = tt
every P all (x ∷ xs) = (all x, every P all xs)

pub each : {X : Type 0} (P Q : X → Type 0) → ((x : X) → P x → Q x) → (xs : List X) → AllByRecursion P xs
    → AllByRecursion Q xs
each P Q f [] all = tt
each P Q f (x ∷ xs) all = (f x all.0, each P Q f xs all.1)

-- a ticket that may stand before another
pub first_granted : (t u : Ticket) → t.granted ≡ true → may_precede t u ≡ true
first_granted t u is =
    ap (λ b. b || (not u.granted && (nat_lt u.coarse t.coarse || (t.coarse == u.coarse
    && (nat_lt u.fine t.fine || (t.fine == u.fine && nat_lt t.number u.number)))))) is

-- whether waiting tickets of these priorities and numbers may stand so
abbrev pub goes_first : (ca cb fa fb na nb : ℕ) → Bool
goes_first ca cb fa fb na nb = nat_lt cb ca || (ca == cb && (nat_lt fb fa || (fa == fb && nat_lt na nb)))

-- a ticket that doesn't stand before a new one stands behind it
turned : (ct cn ft fn nt nn : ℕ) → nat_lt cn ct || (ct == cn && nat_le fn ft) ≡ false
    → goes_first cn ct fn ft nn nt ≡ true
turned ct cn ft fn nt nn h = grind (arith, nat_tests)

-- and one behind it too
passed_on : (ct cn cu ft fn fu nt nn nu : ℕ) → nat_lt cn ct || (ct == cn && nat_le fn ft) ≡ false
    → goes_first ct cu ft fu nt nu ≡ true → goes_first cn cu fn fu nn nu ≡ true
passed_on ct cn cu ft fn fu nt nn nu h k = grind (arith, nat_tests)

-- a ticket that stands before a new one, of a greater number
kept_first : (ct cn ft fn nt nn : ℕ) → nt < nn → nat_lt cn ct || (ct == cn && nat_le fn ft) ≡ true
    → goes_first ct cn ft fn nt nn ≡ true
kept_first ct cn ft fn nt nn lt h = grind (arith, nat_tests)

-- a waiting ticket of a new one's kind: it waits, and its number is the greatest
pub record IsNew (n : Ticket) (ts : List Ticket) : Type 0 where
  pub waits : n.granted ≡ false
  pub greatest : AllByRecursion (λ t. t.number < n.number) ts

-- of two, where the first fails, the second passes
second : (a b : Bool) → a ≡ false → (a || b) ≡ true → b ≡ true
second false b w h = h
second true b w h = absurd (true≢false w)

pub waiting_precede : (t u : Ticket) → t.granted ≡ false → may_precede t u ≡ true
    → (u.granted ≡ false) × (goes_first t.coarse u.coarse t.fine u.fine t.number u.number ≡ true)
waiting_precede t u w h =
    apart u.granted (goes_first t.coarse u.coarse t.fine u.fine t.number u.number)
    (second t.granted (not u.granted && goes_first t.coarse u.coarse t.fine u.fine t.number u.number) w h)
  where
    apart : (b c : Bool) → (not b && c) ≡ true → (b ≡ false) × (c ≡ true)
    apart false c h = (refl, h)
    apart true c h = absurd (true≢false (sym h))

pub may_precede_waiting : (t u : Ticket) → u.granted ≡ false
    → goes_first t.coarse u.coarse t.fine u.fine t.number u.number ≡ true → may_precede t u ≡ true
may_precede_waiting t u w h =
    together t.granted u.granted (goes_first t.coarse u.coarse t.fine u.fine t.number u.number) w h
  where
    together : (a b c : Bool) → b ≡ false → c ≡ true → (a || (not b && c)) ≡ true
    together true b c w h = refl
    together false b c w h = ap (λ b. not b && c) w ∙ h

-- whether a waiting ticket stands before a new one
abbrev is_before : Ticket → Ticket → Bool
is_before t n = nat_lt n.coarse t.coarse || (t.coarse == n.coarse && nat_le n.fine t.fine)

-- of three, the last two together
or_last : (a b c : Bool) → (a || b || c) ≡ (a || (b || c))
or_last true b c = refl
or_last false b c = refl

stands_is : (t n : Ticket) → stands_before t n ≡ (t.granted || is_before t n)
stands_is t n = or_last t.granted (nat_lt n.coarse t.coarse) (t.coarse == n.coarse && nat_le n.fine t.fine)

-- what doesn't stand before a new ticket
behind : (t n : Ticket) → stands_before t n ≡ false
    → (t.granted ≡ false) × (is_before t n ≡ false)
behind t n h = apart t.granted (is_before t n) (sym (stands_is t n) ∙ h)
  where
    apart : (a b : Bool) → (a || b) ≡ false → (a ≡ false) × (b ≡ false)
    apart false b h = (refl, h)
    apart true b h = absurd (true≢false h)

in_front : (t n : Ticket) → n.granted ≡ false → t.number < n.number → stands_before t n ≡ true → may_precede t n ≡ true
in_front t n w lt h = by t.granted refl
  where
    by : (a : Bool) → t.granted ≡ a → may_precede t n ≡ true
    by true is = first_granted t n is
    by false is =
        may_precede_waiting t n w
        (kept_first t.coarse n.coarse t.fine n.fine t.number n.number lt
        (second t.granted (is_before t n) is (sym (stands_is t n) ∙ h)))

-- the queue with a new ticket, by recursion
abbrev pub placed : List Ticket → Ticket → List Ticket
placed [] n = n ∷ []
placed (t ∷ ts) n = cond (stands_before t n) (t ∷ placed ts n) (n ∷ t ∷ ts)

pub enqueued_is : (ts : List Ticket) (n : Ticket) → enqueued ts n ≡ placed ts n
enqueued_is [] n = refl
enqueued_is (t ∷ ts) n =
    on_test (stands_before t n)
    (λ e. ap (λ b. insert (t ∷ ts) (cond b (1 + prefix_len (λ t. stands_before t n) ts) 0) n) e
    ∙ ap (λ i. insert (t ∷ ts) i n) (one-add (prefix_len (λ t. stands_before t n) ts))
    ∙ ap (λ us. t ∷ us) (enqueued_is ts n)
    ∙ sym (ap (λ b. cond b (t ∷ placed ts n) (n ∷ t ∷ ts)) e))
    (λ e. ap (λ b. insert (t ∷ ts) (cond b (1 + prefix_len (λ t. stands_before t n) ts) 0) n) e
    ∙ sym (ap (λ b. cond b (t ∷ placed ts n) (n ∷ t ∷ ts)) e))

-- P of each, after a new one
pub all_placed : (P : Ticket → Type 0) (ts : List Ticket) (n : Ticket) → P n → AllByRecursion P ts
    → AllByRecursion P (placed ts n)
all_placed P [] n one all = (one, tt)
all_placed P (t ∷ ts) n one all =
    on_test (stands_before t n)
    (λ e. subst (λ b. AllByRecursion P (cond b (t ∷ placed ts n) (n ∷ t ∷ ts))) (sym e)
    (all.0, all_placed P ts n one all.1))
    (λ e. subst (λ b. AllByRecursion P (cond b (t ∷ placed ts n) (n ∷ t ∷ ts))) (sym e) (one, all))

pub ordered_placed : (ts : List Ticket) (n : Ticket) → IsNew n ts → AreOrdered ts → AreOrdered (placed ts n)
ordered_placed [] n new order = (tt, tt)
ordered_placed (t ∷ ts) n new order =
    on_test (stands_before t n)
    (λ e. subst (λ b. AreOrdered (cond b (t ∷ placed ts n) (n ∷ t ∷ ts))) (sym e) (
      all_placed (λ u. may_precede t u ≡ true) ts n (in_front t n new.waits new.greatest.0 e) order.0,
      ordered_placed ts n (record { waits = new.waits; greatest = new.greatest.1 }) order.1,
    ))
    (λ e. subst (λ b. AreOrdered (cond b (t ∷ placed ts n) (n ∷ t ∷ ts))) (sym e) (
      (
        may_precede_waiting n t (behind t n e).0
            (turned t.coarse n.coarse t.fine n.fine t.number n.number (behind t n e).1),
        each (λ u. may_precede t u ≡ true) (λ u. may_precede n u ≡ true)
            (λ u h. let two = waiting_precede t u (behind t n e).0 h in
            may_precede_waiting n u two.0
            (passed_on t.coarse n.coarse u.coarse t.fine n.fine u.fine t.number n.number u.number
            (behind t n e).1 two.1)) ts order.0,
      ),
      order,
    ))
