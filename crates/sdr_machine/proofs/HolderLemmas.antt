-- Who holds a number, and what a step leaves of that.
use Rattle.std.proofs.Common.{◌≡◌, ◌≤◌, ◌⊎◌, ◌∙◌, ◌==◌, ◌+◌, ◌||◌, ◌&&◌, ℕ, List, [], ◌∷◌, suc, Bool, true, false, true≢false, Option, None, Some, IsSome, is_none, is_some, cond, find, length, min, if◌then◌else◌, nat_le, arith, refl, sym, ap, subst, inl, inr}
use Rattle.std.proofs.lemmas.Bool.Decides.{nat_tests}
use Rattle.std.specs.List.{list_any}
use Rattle.std.specs.Option.{option_map_or}
use Rattle.sdr_machine.specs.Holders.{HoldFirst, hold_none, holders}
use Rattle.sdr_machine.specs.Leaving.{holds_number, served_daemon}
use Rattle.sdr_machine.specs.Roll.{Roll, least_held, lesser_of, put_daemon}
use Rattle.sdr_machine.specs.declared.daemon.Daemon.{Daemon}
use Rattle.sdr_machine.specs.declared.daemon.Holding.{Holding}
use Rattle.sdr_machine.proofs.RollLemmas.{put_here, put_later, same_number}

both : (a b : Bool) → a && b ≡ true → (a ≡ true) × (b ≡ true)
both true b is = (refl, is)
both false b is = absurd (true≢false (sym is))

module _ (d : Daemon) where
  -- a daemon that is put takes no place
  pub put_length : (ds : List Daemon) → length (put_daemon ds d) ≡ length ds
  put_length [] = refl
  put_length (x ∷ xs) = by (put_length xs) (x.id == d.id) refl
    where
      by : length (put_daemon xs d) ≡ length xs → (b : Bool) → (x.id == d.id) ≡ b → length (put_daemon (x ∷ xs) d) ≡ length (x ∷ xs)
      by rest true is = ap length (put_here x xs d is)
      by rest false is = ap length (put_later x xs d is) ∙ ap suc rest

  -- where it hasn't left if it holds a number, each still may hold
  pub put_first : (before : List ℕ) (ds : List Daemon) → (IsSome d.holds → d.left ≡ false) → list_any (λ id. id == d.id) before ≡ false
      → HoldFirst before ds → HoldFirst before (put_daemon ds d)
  put_first before [] stays out first = tt
  put_first before (x ∷ xs) stays out first = by (λ other. put_first (x.id ∷ before) xs stays other first.1) (x.id == d.id) refl
    where
      by : (list_any (λ id. id == d.id) (x.id ∷ before) ≡ false → HoldFirst (x.id ∷ before) (put_daemon xs d)) → (b : Bool) → (x.id == d.id) ≡ b
          → HoldFirst before (put_daemon (x ∷ xs) d)
      by rest true is =
          subst (HoldFirst before) (sym (put_here x xs d is))
          (λ holds. record { stays = stays holds; first = out }, subst (λ id. HoldFirst (id ∷ before) xs) (same_number x.id d.id is) first.1)
      by rest false is =
          subst (HoldFirst before) (sym (put_later x xs d is))
          (first.0, rest ((λ i. is i || list_any (λ id. id == d.id) before) ∙ out))

  -- where none holds a number, and it doesn't, none does
  pub put_none : (ds : List Daemon) → d.holds ≡ None → hold_none ds ≡ true → hold_none (put_daemon ds d) ≡ true
  put_none [] free none = refl
  put_none (x ∷ xs) free none = by (put_none xs free) (x.id == d.id) refl
    where
      parts : (is_none x.holds ≡ true) × (hold_none xs ≡ true)
      parts = both (is_none x.holds) (hold_none xs) none

      by : (hold_none xs ≡ true → hold_none (put_daemon xs d) ≡ true) → (b : Bool) → (x.id == d.id) ≡ b → hold_none (put_daemon (x ∷ xs) d) ≡ true
      by rest true is = ap hold_none (put_here x xs d is) ∙ (λ i. is_none (free i) && parts.1 i)
      by rest false is = ap hold_none (put_later x xs d is) ∙ (λ i. parts.0 i && rest parts.1 i)

-- the daemon that is found and holds a number is the first of its id, and hasn't left
pub record IsFirst (before : List ℕ) (ds : List Daemon) (d : Daemon) : Type 0 where
  pub found : find (λ (x : Daemon). x.id == d.id) ds ≡ Some d
  pub stays : d.left ≡ false
  pub first : list_any (λ id. id == d.id) before ≡ false

pub find_first : (p : Daemon → Bool) (before : List ℕ) (ds : List Daemon) (d : Daemon) → HoldFirst before ds → find p ds ≡ Some d → IsSome d.holds
    → IsFirst before ds d
find_first p before [] d first found holds = absurd cc
find_first p before (x ∷ xs) d first found holds = by (λ there. find_first p (x.id ∷ before) xs d first.1 there holds) (p x) refl found
  where
    not_either : (a b : Bool) → a || b ≡ false → (a ≡ false) × (b ≡ false)
    not_either true b is = absurd (true≢false is)
    not_either false b is = (refl, is)

    by : (find p xs ≡ Some d → IsFirst (x.id ∷ before) xs d) → (b : Bool) → p x ≡ b → cond b (Some x) (find p xs) ≡ Some d → IsFirst before (x ∷ xs) d
    by among true is here =
        let same : x ≡ d = cc in
        let may = first.0 (subst (λ (y : Daemon). IsSome y.holds) (sym same) holds) in
        subst (λ (y : Daemon). IsFirst before (x ∷ xs) y) same (record {
          found = ap (λ b. cond b (Some x) (find (λ (y : Daemon). y.id == x.id) xs)) (let e : (x.id == x.id) ≡ true = grind (arith, nat_tests) in e);
          stays = may.stays;
          first = may.first;
        })
    by among false is there =
        let rest = among there in
        let out = not_either (x.id == d.id) (list_any (λ id. id == d.id) before) rest.first in
        record {
          found = ap (λ b. cond b (Some x) (find (λ (y : Daemon). y.id == d.id) xs)) out.0 ∙ rest.found;
          stays = rest.stays;
          first = out.1;
        }

one_more : (b : Bool) (n : ℕ) → (if b then n + 1 else n) + 1 ≡ (if b then (n + 1) + 1 else n + 1)
one_more true n = refl
one_more false n = refl

-- one fewer holds a number where the one that is found gives it up
pub put_fewer : (d d' : Daemon) (ds : List Daemon) → find (λ (x : Daemon). x.id == d.id) ds ≡ Some d → d'.id ≡ d.id → IsSome d.holds → d'.holds ≡ None
    → holders ds ≡ holders (put_daemon ds d') + 1
put_fewer d d' [] found id holds free = absurd cc
put_fewer d d' (x ∷ xs) found id holds free = by (λ there. put_fewer d d' xs there id holds free) (x.id == d.id) refl found
  where
    same_test : (x.id == d'.id) ≡ (x.id == d.id)
    same_test = ap (λ n. x.id == n) id

    by : (find (λ (y : Daemon). y.id == d.id) xs ≡ Some d → holders xs ≡ holders (put_daemon xs d') + 1) → (b : Bool) → (x.id == d.id) ≡ b
        → cond b (Some x) (find (λ (y : Daemon). y.id == d.id) xs) ≡ Some d → holders (x ∷ xs) ≡ holders (put_daemon (x ∷ xs) d') + 1
    by among true is here =
        let same : x ≡ d = cc in
        ap (λ b. if b then holders xs + 1 else holders xs) (subst (λ (y : Daemon). is_some y.holds ≡ true) (sym same) holds)
        ∙ sym (ap (λ (ds : List Daemon). holders ds + 1) (put_here x xs d' (same_test ∙ is)) ∙ ap (λ (o : Option Holding). (if is_some o then holders xs + 1 else holders xs) + 1) free)
    by among false is there =
        let rest = among there in
        ap (λ n. if is_some x.holds then n + 1 else n) rest
        ∙ sym (ap (λ (ds : List Daemon). holders ds + 1) (put_later x xs d' (same_test ∙ is)) ∙ one_more (is_some x.holds) (holders (put_daemon xs d')))

-- no more hold a number than there are
pub holders_few : (ds : List Daemon) → holders ds ≤ length ds
holders_few [] = omega arith
holders_few (x ∷ xs) = by (holders_few xs) (is_some x.holds)
  where
    by : holders xs ≤ length xs → (b : Bool) → (if b then holders xs + 1 else holders xs) ≤ length (x ∷ xs)
    by rest true = omega (arith, rest)
    by rest false = omega (arith, rest)

-- where none holds one, none is served
pub none_least : (ds : List Daemon) → hold_none ds ≡ true → least_held ds ≡ 0
none_least [] none = refl
none_least (x ∷ xs) none = by (none_least xs) x.holds none
  where
    by : (hold_none xs ≡ true → least_held xs ≡ 0) → (o : Option Holding) → (is_none o && hold_none xs) ≡ true
        → lesser_of o (least_held xs) ≡ 0
    by among None rest = among rest
    by among (Some h) rest = absurd (true≢false (sym rest))

-- where one is held, the least is
least_reached : (ds : List Daemon) → (hold_none ds ≡ true) ⊎ (list_any (holds_number (least_held ds)) ds ≡ true)
least_reached [] = inl refl
least_reached (x ∷ xs) = by x.holds refl (least_reached xs)
  where
    right : (a : Bool) → a || true ≡ true
    right true = refl
    right false = refl

    self : (n : ℕ) → (n == n) ≡ true
    self n = grind (arith, nat_tests)

    head : (h : Holding) (n : ℕ) → x.holds ≡ Some h → h.number ≡ n → holds_number n x || list_any (holds_number n) xs ≡ true
    head h n is same =
        ap (λ (o : Option Holding). option_map_or (λ (h : Holding). h.number == n) o false || list_any (holds_number n) xs) is
        ∙ ap (λ k. (h.number == k) || list_any (holds_number n) xs) (sym same) ∙ ap (λ b. b || list_any (holds_number n) xs) (self h.number)

    least : (h : Holding) (n : ℕ) → n ≡ least_held xs → (hold_none xs ≡ true) ⊎ (list_any (holds_number (least_held xs)) xs ≡ true) → (b : Bool) → (n == 0) ≡ b → x.holds ≡ Some h
        → (holds_number (if b then h.number else min h.number n) x || list_any (holds_number (if b then h.number else min h.number n)) xs) ≡ true
    least h n same rest true zero is = head h h.number is refl
    least h n same (inl none) false some is = absurd (true≢false (sym (ap (λ k. k == 0) (same ∙ none_least xs none)) ∙ some))
    least h n same (inr reached) false some is = smaller (nat_le h.number n) refl
      where
        smaller : (b : Bool) → nat_le h.number n ≡ b → (holds_number (min h.number n) x || list_any (holds_number (min h.number n)) xs) ≡ true
        smaller true le = let least : min h.number n ≡ h.number = grind (arith, nat_tests) in head h (min h.number n) is (sym least)
        smaller false above =
            let least : min h.number n ≡ least_held xs = (let e : min h.number n ≡ n = grind (arith, nat_tests) in e) ∙ same in
            ap (λ k. holds_number k x || list_any (holds_number k) xs) least ∙ (λ i. holds_number (least_held xs) x || reached i) ∙ right (holds_number (least_held xs) x)

    by : (o : Option Holding) → x.holds ≡ o → (hold_none xs ≡ true) ⊎ (list_any (holds_number (least_held xs)) xs ≡ true)
        → (hold_none (x ∷ xs) ≡ true) ⊎ (list_any (holds_number (least_held (x ∷ xs))) (x ∷ xs) ≡ true)
    by None is (inl none) = inl ((λ i. is_none (is i) && hold_none xs) ∙ none)
    by None is (inr reached) =
        inr (ap (λ (o : Option Holding). holds_number (lesser_of o (least_held xs)) x || list_any (holds_number (lesser_of o (least_held xs))) xs) is
        ∙ (λ i. holds_number (least_held xs) x || reached i) ∙ right (holds_number (least_held xs) x))
    by (Some h) is rest =
        inr (ap (λ (o : Option Holding). holds_number (lesser_of o (least_held xs)) x || list_any (holds_number (lesser_of o (least_held xs))) xs) is
        ∙ least h (least_held xs) refl rest (least_held xs == 0) refl is)

find_any : (p : Daemon → Bool) (ds : List Daemon) → find p ds ≡ None → list_any p ds ≡ false
find_any p [] none = refl
find_any p (x ∷ xs) none = by (find_any p xs) (p x) refl none
  where
    by : (find p xs ≡ None → list_any p xs ≡ false) → (b : Bool) → p x ≡ b → cond b (Some x) (find p xs) ≡ None → (p x || list_any p xs) ≡ false
    by among true is here = absurd cc
    by among false is there = ap (λ b. b || list_any p xs) is ∙ among there

-- where no number is served, none is held
pub unserved_none : (r : Roll) → served_daemon r ≡ None → hold_none r.daemons ≡ true
unserved_none r none = by (least_reached r.daemons)
  where
    by : (hold_none r.daemons ≡ true) ⊎ (list_any (holds_number (least_held r.daemons)) r.daemons ≡ true) → hold_none r.daemons ≡ true
    by (inl free) = free
    by (inr reached) = absurd (true≢false (sym reached ∙ find_any (holds_number (least_held r.daemons)) r.daemons none))

-- the daemon that is served holds the number that is
pub served_holds : (p : Daemon → Bool) (ds : List Daemon) (d : Daemon) → find p ds ≡ Some d → p d ≡ true
served_holds p [] d found = absurd cc
served_holds p (x ∷ xs) d found = by (served_holds p xs d) (p x) refl found
  where
    by : (find p xs ≡ Some d → p d ≡ true) → (b : Bool) → p x ≡ b → cond b (Some x) (find p xs) ≡ Some d → p d ≡ true
    by among true is here = let same : x ≡ d = cc in subst (λ (y : Daemon). p y ≡ true) same is
    by among false is there = among there

-- where none holds a number, one that is found doesn't
pub find_free : (p : Daemon → Bool) (ds : List Daemon) (d : Daemon) → find p ds ≡ Some d → hold_none ds ≡ true → is_none d.holds ≡ true
find_free p [] d found none = absurd cc
find_free p (x ∷ xs) d found none = by (find_free p xs d) (p x) refl found (both (is_none x.holds) (hold_none xs) none)
  where
    by : (find p xs ≡ Some d → hold_none xs ≡ true → is_none d.holds ≡ true) → (b : Bool) → p x ≡ b → cond b (Some x) (find p xs) ≡ Some d
        → (is_none x.holds ≡ true) × (hold_none xs ≡ true) → is_none d.holds ≡ true
    by among true is here parts = let same : x ≡ d = cc in subst (λ (y : Daemon). is_none y.holds ≡ true) same parts.0
    by among false is there parts = among there parts.1

-- where one is found that holds a number, there is one
pub found_some : (p : Daemon → Bool) (ds : List Daemon) (d : Daemon) → find p ds ≡ Some d → IsSome d.holds → 1 ≤ holders ds
found_some p [] d found holds = absurd cc
found_some p (x ∷ xs) d found holds = by (λ there. found_some p xs d there holds) (p x) refl found
  where
    more : (b : Bool) (n : ℕ) → 1 ≤ n → 1 ≤ (if b then n + 1 else n)
    more true n some = omega arith
    more false n some = some

    by : (find p xs ≡ Some d → 1 ≤ holders xs) → (b : Bool) → p x ≡ b → cond b (Some x) (find p xs) ≡ Some d → 1 ≤ holders (x ∷ xs)
    by among true is here =
        let same : x ≡ d = cc in
        let holds_here : is_some x.holds ≡ true = subst (λ (y : Daemon). is_some y.holds ≡ true) (sym same) holds in
        subst (λ b. 1 ≤ (if b then holders xs + 1 else holders xs)) (sym holds_here) (omega arith)
    by among false is there = more (is_some x.holds) (holders xs) (among there)
