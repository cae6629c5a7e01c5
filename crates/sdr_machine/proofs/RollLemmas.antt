-- The daemons of a roll, where one is put in its place.
use Rattle.std.proofs.Common.{◌||◌, ◌≡◌, ◌≤◌, ◌<◌, ◌∙◌, ◌==◌, ◌+◌, ℕ, suc, List, [], ◌∷◌, Bool, true, false, not, Option, None, Some, arith, refl, sym, ap, subst, cond, map, min, nat_lt, length, find, true≢false}
use Rattle.std.specs.List.{AllByRecursion, list_any, prefix_len}
use Rattle.std.specs.Prelude.{if◌then◌else◌, slice_set}
use Rattle.std.specs.Option.{option_map_or}
use Rattle.std.proofs.lemmas.Bool.Decides.{nat_tests}
use Rattle.sdr_machine.specs.Roll.{least_held, lesser_of, newcomer, put_daemon}
use Rattle.sdr_machine.specs.Served.{HoldsWithin, IsNumberDrawn}
use Rattle.sdr_machine.specs.declared.daemon.Daemon.{Daemon}
use Rattle.sdr_machine.specs.declared.daemon.Holding.{Holding}

-- what a daemon is put in the place of
pub put_here : (x : Daemon) (ds : List Daemon) (d : Daemon) → (x.id == d.id) ≡ true → put_daemon (x ∷ ds) d ≡ d ∷ ds
put_here x ds d here =
    let within : nat_lt 0 (suc (length ds)) ≡ true = grind (arith, nat_tests) in
    rw (here, within) refl

pub put_later : (x : Daemon) (ds : List Daemon) (d : Daemon) → (x.id == d.id) ≡ false → put_daemon (x ∷ ds) d ≡ x ∷ put_daemon ds d
put_later x ds d there =
    rw there (by (prefix_len (λ (y : Daemon). not (y.id == d.id)) ds) (1 + prefix_len (λ (y : Daemon). not (y.id == d.id)) ds)
    (nat_lt (prefix_len (λ (y : Daemon). not (y.id == d.id)) ds) (length ds)) (omega arith) refl)
  where
    by : (n k : ℕ) (b : Bool) → k ≡ suc n → nat_lt n (length ds) ≡ b
        → option_map_or (λ place. slice_set (x ∷ ds) place d) (cond (nat_lt k (suc (length ds))) (Some k) None) (x ∷ ds)
        ≡ x ∷ option_map_or (λ place. slice_set ds place d) (cond (nat_lt n (length ds)) (Some n) None) ds
    by n k true s e =
        let within : nat_lt (suc n) (suc (length ds)) ≡ true = grind (arith, nat_tests) in
        rw (s, e, within) refl
    by n k false s e =
        let without : nat_lt (suc n) (suc (length ds)) ≡ false = grind (arith, nat_tests) in
        rw (s, e, without) refl

-- numbers that are told equal are, and the other way round
pub same_number : (a b : ℕ) → (a == b) ≡ true → a ≡ b
same_number a b e = grind (arith, nat_tests)

pub number_same : (a b : ℕ) → a ≡ b → (a == b) ≡ true
number_same a b e = grind (arith, nat_tests)

pub turned : (a b : ℕ) → (a == b) ≡ false → (b == a) ≡ false
turned a b e = grind (arith, nat_tests)

-- where two things are told of one test
pub contrary : {R : Type 0} {b : Bool} → b ≡ true → b ≡ false → R
contrary is isnt = absurd (true≢false (sym is ∙ isnt))

-- the daemon of a number among these
abbrev pub among : ℕ → List Daemon → Option Daemon
among id ds = find (λ (d : Daemon). d.id == id) ds

-- what holds of each of these daemons
pub each_also : (P Q : Daemon → Type 0) → ((d : Daemon) → P d → Q d) → (ds : List Daemon) → AllByRecursion P ds → AllByRecursion Q ds
each_also P Q also [] all = tt
each_also P Q also (d ∷ ds) all = (also d all.0, each_also P Q also ds all.1)

pub each_put : (P : Daemon → Type 0) (ds : List Daemon) (d : Daemon) → AllByRecursion P ds → P d → AllByRecursion P (put_daemon ds d)
each_put P [] d all p = tt
each_put P (x ∷ ds) d all p = by (x.id == d.id) refl (each_put P ds d all.1 p)
  where
    by : (b : Bool) → (x.id == d.id) ≡ b → AllByRecursion P (put_daemon ds d) → AllByRecursion P (put_daemon (x ∷ ds) d)
    by true e rest = subst (AllByRecursion P) (sym (put_here x ds d e)) (p, all.1)
    by false e rest = subst (AllByRecursion P) (sym (put_later x ds d e)) (all.0, rest)

pub each_found : (P : Daemon → Type 0) (ds : List Daemon) (id : ℕ) (d : Daemon) → among id ds ≡ Some d → AllByRecursion P ds → P d
each_found P [] id d found all = absurd cc
each_found P (x ∷ ds) id d found all = by (x.id == id) found (λ rest. each_found P ds id d rest all.1)
  where
    by : (b : Bool) → cond b (Some x) (among id ds) ≡ Some d → (among id ds ≡ Some d → P d) → P d
    by true e rest = subst P (let s : x ≡ d = cc in s) all.0
    by false e rest = rest e

-- the daemon that is found has the number
pub found_number : (ds : List Daemon) (id : ℕ) (d : Daemon) → among id ds ≡ Some d → (d.id == id) ≡ true
found_number [] id d found = absurd cc
found_number (x ∷ ds) id d found = by (x.id == id) refl found (found_number ds id d)
  where
    by : (b : Bool) → (x.id == id) ≡ b → cond b (Some x) (among id ds) ≡ Some d → (among id ds ≡ Some d → (d.id == id) ≡ true) → (d.id == id) ≡ true
    by true here e rest = let s : x ≡ d = cc in subst (λ (y : Daemon). (y.id == id) ≡ true) s here
    by false here e rest = rest e

-- and it is one of theirs
pub found_member : (ds : List Daemon) (id : ℕ) (d : Daemon) → among id ds ≡ Some d → list_any (λ n. n == id) (map (λ (x : Daemon). x.id) ds) ≡ true
found_member [] id d found = absurd cc
found_member (x ∷ ds) id d found = by (x.id == id) found (found_member ds id d)
  where
    by : (b : Bool) → cond b (Some x) (among id ds) ≡ Some d → (among id ds ≡ Some d → list_any (λ n. n == id) (map (λ (x : Daemon). x.id) ds) ≡ true)
        → (b || list_any (λ n. n == id) (map (λ (x : Daemon). x.id) ds)) ≡ true
    by true e rest = refl
    by false e rest = rest e

-- one that was put in place of another of its number is found
pub found_put : (ds : List Daemon) (d x : Daemon) → among d.id ds ≡ Some x → among d.id (put_daemon ds d) ≡ Some d
found_put [] d x found = absurd cc
found_put (y ∷ ds) d x found = by (y.id == d.id) refl found (found_put ds d x)
  where
    self : (d.id == d.id) ≡ true
    self = number_same d.id d.id refl

    by : (b : Bool) → (y.id == d.id) ≡ b → cond b (Some y) (among d.id ds) ≡ Some x
        → (among d.id ds ≡ Some x → among d.id (put_daemon ds d) ≡ Some d) → among d.id (put_daemon (y ∷ ds) d) ≡ Some d
    by true e found rest = ap (among d.id) (put_here y ds d e) ∙ ap (λ b. cond b (Some d) (among d.id ds)) self
    by false e found rest = ap (among d.id) (put_later y ds d e) ∙ ap (λ b. cond b (Some y) (among d.id (put_daemon ds d))) e ∙ rest found

-- and any other is found as before
pub other_put : (ds : List Daemon) (d : Daemon) (id : ℕ) → (d.id == id) ≡ false → among id (put_daemon ds d) ≡ among id ds
other_put [] d id other = refl
other_put (y ∷ ds) d id other = by (y.id == d.id) refl (other_put ds d id other)
  where
    by : (b : Bool) → (y.id == d.id) ≡ b → among id (put_daemon ds d) ≡ among id ds → among id (put_daemon (y ∷ ds) d) ≡ among id (y ∷ ds)
    by true e rest =
        let there : (y.id == id) ≡ false = subst (λ n. (n == id) ≡ false) (sym (same_number y.id d.id e)) other in
        ap (among id) (put_here y ds d e) ∙ ap (λ b. cond b (Some d) (among id ds)) other ∙ sym (ap (λ b. cond b (Some y) (among id ds)) there)
    by false e rest = ap (among id) (put_later y ds d e) ∙ ap (λ more. cond (y.id == id) (Some y) more) rest

-- the numbers stay
pub numbers_put : (ds : List Daemon) (d : Daemon) → map (λ (x : Daemon). x.id) (put_daemon ds d) ≡ map (λ (x : Daemon). x.id) ds
numbers_put [] d = refl
numbers_put (y ∷ ds) d = by (y.id == d.id) refl (numbers_put ds d)
  where
    numbers : List Daemon → List ℕ
    numbers xs = map (λ (x : Daemon). x.id) xs

    by : (b : Bool) → (y.id == d.id) ≡ b → map (λ (x : Daemon). x.id) (put_daemon ds d) ≡ map (λ (x : Daemon). x.id) ds
        → map (λ (x : Daemon). x.id) (put_daemon (y ∷ ds) d) ≡ y.id ∷ map (λ (x : Daemon). x.id) ds
    by true e rest = ap (λ xs. map (λ (x : Daemon). x.id) xs) (put_here y ds d e) ∙ ap (λ n. n ∷ map (λ (x : Daemon). x.id) ds) (sym (same_number y.id d.id e))
    by false e rest = ap (λ xs. map (λ (x : Daemon). x.id) xs) (put_later y ds d e) ∙ ap (λ xs. y.id ∷ xs) rest

-- the least of two numbers, of which one may be none
lesser_least : (n most : ℕ) → (if n == 0 then most else min most n) ≤ most
lesser_least n most = by (n == 0)
  where
    by : (b : Bool) → (if b then most else min most n) ≤ most
    by true = omega arith
    by false = omega arith

lesser_some : (n most : ℕ) → 1 ≤ most → 1 ≤ (if n == 0 then most else min most n)
lesser_some n most some = by (n == 0) refl
  where
    by : (b : Bool) → (n == 0) ≡ b → 1 ≤ (if b then most else min most n)
    by true e = omega arith
    by false e = let there : 1 ≤ n = grind (arith, nat_tests) in omega arith

lesser_other : (n most : ℕ) → 1 ≤ n → (if n == 0 then most else min most n) ≤ n
lesser_other n most some = by (n == 0) refl
  where
    by : (b : Bool) → (n == 0) ≡ b → (if b then most else min most n) ≤ n
    by true e = absurd (let z : n ≡ 0 = same_number n 0 e in omega arith)
    by false e = omega arith

-- where a daemon holds a number, the least is 1 at least, and no more than it
pub least_found : (ds : List Daemon) (drawn id : ℕ) (d : Daemon) (h : Holding) → AllByRecursion (IsNumberDrawn drawn) ds → among id ds ≡ Some d → d.holds ≡ Some h
    → (1 ≤ least_held ds) × (least_held ds ≤ h.number)
least_found [] drawn id d h all found holds = absurd cc
least_found (x ∷ ds) drawn id d h all found holds =
    by (x.id == id) found x.holds refl all.0 (λ rest. least_found ds drawn id d h all.1 rest holds)
  where
    by : (b : Bool) → cond b (Some x) (among id ds) ≡ Some d → (o : Option Holding) → x.holds ≡ o → HoldsWithin drawn o
        → (among id ds ≡ Some d → (1 ≤ least_held ds) × (least_held ds ≤ h.number))
        → (1 ≤ lesser_of o (least_held ds)) × (lesser_of o (least_held ds) ≤ h.number)
    by true e (Some k) is within rest =
        let s : x ≡ d = cc in
        let t : Some k ≡ Some h = sym is ∙ ap (λ (y : Daemon). y.holds) s ∙ holds in
        let same : k ≡ h = cc in
        let number : k.number ≡ h.number = ap (λ (y : Holding). y.number) same in
        (lesser_some (least_held ds) k.number within.0, (let l = lesser_least (least_held ds) k.number in omega arith))
    by true e None is within rest =
        let s : x ≡ d = cc in
        let t : None ≡ Some h = sym is ∙ ap (λ (y : Daemon). y.holds) s ∙ holds in
        absurd cc
    by false e None is within rest = rest e
    by false e (Some k) is within rest =
        let r : (1 ≤ least_held ds) × (least_held ds ≤ h.number) = rest e in
        let one : 1 ≤ least_held ds = r.0 in
        let most : least_held ds ≤ h.number = r.1 in
        (lesser_some (least_held ds) k.number within.0, (let l = lesser_other (least_held ds) k.number one in omega arith))

-- the number of a holding, if there is one
abbrev pub number_held : Option Holding → Option ℕ
number_held None = None
number_held (Some h) = Some h.number

lesser_same : (o p : Option Holding) (n : ℕ) → number_held o ≡ number_held p → lesser_of o n ≡ lesser_of p n
lesser_same None None n e = refl
lesser_same None (Some h) n e = absurd cc
lesser_same (Some h) None n e = absurd cc
lesser_same (Some h) (Some k) n e = let s : h.number ≡ k.number = cc in ap (λ m. if n == 0 then m else min m n) s

-- the least number stays where a daemon is put in place of one that held the same
pub least_put : (ds : List Daemon) (d x : Daemon) → among d.id ds ≡ Some x → number_held d.holds ≡ number_held x.holds
    → least_held (put_daemon ds d) ≡ least_held ds
least_put [] d x found same = refl
least_put (y ∷ ds) d x found same = by (y.id == d.id) refl found (least_put ds d x)
  where
    by : (b : Bool) → (y.id == d.id) ≡ b → cond b (Some y) (among d.id ds) ≡ Some x
        → (among d.id ds ≡ Some x → number_held d.holds ≡ number_held x.holds → least_held (put_daemon ds d) ≡ least_held ds)
        → least_held (put_daemon (y ∷ ds) d) ≡ least_held (y ∷ ds)
    by true e found rest =
        let s : y ≡ x = cc in
        ap least_held (put_here y ds d e) ∙ lesser_same d.holds y.holds (least_held ds) (same ∙ ap (λ (z : Daemon). number_held z.holds) (sym s))
    by false e found rest = ap least_held (put_later y ds d e) ∙ ap (lesser_of y.holds) (rest found same)

-- the least of these numbers is one that may be held
pub least_within : (ds : List Daemon) (drawn : ℕ) → AllByRecursion (IsNumberDrawn drawn) ds → least_held ds ≤ drawn
least_within [] drawn all = omega arith
least_within (x ∷ ds) drawn all = by x.holds all.0 (least_within ds drawn all.1)
  where
    by : (o : Option Holding) → HoldsWithin drawn o → least_held ds ≤ drawn → lesser_of o (least_held ds) ≤ drawn
    by None within rest = rest
    by (Some k) within rest = let l = lesser_least (least_held ds) k.number in let m : k.number ≤ drawn = within.1 in omega arith

lesser_drawn : (n number drawn : ℕ) → 1 ≤ n → n ≤ drawn → drawn < number → (if n == 0 then number else min number n) ≡ n
lesser_drawn n number drawn one most above = by (n == 0) refl
  where
    by : (b : Bool) → (n == 0) ≡ b → (if b then number else min number n) ≡ n
    by true e = absurd (let z : n ≡ 0 = same_number n 0 e in omega arith)
    by false e = omega arith

-- two lesser numbers may be taken in any order
lesser_twice : (a b n : ℕ) → 1 ≤ a → 1 ≤ b
    → (if (if n == 0 then b else min b n) == 0 then a else min a (if n == 0 then b else min b n))
    ≡ (if (if n == 0 then a else min a n) == 0 then b else min b (if n == 0 then a else min a n))
lesser_twice a b n one other = by (n == 0) refl
  where
    nonzero : (m : ℕ) → 1 ≤ m → (m == 0) ≡ false
    nonzero m some = grind (arith, nat_tests)

    by : (t : Bool) → (n == 0) ≡ t
        → (if (if t then b else min b n) == 0 then a else min a (if t then b else min b n))
        ≡ (if (if t then a else min a n) == 0 then b else min b (if t then a else min a n))
    by true e = let p = nonzero a one in let q = nonzero b other in rw (p, q) (omega arith)
    by false e =
        let there : 1 ≤ n = grind (arith, nat_tests) in
        let p : (min a n == 0) ≡ false = nonzero (min a n) (omega arith) in
        let q : (min b n == 0) ≡ false = nonzero (min b n) (omega arith) in
        rw (p, q) (omega arith)

-- the least number where a daemon has drawn one above all
least_drawn : (ds : List Daemon) (drawn : ℕ) (d x : Daemon) (h : Holding) → AllByRecursion (IsNumberDrawn drawn) ds → among d.id ds ≡ Some x → x.holds ≡ None
    → d.holds ≡ Some h → 1 ≤ h.number → least_held (put_daemon ds d) ≡ lesser_of (Some h) (least_held ds)
least_drawn [] drawn d x h all found none holds one = absurd cc
least_drawn (y ∷ ds) drawn d x h all found none holds one =
    by (y.id == d.id) refl found (λ rest. least_drawn ds drawn d x h all.1 rest none holds one)
  where
    turn : (o : Option Holding) → HoldsWithin drawn o → lesser_of o (lesser_of (Some h) (least_held ds)) ≡ lesser_of (Some h) (lesser_of o (least_held ds))
    turn None within = refl
    turn (Some k) within = lesser_twice k.number h.number (least_held ds) within.0 one

    by : (b : Bool) → (y.id == d.id) ≡ b → cond b (Some y) (among d.id ds) ≡ Some x
        → (among d.id ds ≡ Some x → least_held (put_daemon ds d) ≡ lesser_of (Some h) (least_held ds))
        → least_held (put_daemon (y ∷ ds) d) ≡ lesser_of (Some h) (least_held (y ∷ ds))
    by true e found rest =
        let s : y ≡ x = cc in
        let empty : y.holds ≡ None = ap (λ (z : Daemon). z.holds) s ∙ none in
        ap least_held (put_here y ds d e) ∙ ap (λ o. lesser_of o (least_held ds)) holds
        ∙ ap (λ o. lesser_of (Some h) (lesser_of o (least_held ds))) (sym empty)
    by false e found rest = ap least_held (put_later y ds d e) ∙ ap (lesser_of y.holds) (rest found) ∙ turn y.holds all.0

-- a number that is drawn is not served before those that are held
pub least_stays : (ds : List Daemon) (drawn : ℕ) (d x : Daemon) (h : Holding) → AllByRecursion (IsNumberDrawn drawn) ds → among d.id ds ≡ Some x → x.holds ≡ None
    → d.holds ≡ Some h → drawn < h.number → 1 ≤ least_held ds → least_held (put_daemon ds d) ≡ least_held ds
least_stays ds drawn d x h all found none holds above some =
    least_drawn ds drawn d x h all found none holds (omega arith) ∙ lesser_drawn (least_held ds) h.number drawn some (least_within ds drawn all) above

-- no daemon has come
pub each_newcomer : (P : Daemon → Type 0) → ((id : ℕ) → P (newcomer id)) → (ids : List ℕ) → AllByRecursion P (map newcomer ids)
each_newcomer P is [] = tt
each_newcomer P is (id ∷ ids) = (is id, each_newcomer P is ids)

pub numbers_of_newcomers : (ids : List ℕ) → map (λ (d : Daemon). d.id) (map newcomer ids) ≡ ids
numbers_of_newcomers [] = refl
numbers_of_newcomers (id ∷ ids) = ap (λ rest. id ∷ rest) (numbers_of_newcomers ids)
