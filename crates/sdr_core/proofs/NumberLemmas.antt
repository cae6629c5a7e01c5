-- The lock numbers of a run: each is held once, or done.
use Rattle.std.proofs.Common.{◌≡◌, ◌≤◌, ◌∙◌, ◌==◌, ◌+◌, ◌||◌, ℕ, zero, suc, List, [], ◌∷◌, Bool, true, false, true≢false, Option, None, Some, IsSome, is_some, cond, find, arith, refl, sym, ap, subst}
use Rattle.std.proofs.lemmas.Bool.Decides.{nat_tests}
use Rattle.std.specs.List.{AllByRecursion, list_any}
use Rattle.std.specs.Option.{option_map_or}
use Rattle.std.specs.Prelude.{if◌then◌else◌}
use Rattle.sdr_base.specs.Media.{Told}
use Rattle.sdr_machine.proofs.HolderLemmas.{IsFirst, find_first}
use Rattle.sdr_machine.specs.Core.{Core, CoreStep, RunsCore, first_core}
use Rattle.sdr_machine.specs.Ground.{State}
use Rattle.sdr_machine.specs.Holders.{HoldFirst, holders}
use Rattle.sdr_machine.specs.Leaving.{holds_number}
use Rattle.sdr_machine.specs.Machine.{Made, MachineStep}
use Rattle.sdr_machine.specs.declared.daemon.Daemon.{Daemon}
use Rattle.sdr_machine.specs.declared.daemon.Holding.{Holding}
use Rattle.sdr_machine.proofs.RollLemmas.{among}
use Rattle.sdr_machine.specs.Served.{HoldsWithin, IsNumberDrawn}
use Rattle.law_runs.proofs.RunLemmas.{run_keeps}
use Rattle.sdr_core.proofs.CoreLemmas.{first_new}
use Rattle.sdr_core.proofs.HoldingLemmas.{first_after}
use Rattle.sdr_core.specs.Numbers.{HoldApart, count_failing, is_held, numbers_done}

or_both : (a b : Bool) → (a || b) ≡ false → (a ≡ false) × (b ≡ false)
or_both true b is = absurd (true≢false is)
or_both false b is = (refl, is)

same_number : (a b : ℕ) → (a == b) ≡ true → a ≡ b
same_number a b is = grind (arith, nat_tests)

number_same : (a : ℕ) → (a == a) ≡ true
number_same a = grind (arith, nat_tests)

turned : (a b : ℕ) → (a == b) ≡ false → (b == a) ≡ false
turned a b is = grind (arith, nat_tests)

-- all fail a test that none passes
count_none : (test : ℕ → Bool) → ((m : ℕ) → test m ≡ false) → (n : ℕ) → count_failing test n ≡ n
count_none test none zero = refl
count_none test none (suc n) =
    (λ i. if none (suc n) i then count_failing test n else count_failing test n + 1) ∙ (let rest = count_none test none n in omega (arith, rest))

-- as many fail tests that tell the same
count_same : (t u : ℕ → Bool) (n : ℕ) → ((m : ℕ) → m ≤ n → t m ≡ u m) → count_failing t n ≡ count_failing u n
count_same t u zero same = refl
count_same t u (suc n) same =
    let rest : count_failing t n ≡ count_failing u n = count_same t u n (λ m le. same m (omega arith)) in
    λ i. if same (suc n) (omega arith) i then rest i else rest i + 1

-- one fewer fails a test that one more passes
count_one : (t u : ℕ → Bool) (k : ℕ) → 1 ≤ k → t k ≡ true → u k ≡ false → ((m : ℕ) → (m == k) ≡ false → t m ≡ u m) → (n : ℕ) → k ≤ n
    → count_failing t n + 1 ≡ count_failing u n
count_one t u k one passes fails same zero le = absurd (omega arith)
count_one t u k one passes fails same (suc n) le = by (suc n == k) refl (λ below. count_one t u k one passes fails same n below)
  where
    by : (b : Bool) → (suc n == k) ≡ b → (k ≤ n → count_failing t n + 1 ≡ count_failing u n) → count_failing t (suc n) + 1 ≡ count_failing u (suc n)
    by true here rest =
        let at : suc n ≡ k = same_number (suc n) k here in
        let below : count_failing t n ≡ count_failing u n =
        count_same t u n (λ m le. same m (let other : (m == k) ≡ false = grind (arith, nat_tests) in other)) in
        (λ i. (if (ap t at ∙ passes) i then count_failing t n else count_failing t n + 1) + 1) ∙ ap (λ c. c + 1) below
        ∙ sym (λ i. if (ap u at ∙ fails) i then count_failing u n else count_failing u n + 1)
    by false there rest = tested (u (suc n)) (same (suc n) there) refl (rest (let apart : k ≤ n = grind (arith, nat_tests) in apart))
      where
        tested : (b : Bool) → t (suc n) ≡ u (suc n) → u (suc n) ≡ b → count_failing t n + 1 ≡ count_failing u n → count_failing t (suc n) + 1 ≡ count_failing u (suc n)
        tested true both is rest =
            (λ i. (if (both ∙ is) i then count_failing t n else count_failing t n + 1) + 1) ∙ rest ∙ sym (λ i. if is i then count_failing u n else count_failing u n + 1)
        tested false both is rest =
            (λ i. (if (both ∙ is) i then count_failing t n else count_failing t n + 1) + 1) ∙ ap (λ c. c + 1) rest
            ∙ sym (λ i. if is i then count_failing u n else count_failing u n + 1)

-- The numbers that were drawn are those that are held, each once, and those that are done.
counted : (drawn : ℕ) (ds : List Daemon) → HoldApart ds → AllByRecursion (IsNumberDrawn drawn) ds → count_failing (is_held ds) drawn + holders ds ≡ drawn
counted drawn [] apart within = let all = count_none (is_held []) (λ m. refl) drawn in omega (arith, all)
counted drawn (d ∷ ds) apart within = by d.holds refl within.0 (counted drawn ds apart.1 within.1)
  where
    test : (o : Option Holding) → ℕ → Bool
    test o m = option_map_or (λ (h : Holding). h.number == m) o false || is_held ds m

    by : (o : Option Holding) → d.holds ≡ o → HoldsWithin drawn o → count_failing (is_held ds) drawn + holders ds ≡ drawn
        → count_failing (is_held (d ∷ ds)) drawn + holders (d ∷ ds) ≡ drawn
    by None holds w rest =
        let many : count_failing (is_held (d ∷ ds)) drawn ≡ count_failing (is_held ds) drawn =
        count_same (is_held (d ∷ ds)) (is_held ds) drawn (λ m le. ap (λ o. test o m) holds) in
        let held : holders (d ∷ ds) ≡ holders ds = λ i. if is_some (holds i) then holders ds + 1 else holders ds in
        omega (arith, many, held, rest)
    by (Some h) holds w rest =
        let many : count_failing (is_held (d ∷ ds)) drawn + 1 ≡ count_failing (is_held ds) drawn =
        count_one (is_held (d ∷ ds)) (is_held ds) h.number w.0
        (ap (λ o. test o h.number) holds ∙ ap (λ b. b || is_held ds h.number) (number_same h.number)) (apart.0 h holds)
        (λ m other. ap (λ o. test o m) holds ∙ ap (λ b. b || is_held ds m) (turned m h.number other)) drawn w.1 in
        let held : holders (d ∷ ds) ≡ holders ds + 1 = λ i. if is_some (holds i) then holders ds + 1 else holders ds in
        omega (arith, many, held, rest)

-- what is found where one passes the test
record Finds (p : Daemon → Bool) (ds : List Daemon) : Type 0 where
  one : Daemon
  found : find p ds ≡ Some one
  passes : p one ≡ true

find_some : (p : Daemon → Bool) (ds : List Daemon) → list_any p ds ≡ true → Finds p ds
find_some p [] some = absurd (true≢false (sym some))
find_some p (x ∷ ds) some = by (p x) refl some (λ rest. find_some p ds rest)
  where
    by : (b : Bool) → p x ≡ b → (b || list_any p ds) ≡ true → (list_any p ds ≡ true → Finds p ds) → Finds p (x ∷ ds)
    by true is any rest = record { one = x; found = ap (λ b. cond b (Some x) (find p ds)) is; passes = is }
    by false is any rest = let f = rest any in record { one = f.one; found = ap (λ b. cond b (Some x) (find p ds)) is ∙ f.found; passes = f.passes }

-- what is held where the number passes the test
record HoldsIt (number : ℕ) (o : Option Holding) : Type 0 where
  held : Holding
  is : o ≡ Some held
  number_is : held.number ≡ number

holds_it : (number : ℕ) (o : Option Holding) → option_map_or (λ (h : Holding). h.number == number) o false ≡ true → HoldsIt number o
holds_it number None it = absurd (true≢false (sym it))
holds_it number (Some k) it = record { held = k; is = refl; number_is = same_number k.number number it }

-- no two of the daemons that are found hold one number
abbrev FoundApart : List Daemon → Type 0
FoundApart all =
    (id other : ℕ) (d d' : Daemon) (h h' : Holding) → among id all ≡ Some d → d.holds ≡ Some h → among other all ≡ Some d' → d'.holds ≡ Some h' → h.number ≡ h'.number
    → id ≡ other

-- so no two of all do, since only the first of an id holds one
apart_from : (all : List Daemon) → FoundApart all → (before : List ℕ) (ds : List Daemon) → HoldFirst before ds
    → ((id : ℕ) → list_any (λ b. b == id) before ≡ false → among id all ≡ among id ds) → HoldApart ds
apart_from all found before [] first same = tt
apart_from all found before (d ∷ ds) first same = (λ h holds. by h holds (is_held ds h.number) refl, apart_from all found (d.id ∷ before) ds first.1 next)
  where
    next : (id : ℕ) → list_any (λ b. b == id) (d.id ∷ before) ≡ false → among id all ≡ among id ds
    next id out = let o = or_both (d.id == id) (list_any (λ b. b == id) before) out in same id o.1 ∙ ap (λ b. cond b (Some d) (among id ds)) o.0

    by : (h : Holding) → d.holds ≡ Some h → (b : Bool) → is_held ds h.number ≡ b → is_held ds h.number ≡ false
    by h holds false is = is
    by h holds true is =
        let x = find_some (holds_number h.number) ds is in
        let k = holds_it h.number x.one.holds x.passes in
        let f : IsFirst (d.id ∷ before) ds x.one =
        find_first (holds_number h.number) (d.id ∷ before) ds x.one first.1 x.found (subst IsSome (sym k.is) refl) in
        let mine : among d.id all ≡ Some d =
        same d.id (first.0 (subst IsSome (sym holds) refl)).first ∙ ap (λ b. cond b (Some d) (among d.id ds)) (number_same d.id) in
        let its : among x.one.id all ≡ Some x.one = next x.one.id f.first ∙ f.found in
        let one : d.id ≡ x.one.id = found d.id x.one.id d x.one h k.held mine holds its k.is (sym k.number_is) in
        let out = or_both (d.id == x.one.id) (list_any (λ b. b == x.one.id) before) f.first in
        absurd (true≢false (sym (ap (λ n. d.id == n) (sym one) ∙ number_same d.id) ∙ out.0))

-- in a run only the first daemon of an id holds a number
run_first : (told : Option Told) (made : List Made) (c c' : Core) → HoldFirst [] c.machine.roll.daemons → RunsCore told c made c' → HoldFirst [] c'.machine.roll.daemons
run_first told [] c c' first runs = subst (λ (x : Core). HoldFirst [] x.machine.roll.daemons) (sym runs) first
run_first told (e ∷ made) c c' first runs =
    let step : CoreStep told c e runs.0 = runs.1 in
    run_first told made runs.0 c'
    (first_after c.machine e runs.0.machine (subst (MachineStep c.machine e) (sym (ap (λ (x : Core). x.machine) step.history)) step.step) first) runs.2

module _ (told : Option Told) (daemons : List ℕ) (first : State) (made : List Made) (core : Core) (runs : RunsCore told (first_core daemons first) made core) where
  -- held numbers are each another
  pub run_apart : HoldApart core.machine.roll.daemons
  run_apart =
      let keeps = run_keeps told daemons first made core runs in
      apart_from core.machine.roll.daemons
      (λ id other d d' h h' is holds also held same. keeps.roll.held.apart id other d d' h h' (record { found = is; holds = holds }) (record { found = also; holds = held }) same)
      [] core.machine.roll.daemons (run_first told made (first_core daemons first) core (first_new [] daemons) runs) (λ id out. refl)

  -- and the others that were drawn are done
  pub run_counted : numbers_done core.machine.roll + holders core.machine.roll.daemons ≡ core.machine.roll.drawn
  run_counted =
      counted core.machine.roll.drawn core.machine.roll.daemons run_apart (run_keeps told daemons first made core runs).roll.held.within
