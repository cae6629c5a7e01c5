-- What one more that is said makes of the open transactions.
use Rattle.std.proofs.Common.{◌≡◌, ◌∙◌, ◌==◌, ℕ, List, [], ◌∷◌, ◌++◌, Bool, true, false, not, cond, Option, None, Some, refl, sym, ap, subst, find}
use Rattle.std.specs.List.{filter, flat_map}
use Rattle.std.specs.Prelude.{if◌then◌else◌}
use Rattle.sdr_model.specs.declared.journal.Said.{Said}
use Rattle.sdr_machine.specs.Core.{Work, said_by, with_said, without_work}
use Rattle.sdr_core.specs.Keeping.{AreApart, is_of}
use Rattle.sdr_machine.proofs.RollLemmas.{number_same, turned}

pub found_head : (b : Bool) (w : Work) (rest : Option Work) → cond b (Some w) rest ≡ None → (b ≡ false) × (rest ≡ None)
found_head true w rest none = absurd cc
found_head false w rest none = (refl, none)

-- a first that a daemon says stands behind all others
pub with_said-none : (works : List Work) (daemon : ℕ) (said : Said) → find (is_of daemon) works ≡ None → with_said works daemon said ≡ works ++ record { daemon = daemon; said = said ∷ [] } ∷ []
with_said-none [] daemon said none = refl
with_said-none (w ∷ works) daemon said none =
    let h = found_head (w.daemon == daemon) w (find (is_of daemon) works) none in
    ap (λ b. if b then record w { said = w.said ++ said ∷ [] } ∷ works else w ∷ with_said works daemon said) h.0
    ∙ ap (λ ws. w ∷ ws) (with_said-none works daemon said h.1)

-- nothing is without a daemon's transaction where it is in none
pub without_work-none : (works : List Work) (daemon : ℕ) → find (is_of daemon) works ≡ None → without_work works daemon ≡ works
without_work-none [] daemon none = refl
without_work-none (w ∷ works) daemon none =
    let h = found_head (w.daemon == daemon) w (find (is_of daemon) works) none in
    ap (λ b. cond (not b) (w ∷ without_work works daemon) (without_work works daemon)) h.0 ∙ ap (λ ws. w ∷ ws) (without_work-none works daemon h.1)

-- a daemon that is in no transaction has said nothing
pub said_by-none : (works : List Work) (daemon : ℕ) → find (is_of daemon) works ≡ None → said_by works daemon ≡ []
said_by-none [] daemon none = refl
said_by-none (w ∷ works) daemon none =
    let h = found_head (w.daemon == daemon) w (find (is_of daemon) works) none in
    ap (λ b. flat_map (λ (x : Work). x.said) (cond b (w ∷ filter (is_of daemon) works) (filter (is_of daemon) works))) h.0 ∙ said_by-none works daemon h.1

-- what a daemon said goes with its transaction
pub without_work-with_said : (works : List Work) (daemon : ℕ) (said : Said) → without_work (with_said works daemon said) daemon ≡ without_work works daemon
without_work-with_said [] daemon said =
    ap (λ b. cond (not b) (record { daemon = daemon; said = said ∷ [] } ∷ []) []) (number_same daemon daemon refl)
without_work-with_said (w ∷ works) daemon said = by (w.daemon == daemon) refl (without_work-with_said works daemon said)
  where
    by : (b : Bool) → (w.daemon == daemon) ≡ b → without_work (with_said works daemon said) daemon ≡ without_work works daemon
        → without_work (with_said (w ∷ works) daemon said) daemon ≡ without_work (w ∷ works) daemon
    by true e more =
        ap (λ c. without_work (if c then record w { said = w.said ++ said ∷ [] } ∷ works else w ∷ with_said works daemon said) daemon) e
        ∙ ap (λ c. cond (not c) (record w { said = w.said ++ said ∷ [] } ∷ without_work works daemon) (without_work works daemon)) e
        ∙ sym (ap (λ c. cond (not c) (w ∷ without_work works daemon) (without_work works daemon)) e)
    by false e more =
        ap (λ c. without_work (if c then record w { said = w.said ++ said ∷ [] } ∷ works else w ∷ with_said works daemon said) daemon) e
        ∙ ap (λ c. cond (not c) (w ∷ without_work (with_said works daemon said) daemon) (without_work (with_said works daemon said) daemon)) e
        ∙ ap (λ ws. w ∷ ws) more
        ∙ sym (ap (λ c. cond (not c) (w ∷ without_work works daemon) (without_work works daemon)) e)

-- no other is found where one more is said
found_other : (works : List Work) (daemon other : ℕ) (said : Said) → (daemon == other) ≡ false → find (is_of other) works ≡ None → find (is_of other) (with_said works daemon said) ≡ None
found_other [] daemon other said apart none = ap (λ b. cond b (Some (record { daemon = daemon; said = said ∷ [] })) None) apart
found_other (w ∷ works) daemon other said apart none = by (w.daemon == daemon) refl (found_other works daemon other said apart)
  where
    h : ((w.daemon == other) ≡ false) × (find (is_of other) works ≡ None)
    h = found_head (w.daemon == other) w (find (is_of other) works) none

    by : (b : Bool) → (w.daemon == daemon) ≡ b → (find (is_of other) works ≡ None → find (is_of other) (with_said works daemon said) ≡ None)
        → find (is_of other) (with_said (w ∷ works) daemon said) ≡ None
    by true e more =
        ap (λ c. find (is_of other) (if c then record w { said = w.said ++ said ∷ [] } ∷ works else w ∷ with_said works daemon said)) e
        ∙ ap (λ c. cond c (Some (record w { said = w.said ++ said ∷ [] })) (find (is_of other) works)) h.0 ∙ h.1
    by false e more =
        ap (λ c. find (is_of other) (if c then record w { said = w.said ++ said ∷ [] } ∷ works else w ∷ with_said works daemon said)) e
        ∙ ap (λ c. cond c (Some w) (find (is_of other) (with_said works daemon said))) h.0 ∙ more h.1

-- no two are of one daemon still
pub apart-said : (works : List Work) (daemon : ℕ) (said : Said) → AreApart works → AreApart (with_said works daemon said)
apart-said [] daemon said apart = (refl, tt)
apart-said (w ∷ works) daemon said apart = by (w.daemon == daemon) refl (apart-said works daemon said apart.1)
  where
    by : (b : Bool) → (w.daemon == daemon) ≡ b → AreApart (with_said works daemon said) → AreApart (with_said (w ∷ works) daemon said)
    by true e more = subst (λ c. AreApart (if c then record w { said = w.said ++ said ∷ [] } ∷ works else w ∷ with_said works daemon said)) (sym e) (apart.0, apart.1)
    by false e more =
        subst (λ c. AreApart (if c then record w { said = w.said ++ said ∷ [] } ∷ works else w ∷ with_said works daemon said)) (sym e)
        (found_other works daemon w.daemon said (turned w.daemon daemon e) apart.0, more)

found_without : (works : List Work) (daemon other : ℕ) → find (is_of other) works ≡ None → find (is_of other) (without_work works daemon) ≡ None
found_without [] daemon other none = refl
found_without (w ∷ works) daemon other none = by (w.daemon == daemon) refl (found_without works daemon other)
  where
    h : ((w.daemon == other) ≡ false) × (find (is_of other) works ≡ None)
    h = found_head (w.daemon == other) w (find (is_of other) works) none

    by : (b : Bool) → (w.daemon == daemon) ≡ b → (find (is_of other) works ≡ None → find (is_of other) (without_work works daemon) ≡ None)
        → find (is_of other) (without_work (w ∷ works) daemon) ≡ None
    by true e more = ap (λ c. find (is_of other) (cond (not c) (w ∷ without_work works daemon) (without_work works daemon))) e ∙ more h.1
    by false e more =
        ap (λ c. find (is_of other) (cond (not c) (w ∷ without_work works daemon) (without_work works daemon))) e
        ∙ ap (λ c. cond c (Some w) (find (is_of other) (without_work works daemon))) h.0 ∙ more h.1

pub apart-without : (works : List Work) (daemon : ℕ) → AreApart works → AreApart (without_work works daemon)
apart-without [] daemon apart = tt
apart-without (w ∷ works) daemon apart = by (w.daemon == daemon) refl (apart-without works daemon apart.1)
  where
    by : (b : Bool) → (w.daemon == daemon) ≡ b → AreApart (without_work works daemon) → AreApart (without_work (w ∷ works) daemon)
    by true e more = subst (λ c. AreApart (cond (not c) (w ∷ without_work works daemon) (without_work works daemon))) (sym e) more
    by false e more =
        subst (λ c. AreApart (cond (not c) (w ∷ without_work works daemon) (without_work works daemon))) (sym e)
        (found_without works daemon w.daemon apart.0, more)
