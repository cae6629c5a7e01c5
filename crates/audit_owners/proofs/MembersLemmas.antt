-- The blocks in the chain of an owner.
use Rattle.std.proofs.Common.{◌≡◌, ◌≢◌, ◌≤◌, ◌<◌, ◌-◌, ℕ, zero, suc, cond, Bool, List, [], ◌∷◌, ◌++◌, length, arith, ap, ◌∙◌, refl, sym, inl, inr}
use Rattle.std.proofs.lemmas.Bool.{cases_eq, eq-eqb, ne_eqb}
use Rattle.std.proofs.lemmas.List.{append-nil, append_assoc}
use Rattle.audit_owners.specs.Members.{followed}
use Rattle.audit_owners.specs.Chains.{next_of}
use Rattle.audit_owners.specs.View.{View}
use Rattle.audit_owners.specs.declared.owner.Owner.{Owner}

module _ (heap : View) (owner : Owner) where
  -- a link of 0 leads to none
  pub followed-end : (most : ℕ) → followed heap owner most 0 ≡ []
  followed-end zero = refl
  followed-end (suc most) = refl

  -- any other leads to a block, and on
  pub followed-next : (most link : ℕ) → link ≢ 0 →
      followed heap owner (suc most) link ≡ link ∷ followed heap owner most (next_of heap owner link)
  followed-next most link some =
      ap (λ (b : Bool). cond b [] (link ∷ followed heap owner most (next_of heap owner link))) (ne_eqb link 0 some)

  -- what comes behind some blocks, one block later
  pub followed-step : (addrs all : List ℕ) (most link : ℕ) → link ≢ 0 → 0 < most → addrs ++ followed heap owner most link ≡ all →
      (addrs ++ (link ∷ [])) ++ followed heap owner (most - 1) (next_of heap owner link) ≡ all
  followed-step addrs all zero link some more is = absurd (omega (arith, more))
  followed-step addrs all (suc most) link some more is =
      let less : suc most - 1 ≡ most = omega arith in
      ap (λ (n : ℕ). (addrs ++ (link ∷ [])) ++ followed heap owner n (next_of heap owner link)) less
      ∙ append_assoc addrs (link ∷ []) (followed heap owner most (next_of heap owner link))
      ∙ ap (λ (l : List ℕ). addrs ++ l) (sym (followed-next most link some))
      ∙ is

  -- at a link of 0 the blocks are all, and where no more are asked for
  pub followed-all : (addrs all : List ℕ) (most link : ℕ) → link ≡ 0 → addrs ++ followed heap owner most link ≡ all → addrs ≡ all
  followed-all addrs all most link none is =
      sym (append-nil addrs)
      ∙ ap (λ (l : List ℕ). addrs ++ l) (sym (ap (followed heap owner most) none ∙ followed-end most))
      ∙ is

  pub followed-most : (addrs all : List ℕ) (most link : ℕ) → most ≡ 0 → addrs ++ followed heap owner most link ≡ all → addrs ≡ all
  followed-most addrs all most link none is =
      sym (append-nil addrs) ∙ ap (λ (n : ℕ). addrs ++ followed heap owner n link) (sym none) ∙ is

  -- they are so many at most
  pub length-followed : (most link : ℕ) → length (followed heap owner most link) ≤ most
  length-followed zero link = omega arith
  length-followed (suc most) link = elim (cases_eq link 0) [
    | inl none ↦
        let e = ap (λ (b : Bool). length (cond b [] (link ∷ followed heap owner most (next_of heap owner link)))) (eq-eqb link 0 none) in
        omega (arith, e)
    | inr some ↦
        let e = ap (λ (l : List ℕ). length l) (followed-next most link some) in
        let more = length-followed most (next_of heap owner link) in
        omega (arith, e, more)
  ]
