-- A heap is wrong first at one place alone.
use Rattle.std.proofs.Common.{◌≡◌, ◌&&◌, ℕ, List, [], ◌∷◌, ◌++◌, not, ap, ◌∙◌, refl, sym, subst, inl, inr}
use Rattle.std.specs.Prelude.{Some}
use Rattle.std.proofs.lemmas.Bool.{both_ways, cases_order}
use Rattle.std.proofs.lemmas.List.{append-nil, append_assoc}
use Rattle.audit_owners.proofs.LawLemmas.{chains_not_wrong, goes_wrong, reached_same}
use Rattle.audit_owners.specs.Chains.{ChainComes, ChainGoes, IsWrongChain, IsWrongHere, first_link, is_among, is_member, next_of}
use Rattle.sdr_base.specs.Entries.{AreOnce}
use Rattle.audit_owners.specs.Owned.{IsWrongOwner}
use Rattle.audit_owners.specs.Owners.{owners_of, site_place}
use Rattle.audit_owners.specs.Rules.{BreaksFirst, IsBroken, owner_rules, keeps_owner_rule}
use Rattle.audit_owners.specs.View.{View}
use Rattle.audit_owners.specs.declared.owner.Owner.{Owner}
use Rattle.audit_owners.specs.declared.owner.Site.{Site}
use Rattle.audit_owners.specs.declared.rules.OwnerRule.{OwnerRule}

-- two ways to cut a list at an element: at one place, or one before the other
pub data Cuts {A : Type 0} (xs : List A) (x : A) (ys : List A) (y : A) : Type 0 where
  same : xs ≡ ys → x ≡ y → Cuts xs x ys y
  earlier : (more : List A) → ys ≡ xs ++ (x ∷ more) → Cuts xs x ys y
  later : (more : List A) → xs ≡ ys ++ (y ∷ more) → Cuts xs x ys y

cuts_under : {A : Type 0} (a : A) (xs : List A) (x : A) (ys : List A) (y : A) → Cuts xs x ys y → Cuts (a ∷ xs) x (a ∷ ys) y
cuts_under a xs x ys y (same e f) = same (ap (λ l. a ∷ l) e) f
cuts_under a xs x ys y (earlier more e) = earlier more (ap (λ l. a ∷ l) e)
cuts_under a xs x ys y (later more e) = later more (ap (λ l. a ∷ l) e)

cut_twice : {A : Type 0} (xs : List A) (x : A) (ls ys : List A) (y : A) (ms : List A) → xs ++ (x ∷ ls) ≡ ys ++ (y ∷ ms) → Cuts xs x ys y
cut_twice {A} [] x ls [] y ms e = let f : x ∷ ls ≡ y ∷ ms = e in same refl cc
cut_twice {A} [] x ls (b ∷ ys) y ms e =
    let f : x ∷ ls ≡ b ∷ (ys ++ (y ∷ ms)) = e in
    let g : x ≡ b = cc in
    earlier ys (λ i. sym g i ∷ ys)
cut_twice {A} (a ∷ xs) x ls [] y ms e =
    let f : a ∷ (xs ++ (x ∷ ls)) ≡ y ∷ ms = e in
    let g : a ≡ y = cc in
    later xs (λ i. g i ∷ xs)
cut_twice {A} (a ∷ xs) x ls (b ∷ ys) y ms e =
    let f : a ∷ (xs ++ (x ∷ ls)) ≡ b ∷ (ys ++ (y ∷ ms)) = e in
    let g : a ≡ b = cc in
    let h : xs ++ (x ∷ ls) ≡ ys ++ (y ∷ ms) = cc in
    subst (λ (c : A). Cuts (a ∷ xs) x (c ∷ ys) y) g (cuts_under a xs x ys y (cut_twice xs x ls ys y ms h))

module _ (heap : View) (owner : Owner) where
  -- two ways that a chain goes: one goes on where the other has come to
  data Ways (xs : List ℕ) (b l : ℕ) (ys : List ℕ) (b' l' : ℕ) : Type 0 where
    goes_on : (rest : List ℕ) → ys ≡ xs ++ rest → ChainGoes heap owner b l rest b' l' → Ways xs b l ys b' l'
    came_from : (rest : List ℕ) → xs ≡ ys ++ rest → ChainGoes heap owner b' l' rest b l → Ways xs b l ys b' l'

  ways_under : (a : ℕ) (xs ys : List ℕ) (b l b' l' : ℕ) → Ways xs b l ys b' l' → Ways (a ∷ xs) b l (a ∷ ys) b' l'
  ways_under a xs ys b l b' l' (goes_on rest e g) = goes_on rest (ap (λ (t : List ℕ). a ∷ t) e) g
  ways_under a xs ys b l b' l' (came_from rest e g) = came_from rest (ap (λ (t : List ℕ). a ∷ t) e) g

  two_ways : (before first : ℕ) (xs ys : List ℕ) (b l b' l' : ℕ) → ChainGoes heap owner before first xs b l →
      ChainGoes heap owner before first ys b' l' → Ways xs b l ys b' l'
  two_ways before first [] ys b l b' l' (at, is) goes =
      goes_on ys refl (subst (λ (n : ℕ). ChainGoes heap owner b n ys b' l') is (subst (λ (n : ℕ). ChainGoes heap owner n first ys b' l') at goes))
  two_ways before first (x ∷ xs) [] b l b' l' goes (at, is) =
      came_from (x ∷ xs) refl
      (subst (λ (n : ℕ). ChainGoes heap owner b' n (x ∷ xs) b l) is (subst (λ (n : ℕ). ChainGoes heap owner n first (x ∷ xs) b l) at goes))
  two_ways before first (x ∷ xs) (y ∷ ys) b l b' l' (is, some, member, named, more) (is', some', member', named', more') =
      let same : y ≡ x = sym is' ∙ is in
      let w = two_ways x (next_of heap owner x) xs ys b l b' l' more
      (subst (λ (n : ℕ). ChainGoes heap owner n (next_of heap owner n) ys b' l') same more') in
      subst (λ (n : ℕ). Ways (x ∷ xs) b l (n ∷ ys) b' l') (sym same) (ways_under x xs ys b l b' l' w)

  -- what is wrong at a link is so at one place
  wrong_once : (reached : List ℕ) (b l p q : ℕ) → IsWrongHere heap owner reached b l p → IsWrongHere heap owner reached b l q → p ≡ q
  wrong_once reached b l p q (inl v) (inl w) = v.at ∙ sym w.at
  wrong_once reached b l p q (inl v) (inr (inl w)) = absurd (both_ways (is_member heap owner l && not (is_among reached l)) v.wrong w.new)
  wrong_once reached b l p q (inl v) (inr (inr w)) = absurd (v.some w.none)
  wrong_once reached b l p q (inr (inl v)) (inl w) = absurd (both_ways (is_member heap owner l && not (is_among reached l)) w.wrong v.new)
  wrong_once reached b l p q (inr (inl v)) (inr (inl w)) = v.at ∙ sym w.at
  wrong_once reached b l p q (inr (inl v)) (inr (inr w)) = absurd (v.some w.none)
  wrong_once reached b l p q (inr (inr v)) (inl w) = absurd (w.some v.none)
  wrong_once reached b l p q (inr (inr v)) (inr (inl w)) = absurd (w.some v.none)
  wrong_once reached b l p q (inr (inr v)) (inr (inr w)) = v.at ∙ ap site_place (site_of (sym v.has ∙ w.has)) ∙ sym w.at
    where
      site_of : {s t : Site} → Some s ≡ Some t → s ≡ t
      site_of e = cc

  -- a chain that comes to a wrong link comes to no other
  wrong_way : (reached xs ys : List ℕ) (b l b' l' p q : ℕ) → Ways xs b l ys b' l' → AreOnce (reached ++ xs) → AreOnce (reached ++ ys) →
      IsWrongHere heap owner (reached ++ xs) b l p → IsWrongHere heap owner (reached ++ ys) b' l' q → p ≡ q
  wrong_way reached xs ys b l b' l' p q (goes_on [] e (at, is)) once once' v w =
      let w' : IsWrongHere heap owner (reached ++ xs) b' l' q =
      subst (λ (t : List ℕ). IsWrongHere heap owner (reached ++ t) b' l' q) (e ∙ append-nil xs) w in
      wrong_once (reached ++ xs) b l p q v
      (subst (λ (n : ℕ). IsWrongHere heap owner (reached ++ xs) n l q) (sym at) (subst (λ (n : ℕ). IsWrongHere heap owner (reached ++ xs) b' n q) (sym is) w'))
  wrong_way reached xs ys b l b' l' p q (goes_on (a ∷ rest) e g) once once' v w =
      absurd (goes_wrong heap owner a rest (reached ++ xs) b l b' l' p g
      (subst AreOnce (ap (λ (t : List ℕ). reached ++ t) e ∙ sym (append_assoc reached xs (a ∷ rest))) once') v)
  wrong_way reached xs ys b l b' l' p q (came_from [] e (at, is)) once once' v w =
      let v' : IsWrongHere heap owner (reached ++ ys) b l p =
      subst (λ (t : List ℕ). IsWrongHere heap owner (reached ++ t) b l p) (e ∙ append-nil ys) v in
      wrong_once (reached ++ ys) b' l' p q
      (subst (λ (n : ℕ). IsWrongHere heap owner (reached ++ ys) n l' p) (sym at) (subst (λ (n : ℕ). IsWrongHere heap owner (reached ++ ys) b n p) (sym is) v')) w
  wrong_way reached xs ys b l b' l' p q (came_from (a ∷ rest) e g) once once' v w =
      absurd (goes_wrong heap owner a rest (reached ++ ys) b' l' b l q g
      (subst AreOnce (ap (λ (t : List ℕ). reached ++ t) e ∙ sym (append_assoc reached ys (a ∷ rest))) once) w)

module _ (heap : View) where
  same_chain : (xs : List Owner) (x : Owner) (reached reached' addrs addrs' : List ℕ) (b l b' l' p q : ℕ) → ChainComes heap xs x reached addrs b l →
      ChainComes heap xs x reached' addrs' b' l' → IsWrongHere heap x (reached ++ addrs) b l p → IsWrongHere heap x (reached' ++ addrs') b' l' q → p ≡ q
  same_chain xs x reached reached' addrs addrs' b l b' l' p q c c' v w =
      let same : reached' ≡ reached = reached_same heap xs reached reached' c.done c'.done in
      wrong_way heap x reached addrs addrs' b l b' l' p q
      (two_ways heap x 0 (first_link heap x) addrs addrs' b l b' l' c.goes c'.goes) c.once
      (subst (λ (t : List ℕ). AreOnce (t ++ addrs')) same c'.once) v
      (subst (λ (t : List ℕ). IsWrongHere heap x (t ++ addrs') b' l' q) same w)

  one_chain : (owners : List Owner) (p q : ℕ) → IsWrongChain heap owners p → IsWrongChain heap owners q → p ≡ q
  one_chain owners p q v w = by_cut (cut_twice v.earlier v.owner v.later w.earlier w.owner w.later (sym v.whole ∙ w.whole))
    where
      by_cut : Cuts v.earlier v.owner w.earlier w.owner → p ≡ q
      by_cut (same e f) =
          same_chain v.earlier v.owner v.reached w.reached v.addrs w.addrs v.before v.link w.before w.link p q v.comes
          (subst (λ (o : Owner). ChainComes heap v.earlier o w.reached w.addrs w.before w.link) (sym f)
          (subst (λ (os : List Owner). ChainComes heap os w.owner w.reached w.addrs w.before w.link) (sym e) w.comes)) v.wrong
          (subst (λ (o : Owner). IsWrongHere heap o (w.reached ++ w.addrs) w.before w.link q) (sym f) w.wrong)
      by_cut (earlier more e) =
          absurd (chains_not_wrong heap w.earlier w.reached p w.comes.done (record {
            earlier = v.earlier;
            owner = v.owner;
            later = more;
            whole = e;
            reached = v.reached;
            addrs = v.addrs;
            before = v.before;
            link = v.link;
            comes = v.comes;
            wrong = v.wrong;
          }))
      by_cut (later more e) =
          absurd (chains_not_wrong heap v.earlier v.reached q v.comes.done (record {
            earlier = w.earlier;
            owner = w.owner;
            later = more;
            whole = e;
            reached = w.reached;
            addrs = w.addrs;
            before = w.before;
            link = w.link;
            comes = w.comes;
            wrong = w.wrong;
          }))

  first_once : (reached : List ℕ) (rule : OwnerRule) (p q : ℕ) → BreaksFirst heap reached rule p → BreaksFirst heap reached rule q → p ≡ q
  first_once reached rule p q v w = elim (cases_order p q) [
    | inl equal ↦ equal
    | inr other ↦ elim other [
      | inl less ↦ absurd (both_ways (keeps_owner_rule heap reached rule p) v.wrong (w.before p less))
      | inr more ↦ absurd (both_ways (keeps_owner_rule heap reached rule q) w.wrong (v.before q more))
    ]
  ]

  broken_once : (reached : List ℕ) (rules : List OwnerRule) (p q : ℕ) → IsBroken heap reached rules p → IsBroken heap reached rules q → p ≡ q
  broken_once reached [] p q v w = absurd v
  broken_once reached (rule ∷ rules) p q (inl v) (inl w) = first_once reached rule p q v w
  broken_once reached (rule ∷ rules) p q (inl v) (inr (k, w)) = absurd (both_ways (keeps_owner_rule heap reached rule p) v.wrong (k p))
  broken_once reached (rule ∷ rules) p q (inr (k, v)) (inl w) = absurd (both_ways (keeps_owner_rule heap reached rule q) w.wrong (k q))
  broken_once reached (rule ∷ rules) p q (inr (k, v)) (inr (k', w)) = broken_once reached rules p q v w

  pub one_place : (words p q : ℕ) → IsWrongOwner heap words p → IsWrongOwner heap words q → p ≡ q
  one_place words p q (inl v) (inl w) = one_chain (owners_of heap words) p q v w
  one_place words p q (inl v) (inr w) = absurd (chains_not_wrong heap (owners_of heap words) w.reached p w.chains v)
  one_place words p q (inr v) (inl w) = absurd (chains_not_wrong heap (owners_of heap words) v.reached q v.chains w)
  one_place words p q (inr v) (inr w) =
      broken_once v.reached owner_rules p q v.broken
      (subst (λ (t : List ℕ). IsBroken heap t owner_rules q) (reached_same heap (owners_of heap words) v.reached w.reached v.chains w.chains) w.broken)
