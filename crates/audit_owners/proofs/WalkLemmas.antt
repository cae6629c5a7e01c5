-- The walk over a chain.
use Rattle.std.proofs.Common.{◌≡◌, ◌≢◌, ◌<◌, ◌/◌, ◌%◌, ℕ, Bool, List, [], ◌∷◌, ◌++◌, not, true, false, length, get_or, set, arith, ap, ◌∙◌, refl, sym, subst, inl, inr}
use Rattle.std.proofs.lemmas.Bool.{and_left, and_from, and_right, not_from_false, not_from_true}
use Rattle.std.proofs.lemmas.List.{append-nil, append_assoc, map_push}
use Rattle.std.proofs.lemmas.List.Concat.{flat_map-append}
use Rattle.std.proofs.lemmas.List.Elements.{All-nil, All-push}
use Rattle.audit_owners.proofs.GoesLemmas.{goes_then}
use Rattle.audit_owners.proofs.MarksLemmas.{mark_tells, marked_push, once_push}
use Rattle.audit_owners.specs.Chains.{Chain, EndsElsewhere, ChainGoes, IsChain, IsWrongChain, IsWrongHere, addrs_of, first_link, has_last, holder, is_among, is_member, names_owner_at, next_of}
use Rattle.sdr_base.specs.Entries.{AreOnce}
use Rattle.audit_owners.specs.Marks.{AreMarked}
use Rattle.audit_owners.specs.View.{View}
use Rattle.audit_owners.specs.Walking.{HasWalked, IsWalking}
use Rattle.audit_owners.specs.declared.chain.Step.{Step}
use Rattle.audit_owners.specs.declared.owner.Owner.{Owner}

-- before any chain nothing is marked
pub walk_begins : (heap : View) (marks : List Bool) → ((word : ℕ) → get_or marks word false ≡ false) → HasWalked heap [] marks
walk_begins heap marks clear = record {
  reached = [];
  chains = record {
    chains = [];
    owners_are = refl;
    right = All-nil (IsChain heap);
    reached_are = refl;
    once = λ addr. omega arith;
  };
  marked = record { just = clear };
}

-- a chain begins with its first link
pub chain_begins : {heap : View} {owners : List Owner} {marks : List Bool} → HasWalked heap owners marks → (owner : Owner) (link : ℕ) →
    link ≡ first_link heap owner → IsWalking heap owners (record { owner = owner; before = 0; link = link }) marks
chain_begins {heap} {owners} {marks} w owner link first =
    let none = sym (append-nil w.reached) in
    record {
      reached = w.reached;
      addrs = [];
      comes = record { done = w.chains; goes = (refl, sym first); once = subst AreOnce none w.chains.once };
      marked = subst (λ (l : List ℕ). AreMarked l marks) none w.marked;
    }

module _ (heap : View) (owners : List Owner) (step : Step) (marks : List Bool) (w : IsWalking heap owners step marks) where
  -- what was reached so far
  abbrev all : List ℕ
  all = w.reached ++ w.addrs

  -- where its link leads to a block that may follow, the chain goes on behind it
  pub chain_goes_on : (next : ℕ) → step.link ≢ 0 → is_member heap step.owner step.link ≡ true →
      names_owner_at heap step.owner step.before step.link ≡ true → step.link % 8 ≡ 0 → step.link / 8 < length marks →
      get_or marks (step.link / 8) false ≡ false → next ≡ next_of heap step.owner step.link →
      IsWalking heap owners (record { owner = step.owner; before = step.link; link = next }) (set marks (step.link / 8) true)
  chain_goes_on next some member named whole inside clear next_is =
      let new : is_among all step.link ≡ false = sym (mark_tells all marks step.link w.marked whole) ∙ clear in
      let one = append_assoc w.reached w.addrs (step.link ∷ []) in
      record {
        reached = w.reached;
        addrs = w.addrs ++ (step.link ∷ []);
        comes = record {
          done = w.comes.done;
          goes =
              subst (λ (n : ℕ). ChainGoes heap step.owner 0 (first_link heap step.owner) (w.addrs ++ (step.link ∷ [])) step.link n) (sym next_is)
              (goes_then heap step.owner 0 (first_link heap step.owner) w.addrs step.before step.link w.comes.goes some member named);
          once = subst AreOnce one (once_push all step.link w.comes.once new);
        };
        marked =
            subst (λ (l : List ℕ). AreMarked l (set marks (step.link / 8) true)) one
            (marked_push all marks step.link w.marked whole inside);
      }

  -- where it is wrong at its link, it is the first that is
  pub chain_wrong : (place : ℕ) → IsWrongHere heap step.owner all step.before step.link place → IsWrongChain heap (owners ++ (step.owner ∷ [])) place
  chain_wrong place wrong = record {
    earlier = owners;
    owner = step.owner;
    later = [];
    whole = refl;
    reached = w.reached;
    addrs = w.addrs;
    before = step.before;
    link = step.link;
    comes = w.comes;
    wrong = wrong;
  }

  -- a link to no block of its kind
  pub leads_nowhere : (place : ℕ) → step.link ≢ 0 → is_member heap step.owner step.link ≡ false → place ≡ holder step.owner step.before →
      IsWrongChain heap (owners ++ (step.owner ∷ [])) place
  leads_nowhere place some none at =
      chain_wrong place (inl (record {
        some = some;
        wrong = and_left (is_member heap step.owner step.link) (not (is_among all step.link)) none;
        at = at;
      }))

  -- a link to a block that is marked
  pub leads_back : (place : ℕ) → step.link ≢ 0 → step.link % 8 ≡ 0 → get_or marks (step.link / 8) false ≡ true → place ≡ holder step.owner step.before →
      IsWrongChain heap (owners ++ (step.owner ∷ [])) place
  leads_back place some whole set at =
      let among : is_among all step.link ≡ true = sym (mark_tells all marks step.link w.marked whole) ∙ set in
      chain_wrong place (inl (record {
        some = some;
        wrong = and_right (is_member heap step.owner step.link) (not (is_among all step.link)) (not_from_true (is_among all step.link) among);
        at = at;
      }))

  -- a link to a block that names another
  pub leads_to_other : step.link ≢ 0 → is_member heap step.owner step.link ≡ true → step.link % 8 ≡ 0 →
      get_or marks (step.link / 8) false ≡ false → names_owner_at heap step.owner step.before step.link ≡ false →
      IsWrongChain heap (owners ++ (step.owner ∷ [])) step.link
  leads_to_other some member whole clear other =
      let new : is_among all step.link ≡ false = sym (mark_tells all marks step.link w.marked whole) ∙ clear in
      chain_wrong step.link (inr (inl (record {
        some = some;
        new = and_from _ _ member (not_from_false (is_among all step.link) new);
        wrong = other;
        at = refl;
      })))

  addrs_push : (chains : List Chain) (chain : Chain) → addrs_of (chains ++ (chain ∷ [])) ≡ addrs_of chains ++ chain.addrs
  addrs_push chains chain =
      flat_map-append (λ (c : Chain). c.addrs) chains (chain ∷ []) ∙ ap (λ (l : List ℕ). addrs_of chains ++ l) (append-nil chain.addrs)

  -- where its link leads to none and the word for the last block is right, it is right
  pub chain_ends : step.link ≡ 0 → has_last heap step.owner step.before ≡ true → HasWalked heap (owners ++ (step.owner ∷ [])) marks
  chain_ends none ends =
      let done = w.comes.done in
      let chain : Chain = record { owner = step.owner; addrs = w.addrs } in
      record {
        reached = all;
        chains = record {
          chains = done.chains ++ (chain ∷ []);
          owners_are =
              map_push (λ (c : Chain). c.owner) done.chains chain ∙ ap (λ (l : List Owner). l ++ (step.owner ∷ [])) done.owners_are;
          right =
              All-push (IsChain heap) done.chains chain done.right (record {
                last = step.before;
                goes = subst (λ (n : ℕ). ChainGoes heap step.owner 0 (first_link heap step.owner) w.addrs step.before n) none w.comes.goes;
                ends = ends;
              });
          reached_are = addrs_push done.chains chain ∙ ap (λ (l : List ℕ). l ++ w.addrs) done.reached_are;
          once = w.comes.once;
        };
        marked = w.marked;
      }

  -- and where that is wrong, it is the first that is
  pub chain_ends_wrong : (place : ℕ) → step.link ≡ 0 → EndsElsewhere heap step.owner step.before 0 place →
      IsWrongChain heap (owners ++ (step.owner ∷ [])) place
  chain_ends_wrong place none ends =
      chain_wrong place (inr (inr (record { none = none; site = ends.site; has = ends.has; wrong = ends.wrong; at = ends.at })))
