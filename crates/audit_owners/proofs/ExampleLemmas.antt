-- What is wrong with small heaps.
use Rattle.std.proofs.Common.{◌≡◌, ◌<◌, ◌==◌, ◌||◌, ℕ, Bool, false, List, [], ◌∷◌, ◌++◌, cond, true, arith, ap, ◌∙◌, refl, sym, subst, inl, inr}
use Rattle.std.specs.Prelude.{None, Some}
use Rattle.std.specs.List.{All}
use Rattle.std.proofs.lemmas.Bool.{cases_eq, ne_eqb}
use Rattle.std.proofs.lemmas.List.{append-nil}
use Rattle.std.proofs.lemmas.List.Elements.{All-cons, All-nil}
use Rattle.sdr_base.specs.Blocks.{Block}
use Rattle.sdr_base.specs.Entries.{Entries, at}
use Rattle.sdr_base.specs.Lists.{element_block, list_block}
use Rattle.sdr_base.specs.Stored.{number_at}
use Rattle.sdr_base.specs.Words.{layout}
use Rattle.sdr_base.specs.declared.account.Acct.TheVariants as accts
use Rattle.audit_owners.proofs.MarksLemmas.{once_push}
use Rattle.audit_owners.proofs.RulesLemmas.{none_keeps}
use Rattle.audit_owners.specs.Chains.{Chain, ChainsReach, IsChain, IsWrongChain}
use Rattle.sdr_base.specs.Entries.{AreOnce}
use Rattle.audit_owners.specs.Examples.{fifth, heap_of, last_entries, looping_entries, looping_list, lost_element, lost_entries, shared_element, shared_entries, unlinked_element, unlinked_entries, wrong_last}
use Rattle.audit_owners.specs.Owned.{BreaksRules}
use Rattle.audit_owners.specs.Owners.{owners_of, root_owners}
use Rattle.audit_owners.specs.Rules.{IsKept, keeps_owner_rule}
use Rattle.audit_owners.specs.declared.owner.Owner.{Owner}
use Rattle.audit_owners.specs.declared.owner.Owner.TheVariants as owners
use Rattle.audit_owners.specs.declared.owner.Site.TheVariants as sites
use Rattle.audit_owners.specs.declared.rules.OwnerRule.{OwnerRule}
use Rattle.audit_owners.specs.declared.rules.OwnerRule.TheVariants as which

none_once : AreOnce []
none_once addr = omega arith

one_once : (addr : ℕ) → AreOnce (addr ∷ [])
one_once addr = once_push [] addr none_once refl

two_once : (a b : ℕ) → (a == b) ≡ false → AreOnce (a ∷ b ∷ [])
two_once a b apart = once_push (a ∷ []) b (one_once a) (ap (λ (t : Bool). t || false) apart)

-- a chain of no blocks
abbrev empty : Owner → Chain
empty owner = record { owner = owner; addrs = [] }

abbrev empties : List Chain
empties = empty owners.Catalogue ∷ empty (owners.Queue accts.Inbound) ∷ empty (owners.Queue accts.Outbound) ∷ []

module _ (es : Entries) where
  catalogue_empty : IsChain (heap_of es) (empty owners.Catalogue)
  catalogue_empty = record { last = 0; goes = (refl, refl); ends = refl }

  inbound_empty : IsChain (heap_of es) (empty (owners.Queue accts.Inbound))
  inbound_empty = record { last = 0; goes = (refl, refl); ends = refl }

  outbound_empty : IsChain (heap_of es) (empty (owners.Queue accts.Outbound))
  outbound_empty = record { last = 0; goes = (refl, refl); ends = refl }

  -- the chains of the control words, and those of others
  with_roots : (chains : List Chain) → All (IsChain (heap_of es)) chains → All (IsChain (heap_of es)) (empties ++ chains)
  with_roots chains right =
      All-cons (IsChain (heap_of es)) (empty owners.Catalogue)
      (empty (owners.Queue accts.Inbound) ∷ empty (owners.Queue accts.Outbound) ∷ chains) catalogue_empty
      (All-cons (IsChain (heap_of es)) (empty (owners.Queue accts.Inbound)) (empty (owners.Queue accts.Outbound) ∷ chains) inbound_empty
      (All-cons (IsChain (heap_of es)) (empty (owners.Queue accts.Outbound)) chains outbound_empty right))

  roots_right : ChainsReach (heap_of es) root_owners []
  roots_right = record {
    chains = empties;
    owners_are = refl;
    right = with_roots [] (All-nil (IsChain (heap_of es)));
    reached_are = refl;
    once = none_once;
  }

  -- one list behind them
  list_right : (chain : Chain) → IsChain (heap_of es) chain → (owner : Owner) → chain.owner ≡ owner → AreOnce chain.addrs →
      ChainsReach (heap_of es) (root_owners ++ (owner ∷ [])) chain.addrs
  list_right chain right owner is once = record {
    chains = empties ++ (chain ∷ []);
    owners_are = (λ i. root_owners ++ (is i ∷ []));
    right = with_roots (chain ∷ []) (All-cons (IsChain (heap_of es)) chain [] right (All-nil (IsChain (heap_of es))));
    reached_are = append-nil chain.addrs;
    once = once;
  }

pub shared_wrong : IsWrongChain shared_element (owners_of shared_element 272) 2096
unfolding at layout number_at
shared_wrong =
    let chain : Chain = record { owner = owners.List 2056; addrs = 2136 ∷ [] } in
    record {
      earlier = root_owners ++ (owners.List 2056 ∷ []);
      owner = owners.List 2096;
      later = [];
      whole = refl;
      reached = 2136 ∷ [];
      addrs = [];
      before = 0;
      link = 2136;
      comes = record {
        done =
            list_right shared_entries chain (record { last = 2136; goes = (refl, (λ e. cc), refl, refl, (refl, refl)); ends = refl }) (owners.List 2056) refl
            (one_once 2136);
        goes = (refl, refl);
        once = one_once 2136;
      };
      wrong = inl (record { some = (λ e. cc); wrong = refl; at = refl });
    }

pub looping_wrong : IsWrongChain looping_list (owners_of looping_list 272) 2136
unfolding at layout number_at
looping_wrong = record {
  earlier = root_owners;
  owner = owners.List 2056;
  later = [];
  whole = refl;
  reached = [];
  addrs = 2096 ∷ 2136 ∷ [];
  before = 2136;
  link = 2096;
  comes = record {
    done = roots_right looping_entries;
    goes = (refl, (λ e. cc), refl, refl, (refl, (λ e. cc), refl, refl, (refl, refl)));
    once = two_once 2096 2136 refl;
  };
  wrong = inl (record { some = (λ e. cc); wrong = refl; at = refl });
}

pub unlinked_wrong : IsWrongChain unlinked_element (owners_of unlinked_element 272) 2136
unfolding at layout number_at
unlinked_wrong = record {
  earlier = root_owners;
  owner = owners.List 2056;
  later = [];
  whole = refl;
  reached = [];
  addrs = 2096 ∷ [];
  before = 2096;
  link = 2136;
  comes = record {
    done = roots_right unlinked_entries;
    goes = (refl, (λ e. cc), refl, refl, (refl, refl));
    once = one_once 2096;
  };
  wrong = inr (inl (record { some = (λ e. cc); new = refl; wrong = refl; at = refl }));
}

pub last_wrong : IsWrongChain wrong_last (owners_of wrong_last 272) 2056
unfolding at layout number_at
last_wrong = record {
  earlier = root_owners;
  owner = owners.List 2056;
  later = [];
  whole = refl;
  reached = [];
  addrs = 2096 ∷ [];
  before = 2096;
  link = 0;
  comes = record {
    done = roots_right last_entries;
    goes = (refl, (λ e. cc), refl, refl, (refl, refl));
    once = one_once 2096;
  };
  wrong = inr (inr (record { none = refl; site = sites.Block 2056 3; has = refl; wrong = refl; at = refl }));
}

-- the blocks of the last heap
abbrev list_there : Block
list_there = list_block 0 0 0 0

abbrev element_there : Block
element_there = element_block 2056 0 0 (fifth 2096)

none_there : (addr : ℕ) → (addr ≡ 2056 → ⊥) → (addr ≡ 2096 → ⊥) → lost_element.blocks addr ≡ None
unfolding at
none_there addr off off' =
    ap (λ (t : Bool). cond t (Some list_there) (cond (2096 == addr) (Some element_there) None)) (ne_eqb 2056 addr (λ e. off (sym e)))
    ∙ ap (λ (t : Bool). cond t (Some element_there) None) (ne_eqb 2096 addr (λ e. off' (sym e)))

-- a rule that both blocks keep is kept
both_keep : (rule : OwnerRule) → keeps_owner_rule lost_element [] rule 2056 ≡ true → keeps_owner_rule lost_element [] rule 2096 ≡ true → IsKept lost_element [] rule
both_keep rule list element addr = elim (cases_eq addr 2056) [
  | inl here ↦ subst (λ (n : ℕ). keeps_owner_rule lost_element [] rule n ≡ true) (sym here) list
  | inr off ↦ elim (cases_eq addr 2096) [
    | inl here ↦ subst (λ (n : ℕ). keeps_owner_rule lost_element [] rule n ≡ true) (sym here) element
    | inr off' ↦ none_keeps lost_element [] rule addr (none_there addr off off')
  ]
]

before_keep : (addr : ℕ) → addr < 2096 → keeps_owner_rule lost_element [] which.IsReached 2056 ≡ true → keeps_owner_rule lost_element [] which.IsReached addr ≡ true
before_keep addr less list = elim (cases_eq addr 2056) [
  | inl here ↦ subst (λ (n : ℕ). keeps_owner_rule lost_element [] which.IsReached n ≡ true) (sym here) list
  | inr off ↦ none_keeps lost_element [] which.IsReached addr (none_there addr off (λ e. omega (arith, e, less)))
]

pub lost_wrong : BreaksRules lost_element 272 2096
unfolding at layout number_at
lost_wrong =
    let chain : Chain = record { owner = owners.List 2056; addrs = [] } in
    record {
      reached = [];
      chains = list_right lost_entries chain (record { last = 0; goes = (refl, refl); ends = refl }) (owners.List 2056) refl none_once;
      broken =
          inr (
            both_keep which.SourceIsThere refl refl,
            inr (
              both_keep which.RawIsThere refl refl,
              inr (
                both_keep which.SourceNamesRaw refl refl,
                inr (
                  both_keep which.RawNamesSource refl refl,
                  inl (record { before = (λ other less. before_keep other less refl); wrong = refl }),
                ),
              ),
            ),
          );
    }
