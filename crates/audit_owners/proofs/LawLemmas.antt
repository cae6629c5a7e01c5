-- A heap in which each block has its owner isn't wrong anywhere.
use Rattle.std.proofs.Common.{◌≡◌, ◌==◌, ◌&&◌, ℕ, List, [], ◌∷◌, ◌++◌, not, true, false, ap, ◌∙◌, refl, sym, subst, inl, inr}
use Rattle.std.specs.Prelude.{Option, map}
use Rattle.std.specs.List.{All}
use Rattle.std.specs.Option.{option_map_or}
use Rattle.std.proofs.lemmas.Bool.{and_from, both_ways, not_from_false}
use Rattle.std.proofs.lemmas.List.Concat.{flat_map-append}
use Rattle.std.proofs.lemmas.List.Elements.{All-head, All-tail}
use Rattle.audit_owners.proofs.GoesLemmas.{goes_on, goes_same}
use Rattle.audit_owners.proofs.MarksLemmas.{once_front, once_new}
use Rattle.audit_owners.proofs.RulesLemmas.{kept_unbroken}
use Rattle.audit_owners.specs.Chains.{Chain, ChainsReach, ChainGoes, IsChain, IsWrongChain, IsWrongHere, addrs_of, first_link, has_last, is_among, is_member, names_owner_at}
use Rattle.sdr_base.specs.Entries.{AreOnce}
use Rattle.audit_owners.specs.Owned.{IsOwned, IsWrongOwner}
use Rattle.audit_owners.specs.Owners.{owners_of, told_at}
use Rattle.audit_owners.specs.Rules.{AreKept, owner_rules}
use Rattle.audit_owners.specs.View.{View}
use Rattle.audit_owners.specs.declared.owner.Owner.{Owner}
use Rattle.audit_owners.specs.declared.owner.Site.{Site}

abbrev owner_of : Chain → Owner
owner_of chain = chain.owner

module _ (heap : View) (owner : Owner) where
  -- a chain that goes on isn't wrong at the link from which it goes on
  pub goes_wrong : (a : ℕ) (rest reached : List ℕ) (before link last next place : ℕ) → ChainGoes heap owner before link (a ∷ rest) last next →
      AreOnce (reached ++ (a ∷ rest)) → IsWrongHere heap owner reached before link place → ⊥
  goes_wrong a rest reached before link last next place (is, some, member, named, more) once (inl w) =
      let new : is_among reached link ≡ false = ap (is_among reached) is ∙ once_new reached a rest once in
      both_ways (is_member heap owner link && not (is_among reached link)) w.wrong
      (and_from _ _ (ap (is_member heap owner) is ∙ member) (not_from_false (is_among reached link) new))
  goes_wrong a rest reached before link last next place (is, some, member, named, more) once (inr (inl w)) =
      both_ways (names_owner_at heap owner before link) w.wrong (ap (names_owner_at heap owner before) is ∙ named)
  goes_wrong a rest reached before link last next place (is, some, member, named, more) once (inr (inr w)) = some (sym is ∙ w.none)

  -- nor is one that ends rightly at the link from which it goes on
  pub goes_right : (rest reached : List ℕ) (before link end place : ℕ) → ChainGoes heap owner before link rest end 0 → has_last heap owner end ≡ true →
      AreOnce (reached ++ rest) → IsWrongHere heap owner reached before link place → ⊥
  goes_right [] reached before link end place (b, l) ends once (inl w) = w.some l
  goes_right [] reached before link end place (b, l) ends once (inr (inl w)) = w.some l
  goes_right [] reached before link end place (b, l) ends once (inr (inr w)) =
      both_ways (told_at heap w.site == before) w.wrong
      (ap (λ (n : ℕ). told_at heap w.site == n) b
      ∙ sym (ap (λ (o : Option Site). option_map_or (λ site. told_at heap site == end) o true) w.has)
      ∙ ends)
  goes_right (a ∷ rest) reached before link end place goes ends once wrong = goes_wrong a rest reached before link end 0 place goes once wrong

module _ (heap : View) where
  -- two right chains of one owner are the same
  chain_same : (c b : Chain) → IsChain heap c → IsChain heap b → c.owner ≡ b.owner → c ≡ b
  chain_same c b right_c right_b same =
      let goes : ChainGoes heap b.owner 0 (first_link heap b.owner) c.addrs right_c.last 0 =
      subst (λ (o : Owner). ChainGoes heap o 0 (first_link heap o) c.addrs right_c.last 0) same right_c.goes in
      let addrs : c.addrs ≡ b.addrs = goes_same heap b.owner 0 (first_link heap b.owner) b.addrs c.addrs right_b.last right_c.last right_b.goes goes in
      λ i. record { owner = same i; addrs = addrs i }

  -- the chains of all owners begin with those of the first ones, and then comes that of the next
  record Agrees (bs cs : List Chain) (owner : Owner) : Type 0 where
    pub chain : Chain
    pub rest : List Chain
    pub whole : cs ≡ bs ++ (chain ∷ rest)
    pub is : chain.owner ≡ owner
    pub right : IsChain heap chain

  agree : (bs cs : List Chain) (owner : Owner) (later : List Owner) → All (IsChain heap) bs → All (IsChain heap) cs →
      map owner_of cs ≡ map owner_of bs ++ (owner ∷ later) → Agrees bs cs owner
  agree [] [] owner later right_b right_c same = let d : [] ≡ owner ∷ later = same in cc
  agree [] (c ∷ cs) owner later right_b right_c same = record {
    chain = c;
    rest = cs;
    whole = refl;
    is = (let e : c.owner ∷ map owner_of cs ≡ owner ∷ later = same in cc);
    right = All-head (IsChain heap) c cs right_c;
  }
  agree (b ∷ bs) [] owner later right_b right_c same = let d : [] ≡ b.owner ∷ (map owner_of bs ++ (owner ∷ later)) = same in cc
  agree (b ∷ bs) (c ∷ cs) owner later right_b right_c same =
      let e : c.owner ∷ map owner_of cs ≡ b.owner ∷ (map owner_of bs ++ (owner ∷ later)) = same in
      let head : c.owner ≡ b.owner = cc in
      let tail : map owner_of cs ≡ map owner_of bs ++ (owner ∷ later) = cc in
      let a = agree bs cs owner later (All-tail (IsChain heap) b bs right_b) (All-tail (IsChain heap) c cs right_c) tail in
      let first = chain_same c b (All-head (IsChain heap) c cs right_c) (All-head (IsChain heap) b bs right_b) head in
      record { chain = a.chain; rest = a.rest; whole = (λ i. first i ∷ a.whole i); is = a.is; right = a.right }

  -- the chains of the same owners are the same
  chains_same : (bs cs : List Chain) → All (IsChain heap) bs → All (IsChain heap) cs → map owner_of cs ≡ map owner_of bs → cs ≡ bs
  chains_same [] [] right_b right_c same = refl
  chains_same [] (c ∷ cs) right_b right_c same = let d : c.owner ∷ map owner_of cs ≡ [] = same in cc
  chains_same (b ∷ bs) [] right_b right_c same = let d : [] ≡ b.owner ∷ map owner_of bs = same in cc
  chains_same (b ∷ bs) (c ∷ cs) right_b right_c same =
      let e : c.owner ∷ map owner_of cs ≡ b.owner ∷ map owner_of bs = same in
      let head : c.owner ≡ b.owner = cc in
      let tail : map owner_of cs ≡ map owner_of bs = cc in
      let first = chain_same c b (All-head (IsChain heap) c cs right_c) (All-head (IsChain heap) b bs right_b) head in
      let rest = chains_same bs cs (All-tail (IsChain heap) b bs right_b) (All-tail (IsChain heap) c cs right_c) tail in
      λ i. first i ∷ rest i

  -- the same owners reach the same blocks
  pub reached_same : (owners : List Owner) (xs ys : List ℕ) → ChainsReach heap owners xs → ChainsReach heap owners ys → ys ≡ xs
  reached_same owners xs ys x y =
      sym y.reached_are ∙ ap addrs_of (chains_same x.chains y.chains x.right y.right (y.owners_are ∙ sym x.owners_are)) ∙ x.reached_are

  -- where the chains of all owners are right, none is wrong
  pub chains_not_wrong : (owners : List Owner) (reached : List ℕ) (place : ℕ) → ChainsReach heap owners reached → IsWrongChain heap owners place → ⊥
  chains_not_wrong owners reached place r w =
      let done = w.comes.done in
      let a =
      agree done.chains r.chains w.owner w.later done.right r.right
      (r.owners_are ∙ w.whole ∙ ap (λ (l : List Owner). l ++ (w.owner ∷ w.later)) (sym done.owners_are)) in
      let goes : ChainGoes heap w.owner 0 (first_link heap w.owner) a.chain.addrs a.right.last 0 =
      subst (λ (o : Owner). ChainGoes heap o 0 (first_link heap o) a.chain.addrs a.right.last 0) a.is a.right.goes in
      let ends : has_last heap w.owner a.right.last ≡ true = subst (λ (o : Owner). has_last heap o a.right.last ≡ true) a.is a.right.ends in
      let g = goes_on heap w.owner 0 (first_link heap w.owner) w.addrs a.chain.addrs w.before w.link a.right.last w.comes.goes goes in
      let all : reached ≡ w.reached ++ ((w.addrs ++ g.rest) ++ addrs_of a.rest) =
      sym r.reached_are ∙ ap addrs_of a.whole
      ∙ flat_map-append (λ (c : Chain). c.addrs) done.chains (a.chain ∷ a.rest)
      ∙ ap (λ (l : List ℕ). l ++ (a.chain.addrs ++ addrs_of a.rest)) done.reached_are
      ∙ ap (λ (l : List ℕ). w.reached ++ (l ++ addrs_of a.rest)) g.whole in
      goes_right heap w.owner g.rest (w.reached ++ w.addrs) w.before w.link a.right.last place g.goes ends
      (once_front w.reached w.addrs g.rest (addrs_of a.rest) (subst AreOnce all r.once)) w.wrong

  -- and where all rules are kept besides, nothing is
  pub not_wrong : (words place : ℕ) → IsOwned heap words → IsWrongOwner heap words place → ⊥
  not_wrong words place owned (inl w) = chains_not_wrong (owners_of heap words) owned.reached place owned.chains w
  not_wrong words place owned (inr b) =
      kept_unbroken heap b.reached owner_rules place
      (subst (λ (l : List ℕ). AreKept heap l owner_rules) (sym (reached_same (owners_of heap words) owned.reached b.reached owned.chains b.chains)) owned.kept)
      b.broken
