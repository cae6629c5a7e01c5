-- A chain goes over blocks that are linked as a layout says, and over no others.
use Rattle.std.proofs.Common.{◌≡◌, ◌<◌, ◌^◌, ℕ, List, [], ◌∷◌, arith, ap, ◌∙◌, refl, sym, subst}
use Rattle.std.specs.Prelude.{Option, Some, map}
use Rattle.std.specs.List.{All}
use Rattle.std.proofs.lemmas.List.Elements.{All-cons, All-head, All-nil, All-tail}
use Rattle.sdr_base.specs.Blocks.{Block}
use Rattle.sdr_base.specs.Linked.{first_of, last_of, linked}
use Rattle.audit_owners.specs.Chains.{ChainGoes, next_of}
use Rattle.audit_owners.specs.Linking.{AreRows, FitsChain, ReadsBack, AllStandAt, StandsAt}
use Rattle.audit_owners.specs.Owners.{kind_in, names_owner, next_field}
use Rattle.audit_owners.specs.View.{View, is_kind, word_of}
use Rattle.audit_owners.specs.declared.owner.Owner.{Owner}

module _ {X : Type 0} (heap : View) (owner : Owner) (addr : X → ℕ) (block : ℕ → ℕ → X → Block) where
  abbrev Small : X → Type 0
  Small x = addr x < 2 ^ 64

  first_small : (xs : List X) → All Small xs → first_of addr 0 xs < 2 ^ 64
  first_small [] small = omega arith
  first_small (x ∷ xs) small = All-head Small x xs small

  -- the chain goes over the blocks that rows keep
  pub linked_goes : FitsChain owner block → (before : ℕ) (xs : List X) → before < 2 ^ 64 → All Small xs →
      AllStandAt heap (linked addr block before 0 xs) → ChainGoes heap owner before (first_of addr 0 xs) (map addr xs) (last_of addr before xs) 0
  unfolding linked
  linked_goes fits before [] low small stand = (refl, refl)
  linked_goes fits before (x ∷ xs) low small stand =
      let next : ℕ = first_of addr 0 xs in
      let own : Block = block before next x in
      let here = All-head (StandsAt heap) (addr x, own) (linked addr block (addr x) 0 xs) stand in
      let few : next < 2 ^ 64 = first_small xs (All-tail Small x xs small) in
      let link : word_of (heap.blocks (addr x)) (next_field owner) ≡ next =
      ap (λ (b : Option Block). word_of b (next_field owner)) here.is ∙ fits.next before next x few in (
        refl,
        here.some,
        ap (is_kind (kind_in owner)) here.is ∙ fits.kind before next x,
        ap (names_owner owner before) here.is ∙ fits.names before next x low,
        subst (λ (n : ℕ). ChainGoes heap owner (addr x) n (map addr xs) (last_of addr (addr x) xs) 0) (sym link)
            (linked_goes fits (addr x) xs (All-head Small x xs small) (All-tail Small x xs small)
            (All-tail (StandsAt heap) (addr x, own) (linked addr block (addr x) 0 xs) stand)),
      )

  -- what a chain goes over is kept by rows
  pub goes_linked : (read : ℕ → X) → ReadsBack heap owner addr block read → (before link : ℕ) (addrs : List ℕ) (last : ℕ) →
      ChainGoes heap owner before link addrs last 0 → AreRows heap addr block before link (map read addrs) last
  unfolding linked
  goes_linked read back before link [] last (b, l) = record { stand = All-nil (StandsAt heap); first = l; end = sym b }
  goes_linked read back before link (a ∷ addrs) last (is, some, member, named, more) =
      let at = back.at a in
      let next : ℕ = next_of heap owner a in
      let rest : AreRows heap addr block (addr (read a)) next (map read addrs) last =
      subst (λ (n : ℕ). AreRows heap addr block n next (map read addrs) last) (sym at) (goes_linked read back a next addrs last more) in
      let own : Block = block before (first_of addr 0 (map read addrs)) (read a) in
      let there : heap.blocks a ≡ Some own = back.is before a member named ∙ ap (λ (n : ℕ). Some (block before n (read a))) rest.first in
      record {
        stand =
            All-cons (StandsAt heap) (addr (read a), own) (linked addr block (addr (read a)) 0 (map read addrs))
            (record { some = (λ e. some (sym at ∙ e)); is = ap heap.blocks at ∙ there }) rest.stand;
        first = is ∙ sym at;
        end = rest.end;
      }
