-- The chains of a heap whose bytes stand for a world are those of the world's rows.
use Rattle.std.proofs.Common.{◌≡◌, ◌<◌, ◌+◌, ◌*◌, ◌/◌, ℕ, List, map, length, get_or, Some, arith, ap, ◌∙◌, subst}
use Rattle.std.specs.List.{All, flat_map, range_with_len}
use Rattle.std.proofs.lemmas.List.{map-id}
use Rattle.std.proofs.lemmas.List.Elements.{All-get_or, All-map}
use Rattle.std.proofs.lemmas.List.Folds.{flat_map-map}
use Rattle.std.proofs.lemmas.List.FromFn.{get_or-range_with_len, length-range_with_len}
use Rattle.std.proofs.lemmas.Simd.{map-map}
use Rattle.sdr_base.specs.Blocks.{Block}
use Rattle.sdr_base.specs.Cells.{IsRegionSize}
use Rattle.sdr_base.specs.Pools.{Pools}
use Rattle.sdr_model.specs.World.{World, thing_at}
use Rattle.sdr_model.specs.declared.things.Thing.{Thing}
use Rattle.sdr_stands.specs.Standing.{StandsForWhole}
use Rattle.audit_owners.proofs.RegionLemmas.{is_part}
use Rattle.audit_owners.specs.Chains.{Chain, ChainsReach, IsChain}
use Rattle.audit_owners.specs.Owners.{owned_at, owners_of, root_owners}
use Rattle.audit_owners.specs.View.{View, view_in}
use Rattle.audit_owners.specs.declared.owner.Owner.{Owner}
use Rattle.sdr_audit.proofs.ChainLemmas.{owners_right}
use Rattle.sdr_audit.proofs.OnceLemmas.{chains_once}
use Rattle.sdr_audit.proofs.OwnerLemmas.{owned_are, owners_in}
use Rattle.sdr_audit.proofs.SoundStandLemmas.{All-part, All-right}
use Rattle.sdr_audit.specs.WorldChains.{chain_in, chain_of}

module _ (bytes : List ℕ) (w : World) (P : Pools) (region : IsRegionSize (length bytes)) (s : StandsForWhole bytes w P) where
  abbrev heap : View
  heap = view_in bytes

  abbrev words : ℕ
  words = length bytes / 8

  -- the blocks in the chains of all owners
  abbrev pub reached : List ℕ
  reached = flat_map (chain_in w) (owners_of heap words)

  -- these are right, and reach each of them once
  abbrev pub world_chains : ChainsReach heap (owners_of heap words) reached
  world_chains = record {
    chains = map (chain_of w) (owners_of heap words);
    owners_are = map-map (λ (chain : Chain). chain.owner) (chain_of w) (owners_of heap words) ∙ map-id (owners_of heap words);
    right =
        All-map (IsChain heap) (chain_of w) (owners_of heap words)
        (owners_right heap w s.stands.blocks s.stands.roots s.fits s.whole.valid words);
    reached_are = flat_map-map (λ (chain : Chain). chain.addrs) (chain_of w) (owners_of heap words);
    once = chains_once heap w s.stands.blocks s.whole.valid words;
  }

  abbrev of_words : List Owner
  of_words = flat_map (λ word. owned_at heap (8 * word)) (range_with_len 0 words)

  -- what holds of all owners holds of those of a thing
  pub thing_owners : (Q : Owner → Type 0) → All Q (owners_of heap words) → (addr : ℕ) (thing : Thing) (block : Block) →
      thing_at w addr ≡ Some thing →
      heap.blocks addr ≡ Some block → All Q (owners_in addr (Some thing))
  thing_owners Q all addr thing block there is =
      let p = is_part bytes addr block is in
      let whole = p.whole in
      let inside = p.inside in
      let lines = region.whole in
      let within : addr / 8 < words = omega (arith, whole, inside, lines) in
      let long = length-range_with_len 0 words in
      let each = All-part Q (λ word. owned_at heap (8 * word)) (range_with_len 0 words) (All-right Q root_owners of_words all) in
      let here =
      All-get_or (λ word. All Q (owned_at heap (8 * word))) (range_with_len 0 words) (addr / 8) 0 (omega (arith, long, within)) each in
      let at : 8 * get_or (range_with_len 0 words) (addr / 8) 0 ≡ addr =
      ap (λ (n : ℕ). 8 * n) (get_or-range_with_len 0 words (addr / 8) 0 within)
      ∙ (let e : 8 * (0 + addr / 8) ≡ addr = omega (arith, whole) in e) in
      subst (All Q) (ap (owned_at heap) at ∙ owned_are heap w s.stands.blocks s.whole.valid addr ∙ ap (owners_in addr) there) here
