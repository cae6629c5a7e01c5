-- A region that passes the steps up to that of owners is seen as a heap of which the world can be told.
use Rattle.std.proofs.Common.{◌≡◌, ◌<◌, ◌/◌, ◌^◌, ℕ, List, length, drop, arith, refl, sym, subst}
use Rattle.std.specs.Prelude.{Option, None, Some}
use Rattle.std.proofs.lemmas.List.Elements.{All-drop, All-take}
use Rattle.std.proofs.lemmas.Option.{none-some}
use Rattle.sdr_base.specs.Blocks.{Block, kind_length}
use Rattle.sdr_base.specs.Cells.{IsRegionSize}
use Rattle.sdr_base.specs.KeptHeap.{block_in, leader_place}
use Rattle.audit_owners.proofs.RegionLemmas.{found_nowhere, is_part, led_at}
use Rattle.audit_owners.specs.Owned.{AreBytes, IsOwnedRegion}
use Rattle.audit_owners.specs.View.{view_in}
use Rattle.audit_world.proofs.ChainLemmas.{IsPlace}
use Rattle.audit_world.proofs.OwnLemmas.{IsAudited}
use Rattle.audit_blocks.proofs.KeptLemmas.{keeps_blocks}
use Rattle.audit_blocks.specs.Region.{IsSoundRegion, KeepsBlocks}

no_block : (o : Option Block) → kind_length o ≡ None → o ≡ None
no_block None none = refl
no_block (Some block) none = absurd (none-some _ (sym none))

module _ (bytes : List ℕ) where
  -- no block begins at 0
  null_is : block_in bytes 0 ≡ None
  null_is = no_block (block_in bytes 0) (by_place (leader_place bytes 0) refl)
    where
      by_place : (o : Option ℕ) → leader_place bytes 0 ≡ o → kind_length (block_in bytes 0) ≡ None
      by_place None at = found_nowhere bytes 0 at
      by_place (Some place) at = let before = (led_at bytes 0 place at).before in absurd (omega (arith, before))

  bytes_are : AreBytes bytes → (addr : ℕ) (block : Block) → block_in bytes addr ≡ Some block → AreBytes block.bytes
  bytes_are are addr block is =
      let p = is_part bytes addr block is in
      subst AreBytes (sym p.bytes) (All-take (λ byte. byte < 2 ^ 8) p.count (drop addr bytes) (All-drop (λ byte. byte < 2 ^ 8) addr bytes are))

  module _ (region : IsRegionSize (length bytes)) (sound : IsSoundRegion bytes) where
    pub kept : KeepsBlocks bytes sound.small sound.large
    kept = keeps_blocks bytes sound.small sound.large region sound.sound

    place_is : (addr : ℕ) (block : Block) → block_in bytes addr ≡ Some block → IsPlace (length bytes / 8) addr
    place_is addr block is =
        let p = is_part bytes addr block is in
        let whole = p.whole in
        let inside = p.inside in
        let lines = region.whole in
        record { word = addr / 8; below = omega (arith, whole, inside, lines); at = omega (arith, whole) }

    pub audited : AreBytes bytes → IsOwnedRegion bytes → IsAudited (view_in bytes) (length bytes / 8)
    audited are owned = record { bytes = bytes_are are; layout = kept.layouts; placed = place_is; null = null_is; owned = owned }
