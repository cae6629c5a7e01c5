-- The steps of an audit together.
use Rattle.std.proofs.Common.{List, ℕ, sym, subst}
use Rattle.audit_blocks.specs.Auditing.{DamagedIn}
use Rattle.audit_blocks.specs.Bits.{BitsAreRight}
use Rattle.audit_blocks.specs.Content.{IsWrongContent}
use Rattle.audit_blocks.specs.Control.{ControlIsRight}
use Rattle.audit_blocks.specs.Free.{AreListed, IsWrongFree}
use Rattle.audit_blocks.specs.Region.{RegionIsWrongFirst, TellsFirst}
use Rattle.audit_blocks.specs.Walk.{OfBlocks}
use Rattle.audit_blocks.specs.Walked.{AllFound}
use Rattle.audit_blocks.specs.declared.error.Check.{Check}
use Rattle.audit_blocks.specs.declared.error.Check.TheVariants as whys
use Rattle.audit_blocks.specs.declared.error.Damage.{Damage}
use Rattle.audit_blocks.specs.declared.spot.Spot.{Spot}

module _ (bytes : List ℕ) (told : List Spot) (control : ControlIsRight bytes) (found : AllFound bytes told) (bits : OfBlocks BitsAreRight bytes) where
  -- what was found wrong with the lists, after the checks before
  pub free_tells : (damage : Damage) → DamagedIn whys.Free IsWrongFree bytes damage → TellsFirst bytes damage
  free_tells damage (is, wrong) =
      subst (λ (w : Check). RegionIsWrongFirst bytes w damage.place) (sym is) (record {
        control = control;
        small = found.small;
        large = found.large;
        blocks = found.blocks;
        bits = bits found.small found.large found.blocks;
        wrong = wrong found.small found.large found.blocks;
      })

  -- what was found wrong with a block's content, after the checks before
  pub content_tells : OfBlocks AreListed bytes → (damage : Damage) → DamagedIn whys.Content IsWrongContent bytes damage → TellsFirst bytes damage
  content_tells free damage (is, wrong) =
      subst (λ (w : Check). RegionIsWrongFirst bytes w damage.place) (sym is) (record {
        control = control;
        small = found.small;
        large = found.large;
        blocks = found.blocks;
        bits = bits found.small found.large found.blocks;
        free = free found.small found.large found.blocks;
        wrong = wrong found.small found.large found.blocks;
      })
