-- The checks of the structure together.
use Rattle.std.proofs.Common.{◌≡◌, ◌+◌, ◌*◌, ◌∙◌, ℕ, List, length, ap, refl, subst, sym}
use Rattle.std.specs.Prelude.{Err, IfErr, Ok, Result}
use Rattle.std.specs.Result.{IsErrAnd}
use Rattle.sdr_base.specs.Cells.{IsRegionSize}
use Rattle.audit_blocks.proofs.KeptLemmas.{keeps_blocks}
use Rattle.audit_blocks.specs.Walk.{OfBlocks}
use Rattle.audit_blocks.specs.Auditing.{edges_of}
use Rattle.audit_blocks.specs.Bits.{BitsAreRight}
use Rattle.audit_blocks.specs.Content.{ContentIsRight}
use Rattle.audit_blocks.specs.Control.{ControlIsRight}
use Rattle.audit_blocks.specs.Free.{AreListed}
use Rattle.audit_blocks.specs.Region.{IsSound}
use Rattle.audit_blocks.specs.Walked.{AllFound}
use Rattle.audit_blocks.specs.declared.spot.Spot.{Spot}
use Rattle.sdr_audit.proofs.CensusLemmas.{all_used, free_large, free_small}
use Rattle.sdr_audit.specs.Census.{IsCensus, census_of, free_in, used_in}

-- what holds of what is wrong holds where it is handed on
pub same_error : {T E : Type 0} (P : E → Type 0) {error : E} (result : Result T E) → IsErrAnd result (λ other. other ≡ error) → P error → IfErr result P
same_error P (Ok value) is holds = absurd is
same_error P (Err other) is holds = subst P (sym is) holds

-- A region whose words are told, and which passed the checks.
module _ (bytes : List ℕ) (told : List Spot) (control : ControlIsRight bytes) (found : AllFound bytes told)
    (bits : OfBlocks BitsAreRight bytes) (free : OfBlocks AreListed bytes) (content : OfBlocks ContentIsRight bytes) where
  sound : IsSound bytes found.small found.large
  sound = record {
    control = control;
    blocks = found.blocks;
    bits = bits found.small found.large found.blocks;
    free = free found.small found.large found.blocks;
    content = content found.small found.large found.blocks;
  }

  -- the blocks that were counted are those of the heap that it keeps
  pub census_is : IsRegionSize (length bytes) → length told * 8 ≡ length bytes → IsCensus bytes (census_of (edges_of bytes) told)
  census_is region long =
      let k = keeps_blocks bytes found.small found.large region sound in
      record {
        pools = k.pools;
        keeps = k.keeps;
        size = refl;
        low = k.keeps.small.low;
        high = k.keeps.small.high;
        used =
            all_used bytes found.small found.large control found.blocks told long found.spots
            ∙ (λ i. used_in (sym k.small_are i) + used_in (sym k.large_are i));
        small = free_small bytes found.small found.large control found.blocks told long found.spots ∙ ap free_in (sym k.small_are);
        large = free_large bytes found.small found.large control found.blocks told long found.spots ∙ ap free_in (sym k.large_are);
      }
