-- What the block of a source says to an extent that is to name it.
use Rattle.std.specs.Prelude.{◌≡◌, ℕ, Option}
use Rattle.sdr_base.specs.Blocks.{Block}
use Rattle.sdr_base.specs.Sources.{medium_number}
use Rattle.sdr_base.specs.declared.kind.Space.{Space}
use Rattle.sdr_base.specs.declared.medium.Medium.{Medium}
use Rattle.zco_obj.specs.Amounts.{medium_space, source_space}
use Rattle.zco_obj.specs.declared.seeing.SeenSource.{SeenSource}
use Rattle.zco_ref.specs.Kept.{CountedSource, KeepsSource}

-- whichever medium has this number, its bytes are in this space
abbrev pub IsSpaceOf : ℕ → Space → Type 0
IsSpaceOf number space = (medium : Medium) → number ≡ medium_number medium → space ≡ medium_space medium

-- this is what is said of the source
pub record IsSeen (source : CountedSource) (seen : SeenSource) : Type 0 where
  pub space : seen.space ≡ source_space source
  pub flagged : seen.flagged ≡ source.row.flagged
  pub bytes : seen.bytes ≡ source.row.length

-- so it is of whichever source is kept
pub record SeesSource (found : Option Block) (seen : SeenSource) : Type 0 where
  pub sees : (source : CountedSource) → KeepsSource found source → IsSeen source seen
