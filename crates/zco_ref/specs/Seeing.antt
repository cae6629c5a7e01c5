-- What the block of a source says.
use Rattle.std.specs.Prelude.{◌≡◌, ℕ, Option}
use Rattle.sdr_base.specs.Blocks.{Block}
use Rattle.sdr_base.specs.Sources.{medium_number}
use Rattle.sdr_base.specs.declared.medium.Medium.{Medium}
use Rattle.zco_ref.specs.Kept.{CountedSource, KeepsSource}
use Rattle.zco_ref.specs.declared.seeing.Seen.{Seen}

-- whichever medium has this number, this is it
abbrev pub IsMediumOf : ℕ → Medium → Type 0
IsMediumOf number medium = (other : Medium) → number ≡ medium_number other → medium ≡ other

-- this is what is said of the source
pub record IsSeen (source : CountedSource) (seen : Seen) : Type 0 where
  pub medium : seen.medium ≡ source.row.medium
  pub flagged : seen.flagged ≡ source.row.flagged
  pub inbound : seen.inbound ≡ source.inbound
  pub outbound : seen.outbound ≡ source.outbound
  pub subject : seen.subject ≡ source.row.subject

-- so it is of whichever source is kept
pub record SeesSource (found : Option Block) (seen : Seen) : Type 0 where
  pub sees : (source : CountedSource) → KeepsSource found source → IsSeen source seen
