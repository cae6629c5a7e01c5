-- Pieces of a chain of extents, named by a new object.
use Rattle.std.specs.Prelude.{◌≡◌, ◌+◌, ◌-◌, ◌<◌, ◌≤◌, ◌^◌, ℕ, List, [], ◌∷◌, ◌++◌, length, map, All}
use Rattle.sdr_base.specs.Blocks.{Blocks}
use Rattle.sdr_base.specs.Entries.{Entries, BlocksAre}
use Rattle.sdr_base.specs.Linked.{first_of}
use Rattle.sdr_base.specs.Making.{Made}
use Rattle.sdr_base.specs.Objects.{Heap, OnlyFault}
use Rattle.sdr_base.specs.ZcoObjects.{ExtentRow, extent_addr, extent_entries, object_entries}
use Rattle.sdr_base.specs.declared.account.Acct.{Acct}
use Rattle.sdr_base.specs.declared.moves.Move.{Move}
use Rattle.sdr_base.specs.declared.moves.Move.TheVariants.{Short, Took}
use Rattle.sdr_base.specs.declared.refusal.Refusal.TheVariants as refusals
use Rattle.sdr_base.specs.declared.stop.Stop.{Stop}
use Rattle.sdr_base.specs.declared.stop.Stop.TheVariants.{Refused}
use Rattle.sdr_model.specs.Things.{extent_need}
use Rattle.zco_obj.specs.Gone.{NamedSource, sources_entries}
use Rattle.zco_obj.specs.Kept.{ExtentFits}
use Rattle.zco_obj.specs.declared.extent.ExtentPiece.{ExtentPiece}
use Rattle.zco_part.specs.Pieces.{pieces, extents_at, whole_row}
use Rattle.zco_part.specs.Sources.{AreCountable, all_counted}
use Rattle.zco_part.specs.declared.span.Span.{Span}

-- a block is taken for an extent at each of these addresses, in order
abbrev pub takes_extents : List ℕ → List Move
takes_extents = map (λ addr. Took extent_need addr)

-- an address for a block that is new
abbrev pub IsSmall : ℕ → Type 0
IsSmall addr = addr < 2 ^ 32

-- what these extents name of their bytes in a span
abbrev pub parts : Span → List ExtentRow → List ExtentPiece
parts span extents = pieces span.from span.to extents

-- an object with nothing in it stands there, a chain of extents, and their sources
pub record CopyAt (copy : ℕ) (acct : Acct) (blocks : Blocks) (first : ℕ) (extents : List ExtentRow) (sources : List NamedSource)
    : Type 0 where
  pub rest : Entries
  pub stands : BlocksAre blocks
      (object_entries copy (whole_row acct []) ++ (sources_entries sources ++ (extent_entries extents ++ rest)))
  pub at_first : first ≡ first_of extent_addr 0 extents
  pub fits : All ExtentFits extents
  pub few : length extents < 2 ^ 22
  pub may : AreCountable extents sources

-- some do, and there is room for the moves
pub record SomeCopy (copy : ℕ) (heap : Heap) (first : ℕ) (span : Span) : Type 0 where
  pub acct : Acct
  pub extents : List ExtentRow
  pub sources : List NamedSource
  pub is : CopyAt copy acct heap.blocks first extents sources
  pub room : length (parts span extents) ≤ heap.spare

-- the object has extents of these pieces at these addresses, and their sources count them
pub record HasCopied (copy : ℕ) (acct : Acct) (addrs : List ℕ) (ps : List ExtentPiece) (extents : List ExtentRow)
    (sources : List NamedSource) (rest : Entries) (now : Heap) : Type 0 where
  pub each : length addrs ≡ length ps
  pub fits : All ExtentFits (extents_at addrs ps)
  pub stands : BlocksAre now.blocks
      (object_entries copy (whole_row acct (extents_at addrs ps))
      ++ (sources_entries (all_counted acct ps sources) ++ (extent_entries extents ++ rest)))

-- so it is with all pieces of whichever chain is there, for each of which a block was taken
pub record CopiesChain (copy first : ℕ) (span : Span) (old new : Heap) : Type 0 where
  pub addrs : List ℕ
  pub small : All IsSmall addrs
  pub made : Made (takes_extents addrs) old new
  pub copies : (acct : Acct) (extents : List ExtentRow) (sources : List NamedSource)
      (c : CopyAt copy acct old.blocks first extents sources) →
      HasCopied copy acct addrs (parts span extents) extents sources c.rest new

-- of whichever chain is there, fewer pieces than all were named, and want of a block is noted
pub record LacksExtent (copy first : ℕ) (span : Span) (missing : ℕ) (old new : Heap) : Type 0 where
  pub is : missing ≡ extent_need
  pub addrs : List ℕ
  pub few : (acct : Acct) (extents : List ExtentRow) (sources : List NamedSource) →
      CopyAt copy acct old.blocks first extents sources → length addrs < length (parts span extents)
  pub moves : new.moves ≡ old.moves ++ (takes_extents addrs ++ Short extent_need ∷ [])
  pub spare : new.spare ≡ old.spare - (length addrs + 1)

-- of whichever chain is there, blocks for some pieces at most were taken, and no other move was made
pub record TookSomeExtents (copy first : ℕ) (span : Span) (old new : Heap) : Type 0 where
  pub addrs : List ℕ
  pub few : (acct : Acct) (extents : List ExtentRow) (sources : List NamedSource) →
      CopyAt copy acct old.blocks first extents sources → length addrs ≤ length (parts span extents)
  pub moves : new.moves ≡ old.moves ++ takes_extents addrs
  pub spare : new.spare ≡ old.spare - length addrs

-- why they aren't all named: there is no block for an extent, or no log room; or a fault
abbrev pub CopyStops : ℕ → ℕ → Span → Heap → Heap → Stop → Type 0
CopyStops copy first span old new (Refused (refusals.NoBlock missing)) = LacksExtent copy first span missing old new
CopyStops copy first span old new (Refused (refusals.LogFull lines room)) = TookSomeExtents copy first span old new
CopyStops copy first span old new (Refused refusal) = ⊥
CopyStops copy first span old new stop = OnlyFault stop
