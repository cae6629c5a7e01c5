-- Worked rows: how the part grows, and what goes with an object's extents.
use Rattle.std.proofs.Common.{◌≡◌, ℕ, Bool, List, [], ◌∷◌, true, false, refl}
use Rattle.sdr_base.specs.ZcoObjects.{ExtentRow, ObjectRow}
use Rattle.sdr_base.specs.declared.account.Acct.TheVariants as accts
use Rattle.sdr_base.specs.declared.medium.Medium.{Medium}
use Rattle.sdr_base.specs.declared.medium.Medium.TheVariants as media
use Rattle.zco_obj.specs.Extents.{with_extent}
use Rattle.zco_obj.specs.Gone.{NamedSource, extents_amounts, gone_blocks, sources_entries, sources_left}

-- an extent of three bytes of the source at 88, and an object that has one, and a part of so many bytes
abbrev extent_at : ℕ → ExtentRow
extent_at addr = record { addr = addr; source = 88; offset = 0; length = 3 }

abbrev object_with : ℕ → ObjectRow
object_with part = record {
  account = accts.Inbound;
  headers = [];
  extents = extent_at 40 ∷ [];
  trailers = [];
  part_offset = 0;
  part_length = part;
}

-- the part grows where it reached the end, and else it stays
row_of_growing : (with_extent (object_with 3) (extent_at 48)).part_length ≡ 6
row_of_growing = refl

row_of_staying : (with_extent (object_with 2) (extent_at 48)).part_length ≡ 2
row_of_staying = refl

-- the source at 88 of the raw object at 8, or of the item 8, which so many extents of the inbound account name
abbrev source_of : Medium → Bool → ℕ → List NamedSource
source_of medium flagged uses = record {
  addr = 88;
  source = record {
    inbound = uses;
    outbound = 0;
    row = record { medium = medium; flagged = flagged; subject = 8; length = 5; path = [] };
  };
  bytes = [];
} ∷ []

abbrev both : List ExtentRow
both = extent_at 40 ∷ extent_at 48 ∷ []

-- one that has taken over a raw object goes before the last extent that names it, and the raw object before it
row_of_owner : gone_blocks (source_of media.Heap false 2) both both ≡ 40 ∷ 8 ∷ 88 ∷ 48 ∷ []
row_of_owner = refl

-- a flagged one goes so too; one that isn't flagged stays, and so does one that another object's extent names still
row_of_flagged : gone_blocks (source_of media.Bulk true 2) both both ≡ 40 ∷ 88 ∷ 48 ∷ []
row_of_flagged = refl

row_of_unflagged : gone_blocks (source_of media.Bulk false 2) both both ≡ 40 ∷ 48 ∷ []
row_of_unflagged = refl

row_of_counted : gone_blocks (source_of media.Bulk true 3) both both ≡ 40 ∷ 48 ∷ []
row_of_counted = refl

-- which counts two less
row_of_left : sources_left accts.Inbound both (source_of media.Bulk true 3) ≡ sources_entries (source_of media.Bulk true 1)
row_of_left = refl

-- two extents that are all which name an item of five bytes give these back, and 64 of heap space for themselves
row_of_last : extents_amounts accts.Inbound (source_of media.Bulk false 2) both ≡ record { file = 0; bulk = 5; heap = 64 }
row_of_last = refl

-- where an extent of another object of the account names it still, they give back themselves alone
row_of_others : extents_amounts accts.Inbound (source_of media.Bulk false 3) both ≡ record { file = 0; bulk = 0; heap = 64 }
row_of_others = refl
