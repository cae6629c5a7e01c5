-- Worked rows: what lies in a part, what outside it, and what is charged less.
use Rattle.std.proofs.Common.{◌≡◌, ℕ, List, [], ◌∷◌, refl}
use Rattle.std.specs.Prelude.{false}
use Rattle.sdr_base.specs.ZcoObjects.{ExtentRow, ObjectRow}
use Rattle.sdr_base.specs.declared.account.Acct.TheVariants as accts
use Rattle.sdr_base.specs.declared.medium.Medium.TheVariants as media
use Rattle.zco_strip.specs.Cuts.{inside, outside, stripped}
use Rattle.zco_strip.specs.Stripping.{gone_outside, stripped_amounts}
use Rattle.zco_obj.specs.Gone.{NamedSource}

-- bytes of the source at 88, from a place in it on
abbrev extent_at : ℕ → ℕ → ℕ → ExtentRow
extent_at addr offset length = record { addr = addr; source = 88; offset = offset; length = length }

-- an object of three extents, of three bytes each, and a part of so many bytes from a place on
abbrev object_with : ℕ → ℕ → ObjectRow
object_with offset length = record {
  account = accts.Inbound;
  headers = [];
  extents = extent_at 40 0 3 ∷ extent_at 48 10 3 ∷ extent_at 56 20 3 ∷ [];
  trailers = [];
  part_offset = offset;
  part_length = length;
}

-- a part that begins in one and ends in the next
row_of_two : inside (object_with 2 2) ≡ extent_at 40 2 1 ∷ extent_at 48 10 1 ∷ []
row_of_two = refl

row_of_two_outside : outside (object_with 2 2) ≡ extent_at 56 20 3 ∷ []
row_of_two_outside = refl

-- a part within one: those on either side are outside
row_of_one : inside (object_with 4 1) ≡ extent_at 48 11 1 ∷ []
row_of_one = refl

row_of_one_outside : outside (object_with 4 1) ≡ extent_at 40 0 3 ∷ extent_at 56 20 3 ∷ []
row_of_one_outside = refl

-- a part that is one whole extent, and one of no byte
row_of_whole : inside (object_with 3 3) ≡ extent_at 48 10 3 ∷ []
row_of_whole = refl

row_of_none : outside (object_with 4 0) ≡ (object_with 4 0).extents
row_of_none = refl

-- the part then begins with the first byte, and is as long
row_of_stripped : (stripped (object_with 2 2)).part_offset ≡ 0
row_of_stripped = refl

row_of_length : (stripped (object_with 2 2)).part_length ≡ 2
row_of_length = refl

-- the source, of an item, which these three extents name
abbrev source : List NamedSource
source = record {
  addr = 88;
  source = record {
    inbound = 3;
    outbound = 0;
    row = record { medium = media.Bulk; flagged = false; subject = 8; length = 30; path = [] };
  };
  bytes = [];
} ∷ []

-- 32 bytes of heap space are given back for the extent that goes, and nothing for those that are cut
row_of_amounts : stripped_amounts (object_with 2 2) source ≡ record { file = 0; bulk = 0; heap = 32 }
row_of_amounts = refl

-- where all three go, the whole source too
row_of_last : stripped_amounts (object_with 4 0) source ≡ record { file = 0; bulk = 30; heap = 96 }
row_of_last = refl

row_of_gone : gone_outside (object_with 4 1) source ≡ 40 ∷ 56 ∷ []
row_of_gone = refl
