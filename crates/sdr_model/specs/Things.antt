-- The things of a world, and the blocks that they fill.
use Rattle.sdr_base.specs.declared.kind.Kind.TheVariants as kinds
use Rattle.sdr_model.specs.declared.name.Name.{Name}
use Rattle.sdr_model.specs.declared.things.UsedBlock.{UsedBlock}
use Rattle.sdr_model.specs.declared.things.Element.{Element}
use Rattle.sdr_model.specs.declared.things.HashEntry.{HashEntry}
use Rattle.sdr_model.specs.declared.things.SdrList.{SdrList}
use Rattle.sdr_model.specs.declared.things.Spot.{Spot as Found}
use Rattle.sdr_model.specs.declared.things.Thing.TheVariants as things
use Rattle.sdr_model.specs.declared.things.Thing.{Thing}
use Rattle.sdr_model.specs.declared.zco.Capsule.{Capsule}
use Rattle.sdr_model.specs.declared.zco.Extent.{Extent}
use Rattle.sdr_model.specs.declared.zco.Subject.TheVariants as subjects
use Rattle.sdr_model.specs.declared.zco.Subject.{Subject}
use Rattle.sdr_model.specs.declared.zco.ZcoObject.{ZcoObject}
use Rattle.std.specs.FinMap as finite
use Rattle.std.specs.Option.{option_map, option_or}
use Rattle.std.specs.Ordering.{nat_cmp}
use Rattle.std.specs.Prelude.{◌≡◌, ◌<◌, ◌^◌, ℕ, ◌+◌, ◌*◌, ◌==◌, List, [], ◌∷◌, ◌++◌, length, map, Option, None, Some, find, position}

-- the things by their addresses
abbrev pub Things : Type 0
Things = finite.FinMap nat_cmp Thing

-- the owners of blocks inside things, by these blocks' addresses: the address of the thing that has or had each
abbrev pub Owners : Type 0
Owners = finite.FinMap nat_cmp ℕ

-- what a raw object of so many bytes fills: a word for the source that may name it stands before them
abbrev pub raw_need : ℕ → ℕ
raw_need bytes = 8 + bytes

-- what a string of so many bytes fills
abbrev pub text_need : ℕ → ℕ
text_need bytes = 1 + bytes

-- what a list fills
abbrev pub list_need : ℕ
list_need = 32

-- what an element of a list fills
abbrev pub element_need : ℕ
element_need = 32

-- what a table of so many rows of a size fills
abbrev pub table_need : ℕ → ℕ → ℕ
table_need rows size = 24 + rows * size

-- what a hash of so many buckets fills
abbrev pub hash_need : ℕ → ℕ
hash_need buckets = 24 + 8 * buckets

-- what an entry of a hash fills, whose keys have so many bytes
abbrev pub entry_need : ℕ → ℕ
entry_need key_length = 16 + key_length

-- what an entry of the catalogue fills
abbrev pub name_need : ℕ
name_need = 56

-- what a source fills, whose path has so many bytes
abbrev pub source_need : ℕ → ℕ
source_need path = 48 + path

-- the bytes of a subject's path
abbrev pub path_length : Subject → ℕ
path_length (subjects.File path) = length path
path_length subject = 0

-- what an object fills
abbrev pub object_need : ℕ
object_need = 72

-- what an extent fills
abbrev pub extent_need : ℕ
extent_need = 32

-- what a header or trailer of so many bytes fills
abbrev pub capsule_need : ℕ → ℕ
capsule_need bytes = 8 + bytes

-- the block of a thing
abbrev pub own_block : ℕ → Thing → UsedBlock
own_block addr (things.Raw bytes) = record { addr = addr; kind = kinds.Raw; bytes = raw_need (length bytes) }
own_block addr (things.Text text) = record { addr = addr; kind = kinds.Text; bytes = text_need (length text) }
own_block addr (things.List l) = record { addr = addr; kind = kinds.List; bytes = list_need }
own_block addr (things.Table t) = record { addr = addr; kind = kinds.Table; bytes = 24 + length t.bytes }
own_block addr (things.Hash h) = record { addr = addr; kind = kinds.Hash; bytes = hash_need h.buckets }
own_block addr (things.Source s) = record { addr = addr; kind = kinds.Source; bytes = source_need (path_length s.subject) }
own_block addr (things.Object z) = record { addr = addr; kind = kinds.Object; bytes = object_need }

-- the block of an element
abbrev pub block_for_element : Element → UsedBlock
block_for_element e = record { addr = e.block; kind = kinds.Element; bytes = element_need }

-- the block of an entry of a hash
abbrev pub entry_block : HashEntry → UsedBlock
entry_block e = record { addr = e.block; kind = kinds.HashEntry; bytes = entry_need (length e.key) }

-- the block of an entry of the catalogue
abbrev pub block_for_name : Name → UsedBlock
block_for_name n = record { addr = n.block; kind = kinds.Name; bytes = name_need }

-- the block of an extent
abbrev pub block_for_extent : Extent → UsedBlock
block_for_extent e = record { addr = e.block; kind = kinds.Extent; bytes = extent_need }

-- the block of a header or trailer
abbrev pub block_for_capsule : Capsule → UsedBlock
block_for_capsule c = record { addr = c.block; kind = kinds.Capsule; bytes = capsule_need (length c.text) }

-- the blocks of an object's headers, extents and trailers
abbrev pub object_blocks : ZcoObject → List UsedBlock
object_blocks z = map block_for_capsule z.headers ++ map block_for_extent z.extents ++ map block_for_capsule z.trailers

-- the blocks of what is in a thing
abbrev pub inner_blocks : Thing → List UsedBlock
inner_blocks (things.List l) = map block_for_element l.elements
inner_blocks (things.Hash h) = map entry_block h.entries
inner_blocks (things.Object z) = object_blocks z
inner_blocks thing = []

-- the block at an address among these
abbrev pub block_among : ℕ → List UsedBlock → Option UsedBlock
block_among addr = find (λ b. b.addr == addr)

-- a place in a list: the list's address, the list, and the place of one of its elements, counted from 0
pub record Spot : Type 0 where
  pub list : ℕ
  pub row : SdrList
  pub place : ℕ

-- where the element at an address stands, if the thing is a list that has it
abbrev pub spot_in_thing : ℕ → ℕ → Option Thing → Option Spot
spot_in_thing element list (Some (things.List row)) =
    option_map (λ place. record { list = list; row = row; place = place }) (position (λ e. e.block == element) row.elements)
spot_in_thing element list thing = None

-- where the element at an address stands among these things
abbrev pub spot_among : ℕ → List (ℕ × Thing) → Option Spot
spot_among element [] = None
spot_among element (e ∷ es) = option_or (spot_in_thing element e.0 (Some e.1)) (spot_among element es)

-- the spot that was found is this one
abbrev pub SpotIs : Option Found → Option Spot → Type 0
SpotIs None spot = spot ≡ None
SpotIs (Some found) spot = spot ≡ Some (record { list = found.list; row = found.row.now; place = found.place })

-- the place of the spot that was found is one of its list
abbrev pub IsWithin : Option Found → Type 0
IsWithin None = Unit {0}
IsWithin (Some found) = (found.place < length found.row.now.elements) × (found.place < 2 ^ 63)

-- the block at an address inside these things
abbrev pub inner_among : ℕ → List (ℕ × Thing) → Option UsedBlock
inner_among addr [] = None
inner_among addr (e ∷ es) = option_or (block_among addr (inner_blocks e.1)) (inner_among addr es)

-- the things with this at an address, or without the one there
abbrev pub with_at : Things → ℕ → Option Thing → Things
with_at things addr None = finite.remove things addr
with_at things addr (Some thing) = finite.insert things addr thing
