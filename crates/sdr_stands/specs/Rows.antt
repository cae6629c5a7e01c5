-- The things of a world as the plain rows that their blocks keep.
use Rattle.std.specs.Prelude.{ℕ, ◌==◌, List, [], map, filter}
use Rattle.std.specs.List.{range_with_len}
use Rattle.sdr_base.specs.Catalogue.{NameRow}
use Rattle.sdr_base.specs.Hashes.{HashItem, HashRow}
use Rattle.sdr_base.specs.Lists.{ListElement, ListRow}
use Rattle.sdr_base.specs.Sources.{SourceRow}
use Rattle.sdr_base.specs.Tables.{TableRow}
use Rattle.sdr_base.specs.ZcoObjects.{CapsuleRow, ExtentRow, ObjectRow}
use Rattle.sdr_base.specs.declared.medium.Medium.{Medium}
use Rattle.sdr_base.specs.declared.medium.Medium.TheVariants as media
use Rattle.sdr_model.specs.HashSteps.{bucket_of}
use Rattle.sdr_model.specs.Hashes.{Hash}
use Rattle.sdr_model.specs.Tables.{Table}
use Rattle.sdr_model.specs.declared.name.Name.{Name}
use Rattle.sdr_model.specs.declared.things.Element.{Element}
use Rattle.sdr_model.specs.declared.things.HashEntry.{HashEntry}
use Rattle.sdr_model.specs.declared.things.SdrList.{SdrList}
use Rattle.sdr_model.specs.declared.zco.Capsule.{Capsule}
use Rattle.sdr_model.specs.declared.zco.Extent.{Extent}
use Rattle.sdr_model.specs.declared.zco.Subject.{Subject}
use Rattle.sdr_model.specs.declared.zco.Subject.TheVariants as subjects
use Rattle.sdr_model.specs.declared.zco.ZcoObject.{ZcoObject}
use Rattle.sdr_model.specs.declared.zco.ZcoSource.{ZcoSource}

-- an element of a list
abbrev pub element_row : Element → ListElement
element_row e = record { addr = e.block; datum = e.datum }

-- a list, its elements in order
abbrev pub list_row : SdrList → ListRow
list_row list = record { user = list.user; elements = map element_row list.elements }

-- a table
abbrev pub table_row : Table → TableRow
table_row table = record { user = table.user; size = table.size; rows = table.rows; bytes = table.bytes }

-- an entry of a hash
abbrev pub item_row : HashEntry → HashItem
item_row e = record { addr = e.block; value = e.value; key = e.key }

-- the entries of a hash in one bucket, the newest first: that of a key is the sum of its bytes modulo the buckets
abbrev pub bucket_row : Hash → ℕ → List HashItem
bucket_row hash bucket = map item_row (filter (λ e. bucket_of hash.buckets e.key == bucket) hash.entries)

-- a hash, its buckets in order
abbrev pub hash_row : Hash → HashRow
hash_row hash = record {
  key_length = hash.key_length;
  buckets = map (bucket_row hash) (range_with_len 0 hash.buckets);
}

-- where the bytes of a subject lie
abbrev pub medium_of : Subject → Medium
medium_of (subjects.File path) = media.File
medium_of (subjects.Bulk item) = media.Bulk
medium_of (subjects.Heap raw) = media.Heap
medium_of (subjects.Obj raw) = media.Obj

-- the number of the item, or the address of the raw object, and 0 for a file
abbrev pub subject_number : Subject → ℕ
subject_number (subjects.File path) = 0
subject_number (subjects.Bulk item) = item
subject_number (subjects.Heap raw) = raw
subject_number (subjects.Obj raw) = raw

-- the path of a file, and nothing for another subject
abbrev pub path_of : Subject → List ℕ
path_of (subjects.File path) = path
path_of subject = []

-- a source
abbrev pub source_row : ZcoSource → SourceRow
source_row source = record {
  medium = medium_of source.subject;
  flagged = source.flagged;
  subject = subject_number source.subject;
  length = source.length;
  path = path_of source.subject;
}

-- a header or trailer
abbrev pub capsule_row : Capsule → CapsuleRow
capsule_row c = record { addr = c.block; text = c.text }

-- an extent
abbrev pub extent_row : Extent → ExtentRow
extent_row e = record { addr = e.block; source = e.source; offset = e.offset; length = e.length }

-- an object, its headers, extents and trailers in order
abbrev pub object_row : ZcoObject → ObjectRow
object_row z = record {
  account = z.account;
  headers = map capsule_row z.headers;
  extents = map extent_row z.extents;
  trailers = map capsule_row z.trailers;
  part_offset = z.part.offset;
  part_length = z.part.length;
}

-- an entry of the catalogue
abbrev pub name_row : Name → NameRow
name_row n = record { addr = n.block; type_number = n.kind; object = n.object; name = n.name }
