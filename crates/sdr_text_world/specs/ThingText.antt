-- What is printed of things. Each `.._on` is the line so far, with one more thing on it.
use Rattle.std.specs.Prelude.{ℕ, ◌<◌, ◌^◌, List, [], ◌++◌, codes, cond, decimal, flat_map, length, unwrap_or}
use Rattle.sdr_base.specs.declared.account.Acct.TheVariants as accts
use Rattle.sdr_model.specs.Hashes.{Hash}
use Rattle.sdr_model.specs.Tables.{Table}
use Rattle.sdr_model.specs.World.{World}
use Rattle.sdr_model.specs.Zco as zco
use Rattle.sdr_model.specs.ObjectSteps.{wire_length}
use Rattle.sdr_model.specs.declared.things.Element.{Element}
use Rattle.sdr_model.specs.declared.things.SdrList.{SdrList}
use Rattle.sdr_model.specs.declared.things.Thing.{Thing}
use Rattle.sdr_model.specs.declared.things.Thing.TheVariants as things
use Rattle.sdr_model.specs.declared.zco.Subject.{Subject}
use Rattle.sdr_model.specs.declared.zco.Subject.TheVariants as subjects
use Rattle.sdr_model.specs.declared.zco.ZcoObject.{ZcoObject}
use Rattle.sdr_model.specs.declared.zco.ZcoSource.{ZcoSource}
use Rattle.sdr_text.specs.Refused.{field_on}
use Rattle.sdr_text.specs.Text.{bytes_text, literal_text}
use Rattle.sdr_text_world.specs.AccountText.{account_on}

-- a raw object: how many bytes it has, and the source that names it, 0 for none
abbrev pub raw_on : List ℕ → List ℕ → ℕ → List ℕ
raw_on t bytes source = field_on (field_on (t ++ codes " raw") (length bytes)) source

-- a string: its bytes
abbrev pub string_on : List ℕ → List ℕ → List ℕ
string_on t text = t ++ codes " string " ++ bytes_text text

-- an element of a list: its address and its data
abbrev pub element_text : Element → List ℕ
element_text e = codes " " ++ decimal e.block ++ codes ":" ++ decimal e.datum

-- a list without its elements: the user's number, and how many elements it has
abbrev pub list_front_on : List ℕ → SdrList → List ℕ
list_front_on t row = field_on (field_on (t ++ codes " list") row.user) (length row.elements)

-- a list, and its elements
abbrev pub list_on : List ℕ → SdrList → List ℕ
list_on t row = list_front_on t row ++ flat_map element_text row.elements

-- a table: the user's number, how many rows it has, and the bytes of a row
abbrev pub table_on : List ℕ → Table → List ℕ
table_on t table = field_on (field_on (field_on (t ++ codes " table") table.user) table.rows) table.size

-- a hash: the bytes of a key, and how many entries it has
abbrev pub hash_on : List ℕ → Hash → List ℕ
hash_on t hash = field_on (field_on (t ++ codes " hash") hash.key_length) (length hash.entries)

-- where the bytes of a source are: a file by its path, an item of bulk storage by its number, a raw object by its address
abbrev pub subject_on : List ℕ → Subject → List ℕ
subject_on t (subjects.File path) = t ++ codes "file " ++ literal_text path
subject_on t (subjects.Bulk item) = field_on (t ++ codes "bulk") item
subject_on t (subjects.Heap raw) = field_on (t ++ codes "heap") raw
subject_on t (subjects.Obj raw) = field_on (t ++ codes "obj") raw

-- what stands behind the subject of a source: its length in bytes, how many extents of each account name it, and whether it is
-- flagged
abbrev pub behind_subject : ZcoSource → ℕ → ℕ → List ℕ
behind_subject source inbound outbound =
    field_on (field_on (field_on (field_on [] source.length) inbound) outbound) (cond source.flagged 1 0)

-- a source
abbrev pub source_on : List ℕ → ZcoSource → ℕ → ℕ → List ℕ
source_on t source inbound outbound =
    subject_on (t ++ codes " source ") source.subject ++ behind_subject source inbound outbound

-- an object: its account, how many extents, headers and trailers it has, its bytes on the wire, and its part
abbrev pub object_on : List ℕ → ZcoObject → List ℕ
object_on t z =
    let named = account_on (t ++ codes " object") z.account in
    let counted = field_on (field_on (field_on named (length z.extents)) (length z.headers)) (length z.trailers) in
    field_on (field_on (field_on counted (wire_length z)) z.part.offset) z.part.length

-- a thing of a world at an address
abbrev pub thing_on : World → ℕ → Thing → List ℕ
thing_on w addr (things.Raw bytes) = raw_on (decimal addr) bytes (unwrap_or (zco.source_naming w addr) 0)
thing_on w addr (things.Text text) = string_on (decimal addr) text
thing_on w addr (things.List row) = list_on (decimal addr) row
thing_on w addr (things.Table table) = table_on (decimal addr) table
thing_on w addr (things.Hash hash) = hash_on (decimal addr) hash
thing_on w addr (things.Source source) =
    source_on (decimal addr) source (zco.count_of w addr accts.Inbound) (zco.count_of w addr accts.Outbound)
thing_on w addr (things.Object z) = object_on (decimal addr) z

-- the line of a thing of a world at an address
abbrev pub thing_line : World → ℕ × Thing → List ℕ
thing_line w entry = thing_on w entry.0 entry.1 ++ codes "\n"

-- the lines of things of a world
abbrev pub things_text : World → List (ℕ × Thing) → List ℕ
things_text w = flat_map (thing_line w)

-- the bytes of a thing on the wire are fewer than a word can count, where it is an object
abbrev pub HasSmallWire : Thing → Type 0
HasSmallWire (things.Object z) = wire_length z < 2 ^ 64
HasSmallWire thing = Unit {0}
