-- The world that the blocks and control words of a heap tell.
use Rattle.std.specs.Prelude.{◌==◌, ◌+◌, ◌/◌, ℕ, cond, drop, List, [], length, map, filter_map, Option, None, Some}
use Rattle.std.specs.FinMap as finite
use Rattle.std.specs.List.{flat_map, range_with_len}
use Rattle.std.specs.Option.{option_map}
use Rattle.sdr_base.specs.Blocks.{Block}
use Rattle.sdr_base.specs.Sources.{medium_number}
use Rattle.sdr_base.specs.ZcoObjects.{account_number}
use Rattle.sdr_base.specs.declared.account.Acct.{Acct}
use Rattle.sdr_base.specs.declared.account.Acct.TheVariants as accts
use Rattle.sdr_base.specs.declared.control.TheConstants.{FILE_MAXIMUM, NEXT_TICKET}
use Rattle.sdr_base.specs.declared.kind.Kind.{Kind}
use Rattle.sdr_base.specs.declared.kind.Kind.TheVariants as kinds
use Rattle.sdr_base.specs.declared.layout.capsule.TheConstants as capsule
use Rattle.sdr_base.specs.declared.layout.element.TheConstants as element
use Rattle.sdr_base.specs.declared.layout.extent.TheConstants as extent
use Rattle.sdr_base.specs.declared.layout.hash.TheConstants as hash
use Rattle.sdr_base.specs.declared.layout.hash_entry.TheConstants as hash_entry
use Rattle.sdr_base.specs.declared.layout.list.TheConstants as list
use Rattle.sdr_base.specs.declared.layout.name.TheConstants as name
use Rattle.sdr_base.specs.declared.layout.object.TheConstants as object
use Rattle.sdr_base.specs.declared.layout.source.TheConstants as source
use Rattle.sdr_base.specs.declared.layout.table.TheConstants as table
use Rattle.sdr_base.specs.declared.line.TheConstants.{WORD}
use Rattle.sdr_base.specs.declared.medium.Medium.TheVariants as media
use Rattle.audit_owners.specs.Places.{places}
use Rattle.audit_owners.specs.Members.{members}
use Rattle.audit_counts.specs.Queues.{amounts_in, tickets}
use Rattle.sdr_model.specs.Hashes.{Hash}
use Rattle.sdr_model.specs.Tables.{Table}
use Rattle.sdr_model.specs.World.{World}
use Rattle.sdr_model.specs.declared.accounts.Account.{Account}
use Rattle.sdr_model.specs.declared.accounts.Accounts.{Accounts}
use Rattle.sdr_model.specs.declared.name.Name.{Name}
use Rattle.sdr_model.specs.declared.things.Element.{Element}
use Rattle.sdr_model.specs.declared.things.HashEntry.{HashEntry}
use Rattle.sdr_model.specs.declared.things.SdrList.{SdrList}
use Rattle.sdr_model.specs.declared.things.Thing.{Thing}
use Rattle.sdr_model.specs.declared.things.Thing.TheVariants as things
use Rattle.sdr_model.specs.declared.zco.Capsule.{Capsule}
use Rattle.sdr_model.specs.declared.zco.Extent.{Extent}
use Rattle.sdr_model.specs.declared.zco.Subject.{Subject}
use Rattle.sdr_model.specs.declared.zco.Subject.TheVariants as subjects
use Rattle.sdr_model.specs.declared.zco.ZcoObject.{ZcoObject}
use Rattle.sdr_model.specs.declared.zco.ZcoSource.{ZcoSource}
use Rattle.audit_owners.specs.Reading.{behind_words, bytes_of, name_in}
use Rattle.audit_owners.specs.View.{View, view_in, word_of}
use Rattle.audit_owners.specs.declared.owner.Owner.TheVariants as owners

-- the element of a list at an address
abbrev pub element_told : View → ℕ → Element
element_told heap addr = record { block = addr; datum = word_of (heap.blocks addr) element.DATUM }

-- the list at an address: the user's number, and the elements in the order of its chain
abbrev pub list_told : View → ℕ → ℕ → SdrList
list_told heap words addr = record {
  user = word_of (heap.blocks addr) list.USER;
  elements = map (element_told heap) (members heap words (owners.List addr));
}

-- a table
abbrev pub table_told : Option Block → Table
table_told block = record {
  user = word_of block table.USER;
  rows = word_of block table.ROWS;
  size = word_of block table.SIZE;
  bytes = behind_words block table.WORDS;
}

-- the entry of a hash at an address
abbrev pub entry_told : View → ℕ → HashEntry
entry_told heap addr = record {
  block = addr;
  key = behind_words (heap.blocks addr) hash_entry.WORDS;
  value = word_of (heap.blocks addr) hash_entry.VALUE;
}

-- the entries of a hash in the chain of one bucket
abbrev pub bucket_told : View → ℕ → ℕ → ℕ → List HashEntry
bucket_told heap words addr bucket = map (entry_told heap) (members heap words (owners.Bucket addr (hash.WORDS + bucket)))

-- the entries in its first so many buckets, by bucket
abbrev pub entries_up_to : View → ℕ → ℕ → ℕ → List HashEntry
entries_up_to heap words addr buckets = flat_map (bucket_told heap words addr) (range_with_len 0 buckets)

-- the hash at an address: the bytes of a key, the count of its buckets, and the entries, bucket by bucket
abbrev pub hash_told : View → ℕ → ℕ → Hash
hash_told heap words addr =
    let buckets = word_of (heap.blocks addr) hash.BUCKETS in
    record {
      key_length = word_of (heap.blocks addr) hash.KEY_LENGTH;
      buckets = buckets;
      entries = entries_up_to heap words addr buckets;
    }

-- what a source's bytes are: those of a file with a path, of a bulk item, of a raw object that it owns, or of one that it only names
abbrev pub subject_told : Option Block → Subject
subject_told block =
    let medium = word_of block source.MEDIUM in
    let subject = word_of block source.SUBJECT in
    cond (medium == medium_number media.File) (subjects.File (behind_words block source.WORDS))
    (cond (medium == medium_number media.Bulk) (subjects.Bulk subject)
    (cond (medium == medium_number media.Heap) (subjects.Heap subject) (subjects.Obj subject)))

-- a source
abbrev pub source_told : Option Block → ZcoSource
source_told block = record {
  subject = subject_told block;
  length = word_of block source.LENGTH;
  flagged = word_of block source.FLAG == 1;
}

-- the header or trailer at an address
abbrev pub capsule_told : View → ℕ → Capsule
capsule_told heap addr = record { block = addr; text = behind_words (heap.blocks addr) capsule.WORDS }

-- the extent at an address
abbrev pub extent_told : View → ℕ → Extent
extent_told heap addr = record {
  block = addr;
  source = word_of (heap.blocks addr) extent.SOURCE;
  offset = word_of (heap.blocks addr) extent.OFFSET;
  length = word_of (heap.blocks addr) extent.LENGTH;
}

-- the account of a number
abbrev pub account_told : ℕ → Acct
account_told number = cond (number == account_number accts.Inbound) accts.Inbound accts.Outbound

-- the object at an address: its account, its headers, extents and trailers in the orders of their chains, and its part
abbrev pub object_told : View → ℕ → ℕ → ZcoObject
object_told heap words addr = record {
  account = account_told (word_of (heap.blocks addr) object.ACCOUNT);
  headers = map (capsule_told heap) (members heap words (owners.Headers addr));
  extents = map (extent_told heap) (members heap words (owners.Extents addr));
  trailers = map (capsule_told heap) (members heap words (owners.Trailers addr));
  part = record {
    offset = word_of (heap.blocks addr) object.PART_OFFSET;
    length = word_of (heap.blocks addr) object.PART_LENGTH;
  };
}

-- the thing whose own block has a kind and stands at an address; the kinds of what is inside of things have none
abbrev pub thing_of_kind : Kind → View → ℕ → ℕ → Option Thing
thing_of_kind kinds.Raw heap words addr = Some (things.Raw (drop 8 (bytes_of (heap.blocks addr))))
thing_of_kind kinds.Text heap words addr = Some (things.Text (drop 1 (bytes_of (heap.blocks addr))))
thing_of_kind kinds.List heap words addr = Some (things.List (list_told heap words addr))
thing_of_kind kinds.Element heap words addr = None
thing_of_kind kinds.Table heap words addr = Some (things.Table (table_told (heap.blocks addr)))
thing_of_kind kinds.Hash heap words addr = Some (things.Hash (hash_told heap words addr))
thing_of_kind kinds.HashEntry heap words addr = None
thing_of_kind kinds.Name heap words addr = None
thing_of_kind kinds.Source heap words addr = Some (things.Source (source_told (heap.blocks addr)))
thing_of_kind kinds.Object heap words addr = Some (things.Object (object_told heap words addr))
thing_of_kind kinds.Extent heap words addr = None
thing_of_kind kinds.Capsule heap words addr = None
thing_of_kind kinds.Ticket heap words addr = None

-- the thing at an address where this block, or none, stands
abbrev pub thing_by : Option Block → View → ℕ → ℕ → Option Thing
thing_by None heap words addr = None
thing_by (Some block) heap words addr = thing_of_kind block.kind heap words addr

-- the thing at an address
abbrev pub thing_told : View → ℕ → ℕ → Option Thing
thing_told heap words addr = thing_by (heap.blocks addr) heap words addr

-- the things of a heap of so many words by their addresses, which rise
abbrev pub things_told : View → ℕ → List (ℕ × Thing)
things_told heap words = filter_map (λ addr. option_map (λ thing. (addr, thing)) (thing_told heap words addr)) (places words)

-- the entry of the catalogue at an address
abbrev pub name_told : View → ℕ → Name
name_told heap addr = record {
  block = addr;
  name = name_in (behind_words (heap.blocks addr) name.WORDS);
  kind = word_of (heap.blocks addr) name.TYPE;
  object = word_of (heap.blocks addr) name.OBJECT;
}

-- an account: its tickets in the order of its queue, and its maxima
abbrev pub account_in : View → ℕ → Acct → Account
account_in heap words account = record {
  tickets = tickets heap words account;
  maxima = amounts_in heap account FILE_MAXIMUM;
}

-- both accounts, and the number of the next ticket
abbrev pub accounts_told : View → ℕ → Accounts
accounts_told heap words = record {
  inbound = account_in heap words accts.Inbound;
  outbound = account_in heap words accts.Outbound;
  next = heap.roots NEXT_TICKET;
}

-- the world that a heap of so many words tells, at rest
abbrev pub world_told : View → ℕ → World
world_told heap words = record {
  things = finite.from_sorted (things_told heap words);
  names = map (name_told heap) (members heap words owners.Catalogue);
  accounts = accounts_told heap words;
  marks = [];
  shown = [];
  taken = 0;
}

-- the world that the bytes of a heap region tell
abbrev pub world_of : List ℕ → World
world_of bytes = world_told (view_in bytes) (length bytes / WORD)
