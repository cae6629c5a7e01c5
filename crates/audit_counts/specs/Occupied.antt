-- What is occupied of a space in an account.
use Rattle.std.specs.Prelude.{◌==◌, ◌+◌, ◌-◌, ◌*◌, ◌^◌, ℕ, Bool, cond, nat_lt, List, [], ◌∷◌, length, sum_by, Option, None, Some}
use Rattle.sdr_base.specs.Blocks.{Block}
use Rattle.sdr_base.specs.Sources.{medium_number}
use Rattle.sdr_base.specs.declared.account.Acct.{Acct}
use Rattle.sdr_base.specs.declared.control.TheConstants.{BULK_OCCUPANCY, FILE_OCCUPANCY, HEAP_OCCUPANCY}
use Rattle.sdr_base.specs.declared.kind.Kind.TheVariants as kinds
use Rattle.sdr_base.specs.declared.kind.Space.{Space}
use Rattle.sdr_base.specs.declared.kind.Space.TheVariants as spaces
use Rattle.sdr_base.specs.declared.layout.capsule.TheConstants as capsule
use Rattle.sdr_base.specs.declared.layout.source.TheConstants as source
use Rattle.sdr_base.specs.declared.layout.ticket.TheConstants as ticket
use Rattle.sdr_base.specs.declared.line.TheConstants.{WORD}
use Rattle.sdr_base.specs.declared.medium.Medium.TheVariants as media
use Rattle.audit_counts.specs.Counts.{count_field, is_object_of}
use Rattle.audit_owners.specs.Members.{members}
use Rattle.audit_owners.specs.Places.{places}
use Rattle.audit_counts.specs.declared.charges.Charges.{Charges}
use Rattle.sdr_model.specs.Amounts.{in_space}
use Rattle.sdr_model.specs.Charges.{capsule_bytes, extent_bytes, object_bytes}
use Rattle.audit_owners.specs.Owners.{account_word}
use Rattle.audit_owners.specs.View.{View, is_kind, length_of, word_of}
use Rattle.audit_owners.specs.declared.owner.Owner.TheVariants as owners

-- the space that the bytes of a source are in: a file's in file space, an item's in bulk space, and all others in heap space
abbrev pub medium_space : Option Block → Space
medium_space block =
    cond (word_of block source.MEDIUM == medium_number media.File) spaces.File
    (cond (word_of block source.MEDIUM == medium_number media.Bulk) spaces.Bulk spaces.Heap)

-- What the source at an address charges an account of a space: its whole length where its bytes are, once, where it tells that
-- an extent of the account's objects names it.
abbrev pub source_charge_at : View → Acct → Space → ℕ → ℕ
source_charge_at heap account space addr =
    let block = heap.blocks addr in
    cond (word_of block (count_field account) == 0) 0 (in_space (medium_space block) (word_of block source.LENGTH) space)

-- what the header or trailer at an address charges of a space, by the bytes of its text, which are behind its link
abbrev pub capsule_charge_at : View → Space → ℕ → ℕ
capsule_charge_at heap space addr =
    in_space spaces.Heap (capsule_bytes (length_of (heap.blocks addr) - WORD * capsule.WORDS)) space

-- what the object at an address charges of a space: for itself, its extents, its headers and its trailers
abbrev pub object_charge_at : View → ℕ → Space → ℕ → ℕ
object_charge_at heap words space addr =
    in_space spaces.Heap object_bytes space
    + in_space spaces.Heap (extent_bytes * length (members heap words (owners.Extents addr))) space
    + sum_by (capsule_charge_at heap space) (members heap words (owners.Headers addr))
    + sum_by (capsule_charge_at heap space) (members heap words (owners.Trailers addr))

-- what the block at an address charges an account of a space: nothing where it is neither a source nor an object of the account
abbrev pub charge_at : View → ℕ → Acct → Space → ℕ → ℕ
charge_at heap words account space addr =
    cond (is_object_of heap account addr) (object_charge_at heap words space addr)
    (cond (is_kind kinds.Source (heap.blocks addr)) (source_charge_at heap account space addr) 0)

-- the word of a ticket with what is left of a space
abbrev pub left_field : Space → ℕ
left_field spaces.File = ticket.LEFT_FILE
left_field spaces.Bulk = ticket.LEFT_BULK
left_field spaces.Heap = ticket.LEFT_HEAP

-- what is left of a space of the grant of the ticket at an address
abbrev pub left_at : View → Space → ℕ → ℕ
left_at heap space addr = word_of (heap.blocks addr) (left_field space)

-- what is occupied of a space in an account: what its objects charge, what the sources charge that they name, and what is left
-- of its tickets
abbrev pub occupancy_in : View → ℕ → Acct → Space → ℕ
occupancy_in heap words account space =
    sum_by (charge_at heap words account space) (places words)
    + sum_by (left_at heap space) (members heap words (owners.Queue account))

-- the word of an account with what is occupied of a space
abbrev pub occupancy_field : Space → ℕ
occupancy_field spaces.File = FILE_OCCUPANCY
occupancy_field spaces.Bulk = BULK_OCCUPANCY
occupancy_field spaces.Heap = HEAP_OCCUPANCY

-- the control word with what is occupied of a space in an account
abbrev pub occupancy_word : Acct → Space → ℕ
occupancy_word account space = account_word account + occupancy_field space

-- whether that word tells it
abbrev pub tells_occupancy : View → ℕ → Acct → Space → Bool
tells_occupancy heap words account space =
    heap.roots (occupancy_word account space) == occupancy_in heap words account space

-- the spaces in the order of their words
abbrev pub all_spaces : List Space
all_spaces = spaces.File ∷ spaces.Bulk ∷ spaces.Heap ∷ []

-- a sum as it fits a word, or none
abbrev pub as_word : ℕ → Option ℕ
as_word sum = cond (nat_lt sum (2 ^ 64)) (Some sum) None

-- the sums of these amounts of each space
abbrev pub charges_by : (Space → ℕ) → Charges
charges_by of = record {
  file = as_word (of spaces.File);
  bulk = as_word (of spaces.Bulk);
  heap = as_word (of spaces.Heap);
}
