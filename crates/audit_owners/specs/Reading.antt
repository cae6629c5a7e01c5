-- The rows that the blocks of chains keep, as they are read of a heap.
use Rattle.std.specs.Prelude.{◌≡◌, ◌≤◌, ◌==◌, ◌+◌, ◌*◌, ℕ, List, [], All, drop, get_or, length, ⊤, Option, Some, None}
use Rattle.sdr_base.specs.Blocks.{Block}
use Rattle.sdr_base.specs.Catalogue.{NameRow}
use Rattle.sdr_base.specs.Hashes.{HashItem}
use Rattle.sdr_base.specs.Lists.{ListElement}
use Rattle.sdr_base.specs.Parts.{part}
use Rattle.sdr_base.specs.Stored.{number_at}
use Rattle.sdr_base.specs.Tickets.{TicketRow}
use Rattle.sdr_base.specs.ZcoObjects.{CapsuleRow, ExtentRow}
use Rattle.sdr_base.specs.declared.account.Amounts.{Amounts}
use Rattle.sdr_base.specs.declared.kind.Kind.{Kind}
use Rattle.sdr_base.specs.declared.kind.Kind.TheVariants as kinds
use Rattle.sdr_base.specs.declared.layout.capsule.TheConstants as capsule
use Rattle.sdr_base.specs.declared.layout.element.TheConstants as element
use Rattle.sdr_base.specs.declared.layout.extent.TheConstants as extent
use Rattle.sdr_base.specs.declared.layout.hash_entry.TheConstants as hash_entry
use Rattle.sdr_base.specs.declared.layout.name.TheConstants as name
use Rattle.sdr_base.specs.declared.layout.ticket.TheConstants as ticket
use Rattle.sdr_base.specs.declared.line.TheConstants.{WORD}
use Rattle.audit_owners.specs.Owned.{AreBytes}
use Rattle.audit_owners.specs.View.{View, word_of}

-- the bytes of a block, none where there is no block
abbrev pub bytes_of : Option Block → List ℕ
bytes_of None = []
bytes_of (Some block) = block.bytes

-- the bytes of a block behind its first so many words
abbrev pub behind_words : Option Block → ℕ → List ℕ
behind_words block words = drop (WORD * words) (bytes_of block)

-- the name in these bytes: as many as the first of them tells, behind it
abbrev pub name_in : List ℕ → List ℕ
name_in bytes = part 1 (get_or bytes 0 0) bytes

-- the entry of the catalogue at an address
abbrev pub name_read : View → ℕ → NameRow
name_read heap addr =
    let block = heap.blocks addr in
    record {
      addr = addr;
      type_number = word_of block name.TYPE;
      object = word_of block name.OBJECT;
      name = name_in (behind_words block name.WORDS);
    }

-- three words of a block as an amount of each space
abbrev pub amounts_read : Option Block → ℕ → Amounts
amounts_read block first =
    record { file = word_of block first; bulk = word_of block (first + 1); heap = word_of block (first + 2) }

-- the ticket at an address
abbrev pub ticket_read : View → ℕ → TicketRow
ticket_read heap addr =
    let block = heap.blocks addr in
    record {
      addr = addr;
      number = word_of block ticket.NUMBER;
      coarse = word_of block ticket.COARSE;
      fine = word_of block ticket.FINE;
      asked = amounts_read block ticket.ASKED_FILE;
      left = amounts_read block ticket.LEFT_FILE;
      granted = word_of block ticket.GRANTED == 1;
    }

-- the element of a list at an address
abbrev pub element_read : View → ℕ → ListElement
element_read heap addr = record { addr = addr; datum = word_of (heap.blocks addr) element.DATUM }

-- the entry of a hash at an address
abbrev pub item_read : View → ℕ → HashItem
item_read heap addr =
    let block = heap.blocks addr in
    record { addr = addr; value = word_of block hash_entry.VALUE; key = behind_words block hash_entry.WORDS }

-- the header or trailer at an address
abbrev pub capsule_read : View → ℕ → CapsuleRow
capsule_read heap addr = record { addr = addr; text = behind_words (heap.blocks addr) capsule.WORDS }

-- the extent at an address
abbrev pub extent_read : View → ℕ → ExtentRow
extent_read heap addr =
    let block = heap.blocks addr in
    record {
      addr = addr;
      source = word_of block extent.SOURCE;
      offset = word_of block extent.OFFSET;
      length = word_of block extent.LENGTH;
    }

-- these bytes are a name in 32 bytes: its length, the name, and zeros
pub record IsNameField (bytes : List ℕ) : Type 0 where
  pub count : length bytes ≡ 32
  pub short : get_or bytes 0 0 ≤ 31
  pub zeros : All (λ byte. byte ≡ 0) (drop (1 + get_or bytes 0 0) bytes)

-- a ticket has all its words, and one of them tells whether it was granted
pub record IsTicket (bytes : List ℕ) : Type 0 where
  pub count : length bytes ≡ WORD * ticket.WORDS
  pub granted : number_at (WORD * ticket.GRANTED) bytes ≤ 1

-- a block that stands in chains has the bytes that its kind's layout asks
abbrev pub HasForm : Kind → List ℕ → Type 0
HasForm kinds.Element bytes = length bytes ≡ WORD * element.WORDS
HasForm kinds.HashEntry bytes = WORD * hash_entry.WORDS ≤ length bytes
HasForm kinds.Name bytes = IsNameField (drop (WORD * name.WORDS) bytes)
HasForm kinds.Extent bytes = length bytes ≡ WORD * extent.WORDS
HasForm kinds.Capsule bytes = WORD * capsule.WORDS ≤ length bytes
HasForm kinds.Ticket bytes = IsTicket bytes
HasForm kind bytes = ⊤

-- each block has bytes, in the form of its kind
pub record IsReadable (heap : View) : Type 0 where
  pub bytes : (addr : ℕ) (block : Block) → heap.blocks addr ≡ Some block → AreBytes block.bytes
  pub form : (addr : ℕ) (block : Block) → heap.blocks addr ≡ Some block → HasForm block.kind block.bytes
