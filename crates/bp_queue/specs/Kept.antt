-- Queues that are kept among blocks.
use Rattle.std.specs.Prelude.{◌≢◌, ◌<◌, ◌≤◌, ◌^◌, ◌-◌, ℕ, List, ◌∷◌, ◌++◌, length, map, replicate, All, AllPairs}
use Rattle.std.specs.List.{flat_map}
use Rattle.byteorder.specs.Endian.{big_bytes}
use Rattle.sdr_base.specs.Blocks.{Blocks}
use Rattle.sdr_base.specs.Entries.{BlocksAre, Entries}
use Rattle.sdr_base.specs.Lists.{ListElement, ListRow, list_entries}
use Rattle.sdr_base.specs.Raws.{raw_entries}
use Rattle.bp_queue.specs.Classes.{class_number}
use Rattle.bp_queue.specs.States.{State, Waiting, class_of, line_of}
use Rattle.bp_queue.specs.declared.class.Class.{Class}
use Rattle.bp_queue.specs.declared.class.Class.TheVariants as classes
use Rattle.bp_queue.specs.declared.queues.Queues.{Queues}

-- One that waits, with its sequence number and its elements, in the list of its class and in the line.
pub record Row : Type 0 where
  pub waiting : Waiting
  pub number : ℕ
  pub in_class : ℕ
  pub in_line : ℕ

-- who waits
abbrev pub waiting_of : Row → Waiting
waiting_of r = r.waiting

-- the state that rows keep
abbrev pub state_of : List Row → State
state_of = map waiting_of

-- the bytes by which an item is in order: its deadline, and what is the lower the higher its ordinal is
abbrev pub rank_bytes : Waiting → List ℕ
rank_bytes w = (255 - w.ordinal) ∷ class_number w.class ∷ replicate 6 0

-- the bytes of an item
abbrev pub item_bytes : Row → List ℕ
item_bytes r =
    big_bytes 8 r.waiting.deadline ++ (rank_bytes r.waiting ++ (big_bytes 8 r.number ++ (big_bytes 8 r.waiting.object
    ++ (big_bytes 8 r.in_class ++ big_bytes 8 r.in_line))))

-- the block of an item: a raw object that no source names
abbrev pub item_entries : Row → Entries
item_entries r = raw_entries r.waiting.item 0 (item_bytes r)

-- the blocks of items
abbrev pub items_entries : List Row → Entries
items_entries = flat_map item_entries

-- the element of an item in the list of its class
abbrev pub class_element : Row → ListElement
class_element r = record { addr = r.in_class; datum = r.waiting.item }

-- its element in the line
abbrev pub line_element : Row → ListElement
line_element r = record { addr = r.in_line; datum = r.waiting.item }

-- the list of a class, of all these rows
abbrev pub class_row : List Row → Class → ListRow
class_row rows class = record { user = class_number class; elements = map class_element (class_of waiting_of class rows) }

-- the line of all these rows, with the next sequence number
abbrev pub line_row : ℕ → List Row → ListRow
line_row next rows = record { user = next; elements = map line_element (line_of waiting_of rows) }

-- the list of a class
abbrev pub list_of : Queues → Class → ℕ
list_of q classes.Bulk = q.bulk
list_of q classes.Normal = q.normal
list_of q classes.Urgent = q.urgent

-- the blocks of four lists, and others
abbrev pub four_lists : Queues → (Class → ListRow) → ListRow → Entries → Entries
four_lists q of_class line more =
    list_entries q.bulk (of_class classes.Bulk) ++ (list_entries q.normal (of_class classes.Normal)
    ++ (list_entries q.urgent (of_class classes.Urgent) ++ (list_entries q.line line ++ more)))

-- the blocks of queues
abbrev pub queue_entries : Queues → ℕ → List Row → Entries
queue_entries q next rows = four_lists q (class_row rows) (line_row next rows) (items_entries rows)

-- the numbers of a row fit their fields, and its object's address isn't null
pub record RowFits (r : Row) : Type 0 where
  pub ordinal : r.waiting.ordinal < 2 ^ 8
  pub deadline : r.waiting.deadline < 2 ^ 64
  pub item : r.waiting.item < 2 ^ 64
  pub object : r.waiting.object < 2 ^ 64
  pub some : r.waiting.object ≢ 0
  pub in_class : r.in_class < 2 ^ 64
  pub in_line : r.in_line < 2 ^ 64

-- the addresses of the lists fit a word
pub record ListsFit (q : Queues) : Type 0 where
  pub bulk : q.bulk < 2 ^ 64
  pub normal : q.normal < 2 ^ 64
  pub urgent : q.urgent < 2 ^ 64
  pub line : q.line < 2 ^ 64

-- the next sequence number may be reached, but not passed
abbrev pub last_number : ℕ
last_number = 2 ^ 40

-- Sequence numbers rise and are below the next one, no object waits twice, and all numbers fit their fields.
pub record FitQueue (q : Queues) (next : ℕ) (rows : List Row) : Type 0 where
  pub lists : ListsFit q
  pub few : length rows < 2 ^ 32
  pub bound : next ≤ last_number
  pub rise : AllPairs (λ a b. a.number < b.number) rows
  pub below : All (λ r. r.number < next) rows
  pub apart : AllPairs (λ a b. a.waiting.object ≢ b.waiting.object) rows
  pub fits : All RowFits rows

-- these blocks keep the queues of these rows, and others beside them
pub record KeepsQueues (blocks : Blocks) (q : Queues) (next : ℕ) (rows : List Row) (rest : Entries) : Type 0 where
  pub stands : BlocksAre blocks (queue_entries q next rows ++ rest)
  pub fits : FitQueue q next rows

-- some queues are kept
pub record SomeQueues (blocks : Blocks) (q : Queues) : Type 0 where
  pub next : ℕ
  pub rows : List Row
  pub rest : Entries
  pub keeps : KeepsQueues blocks q next rows rest
