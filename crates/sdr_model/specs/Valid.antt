-- Valid worlds: things keep their limits, and nothing is there twice. Marks, shown bytes and counts are free.
use Rattle.std.specs.Prelude.{◌≡◌, ◌≤◌, ◌<◌, ◌+◌, ℕ, ◌*◌, ◌==◌, ◌&&◌, ◌||◌, not, Bool, true, false, List, ◌++◌, length, map, nat_eq, nat_lt, is_some, All, AllPairs, Contains, Option, None, Some, IfSome}
use Rattle.std.specs.Cmp.Lexicographic.{pointwise}
use Rattle.std.specs.List.{IsDistinct}
use Rattle.std.specs.List.Sorted.{IsNonDecreasingBy}
use Rattle.sdr_base.specs.declared.account.Acct.{Acct}
use Rattle.sdr_model.specs.Accounts.{most_amount, tickets_of}
use Rattle.sdr_model.specs.Amounts.{amounts_by, are_within, no_amounts}
use Rattle.sdr_model.specs.Blocks.{blocks_of, addresses_of}
use Rattle.sdr_model.specs.Charges.{rooms}
use Rattle.sdr_model.specs.Gone.{is_passing}
use Rattle.sdr_model.specs.HashSteps.{bucket_of}
use Rattle.sdr_model.specs.Hashes.{Hash}
use Rattle.sdr_model.specs.Limits.{longest_raw, longest_string, longest_name, longest_key, longest_path, longest_capsule, longest_source, most_buckets}
use Rattle.sdr_model.specs.PartSteps.{part_end}
use Rattle.sdr_model.specs.Queue.{front_waiting}
use Rattle.sdr_model.specs.Tables.{Table}
use Rattle.sdr_model.specs.World.{World, thing_at, as_raw}
use Rattle.sdr_model.specs.Zco.{extents_length, names_raw, owned_raw, source_at, uses_of}
use Rattle.sdr_model.specs.declared.accounts.Account.{Account}
use Rattle.sdr_model.specs.declared.accounts.Accounts.{Accounts}
use Rattle.sdr_model.specs.declared.accounts.Ticket.{Ticket}
use Rattle.sdr_model.specs.declared.things.Thing.TheVariants as things
use Rattle.sdr_model.specs.declared.things.Thing.{Thing}
use Rattle.sdr_model.specs.declared.zco.Capsule.{Capsule}
use Rattle.sdr_model.specs.declared.zco.Extent.{Extent}
use Rattle.sdr_model.specs.declared.zco.Subject.{Subject}
use Rattle.sdr_model.specs.declared.zco.Subject.TheVariants as subjects
use Rattle.sdr_model.specs.declared.zco.ZcoObject.{ZcoObject}
use Rattle.sdr_model.specs.declared.zco.ZcoSource.{ZcoSource}

-- a number lies between these two, or is one of them
abbrev pub IsBetween : ℕ → ℕ → ℕ → Type 0
IsBetween least most n = (least ≤ n) × (n ≤ most)

-- no two of these texts are the same
abbrev pub AreDistinct : List (List ℕ) → Type 0
AreDistinct texts = IsDistinct (pointwise nat_eq) texts

-- a table's rows, a row and all rows together keep to the limits, and its bytes are just its rows
pub record IsValidTable (table : Table) : Type 0 where
  pub rows : table.rows ≤ longest_raw
  pub size : table.size ≤ longest_raw
  pub all_rows : table.rows * table.size ≤ longest_raw
  pub bytes : length table.bytes ≡ table.rows * table.size

-- the keys of a hash, in the order of its entries
abbrev pub keys_of : Hash → List (List ℕ)
keys_of hash = map (λ e. e.key) hash.entries

-- A hash's key length and buckets keep to the limits. Its keys have that length, none is there twice, and they stand by
-- bucket.
pub record IsValidHash (hash : Hash) : Type 0 where
  pub key_length : IsBetween 1 longest_key hash.key_length
  pub buckets : IsBetween 1 most_buckets hash.buckets
  pub keys : All (λ key. length key ≡ hash.key_length) (keys_of hash)
  pub distinct_keys : AreDistinct (keys_of hash)
  pub by_bucket : IsNonDecreasingBy (bucket_of hash.buckets) (keys_of hash)

-- a file's path keeps to the limits
abbrev pub IsValidSubject : Subject → Type 0
IsValidSubject (subjects.File path) = IsBetween 1 longest_path (length path)
IsValidSubject subject = Unit {0}

-- A source and its path keep to the limits, and one that has taken over a raw object isn't flagged.
pub record IsValidSource (source : ZcoSource) : Type 0 where
  pub subject : IsValidSubject source.subject
  pub length : source.length ≤ longest_source
  pub unflagged : is_some (owned_raw source) ≡ true → source.flagged ≡ false

-- a header or trailer keeps to the limits
abbrev pub IsValidCapsule : Capsule → Type 0
IsValidCapsule c = IsBetween 1 longest_capsule (length c.text)

-- The headers and trailers of an object keep to the limits, each extent has a byte, and the part lies inside them.
pub record IsValidObject (object : ZcoObject) : Type 0 where
  pub headers : All IsValidCapsule object.headers
  pub trailers : All IsValidCapsule object.trailers
  pub extents : All (λ e. 1 ≤ e.length) object.extents
  pub part : part_end object ≤ extents_length object.extents

-- the thing keeps its limits
abbrev pub IsValidThing : Thing → Type 0
IsValidThing (things.Raw bytes) = length bytes ≤ longest_raw
IsValidThing (things.Text text) = length text ≤ longest_string
IsValidThing (things.List row) = Unit {0}
IsValidThing (things.Table table) = IsValidTable table
IsValidThing (things.Hash hash) = IsValidHash hash
IsValidThing (things.Source source) = IsValidSource source
IsValidThing (things.Object object) = IsValidObject object

-- the names of the catalogue's entries
abbrev pub names_of : World → List (List ℕ)
names_of w = map (λ n. n.name) w.names

-- an extent lies inside its source, which is there
abbrev pub LiesInside : Extent → Option ZcoSource → Type 0
LiesInside e None = ⊥
LiesInside e (Some source) = e.offset + e.length ≤ source.length

-- the extents of a thing lie inside their sources
abbrev pub AreInside : World → Thing → Type 0
AreInside w (things.Object z) = All (λ e. LiesInside e (source_at w e.source)) z.extents
AreInside w thing = Unit {0}

-- the raw object is there, and has so many bytes
abbrev pub HasBytes : ℕ → Option (List ℕ) → Type 0
HasBytes bytes None = ⊥
HasBytes bytes (Some text) = length text ≡ bytes

-- the raw object of a source is there, and has the source's length
abbrev pub HasSubject : World → ℕ → Subject → Type 0
HasSubject w bytes (subjects.Heap raw) = HasBytes bytes (as_raw (thing_at w raw))
HasSubject w bytes (subjects.Obj raw) = HasBytes bytes (as_raw (thing_at w raw))
HasSubject w bytes subject = Unit {0}

-- a source that goes with its last extent has one
abbrev pub HasExtentIfPassing : World → ℕ → ZcoSource → Type 0
HasExtentIfPassing w addr source = is_passing source ≡ true → 1 ≤ uses_of w addr

-- Sources and extents fit each other: extents lie inside their sources, sources of raw objects have these, no raw object
-- has two, and a source that goes with its last extent has one.
pub record FitTogether (w : World) : Type 0 where
  pub inside : (addr : ℕ) → IfSome (thing_at w addr) (AreInside w)
  pub subjects : (addr : ℕ) → IfSome (source_at w addr) (λ source. HasSubject w source.length source.subject)
  pub alone : (raw a b : ℕ)
      → IfSome (thing_at w a) (λ s. IfSome (thing_at w b)
      (λ t. names_raw raw s ≡ true → names_raw raw t ≡ true → a ≡ b))
  pub used : (addr : ℕ) → IfSome (source_at w addr) (HasExtentIfPassing w addr)

-- whether two tickets may stand one before the other: granted ones are first, and those that wait go by coarse priority, by
-- fine priority, and by number
abbrev pub may_precede : Ticket → Ticket → Bool
may_precede a b =
    a.granted
    || (not b.granted
    && (nat_lt b.coarse a.coarse
    || (a.coarse == b.coarse && (nat_lt b.fine a.fine || (a.fine == b.fine && nat_lt a.number b.number)))))

-- what is left of a ticket is at most what it asks, which is at most the greatest amount; nothing is left while it waits
pub record IsValidTicket (t : Ticket) : Type 0 where
  pub asked : are_within t.asked (amounts_by (λ space. most_amount)) ≡ true
  pub left : are_within t.left t.asked ≡ true
  pub waiting : t.granted ≡ false → t.left ≡ no_amounts

-- the queue of an account keeps its order, and its maxima are at most the greatest amount
pub record IsValidAccount (account : Account) : Type 0 where
  pub tickets : All IsValidTicket account.tickets
  pub order : AllPairs (λ a b. may_precede a b ≡ true) account.tickets
  pub maxima : are_within account.maxima (amounts_by (λ space. most_amount)) ≡ true

-- the numbers of all tickets
abbrev pub numbers_of : Accounts → List ℕ
numbers_of accounts = map (λ t. t.number) (accounts.inbound.tickets ++ accounts.outbound.tickets)

-- The queue law, but for its front: both queues keep their order, and the numbers are distinct and below the next one.
pub record KeepQueues (accounts : Accounts) : Type 0 where
  pub inbound : IsValidAccount accounts.inbound
  pub outbound : IsValidAccount accounts.outbound
  pub distinct : IsDistinct nat_eq (numbers_of accounts)
  pub below : All (λ n. n < accounts.next) (numbers_of accounts)
  pub next : accounts.next ≤ most_amount

-- the first ticket that waits asks of some space more than the room
abbrev pub IsBarred : World → Acct → Type 0
IsBarred w acct =
    IfSome (front_waiting (tickets_of w.accounts acct)) (λ t. are_within t.asked (rooms w acct) ≡ false)

-- a world whose things and names keep their limits, where no name is there twice, and no two blocks begin at one
-- address, nor any at 0
pub record IsValid (w : World) : Type 0 where
  pub things : (addr : ℕ) → IfSome (thing_at w addr) IsValidThing
  pub names : All (λ name. IsBetween 1 longest_name (length name)) (names_of w)
  pub distinct_names : AreDistinct (names_of w)
  pub nonzero : ¬ Contains (addresses_of (blocks_of w)) 0
  pub distinct_addresses : IsDistinct nat_eq (addresses_of (blocks_of w))
