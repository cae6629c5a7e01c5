-- What stands in a heap beside a text that is rebuilt, from an empty heap on.
use Rattle.std.specs.Prelude.{◌≡◌, ◌+◌, ◌*◌, ◌<◌, ◌≤◌, ◌^◌, ℕ, List, [], ◌∷◌, ◌++◌, length, map, All, Option, None, Some}
use Rattle.sdr_base.specs.Entries.{Entries}
use Rattle.sdr_base.specs.Objects.{Heap}
use Rattle.sdr_base.specs.Raws.{raw_entries}
use Rattle.sdr_base.specs.declared.account.Acct.{Acct}
use Rattle.sdr_base.specs.declared.account.Acct.TheVariants as accts
use Rattle.sdr_base.specs.declared.medium.Medium.TheVariants as media
use Rattle.sdr_model.specs.declared.accounts.Ticket.{Ticket}
use Rattle.zco_obj.specs.Gone.{NamedSource, source_at}
use Rattle.zco_obj.specs.Links.{piece_of}
use Rattle.zco_obj.specs.Making.{empty_row}
use Rattle.zco_obj.specs.declared.extent.ExtentPiece.{ExtentPiece}
use Rattle.zco_join.specs.Joining.{AreClones}
use Rattle.zco_join.specs.Stocks.{CountsMore, KeepsStock, Queue, Standing, Stock}
use Rattle.zco_join.specs.declared.filled.Filled.{Filled}

-- a source of a raw object has the bytes of a piece of it
abbrev pub HasBytes : ExtentPiece → Option NamedSource → Type 0
HasBytes p None = ⊥
HasBytes p (Some s) = (s.source.row.medium ≡ media.Heap) × (s.source.row.path ≡ []) × (p.offset + p.bytes ≤ length s.bytes)

-- so it is with each extent of an object
abbrev pub HasAllBytes : List NamedSource → Standing → Type 0
HasAllBytes sources z = All (λ e. HasBytes (piece_of e) (source_at e.source sources)) z.row.extents

-- The heap keeps a stock. No object has more extents than `most`, the sources have the bytes that the extents name, and there is room for
-- so many moves, and for as many extents more of each source.
pub record Holds (heap : Heap) (most room : ℕ) (s : Stock) : Type 0 where
  pub keeps : KeepsStock heap s
  pub short : All (λ z. length z.row.extents ≤ most) s.objects
  pub bytes : All (HasAllBytes s.sources) s.objects
  pub counts : All (CountsMore room) s.sources
  pub spare : room ≤ heap.spare

-- both queues
abbrev pub both : (Acct → List Ticket) → List Queue
both tickets =
    record { acct = accts.Inbound; tickets = tickets accts.Inbound } ∷ record { acct = accts.Outbound; tickets = tickets accts.Outbound } ∷ []

-- the account that it isn't
abbrev pub other : Acct → Acct
other accts.Inbound = accts.Outbound
other accts.Outbound = accts.Inbound

-- nothing but a list of blocks, and no ticket
abbrev pub with_rest : Entries → Stock
with_rest rest = record { objects = []; queues = both (λ acct. []); sources = []; rest = rest }

-- no block is in use, and no ticket waits
abbrev pub HasNothing : Heap → Type 0
HasNothing heap = KeepsStock heap (with_rest [])

-- nothing but a raw object of these bytes, which no source names
pub record HasRaw (heap : Heap) (raw : ℕ) (bytes : List ℕ) (room : ℕ) : Type 0 where
  pub keeps : KeepsStock heap (with_rest (raw_entries raw 0 bytes))
  pub small : raw < 2 ^ 32
  pub spare : room ≤ heap.spare

-- the same, and an object of an account, which has nothing in it
pub record HasEmpty (heap : Heap) (acct : Acct) (object raw : ℕ) (bytes : List ℕ) (room : ℕ) : Type 0 where
  pub tickets : List Ticket
  pub keeps : KeepsStock heap (record {
    objects = record { addr = object; row = empty_row acct } ∷ [];
    queues = record { acct = acct; tickets = tickets } ∷ record { acct = other acct; tickets = [] } ∷ [];
    sources = [];
    rest = raw_entries raw 0 bytes;
  })
  pub small : raw < 2 ^ 32
  pub spare : room ≤ heap.spare

-- What stands beside a text: its clones, other objects, the tickets of each account, the sources, and other blocks.
pub record Beside : Type 0 where
  pub clones : List Standing
  pub others : List Standing
  pub tickets : Acct → List Ticket
  pub sources : List NamedSource
  pub rest : Entries

-- the same as a stock: the clones and the other objects, both queues, the sources, and the other blocks
abbrev pub stock_of : Beside → Stock
stock_of x = record { objects = x.clones ++ x.others; queues = both x.tickets; sources = x.sources; rest = x.rest }

-- The heap holds the clones of these parts of a text, and objects at the addresses `loose`.
pub record KeepsText (heap : Heap) (parts : List Filled) (loose : List ℕ) (most room : ℕ) (x : Beside) : Type 0 where
  pub holds : Holds heap most room (stock_of x)
  pub clones : AreClones parts x.clones
  pub at : map (λ z. z.addr) x.others ≡ loose

-- some are kept so
pub record SomeText (heap : Heap) (parts : List Filled) (loose : List ℕ) (most room : ℕ) : Type 0 where
  pub beside : Beside
  pub keeps : KeepsText heap parts loose most room beside

-- so many moves are enough to add a piece to a text of so many parts at most
abbrev pub room_to_add : ℕ → ℕ → ℕ
room_to_add most n = (2 * n + 1) * (1 + most)

-- so many are enough to make one object of it
abbrev pub room_to_join : ℕ → ℕ → ℕ
room_to_join most n = 1 + 2 * (n * most) + n
