-- Clones become one object: it gets their extents, in order, and they go.
use Rattle.std.specs.Prelude.{◌≡◌, ◌+◌, ◌*◌, ◌<◌, ◌≤◌, ◌⊎◌, ◌^◌, ℕ, List, [], ◌∷◌, ◌++◌, flat_map, length, map, All, ⊤}
use Rattle.sdr_base.specs.Entries.{Entries}
use Rattle.sdr_base.specs.Making.{gave}
use Rattle.sdr_base.specs.Objects.{Heap, OnlyFault}
use Rattle.sdr_base.specs.declared.account.Acct.{Acct}
use Rattle.sdr_base.specs.declared.stop.Stop.{Stop}
use Rattle.sdr_model.specs.declared.accounts.Ticket.{Ticket}
use Rattle.zco_obj.specs.Appending.{AppendsSource}
use Rattle.zco_obj.specs.AppendStops.{AppendStops}
use Rattle.zco_obj.specs.Destroying.{DestroysObject, DestroyStops}
use Rattle.zco_obj.specs.Gone.{NamedSource, less_source}
use Rattle.zco_obj.specs.Links.{piece_of}
use Rattle.zco_obj.specs.Making.{CreatesObject, CreateStops}
use Rattle.zco_obj.specs.declared.extent.ExtentPiece.{ExtentPiece}
use Rattle.zco_part.specs.Cloning.{takes_clone}
use Rattle.zco_part.specs.Naming.{IsWholeRow}
use Rattle.zco_part.specs.Pieces.{extents_at, whole_row}
use Rattle.zco_part.specs.Sources.{all_counted}
use Rattle.zco_join.specs.Stocks.{CountsMore, KeepsStock, Queue, Standing, Stock}
use Rattle.zco_join.specs.declared.filled.Filled.{Filled}

-- what the extents of these objects name, in order
abbrev pub pieces_in : List Standing → List ExtentPiece
pieces_in = flat_map (λ z. map piece_of z.row.extents)

-- these are the clones of parts, each of extents alone, and its part is its whole
abbrev pub AreClones : List Filled → List Standing → Type 0
AreClones [] [] = ⊤
AreClones (p ∷ ps) (z ∷ zs) = (z.addr ≡ p.object) × IsWholeRow z.row × AreClones ps zs
AreClones ps zs = ⊥

-- an object gets extents of these pieces of sources, one after another
abbrev pub AppendsEach : ℕ → ℕ → List ExtentPiece → Heap → Heap → Type 0
AppendsEach object number [] old new = new ≡ old
AppendsEach object number (p ∷ ps) old new = (mid : Heap) × AppendsSource object number p old mid × AppendsEach object number ps mid new

-- why it doesn't get the first of them, or none
abbrev pub StopsAppend : ℕ → ℕ → List ExtentPiece → Heap → Heap → Stop → Type 0
StopsAppend object number [] old new stop = OnlyFault stop
StopsAppend object number (p ∷ ps) old new stop = AppendStops object number p old new stop

-- it gets some first ones of them, and not those behind
pub record AppendsSome (object number : ℕ) (ps : List ExtentPiece) (old new : Heap) (stop : Stop) : Type 0 where
  pub done : List ExtentPiece
  pub left : List ExtentPiece
  pub whole : ps ≡ done ++ left
  pub mid : Heap
  pub appends : AppendsEach object number done old mid
  pub stops : StopsAppend object number left mid new stop

-- the objects at these addresses are destroyed, one after another
abbrev pub DestroysEach : List ℕ → Heap → Heap → Type 0
DestroysEach [] old new = new ≡ old
DestroysEach (addr ∷ addrs) old new = (mid : Heap) × DestroysObject addr old mid × DestroysEach addrs mid new

-- why the first of them isn't, or none
abbrev pub StopsDestroy : List ℕ → Heap → Heap → Stop → Type 0
StopsDestroy [] old new stop = OnlyFault stop
StopsDestroy (addr ∷ addrs) old new stop = DestroyStops addr old new stop

-- some first ones of them are, and those behind aren't
pub record DestroysSomeOf (addrs : List ℕ) (old new : Heap) (stop : Stop) : Type 0 where
  pub done : List ℕ
  pub left : List ℕ
  pub whole : addrs ≡ done ++ left
  pub mid : Heap
  pub destroys : DestroysEach done old mid
  pub stops : StopsDestroy left mid new stop

-- What stands beside clones: other objects, the tickets of the account of the new object, other queues, the sources, and other blocks.
pub record Together : Type 0 where
  pub clones : List Standing
  pub others : List Standing
  pub tickets : List Ticket
  pub more : List Queue
  pub sources : List NamedSource
  pub rest : Entries

-- all that
abbrev pub stock_of : Acct → Together → Stock
stock_of acct t = record {
  objects = t.clones ++ t.others;
  queues = record { acct = acct; tickets = t.tickets } ∷ t.more;
  sources = t.sources;
  rest = t.rest;
}

-- The heap keeps the clones of these parts so. They have not too many extents, each source can count as many more, and there is
-- room for the moves: of the new object's block, those of its extents, and those of the clones.
pub record KeepsToJoin (heap : Heap) (acct : Acct) (parts : List Filled) (t : Together) : Type 0 where
  pub keeps : KeepsStock heap (stock_of acct t)
  pub clones : AreClones parts t.clones
  pub few : length (pieces_in t.clones) < 2 ^ 22
  pub counts : All (CountsMore (length (pieces_in t.clones))) t.sources
  pub room : 1 + 2 * length (pieces_in t.clones) + length parts ≤ heap.spare

-- it keeps some so
pub record SomeToJoin (heap : Heap) (acct : Acct) (parts : List Filled) : Type 0 where
  pub together : Together
  pub keeps : KeepsToJoin heap acct parts together

-- the sources once the clones are gone: each counts their extents no more
abbrev pub left_by : List Standing → List NamedSource → List NamedSource
left_by [] sources = sources
left_by (z ∷ zs) sources = left_by zs (map (less_source z.row.account z.row.extents) sources)

-- The object was made, it got the clones' extents in order, and the clones were destroyed. So it has extents of what they named, its
-- part is its whole, and it stands in their place; the only blocks that were taken are its own and its extents', and each source counts
-- its extents and those of the clones no more.
pub record Joined (acct : Acct) (number : ℕ) (parts : List Filled) (t : Together) (object : ℕ) (old new : Heap) : Type 0 where
  pub made : Heap
  pub appended : Heap
  pub creates : CreatesObject acct number object old made
  pub appends : AppendsEach object number (pieces_in t.clones) made appended
  pub destroys : DestroysEach (map (λ p. p.object) parts) appended new
  pub addrs : List ℕ
  pub each : length addrs ≡ length (pieces_in t.clones)
  pub tickets : List Ticket
  pub keeps : KeepsStock new (stock_of acct (record {
    clones = record { addr = object; row = whole_row acct (extents_at addrs (pieces_in t.clones)) } ∷ [];
    others = t.others;
    tickets = tickets;
    more = t.more;
    sources = left_by t.clones (all_counted acct (pieces_in t.clones) t.sources);
    rest = t.rest;
  }))
  pub gone : List ℕ
  pub few : length gone ≡ length (pieces_in t.clones) + length parts
  pub moves : new.moves ≡ old.moves ++ (takes_clone object addrs ++ gave gone)
  pub spent : old.spare ≤ new.spare + (1 + 2 * length (pieces_in t.clones) + length parts)

-- so it is with whichever clones are kept
pub record Joins (acct : Acct) (number : ℕ) (parts : List Filled) (old new : Heap) (object : ℕ) : Type 0 where
  pub joins : (t : Together) → KeepsToJoin old acct parts t → Joined acct number parts t object old new

-- the object was made, and it didn't get all extents
pub record StopsAppending (acct : Acct) (number : ℕ) (parts : List Filled) (old new : Heap) (stop : Stop) : Type 0 where
  pub object : ℕ
  pub made : Heap
  pub creates : CreatesObject acct number object old made
  pub stops : (t : Together) → KeepsToJoin old acct parts t → AppendsSome object number (pieces_in t.clones) made new stop

-- the object was made, and it got all extents, and not all clones were destroyed
pub record StopsDestroying (acct : Acct) (number : ℕ) (parts : List Filled) (old new : Heap) (stop : Stop) : Type 0 where
  pub object : ℕ
  pub made : Heap
  pub appended : Heap
  pub creates : CreatesObject acct number object old made
  pub appends : (t : Together) → KeepsToJoin old acct parts t → AppendsEach object number (pieces_in t.clones) made appended
  pub stops : DestroysSomeOf (map (λ p. p.object) parts) appended new stop

-- why clones don't become one object: it isn't made, or doesn't get their extents, or they don't go
abbrev pub JoinStops : Acct → ℕ → List Filled → Heap → Heap → Stop → Type 0
JoinStops acct number parts old new stop =
    CreateStops acct number old new stop ⊎ (StopsAppending acct number parts old new stop ⊎ StopsDestroying acct number parts old new stop)
