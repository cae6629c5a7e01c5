-- The moves that each row of the table of calls has.
use Rattle.std.specs.Prelude.{ℕ, ◌==◌, List, [], ◌∷◌, ◌++◌, length, map, position, slice_get, Option, None, Some, if◌then◌else◌}
use Rattle.sdr_base.specs.declared.moves.Move.{Move}
use Rattle.sdr_base.specs.declared.moves.Move.TheVariants.{Took}
use Rattle.sdr_model.specs.AccountSteps.{pending_of}
use Rattle.sdr_model.specs.Accounts.{Pending, ticket_need}
use Rattle.sdr_model.specs.BondSteps.{bond_moves, capsules_of}
use Rattle.sdr_model.specs.Gone.{gone_blocks}
use Rattle.sdr_model.specs.HashSteps.{as_hash, has_key, entry_addr}
use Rattle.sdr_model.specs.Hashes.{Hash}
use Rattle.sdr_model.specs.ListSteps.{as_list}
use Rattle.sdr_model.specs.Names.{name_of}
use Rattle.sdr_model.specs.ObjectSteps.{destroy_blocks, last_capsule, raw_append_moves}
use Rattle.sdr_model.specs.PartSteps.{asked_extents, clone_moves, outside_part}
use Rattle.sdr_model.specs.Steps.{gave}
use Rattle.sdr_model.specs.Things.{raw_need, text_need, list_need, element_need, table_need, hash_need, entry_need, name_need, source_need, object_need, extent_need, capsule_need}
use Rattle.sdr_model.specs.World.{World, thing_at, as_text}
use Rattle.sdr_model.specs.Zco.{object_at, source_at, uses_of}
use Rattle.sdr_model.specs.declared.call.Call.TheVariants as calls
use Rattle.sdr_model.specs.declared.call.Call.{Call}
use Rattle.sdr_model.specs.declared.name.Name.{Name}
use Rattle.sdr_model.specs.declared.things.SdrList.{SdrList}
use Rattle.sdr_model.specs.declared.zco.Capsule.{Capsule}
use Rattle.sdr_model.specs.declared.zco.ZcoObject.{ZcoObject}
use Rattle.sdr_model.specs.declared.zco.ZcoSource.{ZcoSource}

-- the bytes of a string, if it is one
abbrev pub text_length : Option (List ℕ) → ℕ
text_length None = 0
text_length (Some text) = length text

-- the elements of a list, if it is one
abbrev pub elements_in : Option SdrList → List ℕ
elements_in None = []
elements_in (Some row) = map (λ e. e.block) row.elements

-- the entries of a hash, if it is one
abbrev pub entries_in : Option Hash → List ℕ
entries_in None = []
entries_in (Some hash) = map (λ e. e.block) hash.entries

-- the entry of a key in a hash, if there is one
abbrev pub keyed_at : Hash → Option ℕ → List ℕ
keyed_at hash None = []
keyed_at hash (Some place) = entry_addr hash.entries place ∷ []

-- the entry of a key, where there is a hash that has it
abbrev pub keyed_in : Option Hash → List ℕ → List ℕ
keyed_in None key = []
keyed_in (Some hash) key = keyed_at hash (position (has_key key) hash.entries)

-- the block of a name's entry, if there is one
abbrev pub block_of : Option Name → List ℕ
block_of None = []
block_of (Some name) = name.block ∷ []

-- the source where it goes at once: no extent names it
abbrev pub vanishing : World → ℕ → List ℕ
vanishing w addr = if uses_of w addr == 0 then addr ∷ [] else []

-- the moves of an append, by whether it is a source that is named
abbrev pub append_moves : Option ZcoSource → (ℕ → ℕ) → List Move
append_moves None at = raw_append_moves at
append_moves (Some source) at = Took extent_need (at 0) ∷ []

-- the block of a header or trailer, if there is one
abbrev pub block_of_capsule : Option Capsule → List ℕ
block_of_capsule None = []
block_of_capsule (Some c) = c.block ∷ []

-- the first header of an object, if it is one and has one
abbrev pub first_header : Option ZcoObject → List ℕ
first_header None = []
first_header (Some z) = block_of_capsule (slice_get z.headers 0)

-- the last trailer of an object, if it is one and has one
abbrev pub last_trailer : Option ZcoObject → List ℕ
last_trailer None = []
last_trailer (Some z) = block_of_capsule (last_capsule z.trailers)

-- the moves in which an object is bonded, if it is one
abbrev pub bond_moves_of : Option ZcoObject → (ℕ → ℕ) → List Move
bond_moves_of None at = []
bond_moves_of (Some z) at = bond_moves at 0 (capsules_of z)

-- the moves in which a part of an object is cloned, if it is one
abbrev pub clone_moves_of : Option ZcoObject → ℕ → ℕ → (ℕ → ℕ) → List Move
clone_moves_of None offset bytes at = []
clone_moves_of (Some z) offset bytes at = clone_moves at (asked_extents z offset bytes)

-- what is given back where an object is stripped, if it is one
abbrev pub stripped_blocks : World → Option ZcoObject → List ℕ
stripped_blocks w None = []
stripped_blocks w (Some z) = gone_blocks w (outside_part z) (outside_part z)

-- what is given back where an object is destroyed, if it is one
abbrev pub destroyed_blocks : World → ℕ → Option ZcoObject → List ℕ
destroyed_blocks w addr None = []
destroyed_blocks w addr (Some z) = destroy_blocks w addr z

-- the block of a ticket, if there is one
abbrev pub block_of_ticket : Option Pending → List ℕ
block_of_ticket None = []
block_of_ticket (Some p) = p.ticket.block ∷ []

-- the one move that takes a block of this need, at the first of these addresses
abbrev pub takes : (ℕ → ℕ) → ℕ → List Move
takes at need = Took need (at 0) ∷ []

-- The moves of an answered call. Those that take a block have the addresses that `at` gives, the k-th one `at k`,
-- counted from 0.
abbrev pub row_moves : World → Call → (ℕ → ℕ) → List Move
row_moves w (calls.Malloc bytes) at = takes at (raw_need bytes)
row_moves w (calls.Free addr) at = gave (addr ∷ [])
row_moves w (calls.String text) at = takes at (text_need (length text))
row_moves w (calls.StringDup addr) at = takes at (text_need (text_length (as_text (thing_at w addr))))
row_moves w (calls.List user) at = takes at list_need
row_moves w (calls.ListDestroy addr) at = gave (elements_in (as_list (thing_at w addr)) ++ addr ∷ [])
row_moves w (calls.InsertFirst addr datum) at = takes at element_need
row_moves w (calls.InsertLast addr datum) at = takes at element_need
row_moves w (calls.InsertBefore addr datum) at = takes at element_need
row_moves w (calls.InsertAfter addr datum) at = takes at element_need
row_moves w (calls.InsertOrdered addr datum by) at = takes at element_need
row_moves w (calls.Delete element) at = gave (element ∷ [])
row_moves w (calls.Table rows size user) at = takes at (table_need rows size)
row_moves w (calls.TableDestroy addr) at = gave (addr ∷ [])
row_moves w (calls.Hash key_length buckets) at = takes at (hash_need buckets)
row_moves w (calls.HashInsert addr key value) at = takes at (entry_need (length key))
row_moves w (calls.HashRemove addr key) at = gave (keyed_in (as_hash (thing_at w addr)) key)
row_moves w (calls.HashDestroy addr) at = gave (entries_in (as_hash (thing_at w addr)) ++ addr ∷ [])
row_moves w (calls.Catlg name kind object) at = takes at name_need
row_moves w (calls.Uncatlg name) at = gave (block_of (name_of w.names name))
row_moves w (calls.FileRef path bytes) at = takes at (source_need (length path))
row_moves w (calls.BulkRef item bytes) at = takes at (source_need 0)
row_moves w (calls.ObjRef raw) at = takes at (source_need 0)
row_moves w (calls.DestroyRef addr) at = gave (vanishing w addr)
row_moves w (calls.Create acct ticket) at = takes at object_need
row_moves w (calls.AppendExtent addr ticket named offset bytes) at = append_moves (source_at w named) at
row_moves w (calls.PrependHeader addr ticket text) at = takes at (capsule_need (length text))
row_moves w (calls.AppendTrailer addr ticket text) at = takes at (capsule_need (length text))
row_moves w (calls.DiscardFirstHeader addr) at = gave (first_header (object_at w addr))
row_moves w (calls.DiscardLastTrailer addr) at = gave (last_trailer (object_at w addr))
row_moves w (calls.Bond addr ticket) at = bond_moves_of (object_at w addr) at
row_moves w (calls.ClonePart addr ticket offset bytes) at = clone_moves_of (object_at w addr) offset bytes at
row_moves w (calls.Strip addr) at = gave (stripped_blocks w (object_at w addr))
row_moves w (calls.Destroy addr) at = gave (destroyed_blocks w addr (object_at w addr))
row_moves w (calls.Request acct file bulk heap coarse fine) at = takes at ticket_need
row_moves w (calls.Shred ticket) at = gave (block_of_ticket (pending_of w ticket))
row_moves w call at = []
