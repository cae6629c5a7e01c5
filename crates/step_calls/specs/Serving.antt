-- Calls over blocks: how many lines they touch, and what the functions that they are handed to ask of a heap.
use Rattle.std.specs.Prelude.{◌+◌, ◌*◌, ◌/◌, ℕ, length}
use Rattle.sdr_base.specs.Objects.{Heap}
use Rattle.sdr_base.specs.declared.account.Acct.{Acct}
use Rattle.sdr_cat.specs.Kept.{SomeNames}
use Rattle.sdr_hash.specs.Destroying.{entries_in}
use Rattle.sdr_hash.specs.Kept.{IsHash}
use Rattle.sdr_heap.specs.Raw.{HasSourceWord}
use Rattle.sdr_list.specs.Kept.{IsElement, IsList, elements_in}
use Rattle.sdr_model.specs.World.{World}
use Rattle.sdr_model.specs.declared.call.Call.{Call}
use Rattle.sdr_model.specs.declared.call.Call.TheVariants as calls
use Rattle.sdr_string.specs.Calls.{IsString}
use Rattle.sdr_table.specs.Kept.{IsTable}
use Rattle.step_zco.specs.AccountAnswering as tickets
use Rattle.step_zco.specs.Destroying.{IsWithAll}
use Rattle.step_zco.specs.ObjectAnswering as objects
use Rattle.step_zco.specs.ObjectAnswering.{append_lines, destroy_lines}
use Rattle.step_zco_parts.specs.BondAnswering.{bond_lines}
use Rattle.step_zco_parts.specs.PartAnswering.{IsCountable, clone_lines}
use Rattle.step_zco_parts.specs.Stripping.{IsToCut, strip_lines}
use Rattle.zco_acct.specs.Kept.{SomeQueue}
use Rattle.zco_obj.specs.Beside.{IsWithRaw, IsWithSource}
use Rattle.zco_obj.specs.Kept.{IsObject, IsWithQueue}
use Rattle.zco_ref.specs.Kept.{IsFew, IsRaw, IsTied}
use Rattle.zco_wire.specs.Naming.{IsWire}

-- so many lines a call touches at most on this heap, which stands for the world
abbrev pub call_lines : Heap → World → Call → ℕ
call_lines heap w (calls.Malloc bytes) = 24 + (8 + bytes) / 64
call_lines heap w (calls.Free addr) = 24
call_lines heap w (calls.Write addr place bytes) = 2 + length bytes / 64
call_lines heap w (calls.String text) = 26 + (1 + length text) / 32
call_lines heap w (calls.StringDup addr) = 34
call_lines heap w (calls.List user) = 29
call_lines heap w (calls.ListDestroy list) = 24 * (elements_in (heap.blocks list) + 1)
call_lines heap w (calls.SetListUser list user) = 2
call_lines heap w (calls.InsertFirst list datum) = 35
call_lines heap w (calls.InsertLast list datum) = 35
call_lines heap w (calls.InsertBefore element datum) = 35
call_lines heap w (calls.InsertAfter element datum) = 35
call_lines heap w (calls.InsertOrdered list datum keys) = 35
call_lines heap w (calls.Delete element) = 30
call_lines heap w (calls.SetDatum element datum) = 2
call_lines heap w (calls.Table rows size user) = 26 + (24 + rows * size) / 64
call_lines heap w (calls.SetRow table row bytes) = 2 + length bytes / 64
call_lines heap w (calls.TableDestroy table) = 24
call_lines heap w (calls.Hash key_length buckets) = 26 + (24 + 8 * buckets) / 64
call_lines heap w (calls.HashInsert hash key value) = 30 + (16 + length key) / 32
call_lines heap w (calls.HashRevise hash key value) = 2
call_lines heap w (calls.HashRemove hash key) = 28
call_lines heap w (calls.HashDestroy hash) = 24 * (entries_in (heap.blocks hash) + 1)
call_lines heap w (calls.Catlg name kind object) = 30
call_lines heap w (calls.Uncatlg name) = 27
call_lines heap w (calls.FileRef path bytes) = 26 + (48 + length path) / 32
call_lines heap w (calls.BulkRef item bytes) = 29
call_lines heap w (calls.ObjRef raw) = 31
call_lines heap w (calls.DestroyRef source) = 28
call_lines heap w (calls.SetMaximum acct space value) = 1 + 32 * tickets.grants_of w (calls.SetMaximum acct space value)
call_lines heap w (calls.Request acct file bulk heap_space coarse fine) =
    33 + 32 * tickets.grants_of w (calls.Request acct file bulk heap_space coarse fine)
call_lines heap w (calls.Shred number) = 30 + 32 * tickets.grants_of w (calls.Shred number)
call_lines heap w (calls.Create acct ticket) = 34
call_lines heap w (calls.AppendExtent object ticket named offset bytes) = append_lines w named
call_lines heap w (calls.PrependHeader object ticket text) = 35 + (8 + length text) / 32
call_lines heap w (calls.AppendTrailer object ticket text) = 35 + (8 + length text) / 32
call_lines heap w (calls.DiscardFirstHeader object) = 31 + 32 * objects.grants_of w (calls.DiscardFirstHeader object)
call_lines heap w (calls.DiscardLastTrailer object) = 31 + 32 * objects.grants_of w (calls.DiscardLastTrailer object)
call_lines heap w (calls.Destroy object) = destroy_lines w object
call_lines heap w (calls.ClonePart object ticket offset bytes) = clone_lines w object offset bytes
call_lines heap w (calls.Delimit object offset bytes) = 4
call_lines heap w (calls.Bond object ticket) = bond_lines w object
call_lines heap w (calls.Strip object) = strip_lines w object
call_lines heap w call = 0

-- Where a block of a kind stands, what is of that kind is kept: a raw object with its source word, and with the source that names it;
-- a source with counts that can be added, and with its raw object; a zero-copy object, also with the queue of its account, with a
-- source or a raw object beside it, with the sources that its extents name, and with all that it takes to clone its part, to cut it to
-- this and to read it. The catalogue and the queues of both accounts are kept.
pub record KeepsKinds (heap : Heap) : Type 0 where
  pub words : (addr : ℕ) → HasSourceWord (heap.blocks addr)
  pub strings : (addr : ℕ) → IsString (heap.blocks addr)
  pub lists : (addr : ℕ) → IsList heap.blocks addr
  pub elements : (addr : ℕ) → IsElement heap.blocks addr
  pub tables : (addr : ℕ) → IsTable (heap.blocks addr)
  pub hashes : (addr : ℕ) → IsHash heap.blocks addr
  pub names : SomeNames heap
  pub few : (addr : ℕ) → IsFew (heap.blocks addr)
  pub tied : (addr : ℕ) → IsTied heap.blocks addr
  pub raws : (addr : ℕ) → IsRaw heap.blocks addr
  pub queues : (acct : Acct) → SomeQueue heap acct
  pub objects : (addr : ℕ) → IsObject heap.blocks addr
  pub with_queues : (addr : ℕ) → IsWithQueue heap addr
  pub with_sources : (addr source : ℕ) → IsWithSource heap addr source
  pub with_raws : (addr raw : ℕ) → IsWithRaw heap addr raw
  pub with_all : (addr : ℕ) → IsWithAll heap addr
  pub countable : (addr : ℕ) → IsCountable heap addr
  pub to_cut : (addr : ℕ) → IsToCut heap addr
  pub wires : (addr : ℕ) → IsWire heap.blocks addr
