-- What fits the fields of blocks: bytes are below 256, and words below 2 ^ 64.
use Rattle.std.specs.Prelude.{◌<◌, ◌^◌, ℕ, List, All, IfSome}
use Rattle.sdr_model.specs.World.{World, thing_at}
use Rattle.sdr_model.specs.declared.call.Call.{Call}
use Rattle.sdr_model.specs.declared.call.Call.TheVariants as calls
use Rattle.sdr_model.specs.declared.name.Name.{Name}
use Rattle.sdr_model.specs.declared.things.Element.{Element}
use Rattle.sdr_model.specs.declared.things.HashEntry.{HashEntry}
use Rattle.sdr_model.specs.declared.things.Thing.{Thing}
use Rattle.sdr_model.specs.declared.accounts.Ticket.{Ticket}
use Rattle.sdr_model.specs.declared.things.Thing.TheVariants as things
use Rattle.sdr_model.specs.declared.zco.Capsule.{Capsule}
use Rattle.sdr_model.specs.declared.zco.Extent.{Extent}
use Rattle.sdr_model.specs.declared.zco.Subject.{Subject}
use Rattle.sdr_model.specs.declared.zco.Subject.TheVariants as subjects
use Rattle.sdr_model.specs.declared.zco.ZcoObject.{ZcoObject}
use Rattle.sdr_model.specs.declared.zco.ZcoSource.{ZcoSource}

-- a number that fits a word
abbrev pub IsWord : ℕ → Type 0
IsWord n = n < 2 ^ 64

-- numbers that are bytes
abbrev pub AreBytes : List ℕ → Type 0
AreBytes bytes = All (λ b. b < 256) bytes

-- the numbers of an element fit its words
pub record FitsElement (e : Element) : Type 0 where
  pub block : IsWord e.block
  pub datum : IsWord e.datum

-- the numbers of an entry of a hash fit its words, and its key is of bytes
pub record FitsEntry (e : HashEntry) : Type 0 where
  pub block : IsWord e.block
  pub key : AreBytes e.key
  pub value : IsWord e.value

-- the numbers of an entry of the catalogue fit its fields, and its name is of bytes
pub record FitsName (n : Name) : Type 0 where
  pub block : IsWord n.block
  pub name : AreBytes n.name
  pub kind : n.kind < 2 ^ 32
  pub object : IsWord n.object

-- the numbers of a subject fit a word, and a path is of bytes
abbrev pub FitsSubject : Subject → Type 0
FitsSubject (subjects.File path) = AreBytes path
FitsSubject (subjects.Bulk item) = IsWord item
FitsSubject (subjects.Heap raw) = IsWord raw
FitsSubject (subjects.Obj raw) = IsWord raw

-- the numbers of a source fit its words
pub record FitsSource (source : ZcoSource) : Type 0 where
  pub subject : FitsSubject source.subject
  pub length : IsWord source.length

-- the numbers of an extent fit its words
pub record FitsExtent (e : Extent) : Type 0 where
  pub block : IsWord e.block
  pub source : IsWord e.source
  pub offset : IsWord e.offset
  pub length : IsWord e.length

-- the numbers of a header or trailer fit its words, and its text is of bytes
pub record FitsCapsule (c : Capsule) : Type 0 where
  pub block : IsWord c.block
  pub text : AreBytes c.text

-- the numbers of an object fit its words
pub record FitsObject (object : ZcoObject) : Type 0 where
  pub headers : All FitsCapsule object.headers
  pub extents : All FitsExtent object.extents
  pub trailers : All FitsCapsule object.trailers

-- the numbers of a ticket fit its words; those of its amounts are at most their account's maxima
pub record FitsTicket (t : Ticket) : Type 0 where
  pub block : IsWord t.block
  pub coarse : t.coarse < 256
  pub fine : t.fine < 256

-- the numbers of a thing fit its words, and its bytes are bytes
abbrev pub FitsThing : Thing → Type 0
FitsThing (things.Raw bytes) = AreBytes bytes
FitsThing (things.Text text) = AreBytes text
FitsThing (things.List row) = IsWord row.user × All FitsElement row.elements
FitsThing (things.Table table) = IsWord table.user × AreBytes table.bytes
FitsThing (things.Hash hash) = All FitsEntry hash.entries
FitsThing (things.Source source) = FitsSource source
FitsThing (things.Object object) = FitsObject object

-- all numbers of a world fit the fields of its blocks
pub record FitsFields (w : World) : Type 0 where
  pub things : (addr : ℕ) → IfSome (thing_at w addr) (λ thing. IsWord addr × FitsThing thing)
  pub names : All FitsName w.names
  pub inbound : All FitsTicket w.accounts.inbound.tickets
  pub outbound : All FitsTicket w.accounts.outbound.tickets

-- the numbers that a call brings into the world fit
abbrev pub FitsCall : Call → Type 0
FitsCall (calls.Write addr place bytes) = AreBytes bytes
FitsCall (calls.String text) = AreBytes text
FitsCall (calls.List user) = IsWord user
FitsCall (calls.SetListUser addr user) = IsWord user
FitsCall (calls.InsertFirst addr datum) = IsWord datum
FitsCall (calls.InsertLast addr datum) = IsWord datum
FitsCall (calls.InsertBefore element datum) = IsWord datum
FitsCall (calls.InsertAfter element datum) = IsWord datum
FitsCall (calls.InsertOrdered addr datum by) = IsWord datum
FitsCall (calls.SetDatum element datum) = IsWord datum
FitsCall (calls.Table rows size user) = IsWord user
FitsCall (calls.SetRow addr row bytes) = AreBytes bytes
FitsCall (calls.HashInsert addr key value) = AreBytes key × IsWord value
FitsCall (calls.HashRevise addr key value) = AreBytes key × IsWord value
FitsCall (calls.Catlg name kind object) = AreBytes name × (kind < 2 ^ 32) × IsWord object
FitsCall (calls.FileRef path bytes) = AreBytes path
FitsCall (calls.BulkRef item bytes) = IsWord item
FitsCall (calls.AppendExtent addr ticket named offset bytes) = IsWord named
FitsCall (calls.PrependHeader addr ticket text) = AreBytes text
FitsCall (calls.AppendTrailer addr ticket text) = AreBytes text
FitsCall (calls.Request acct file bulk heap coarse fine) = (coarse < 256) × (fine < 256)
FitsCall call = Unit {0}
