-- The event that a verb makes of its arguments.
use Rattle.std.specs.Prelude.{ℕ, Bool, true, false, [], min, slice_index}
use Rattle.sdr_base.specs.declared.account.Acct.TheVariants as accounts
use Rattle.sdr_base.specs.declared.kind.Space.TheVariants as spaces
use Rattle.sdr_model.specs.declared.call.Call.TheVariants as calls
use Rattle.sdr_model.specs.declared.event.Event.{Event}
use Rattle.sdr_model.specs.declared.event.Event.TheVariants as events
use Rattle.sdr_model.specs.declared.keys.Keys.TheVariants as keys
use Rattle.sdr_words.specs.declared.given.Given.{Given}
use Rattle.sdr_words.specs.declared.verb.Verb.{Verb}
use Rattle.sdr_words.specs.declared.verb.Verb.TheVariants as verbs

-- no arguments: no numbers, no bytes, and of what has no none the first
abbrev pub nothing_given : Given
nothing_given =
    record { numbers = []; text = []; account = accounts.Inbound; space = spaces.File; order = keys.ByBytes }

-- the number at a place among those that were given, 0 where there are no more
abbrev pub given_number : Given → ℕ → ℕ
given_number g place = slice_index g.numbers place

-- the event of a verb with these arguments
abbrev pub event_by : Verb → Given → Event
event_by verbs.Begin g = events.Begin
event_by verbs.End g = events.End
event_by verbs.Cancel g = events.Cancel
event_by verbs.Exit g = events.Exit
event_by verbs.Await g = events.Look (given_number g 0)
event_by verbs.Malloc g = events.Say (calls.Malloc (given_number g 0))
event_by verbs.Free g = events.Say (calls.Free (given_number g 0))
event_by verbs.Length g = events.Say (calls.Length (given_number g 0))
event_by verbs.Read g = events.Say (calls.Read (given_number g 0) (given_number g 1) (given_number g 2))
event_by verbs.Write g = events.Say (calls.Write (given_number g 0) (given_number g 1) g.text)
event_by verbs.Stage g = events.Say (calls.Stage (given_number g 0) (given_number g 1))
event_by verbs.String g = events.Say (calls.String g.text)
event_by verbs.StringLength g = events.Say (calls.StringLength (given_number g 0))
event_by verbs.StringRead g = events.Say (calls.StringRead (given_number g 0))
event_by verbs.StringDup g = events.Say (calls.StringDup (given_number g 0))
event_by verbs.List g = events.Say (calls.List (given_number g 0))
event_by verbs.ListDestroy g = events.Say (calls.ListDestroy (given_number g 0))
event_by verbs.ListLength g = events.Say (calls.ListLength (given_number g 0))
event_by verbs.ListUser g = events.Say (calls.ListUser (given_number g 0))
event_by verbs.SetListUser g = events.Say (calls.SetListUser (given_number g 0) (given_number g 1))
event_by verbs.InsertFirst g = events.Say (calls.InsertFirst (given_number g 0) (given_number g 1))
event_by verbs.InsertLast g = events.Say (calls.InsertLast (given_number g 0) (given_number g 1))
event_by verbs.InsertBefore g = events.Say (calls.InsertBefore (given_number g 0) (given_number g 1))
event_by verbs.InsertAfter g = events.Say (calls.InsertAfter (given_number g 0) (given_number g 1))
event_by verbs.InsertOrdered g = events.Say (calls.InsertOrdered (given_number g 0) (given_number g 1) g.order)
event_by verbs.Search g = events.Say (calls.Search (given_number g 0) (given_number g 1) g.order)
event_by verbs.Delete g = events.Say (calls.Delete (given_number g 0))
event_by verbs.First g = events.Say (calls.First (given_number g 0))
event_by verbs.Last g = events.Say (calls.Last (given_number g 0))
event_by verbs.Next g = events.Say (calls.Next (given_number g 0))
event_by verbs.Prev g = events.Say (calls.Prev (given_number g 0))
event_by verbs.Datum g = events.Say (calls.Datum (given_number g 0))
event_by verbs.SetDatum g = events.Say (calls.SetDatum (given_number g 0) (given_number g 1))
event_by verbs.Table g = events.Say (calls.Table (given_number g 0) (given_number g 1) (given_number g 2))
event_by verbs.Row g = events.Say (calls.Row (given_number g 0) (given_number g 1))
event_by verbs.SetRow g = events.Say (calls.SetRow (given_number g 0) (given_number g 1) g.text)
event_by verbs.Dimensions g = events.Say (calls.Dimensions (given_number g 0))
event_by verbs.TableUser g = events.Say (calls.TableUser (given_number g 0))
event_by verbs.TableDestroy g = events.Say (calls.TableDestroy (given_number g 0))
event_by verbs.Hash g = events.Say (calls.Hash (given_number g 0) (given_number g 1))
event_by verbs.HashInsert g = events.Say (calls.HashInsert (given_number g 0) g.text (given_number g 1))
event_by verbs.HashRetrieve g = events.Say (calls.HashRetrieve (given_number g 0) g.text)
event_by verbs.HashRevise g = events.Say (calls.HashRevise (given_number g 0) g.text (given_number g 1))
event_by verbs.HashRemove g = events.Say (calls.HashRemove (given_number g 0) g.text)
event_by verbs.HashCount g = events.Say (calls.HashCount (given_number g 0))
event_by verbs.HashDestroy g = events.Say (calls.HashDestroy (given_number g 0))
event_by verbs.Catlg g = events.Say (calls.Catlg g.text (min (given_number g 0) 4294967295) (given_number g 1))
event_by verbs.Find g = events.Say (calls.Find g.text)
event_by verbs.Uncatlg g = events.Say (calls.Uncatlg g.text)
event_by verbs.Entry g = events.Say (calls.Entry (given_number g 0))
event_by verbs.FileRef g = events.Say (calls.FileRef g.text (given_number g 0))
event_by verbs.BulkRef g = events.Say (calls.BulkRef (given_number g 0) (given_number g 1))
event_by verbs.ObjRef g = events.Say (calls.ObjRef (given_number g 0))
event_by verbs.DestroyRef g = events.Say (calls.DestroyRef (given_number g 0))
event_by verbs.Count g = events.Say (calls.Count (given_number g 0))
event_by verbs.Occupancy g = events.Say (calls.Occupancy g.account g.space)
event_by verbs.Maximum g = events.Say (calls.Maximum g.account g.space)
event_by verbs.SetMaximum g = events.Say (calls.SetMaximum g.account g.space (given_number g 0))
event_by verbs.Create g = events.Say (calls.Create g.account (given_number g 0))
event_by verbs.AppendExtent g = events.Say (calls.AppendExtent (given_number g 0) (given_number g 1) (given_number g 2) (given_number g 3) (given_number g 4))
event_by verbs.PrependHeader g = events.Say (calls.PrependHeader (given_number g 0) (given_number g 1) g.text)
event_by verbs.AppendTrailer g = events.Say (calls.AppendTrailer (given_number g 0) (given_number g 1) g.text)
event_by verbs.DiscardFirstHeader g = events.Say (calls.DiscardFirstHeader (given_number g 0))
event_by verbs.DiscardLastTrailer g = events.Say (calls.DiscardLastTrailer (given_number g 0))
event_by verbs.Bond g = events.Say (calls.Bond (given_number g 0) (given_number g 1))
event_by verbs.ClonePart g = events.Say
    (calls.ClonePart (given_number g 0) (given_number g 1) (given_number g 2) (given_number g 3))
event_by verbs.Delimit g = events.Say (calls.Delimit (given_number g 0) (given_number g 1) (given_number g 2))
event_by verbs.Strip g = events.Say (calls.Strip (given_number g 0))
event_by verbs.ZcoLength g = events.Say (calls.ZcoLength (given_number g 0))
event_by verbs.SourceLength g = events.Say (calls.SourceLength (given_number g 0))
event_by verbs.Destroy g = events.Say (calls.Destroy (given_number g 0))
event_by verbs.Transmit g = events.Say (calls.Transmit (given_number g 0) (given_number g 1) (given_number g 2))
event_by verbs.ReceiveHeaders g =
    events.Say (calls.ReceiveHeaders (given_number g 0) (given_number g 1) (given_number g 2))
event_by verbs.ReceiveSource g =
    events.Say (calls.ReceiveSource (given_number g 0) (given_number g 1) (given_number g 2))
event_by verbs.ReceiveTrailers g =
    events.Say (calls.ReceiveTrailers (given_number g 0) (given_number g 1) (given_number g 2))
event_by verbs.Request g = events.Say (calls.Request g.account (given_number g 0) (given_number g 1) (given_number g 2) (min (given_number g 3) 255) (min (given_number g 4) 255))
event_by verbs.Awarded g = events.Say (calls.Awarded (given_number g 0))
event_by verbs.Shred g = events.Say (calls.Shred (given_number g 0))

-- whether the event is a begin or a look at a ticket
abbrev pub is_begin_or_look : Event → Bool
is_begin_or_look events.Begin = true
is_begin_or_look (events.Look ticket) = true
is_begin_or_look event = false

-- whether the verb is one on raw objects, or on what is made of blocks, that takes numbers alone, and an order
abbrev pub takes_things : Verb → Bool
takes_things verbs.Malloc = true
takes_things verbs.Free = true
takes_things verbs.Length = true
takes_things verbs.Read = true
takes_things verbs.Stage = true
takes_things verbs.StringLength = true
takes_things verbs.StringRead = true
takes_things verbs.StringDup = true
takes_things verbs.List = true
takes_things verbs.ListDestroy = true
takes_things verbs.ListLength = true
takes_things verbs.ListUser = true
takes_things verbs.SetListUser = true
takes_things verbs.InsertFirst = true
takes_things verbs.InsertLast = true
takes_things verbs.InsertBefore = true
takes_things verbs.InsertAfter = true
takes_things verbs.InsertOrdered = true
takes_things verbs.Search = true
takes_things verbs.Delete = true
takes_things verbs.First = true
takes_things verbs.Last = true
takes_things verbs.Next = true
takes_things verbs.Prev = true
takes_things verbs.Datum = true
takes_things verbs.SetDatum = true
takes_things verbs.Table = true
takes_things verbs.Row = true
takes_things verbs.Dimensions = true
takes_things verbs.TableUser = true
takes_things verbs.TableDestroy = true
takes_things verbs.Hash = true
takes_things verbs.HashCount = true
takes_things verbs.HashDestroy = true
takes_things verbs.Entry = true
takes_things verb = false

-- whether the verb is one on sources, accounts, tickets or zero-copy objects that takes no text
abbrev pub takes_objects : Verb → Bool
takes_objects verbs.BulkRef = true
takes_objects verbs.ObjRef = true
takes_objects verbs.DestroyRef = true
takes_objects verbs.Count = true
takes_objects verbs.Occupancy = true
takes_objects verbs.Maximum = true
takes_objects verbs.SetMaximum = true
takes_objects verbs.Create = true
takes_objects verbs.AppendExtent = true
takes_objects verbs.DiscardFirstHeader = true
takes_objects verbs.DiscardLastTrailer = true
takes_objects verbs.Bond = true
takes_objects verbs.ClonePart = true
takes_objects verbs.Delimit = true
takes_objects verbs.Strip = true
takes_objects verbs.ZcoLength = true
takes_objects verbs.SourceLength = true
takes_objects verbs.Destroy = true
takes_objects verbs.Transmit = true
takes_objects verbs.ReceiveHeaders = true
takes_objects verbs.ReceiveSource = true
takes_objects verbs.ReceiveTrailers = true
takes_objects verbs.Request = true
takes_objects verbs.Awarded = true
takes_objects verbs.Shred = true
takes_objects verb = false
