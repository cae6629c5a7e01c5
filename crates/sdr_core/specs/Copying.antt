-- Which calls hold no bytes, by what they are on.
use Rattle.std.specs.Prelude.{Bool, true, false}
use Rattle.sdr_model.specs.declared.call.Call.{Call}
use Rattle.sdr_model.specs.declared.call.Call.TheVariants as calls

-- whether the call is one on raw objects, or on what is made of blocks, that holds no bytes
abbrev pub is_on_things : Call → Bool
is_on_things (calls.Malloc bytes) = true
is_on_things (calls.Free addr) = true
is_on_things (calls.Length addr) = true
is_on_things (calls.Read addr place count) = true
is_on_things (calls.Stage addr count) = true
is_on_things (calls.StringLength addr) = true
is_on_things (calls.StringRead addr) = true
is_on_things (calls.StringDup addr) = true
is_on_things (calls.List user) = true
is_on_things (calls.ListDestroy addr) = true
is_on_things (calls.ListLength addr) = true
is_on_things (calls.ListUser addr) = true
is_on_things (calls.SetListUser addr user) = true
is_on_things (calls.InsertFirst addr datum) = true
is_on_things (calls.InsertLast addr datum) = true
is_on_things (calls.InsertBefore element datum) = true
is_on_things (calls.InsertAfter element datum) = true
is_on_things (calls.InsertOrdered addr datum by) = true
is_on_things (calls.Search addr datum by) = true
is_on_things (calls.Delete element) = true
is_on_things (calls.First addr) = true
is_on_things (calls.Last addr) = true
is_on_things (calls.Next element) = true
is_on_things (calls.Prev element) = true
is_on_things (calls.Datum element) = true
is_on_things (calls.SetDatum element value) = true
is_on_things (calls.Table rows size user) = true
is_on_things (calls.Row addr at) = true
is_on_things (calls.Dimensions addr) = true
is_on_things (calls.TableUser addr) = true
is_on_things (calls.TableDestroy addr) = true
is_on_things (calls.Hash key_length buckets) = true
is_on_things (calls.HashCount addr) = true
is_on_things (calls.HashDestroy addr) = true
is_on_things (calls.Entry place) = true
is_on_things call = false

-- whether the call is one on sources, accounts, tickets or zero-copy objects that holds no bytes
abbrev pub is_on_objects : Call → Bool
is_on_objects (calls.BulkRef item length) = true
is_on_objects (calls.ObjRef addr) = true
is_on_objects (calls.DestroyRef addr) = true
is_on_objects (calls.Count addr) = true
is_on_objects (calls.Occupancy acct space) = true
is_on_objects (calls.Maximum acct space) = true
is_on_objects (calls.SetMaximum acct space value) = true
is_on_objects (calls.Create acct ticket) = true
is_on_objects (calls.AppendExtent object ticket named offset bytes) = true
is_on_objects (calls.DiscardFirstHeader addr) = true
is_on_objects (calls.DiscardLastTrailer addr) = true
is_on_objects (calls.Bond addr ticket) = true
is_on_objects (calls.ClonePart addr ticket offset bytes) = true
is_on_objects (calls.Delimit addr offset length) = true
is_on_objects (calls.Strip addr) = true
is_on_objects (calls.ZcoLength addr) = true
is_on_objects (calls.SourceLength addr) = true
is_on_objects (calls.Destroy addr) = true
is_on_objects (calls.Transmit addr place count) = true
is_on_objects (calls.ReceiveHeaders addr place count) = true
is_on_objects (calls.ReceiveSource addr place count) = true
is_on_objects (calls.ReceiveTrailers addr place count) = true
is_on_objects (calls.Request acct file bulk heap coarse fine) = true
is_on_objects (calls.Awarded ticket) = true
is_on_objects (calls.Shred ticket) = true
is_on_objects call = false
