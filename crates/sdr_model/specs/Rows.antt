-- The rows: what each call may come to where nothing stops it on its way.
use Rattle.std.specs.Prelude.{◌+◌, length}
use Rattle.sdr_model.specs.AccountSteps as account
use Rattle.sdr_model.specs.BondSteps as bond
use Rattle.sdr_model.specs.ObjectSteps as object
use Rattle.sdr_model.specs.PartSteps as part
use Rattle.sdr_model.specs.RawSteps as raw
use Rattle.sdr_model.specs.SourceSteps as source
use Rattle.sdr_model.specs.Wire as wire
use Rattle.sdr_model.specs.ListSteps as list
use Rattle.sdr_model.specs.TableSteps as table
use Rattle.sdr_model.specs.HashSteps as hash
use Rattle.sdr_model.specs.NameSteps as catalogue
use Rattle.sdr_model.specs.Steps.{Outcome}
use Rattle.sdr_model.specs.World.{World}
use Rattle.sdr_model.specs.declared.call.Call.{Call}
use Rattle.sdr_model.specs.declared.call.Call.TheVariants as calls

-- from the world w, the row of the call allows this outcome
abbrev pub ByRow : World → Outcome → Call → Type 0
ByRow w o (calls.Malloc bytes) = raw.Malloc w o bytes
ByRow w o (calls.Free addr) = raw.Free w o addr
ByRow w o (calls.Length addr) = raw.Length w o addr
ByRow w o (calls.Read addr place count) = raw.Read w o addr place count
ByRow w o (calls.Write addr place bytes) = raw.Write w o addr place bytes
ByRow w o (calls.Stage addr count) = raw.Stage w o addr count
ByRow w o (calls.String text) = raw.Text w o text
ByRow w o (calls.StringLength addr) = raw.TextLength w o addr
ByRow w o (calls.StringRead addr) = raw.TextRead w o addr
ByRow w o (calls.StringDup addr) = raw.TextDup w o addr
ByRow w o (calls.List user) = list.MakeList w o user
ByRow w o (calls.ListDestroy addr) = list.ListDestroy w o addr
ByRow w o (calls.ListLength addr) = list.ReadsList w o addr (λ row. length row.elements)
ByRow w o (calls.ListUser addr) = list.ReadsList w o addr (λ row. row.user)
ByRow w o (calls.SetListUser addr user) = list.SetListUser w o addr user
ByRow w o (calls.InsertFirst addr datum) = list.InsertAt w o addr (λ row. 0) datum
ByRow w o (calls.InsertLast addr datum) = list.InsertAt w o addr (λ row. length row.elements) datum
ByRow w o (calls.InsertBefore element datum) = list.InsertBeside w o element (λ place. place) datum
ByRow w o (calls.InsertAfter element datum) = list.InsertBeside w o element (λ place. place + 1) datum
ByRow w o (calls.InsertOrdered addr datum by) = list.InsertAt w o addr (list.ordered_place w (list.compare_keys by) datum) datum
ByRow w o (calls.Search addr datum by) = list.FindsInList w o addr (list.equal_addr w (list.compare_keys by) datum)
ByRow w o (calls.Delete element) = list.Delete w o element
ByRow w o (calls.First addr) = list.FindsInList w o addr (λ row. list.element_addr row.elements 0)
ByRow w o (calls.Last addr) = list.FindsInList w o addr (λ row. list.last_addr row.elements)
ByRow w o (calls.Next element) = list.FindsBeside w o element (λ s. list.element_addr s.row.elements (s.place + 1))
ByRow w o (calls.Prev element) = list.FindsBeside w o element list.addr_before
ByRow w o (calls.Datum element) = list.Datum w o element
ByRow w o (calls.SetDatum element datum) = list.SetDatum w o element datum
ByRow w o (calls.Table rows size user) = table.MakeTable w o rows size user
ByRow w o (calls.Row addr row) = table.Row w o addr row
ByRow w o (calls.SetRow addr row bytes) = table.SetRow w o addr row bytes
ByRow w o (calls.Dimensions addr) = table.Dimensions w o addr
ByRow w o (calls.TableUser addr) = table.TableUser w o addr
ByRow w o (calls.TableDestroy addr) = table.TableDestroy w o addr
ByRow w o (calls.Hash key_length buckets) = hash.MakeHash w o key_length buckets
ByRow w o (calls.HashInsert addr key value) = hash.HashInsert w o addr key value
ByRow w o (calls.HashRetrieve addr key) = hash.HashRetrieve w o addr key
ByRow w o (calls.HashRevise addr key value) = hash.HashRevise w o addr key value
ByRow w o (calls.HashRemove addr key) = hash.HashRemove w o addr key
ByRow w o (calls.HashCount addr) = hash.HashCount w o addr
ByRow w o (calls.HashDestroy addr) = hash.HashDestroy w o addr
ByRow w o (calls.Catlg name kind object) = catalogue.Catlg w o name kind object
ByRow w o (calls.Find name) = catalogue.Find w o name
ByRow w o (calls.Uncatlg name) = catalogue.Uncatlg w o name
ByRow w o (calls.Entry place) = catalogue.Entry w o place
ByRow w o (calls.FileRef path bytes) = source.FileRef w o path bytes
ByRow w o (calls.BulkRef item bytes) = source.BulkRef w o item bytes
ByRow w o (calls.ObjRef raw) = source.ObjRef w o raw
ByRow w o (calls.DestroyRef addr) = source.DestroyRef w o addr
ByRow w o (calls.Count addr) = source.Count w o addr
ByRow w o (calls.Occupancy acct space) = account.Occupancy w o acct space
ByRow w o (calls.Maximum acct space) = account.Maximum w o acct space
ByRow w o (calls.SetMaximum acct space value) = account.SetMaximum w o acct space value
ByRow w o (calls.Create acct ticket) = object.Create w o acct ticket
ByRow w o (calls.AppendExtent addr ticket named offset bytes) = object.AppendExtent w o addr ticket named offset bytes
ByRow w o (calls.PrependHeader addr ticket text) = object.PrependHeader w o addr ticket text
ByRow w o (calls.AppendTrailer addr ticket text) = object.AppendTrailer w o addr ticket text
ByRow w o (calls.DiscardFirstHeader addr) = object.DiscardFirstHeader w o addr
ByRow w o (calls.DiscardLastTrailer addr) = object.DiscardLastTrailer w o addr
ByRow w o (calls.Bond addr ticket) = bond.Bond w o addr ticket
ByRow w o (calls.ClonePart addr ticket offset bytes) = part.ClonePart w o addr ticket offset bytes
ByRow w o (calls.Delimit addr offset bytes) = part.Delimit w o addr offset bytes
ByRow w o (calls.Strip addr) = part.Strip w o addr
ByRow w o (calls.ZcoLength addr) = object.ZcoLength w o addr
ByRow w o (calls.SourceLength addr) = object.SourceLength w o addr
ByRow w o (calls.Destroy addr) = object.Destroy w o addr
ByRow w o (calls.Transmit addr place count) = wire.Transmit w o addr place count
ByRow w o (calls.ReceiveHeaders addr place count) = wire.ReceiveHeaders w o addr place count
ByRow w o (calls.ReceiveSource addr place count) = wire.ReceiveSource w o addr place count
ByRow w o (calls.ReceiveTrailers addr place count) = wire.ReceiveTrailers w o addr place count
ByRow w o (calls.Request acct file bulk heap coarse fine) =
    account.Request w o acct (record { file = file; bulk = bulk; heap = heap }) coarse fine
ByRow w o (calls.Awarded ticket) = account.Awarded w o ticket
ByRow w o (calls.Shred ticket) = account.Shred w o ticket
