-- Which calls read alone, and which read media.
use Rattle.std.specs.Prelude.{Bool, true, false}
use Rattle.sdr_model.specs.declared.call.Call.{Call}
use Rattle.sdr_model.specs.declared.call.Call.TheVariants as calls

-- whether the call reads alone: where it is refused, its transaction isn't doomed
abbrev pub is_reading : Call → Bool
is_reading (calls.Length addr) = true
is_reading (calls.Read addr place count) = true
is_reading (calls.Stage addr count) = true
is_reading (calls.StringLength addr) = true
is_reading (calls.StringRead addr) = true
is_reading (calls.ListLength addr) = true
is_reading (calls.ListUser addr) = true
is_reading (calls.Search addr datum keys) = true
is_reading (calls.First addr) = true
is_reading (calls.Last addr) = true
is_reading (calls.Next addr) = true
is_reading (calls.Prev addr) = true
is_reading (calls.Datum addr) = true
is_reading (calls.Row addr row) = true
is_reading (calls.Dimensions addr) = true
is_reading (calls.TableUser addr) = true
is_reading (calls.HashRetrieve addr key) = true
is_reading (calls.HashCount addr) = true
is_reading (calls.Find name) = true
is_reading (calls.Entry place) = true
is_reading (calls.Count addr) = true
is_reading (calls.Occupancy acct space) = true
is_reading (calls.Maximum acct space) = true
is_reading (calls.ZcoLength addr) = true
is_reading (calls.SourceLength addr) = true
is_reading (calls.Transmit addr place count) = true
is_reading (calls.ReceiveHeaders addr place count) = true
is_reading (calls.ReceiveSource addr place count) = true
is_reading (calls.ReceiveTrailers addr place count) = true
is_reading (calls.Awarded ticket) = true
is_reading call = false

-- whether the call may read media: the bytes of an object may lie in files and items
abbrev pub reads_media : Call → Bool
reads_media (calls.Transmit addr place count) = true
reads_media (calls.ReceiveHeaders addr place count) = true
reads_media (calls.ReceiveSource addr place count) = true
reads_media (calls.ReceiveTrailers addr place count) = true
reads_media call = false
