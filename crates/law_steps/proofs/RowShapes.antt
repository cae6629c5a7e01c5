-- Each row has one of the three shapes.
use Rattle.std.proofs.Common.{◌+◌, length, refl}
use Rattle.law_steps.proofs.AccountShapes as account
use Rattle.law_steps.proofs.AppendShapes as append
use Rattle.law_steps.proofs.BondShapes as bond
use Rattle.law_steps.proofs.CloneShapes as clone
use Rattle.law_steps.proofs.GoneShapes as gone
use Rattle.law_steps.proofs.HashShapes as hash
use Rattle.law_steps.proofs.ListShapes as list
use Rattle.law_steps.proofs.NameShapes as catalogue
use Rattle.law_steps.proofs.ObjectShapes as object
use Rattle.law_steps.proofs.RawShapes as raw
use Rattle.law_steps.proofs.Shapes.{Shape, reads_named}
use Rattle.law_steps.proofs.SourceShapes as source
use Rattle.law_steps.proofs.TableShapes as table
use Rattle.law_steps.proofs.WireShapes.{gives_of}
use Rattle.sdr_model.specs.ListSteps.{compare_keys, ordered_place}
use Rattle.sdr_model.specs.Rows.{ByRow}
use Rattle.sdr_model.specs.Steps.{Outcome}
use Rattle.sdr_model.specs.Wire.{headers_part, source_part, trailers_part, wire_part}
use Rattle.sdr_model.specs.World.{World}
use Rattle.sdr_model.specs.declared.call.Call.{Call}
use Rattle.sdr_model.specs.declared.call.Call.TheVariants as calls

pub row_shape : (w : World) (call : Call) (o : Outcome) → ByRow w o call → Shape w call o
row_shape w (calls.Malloc bytes) o h = raw.malloc bytes h
row_shape w (calls.Free addr) o h = raw.free addr h
row_shape w (calls.Length addr) o h = raw.length_of addr h
row_shape w (calls.Read addr place count) o h = raw.read addr place count h
row_shape w (calls.Write addr place bytes) o h = raw.write addr place bytes h
row_shape w (calls.Stage addr count) o h = raw.stage addr count h
row_shape w (calls.String text) o h = raw.make_text text h
row_shape w (calls.StringLength addr) o h = raw.text_length_of addr h
row_shape w (calls.StringRead addr) o h = raw.text_read addr h
row_shape w (calls.StringDup addr) o h = raw.text_dup addr h
row_shape w (calls.List user) o h = list.make_list user h
row_shape w (calls.ListDestroy addr) o h = list.list_destroy addr h
row_shape w (calls.ListLength addr) o h = reads_named addr _ _ _ h refl (λ r. refl) (λ at. refl) (λ b. refl)
row_shape w (calls.ListUser addr) o h = reads_named addr _ _ _ h refl (λ r. refl) (λ at. refl) (λ b. refl)
row_shape w (calls.SetListUser addr user) o h = list.set_list_user addr user h
row_shape w (calls.InsertFirst addr datum) o h = list.insert_at refl (λ at. refl) addr (λ row. 0) datum h
row_shape w (calls.InsertLast addr datum) o h =
    list.insert_at refl (λ at. refl) addr (λ row. length row.elements) datum h
row_shape w (calls.InsertBefore element datum) o h =
    list.insert_beside refl (λ at. refl) element (λ place. place) datum h
row_shape w (calls.InsertAfter element datum) o h =
    list.insert_beside refl (λ at. refl) element (λ place. place + 1) datum h
row_shape w (calls.InsertOrdered addr datum by) o h =
    list.insert_at refl (λ at. refl) addr (ordered_place w (compare_keys by) datum) datum h
row_shape w (calls.Search addr datum by) o h = reads_named addr _ _ _ h refl (λ r. refl) (λ at. refl) (λ b. refl)
row_shape w (calls.Delete element) o h = list.delete element h
row_shape w (calls.First addr) o h = reads_named addr _ _ _ h refl (λ r. refl) (λ at. refl) (λ b. refl)
row_shape w (calls.Last addr) o h = reads_named addr _ _ _ h refl (λ r. refl) (λ at. refl) (λ b. refl)
row_shape w (calls.Next element) o h = reads_named element _ _ _ h refl (λ s. refl) (λ at. refl) (λ b. refl)
row_shape w (calls.Prev element) o h = reads_named element _ _ _ h refl (λ s. refl) (λ at. refl) (λ b. refl)
row_shape w (calls.Datum element) o h = reads_named element _ _ _ h refl (λ s. refl) (λ at. refl) (λ b. refl)
row_shape w (calls.SetDatum element datum) o h = list.set_datum element datum h
row_shape w (calls.Table rows size user) o h = table.make_table rows size user h
row_shape w (calls.Row addr row) o h = table.row addr row h
row_shape w (calls.SetRow addr row bytes) o h = table.set_row addr row bytes h
row_shape w (calls.Dimensions addr) o h = table.dimensions addr h
row_shape w (calls.TableUser addr) o h = table.table_user addr h
row_shape w (calls.TableDestroy addr) o h = table.table_destroy addr h
row_shape w (calls.Hash key_length buckets) o h = hash.make_hash key_length buckets h
row_shape w (calls.HashInsert addr key value) o h = hash.hash_insert addr key value h
row_shape w (calls.HashRetrieve addr key) o h = hash.hash_retrieve addr key h
row_shape w (calls.HashRevise addr key value) o h = hash.hash_revise addr key value h
row_shape w (calls.HashRemove addr key) o h = hash.hash_remove addr key h
row_shape w (calls.HashCount addr) o h = hash.hash_count addr h
row_shape w (calls.HashDestroy addr) o h = hash.hash_destroy addr h
row_shape w (calls.Catlg name kind object) o h = catalogue.catlg name kind object h
row_shape w (calls.Find name) o h = catalogue.find name h
row_shape w (calls.Uncatlg name) o h = catalogue.uncatlg name h
row_shape w (calls.Entry place) o h = catalogue.entry place h
row_shape w (calls.FileRef path bytes) o h = source.file_ref path bytes h
row_shape w (calls.BulkRef item bytes) o h = source.bulk_ref item bytes h
row_shape w (calls.ObjRef raw) o h = source.obj_ref raw h
row_shape w (calls.DestroyRef addr) o h = source.destroy_ref addr h
row_shape w (calls.Count addr) o h = source.count addr h
row_shape w (calls.Occupancy acct space) o h = account.occupancy acct space h
row_shape w (calls.Maximum acct space) o h = account.maximum acct space h
row_shape w (calls.SetMaximum acct space value) o h = account.set_maximum acct space value h
row_shape w (calls.Create acct ticket) o h = object.create acct ticket h
row_shape w (calls.AppendExtent addr ticket named offset bytes) o h =
    append.append_extent addr ticket named offset bytes h
row_shape w (calls.PrependHeader addr ticket text) o h = object.prepend_header addr ticket text h
row_shape w (calls.AppendTrailer addr ticket text) o h = object.append_trailer addr ticket text h
row_shape w (calls.DiscardFirstHeader addr) o h = object.discard_first_header addr h
row_shape w (calls.DiscardLastTrailer addr) o h = object.discard_last_trailer addr h
row_shape w (calls.Bond addr ticket) o h = bond.bond addr ticket h
row_shape w (calls.ClonePart addr ticket offset bytes) o h = clone.clone_part addr ticket offset bytes h
row_shape w (calls.Delimit addr offset bytes) o h = object.delimit addr offset bytes h
row_shape w (calls.Strip addr) o h = gone.strip addr h
row_shape w (calls.ZcoLength addr) o h = object.zco_length addr h
row_shape w (calls.SourceLength addr) o h = object.source_length addr h
row_shape w (calls.Destroy addr) o h = gone.destroy addr h
row_shape w (calls.Transmit addr place count) o h =
    gives_of refl (λ at. refl) (λ only. only) addr count (wire_part w place count) h
row_shape w (calls.ReceiveHeaders addr place count) o h =
    gives_of refl (λ at. refl) (λ only. only) addr count (headers_part w place count) h
row_shape w (calls.ReceiveSource addr place count) o h =
    gives_of refl (λ at. refl) (λ only. only) addr count (source_part w place count) h
row_shape w (calls.ReceiveTrailers addr place count) o h =
    gives_of refl (λ at. refl) (λ only. only) addr count (trailers_part w place count) h
row_shape w (calls.Request acct file bulk heap coarse fine) o h = account.request acct file bulk heap coarse fine h
row_shape w (calls.Awarded ticket) o h = account.awarded ticket h
row_shape w (calls.Shred ticket) o h = account.shred ticket h
