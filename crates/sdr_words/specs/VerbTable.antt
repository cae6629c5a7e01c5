-- The table of verbs: their order, their names, and the shapes of their arguments.
use Rattle.std.specs.Prelude.{ℕ, List, [], ◌∷◌, codes}
use Rattle.sdr_words.specs.declared.verb.Shape.{Shape}
use Rattle.sdr_words.specs.declared.verb.Shape.TheVariants as shapes
use Rattle.sdr_words.specs.declared.verb.Shape.TheVariants.{Value, Priority, Text, Account, Space, Order}
use Rattle.sdr_words.specs.declared.verb.Verb.{Verb}
use Rattle.sdr_words.specs.declared.verb.Verb.TheVariants as verbs

-- a verb, its name, and the shapes of its arguments in order
pub record VerbRow : Type 0 where
  pub verb : Verb
  pub name : List ℕ
  pub arguments : List Shape

-- the row of a verb with this name and arguments of these shapes
abbrev pub row : Verb → List ℕ → List Shape → VerbRow
row verb name arguments = record { verb = verb; name = name; arguments = arguments }

-- the verbs of scripts in order: the number of a verb is its place here, counted from 0
abbrev pub verb_table : List VerbRow
verb_table =
    row verbs.Begin (codes "begin") []
    ∷ row verbs.End (codes "end") []
    ∷ row verbs.Cancel (codes "cancel") []
    ∷ row verbs.Exit (codes "exit") []
    ∷ row verbs.Await (codes "await") (Value ∷ [])
    ∷ row verbs.Malloc (codes "malloc") (Value ∷ [])
    ∷ row verbs.Free (codes "free") (Value ∷ [])
    ∷ row verbs.Length (codes "length") (Value ∷ [])
    ∷ row verbs.Read (codes "read") (Value ∷ Value ∷ Value ∷ [])
    ∷ row verbs.Write (codes "write") (Value ∷ Value ∷ Text ∷ [])
    ∷ row verbs.Stage (codes "stage") (Value ∷ Value ∷ [])
    ∷ row verbs.String (codes "string") (Text ∷ [])
    ∷ row verbs.StringLength (codes "string_length") (Value ∷ [])
    ∷ row verbs.StringRead (codes "string_read") (Value ∷ [])
    ∷ row verbs.StringDup (codes "string_dup") (Value ∷ [])
    ∷ row verbs.List (codes "list") (Value ∷ [])
    ∷ row verbs.ListDestroy (codes "list_destroy") (Value ∷ [])
    ∷ row verbs.ListLength (codes "list_length") (Value ∷ [])
    ∷ row verbs.ListUser (codes "list_user") (Value ∷ [])
    ∷ row verbs.SetListUser (codes "set_list_user") (Value ∷ Value ∷ [])
    ∷ row verbs.InsertFirst (codes "insert_first") (Value ∷ Value ∷ [])
    ∷ row verbs.InsertLast (codes "insert_last") (Value ∷ Value ∷ [])
    ∷ row verbs.InsertBefore (codes "insert_before") (Value ∷ Value ∷ [])
    ∷ row verbs.InsertAfter (codes "insert_after") (Value ∷ Value ∷ [])
    ∷ row verbs.InsertOrdered (codes "insert_ordered") (Value ∷ Value ∷ Order ∷ [])
    ∷ row verbs.Search (codes "search") (Value ∷ Value ∷ Order ∷ [])
    ∷ row verbs.Delete (codes "delete") (Value ∷ [])
    ∷ row verbs.First (codes "first") (Value ∷ [])
    ∷ row verbs.Last (codes "last") (Value ∷ [])
    ∷ row verbs.Next (codes "next") (Value ∷ [])
    ∷ row verbs.Prev (codes "prev") (Value ∷ [])
    ∷ row verbs.Datum (codes "data") (Value ∷ [])
    ∷ row verbs.SetDatum (codes "set_data") (Value ∷ Value ∷ [])
    ∷ row verbs.Table (codes "table") (Value ∷ Value ∷ Value ∷ [])
    ∷ row verbs.Row (codes "row") (Value ∷ Value ∷ [])
    ∷ row verbs.SetRow (codes "set_row") (Value ∷ Value ∷ Text ∷ [])
    ∷ row verbs.Dimensions (codes "dimensions") (Value ∷ [])
    ∷ row verbs.TableUser (codes "table_user") (Value ∷ [])
    ∷ row verbs.TableDestroy (codes "table_destroy") (Value ∷ [])
    ∷ row verbs.Hash (codes "hash") (Value ∷ Value ∷ [])
    ∷ row verbs.HashInsert (codes "hash_insert") (Value ∷ Text ∷ Value ∷ [])
    ∷ row verbs.HashRetrieve (codes "hash_retrieve") (Value ∷ Text ∷ [])
    ∷ row verbs.HashRevise (codes "hash_revise") (Value ∷ Text ∷ Value ∷ [])
    ∷ row verbs.HashRemove (codes "hash_remove") (Value ∷ Text ∷ [])
    ∷ row verbs.HashCount (codes "hash_count") (Value ∷ [])
    ∷ row verbs.HashDestroy (codes "hash_destroy") (Value ∷ [])
    ∷ row verbs.Catlg (codes "catlg") (Text ∷ shapes.Type ∷ Value ∷ [])
    ∷ row verbs.Find (codes "find") (Text ∷ [])
    ∷ row verbs.Uncatlg (codes "uncatlg") (Text ∷ [])
    ∷ row verbs.Entry (codes "entry") (Value ∷ [])
    ∷ row verbs.FileRef (codes "file_ref") (Text ∷ Value ∷ [])
    ∷ row verbs.BulkRef (codes "bulk_ref") (Value ∷ Value ∷ [])
    ∷ row verbs.ObjRef (codes "obj_ref") (Value ∷ [])
    ∷ row verbs.DestroyRef (codes "destroy_ref") (Value ∷ [])
    ∷ row verbs.Count (codes "count") (Value ∷ [])
    ∷ row verbs.Occupancy (codes "occupancy") (Account ∷ Space ∷ [])
    ∷ row verbs.Maximum (codes "maximum") (Account ∷ Space ∷ [])
    ∷ row verbs.SetMaximum (codes "set_maximum") (Account ∷ Space ∷ Value ∷ [])
    ∷ row verbs.Create (codes "create") (Account ∷ Value ∷ [])
    ∷ row verbs.AppendExtent (codes "append_extent") (Value ∷ Value ∷ Value ∷ Value ∷ Value ∷ [])
    ∷ row verbs.PrependHeader (codes "prepend_header") (Value ∷ Value ∷ Text ∷ [])
    ∷ row verbs.AppendTrailer (codes "append_trailer") (Value ∷ Value ∷ Text ∷ [])
    ∷ row verbs.DiscardFirstHeader (codes "discard_first_header") (Value ∷ [])
    ∷ row verbs.DiscardLastTrailer (codes "discard_last_trailer") (Value ∷ [])
    ∷ row verbs.Bond (codes "bond") (Value ∷ Value ∷ [])
    ∷ row verbs.ClonePart (codes "clone_part") (Value ∷ Value ∷ Value ∷ Value ∷ [])
    ∷ row verbs.Delimit (codes "delimit") (Value ∷ Value ∷ Value ∷ [])
    ∷ row verbs.Strip (codes "strip") (Value ∷ [])
    ∷ row verbs.ZcoLength (codes "zco_length") (Value ∷ [])
    ∷ row verbs.SourceLength (codes "source_length") (Value ∷ [])
    ∷ row verbs.Destroy (codes "destroy") (Value ∷ [])
    ∷ row verbs.Transmit (codes "transmit") (Value ∷ Value ∷ Value ∷ [])
    ∷ row verbs.ReceiveHeaders (codes "receive_headers") (Value ∷ Value ∷ Value ∷ [])
    ∷ row verbs.ReceiveSource (codes "receive_source") (Value ∷ Value ∷ Value ∷ [])
    ∷ row verbs.ReceiveTrailers (codes "receive_trailers") (Value ∷ Value ∷ Value ∷ [])
    ∷ row verbs.Request (codes "request") (Account ∷ Value ∷ Value ∷ Value ∷ Priority ∷ Priority ∷ [])
    ∷ row verbs.Awarded (codes "awarded") (Value ∷ [])
    ∷ row verbs.Shred (codes "shred") (Value ∷ [])
    ∷ []
