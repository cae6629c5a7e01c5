-- The numbers of a world keep fitting the fields of its blocks.
use Rattle.std.proofs.Common.{◌≡◌, ℕ, ◌+◌, ◌*◌, ◌==◌, ◌<◌, List, [], Option, Some, inl, inr, length, nat_le, nat_lt, position, replicate, set, refl, sym, subst, arith}
use Rattle.std.specs.List.{insert, remove}
use Rattle.std.specs.Prelude.{All, slice_get}
use Rattle.std.proofs.lemmas.List.Elements.{All-nil, All-push, All-replicate, All-set}
use Rattle.sdr_base.specs.Parts.{overwrite}
use Rattle.sdr_base.specs.declared.moves.Move.{Move}
use Rattle.law_steps.proofs.AccountFields.{header_fits, trailer_fits, without_header_fits, without_trailer_fits, adds_capsule, appends_source, bulk_refs, creates, delimits, destroys, destroys_ref, discards, file_refs, obj_refs, requests, sets_maximum, shreds, strips}
use Rattle.law_steps.proofs.HashLemmas.{entry_there, no_entry}
use Rattle.law_steps.proofs.ListShapes.{at_place, no_element}
use Rattle.law_steps.proofs.NameShapes.{stands_at}
use Rattle.law_steps.proofs.ObjectFields.{appends_raw, bonds, clones}
use Rattle.law_steps.proofs.ThingLemmas.{hash_is, list_is, raw_is, table_is, text_is}
use Rattle.sdr_model.specs.Steps.{taken_addresses}
use Rattle.law_steps.proofs.SpotThere.{spot_there}
use Rattle.sdr_model.specs.AccountSteps.{pending_of}
use Rattle.sdr_model.specs.Fields.{AreBytes, FitsCall, FitsElement, FitsEntry, FitsFields, FitsName, IsWord}
use Rattle.sdr_model.specs.HashSteps.{HashInsert, HashRemove, HashRevise, as_hash, bucket_place, entry_addr, has_key, is_no_count, is_no_key_length}
use Rattle.sdr_model.specs.Limits.{is_no_name, longest_raw, longest_read, longest_string}
use Rattle.sdr_model.specs.ListSteps.{Delete, InsertAt, InsertBeside, Inserts, SetDatum, as_list, compare_keys, ordered_place}
use Rattle.sdr_model.specs.Names.{name_of}
use Rattle.sdr_model.specs.ObjectSteps.{last_capsule, with_header, with_trailer, without_header, without_trailer}
use Rattle.sdr_model.specs.RawSteps as raw
use Rattle.sdr_model.specs.Rows.{ByRow}
use Rattle.sdr_model.specs.Step.{Step}
use Rattle.sdr_model.specs.TableSteps.{as_table}
use Rattle.sdr_model.specs.Valid.{FitTogether, IsValid}
use Rattle.sdr_model.specs.Wire.{GivesOf, ToldBytes, headers_part, source_part, trailers_part, wire_part}
use Rattle.sdr_model.specs.World.{World, as_raw, as_text, block_at, is_marked, spot_of, thing_at}
use Rattle.sdr_model.specs.Zco.{object_at, source_at, source_naming}
use Rattle.sdr_model.specs.declared.answer.Reply.{Reply}
use Rattle.sdr_model.specs.declared.call.Call.{Call}
use Rattle.sdr_model.specs.declared.call.Call.TheVariants as calls
use Rattle.sdr_model.specs.declared.things.Element.{Element}
use Rattle.sdr_model.specs.declared.things.HashEntry.{HashEntry}
use Rattle.sdr_model.specs.declared.things.SdrList.{SdrList}
use Rattle.sdr_model.specs.declared.things.Thing.{Thing}
use Rattle.sdr_model.specs.declared.things.Thing.TheVariants as things
use Rattle.sdr_model.specs.declared.zco.ZcoObject.{ZcoObject}
use Rattle.law_steps.proofs.FieldLemmas.{KeepsFields, all_inserted, all_overwritten, all_removed, changes, fits_names, fits_same, found, gains, goes, makes, refused, shown, takes_one, tested, thing_fits, told, unmarked}

freed : (w : World) (addr : ℕ) (t : Option Thing) → KeepsFields w (λ o. raw.FreesThing w o addr (as_raw t) (as_text t))
freed w addr (Some (things.Raw bytes)) = found (source_naming w addr) (goes addr) (λ s named. refused)
freed w addr (Some (things.Text text)) = goes addr
freed w addr t = refused

-- a list gains an element
module _ (w : World) where
  inserts : (addr : ℕ) (row : SdrList) (place datum : ℕ) → thing_at w addr ≡ Some (things.List row) → IsWord datum
      → KeepsFields w (λ o. Inserts w o addr row place datum)
  inserts addr row place datum is fit =
      let e : ℕ → Element = λ a. record { block = a; datum = datum } in
      gains addr (things.List row) (λ a. things.List (record row { elements = insert row.elements place (e a) })) is
      (λ a word old. (
        old.0,
        all_inserted FitsElement row.elements place (e a) (record { block = word; datum = fit }) old.1,
      ))

  inserts_at : (addr : ℕ) (place : SdrList → ℕ) (datum : ℕ) → IsWord datum
      → KeepsFields w (λ o. InsertAt w o addr place datum)
  inserts_at addr place datum fit =
      found (as_list (thing_at w addr)) refused (λ row is. inserts addr row (place row) datum (list_is _ _ is) fit)

  inserts_beside : (element : ℕ) (place : ℕ → ℕ) (datum : ℕ) → IsWord datum
      → KeepsFields w (λ o. InsertBeside w o element place datum)
  inserts_beside element place datum fit =
      found (spot_of w element) refused
      (λ s is. inserts s.list s.row (place s.place) datum (spot_there w.things element s is) fit)

  deletes : (element : ℕ) → KeepsFields w (λ o. Delete w o element)
  deletes element = found (spot_of w element) refused (λ s is.
      changes s.list (things.List s.row) (things.List (record s.row { elements = remove s.row.elements s.place }))
      (spot_there w.things element s is)
      (λ old. (old.0, all_removed FitsElement s.row.elements s.place old.1)))

  sets_datum : (element datum : ℕ) → IsWord datum → KeepsFields w (λ o. SetDatum w o element datum)
  sets_datum element datum fit = found (spot_of w element) refused (λ s is.
      let place = at_place w element s is in
      let e : Element = record { block = element; datum = datum } in
      changes s.list (things.List s.row) (things.List (record s.row { elements = set s.row.elements s.place e }))
      (spot_there w.things element s is)
      (λ old. (
        old.0,
        All-set FitsElement s.row.elements s.place e
            (record { block = subst IsWord place.1 (old.1 s.place no_element place.0).block; datum = fit }) old.1,
      )))

  -- a hash gains, changes or loses an entry
  hash_inserts : (addr : ℕ) (key : List ℕ) (value : ℕ) → AreBytes key → IsWord value
      → KeepsFields w (λ o. HashInsert w o addr key value)
  hash_inserts addr key value bytes fit = found (as_hash (thing_at w addr)) refused (λ h is.
      let e : ℕ → HashEntry = λ a. record { block = a; key = key; value = value } in
      tested (length key == h.key_length) (found (position (has_key key) h.entries)
      (gains addr (things.Hash h)
      (λ a. things.Hash (record h { entries = insert h.entries (bucket_place h key) (e a) })) (hash_is _ _ is)
      (λ a word old. all_inserted FitsEntry h.entries (bucket_place h key) (e a)
      (record { block = word; key = bytes; value = fit }) old))
      (λ place at. refused)) refused)

  hash_revises : (addr : ℕ) (key : List ℕ) (value : ℕ) → AreBytes key → IsWord value
      → KeepsFields w (λ o. HashRevise w o addr key value)
  hash_revises addr key value bytes fit = found (as_hash (thing_at w addr)) refused (λ h is.
      tested (length key == h.key_length) (found (position (has_key key) h.entries) refused (λ place at.
      let entry = entry_there h key place at in
      let e : HashEntry = record { block = entry_addr h.entries place; key = key; value = value } in
      changes addr (things.Hash h) (things.Hash (record h { entries = set h.entries place e })) (hash_is _ _ is)
      (λ old. All-set FitsEntry h.entries place e
      (record {
        block = subst IsWord (sym entry.2) (old place no_entry entry.0).block;
        key = bytes;
        value =
            fit;
      }) old))) refused)

  hash_removes : (addr : ℕ) (key : List ℕ) → KeepsFields w (λ o. HashRemove w o addr key)
  hash_removes addr key = found (as_hash (thing_at w addr)) refused (λ h is.
      tested (length key == h.key_length) (found (position (has_key key) h.entries) refused (λ place at.
      changes addr (things.Hash h) (things.Hash (record h { entries = remove h.entries place })) (hash_is _ _ is)
      (all_removed FitsEntry h.entries place))) refused)

-- bytes of an object are given
gives : (w : World) (addr count : ℕ) (of : ZcoObject → ToldBytes) → KeepsFields w (λ o. GivesOf w o addr count of)
gives w addr count of =
    found (object_at w addr) refused (λ z is.
    tested (nat_lt longest_read count) refused
    (record { keeps = λ fits o g _. subst FitsFields (sym g.1) (unmarked fits) }))

-- each row leaves a world whose numbers fit
row_fits : (w : World) (call : Call) → IsValid w → FitTogether w → FitsCall call → KeepsFields w (λ o. ByRow w o call)
row_fits w (calls.Malloc bytes) valid together fit =
    tested (nat_lt longest_raw bytes) refused
    (makes (things.Raw (replicate bytes 0)) (λ fits. All-replicate (λ b. b < 256) bytes 0 (omega arith)))
row_fits w (calls.Free addr) valid together fit = freed w addr (thing_at w addr)
row_fits w (calls.Length addr) valid together fit = found (block_at w addr) refused (λ v is. shown)
row_fits w (calls.Read addr place count) valid together fit =
    found (as_raw (thing_at w addr)) refused
    (λ b is. tested (nat_lt longest_read count) refused (tested (nat_lt (length b) (place + count)) refused shown))
row_fits w (calls.Write addr place bytes) valid together fit =
    found (as_raw (thing_at w addr)) refused
    (λ b is. tested (nat_lt (length b) (place + length bytes)) refused
    (tested (is_marked w addr)
    (changes addr (things.Raw b) (things.Raw (overwrite place bytes b)) (raw_is _ _ is)
    (all_overwritten place bytes b fit)) refused))
row_fits w (calls.Stage addr count) valid together fit =
    found (as_raw (thing_at w addr)) refused
    (λ b is. tested (nat_lt longest_read count) refused
    (tested (nat_lt (length b) count) refused (told (λ fits. fits_same w fits _ refl refl refl))))
row_fits w (calls.String text) valid together fit =
    tested (nat_lt longest_string (length text)) refused (makes (things.Text text) (λ fits. fit))
row_fits w (calls.StringLength addr) valid together fit = found (as_text (thing_at w addr)) refused (λ v is. shown)
row_fits w (calls.StringRead addr) valid together fit = found (as_text (thing_at w addr)) refused (λ v is. shown)
row_fits w (calls.StringDup addr) valid together fit =
    found (as_text (thing_at w addr)) refused
    (λ text is. makes (things.Text text) (λ fits. (thing_fits w fits addr (things.Text text) (text_is _ _ is)).1))
row_fits w (calls.List user) valid together fit =
    makes (things.List (record { user = user; elements = [] })) (λ fits. (fit, All-nil _))
row_fits w (calls.ListDestroy addr) valid together fit = found (as_list (thing_at w addr)) refused (λ v is. goes addr)
row_fits w (calls.ListLength addr) valid together fit = found (as_list (thing_at w addr)) refused (λ v is. shown)
row_fits w (calls.ListUser addr) valid together fit = found (as_list (thing_at w addr)) refused (λ v is. shown)
row_fits w (calls.SetListUser addr user) valid together fit =
    found (as_list (thing_at w addr)) refused
    (λ row is. changes addr (things.List row) (things.List (record row { user = user })) (list_is _ _ is)
    (λ old. (fit, old.1)))
row_fits w (calls.InsertFirst addr datum) valid together fit = inserts_at w addr (λ row. 0) datum fit
row_fits w (calls.InsertLast addr datum) valid together fit = inserts_at w addr (λ row. length row.elements) datum fit
row_fits w (calls.InsertBefore element datum) valid together fit = inserts_beside w element (λ place. place) datum fit
row_fits w (calls.InsertAfter element datum) valid together fit = inserts_beside w element (λ place. place + 1) datum fit
row_fits w (calls.InsertOrdered addr datum by) valid together fit = inserts_at w addr (ordered_place w (compare_keys by) datum) datum fit
row_fits w (calls.Search addr datum by) valid together fit = found (as_list (thing_at w addr)) refused (λ v is. shown)
row_fits w (calls.Delete element) valid together fit = deletes w element
row_fits w (calls.First addr) valid together fit = found (as_list (thing_at w addr)) refused (λ v is. shown)
row_fits w (calls.Last addr) valid together fit = found (as_list (thing_at w addr)) refused (λ v is. shown)
row_fits w (calls.Next element) valid together fit = found (spot_of w element) refused (λ v is. shown)
row_fits w (calls.Prev element) valid together fit = found (spot_of w element) refused (λ v is. shown)
row_fits w (calls.Datum element) valid together fit = found (spot_of w element) refused (λ v is. shown)
row_fits w (calls.SetDatum element datum) valid together fit = sets_datum w element datum fit
row_fits w (calls.Table rows size user) valid together fit =
    tested (nat_lt longest_raw rows) refused
    (tested (nat_lt longest_raw size) refused
    (tested (nat_lt longest_raw (rows * size)) refused
    (makes (things.Table
    (record { user = user; rows = rows; size = size; bytes = replicate (rows * size) 0 }))
    (λ fits. (fit, All-replicate (λ b. b < 256) (rows * size) 0 (omega arith))))))
row_fits w (calls.Row addr row) valid together fit =
    found (as_table (thing_at w addr)) refused
    (λ t is. tested (nat_le t.rows row) refused (tested (nat_lt longest_read t.size) refused shown))
row_fits w (calls.SetRow addr row bytes) valid together fit =
    found (as_table (thing_at w addr)) refused
    (λ t is. tested (nat_le t.rows row) refused
    (tested (length bytes == t.size)
    (changes addr (things.Table t)
    (things.Table (record t { bytes = overwrite (t.size * row) bytes t.bytes })) (table_is _ _ is)
    (λ old. (old.0, all_overwritten (t.size * row) bytes t.bytes fit old.1))) refused))
row_fits w (calls.Dimensions addr) valid together fit = found (as_table (thing_at w addr)) refused (λ v is. shown)
row_fits w (calls.TableUser addr) valid together fit = found (as_table (thing_at w addr)) refused (λ v is. shown)
row_fits w (calls.TableDestroy addr) valid together fit = found (as_table (thing_at w addr)) refused (λ v is. goes addr)
row_fits w (calls.Hash key_length buckets) valid together fit =
    tested (is_no_key_length key_length) refused
    (tested (is_no_count buckets) refused
    (makes (things.Hash (record { key_length = key_length; buckets = buckets; entries = [] }))
    (λ fits. All-nil _)))
row_fits w (calls.HashInsert addr key value) valid together fit = hash_inserts w addr key value fit.0 fit.1
row_fits w (calls.HashRetrieve addr key) valid together fit =
    found (as_hash (thing_at w addr)) refused
    (λ h is. tested (length key == h.key_length)
    (found (position (has_key key) h.entries) refused (λ place at. shown)) refused)
row_fits w (calls.HashRevise addr key value) valid together fit = hash_revises w addr key value fit.0 fit.1
row_fits w (calls.HashRemove addr key) valid together fit = hash_removes w addr key
row_fits w (calls.HashCount addr) valid together fit = found (as_hash (thing_at w addr)) refused (λ v is. shown)
row_fits w (calls.HashDestroy addr) valid together fit = found (as_hash (thing_at w addr)) refused (λ v is. goes addr)
row_fits w (calls.Catlg name kind object) valid together fit =
    tested (is_no_name (length name)) refused
    (found (name_of w.names name)
    (takes_one (λ fits a word. fits_names w fits _ refl refl
    (All-push FitsName w.names
    (record { block = a; name = name; kind = kind; object = object }) fits.names
    (record { block = word; name = fit.0; kind = fit.1; object = fit.2 })))) (λ n is. refused))
row_fits w (calls.Find name) valid together fit =
    tested (is_no_name (length name)) refused (found (name_of w.names name) refused (λ n is. shown))
row_fits w (calls.Uncatlg name) valid together fit =
    tested (is_no_name (length name)) refused
    (found (name_of w.names name) refused
    (λ n is. told (λ fits. let s =
    stands_at name w.names n is in fits_names w fits _ refl refl
    (subst (All FitsName) (sym s.without) (all_removed FitsName w.names s.place fits.names)))))
row_fits w (calls.Entry place) valid together fit = found (slice_get w.names place) refused (λ v is. shown)
row_fits w (calls.FileRef path bytes) valid together fit = file_refs w path bytes fit
row_fits w (calls.BulkRef item bytes) valid together fit = bulk_refs w item bytes fit
row_fits w (calls.ObjRef raw) valid together fit = obj_refs w valid raw
row_fits w (calls.DestroyRef addr) valid together fit = destroys_ref w addr
row_fits w (calls.Count addr) valid together fit = found (source_at w addr) refused (λ v is. shown)
row_fits w (calls.Occupancy acct space) valid together fit = shown
row_fits w (calls.Maximum acct space) valid together fit = shown
row_fits w (calls.SetMaximum acct space value) valid together fit = sets_maximum w acct space value
row_fits w (calls.Create acct ticket) valid together fit = creates w acct ticket
row_fits w (calls.AppendExtent addr ticket named offset bytes) valid together fit =
    found (object_at w addr) refused (λ z is.
    found (source_at w named)
    (found (as_raw (thing_at w named)) refused
    (λ text there. appends_raw w valid together addr z ticket named text offset bytes is there))
    (λ s there. appends_source w addr z ticket named s offset bytes is there))
row_fits w (calls.PrependHeader addr ticket text) valid together fit =
    adds_capsule w addr ticket text with_header header_fits fit
row_fits w (calls.AppendTrailer addr ticket text) valid together fit =
    adds_capsule w addr ticket text with_trailer trailer_fits fit
row_fits w (calls.DiscardFirstHeader addr) valid together fit =
    found (object_at w addr) refused (λ z is.
    discards w addr z (without_header z) (slice_get z.headers 0) is (without_header_fits z))
row_fits w (calls.DiscardLastTrailer addr) valid together fit =
    found (object_at w addr) refused (λ z is.
    discards w addr z (without_trailer z) (last_capsule z.trailers) is (without_trailer_fits z))
row_fits w (calls.Bond addr ticket) valid together fit = bonds w valid together addr ticket
row_fits w (calls.ClonePart addr ticket offset bytes) valid together fit =
    clones w valid together addr ticket offset bytes
row_fits w (calls.Delimit addr offset bytes) valid together fit = delimits w addr offset bytes
row_fits w (calls.Strip addr) valid together fit = strips w valid together addr
row_fits w (calls.ZcoLength addr) valid together fit = found (object_at w addr) refused (λ v is. shown)
row_fits w (calls.SourceLength addr) valid together fit = found (object_at w addr) refused (λ v is. shown)
row_fits w (calls.Destroy addr) valid together fit = destroys w addr
row_fits w (calls.Transmit addr place count) valid together fit = gives w addr count (wire_part w place count)
row_fits w (calls.ReceiveHeaders addr place count) valid together fit =
    gives w addr count (headers_part w place count)
row_fits w (calls.ReceiveSource addr place count) valid together fit = gives w addr count (source_part w place count)
row_fits w (calls.ReceiveTrailers addr place count) valid together fit =
    gives w addr count (trailers_part w place count)
row_fits w (calls.Request acct file bulk heap coarse fine) valid together fit =
    requests w acct (record { file = file; bulk = bulk; heap = heap }) coarse fine fit.0 fit.1
row_fits w (calls.Awarded ticket) valid together fit =
    found (pending_of w ticket) refused (λ p is. tested p.ticket.granted shown refused)
row_fits w (calls.Shred ticket) valid together fit = shreds w ticket

-- The numbers of a world keep fitting.
pub fields_fit : (w w' : World) (call : Call) (moves : List Move) (reply : Reply) → IsValid w → FitTogether w
    → FitsFields w → FitsCall call → All IsWord (taken_addresses moves) → Step w call moves w' reply → FitsFields w'
fields_fit w w' call moves reply valid together fits fit words (inl row) =
    (row_fits w call valid together fit).keeps fits (record { moves = moves; after = w'; reply = reply }) row words
fields_fit w w' call moves reply valid together fits fit words (inr stops) =
    subst FitsFields (sym stops.same) fits
