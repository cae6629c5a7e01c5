-- Each row but those of sources, objects and tickets is plain.
use Rattle.std.proofs.Common.{◌≡◌, ℕ, ◌+◌, ◌*◌, ◌==◌, List, [], ◌∷◌, Option, Some, None, length, nat_le, nat_lt, position, replicate, set, refl, ap, ◌∙◌, ◌++◌, subst, ltb-false}
use Rattle.std.specs.List.{insert, remove}
use Rattle.std.specs.Prelude.{slice_get}
use Rattle.sdr_base.proofs.PartsLemmas.{length-overwrite}
use Rattle.sdr_base.specs.Parts.{overwrite}
use Rattle.law_steps.proofs.Effects.{ArePlain, IsNoZco, KeepsBytes, Plain, asked, changes, found, gains, in_takes_one, left, refused, shown, takes_name, tested, unnamed}
use Rattle.law_steps.proofs.FreshLemmas.{none_there}
use Rattle.law_steps.proofs.SpotThere.{spot_there}
use Rattle.law_steps.proofs.ThingLemmas.{hash_is, list_is, raw_is, table_is}
use Rattle.sdr_model.specs.Blocks.{addresses_of, blocks_of}
use Rattle.sdr_model.specs.HashSteps.{HashInsert, HashRemove, HashRevise, as_hash, bucket_place, entry_addr, has_key, is_no_count, is_no_key_length}
use Rattle.sdr_model.specs.Limits.{is_no_name, longest_raw, longest_read, longest_string}
use Rattle.sdr_model.specs.ListSteps.{Delete, InsertAt, InsertBeside, Inserts, SetDatum, as_list, compare_keys, ordered_place}
use Rattle.sdr_model.specs.Names.{name_of}
use Rattle.sdr_model.specs.RawSteps as raw
use Rattle.sdr_model.specs.Rows.{ByRow}
use Rattle.sdr_model.specs.Steps.{Outcome, TakesOne, with_thing, without_thing}
use Rattle.sdr_model.specs.TableSteps.{as_table}
use Rattle.sdr_model.specs.AccountSteps.{pending_of}
use Rattle.sdr_model.specs.Wire.{GivesOf, ToldBytes}
use Rattle.sdr_model.specs.declared.zco.ZcoObject.{ZcoObject}
use Rattle.sdr_base.specs.declared.moves.Move.{Move}
use Rattle.law_steps.specs.Fresh.{AreFresh}
use Rattle.sdr_model.specs.World.{World, as_raw, as_text, block_at, is_marked, spot_of, thing_at}
use Rattle.sdr_model.specs.Zco.{object_at, source_at, source_naming}
use Rattle.sdr_model.specs.declared.answer.Reply.{Reply}
use Rattle.sdr_model.specs.declared.call.Call.{Call}
use Rattle.sdr_model.specs.declared.call.Call.TheVariants as calls
use Rattle.sdr_model.specs.declared.things.Element.{Element}
use Rattle.sdr_model.specs.declared.things.HashEntry.{HashEntry}
use Rattle.sdr_model.specs.declared.things.SdrList.{SdrList}
use Rattle.sdr_model.specs.declared.things.Thing.{Thing}
use Rattle.sdr_model.specs.declared.things.Thing.TheVariants as things

module _ {w : World} where
  -- a new thing that is neither source nor object
  makes : {need : ℕ} {reply : ℕ → Reply} (thing : Thing) → IsNoZco (Some thing)
      → ArePlain w (λ o. TakesOne o.moves need
      (λ a. (o.after ≡ record (with_thing w a thing) { marks = w.marks ++ a ∷ []; shown = [] }) ×
      (o.reply ≡ reply a)))
  makes {need} thing plain = record {
    plain = λ o h. in_takes_one o.moves need _ h (λ a moves did.
        Plain.swaps a None (Some thing)
        (λ fresh. none_there w a (subst (λ ms. AreFresh (addresses_of (blocks_of w)) ms) moves fresh).1)
        tt plain (λ n h. absurd h)
        (ap (λ (v : World). v.things) did.0) (ap (λ (v : World). v.accounts) did.0));
  }

  -- a thing goes that is neither source nor object, nor a raw object
  goes : {moves : List Move} {reply : Reply} (addr : ℕ) (thing : Thing) → thing_at w addr ≡ Some thing
      → IsNoZco (Some thing) → KeepsBytes (Some thing) None
      → ArePlain w (λ o. (o.moves ≡ moves) × (o.after ≡ record (without_thing w addr) { shown = [] }) ×
      (o.reply ≡ reply))
  goes addr thing is plain bytes = record {
    plain = λ o h. Plain.swaps addr (Some thing) None (λ fresh. is) plain tt bytes
        (ap (λ (v : World). v.things) h.1) (ap (λ (v : World). v.accounts) h.1);
  }

freed : (w : World) (addr : ℕ) (t : Option Thing) → thing_at w addr ≡ t
    → ArePlain w (λ o. raw.FreesThing w o addr (as_raw t) (as_text t))
freed w addr (Some (things.Raw bytes)) is = unnamed (source_naming w addr) (λ none. record {
  plain = λ o h. Plain.frees addr bytes is none (ap (λ (v : World). v.things) h.1) (ap (λ (v : World). v.accounts) h.1);
}) (λ source. refused)
freed w addr (Some (things.Text text)) is = goes addr (things.Text text) is tt (λ n h. absurd h)
freed w addr t is = refused

-- a list gains, changes or loses an element
module _ (w : World) where
  inserts : (addr : ℕ) (row : SdrList) (place datum : ℕ) → thing_at w addr ≡ Some (things.List row)
      → ArePlain w (λ o. Inserts w o addr row place datum)
  inserts addr row place datum is =
      let e : ℕ → Element = λ a. record { block = a; datum = datum } in
      gains addr (things.List row) (λ a. things.List (record row { elements = insert row.elements place (e a) })) is
      tt (λ a. tt) (λ a n h. absurd h)

  inserts_at : (addr : ℕ) (place : SdrList → ℕ) (datum : ℕ) → ArePlain w (λ o. InsertAt w o addr place datum)
  inserts_at addr place datum =
      found (as_list (thing_at w addr)) refused (λ row is. inserts addr row (place row) datum (list_is _ _ is))

  inserts_beside : (element : ℕ) (place : ℕ → ℕ) (datum : ℕ) → ArePlain w (λ o. InsertBeside w o element place datum)
  inserts_beside element place datum =
      found (spot_of w element) refused
      (λ s is. inserts s.list s.row (place s.place) datum (spot_there w.things element s is))

  deletes : (element : ℕ) → ArePlain w (λ o. Delete w o element)
  deletes element = found (spot_of w element) refused (λ s is.
      changes s.list (things.List s.row) (things.List (record s.row { elements = remove s.row.elements s.place }))
      (spot_there w.things element s is) tt tt (λ n h. absurd h))

  sets_datum : (element datum : ℕ) → ArePlain w (λ o. SetDatum w o element datum)
  sets_datum element datum = found (spot_of w element) refused (λ s is.
      let e : Element = record { block = element; datum = datum } in
      changes s.list (things.List s.row) (things.List (record s.row { elements = set s.row.elements s.place e }))
      (spot_there w.things element s is) tt tt (λ n h. absurd h))

  -- a hash gains, changes or loses an entry
  hash_inserts : (addr : ℕ) (key : List ℕ) (value : ℕ) → ArePlain w (λ o. HashInsert w o addr key value)
  hash_inserts addr key value = found (as_hash (thing_at w addr)) refused (λ h is.
      let e : ℕ → HashEntry = λ a. record { block = a; key = key; value = value } in
      tested (length key == h.key_length) (found (position (has_key key) h.entries)
      (gains addr (things.Hash h)
      (λ a. things.Hash (record h { entries = insert h.entries (bucket_place h key) (e a) })) (hash_is _ _ is)
      tt (λ a. tt) (λ a n h. absurd h))
      (λ place at. refused)) refused)

  hash_revises : (addr : ℕ) (key : List ℕ) (value : ℕ) → ArePlain w (λ o. HashRevise w o addr key value)
  hash_revises addr key value = found (as_hash (thing_at w addr)) refused (λ h is.
      tested (length key == h.key_length) (found (position (has_key key) h.entries) refused (λ place at.
      let e : HashEntry = record { block = entry_addr h.entries place; key = key; value = value } in
      changes addr (things.Hash h) (things.Hash (record h { entries = set h.entries place e })) (hash_is _ _ is)
      tt tt (λ n h. absurd h))) refused)

  hash_removes : (addr : ℕ) (key : List ℕ) → ArePlain w (λ o. HashRemove w o addr key)
  hash_removes addr key = found (as_hash (thing_at w addr)) refused (λ h is.
      tested (length key == h.key_length) (found (position (has_key key) h.entries) refused (λ place at.
      changes addr (things.Hash h) (things.Hash (record h { entries = remove h.entries place })) (hash_is _ _ is)
      tt tt (λ n h. absurd h))) refused)

-- the calls whose rows touch a source, an object or an account
abbrev pub IsZcoCall : Call → Type 0
IsZcoCall (calls.FileRef path bytes) = Unit {0}
IsZcoCall (calls.BulkRef item bytes) = Unit {0}
IsZcoCall (calls.ObjRef raw) = Unit {0}
IsZcoCall (calls.DestroyRef addr) = Unit {0}
IsZcoCall (calls.SetMaximum acct space value) = Unit {0}
IsZcoCall (calls.Create acct ticket) = Unit {0}
IsZcoCall (calls.AppendExtent addr ticket named offset bytes) = Unit {0}
IsZcoCall (calls.PrependHeader addr ticket text) = Unit {0}
IsZcoCall (calls.AppendTrailer addr ticket text) = Unit {0}
IsZcoCall (calls.DiscardFirstHeader addr) = Unit {0}
IsZcoCall (calls.DiscardLastTrailer addr) = Unit {0}
IsZcoCall (calls.Bond addr ticket) = Unit {0}
IsZcoCall (calls.ClonePart addr ticket offset bytes) = Unit {0}
IsZcoCall (calls.Delimit addr offset bytes) = Unit {0}
IsZcoCall (calls.Strip addr) = Unit {0}
IsZcoCall (calls.Destroy addr) = Unit {0}
IsZcoCall (calls.Request acct file bulk heap coarse fine) = Unit {0}
IsZcoCall (calls.Shred ticket) = Unit {0}
IsZcoCall call = ⊥

-- a row that is plain, or one of those
abbrev pub PlainRow : World → Call → Type 0
PlainRow w (calls.FileRef path bytes) = Unit {0}
PlainRow w (calls.BulkRef item bytes) = Unit {0}
PlainRow w (calls.ObjRef raw) = Unit {0}
PlainRow w (calls.DestroyRef addr) = Unit {0}
PlainRow w (calls.SetMaximum acct space value) = Unit {0}
PlainRow w (calls.Create acct ticket) = Unit {0}
PlainRow w (calls.AppendExtent addr ticket named offset bytes) = Unit {0}
PlainRow w (calls.PrependHeader addr ticket text) = Unit {0}
PlainRow w (calls.AppendTrailer addr ticket text) = Unit {0}
PlainRow w (calls.DiscardFirstHeader addr) = Unit {0}
PlainRow w (calls.DiscardLastTrailer addr) = Unit {0}
PlainRow w (calls.Bond addr ticket) = Unit {0}
PlainRow w (calls.ClonePart addr ticket offset bytes) = Unit {0}
PlainRow w (calls.Delimit addr offset bytes) = Unit {0}
PlainRow w (calls.Strip addr) = Unit {0}
PlainRow w (calls.Destroy addr) = Unit {0}
PlainRow w (calls.Request acct file bulk heap coarse fine) = Unit {0}
PlainRow w (calls.Shred ticket) = Unit {0}
PlainRow w call = ArePlain w (λ o. ByRow w o call)

-- a call that gives bytes of an object
given : (w : World) (addr count : ℕ) (of : ZcoObject → ToldBytes) → ArePlain w (λ o. GivesOf w o addr count of)
given w addr count of =
    found (object_at w addr) refused (λ z is. tested (nat_lt longest_read count) refused (record {
      plain = λ o h. Plain.leaves (ap (λ (v : World). v.things) h.1) (ap (λ (v : World). v.accounts) h.1);
    }))

pub row_plain : (w : World) (call : Call) → PlainRow w call
row_plain w (calls.Malloc bytes) =
    tested (nat_lt longest_raw bytes) refused (makes (things.Raw (replicate bytes 0)) tt)
row_plain w (calls.Free addr) = freed w addr (thing_at w addr) refl
row_plain w (calls.Length addr) = found (block_at w addr) refused (λ v is. shown)
row_plain w (calls.Read addr place count) =
    found (as_raw (thing_at w addr)) refused
    (λ b is. tested (nat_lt longest_read count) refused (tested (nat_lt (length b) (place + count)) refused shown))
row_plain w (calls.Write addr place bytes) =
    found (as_raw (thing_at w addr)) refused
    (λ b is. asked (nat_lt (length b) (place + length bytes)) (λ above. refused)
    (λ within. tested (is_marked w addr)
    (changes addr (things.Raw b) (things.Raw (overwrite place bytes b)) (raw_is _ _ is) tt tt
    (λ n h. length-overwrite place bytes b (ltb-false _ _ within) ∙ h)) refused))
row_plain w (calls.Stage addr count) =
    found (as_raw (thing_at w addr)) refused
    (λ b is. tested (nat_lt longest_read count) refused
    (tested (nat_lt (length b) count) refused shown))
row_plain w (calls.String text) =
    tested (nat_lt longest_string (length text)) refused (makes (things.Text text) tt)
row_plain w (calls.StringLength addr) = found (as_text (thing_at w addr)) refused (λ v is. shown)
row_plain w (calls.StringRead addr) = found (as_text (thing_at w addr)) refused (λ v is. shown)
row_plain w (calls.StringDup addr) =
    found (as_text (thing_at w addr)) refused (λ text is. makes (things.Text text) tt)
row_plain w (calls.List user) = makes (things.List (record { user = user; elements = [] })) tt
row_plain w (calls.ListDestroy addr) =
    found (as_list (thing_at w addr)) refused
    (λ row is. goes addr (things.List row) (list_is _ _ is) tt (λ n h. absurd h))
row_plain w (calls.ListLength addr) = found (as_list (thing_at w addr)) refused (λ v is. shown)
row_plain w (calls.ListUser addr) = found (as_list (thing_at w addr)) refused (λ v is. shown)
row_plain w (calls.SetListUser addr user) =
    found (as_list (thing_at w addr)) refused
    (λ row is. changes addr (things.List row) (things.List (record row { user = user })) (list_is _ _ is)
    tt tt (λ n h. absurd h))
row_plain w (calls.InsertFirst addr datum) = inserts_at w addr (λ row. 0) datum
row_plain w (calls.InsertLast addr datum) = inserts_at w addr (λ row. length row.elements) datum
row_plain w (calls.InsertBefore element datum) = inserts_beside w element (λ place. place) datum
row_plain w (calls.InsertAfter element datum) = inserts_beside w element (λ place. place + 1) datum
row_plain w (calls.InsertOrdered addr datum by) = inserts_at w addr (ordered_place w (compare_keys by) datum) datum
row_plain w (calls.Search addr datum by) = found (as_list (thing_at w addr)) refused (λ v is. shown)
row_plain w (calls.Delete element) = deletes w element
row_plain w (calls.First addr) = found (as_list (thing_at w addr)) refused (λ v is. shown)
row_plain w (calls.Last addr) = found (as_list (thing_at w addr)) refused (λ v is. shown)
row_plain w (calls.Next element) = found (spot_of w element) refused (λ v is. shown)
row_plain w (calls.Prev element) = found (spot_of w element) refused (λ v is. shown)
row_plain w (calls.Datum element) = found (spot_of w element) refused (λ v is. shown)
row_plain w (calls.SetDatum element datum) = sets_datum w element datum
row_plain w (calls.Table rows size user) =
    tested (nat_lt longest_raw rows) refused
    (tested (nat_lt longest_raw size) refused
    (tested (nat_lt longest_raw (rows * size)) refused
    (makes (things.Table
    (record { user = user; rows = rows; size = size; bytes = replicate (rows * size) 0 })) tt)))
row_plain w (calls.Row addr row) =
    found (as_table (thing_at w addr)) refused
    (λ t is. tested (nat_le t.rows row) refused (tested (nat_lt longest_read t.size) refused shown))
row_plain w (calls.SetRow addr row bytes) =
    found (as_table (thing_at w addr)) refused
    (λ t is. tested (nat_le t.rows row) refused
    (tested (length bytes == t.size)
    (changes addr (things.Table t)
    (things.Table (record t { bytes = overwrite (t.size * row) bytes t.bytes })) (table_is _ _ is)
    tt tt (λ n h. absurd h)) refused))
row_plain w (calls.Dimensions addr) = found (as_table (thing_at w addr)) refused (λ v is. shown)
row_plain w (calls.TableUser addr) = found (as_table (thing_at w addr)) refused (λ v is. shown)
row_plain w (calls.TableDestroy addr) =
    found (as_table (thing_at w addr)) refused
    (λ t is. goes addr (things.Table t) (table_is _ _ is) tt (λ n h. absurd h))
row_plain w (calls.Hash key_length buckets) =
    tested (is_no_key_length key_length) refused
    (tested (is_no_count buckets) refused
    (makes (things.Hash (record { key_length = key_length; buckets = buckets; entries = [] })) tt))
row_plain w (calls.HashInsert addr key value) = hash_inserts w addr key value
row_plain w (calls.HashRetrieve addr key) =
    found (as_hash (thing_at w addr)) refused
    (λ h is. tested (length key == h.key_length)
    (found (position (has_key key) h.entries) refused (λ place at. shown)) refused)
row_plain w (calls.HashRevise addr key value) = hash_revises w addr key value
row_plain w (calls.HashRemove addr key) = hash_removes w addr key
row_plain w (calls.HashCount addr) = found (as_hash (thing_at w addr)) refused (λ v is. shown)
row_plain w (calls.HashDestroy addr) =
    found (as_hash (thing_at w addr)) refused
    (λ h is. goes addr (things.Hash h) (hash_is _ _ is) tt (λ n h. absurd h))
row_plain w (calls.Catlg name kind object) =
    tested (is_no_name (length name)) refused
    (found (name_of w.names name) (takes_name (λ a. refl) (λ a. refl)) (λ n is. refused))
row_plain w (calls.Find name) =
    tested (is_no_name (length name)) refused (found (name_of w.names name) refused (λ n is. shown))
row_plain w (calls.Uncatlg name) =
    tested (is_no_name (length name)) refused (found (name_of w.names name) refused (λ n is. left refl refl))
row_plain w (calls.Entry place) = found (slice_get w.names place) refused (λ v is. shown)
row_plain w (calls.Count addr) = found (source_at w addr) refused (λ v is. shown)
row_plain w (calls.Occupancy acct space) = shown
row_plain w (calls.Maximum acct space) = shown
row_plain w (calls.ZcoLength addr) = found (object_at w addr) refused (λ v is. shown)
row_plain w (calls.SourceLength addr) = found (object_at w addr) refused (λ v is. shown)
row_plain w (calls.Transmit addr place count) = given w addr count _
row_plain w (calls.ReceiveHeaders addr place count) = given w addr count _
row_plain w (calls.ReceiveSource addr place count) = given w addr count _
row_plain w (calls.ReceiveTrailers addr place count) = given w addr count _
row_plain w (calls.Awarded ticket) = found (pending_of w ticket) refused (λ p is. tested p.ticket.granted shown refused)
row_plain w (calls.FileRef path bytes) = tt
row_plain w (calls.BulkRef item bytes) = tt
row_plain w (calls.ObjRef raw) = tt
row_plain w (calls.DestroyRef addr) = tt
row_plain w (calls.SetMaximum acct space value) = tt
row_plain w (calls.Create acct ticket) = tt
row_plain w (calls.AppendExtent addr ticket named offset bytes) = tt
row_plain w (calls.PrependHeader addr ticket text) = tt
row_plain w (calls.AppendTrailer addr ticket text) = tt
row_plain w (calls.DiscardFirstHeader addr) = tt
row_plain w (calls.DiscardLastTrailer addr) = tt
row_plain w (calls.Bond addr ticket) = tt
row_plain w (calls.ClonePart addr ticket offset bytes) = tt
row_plain w (calls.Delimit addr offset bytes) = tt
row_plain w (calls.Strip addr) = tt
row_plain w (calls.Destroy addr) = tt
row_plain w (calls.Request acct file bulk heap coarse fine) = tt
row_plain w (calls.Shred ticket) = tt

-- what follows from a row: it is plain, or one of those of sources, objects and tickets
pub row_change : {R : Type 0} (w : World) (call : Call) (o : Outcome) → ByRow w o call
    → ((IsZcoCall call → ⊥) → Plain w o → R)
    → (IsZcoCall call → R) → R
row_change w (calls.FileRef path bytes) o row plain zco = zco tt
row_change w (calls.BulkRef item bytes) o row plain zco = zco tt
row_change w (calls.ObjRef raw) o row plain zco = zco tt
row_change w (calls.DestroyRef addr) o row plain zco = zco tt
row_change w (calls.SetMaximum acct space value) o row plain zco = zco tt
row_change w (calls.Create acct ticket) o row plain zco = zco tt
row_change w (calls.AppendExtent addr ticket named offset bytes) o row plain zco = zco tt
row_change w (calls.PrependHeader addr ticket text) o row plain zco = zco tt
row_change w (calls.AppendTrailer addr ticket text) o row plain zco = zco tt
row_change w (calls.DiscardFirstHeader addr) o row plain zco = zco tt
row_change w (calls.DiscardLastTrailer addr) o row plain zco = zco tt
row_change w (calls.Bond addr ticket) o row plain zco = zco tt
row_change w (calls.ClonePart addr ticket offset bytes) o row plain zco = zco tt
row_change w (calls.Delimit addr offset bytes) o row plain zco = zco tt
row_change w (calls.Strip addr) o row plain zco = zco tt
row_change w (calls.Destroy addr) o row plain zco = zco tt
row_change w (calls.Request acct file bulk heap coarse fine) o row plain zco = zco tt
row_change w (calls.Shred ticket) o row plain zco = zco tt
row_change w call o row plain zco = plain (λ zco. zco) ((row_plain w call).plain o row)
