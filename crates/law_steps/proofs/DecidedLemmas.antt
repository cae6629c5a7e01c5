-- A row decides what a call comes to, but for the addresses of the blocks taken and the bytes that media give.
use Rattle.std.proofs.Common.{◌≡◌, ℕ, ◌+◌, ◌*◌, ◌==◌, ◌||◌, length, nat_le, nat_lt, position, List, [], ◌∷◌, Bool, true, false, is_some, Option, Some, None, MatchBool, refl, sym, ap, ◌∙◌, true≢false}
use Rattle.std.specs.Prelude.{slice_get}
use Rattle.sdr_base.specs.declared.kind.Space.TheVariants as spaces
use Rattle.sdr_base.specs.declared.moves.Move.{Move}
use Rattle.sdr_base.specs.declared.moves.Move.TheVariants.{Took, Gave, Short}
use Rattle.sdr_base.specs.declared.refusal.Refusal.{Refusal}
use Rattle.sdr_base.specs.declared.refusal.Refusal.TheVariants as refusals
use Rattle.law_steps.proofs.AppendShapes.{TakesOver}
use Rattle.law_steps.proofs.BondShapes.{Bonds}
use Rattle.law_steps.proofs.CloneShapes.{Clones}
use Rattle.law_steps.proofs.Decisions.{IsDecided, bond_of_their, but_shown, charges, clone_of_their, does_with, found, raw_append_of_their, same_outcome, takes_one, tested, told}
use Rattle.law_steps.proofs.ObjectShapes.{AddsTo, AppendsTo, Creates}
use Rattle.law_steps.specs.Decided.{SameButShown}
use Rattle.law_steps.specs.TakesAt.{TakesAt}
use Rattle.sdr_model.specs.AccountSteps.{pending_of}
use Rattle.sdr_model.specs.Accounts.{account_of, most_amount}
use Rattle.sdr_model.specs.Amounts.{first_above, in_space}
use Rattle.sdr_model.specs.BondSteps.{bond_charge, bond_moves, bonded, capsules_of, with_bonded}
use Rattle.sdr_model.specs.Charges.{bytes_charge, capsule_bytes, object_bytes, object_charge, use_charge}
use Rattle.sdr_model.specs.Cuts.{placed}
use Rattle.sdr_model.specs.Dry.{AreInOrder, StepsDry, addr_after, blocks_taken}
use Rattle.sdr_model.specs.HashSteps.{as_hash, has_key, is_no_count, is_no_key_length}
use Rattle.sdr_model.specs.Limits.{is_no_capsule, is_no_name, is_no_path, longest_raw, longest_read, longest_source, longest_string}
use Rattle.sdr_model.specs.ListSteps.{as_list}
use Rattle.sdr_model.specs.Names.{name_of}
use Rattle.sdr_model.specs.ObjectSteps.{AddsCapsule, AppendsRaw, AppendsSource, last_capsule, raw_append_moves, with_extent, with_header, with_object, with_trailer}
use Rattle.sdr_model.specs.PartSteps.{asked_extents, clone_moves, object_of}
use Rattle.sdr_model.specs.RawSteps as raw
use Rattle.sdr_model.specs.Reading.{reads_media}
use Rattle.sdr_model.specs.Rows.{ByRow}
use Rattle.sdr_model.specs.SourceSteps.{new_source}
use Rattle.sdr_model.specs.Steps.{On, Outcome, Refuses, with_thing}
use Rattle.sdr_model.specs.TableSteps.{as_table}
use Rattle.sdr_model.specs.Wire.{GivesBytes, GivesOf, ToldBytes, headers_part, source_part, trailers_part, wire_part}
use Rattle.sdr_model.specs.World.{World, as_raw, as_text, block_at, is_marked, misnamed, spot_of, thing_at}
use Rattle.sdr_model.specs.Zco.{extents_length, object_at, owned_raw, source_at, source_naming, uses_of}
use Rattle.sdr_model.specs.declared.answer.Reply.{Reply}
use Rattle.sdr_model.specs.declared.answer.Reply.TheVariants as replies
use Rattle.sdr_model.specs.declared.call.Call.{Call}
use Rattle.sdr_model.specs.declared.call.Call.TheVariants as calls
use Rattle.sdr_model.specs.declared.things.Thing.{Thing}
use Rattle.sdr_model.specs.declared.things.Thing.TheVariants as things
use Rattle.sdr_model.specs.declared.zco.Capsule.{Capsule}
use Rattle.sdr_model.specs.declared.zco.Subject.TheVariants as subjects
use Rattle.sdr_model.specs.declared.zco.ZcoObject.{ZcoObject}
use Rattle.sdr_model.specs.declared.zco.ZcoSource.{ZcoSource}

freed : (w : World) (addr : ℕ) (t : Option Thing) → IsDecided (λ o. raw.FreesThing w o addr (as_raw t) (as_text t))
freed w addr (Some (things.Raw bytes)) = found (source_naming w addr) told (λ _. told)
freed w addr (Some (things.Text text)) = told
freed w addr t = told

-- a header or trailer is added, and a part is appended
adds_capsule : (w : World) (addr number : ℕ) (text : List ℕ) (with_capsule : ZcoObject → Capsule → ZcoObject)
    → IsDecided (λ o. AddsCapsule w o addr number text with_capsule)
adds_capsule w addr number text with_capsule =
    found (object_at w addr) told (λ z.
    tested (is_no_capsule (length text)) told
    (charges w (λ o used. AddsTo w o addr z text with_capsule used) z.account number
    (in_space spaces.Heap (capsule_bytes (length text))) (λ used. takes_one)))

appends_source : (w : World) (addr : ℕ) (z : ZcoObject) (number named : ℕ) (s : ZcoSource) (offset bytes : ℕ)
    → IsDecided (λ o. AppendsSource w o addr z number named s offset bytes)
appends_source w addr z number named s offset bytes =
    tested s.flagged told
    (tested (bytes == 0 || nat_lt s.length (offset + bytes)) told
    (charges w (λ o used. AppendsTo w o addr z named offset bytes used) z.account number
    (use_charge w z.account named s) (λ used. takes_one)))

appends_raw : (w : World) (addr : ℕ) (z : ZcoObject) (number raw : ℕ) (text : List ℕ) (offset bytes : ℕ)
    → IsDecided (λ o. AppendsRaw w o addr z number raw text offset bytes)
appends_raw w addr z number raw text offset bytes =
    found (source_naming w raw)
    (tested (bytes == 0 || nat_lt (length text) (offset + bytes)) told
    (charges w (λ o used. TakesOver w o addr z raw text offset bytes used) z.account number
    (bytes_charge spaces.Heap (length text))
    (λ used. does_with w raw_append_moves
    (λ at. with_object (with_thing used (at 0) (things.Source (new_source (subjects.Heap raw) (length text)))) addr
    (with_extent z (record { block = at 1; source = at 0; offset = offset; length = bytes })))
    (λ at. replies.Done) raw_append_of_their)))
    (λ _. told)

decided : (w : World) (call : Call) → reads_media call ≡ false → IsDecided (λ o. ByRow w o call)
decided w (calls.Malloc bytes) _ = tested (nat_lt longest_raw bytes) told takes_one
decided w (calls.Free addr) _ = freed w addr (thing_at w addr)
decided w (calls.Length addr) _ = found (block_at w addr) told (λ _. told)
decided w (calls.Read addr place count) _ =
    found (as_raw (thing_at w addr)) told
    (λ b. tested (nat_lt longest_read count) told (tested (nat_lt (length b) (place + count)) told told))
decided w (calls.Write addr place bytes) _ =
    found (as_raw (thing_at w addr)) told
    (λ b. tested (nat_lt (length b) (place + length bytes)) told (tested (is_marked w addr) told told))
decided w (calls.Stage addr count) _ =
    found (as_raw (thing_at w addr)) told
    (λ b. tested (nat_lt longest_read count) told (tested (nat_lt (length b) count) told told))
decided w (calls.String text) _ = tested (nat_lt longest_string (length text)) told takes_one
decided w (calls.StringLength addr) _ = found (as_text (thing_at w addr)) told (λ _. told)
decided w (calls.StringRead addr) _ = found (as_text (thing_at w addr)) told (λ _. told)
decided w (calls.StringDup addr) _ = found (as_text (thing_at w addr)) told (λ _. takes_one)
decided w (calls.List user) _ = takes_one
decided w (calls.ListDestroy addr) _ = found (as_list (thing_at w addr)) told (λ _. told)
decided w (calls.ListLength addr) _ = found (as_list (thing_at w addr)) told (λ _. told)
decided w (calls.ListUser addr) _ = found (as_list (thing_at w addr)) told (λ _. told)
decided w (calls.SetListUser addr user) _ = found (as_list (thing_at w addr)) told (λ _. told)
decided w (calls.InsertFirst addr datum) _ = found (as_list (thing_at w addr)) told (λ _. takes_one)
decided w (calls.InsertLast addr datum) _ = found (as_list (thing_at w addr)) told (λ _. takes_one)
decided w (calls.InsertBefore element datum) _ = found (spot_of w element) told (λ _. takes_one)
decided w (calls.InsertAfter element datum) _ = found (spot_of w element) told (λ _. takes_one)
decided w (calls.InsertOrdered addr datum by) _ = found (as_list (thing_at w addr)) told (λ _. takes_one)
decided w (calls.Search addr datum by) _ = found (as_list (thing_at w addr)) told (λ _. told)
decided w (calls.Delete element) _ = found (spot_of w element) told (λ _. told)
decided w (calls.First addr) _ = found (as_list (thing_at w addr)) told (λ _. told)
decided w (calls.Last addr) _ = found (as_list (thing_at w addr)) told (λ _. told)
decided w (calls.Next element) _ = found (spot_of w element) told (λ _. told)
decided w (calls.Prev element) _ = found (spot_of w element) told (λ _. told)
decided w (calls.Datum element) _ = found (spot_of w element) told (λ _. told)
decided w (calls.SetDatum element datum) _ = found (spot_of w element) told (λ _. told)
decided w (calls.Table rows size user) _ =
    tested (nat_lt longest_raw rows) told
    (tested (nat_lt longest_raw size) told (tested (nat_lt longest_raw (rows * size)) told takes_one))
decided w (calls.Row addr row) _ =
    found (as_table (thing_at w addr)) told
    (λ t. tested (nat_le t.rows row) told (tested (nat_lt longest_read t.size) told told))
decided w (calls.SetRow addr row bytes) _ =
    found (as_table (thing_at w addr)) told
    (λ t. tested (nat_le t.rows row) told (tested (length bytes == t.size) told told))
decided w (calls.Dimensions addr) _ = found (as_table (thing_at w addr)) told (λ _. told)
decided w (calls.TableUser addr) _ = found (as_table (thing_at w addr)) told (λ _. told)
decided w (calls.TableDestroy addr) _ = found (as_table (thing_at w addr)) told (λ _. told)
decided w (calls.Hash key_length buckets) _ =
    tested (is_no_key_length key_length) told (tested (is_no_count buckets) told takes_one)
decided w (calls.HashInsert addr key value) _ =
    found (as_hash (thing_at w addr)) told
    (λ h. tested (length key == h.key_length) (found (position (has_key key) h.entries) takes_one (λ _. told)) told)
decided w (calls.HashRetrieve addr key) _ =
    found (as_hash (thing_at w addr)) told
    (λ h. tested (length key == h.key_length) (found (position (has_key key) h.entries) told (λ _. told)) told)
decided w (calls.HashRevise addr key value) _ =
    found (as_hash (thing_at w addr)) told
    (λ h. tested (length key == h.key_length) (found (position (has_key key) h.entries) told (λ _. told)) told)
decided w (calls.HashRemove addr key) _ =
    found (as_hash (thing_at w addr)) told
    (λ h. tested (length key == h.key_length) (found (position (has_key key) h.entries) told (λ _. told)) told)
decided w (calls.HashCount addr) _ = found (as_hash (thing_at w addr)) told (λ _. told)
decided w (calls.HashDestroy addr) _ = found (as_hash (thing_at w addr)) told (λ _. told)
decided w (calls.Catlg name kind object) _ =
    tested (is_no_name (length name)) told (found (name_of w.names name) takes_one (λ _. told))
decided w (calls.Find name) _ = tested (is_no_name (length name)) told (found (name_of w.names name) told (λ _. told))
decided w (calls.Uncatlg name) _ = tested (is_no_name (length name)) told (found (name_of w.names name) told (λ _. told))
decided w (calls.Entry place) _ = found (slice_get w.names place) told (λ _. told)
decided w (calls.FileRef path bytes) _ =
    tested (is_no_path (length path)) told (tested (nat_lt longest_source bytes) told takes_one)
decided w (calls.BulkRef item bytes) _ = tested (nat_lt longest_source bytes) told takes_one
decided w (calls.ObjRef raw) _ =
    found (as_raw (thing_at w raw)) told (λ _. found (source_naming w raw) takes_one (λ _. told))
decided w (calls.DestroyRef addr) _ =
    found (source_at w addr) told
    (λ s. tested (is_some (owned_raw s)) told (tested s.flagged told (tested (uses_of w addr == 0) told told)))
decided w (calls.Count addr) _ = found (source_at w addr) told (λ _. told)
decided w (calls.Occupancy acct space) _ = told
decided w (calls.Maximum acct space) _ = told
decided w (calls.SetMaximum acct space value) _ = tested (nat_lt most_amount value) told told
decided w (calls.Create acct ticket) _ =
    charges w (λ o used. Creates w o acct used) acct ticket (in_space spaces.Heap object_bytes) (λ used. takes_one)
decided w (calls.AppendExtent addr ticket named offset bytes) _ =
    found (object_at w addr) told (λ z.
    found (source_at w named)
    (found (as_raw (thing_at w named)) told (λ text. appends_raw w addr z ticket named text offset bytes))
    (λ s. appends_source w addr z ticket named s offset bytes))
decided w (calls.PrependHeader addr ticket text) _ = adds_capsule w addr ticket text with_header
decided w (calls.AppendTrailer addr ticket text) _ = adds_capsule w addr ticket text with_trailer
decided w (calls.DiscardFirstHeader addr) _ =
    found (object_at w addr) told (λ z. found (slice_get z.headers 0) told (λ _. told))
decided w (calls.DiscardLastTrailer addr) _ =
    found (object_at w addr) told (λ z. found (last_capsule z.trailers) told (λ _. told))
decided w (calls.Bond addr ticket) _ =
    found (object_at w addr) told (λ z.
    charges w (λ o used. Bonds w o addr z used) z.account ticket (bond_charge (capsules_of z))
    (λ used. does_with w (λ at. bond_moves at 0 (capsules_of z))
    (λ at. with_object (with_bonded used at 0 (capsules_of z)) addr (bonded at z)) (λ at. replies.Done)
    (bond_of_their (capsules_of z))))
decided w (calls.ClonePart addr ticket offset bytes) _ =
    found (object_at w addr) told (λ z.
    let extents = asked_extents z offset bytes in
    tested (bytes == 0 || nat_lt z.part.length (offset + bytes)) told
    (charges w (λ o used. Clones w o z extents used) z.account ticket
    (λ space. object_charge space (object_of z.account extents))
    (λ used. does_with w (λ at. clone_moves at extents)
    (λ at. with_object used (at 0) (object_of z.account (placed at 1 extents))) (λ at. replies.At (at 0))
    (clone_of_their extents))))
decided w (calls.Delimit addr offset bytes) _ =
    found (object_at w addr) told (λ z. tested (nat_lt (extents_length z.extents) (offset + bytes)) told told)
decided w (calls.Strip addr) _ = found (object_at w addr) told (λ _. told)
decided w (calls.ZcoLength addr) _ = found (object_at w addr) told (λ _. told)
decided w (calls.SourceLength addr) _ = found (object_at w addr) told (λ _. told)
decided w (calls.Destroy addr) _ = found (object_at w addr) told (λ _. told)
decided w (calls.Request acct file bulk heap coarse fine) _ =
    found (first_above (record { file = file; bulk = bulk; heap = heap }) (account_of w.accounts acct).maxima)
    (tested (w.accounts.next == most_amount) told takes_one) (λ _. told)
decided w (calls.Awarded ticket) _ = found (pending_of w ticket) told (λ p. tested p.ticket.granted told told)
decided w (calls.Shred ticket) _ = found (pending_of w ticket) told (λ _. told)
decided w call media = absurd (true≢false media)

-- bytes of an object are given, of which the world tells some
gives_same : (w : World) (o o' : Outcome) (addr count : ℕ) (of : ZcoObject → ToldBytes) → GivesOf w o addr count of
    → GivesOf w o' addr count of → SameButShown o o'
gives_same w o o' addr count of = by (object_at w addr)
  where
    refused : (refusal : Refusal) → Refuses w o refusal → Refuses w o' refusal → SameButShown o o'
    refused refusal a b = but_shown (same_outcome (a.0 ∙ sym b.0) (a.1 ∙ sym b.1) (a.2 ∙ sym b.2))

    given : (bytes : ToldBytes) → GivesBytes w o bytes → GivesBytes w o' bytes → SameButShown o o'
    given bytes a b = record {
      moves = a.0 ∙ sym b.0;
      after = a.1 ∙ ap (λ (v : World). record v { shown = o.after.shown }) (sym b.1);
      reply = a.3 ∙ sym b.3;
    }

    short : (b : Bool) (z : ZcoObject)
        → MatchBool b (Refuses w o (refusals.BadLength count longest_read)) (GivesBytes w o (of z))
        → MatchBool b (Refuses w o' (refusals.BadLength count longest_read)) (GivesBytes w o' (of z)) →
        SameButShown o o'
    short true z a b = refused (refusals.BadLength count longest_read) a b
    short false z a b = given (of z) a b

    by : (z : Option ZcoObject)
        → On w o addr z (λ z. MatchBool (nat_lt longest_read count)
        (Refuses w o (refusals.BadLength count longest_read)) (GivesBytes w o (of z)))
        → On w o' addr z (λ z. MatchBool (nat_lt longest_read count)
        (Refuses w o' (refusals.BadLength count longest_read)) (GivesBytes w o' (of z))) → SameButShown o o'
    by None a b = refused (misnamed w addr) a b
    by (Some z) a b = short (nat_lt longest_read count) z a b

-- A row allows one outcome, where the addresses of the blocks taken are told.
pub rows_decide : (w : World) (call : Call) (at : ℕ → ℕ) (o o' : Outcome) → reads_media call ≡ false → ByRow w o call
    → ByRow w o' call → TakesAt at o.moves → TakesAt at o'.moves → o ≡ o'
rows_decide w call at o o' media = (decided w call media).decides at o o'

-- And else they are the same but for the bytes shown.
pub rows_decide_but_bytes : (w : World) (call : Call) (at : ℕ → ℕ) (o o' : Outcome) → ByRow w o call
    → ByRow w o' call → TakesAt at o.moves → TakesAt at o'.moves → SameButShown o o'
rows_decide_but_bytes w (calls.Transmit addr place count) at o o' a b t t' =
    gives_same w o o' addr count (wire_part w place count) a b
rows_decide_but_bytes w (calls.ReceiveHeaders addr place count) at o o' a b t t' =
    gives_same w o o' addr count (headers_part w place count) a b
rows_decide_but_bytes w (calls.ReceiveSource addr place count) at o o' a b t t' =
    gives_same w o o' addr count (source_part w place count) a b
rows_decide_but_bytes w (calls.ReceiveTrailers addr place count) at o o' a b t t' =
    gives_same w o o' addr count (trailers_part w place count) a b
rows_decide_but_bytes w call at o o' a b t t' = but_shown (rows_decide w call at o o' refl a b t t')

-- blocks that are taken in order are at the next addresses
takes_in_order : (taken : ℕ) (moves : List Move) → AreInOrder taken moves → TakesAt (addr_after taken) moves
takes_in_order taken [] order = tt
takes_in_order taken (Took need addr ∷ moves) order = (order.0, takes_in_order (taken + 1) moves order.1)
takes_in_order taken (Gave addr ∷ moves) order = takes_in_order taken moves order
takes_in_order taken (Short need ∷ moves) order = absurd order

module _ (w w' v : World) (call : Call) (moves others : List Move) (reply other : Reply)
    (s : StepsDry w call moves w' reply) (s' : StepsDry w call others v other) where
  abbrev first : Outcome
  first = record { moves = moves; after = record w' { taken = w.taken }; reply = reply }

  abbrev second : Outcome
  second = record { moves = others; after = record v { taken = w.taken }; reply = other }

  counts : moves ≡ others → w'.taken ≡ v.taken
  counts same = s.counted ∙ ap (λ ms. w.taken + blocks_taken ms) same ∙ sym s'.counted

  decide : reads_media call ≡ false → (moves ≡ others) × (w' ≡ v) × (reply ≡ other)
  decide media =
      let same = rows_decide w call (addr_after w.taken) first second media s.step s'.step
      (takes_in_order w.taken moves s.in_order) (takes_in_order w.taken others s'.in_order) in
      let count = counts (ap (λ (o : Outcome). o.moves) same) in (
        ap (λ (o : Outcome). o.moves) same,
        (λ i. record (same i).after { taken = count i }),
        ap (λ (o : Outcome). o.reply) same,
      )

  decide_but_bytes : (moves ≡ others) × (w' ≡ record v { shown = w'.shown }) × (reply ≡ other)
  decide_but_bytes =
      let same = rows_decide_but_bytes w call (addr_after w.taken) first second s.step s'.step
      (takes_in_order w.taken moves s.in_order) (takes_in_order w.taken others s'.in_order) in
      let count = counts same.moves in (
        same.moves,
        (λ i. record (same.after i) { taken = count i }),
        same.reply,
      )

-- Without a heap a call comes to one outcome.
pub dry_decides : (w w' v : World) (call : Call) (moves others : List Move) (reply other : Reply)
    → reads_media call ≡ false → StepsDry w call moves w' reply → StepsDry w call others v other
    → (moves ≡ others) × (w' ≡ v) × (reply ≡ other)
dry_decides w w' v call moves others reply other media s s' = decide w w' v call moves others reply other s s' media

pub dry_decides_but_bytes : (w w' v : World) (call : Call) (moves others : List Move) (reply other : Reply)
    → StepsDry w call moves w' reply → StepsDry w call others v other
    → (moves ≡ others) × (w' ≡ record v { shown = w'.shown }) × (reply ≡ other)
dry_decides_but_bytes w w' v call moves others reply other s s' =
    decide_but_bytes w w' v call moves others reply other s s'
