-- What each row of the table of calls leaves has few pieces.
use Rattle.std.proofs.Common.{◌≡◌, ◌≤◌, ◌+◌, ◌-◌, ◌*◌, ◌==◌, ◌||◌, ◌∷◌, [], ℕ, List, is_some, Option, None, Some, length, nat_lt, nat_le, position, slice_get, sym, subst, arith, MatchOption, length-append, length-drop}
use Rattle.std.proofs.lemmas.List.{length-take}
use Rattle.std.specs.FinMap as finite
use Rattle.sdr_base.specs.declared.account.Acct.{Acct}
use Rattle.sdr_base.specs.declared.account.Amounts.{Amounts}
use Rattle.sdr_base.specs.declared.kind.Space.{Space}
use Rattle.sdr_base.specs.declared.kind.Space.TheVariants as spaces
use Rattle.sdr_base.specs.declared.refusal.Refusal.{Refusal}
use Rattle.sdr_base.specs.declared.refusal.Refusal.TheVariants as refusals
use Rattle.sdr_model.specs.AccountSteps.{pending_of}
use Rattle.sdr_model.specs.Accounts.{Pending, account_of, most_amount, pending_in, tickets_of}
use Rattle.sdr_model.specs.Amounts.{amounts_by, first_above, in_space, minus}
use Rattle.sdr_model.specs.BondSteps.{bond_charge, bond_moves, bonded, capsules_of, with_bonded}
use Rattle.sdr_model.specs.Charges.{bytes_charge, capsule_bytes, object_bytes, object_charge, rooms, use_charge}
use Rattle.sdr_model.specs.Charging.{Charges, grant_left, no_space, with_covered}
use Rattle.sdr_model.specs.Cuts.{placed}
use Rattle.sdr_model.specs.Few.{HasFewPieces, pieces}
use Rattle.sdr_model.specs.Gone.{gone_things, without_things}
use Rattle.sdr_model.specs.HashSteps.{as_hash, has_key, is_no_count, is_no_key_length, OnHash, OnKey}
use Rattle.sdr_model.specs.Hashes.{Hash}
use Rattle.sdr_model.specs.Limits.{is_no_capsule, is_no_name, is_no_path, longest_raw, longest_read, longest_source, longest_string}
use Rattle.sdr_model.specs.ListSteps.{as_list}
use Rattle.sdr_model.specs.NameSteps.{OnName}
use Rattle.sdr_model.specs.Names.{name_of}
use Rattle.sdr_model.specs.ObjectSteps.{AddsCapsule, InRange, last_capsule, raw_append_moves, with_extent, with_object, with_header, with_trailer}
use Rattle.sdr_model.specs.PartSteps.{asked_extents, clone_moves, object_of, outside_part, part_end}
use Rattle.sdr_model.specs.Queue.{barrier}
use Rattle.sdr_model.specs.RawSteps.{FreesThing}
use Rattle.sdr_model.specs.Rows.{ByRow}
use Rattle.sdr_model.specs.SourceSteps.{OnUnnamed, new_source}
use Rattle.sdr_model.specs.Steps.{DoesWith, Outcome, Refuses, Takes, On, taken_at, with_thing}
use Rattle.sdr_model.specs.TableSteps.{as_table}
use Rattle.sdr_model.specs.Things.{capsule_need, extent_need, object_need}
use Rattle.sdr_model.specs.World.{World, as_raw, as_text, block_at, is_marked, misnamed, spot_of, thing_at}
use Rattle.sdr_model.specs.Zco.{empty_object, extents_length, object_at, owned_raw, source_at, source_naming, uses_of}
use Rattle.sdr_model.specs.declared.answer.Reply.{Reply}
use Rattle.sdr_model.specs.declared.answer.Reply.TheVariants as replies
use Rattle.sdr_model.specs.declared.call.Call.{Call}
use Rattle.sdr_model.specs.declared.call.Call.TheVariants as calls
use Rattle.sdr_model.specs.declared.name.Name.{Name}
use Rattle.sdr_model.specs.declared.things.Thing.{Thing}
use Rattle.sdr_model.specs.declared.things.Thing.TheVariants as things
use Rattle.sdr_model.specs.declared.zco.Capsule.{Capsule}
use Rattle.sdr_model.specs.declared.zco.Subject.TheVariants as subjects
use Rattle.sdr_model.specs.declared.zco.ZcoObject.{ZcoObject}
use Rattle.sdr_model.proofs.Cases.{in_bool, in_option, in_option_is}
use Rattle.sdr_model.proofs.FewLemmas.{IsSmall, few_bonded, few_insert, few_more, few_of_object, few_remove, few_without, cloned, extended, in_takes_one, length-cut_all, pieces-bonded}

-- what a call comes to, from a world whose objects have few pieces
module _ (most : ℕ) (w : World) (o : Outcome) (few : HasFewPieces most w.things) where
  -- the objects after it have one piece more at most
  abbrev IsFew : Type 0
  IsFew = HasFewPieces (most + 1) o.after.things

  same : HasFewPieces (most + 1) w.things
  same = few_more most (most + 1) w.things (omega arith) few

  leaves : {next : World} → o.after ≡ next → HasFewPieces (most + 1) next.things → IsFew
  leaves is h = subst (λ v. HasFewPieces (most + 1) v.things) (sym is) h

  put : (addr : ℕ) (thing : Thing) → IsSmall (most + 1) thing
      → HasFewPieces (most + 1) (finite.insert w.things addr thing)
  put addr thing small = few_insert (most + 1) w.things addr thing same small

  lose : (addr : ℕ) → HasFewPieces (most + 1) (finite.remove w.things addr)
  lose addr = few_remove (most + 1) w.things addr same

  refuses : (refusal : Refusal) → Refuses w o refusal → IsFew
  refuses refusal s = leaves s.1 same

  on : {X : Type 0} {goes : X → Type 0} (addr : ℕ) (named : Option X) → On w o addr named goes → ((x : X) → goes x
      → IsFew) → IsFew
  on addr named s f = in_option named s (refuses (misnamed w addr)) f

  takes : (need : ℕ) (next : ℕ → World) (reply : ℕ → Reply) → Takes w o need next reply → ((addr : ℕ)
      → HasFewPieces (most + 1) (next addr).things) → IsFew
  takes need next reply s f = in_takes_one o.moves need _ s (λ addr p. leaves p.0 (f addr))

  used_few : (p : Option Pending) (amounts : Amounts) → HasFewPieces most (with_covered w p amounts).things
  used_few None amounts = few
  used_few (Some p) amounts = few

  covered : (acct : Acct) (charge : Space → ℕ) (goes : World → Type 0) (p : Option Pending)
      → MatchOption (barrier (minus (amounts_by charge) (grant_left p)) (tickets_of w.accounts acct))
      (MatchOption (first_above (minus (amounts_by charge) (grant_left p)) (rooms w acct)) (goes (with_covered w p (amounts_by charge)))
      (λ space. Refuses w o (no_space w acct (minus (amounts_by charge) (grant_left p)) space)))
      (λ t. Refuses w o (refusals.Queue t.number))
      → ((used : World) → HasFewPieces most used.things → goes used → IsFew) → IsFew
  covered acct charge goes p s f =
      in_option (barrier (minus (amounts_by charge) (grant_left p)) (tickets_of w.accounts acct)) s
      (λ s. in_option (first_above (minus (amounts_by charge) (grant_left p)) (rooms w acct)) s
      (f (with_covered w p (amounts_by charge)) (used_few p (amounts_by charge))) (λ space s. leaves s.1 same))
      (λ t s. leaves s.1 same)

  charges : (acct : Acct) (number : ℕ) (charge : Space → ℕ) (goes : World → Type 0)
      → Charges w o acct number charge goes
      → ((used : World) → HasFewPieces most used.things → goes used → IsFew) → IsFew
  charges acct number charge goes s f =
      in_bool (number == 0) s (λ s. covered acct charge goes None s f)
      (λ s. in_option (pending_in w.accounts acct number) s (λ s. leaves s.1 same)
      (λ p s. in_bool p.ticket.granted s (λ s. covered acct charge goes (Some p) s f) (λ s. leaves s.1 same)))

  put_object : (used : World) (addr : ℕ) (z : ZcoObject) → HasFewPieces most used.things → pieces z ≤ most + 1
      → HasFewPieces (most + 1) (finite.insert used.things addr (things.Object z))
  put_object used addr z few small =
      few_insert (most + 1) used.things addr (things.Object z) (few_more most (most + 1) used.things (omega arith) few) small

  unnamed : {goes : Type 0} (raw : ℕ) → OnUnnamed w o raw goes → (goes → IsFew) → IsFew
  unnamed raw s f = in_option (source_naming w raw) s f (λ source s. leaves s.1 same)

  frees : (addr : ℕ) (raw text : Option (List ℕ)) → FreesThing w o addr raw text → IsFew
  frees addr None None s = leaves s.1 same
  frees addr (Some bytes) text s = unnamed addr s (λ s. leaves s.1 (lose addr))
  frees addr None (Some text) s = leaves s.1 (lose addr)

  on_hash : {goes : Hash → Type 0} (addr : ℕ) (key : List ℕ) → OnHash w o addr key goes → ((hash : Hash)
      → goes hash → IsFew) → IsFew
  on_hash addr key s f =
      on addr (as_hash (thing_at w addr)) s (λ hash s. in_bool (length key == hash.key_length) s (f hash) (λ s. leaves s.1 same))

  on_key : {goes : Hash → ℕ → Type 0} (addr : ℕ) (key : List ℕ) → OnKey w o addr key goes
      → ((hash : Hash) (place : ℕ) → goes hash place → IsFew) → IsFew
  on_key addr key s f =
      on_hash addr key s (λ hash s. in_option (position (has_key key) hash.entries) s (λ s. leaves s.1 same) (f hash))

  on_name : {missing : Type 0} {found : Name → Type 0} (name : List ℕ) → OnName w o name missing found
      → (missing → IsFew) → ((n : Name) → found n → IsFew) → IsFew
  on_name name s f g =
      in_bool (is_no_name (length name)) s (λ s. leaves s.1 same) (λ s. in_option (name_of w.names name) s f g)

  on_object : {goes : ZcoObject → Type 0} (addr : ℕ) → On w o addr (object_at w addr) goes
      → ((z : ZcoObject) → pieces z ≤ most → goes z → IsFew) → IsFew
  on_object addr s f =
      in_option_is (object_at w addr) s (λ s. leaves s.1 same) (λ z is. f z (few_of_object most w addr z few is))

  in_range : {goes : Type 0} (offset bytes have : ℕ) → InRange w o offset bytes have goes → (goes → IsFew) → IsFew
  in_range offset bytes have s f = in_bool (bytes == 0 || nat_lt have (offset + bytes)) s (λ s. leaves s.1 same) f

  adds_capsule : (addr ticket : ℕ) (text : List ℕ) (with_capsule : ZcoObject → Capsule → ZcoObject)
      → AddsCapsule w o addr ticket text with_capsule
      → ((z : ZcoObject) (block : ℕ) → pieces z ≤ most → pieces (with_capsule z (record { block = block; text = text })) ≤ most + 1) → IsFew
  adds_capsule addr ticket text with_capsule s small =
      on_object addr s (λ z few_z s. in_bool (is_no_capsule (length text)) s (λ s. leaves s.1 same)
      (λ s. charges z.account ticket (in_space spaces.Heap (capsule_bytes (length text)))
      (λ used. Takes w o (capsule_need (length text))
      (λ block. with_object used addr (with_capsule z (record { block = block; text = text }))) (λ block. replies.Done))
      s (λ used few s.
      in_takes_one o.moves _ _ s (λ block p. leaves p.0 (put_object used addr _ few (small z block few_z))))))

  -- what a row allows leaves objects of one piece more at most
  pub few_row : (call : Call) → ByRow w o call → IsFew
  few_row (calls.Malloc bytes) s = in_bool (nat_lt longest_raw bytes) s (λ s. leaves s.1 same)
      (λ s. in_takes_one o.moves _ _ s (λ addr p. leaves p.0 (put addr _ tt)))
  few_row (calls.Free addr) s = frees addr (as_raw (thing_at w addr)) (as_text (thing_at w addr)) s
  few_row (calls.Length addr) s = on addr (block_at w addr) s (λ x s. leaves s.1 same)
  few_row (calls.Read addr place count) s = on addr (as_raw (thing_at w addr)) s (λ bytes s.
      in_bool (nat_lt longest_read count) s (λ s. leaves s.1 same)
      (λ s. in_bool (nat_lt (length bytes) (place + count)) s (λ s. leaves s.1 same) (λ s. leaves s.1 same)))
  few_row (calls.Write addr place from) s = on addr (as_raw (thing_at w addr)) s (λ bytes s.
      in_bool (nat_lt (length bytes) (place + length from)) s (λ s. leaves s.1 same)
      (λ s. in_bool (is_marked w addr) s (λ s. leaves s.1 (put addr _ tt)) (λ s. leaves s.1 same)))
  few_row (calls.Stage addr count) s = on addr (as_raw (thing_at w addr)) s (λ bytes s.
      in_bool (nat_lt longest_read count) s (λ s. leaves s.1 same)
      (λ s. in_bool (nat_lt (length bytes) count) s (λ s. leaves s.1 same) (λ s. leaves s.1 same)))
  few_row (calls.String text) s = in_bool (nat_lt longest_string (length text)) s (λ s. leaves s.1 same)
      (λ s. in_takes_one o.moves _ _ s (λ addr p. leaves p.0 (put addr _ tt)))
  few_row (calls.StringLength addr) s = on addr (as_text (thing_at w addr)) s (λ x s. leaves s.1 same)
  few_row (calls.StringRead addr) s = on addr (as_text (thing_at w addr)) s (λ x s. leaves s.1 same)
  few_row (calls.StringDup addr) s = on addr (as_text (thing_at w addr)) s (λ text s. in_takes_one o.moves _ _ s (λ addr p. leaves p.0 (put addr _ tt)))
  few_row (calls.List user) s = in_takes_one o.moves _ _ s (λ addr p. leaves p.0 (put addr _ tt))
  few_row (calls.ListDestroy addr) s = on addr (as_list (thing_at w addr)) s (λ x s. leaves s.1 (lose addr))
  few_row (calls.ListLength addr) s = on addr (as_list (thing_at w addr)) s (λ x s. leaves s.1 same)
  few_row (calls.ListUser addr) s = on addr (as_list (thing_at w addr)) s (λ x s. leaves s.1 same)
  few_row (calls.Search addr datum by) s = on addr (as_list (thing_at w addr)) s (λ x s. leaves s.1 same)
  few_row (calls.First addr) s = on addr (as_list (thing_at w addr)) s (λ x s. leaves s.1 same)
  few_row (calls.Last addr) s = on addr (as_list (thing_at w addr)) s (λ x s. leaves s.1 same)
  few_row (calls.SetListUser addr user) s = on addr (as_list (thing_at w addr)) s (λ x s. leaves s.1 (put addr _ tt))
  few_row (calls.InsertFirst addr datum) s = on addr (as_list (thing_at w addr)) s (λ x s. in_takes_one o.moves _ _ s (λ block p. leaves p.0 (put addr _ tt)))
  few_row (calls.InsertLast addr datum) s = on addr (as_list (thing_at w addr)) s (λ x s. in_takes_one o.moves _ _ s (λ block p. leaves p.0 (put addr _ tt)))
  few_row (calls.InsertOrdered addr datum by) s = on addr (as_list (thing_at w addr)) s (λ x s. in_takes_one o.moves _ _ s (λ block p. leaves p.0 (put addr _ tt)))
  few_row (calls.InsertBefore element datum) s = on element (spot_of w element) s (λ x s. in_takes_one o.moves _ _ s (λ block p. leaves p.0 (put x.list _ tt)))
  few_row (calls.InsertAfter element datum) s = on element (spot_of w element) s (λ x s. in_takes_one o.moves _ _ s (λ block p. leaves p.0 (put x.list _ tt)))
  few_row (calls.Delete element) s = on element (spot_of w element) s (λ x s. leaves s.1 (put x.list _ tt))
  few_row (calls.SetDatum element datum) s = on element (spot_of w element) s (λ x s. leaves s.1 (put x.list _ tt))
  few_row (calls.Next element) s = on element (spot_of w element) s (λ x s. leaves s.1 same)
  few_row (calls.Prev element) s = on element (spot_of w element) s (λ x s. leaves s.1 same)
  few_row (calls.Datum element) s = on element (spot_of w element) s (λ x s. leaves s.1 same)
  few_row (calls.Table rows size user) s = in_bool (nat_lt longest_raw rows) s (λ s. leaves s.1 same)
      (λ s. in_bool (nat_lt longest_raw size) s (λ s. leaves s.1 same)
      (λ s. in_bool (nat_lt longest_raw (rows * size)) s (λ s. leaves s.1 same)
      (λ s. in_takes_one o.moves _ _ s (λ addr p. leaves p.0 (put addr _ tt)))))
  few_row (calls.Row addr row) s = on addr (as_table (thing_at w addr)) s (λ table s.
      in_bool (nat_le table.rows row) s (λ s. leaves s.1 same)
      (λ s. in_bool (nat_lt longest_read table.size) s (λ s. leaves s.1 same) (λ s. leaves s.1 same)))
  few_row (calls.SetRow addr row from) s = on addr (as_table (thing_at w addr)) s (λ table s.
      in_bool (nat_le table.rows row) s (λ s. leaves s.1 same)
      (λ s. in_bool (length from == table.size) s (λ s. leaves s.1 (put addr _ tt)) (λ s. leaves s.1 same)))
  few_row (calls.Dimensions addr) s = on addr (as_table (thing_at w addr)) s (λ x s. leaves s.1 same)
  few_row (calls.TableUser addr) s = on addr (as_table (thing_at w addr)) s (λ x s. leaves s.1 same)
  few_row (calls.TableDestroy addr) s = on addr (as_table (thing_at w addr)) s (λ x s. leaves s.1 (lose addr))
  few_row (calls.Hash key_length buckets) s = in_bool (is_no_key_length key_length) s (λ s. leaves s.1 same)
      (λ s. in_bool (is_no_count buckets) s (λ s. leaves s.1 same) (λ s. in_takes_one o.moves _ _ s (λ addr p. leaves p.0 (put addr _ tt))))
  few_row (calls.HashInsert addr key value) s = on_hash addr key s (λ hash s.
      in_option (position (has_key key) hash.entries) s (λ s. in_takes_one o.moves _ _ s (λ block p. leaves p.0 (put addr _ tt))) (λ x s. leaves s.1 same))
  few_row (calls.HashRetrieve addr key) s = on_key addr key s (λ hash place s. leaves s.1 same)
  few_row (calls.HashRevise addr key value) s = on_key addr key s (λ hash place s. leaves s.1 (put addr _ tt))
  few_row (calls.HashRemove addr key) s = on_key addr key s (λ hash place s. leaves s.1 (put addr _ tt))
  few_row (calls.HashCount addr) s = on addr (as_hash (thing_at w addr)) s (λ x s. leaves s.1 same)
  few_row (calls.HashDestroy addr) s = on addr (as_hash (thing_at w addr)) s (λ x s. leaves s.1 (lose addr))
  few_row (calls.Catlg name kind object) s = on_name name s (λ s. in_takes_one o.moves _ _ s (λ block p. leaves p.0 same)) (λ x s. leaves s.1 same)
  few_row (calls.Find name) s = on_name name s (λ s. leaves s.1 same) (λ x s. leaves s.1 same)
  few_row (calls.Uncatlg name) s = on_name name s (λ s. leaves s.1 same) (λ x s. leaves s.1 same)
  few_row (calls.Entry place) s = in_option (slice_get w.names place) s (λ s. leaves s.1 same) (λ x s. leaves s.1 same)
  few_row (calls.FileRef path bytes) s = in_bool (is_no_path (length path)) s (λ s. leaves s.1 same)
      (λ s. in_bool (nat_lt longest_source bytes) s (λ s. leaves s.1 same) (λ s. in_takes_one o.moves _ _ s (λ addr p. leaves p.0 (put addr _ tt))))
  few_row (calls.BulkRef item bytes) s = in_bool (nat_lt longest_source bytes) s (λ s. leaves s.1 same) (λ s. in_takes_one o.moves _ _ s (λ addr p. leaves p.0 (put addr _ tt)))
  few_row (calls.ObjRef raw) s = on raw (as_raw (thing_at w raw)) s (λ bytes s. unnamed raw s (λ s. in_takes_one o.moves _ _ s (λ addr p. leaves p.0 (put addr _ tt))))
  few_row (calls.DestroyRef addr) s = on addr (source_at w addr) s (λ source s.
      in_bool (is_some (owned_raw source)) s (λ s. leaves s.1 same)
      (λ s. in_bool source.flagged s (λ s. leaves s.1 same)
      (λ s. in_bool (uses_of w addr == 0) s (λ s. leaves s.1 (lose addr)) (λ s. leaves s.1 (put addr _ tt)))))
  few_row (calls.Count addr) s = on addr (source_at w addr) s (λ x s. leaves s.1 same)
  few_row (calls.Occupancy acct space) s = leaves s.1 same
  few_row (calls.Maximum acct space) s = leaves s.1 same
  few_row (calls.SetMaximum acct space value) s = in_bool (nat_lt most_amount value) s (λ s. leaves s.1 same) (λ s. leaves s.1 same)
  few_row (calls.Request acct file bulk heap coarse fine) s = in_option (first_above (record { file = file; bulk = bulk; heap = heap }) (account_of w.accounts acct).maxima) s
      (λ s. in_bool (w.accounts.next == most_amount) s (λ s. leaves s.1 same) (λ s. in_takes_one o.moves _ _ s (λ block p. leaves p.0 same)))
      (λ x s. leaves s.1 same)
  few_row (calls.Awarded ticket) s = in_option (pending_of w ticket) s (λ s. leaves s.1 same) (λ p s. in_bool p.ticket.granted s (λ s. leaves s.1 same) (λ s. leaves s.1 same))
  few_row (calls.Shred ticket) s = in_option (pending_of w ticket) s (λ s. leaves s.1 same) (λ x s. leaves s.1 same)
  few_row (calls.Create acct ticket) s = charges acct ticket (in_space spaces.Heap object_bytes)
      (λ used. Takes w o object_need (λ addr. with_object used addr (empty_object acct)) (λ addr. replies.At addr)) s (λ used few s.
      in_takes_one o.moves _ _ s (λ addr p. leaves p.0 (put_object used addr _ few (omega arith))))
  few_row (calls.AppendExtent addr ticket named offset bytes) s = on_object addr s (λ z small s.
      in_option (source_at w named) s
      (λ s. on named (as_raw (thing_at w named)) s (λ text s. unnamed named s (λ s. in_range offset bytes (length text) s
      (λ s. charges z.account ticket (bytes_charge spaces.Heap (length text))
      (λ used. DoesWith w o raw_append_moves
      (λ at. with_object (with_thing used (at 0) (things.Source (new_source (subjects.Heap named) (length text)))) addr
      (with_extent z (record { block = at 1; source = at 0; offset = offset; length = bytes })))
      (λ at. replies.Done)) s (λ used few s. leaves s.1
      (put_object (with_thing used (taken_at o.moves 0) (things.Source (new_source (subjects.Heap named) (length text)))) addr _
      (few_insert most used.things (taken_at o.moves 0) _ few tt) (extended z _ small)))))))
      (λ source s. in_bool source.flagged s (λ s. leaves s.1 same) (λ s. in_range offset bytes source.length s
      (λ s. charges z.account ticket (use_charge w z.account named source)
      (λ used. Takes w o extent_need
      (λ block. with_object used addr (with_extent z (record { block = block; source = named; offset = offset; length = bytes })))
      (λ block. replies.Done)) s (λ used few s.
      in_takes_one o.moves _ _ s (λ block p. leaves p.0 (put_object used addr _ few (extended z _ small))))))))
  few_row (calls.PrependHeader addr ticket text) s = adds_capsule addr ticket text with_header s (λ z block small. omega (arith, small))
  few_row (calls.AppendTrailer addr ticket text) s = adds_capsule addr ticket text with_trailer s
      (λ z block small. omega (arith, small, length-append z.trailers (record { block = block; text = text } ∷ [])))
  few_row (calls.DiscardFirstHeader addr) s = on_object addr s (λ z small s. in_option (slice_get z.headers 0) s (λ s. leaves s.1 same)
      (λ c s. leaves s.1 (put addr _ (omega (arith, small, length-drop 1 z.headers)))))
  few_row (calls.DiscardLastTrailer addr) s = on_object addr s (λ z small s. in_option (last_capsule z.trailers) s (λ s. leaves s.1 same)
      (λ c s. leaves s.1 (put addr _ (omega (arith, small, length-take (length z.trailers - 1) z.trailers)))))
  few_row (calls.Bond addr ticket) s = on_object addr s (λ z small s. charges z.account ticket (bond_charge (capsules_of z))
      (λ used. DoesWith w o (λ at. bond_moves at 0 (capsules_of z))
      (λ at. with_object (with_bonded used at 0 (capsules_of z)) addr (bonded at z)) (λ at. replies.Done)) s (λ used few s. leaves s.1
      (put_object (with_bonded used (taken_at o.moves) 0 (capsules_of z)) addr _ (few_bonded most used (taken_at o.moves) 0 (capsules_of z) few)
      (omega (arith, small, pieces-bonded (taken_at o.moves) z)))))
  few_row (calls.ClonePart addr ticket offset bytes) s = on_object addr s (λ z small s. in_range offset bytes z.part.length s
      (λ s. charges z.account ticket (λ space. object_charge space (object_of z.account (asked_extents z offset bytes)))
      (λ used. DoesWith w o (λ at. clone_moves at (asked_extents z offset bytes))
      (λ at. with_object used (at 0) (object_of z.account (placed at 1 (asked_extents z offset bytes)))) (λ at. replies.At (at 0))) s (λ used few s. leaves s.1
      (put_object used (taken_at o.moves 0) _ few (cloned z (z.part.offset + offset) (z.part.offset + offset + bytes) (taken_at o.moves) small)))))
  few_row (calls.Delimit addr offset bytes) s = on_object addr s (λ z small s. in_bool (nat_lt (extents_length z.extents) (offset + bytes)) s (λ s. leaves s.1 same)
      (λ s. leaves s.1 (put addr _ (omega (arith, small)))))
  few_row (calls.Strip addr) s = on_object addr s (λ z small s. leaves s.1
      (few_insert (most + 1) (without_things w (gone_things w (outside_part z) (outside_part z))).things addr _
      (few_without (most + 1) w (gone_things w (outside_part z) (outside_part z)) same)
      (omega (arith, small, length-cut_all z.part.offset (part_end z) z.extents))))
  few_row (calls.ZcoLength addr) s = on addr (object_at w addr) s (λ x s. leaves s.1 same)
  few_row (calls.SourceLength addr) s = on addr (object_at w addr) s (λ x s. leaves s.1 same)
  few_row (calls.Destroy addr) s = on addr (object_at w addr) s (λ z s. leaves s.1
      (few_remove (most + 1) (without_things w (gone_things w z.extents z.extents)).things addr
      (few_without (most + 1) w (gone_things w z.extents z.extents) same)))
  few_row (calls.Transmit addr place count) s = on addr (object_at w addr) s (λ z s. in_bool (nat_lt longest_read count) s (λ s. leaves s.1 same) (λ s. leaves s.1 same))
  few_row (calls.ReceiveHeaders addr place count) s = on addr (object_at w addr) s (λ z s. in_bool (nat_lt longest_read count) s (λ s. leaves s.1 same) (λ s. leaves s.1 same))
  few_row (calls.ReceiveSource addr place count) s = on addr (object_at w addr) s (λ z s. in_bool (nat_lt longest_read count) s (λ s. leaves s.1 same) (λ s. leaves s.1 same))
  few_row (calls.ReceiveTrailers addr place count) s = on addr (object_at w addr) s (λ z s. in_bool (nat_lt longest_read count) s (λ s. leaves s.1 same) (λ s. leaves s.1 same))
