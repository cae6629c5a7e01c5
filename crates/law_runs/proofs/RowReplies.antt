-- No row answers for the lock or the nesting.
use Rattle.std.proofs.Common.{◌≡◌, ◌∙◌, ◌==◌, ◌||◌, ℕ, List, [], ◌∷◌, Bool, true, false, Option, None, Some, MatchBool, MatchOption, refl, ap, length, nat_lt, nat_le, ◌+◌, ◌*◌, inl, inr}
use Rattle.std.specs.Prelude.{position, is_some, slice_get}
use Rattle.sdr_base.specs.declared.account.Acct.{Acct}
use Rattle.sdr_base.specs.declared.kind.Space.{Space}
use Rattle.sdr_base.specs.declared.moves.Move.{Move}
use Rattle.sdr_base.specs.declared.moves.Move.TheVariants.{Took}
use Rattle.sdr_base.specs.declared.refusal.Refusal.{Refusal}
use Rattle.sdr_base.specs.declared.refusal.Refusal.TheVariants as refusals
use Rattle.sdr_model.specs.AccountSteps.{pending_of}
use Rattle.sdr_model.specs.Accounts.{account_of, most_amount, pending_in, tickets_of}
use Rattle.sdr_model.specs.BondSteps.{bond_charge, bond_moves, bonded, capsules_of, with_bonded}
use Rattle.sdr_model.specs.Cuts.{placed}
use Rattle.sdr_model.specs.Charges.{bytes_charge, capsule_bytes, object_bytes, object_charge, rooms, use_charge}
use Rattle.sdr_model.specs.PartSteps.{asked_extents, clone_moves, object_of}
use Rattle.sdr_base.specs.declared.kind.Space.TheVariants as spaces
use Rattle.sdr_model.specs.Queue.{barrier}
use Rattle.sdr_model.specs.Zco.{empty_object, extents_length, object_at, owned_raw, source_at, source_naming, uses_of}
use Rattle.sdr_model.specs.declared.accounts.Pending.{Pending}
use Rattle.sdr_model.specs.Rows.{ByRow}
use Rattle.sdr_model.specs.Step.{Step, Stops, StopsWith}
use Rattle.sdr_model.specs.Steps.{DoesWith, Outcome, On, Refuses, Takes, TakesOne, with_thing}
use Rattle.sdr_model.specs.World.{World, as_raw, as_text, block_at, is_marked, misnamed, refusal_for, spot_of, thing_at}
use Rattle.sdr_model.specs.Amounts.{amounts_by, first_above, in_space, minus}
use Rattle.sdr_model.specs.Charging.{Charges, grant_left, no_space, with_covered}
use Rattle.sdr_model.specs.HashSteps as hash
use Rattle.sdr_model.specs.ListSteps as list
use Rattle.sdr_model.specs.NameSteps.{OnName}
use Rattle.sdr_model.specs.Names.{name_of}
use Rattle.sdr_model.specs.Limits.{is_no_capsule, is_no_name, is_no_path, longest_raw, longest_read, longest_source, longest_string}
use Rattle.sdr_model.specs.ObjectSteps as object
use Rattle.sdr_model.specs.ObjectSteps.{InRange, with_object}
use Rattle.sdr_model.specs.Things.{capsule_need, extent_need, object_need}
use Rattle.sdr_model.specs.declared.things.Thing.TheVariants as things
use Rattle.sdr_model.specs.declared.zco.Subject.TheVariants as subjects
use Rattle.sdr_model.specs.SourceSteps.{OnUnnamed, new_source}
use Rattle.sdr_model.specs.declared.name.Name.{Name}
use Rattle.sdr_model.specs.Hashes.{Hash}
use Rattle.sdr_model.specs.Tables.{Table}
use Rattle.sdr_model.specs.declared.zco.Capsule.{Capsule}
use Rattle.sdr_model.specs.declared.zco.ZcoObject.{ZcoObject}
use Rattle.sdr_model.specs.RawSteps as raw
use Rattle.sdr_model.specs.TableSteps as table
use Rattle.sdr_model.specs.Wire as wire
use Rattle.sdr_model.specs.declared.answer.Reply.{Reply}
use Rattle.sdr_model.specs.declared.answer.Reply.TheVariants as replies
use Rattle.sdr_model.specs.declared.call.Call.{Call}
use Rattle.sdr_model.specs.declared.call.Call.TheVariants as calls
use Rattle.sdr_model.specs.declared.things.UsedBlock.{UsedBlock}
use Rattle.law_runs.specs.Replying.{is_of_call}

-- the call answers for itself
abbrev IsFair : Outcome → Type 0
IsFair o = is_of_call o.reply ≡ true

-- one block is taken
takes_one : {R : Type 0} (moves : List Move) (need : ℕ) (P : ℕ → Type 0) → TakesOne moves need P → ((addr : ℕ) → P addr → R) → R
takes_one (Took n addr ∷ []) need P h f = f addr h.1
takes_one (Took n addr ∷ move ∷ moves) need P h f = absurd h
takes_one (move ∷ moves) need P h f = absurd h
takes_one [] need P h f = absurd h

module _ (w : World) (o : Outcome) where
  answers : (reply : Reply) → is_of_call reply ≡ true → o.reply ≡ reply → IsFair o
  answers reply is h = ap is_of_call h ∙ is

  refuses : {refusal : Refusal} → Refuses w o refusal → is_of_call (replies.Refused refusal) ≡ true → IsFair o
  refuses {refusal = refusal} h is = answers (replies.Refused refusal) is h.2

  tests : {P Q : Type 0} (b : Bool) → MatchBool b P Q → (P → IsFair o) → (Q → IsFair o) → IsFair o
  tests true h f g = f h
  tests false h f g = g h

  options : {X P : Type 0} {Q : X → Type 0} (x : Option X) → MatchOption x P Q → (P → IsFair o) → ((v : X) → Q v → IsFair o) → IsFair o
  options None h f g = f h
  options (Some v) h f g = g v h

  misnames : (addr : ℕ) → Refuses w o (misnamed w addr) → IsFair o
  misnames addr h = refuses h (by (block_at w addr))
    where
      by : (x : Option UsedBlock) → is_of_call (replies.Refused (refusal_for addr x)) ≡ true
      by None = refl
      by (Some block) = refl

  on : {X : Type 0} {goes : X → Type 0} (addr : ℕ) (x : Option X) → On w o addr x goes → ((v : X) → goes v → IsFair o) → IsFair o
  on addr x h goes = options x h (λ r. misnames addr r) goes

  takes : (need : ℕ) (after : ℕ → Type 0) (reply : ℕ → Reply) → ((addr : ℕ) → is_of_call (reply addr) ≡ true)
      → TakesOne o.moves need (λ addr. after addr × (o.reply ≡ reply addr)) → IsFair o
  takes need after reply is h = takes_one o.moves need _ h (λ addr p. answers (reply addr) (is addr) p.1)

  -- a charge is refused for the ticket, the queue or the space
  covers : (acct : Acct) (charge : Space → ℕ) (goes : World → Type 0) (p : Option Pending)
      → MatchOption (barrier (minus (amounts_by charge) (grant_left p)) (tickets_of w.accounts acct))
      (MatchOption (first_above (minus (amounts_by charge) (grant_left p)) (rooms w acct))
      (goes (with_covered w p (amounts_by charge)))
      (λ space. Refuses w o (no_space w acct (minus (amounts_by charge) (grant_left p)) space)))
      (λ t. Refuses w o (refusals.Queue t.number))
      → ((used : World) → goes used → IsFair o) → IsFair o
  covers acct charge goes p h then =
      options (barrier (minus (amounts_by charge) (grant_left p)) (tickets_of w.accounts acct)) h
      (λ r. options (first_above (minus (amounts_by charge) (grant_left p)) (rooms w acct)) r (λ g. then _ g) (λ space x. refuses x refl)) (λ t x. refuses x refl)

  charges : (acct : Acct) (number : ℕ) (charge : Space → ℕ) (goes : World → Type 0) → Charges w o acct number charge goes
      → ((used : World) → goes used → IsFair o) → IsFair o
  charges acct number charge goes h then =
      tests (number == 0) h (λ r. covers acct charge goes None r then)
      (λ q. options (pending_in w.accounts acct number) q (λ r. refuses r refl)
      (λ p r. tests p.ticket.granted r (λ x. covers acct charge goes (Some p) x then) (λ x. refuses x refl)))

  on_name : (name : List ℕ) (missing : Type 0) (found : Name → Type 0) → OnName w o name missing found
      → (missing → IsFair o) → ((n : Name) → found n → IsFair o) → IsFair o
  on_name name missing found h f g = tests (is_no_name (length name)) h (λ r. refuses r refl) (λ r. options (name_of w.names name) r f g)

  on_hash : (addr : ℕ) (key : List ℕ) (goes : Hash → Type 0) → hash.OnHash w o addr key goes → ((h : Hash) → goes h → IsFair o) → IsFair o
  on_hash addr key goes h then = on addr (hash.as_hash (thing_at w addr)) h (λ x r. tests (length key == x.key_length) r (λ g. then x g) (λ f. refuses f refl))

  on_key : (addr : ℕ) (key : List ℕ) (goes : Hash → ℕ → Type 0) → hash.OnKey w o addr key goes → ((h : Hash) (place : ℕ) → goes h place → IsFair o) → IsFair o
  on_key addr key goes h then = on_hash addr key _ h (λ x r. options (position (hash.has_key key) x.entries) r (λ f. refuses f refl) (λ place g. then x place g))

  on_row : (addr row : ℕ) (goes : Table → Type 0) → table.OnRow w o addr row goes → ((t : Table) → goes t → IsFair o) → IsFair o
  on_row addr row goes h then = on addr (table.as_table (thing_at w addr)) h (λ t r. tests (nat_le t.rows row) r (λ f. refuses f refl) (λ g. then t g))

  in_range : (offset bytes have : ℕ) (goes : Type 0) → InRange w o offset bytes have goes → (goes → IsFair o) → IsFair o
  in_range offset bytes have goes h then = tests (bytes == 0 || nat_lt have (offset + bytes)) h (λ f. refuses f refl) then

  unnamed : (raw : ℕ) (goes : Type 0) → OnUnnamed w o raw goes → (goes → IsFair o) → IsFair o
  unnamed raw goes h then = options (source_naming w raw) h then (λ source f. refuses f refl)

  capsule : (addr number : ℕ) (text : List ℕ) (with_capsule : ZcoObject → Capsule → ZcoObject) → object.AddsCapsule w o addr number text with_capsule → IsFair o
  capsule addr number text with_capsule h =
      on addr (object_at w addr) h (λ z r. tests (is_no_capsule (length text)) r (λ f. refuses f refl)
      (λ c. charges z.account number (in_space spaces.Heap (capsule_bytes (length text)))
      (λ used. Takes w o (capsule_need (length text)) (λ block. with_object used addr (with_capsule z (record { block = block; text = text }))) (λ block. replies.Done))
      c (λ used t. takes _ _ _ (λ _. refl) t)))

  gives : (addr count : ℕ) (of : ZcoObject → wire.ToldBytes) → wire.GivesOf w o addr count of → IsFair o
  gives addr count of h = on addr (object_at w addr) h (λ z r. tests (nat_lt longest_read count) r (λ f. refuses f refl) (λ g. answers _ refl g.3))

  frees : (addr : ℕ) (bytes text : Option (List ℕ)) → raw.FreesThing w o addr bytes text → IsFair o
  frees addr None None h = misnames addr h
  frees addr (Some bytes) text h = unnamed addr _ h (λ d. answers _ refl d.2)
  frees addr None (Some text) h = answers _ refl h.2

  discards : (addr : ℕ) (z : ZcoObject) (c : Option Capsule) (after : ZcoObject) → object.Discards w o addr z c after → IsFair o
  discards addr z c after h = options c h (λ f. refuses f refl) (λ x d. answers _ refl d.2)

  pub row_fair : (call : Call) → ByRow w o call → IsFair o
  row_fair (calls.Malloc bytes) h = tests (nat_lt longest_raw bytes) h (λ f. refuses f refl) (λ h. takes _ _ _ (λ _. refl) h)
  row_fair (calls.Free addr) h = frees addr (as_raw (thing_at w addr)) (as_text (thing_at w addr)) h
  row_fair (calls.Length addr) h = on addr (block_at w addr) h (λ r d. answers _ refl d.2)
  row_fair (calls.Read addr place count) h = on addr (as_raw (thing_at w addr)) h (λ r h. tests (nat_lt longest_read count) h (λ f. refuses f refl) (λ h. tests (nat_lt (length r) (place + count)) h (λ f. refuses f refl) (λ h. answers _ refl h.2)))
  row_fair (calls.Write addr place bytes) h = on addr (as_raw (thing_at w addr)) h (λ r h. tests (nat_lt (length r) (place + length bytes)) h (λ f. refuses f refl) (λ h. tests (is_marked w addr) h (λ h. answers _ refl h.2) (λ h. refuses h refl)))
  row_fair (calls.Stage addr count) h = on addr (as_raw (thing_at w addr)) h (λ r h. tests (nat_lt longest_read count) h (λ f. refuses f refl) (λ h. tests (nat_lt (length r) count) h (λ f. refuses f refl) (λ h. answers _ refl h.2)))
  row_fair (calls.String text) h = tests (nat_lt longest_string (length text)) h (λ f. refuses f refl) (λ h. takes _ _ _ (λ _. refl) h)
  row_fair (calls.StringLength addr) h = on addr (as_text (thing_at w addr)) h (λ r d. answers _ refl d.2)
  row_fair (calls.StringRead addr) h = on addr (as_text (thing_at w addr)) h (λ r d. answers _ refl d.2)
  row_fair (calls.StringDup addr) h = on addr (as_text (thing_at w addr)) h (λ r t. takes _ _ _ (λ _. refl) t)
  row_fair (calls.List user) h = takes _ _ _ (λ _. refl) h
  row_fair (calls.ListDestroy addr) h = on addr (list.as_list (thing_at w addr)) h (λ r d. answers _ refl d.2)
  row_fair (calls.ListLength addr) h = on addr (list.as_list (thing_at w addr)) h (λ r d. answers _ refl d.2)
  row_fair (calls.ListUser addr) h = on addr (list.as_list (thing_at w addr)) h (λ r d. answers _ refl d.2)
  row_fair (calls.SetListUser addr user) h = on addr (list.as_list (thing_at w addr)) h (λ r d. answers _ refl d.2)
  row_fair (calls.InsertFirst addr datum) h = on addr (list.as_list (thing_at w addr)) h (λ r t. takes _ _ _ (λ _. refl) t)
  row_fair (calls.InsertLast addr datum) h = on addr (list.as_list (thing_at w addr)) h (λ r t. takes _ _ _ (λ _. refl) t)
  row_fair (calls.InsertBefore element datum) h = on element (spot_of w element) h (λ r t. takes _ _ _ (λ _. refl) t)
  row_fair (calls.InsertAfter element datum) h = on element (spot_of w element) h (λ r t. takes _ _ _ (λ _. refl) t)
  row_fair (calls.InsertOrdered addr datum by) h = on addr (list.as_list (thing_at w addr)) h (λ r t. takes _ _ _ (λ _. refl) t)
  row_fair (calls.Search addr datum by) h = on addr (list.as_list (thing_at w addr)) h (λ r d. answers _ refl d.2)
  row_fair (calls.Delete element) h = on element (spot_of w element) h (λ r d. answers _ refl d.2)
  row_fair (calls.First addr) h = on addr (list.as_list (thing_at w addr)) h (λ r d. answers _ refl d.2)
  row_fair (calls.Last addr) h = on addr (list.as_list (thing_at w addr)) h (λ r d. answers _ refl d.2)
  row_fair (calls.Next element) h = on element (spot_of w element) h (λ r d. answers _ refl d.2)
  row_fair (calls.Prev element) h = on element (spot_of w element) h (λ r d. answers _ refl d.2)
  row_fair (calls.Datum element) h = on element (spot_of w element) h (λ r d. answers _ refl d.2)
  row_fair (calls.SetDatum element datum) h = on element (spot_of w element) h (λ r d. answers _ refl d.2)
  row_fair (calls.Table rows size user) h = tests (nat_lt longest_raw rows) h (λ f. refuses f refl) (λ h. tests (nat_lt longest_raw size) h (λ f. refuses f refl) (λ h. tests (nat_lt longest_raw (rows * size)) h (λ f. refuses f refl) (λ h. takes _ _ _ (λ _. refl) h)))
  row_fair (calls.Row addr row) h = on_row addr row _ h (λ t h. tests (nat_lt longest_read t.size) h (λ f. refuses f refl) (λ h. answers _ refl h.2))
  row_fair (calls.SetRow addr row bytes) h = on_row addr row _ h (λ t h. tests (length bytes == t.size) h (λ h. answers _ refl h.2) (λ h. refuses h refl))
  row_fair (calls.Dimensions addr) h = on addr (table.as_table (thing_at w addr)) h (λ r d. answers _ refl d.2)
  row_fair (calls.TableUser addr) h = on addr (table.as_table (thing_at w addr)) h (λ r d. answers _ refl d.2)
  row_fair (calls.TableDestroy addr) h = on addr (table.as_table (thing_at w addr)) h (λ r d. answers _ refl d.2)
  row_fair (calls.Hash key_length buckets) h = tests (hash.is_no_key_length key_length) h (λ f. refuses f refl) (λ h. tests (hash.is_no_count buckets) h (λ f. refuses f refl) (λ h. takes _ _ _ (λ _. refl) h))
  row_fair (calls.HashInsert addr key value) h = on_hash addr key _ h (λ x h. options (position (hash.has_key key) x.entries) h (λ h. takes _ _ _ (λ _. refl) h) (λ place h. refuses h refl))
  row_fair (calls.HashRetrieve addr key) h = on_key addr key _ h (λ x place d. answers _ refl d.2)
  row_fair (calls.HashRevise addr key value) h = on_key addr key _ h (λ x place d. answers _ refl d.2)
  row_fair (calls.HashRemove addr key) h = on_key addr key _ h (λ x place d. answers _ refl d.2)
  row_fair (calls.HashCount addr) h = on addr (hash.as_hash (thing_at w addr)) h (λ r d. answers _ refl d.2)
  row_fair (calls.HashDestroy addr) h = on addr (hash.as_hash (thing_at w addr)) h (λ r d. answers _ refl d.2)
  row_fair (calls.Catlg name kind object) h = on_name name _ _ h (λ h. takes _ _ _ (λ _. refl) h) (λ n f. refuses f refl)
  row_fair (calls.Find name) h = on_name name _ _ h (λ f. refuses f refl) (λ n d. answers _ refl d.2)
  row_fair (calls.Uncatlg name) h = on_name name _ _ h (λ f. refuses f refl) (λ n d. answers _ refl d.2)
  row_fair (calls.Entry place) h = options (slice_get w.names place) h (λ f. refuses f refl) (λ n d. answers _ refl d.2)
  row_fair (calls.FileRef path bytes) h = tests (is_no_path (length path)) h (λ f. refuses f refl) (λ h. tests (nat_lt longest_source bytes) h (λ f. refuses f refl) (λ h. takes _ _ _ (λ _. refl) h))
  row_fair (calls.BulkRef item bytes) h = tests (nat_lt longest_source bytes) h (λ f. refuses f refl) (λ h. takes _ _ _ (λ _. refl) h)
  row_fair (calls.ObjRef raw) h = on raw (as_raw (thing_at w raw)) h (λ b h. unnamed raw _ h (λ h. takes _ _ _ (λ _. refl) h))
  row_fair (calls.DestroyRef addr) h = on addr (source_at w addr) h (λ r h. tests (is_some (owned_raw r)) h (λ f. refuses f refl) (λ h. tests (r.flagged) h (λ f. refuses f refl) (λ h. tests (uses_of w addr == 0) h (λ h. answers _ refl h.2) (λ h. answers _ refl h.2))))
  row_fair (calls.Count addr) h = on addr (source_at w addr) h (λ r d. answers _ refl d.2)
  row_fair (calls.Occupancy acct space) h = answers _ refl h.2
  row_fair (calls.Maximum acct space) h = answers _ refl h.2
  row_fair (calls.SetMaximum acct space value) h = tests (nat_lt most_amount value) h (λ f. refuses f refl) (λ h. answers _ refl h.2)
  row_fair (calls.Create acct ticket) h = charges acct ticket (in_space spaces.Heap object_bytes)
      (λ used. Takes w o object_need (λ addr. with_object used addr (empty_object acct)) (λ addr. replies.At addr)) h (λ used h. takes _ _ _ (λ _. refl) h)
  row_fair (calls.AppendExtent addr ticket named offset bytes) h =
      on addr (object_at w addr) h (λ z r. options (source_at w named) r
      (λ q. on named (as_raw (thing_at w named)) q (λ text p. unnamed named _ p (λ s. in_range offset bytes (length text) _ s
      (λ c. charges z.account ticket (bytes_charge spaces.Heap (length text))
      (λ used. DoesWith w o object.raw_append_moves
      (λ at. with_object (with_thing used (at 0) (things.Source (new_source (subjects.Heap named) (length text)))) addr
      (object.with_extent z (record { block = at 1; source = at 0; offset = offset; length = bytes })))
      (λ at. replies.Done)) c (λ used h. answers _ refl h.2)))))
      (λ s q. tests s.flagged q (λ f. refuses f refl) (λ p. in_range offset bytes s.length _ p
      (λ c. charges z.account ticket (use_charge w z.account named s)
      (λ used. Takes w o extent_need
      (λ block. with_object used addr (object.with_extent z (record { block = block; source = named; offset = offset; length = bytes })))
      (λ block. replies.Done)) c (λ used h. takes _ _ _ (λ _. refl) h)))))
  row_fair (calls.PrependHeader addr ticket text) h = capsule addr ticket text object.with_header h
  row_fair (calls.AppendTrailer addr ticket text) h = capsule addr ticket text object.with_trailer h
  row_fair (calls.DiscardFirstHeader addr) h = on addr (object_at w addr) h (λ r h. discards addr r (slice_get r.headers 0) _ h)
  row_fair (calls.DiscardLastTrailer addr) h = on addr (object_at w addr) h (λ r h. discards addr r (object.last_capsule r.trailers) _ h)
  row_fair (calls.Bond addr ticket) h = on addr (object_at w addr) h (λ r h. charges r.account ticket (bond_charge (capsules_of r))
      (λ used. DoesWith w o (λ at. bond_moves at 0 (capsules_of r)) (λ at. with_object (with_bonded used at 0 (capsules_of r)) addr (bonded at r)) (λ at. replies.Done)) h (λ used h. answers _ refl h.2))
  row_fair (calls.ClonePart addr ticket offset bytes) h = on addr (object_at w addr) h (λ r h. in_range offset bytes r.part.length _ h (λ h. charges r.account ticket (λ space. object_charge space (object_of r.account (asked_extents r offset bytes)))
      (λ used. DoesWith w o (λ at. clone_moves at (asked_extents r offset bytes))
      (λ at. with_object used (at 0) (object_of r.account (placed at 1 (asked_extents r offset bytes)))) (λ at. replies.At (at 0))) h (λ used h. answers _ refl h.2)))
  row_fair (calls.Delimit addr offset bytes) h = on addr (object_at w addr) h (λ r h. tests (nat_lt (extents_length r.extents) (offset + bytes)) h (λ f. refuses f refl) (λ h. answers _ refl h.2))
  row_fair (calls.Strip addr) h = on addr (object_at w addr) h (λ r d. answers _ refl d.2)
  row_fair (calls.ZcoLength addr) h = on addr (object_at w addr) h (λ r d. answers _ refl d.2)
  row_fair (calls.SourceLength addr) h = on addr (object_at w addr) h (λ r d. answers _ refl d.2)
  row_fair (calls.Destroy addr) h = on addr (object_at w addr) h (λ r d. answers _ refl d.2)
  row_fair (calls.Transmit addr place count) h = gives addr count (wire.wire_part w place count) h
  row_fair (calls.ReceiveHeaders addr place count) h = gives addr count (wire.headers_part w place count) h
  row_fair (calls.ReceiveSource addr place count) h = gives addr count (wire.source_part w place count) h
  row_fair (calls.ReceiveTrailers addr place count) h = gives addr count (wire.trailers_part w place count) h
  row_fair (calls.Request acct file bulk heap coarse fine) h = options (first_above (record { file = file; bulk = bulk; heap = heap }) (account_of w.accounts acct).maxima) h (λ h. tests (w.accounts.next == most_amount) h (λ f. refuses f refl) (λ h. takes _ _ _ (λ _. refl) h)) (λ space f. refuses f refl)
  row_fair (calls.Awarded ticket) h = options (pending_of w ticket) h (λ f. refuses f refl) (λ p h. tests (p.ticket.granted) h (λ h. answers _ refl h.2) (λ h. refuses h refl))
  row_fair (calls.Shred ticket) h = options (pending_of w ticket) h (λ f. refuses f refl) (λ p d. answers _ refl d.2)

-- no stop on the way does
stop_fair : (reply : Reply) (call : Call) (all moves : List Move) → StopsWith reply call all moves → is_of_call reply ≡ true
stop_fair (replies.Refused (refusals.NoBlock need)) call all moves s = refl
stop_fair (replies.Refused (refusals.LogFull lines room)) call all moves s = refl
stop_fair (replies.Refused (refusals.SourceShort have want)) call all moves s = refl
stop_fair (replies.Refused refusal) call all moves s = absurd s
stop_fair replies.MediaFault call all moves s = refl
stop_fair reply call all moves s = absurd s

pub stops_fair : (w : World) (o : Outcome) (call : Call) → Stops w o call → is_of_call o.reply ≡ true
stops_fair w o call stops = stop_fair o.reply call stops.aim.moves o.moves stops.stopped

-- a step answers for itself
pub step_fair : (w w' : World) (call : Call) (moves : List Move) (reply : Reply) → Step w call moves w' reply → is_of_call reply ≡ true
step_fair w w' call moves reply (inl row) = row_fair w (record { moves = moves; after = w'; reply = reply }) call row
step_fair w w' call moves reply (inr stops) = stops_fair w (record { moves = moves; after = w'; reply = reply }) call stops
