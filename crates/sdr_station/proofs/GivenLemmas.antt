-- The bytes that the row of a call gives.
use Rattle.std.proofs.Common.{◌≡◌, ◌∙◌, ◌≤◌, ◌+◌, ◌*◌, ◌==◌, ◌++◌, ◌∷◌, ℕ, List, [], Bool, false, Option, None, Some, MatchBool, length, take, drop, max, min, nat_lt, nat_le, position, refl, sym, ap, subst, arith}
use Rattle.std.specs.Prelude.{◌||◌, IfSome, get_or, is_some, slice_get}
use Rattle.std.proofs.lemmas.Bool.{ltb-false}
use Rattle.std.proofs.lemmas.Bool.Decides.{nat_tests}
use Rattle.std.proofs.lemmas.List.{length-take, length-take-le}
use Rattle.std.proofs.lemmas.Option.{get_or_from_slice_get, slice_get-map, slice_get_within}
use Rattle.std.specs.Option.{option_map}
use Rattle.sdr_base.proofs.PartsLemmas.{length-part}
use Rattle.sdr_base.specs.Parts.{part}
use Rattle.sdr_base.specs.Kinds.{kind_number}
use Rattle.sdr_base.specs.declared.kind.Kind.TheVariants as kinds
use Rattle.sdr_base.specs.declared.kind.Space.{Space}
use Rattle.sdr_base.specs.declared.kind.Space.TheVariants as spaces
use Rattle.sdr_base.specs.declared.moves.Move.{Move}
use Rattle.sdr_base.specs.declared.refusal.Refusal.{Refusal}
use Rattle.sdr_base.specs.declared.refusal.Refusal.TheVariants as refusals
use Rattle.sdr_machine.proofs.StepLemmas.{from_option, from_test}
use Rattle.sdr_machine.specs.Transaction.{bytes_given}
use Rattle.sdr_model.proofs.FewLemmas.{in_takes_one}
use Rattle.sdr_model.proofs.PiecesLemmas.{length-spelled}
use Rattle.sdr_model.proofs.TableLemmas.{row-within}
use Rattle.sdr_base.specs.declared.account.Acct.{Acct}
use Rattle.sdr_base.specs.declared.account.Amounts.{Amounts}
use Rattle.sdr_model.specs.AccountSteps.{pending_of}
use Rattle.sdr_model.specs.Accounts.{account_of, most_amount, pending_in, tickets_of}
use Rattle.sdr_model.specs.Amounts.{amount, amounts_by, first_above, in_space, minus}
use Rattle.sdr_model.specs.BondSteps.{bond_charge, bond_moves, bonded, capsules_of, with_bonded}
use Rattle.sdr_model.specs.Charges.{bytes_charge, capsule_bytes, object_bytes, object_charge, rooms, use_charge}
use Rattle.sdr_model.specs.Charging.{Charges, grant_left, no_space, with_covered}
use Rattle.sdr_model.specs.Cuts.{placed}
use Rattle.sdr_model.specs.HashSteps.{OnHash, OnKey, as_hash, has_key, is_no_count, is_no_key_length, value_at}
use Rattle.sdr_model.specs.Hashes.{Hash}
use Rattle.sdr_model.specs.Limits.{is_no_capsule, is_no_name, is_no_path, longest_capsule, longest_key, longest_name, longest_path, longest_raw, longest_read, longest_source, longest_string, most_buckets}
use Rattle.sdr_model.specs.ListSteps.{as_list}
use Rattle.sdr_model.specs.NameSteps.{OnName}
use Rattle.sdr_model.specs.Names.{name_of}
use Rattle.sdr_model.specs.ObjectSteps.{AddsCapsule, last_capsule, raw_append_moves, with_extent, with_header, with_object, with_trailer}
use Rattle.sdr_model.specs.PartSteps.{asked_extents, clone_moves, object_of, part_end}
use Rattle.sdr_model.specs.Queue.{barrier}
use Rattle.sdr_model.specs.RawSteps.{FreesThing}
use Rattle.sdr_model.specs.Rows.{ByRow}
use Rattle.sdr_model.specs.Steps.{DoesWith, On, Outcome, ReadsBytes, RefusedFor, Refuses, Takes, taken_at, with_thing}
use Rattle.sdr_model.specs.TableSteps.{as_table}
use Rattle.sdr_model.specs.Tables.{Table}
use Rattle.sdr_model.specs.Valid.{IsBetween, IsValidTable, IsValidThing, names_of}
use Rattle.sdr_model.specs.Whole.{IsWhole}
use Rattle.sdr_model.specs.Wire.{GivesOf, ToldBytes, extents_told, headers_part, some_of, source_part, trailers_part, wire_part, wire_told}
use Rattle.sdr_model.specs.World.{World, as_raw, as_text, block_at, is_marked, misnamed, spot_of, thing_at}
use Rattle.sdr_model.specs.SourceSteps.{OnUnnamed, new_source}
use Rattle.sdr_model.specs.Things.{capsule_need, extent_need, object_need}
use Rattle.sdr_model.specs.Zco.{empty_object, extents_length, object_at, owned_raw, source_at, source_naming, uses_of}
use Rattle.sdr_model.specs.declared.accounts.Pending.{Pending}
use Rattle.sdr_model.specs.declared.answer.Answer.TheVariants as answers
use Rattle.sdr_model.specs.declared.answer.Reply.{Reply}
use Rattle.sdr_model.specs.declared.answer.Reply.TheVariants as replies
use Rattle.sdr_model.specs.declared.call.Call.{Call}
use Rattle.sdr_model.specs.declared.call.Call.TheVariants as calls
use Rattle.sdr_model.specs.declared.name.Name.{Name}
use Rattle.sdr_model.specs.declared.things.Thing.{Thing}
use Rattle.sdr_model.specs.declared.things.Thing.TheVariants as things
use Rattle.sdr_model.specs.declared.zco.Capsule.{Capsule}
use Rattle.sdr_model.specs.declared.zco.Subject.TheVariants as subjects
use Rattle.sdr_model.specs.declared.zco.ZcoObject.{ZcoObject}
use Rattle.sdr_station.specs.Giving.{bytes_told}

-- an outcome is refused, or gives no bytes, or gives as many as it tells, up to a count
pub data Given (o : Outcome) (most : ℕ) : Type 0 where
  refuses : (refusal : Refusal) → o.reply ≡ replies.Refused refusal → Given o most
  none : o.after.shown ≡ [] → bytes_told o.reply ≡ None → Given o most
  gives : (count : ℕ) → bytes_told o.reply ≡ Some count → length o.after.shown ≡ count → count ≤ most → Given o most

-- no more bytes are given than are shown
shown_few : (o : Outcome) (most : ℕ) → length o.after.shown ≤ most
    → length (bytes_given (answers.Reply o.reply) o.after.shown) ≤ most
shown_few o most few = by o.reply
  where
    by : (reply : Reply) → length (bytes_given (answers.Reply reply) o.after.shown) ≤ most
    by (replies.Refused refusal) = omega arith
    by replies.MediaFault = omega arith
    by reply = few

-- so such an outcome gives so many at most
pub given_few : (o : Outcome) (most : ℕ) → Given o most → length (bytes_given (answers.Reply o.reply) o.after.shown) ≤ most
given_few o most (Given.refuses refusal is) =
    subst (λ r. length (bytes_given (answers.Reply r) o.after.shown) ≤ most) (sym is) (omega arith)
given_few o most (Given.none shown untold) =
    shown_few o most (let none = ap (λ (l : List ℕ). length l) shown in omega (arith, none))
given_few o most (Given.gives count is long few) = shown_few o most (omega (arith, long, few))

-- and where it tells of bytes, it gives as many
pub given_told : (o : Outcome) (most count : ℕ) → Given o most → bytes_told o.reply ≡ Some count → length o.after.shown ≡ count
given_told o most count (Given.refuses refusal is) told =
    absurd (let no : None ≡ Some count = sym (ap bytes_told is) ∙ told in cc)
given_told o most count (Given.none shown untold) told = absurd (let no : None ≡ Some count = sym untold ∙ told in cc)
given_told o most count (Given.gives n is long few) told =
    let same : Some n ≡ Some count = sym is ∙ told in
    let n_is : n ≡ count = cc in
    long ∙ n_is

-- so many bytes the row of a call gives at most
abbrev pub most_given : Call → ℕ
most_given (calls.Read addr place count) = min count 4096
most_given (calls.Stage addr count) = min count 4096
most_given (calls.StringRead addr) = longest_string
most_given (calls.Row table row) = 4096
most_given (calls.Entry place) = longest_name
most_given (calls.Transmit addr place count) = min count 4096
most_given (calls.ReceiveHeaders addr place count) = min count 4096
most_given (calls.ReceiveSource addr place count) = min count 4096
most_given (calls.ReceiveTrailers addr place count) = min count 4096
most_given call = 0

-- so many bytes are no more than are asked
some_few : (place count : ℕ) (told : ToldBytes) → length (some_of place count told) ≤ count
some_few place count told = let few = length-take count (drop place told) in omega (arith, few)

-- the texts of a whole world are short
text_short : (w : World) (addr : ℕ) (text : List ℕ) → IsWhole w → as_text (thing_at w addr) ≡ Some text
    → length text ≤ longest_string
text_short w addr text whole is = by (thing_at w addr) refl is
  where
    by : (found : Option Thing) → thing_at w addr ≡ found → as_text found ≡ Some text → length text ≤ longest_string
    by (Some (things.Text found)) there is =
        let valid : length found ≤ longest_string =
        subst (λ (o : Option Thing). IfSome o IsValidThing) there (whole.valid.things addr) in
        let same : found ≡ text = cc in
        subst (λ (t : List ℕ). length t ≤ longest_string) same valid
    by found there is = absurd (let no : None ≡ Some text = is in cc)

-- and its tables have just their rows
table_valid : (w : World) (addr : ℕ) (table : Table) → IsWhole w → as_table (thing_at w addr) ≡ Some table → IsValidTable table
table_valid w addr table whole is = by (thing_at w addr) refl is
  where
    by : (found : Option Thing) → thing_at w addr ≡ found → as_table found ≡ Some table → IsValidTable table
    by (Some (things.Table found)) there is =
        let valid : IsValidTable found = subst (λ (o : Option Thing). IfSome o IsValidThing) there (whole.valid.things addr) in
        let same : found ≡ table = cc in
        subst (λ (t : Table). IsValidTable t) same valid
    by found there is = absurd (let no : None ≡ Some table = is in cc)

-- and its names are short
name_short : (w : World) (place : ℕ) (name : Name) → IsWhole w → slice_get w.names place ≡ Some name
    → length name.name ≤ longest_name
name_short w place name whole is =
    let names = names_of w in
    let here : slice_get names place ≡ Some name.name =
    slice_get-map (λ (n : Name). n.name) w.names place ∙ ap (λ (o : Option Name). option_map (λ (n : Name). n.name) o) is in
    let few : IsBetween 1 longest_name (length (get_or names place [])) =
    whole.valid.names place [] (slice_get_within names place name.name here) in
    let same = get_or_from_slice_get names place name.name [] here in
    subst (λ (l : List ℕ). length l ≤ longest_name) same few.1

-- what the row of a call gives
module _ (w : World) (o : Outcome) where
  refused : {most : ℕ} (refusal : Refusal) → Refuses w o refusal → Given o most
  refused refusal h = Given.refuses refusal h.2

  shows_none : {most : ℕ} {next : World} {reply : Reply} → o.after ≡ next → o.reply ≡ reply → next.shown ≡ []
      → bytes_told reply ≡ None → Given o most
  shows_none after is shown untold = Given.none (ap (λ (x : World). x.shown) after ∙ shown) (ap bytes_told is ∙ untold)

  shows : {most : ℕ} {reply : Reply} (v : World) (bytes : List ℕ) (n : ℕ) → bytes_told reply ≡ Some n → length bytes ≡ n
      → n ≤ most → ReadsBytes v o bytes reply → Given o most
  shows v bytes n told long few h = Given.gives n (ap bytes_told h.2 ∙ told) (ap (λ (x : World). length x.shown) h.1 ∙ long) few

  on : {X : Type 0} {goes : X → Type 0} {most : ℕ} (addr : ℕ) (named : Option X) → On w o addr named goes
      → ((x : X) → named ≡ Some x → goes x → Given o most) → Given o most
  on addr named h f = from_option named h (λ _ h. refused (misnamed w addr) h) f

  unless : {P : Type 0} {most : ℕ} (b : Bool) (refusal : Refusal) → MatchBool b (Refuses w o refusal) P
      → (b ≡ false → P → Given o most) → Given o most
  unless b refusal h f = from_test b h (λ _ h. refused refusal h) f

  where_so : {P : Type 0} {most : ℕ} (b : Bool) (refusal : Refusal) → MatchBool b P (Refuses w o refusal) → (P → Given o most)
      → Given o most
  where_so b refusal h f = from_test b h (λ _ p. f p) (λ _ h. refused refusal h)

  on_unnamed : {P : Type 0} {most : ℕ} (raw : ℕ) → OnUnnamed w o raw P → (P → Given o most) → Given o most
  on_unnamed raw h f =
      from_option (source_naming w raw) h (λ _ h. f h) (λ source _ h. refused (refusals.InUse raw (uses_of w source)) h)

  -- a charge that is allowed gives what goes on gives
  charged : {most : ℕ} (acct : Acct) (number : ℕ) (charge : Space → ℕ) (goes : World → Type 0) → Charges w o acct number charge goes
      → ((used : World) → goes used → Given o most) → Given o most
  charged {most} acct number charge goes h f =
      from_test (number == 0) h (λ _ h. on_used None h) (λ _ h.
      from_option (pending_in w.accounts acct number) h (λ _ h. refused (refusals.BadTicket number) h) (λ p _ h.
      where_so p.ticket.granted (refusals.NotAwarded number) h (λ h. on_used (Some p) h)))
    where
      on_used : (p : Option Pending)
          → RefusedFor w o (barrier (minus (amounts_by charge) (grant_left p)) (tickets_of w.accounts acct)) (λ t. refusals.Queue t.number)
          (RefusedFor w o (first_above (minus (amounts_by charge) (grant_left p)) (rooms w acct))
          (no_space w acct (minus (amounts_by charge) (grant_left p))) (goes (with_covered w p (amounts_by charge))))
          → Given o most
      on_used p h =
          let uncovered = minus (amounts_by charge) (grant_left p) in
          from_option (barrier uncovered (tickets_of w.accounts acct)) h (λ _ h.
          from_option (first_above uncovered (rooms w acct)) h (λ _ h. f (with_covered w p (amounts_by charge)) h)
          (λ space _ h. refused (no_space w acct uncovered space) h))
          (λ t _ h. refused (refusals.Queue t.number) h)

  -- so do blocks that are taken
  takes : {most : ℕ} (need : ℕ) (next : ℕ → World) (reply : ℕ → Reply) → Takes w o need next reply
      → ((addr : ℕ) → bytes_told (reply addr) ≡ None) → Given o most
  takes need next reply h untold = in_takes_one o.moves _ _ h (λ addr p. shows_none p.0 p.1 refl (untold addr))

  does : {most : ℕ} (moves : (ℕ → ℕ) → List Move) (next : (ℕ → ℕ) → World) (reply : (ℕ → ℕ) → Reply) → DoesWith w o moves next reply
      → bytes_told (reply (taken_at o.moves)) ≡ None → Given o most
  does moves next reply h untold = shows_none h.1 h.2 refl untold

  capsule : {most : ℕ} (addr number : ℕ) (text : List ℕ) (with_capsule : ZcoObject → Capsule → ZcoObject)
      → AddsCapsule w o addr number text with_capsule → Given o most
  capsule addr number text with_capsule h = on addr (object_at w addr) h (λ z _ h.
      unless (is_no_capsule (length text)) (refusals.BadLength (length text) longest_capsule) h (λ _ h.
      charged z.account number (in_space spaces.Heap (capsule_bytes (length text))) _ h (λ used h.
      takes (capsule_need (length text)) (λ block. with_object used addr (with_capsule z (record { block = block; text = text })))
      (λ block. replies.Done) h (λ block. refl))))

  frees : (addr : ℕ) (raw text : Option (List ℕ)) → FreesThing w o addr raw text → Given o 0
  frees addr None None h = refused (misnamed w addr) h
  frees addr (Some bytes) text h = on_unnamed addr h (λ h. shows_none h.1 h.2 refl refl)
  frees addr None (Some text) h = shows_none h.1 h.2 refl refl

  on_name : {P : Type 0} {Q : Name → Type 0} {most : ℕ} (name : List ℕ) → OnName w o name P Q → (P → Given o most)
      → ((n : Name) → Q n → Given o most) → Given o most
  on_name name h missing found =
      unless (is_no_name (length name)) (refusals.BadLength (length name) longest_name) h (λ _ h.
      from_option (name_of w.names name) h (λ _ p. missing p) (λ n _ q. found n q))

  on_hash : {P : Hash → Type 0} {most : ℕ} (addr : ℕ) (key : List ℕ) → OnHash w o addr key P
      → ((hash : Hash) → P hash → Given o most) → Given o most
  on_hash addr key h f = on addr (as_hash (thing_at w addr)) h (λ hash _ h.
      where_so (length key == hash.key_length) (refusals.BadKeyLength (length key) hash.key_length) h (f hash))

  on_key : {P : Hash → ℕ → Type 0} {most : ℕ} (addr : ℕ) (key : List ℕ) → OnKey w o addr key P
      → ((hash : Hash) (place : ℕ) → P hash place → Given o most) → Given o most
  on_key addr key h f = on_hash addr key h (λ hash h.
      from_option (position (has_key key) hash.entries) h (λ _ h. refused refusals.NotFound h) (λ place _ h. f hash place h))

  few_read : (count : ℕ) → nat_lt longest_read count ≡ false → count ≤ min count 4096
  few_read count page = grind (arith, nat_tests)

  -- a read of an object gives what it asks, of at most a page
  gives_part : (addr count : ℕ) (of : ZcoObject → ToldBytes) → ((z : ZcoObject) → length (of z) ≤ count) → GivesOf w o addr count of
      → Given o (min count 4096)
  gives_part addr count of few h = on addr (object_at w addr) h (λ z _ h.
      unless (nat_lt longest_read count) (refusals.BadLength count longest_read) h (λ page h.
      Given.gives (length (of z)) (ap bytes_told h.3) (length-spelled (of z) o.after.shown h.2)
      (let most = few z in let here = few_read count page in omega (arith, most, here))))

  pub given_row : (call : Call) → IsWhole w → ByRow w o call → Given o (most_given call)
  given_row (calls.Malloc bytes) whole h =
      unless (nat_lt longest_raw bytes) (refusals.BadLength bytes longest_raw) h
      (λ _ h. in_takes_one o.moves _ _ h (λ addr p. shows_none p.0 p.1 refl refl))
  given_row (calls.Free addr) whole h = frees addr (as_raw (thing_at w addr)) (as_text (thing_at w addr)) h
  given_row (calls.Length addr) whole h = on addr (block_at w addr) h (λ b _ h. shows_none h.1 h.2 refl refl)
  given_row (calls.Read addr place count) whole h = on addr (as_raw (thing_at w addr)) h (λ bytes _ h.
      unless (nat_lt longest_read count) (refusals.BadLength count longest_read) h (λ page h.
      unless (nat_lt (length bytes) (place + count)) (refusals.OutOfBounds addr place count) h (λ inside h.
      shows w (part place count bytes) count refl (length-part place count bytes (ltb-false _ _ inside))
      (few_read count page) h)))
  given_row (calls.Write addr place from) whole h = on addr (as_raw (thing_at w addr)) h (λ bytes _ h.
      unless (nat_lt (length bytes) (place + length from)) (refusals.OutOfBounds addr place (length from)) h (λ _ h.
      where_so (is_marked w addr) (refusals.NotStaged addr) h (λ h. shows_none h.1 h.2 refl refl)))
  given_row (calls.Stage addr count) whole h = on addr (as_raw (thing_at w addr)) h (λ bytes _ h.
      unless (nat_lt longest_read count) (refusals.BadLength count longest_read) h (λ page h.
      unless (nat_lt (length bytes) count) (refusals.OutOfBounds addr 0 count) h (λ inside h.
      shows (record w { marks = w.marks ++ addr ∷ [] }) (take count bytes) count refl
      (length-take-le count bytes (ltb-false _ _ inside)) (few_read count page) h)))
  given_row (calls.String text) whole h =
      unless (nat_lt longest_string (length text)) (refusals.BadLength (length text) longest_string) h
      (λ _ h. in_takes_one o.moves _ _ h (λ addr p. shows_none p.0 p.1 refl refl))
  given_row (calls.StringLength addr) whole h =
      on addr (as_text (thing_at w addr)) h (λ text _ h. shows_none h.1 h.2 refl refl)
  given_row (calls.StringRead addr) whole h = on addr (as_text (thing_at w addr)) h (λ text there h.
      shows w text (length text) refl refl (text_short w addr text whole there) h)
  given_row (calls.StringDup addr) whole h =
      on addr (as_text (thing_at w addr)) h (λ text _ h. in_takes_one o.moves _ _ h (λ addr p. shows_none p.0 p.1 refl refl))
  given_row (calls.List user) whole h = in_takes_one o.moves _ _ h (λ addr p. shows_none p.0 p.1 refl refl)
  given_row (calls.ListDestroy addr) whole h = on addr (as_list (thing_at w addr)) h (λ row _ h. shows_none h.1 h.2 refl refl)
  given_row (calls.ListLength addr) whole h = on addr (as_list (thing_at w addr)) h (λ row _ h. shows_none h.1 h.2 refl refl)
  given_row (calls.ListUser addr) whole h = on addr (as_list (thing_at w addr)) h (λ row _ h. shows_none h.1 h.2 refl refl)
  given_row (calls.SetListUser addr user) whole h =
      on addr (as_list (thing_at w addr)) h (λ row _ h. shows_none h.1 h.2 refl refl)
  given_row (calls.InsertFirst addr datum) whole h =
      on addr (as_list (thing_at w addr)) h (λ row _ h. in_takes_one o.moves _ _ h (λ addr p. shows_none p.0 p.1 refl refl))
  given_row (calls.InsertLast addr datum) whole h =
      on addr (as_list (thing_at w addr)) h (λ row _ h. in_takes_one o.moves _ _ h (λ addr p. shows_none p.0 p.1 refl refl))
  given_row (calls.InsertBefore element datum) whole h =
      on element (spot_of w element) h (λ s _ h. in_takes_one o.moves _ _ h (λ addr p. shows_none p.0 p.1 refl refl))
  given_row (calls.InsertAfter element datum) whole h =
      on element (spot_of w element) h (λ s _ h. in_takes_one o.moves _ _ h (λ addr p. shows_none p.0 p.1 refl refl))
  given_row (calls.InsertOrdered addr datum by) whole h =
      on addr (as_list (thing_at w addr)) h (λ row _ h. in_takes_one o.moves _ _ h (λ addr p. shows_none p.0 p.1 refl refl))
  given_row (calls.Search addr datum by) whole h =
      on addr (as_list (thing_at w addr)) h (λ row _ h. shows_none h.1 h.2 refl refl)
  given_row (calls.Delete element) whole h = on element (spot_of w element) h (λ s _ h. shows_none h.1 h.2 refl refl)
  given_row (calls.First addr) whole h = on addr (as_list (thing_at w addr)) h (λ row _ h. shows_none h.1 h.2 refl refl)
  given_row (calls.Last addr) whole h = on addr (as_list (thing_at w addr)) h (λ row _ h. shows_none h.1 h.2 refl refl)
  given_row (calls.Next element) whole h = on element (spot_of w element) h (λ s _ h. shows_none h.1 h.2 refl refl)
  given_row (calls.Prev element) whole h = on element (spot_of w element) h (λ s _ h. shows_none h.1 h.2 refl refl)
  given_row (calls.Datum element) whole h = on element (spot_of w element) h (λ s _ h. shows_none h.1 h.2 refl refl)
  given_row (calls.SetDatum element datum) whole h = on element (spot_of w element) h (λ s _ h. shows_none h.1 h.2 refl refl)
  given_row (calls.Table rows size user) whole h =
      unless (nat_lt longest_raw rows) (refusals.BadLength rows longest_raw) h (λ _ h.
      unless (nat_lt longest_raw size) (refusals.BadLength size longest_raw) h (λ _ h.
      unless (nat_lt longest_raw (rows * size)) (refusals.BadLength (rows * size) longest_raw) h
      (λ _ h. in_takes_one o.moves _ _ h (λ addr p. shows_none p.0 p.1 refl refl))))
  given_row (calls.Row addr row) whole h = on addr (as_table (thing_at w addr)) h (λ table there h.
      unless (nat_le table.rows row) (refusals.BadRow row table.rows) h (λ inside h.
      unless (nat_lt longest_read table.size) (refusals.BadLength table.size longest_read) h (λ page h.
      let valid = table_valid w addr table whole there in
      let within : table.size * row + table.size ≤ length table.bytes =
      row-within table.rows table.size row (length table.bytes) (grind (arith, nat_tests)) valid.bytes in
      let few : table.size ≤ 4096 = grind (arith, nat_tests) in
      shows w (part (table.size * row) table.size table.bytes) table.size refl
      (length-part (table.size * row) table.size table.bytes within) few h)))
  given_row (calls.SetRow addr row from) whole h = on addr (as_table (thing_at w addr)) h (λ table _ h.
      unless (nat_le table.rows row) (refusals.BadRow row table.rows) h (λ _ h.
      where_so (length from == table.size) (refusals.BadLength (length from) table.size) h (λ h. shows_none h.1 h.2 refl refl)))
  given_row (calls.Dimensions addr) whole h =
      on addr (as_table (thing_at w addr)) h (λ table _ h. shows_none h.1 h.2 refl refl)
  given_row (calls.TableUser addr) whole h = on addr (as_table (thing_at w addr)) h (λ table _ h. shows_none h.1 h.2 refl refl)
  given_row (calls.TableDestroy addr) whole h =
      on addr (as_table (thing_at w addr)) h (λ table _ h. shows_none h.1 h.2 refl refl)
  given_row (calls.Hash key_length buckets) whole h =
      unless (is_no_key_length key_length) (refusals.BadKeyLength key_length longest_key) h (λ _ h.
      unless (is_no_count buckets) (refusals.BadRow buckets most_buckets) h
      (λ _ h. in_takes_one o.moves _ _ h (λ addr p. shows_none p.0 p.1 refl refl)))
  given_row (calls.HashInsert addr key value) whole h = on_hash addr key h (λ hash h.
      from_option (position (has_key key) hash.entries) h
      (λ _ h. in_takes_one o.moves _ _ h (λ addr p. shows_none p.0 p.1 refl refl))
      (λ place _ h. refused (refusals.KeyTaken (value_at hash.entries place)) h))
  given_row (calls.HashRetrieve addr key) whole h = on_key addr key h (λ hash place h. shows_none h.1 h.2 refl refl)
  given_row (calls.HashRevise addr key value) whole h = on_key addr key h (λ hash place h. shows_none h.1 h.2 refl refl)
  given_row (calls.HashRemove addr key) whole h = on_key addr key h (λ hash place h. shows_none h.1 h.2 refl refl)
  given_row (calls.HashCount addr) whole h = on addr (as_hash (thing_at w addr)) h (λ hash _ h. shows_none h.1 h.2 refl refl)
  given_row (calls.HashDestroy addr) whole h =
      on addr (as_hash (thing_at w addr)) h (λ hash _ h. shows_none h.1 h.2 refl refl)
  given_row (calls.Catlg name kind object) whole h =
      on_name name h (λ h. in_takes_one o.moves _ _ h (λ addr p. shows_none p.0 p.1 refl refl))
      (λ n h. refused (refusals.NameTaken n.object) h)
  given_row (calls.Find name) whole h = on_name name h (λ h. refused refusals.NotFound h) (λ n h. shows_none h.1 h.2 refl refl)
  given_row (calls.Uncatlg name) whole h =
      on_name name h (λ h. refused refusals.NotFound h) (λ n h. shows_none h.1 h.2 refl refl)
  given_row (calls.Entry place) whole h =
      from_option (slice_get w.names place) h (λ _ h. refused refusals.NotFound h) (λ n there h.
      shows w n.name (length n.name) refl refl (name_short w place n whole there) h)
  given_row (calls.FileRef path bytes) whole h =
      unless (is_no_path (length path)) (refusals.BadLength (length path) longest_path) h (λ _ h.
      unless (nat_lt longest_source bytes) (refusals.BadLength bytes longest_source) h
      (λ _ h. in_takes_one o.moves _ _ h (λ addr p. shows_none p.0 p.1 refl refl)))
  given_row (calls.BulkRef item bytes) whole h =
      unless (nat_lt longest_source bytes) (refusals.BadLength bytes longest_source) h
      (λ _ h. in_takes_one o.moves _ _ h (λ addr p. shows_none p.0 p.1 refl refl))
  given_row (calls.ObjRef raw) whole h = on raw (as_raw (thing_at w raw)) h (λ bytes _ h.
      on_unnamed raw h (λ h. in_takes_one o.moves _ _ h (λ addr p. shows_none p.0 p.1 refl refl)))
  given_row (calls.DestroyRef addr) whole h = on addr (source_at w addr) h (λ source _ h.
      unless (is_some (owned_raw source)) (refusals.WrongKind addr (kind_number kinds.Source)) h (λ _ h.
      unless source.flagged refusals.NotFound h (λ _ h.
      from_test (uses_of w addr == 0) h (λ _ h. shows_none h.1 h.2 refl refl) (λ _ h. shows_none h.1 h.2 refl refl))))
  given_row (calls.Count addr) whole h = on addr (source_at w addr) h (λ source _ h. shows_none h.1 h.2 refl refl)
  given_row (calls.Occupancy acct space) whole h = shows_none h.1 h.2 refl refl
  given_row (calls.Maximum acct space) whole h = shows_none h.1 h.2 refl refl
  given_row (calls.SetMaximum acct space value) whole h =
      unless (nat_lt most_amount value) (refusals.TooLarge space value most_amount) h (λ _ h. shows_none h.1 h.2 refl refl)
  given_row (calls.Request acct file bulk heap coarse fine) whole h =
      let asked : Amounts = record { file = file; bulk = bulk; heap = heap } in
      let maxima = (account_of w.accounts acct).maxima in
      from_option (first_above asked maxima) h (λ _ h.
      unless (w.accounts.next == most_amount) (refusals.BadTicket most_amount) h
      (λ _ h. in_takes_one o.moves _ _ h (λ addr p. shows_none p.0 p.1 refl refl)))
      (λ space _ h. refused (refusals.TooLarge space (amount asked space) (amount maxima space)) h)
  given_row (calls.Awarded ticket) whole h =
      from_option (pending_of w ticket) h (λ _ h. refused (refusals.BadTicket ticket) h) (λ p _ h.
      where_so p.ticket.granted (refusals.NotAwarded ticket) h (λ h. shows_none h.1 h.2 refl refl))
  given_row (calls.Shred ticket) whole h =
      from_option (pending_of w ticket) h (λ _ h. refused (refusals.BadTicket ticket) h)
      (λ p _ h. shows_none h.1 h.2 refl refl)
  given_row (calls.Create acct number) whole h =
      charged acct number (in_space spaces.Heap object_bytes) _ h (λ used h.
      takes object_need (λ addr. with_object used addr (empty_object acct)) (λ addr. replies.At addr) h (λ addr. refl))
  given_row (calls.AppendExtent addr number named offset bytes) whole h = on addr (object_at w addr) h (λ z _ h.
      from_option (source_at w named) h (λ _ h. on named (as_raw (thing_at w named)) h (λ text _ h.
      on_unnamed named h (λ h.
      unless (bytes == 0 || nat_lt (length text) (offset + bytes)) (refusals.BadRange offset bytes (length text)) h (λ _ h.
      charged z.account number (bytes_charge spaces.Heap (length text)) _ h (λ used h.
      does raw_append_moves
      (λ at. with_object (with_thing used (at 0) (things.Source (new_source (subjects.Heap named) (length text)))) addr
      (with_extent z (record { block = at 1; source = at 0; offset = offset; length = bytes })))
      (λ at. replies.Done) h refl)))))
      (λ s _ h.
      unless s.flagged refusals.NotFound h (λ _ h.
      unless (bytes == 0 || nat_lt s.length (offset + bytes)) (refusals.BadRange offset bytes s.length) h (λ _ h.
      charged z.account number (use_charge w z.account named s) _ h (λ used h.
      takes extent_need (λ block. with_object used addr
      (with_extent z (record { block = block; source = named; offset = offset; length = bytes })))
      (λ block. replies.Done) h (λ block. refl))))))
  given_row (calls.PrependHeader addr number text) whole h = capsule addr number text with_header h
  given_row (calls.AppendTrailer addr number text) whole h = capsule addr number text with_trailer h
  given_row (calls.DiscardFirstHeader addr) whole h = on addr (object_at w addr) h (λ z _ h.
      from_option (slice_get z.headers 0) h (λ _ h. refused refusals.NoCapsule h) (λ c _ h. shows_none h.1 h.2 refl refl))
  given_row (calls.DiscardLastTrailer addr) whole h = on addr (object_at w addr) h (λ z _ h.
      from_option (last_capsule z.trailers) h (λ _ h. refused refusals.NoCapsule h) (λ c _ h. shows_none h.1 h.2 refl refl))
  given_row (calls.ZcoLength addr) whole h = on addr (object_at w addr) h (λ z _ h. shows_none h.1 h.2 refl refl)
  given_row (calls.SourceLength addr) whole h = on addr (object_at w addr) h (λ z _ h. shows_none h.1 h.2 refl refl)
  given_row (calls.Destroy addr) whole h = on addr (object_at w addr) h (λ z _ h. shows_none h.1 h.2 refl refl)
  given_row (calls.ClonePart addr number offset bytes) whole h = on addr (object_at w addr) h (λ z _ h.
      let extents = asked_extents z offset bytes in
      unless (bytes == 0 || nat_lt z.part.length (offset + bytes)) (refusals.BadRange offset bytes z.part.length) h (λ _ h.
      charged z.account number (λ (space : Space). object_charge space (object_of z.account extents)) _ h (λ used h.
      does (λ at. clone_moves at extents)
      (λ at. with_object used (at 0) (object_of z.account (placed at 1 extents)))
      (λ at. replies.At (at 0)) h refl)))
  given_row (calls.Delimit addr offset bytes) whole h = on addr (object_at w addr) h (λ z _ h.
      let all = extents_length z.extents in
      unless (nat_lt all (offset + bytes)) (refusals.BadRange offset bytes all) h (λ _ h. shows_none h.1 h.2 refl refl))
  given_row (calls.Strip addr) whole h = on addr (object_at w addr) h (λ z _ h. shows_none h.1 h.2 refl refl)
  given_row (calls.Bond addr number) whole h = on addr (object_at w addr) h (λ z _ h.
      charged z.account number (bond_charge (capsules_of z)) _ h (λ used h.
      does (λ at. bond_moves at 0 (capsules_of z))
      (λ at. with_object (with_bonded used at 0 (capsules_of z)) addr (bonded at z))
      (λ at. replies.Done) h refl))
  given_row (calls.Transmit addr place count) whole h =
      gives_part addr count (wire_part w place count) (λ z. some_few place count (wire_told w z)) h
  given_row (calls.ReceiveHeaders addr place count) whole h =
      gives_part addr count (headers_part w place count) (λ z. some_few place count (take z.part.offset (extents_told w z.extents))) h
  given_row (calls.ReceiveSource addr place count) whole h =
      gives_part addr count (source_part w place count)
      (λ z. some_few (max place z.part.offset) count (take (part_end z) (extents_told w z.extents))) h
  given_row (calls.ReceiveTrailers addr place count) whole h =
      gives_part addr count (trailers_part w place count) (λ z. some_few (max place (part_end z)) count (extents_told w z.extents)) h
