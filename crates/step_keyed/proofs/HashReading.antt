-- Calls that read hashes, as steps, and what all calls on keys share.
use Rattle.std.proofs.Common.{◌≡◌, ◌∙◌, ◌≤◌, ◌==◌, ℕ, List, [], true, false, find, inl, length, position, Option, None, Some, refl, sym, ap, arith}
use Rattle.std.specs.Option.{option_map}
use Rattle.std.proofs.lemmas.Bool.Decides.{nat_tests}
use Rattle.step_keyed.proofs.BucketChanges.{item_is}
use Rattle.step_keyed.proofs.BucketLemmas.{IsKeyed, keyed_at, none_keyed}
use Rattle.step_keyed.proofs.HashLemmas.{IsHashAt, count_is, hash_is_at, no_hash}
use Rattle.step_things.proofs.RowLemmas.{looked, misnamed_refused, row_refused, shows, unmoved_answered}
use Rattle.step_things.specs.Answering.{Answered, IsRefused, IsReady}
use Rattle.sdr_stands.specs.Rows.{hash_row, item_row}
use Rattle.sdr_stands.specs.Standing.{HeapStandsFor}
use Rattle.sdr_base.specs.Hashes.{HashItem, HashRow}
use Rattle.sdr_base.specs.Objects.{Heap, Misses}
use Rattle.sdr_base.specs.declared.kind.Kind.TheVariants as kinds
use Rattle.sdr_base.specs.declared.refusal.Refusal.{Refusal}
use Rattle.sdr_base.specs.declared.refusal.Refusal.TheVariants as refusals
use Rattle.sdr_base.specs.declared.stop.Stop.TheVariants as stops
use Rattle.sdr_hash.specs.Buckets.{item_of}
use Rattle.sdr_hash.specs.Calls.{CountsEntries, FindStops, FindsKey, IsKeyOf, LacksBucket, LacksKey, item_told}
use Rattle.sdr_hash.specs.Kept.{KeepsHash}
use Rattle.sdr_machine.proofs.WorkLemmas.{on_false, on_none, on_some, on_true}
use Rattle.sdr_model.specs.HashSteps.{OnHash, OnKey, as_hash, has_key, value_at, value_of}
use Rattle.sdr_model.specs.Hashes.{Hash}
use Rattle.sdr_model.specs.Rows.{ByRow}
use Rattle.sdr_model.specs.Steps.{On, Outcome}
use Rattle.sdr_model.specs.World.{World, thing_at}
use Rattle.sdr_model.specs.declared.answer.Reply.TheVariants as replies
use Rattle.sdr_model.specs.declared.call.Call.{Call}
use Rattle.sdr_model.specs.declared.call.Call.TheVariants as calls
use Rattle.sdr_model.specs.declared.things.HashEntry.{HashEntry}

-- what is told of an entry tells where it is
pub record IsTold (hash : Hash) (key : List ℕ) (f : HashItem → ℕ) (n : ℕ) : Type 0 where
  pub place : ℕ
  pub keyed : IsKeyed hash key place
  pub told : f (item_row keyed.entry) ≡ n

told_at : (hash : Hash) (key : List ℕ) (f : HashItem → ℕ) (n : ℕ) → 1 ≤ hash.buckets
    → item_told f (item_of (hash_row hash) key) ≡ Some n → IsTold hash key f n
told_at hash key f n some told = by (position (has_key key) hash.entries) refl
  where
    there : (found : Option HashEntry) → find (has_key key) hash.entries ≡ found → item_told f (option_map item_row found) ≡ Some n
    there found is = sym (ap (item_told f) (item_is hash key some ∙ ap (option_map item_row) is)) ∙ told

    by : (o : Option ℕ) → position (has_key key) hash.entries ≡ o → IsTold hash key f n
    by None at = absurd (let no : None ≡ Some n = there None (none_keyed hash key at) in cc)
    by (Some place) at =
        let keyed = keyed_at hash key place at in
        let same : Some (f (item_row keyed.entry)) ≡ Some n = there (Some keyed.entry) keyed.found in
        record { place = place; keyed = keyed; told = cc }

-- where it has none, no place is found
pub lacks_at : (hash : Hash) (key : List ℕ) → 1 ≤ hash.buckets → item_of (hash_row hash) key ≡ None
    → position (has_key key) hash.entries ≡ None
lacks_at hash key some lacks = by (position (has_key key) hash.entries) refl
  where
    by : (o : Option ℕ) → position (has_key key) hash.entries ≡ o → position (has_key key) hash.entries ≡ None
    by None at = at
    by (Some place) at =
        let keyed = keyed_at hash key place at in
        let no : Some (item_row keyed.entry) ≡ None =
        sym (item_is hash key some ∙ ap (option_map item_row) keyed.found) ∙ lacks in
        absurd cc

-- the key of a hash that is kept has its length
pub on_hash : (old : Heap) (w : World) (addr : ℕ) (key : List ℕ) (o : Outcome) (goes : Hash → Type 0) (h : IsHashAt old w addr)
    → IsKeyOf old.blocks addr key → goes h.hash → OnHash w o addr key goes
on_hash old w addr key o goes h is goes_on =
    let long = is.long (hash_row h.hash) h.keeps in
    let fits : (length key == h.hash.key_length) ≡ true = grind (arith, nat_tests, long) in
    on_some _ _ (as_hash (thing_at w addr)) h.hash (ap as_hash h.there) (on_true _ _ _ fits goes_on)

-- the key has an entry, of which this is told
pub record IsKeyAt (old : Heap) (w : World) (addr : ℕ) (key : List ℕ) (f : HashItem → ℕ) (n : ℕ) : Type 0 where
  pub at : IsHashAt old w addr
  pub is : IsKeyOf old.blocks addr key
  pub told : IsTold at.hash key f n

pub key_at : (old : Heap) (w : World) (addr : ℕ) (key : List ℕ) (f : HashItem → ℕ) (n : ℕ) → HeapStandsFor old w → IsReady w
    → IsKeyOf old.blocks addr key
    → ((row : HashRow) → KeepsHash old.blocks addr row → item_told f (item_of row key) ≡ Some n)
    → IsKeyAt old w addr key f n
key_at old w addr key f n s served is told =
    let h = hash_is_at old w addr s served is.kind in
    record { at = h; is = is; told = told_at h.hash key f n h.valid.buckets.0 (told (hash_row h.hash) h.keeps) }

pub on_key : (old : Heap) (w : World) (addr : ℕ) (key : List ℕ) (f : HashItem → ℕ) (n : ℕ) (o : Outcome) (goes : Hash → ℕ → Type 0)
    (k : IsKeyAt old w addr key f n) → goes k.at.hash k.told.place → OnKey w o addr key goes
on_key old w addr key f n o goes k goes_on =
    on_hash old w addr key o _ k.at k.is
    (on_some _ _ (position (has_key key) k.at.hash.entries) k.told.place k.told.keyed.at goes_on)

-- a call on a heap that stands for a world in which it is served
module _ (old new : Heap) (w : World) (unmoved : old.moves ≡ []) (s : HeapStandsFor old w) (served : IsReady w) where
  -- the address of what is no hash is refused
  pub hash_missed : (call : Call) (addr : ℕ) (goes : Outcome → Hash → Type 0) (was : List ℕ) (refusal : Refusal) → new ≡ old
      → ((o : Outcome) → On w o addr (as_hash (thing_at w addr)) (goes o) → ByRow w o call)
      → Misses (old.blocks addr) addr kinds.Hash (stops.Refused refusal) → IsRefused w call old new was was refusal
  hash_missed call addr goes was refusal same row m =
      misnamed_refused w call addr kinds.Hash (as_hash (thing_at w addr)) goes old new was row
      (no_hash old w addr s served.whole.valid)
      unmoved same s served.whole.valid refusal m

  -- a key that has no bucket is refused
  pub bucket_missed : (call : Call) (addr : ℕ) (key : List ℕ) (goes : Outcome → Hash → Type 0) (was : List ℕ)
      (refusal : Refusal) → new ≡ old → ((o : Outcome) → OnHash w o addr key (goes o) → ByRow w o call)
      → LacksBucket old.blocks addr key (stops.Refused refusal) → IsRefused w call old new was was refusal
  bucket_missed call addr key goes was (refusals.BadKeyLength bytes want) same row m = record {
    step =
        let h = hash_is_at old w addr s served m.1.kind in
        let wants = m.1.wants (hash_row h.hash) h.keeps in
        let apart : (length key == h.hash.key_length) ≡ false = grind (arith, nat_tests, m.1.differs, wants) in
        inl (row_refused w call new (refusals.BadKeyLength bytes want) (ap (λ (h : Heap). h.moves) same ∙ unmoved)
        (row _ (on_some _ _ (as_hash (thing_at w addr)) h.hash (ap as_hash h.there)
        (on_false _ _ _ apart (refl, refl, λ i. replies.Refused (refusals.BadKeyLength (m.0 i) (wants i)))))));
    left = λ reads. same;
    gave = refl;
  }
  bucket_missed call addr key goes was (refusals.BadAddress bad) same row m =
      hash_missed call addr _ was (refusals.BadAddress bad) same row m
  bucket_missed call addr key goes was (refusals.WrongKind bad number) same row m =
      hash_missed call addr _ was (refusals.WrongKind bad number) same row m
  bucket_missed call addr key goes was refusal same row m = absurd m

  -- and one that isn't there
  pub key_missed : (call : Call) (addr : ℕ) (key : List ℕ) (goes : Outcome → Hash → ℕ → Type 0) (was : List ℕ) → new ≡ old
      → ((o : Outcome) → OnKey w o addr key (goes o) → ByRow w o call)
      → LacksKey old.blocks addr key → IsRefused w call old new was was refusals.NotFound
  key_missed call addr key goes was same row lacks = record {
    step =
        let h = hash_is_at old w addr s served lacks.is.kind in
        let none = lacks_at h.hash key h.valid.buckets.0 (lacks.lacks (hash_row h.hash) h.keeps) in
        inl (row_refused w call new refusals.NotFound (ap (λ (h : Heap). h.moves) same ∙ unmoved)
        (row _ (on_hash old w addr key _ _ h lacks.is
        (on_none _ _ (position (has_key key) h.hash.entries) none (refl, refl, refl)))));
    left = λ reads. same;
    gave = refl;
  }

  -- a key was looked for
  pub retrieved : (addr : ℕ) (key : List ℕ) (value : ℕ) → new ≡ old → FindsKey old.blocks addr key value
      → Answered w (calls.HashRetrieve addr key) new [] (replies.Value value)
  retrieved addr key value same finds =
      let k = key_at old w addr key (λ item. item.value) value s served finds.is finds.finds in
      let told : value ≡ value_at k.at.hash.entries k.told.place = sym (ap value_of k.told.keyed.there ∙ k.told.told) in
      unmoved_answered w (record w { shown = [] }) (calls.HashRetrieve addr key) new [] (replies.Value value) (ap (λ (h : Heap). h.moves) same ∙ unmoved)
      (on_key old w addr key _ _ _ _ k (refl, refl, ap (λ n. replies.Value n) told)) refl (shows old new w [] same s) refl refl

  pub unretrieved : (addr : ℕ) (key was : List ℕ) (refusal : Refusal) → new ≡ old
      → FindStops old.blocks addr key (stops.Refused refusal)
      → IsRefused w (calls.HashRetrieve addr key) old new was was refusal
  unretrieved addr key was refusals.NotFound same m =
      key_missed (calls.HashRetrieve addr key) addr key _ was same (λ o h. h) m
  unretrieved addr key was (refusals.BadKeyLength bytes want) same m =
      bucket_missed (calls.HashRetrieve addr key) addr key _ was (refusals.BadKeyLength bytes want) same (λ o h. h) m
  unretrieved addr key was (refusals.BadAddress bad) same m =
      bucket_missed (calls.HashRetrieve addr key) addr key _ was (refusals.BadAddress bad) same (λ o h. h) m
  unretrieved addr key was (refusals.WrongKind bad number) same m =
      bucket_missed (calls.HashRetrieve addr key) addr key _ was (refusals.WrongKind bad number) same (λ o h. h) m
  unretrieved addr key was refusal same m = absurd m

  -- the entries were counted
  pub counted : (addr count : ℕ) → new ≡ old → CountsEntries old.blocks addr count
      → Answered w (calls.HashCount addr) new [] (replies.Value count)
  counted addr count same counts =
      let h = hash_is_at old w addr s served counts.kind in
      looked w (calls.HashCount addr) addr (as_hash (thing_at w addr)) (λ x. []) (λ x. replies.Value (length x.entries)) h.hash
      old new
      (replies.Value count) (λ o h. h) (ap as_hash h.there)
      (ap (λ n. replies.Value n) (counts.counts (hash_row h.hash) h.keeps ∙ count_is h.hash h.valid)) refl unmoved same s
