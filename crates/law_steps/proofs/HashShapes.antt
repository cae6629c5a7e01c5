-- The shapes of the rows of hashes.
use Rattle.std.proofs.Common.{◌≡◌, ℕ, ◌==◌, ◌||◌, List, [], ◌∷◌, ◌++◌, Bool, true, false, Some, map, length, get_or, nat_lt, refl, sym, ap, ◌∙◌, arith, position, set}
use Rattle.std.specs.List.{insert, remove}
use Rattle.std.proofs.Math.Seq.{map-set_same}
use Rattle.std.proofs.lemmas.Bool.{eqb-true, ltb-false}
use Rattle.std.proofs.lemmas.List.Elements.{All-nil}
use Rattle.std.proofs.lemmas.Simd.{map-map}
use Rattle.law_steps.proofs.DistinctLemmas.{from_once}
use Rattle.law_steps.proofs.HashLemmas.{entry_block_at, entry_there, hash_sum-insert, hash_sum-remove, no_entry, same_keys, texts, valid_inserted, valid_removed}
use Rattle.law_steps.proofs.Alike.{itself}
use Rattle.law_steps.proofs.Shapes.{Shape, on_failed, on_passed, on_some, on_none, on_addr, reads, reads_named, takes_one, does}
use Rattle.law_steps.proofs.ThingChanges.{goes, stays, loses, gains, makes}
use Rattle.law_steps.proofs.ThingLemmas.{hash_is}
use Rattle.sdr_model.specs.HashSteps as hash
use Rattle.sdr_model.specs.Hashes.{Hash}
use Rattle.sdr_model.specs.Limits.{longest_key, most_buckets}
use Rattle.sdr_model.specs.RowMoves.{entries_in, keyed_in, keyed_at}
use Rattle.sdr_model.specs.Steps.{Outcome, gave}
use Rattle.sdr_model.specs.Things.{entry_block, entry_need, hash_need, own_block}
use Rattle.sdr_model.specs.Valid.{IsBetween, IsValidHash}
use Rattle.sdr_model.specs.World.{World, thing_at}
use Rattle.sdr_model.specs.declared.answer.Reply.TheVariants as replies
use Rattle.sdr_model.specs.declared.call.Call.{Call}
use Rattle.sdr_model.specs.declared.call.Call.TheVariants as calls
use Rattle.sdr_model.specs.declared.things.UsedBlock.{UsedBlock}
use Rattle.sdr_model.specs.declared.things.HashEntry.{HashEntry}
use Rattle.sdr_model.specs.declared.things.Thing.TheVariants as things

-- a number that is neither below nor above two others is between them
pub neither : (a b : Bool) → (a || b) ≡ false → (a ≡ false) × (b ≡ false)
neither false b e = (refl, e)
neither true b e = cc

pub between : (least most n : ℕ) → (nat_lt n least || nat_lt most n) ≡ false → IsBetween least most n
between least most n e = let both =
    neither (nat_lt n least) (nat_lt most n) e in (ltb-false n least both.0, ltb-false most n both.1)

-- a hash without entries
valid_empty : (key_length buckets : ℕ) → IsBetween 1 longest_key key_length → IsBetween 1 most_buckets buckets
    → IsValidHash (record { key_length = key_length; buckets = buckets; entries = [] })
valid_empty key_length buckets long many = record {
  key_length = long;
  buckets = many;
  keys = All-nil _;
  distinct_keys = from_once texts [] (λ k. omega arith);
  by_bucket = λ i j d upto within. absurd (omega (arith, within));
}

module _ {w : World} {o : Outcome} where
  pub make_hash : (key_length buckets : ℕ) → hash.MakeHash w o key_length buckets
      → Shape w (calls.Hash key_length buckets) o
  make_hash key_length buckets h =
      on_failed (hash.is_no_key_length key_length) _ h refl (λ long h.
      on_failed (hash.is_no_count buckets) _ h refl (λ many made.
      takes_one (hash_need buckets) _ made refl (λ at. refl)
      (makes (hash_need buckets)
      (things.Hash (record { key_length = key_length; buckets = buckets; entries = [] })) _ refl (λ a. refl) (λ a. refl)
      (λ limits. valid_empty key_length buckets (between 1 longest_key key_length long)
      (between 1 most_buckets buckets many)) (λ a. itself) made)))

  -- a call on a key of a hash's length
  on_hash : {call : Call} (addr : ℕ) (key : List ℕ) (Q : Hash → Type 0) → hash.OnHash w o addr key Q
      → ((t : Hash) → hash.as_hash (thing_at w addr) ≡ Some t → length key ≡ t.key_length → Q t → Shape w call o)
      → Shape w call o
  on_hash addr key Q h goes =
      on_addr addr (hash.as_hash (thing_at w addr)) h (λ t is h.
      on_passed (length key == t.key_length) _ h refl (λ long q. goes t is (eqb-true _ _ long) q))

  -- a call on a key that is there
  on_key : {call : Call} (addr : ℕ) (key : List ℕ) (Q : Hash → ℕ → Type 0) → hash.OnKey w o addr key Q
      → ((t : Hash) → hash.as_hash (thing_at w addr) ≡ Some t → (place : ℕ)
      → position (hash.has_key key) t.entries ≡ Some place → Q t place → Shape w call o) → Shape w call o
  on_key addr key Q h goes =
      on_hash addr key _ h
      (λ t is long h. on_some (position (hash.has_key key) t.entries) _ h refl
      (λ place there q. goes t is place there q))

  pub hash_insert : (addr : ℕ) (key : List ℕ) (value : ℕ) → hash.HashInsert w o addr key value
      → Shape w (calls.HashInsert addr key value) o
  hash_insert addr key value h =
      on_hash addr key _ h (λ t is long h.
      on_none (position (hash.has_key key) t.entries) _ h (λ place. refl) (λ new made.
      let entry : ℕ → HashEntry = λ a. record { block = a; key = key; value = value } in
      takes_one (entry_need (length key)) _ made refl (λ at. refl)
      (gains addr (entry_need (length key)) (things.Hash t)
      (λ a. things.Hash (record t { entries = insert t.entries (hash.bucket_place t key) (entry a) }))
      (entry_block_at (length key)) (λ a. replies.Done) (hash_is _ _ is) (λ a. itself)
      (λ a. refl) (λ a. refl) (λ a. refl) made
      (λ a measure. hash_sum-insert t measure addr (hash.bucket_place t key) (entry a))
      (λ a valid. valid_inserted t key (entry a) refl long new valid))))

  pub hash_retrieve : (addr : ℕ) (key : List ℕ) → hash.HashRetrieve w o addr key
      → Shape w (calls.HashRetrieve addr key) o
  hash_retrieve addr key h = on_key addr key _ h (λ t is place there r. reads r refl refl (λ at. refl) refl)

  pub hash_revise : (addr : ℕ) (key : List ℕ) (value : ℕ) → hash.HashRevise w o addr key value
      → Shape w (calls.HashRevise addr key value) o
  hash_revise addr key value h =
      on_key addr key _ h (λ t is place there d.
      let found = entry_there t key place there in
      let revised : HashEntry = record { block = hash.entry_addr t.entries place; key = key; value = value } in
      let blocks : map entry_block (set t.entries place revised) ≡ map entry_block t.entries =
      map-set_same entry_block t.entries place revised no_entry
      (ap (entry_block_at (length key)) found.2
      ∙ ap (λ k. entry_block_at (length k) (get_or t.entries place no_entry).block) found.1) in
      let keys = map-set_same (λ (e : HashEntry). e.key) t.entries place revised no_entry found.1 in
      does d refl (λ at. refl)
      (stays addr (things.Hash t) (things.Hash (record t { entries = set t.entries place revised })) (hash_is _ _ is)
      itself d
      (λ valid. ap (λ bs. own_block addr (things.Hash t) ∷ bs) blocks)
      (λ valid. same_keys t (set t.entries place revised) keys valid)))

  pub hash_remove : (addr : ℕ) (key : List ℕ) → hash.HashRemove w o addr key → Shape w (calls.HashRemove addr key) o
  hash_remove addr key h =
      on_key addr key _ h (λ t is place there d.
      let found = entry_there t key place there in
      let block = entry_block_at (length key) (hash.entry_addr t.entries place) in
      let same : entry_block (get_or t.entries place no_entry) ≡ block =
      sym (ap (entry_block_at (length key)) found.2
      ∙ ap (λ k. entry_block_at (length k) (get_or t.entries place no_entry).block) found.1) in
      does d refl (λ at. ap (λ t. gave (keyed_in t key)) is ∙ ap (λ p. gave (keyed_at t p)) there)
      (loses addr (things.Hash t) (things.Hash (record t { entries = remove t.entries place })) block
      (hash_is _ _ is) itself d
      (λ measure. omega (arith, hash_sum-remove t measure addr place found.0, ap measure same))
      (λ valid. valid_removed t place found.0 valid)))

  pub hash_count : (addr : ℕ) → hash.HashCount w o addr → Shape w (calls.HashCount addr) o
  hash_count addr h = reads_named addr (hash.as_hash (thing_at w addr)) _ _ h refl (λ t. refl) (λ at. refl) (λ b. refl)

  pub hash_destroy : (addr : ℕ) → hash.HashDestroy w o addr → Shape w (calls.HashDestroy addr) o
  hash_destroy addr h =
      on_addr addr (hash.as_hash (thing_at w addr)) h (λ t is d.
      does d refl (λ at. ap (λ r. gave (entries_in r ++ addr ∷ [])) is)
      (goes addr (things.Hash t) (map (λ (e : HashEntry). e.block) t.entries) (hash_is _ _ is)
      (map-map (λ (b : UsedBlock). b.addr) entry_block t.entries) itself d))
