-- What is found of a key in a hash.
use Rattle.std.proofs.Common.{◌≡◌, ◌≢◌, ℕ, ◌*◌, ◌<◌, ◌≤◌, List, ◌∷◌, length, ◌+◌, cond, Option, Some, None, sum, sym, ap, ◌∙◌, arith, subst}
use Rattle.std.specs.Prelude.{find, IfOk, OnOk, Result, Ok, Err}
use Rattle.std.specs.Option.{option_or}
use Rattle.std.proofs.lemmas.List.Folds.{find-append}
use Rattle.std.proofs.lemmas.Nat.{mod_below}
use Rattle.sdr_base.specs.Blocks.{Blocks, IsKind}
use Rattle.sdr_base.specs.Entries.{Few}
use Rattle.sdr_base.specs.Hashes.{HashItem, HashRow}
use Rattle.sdr_base.specs.Words.{HasWord}
use Rattle.sdr_base.specs.declared.kind.Kind.TheVariants as kinds
use Rattle.sdr_base.specs.declared.stop.Stop.{Stop}
use Rattle.sdr_hash.specs.Buckets.{bucket_of, item_has_key, items_by}
use Rattle.sdr_hash.specs.Changes.{SomePlace}
use Rattle.sdr_hash.specs.Calls.{CountsEntries, FindsKey, HasKey, IsNoKeyOf, LacksKey, item_told}
use Rattle.sdr_hash.specs.Kept.{KeepsHash, SomeHash}
use Rattle.sdr_hash.specs.Opened.{FrontsBucket, IsOpened, KeepsBucket, SomeBucket}
use Rattle.sdr_hash.specs.Walks.{IsFirst, Searches}
use Rattle.sdr_hash.specs.declared.bucket.Link.{Link}
use Rattle.sdr_hash.specs.declared.searching.Place.{Place}
use Rattle.sdr_hash.proofs.ItemLemmas.{value_is}
use Rattle.sdr_hash.proofs.KeptLemmas.{buckets_is, entries_is, few_entries, hash_words, key_length_is}
use Rattle.sdr_hash.proofs.OpenedLemmas.{keeps_bucket, opened}
use Rattle.sdr_hash.proofs.WalkLemmas.{here}

-- the bucket of a key is one of the hash's
pub bucket_below : {b : Blocks} {hash : ℕ} {row : HashRow} (key : List ℕ) → KeepsHash b hash row →
    bucket_of (length row.buckets) key < length row.buckets
bucket_below {row = row} key k =
    let some = k.fits.shape.count.some in mod_below (sum key) (length row.buckets) (omega (arith, some))

-- the entry at the place of a key is the first that has it
pub first_is : {key : List ℕ} {front : Link} {bucket : List HashItem} {place : Place} → (i : IsFirst key front bucket place) →
    find (item_has_key key) bucket ≡ Some i.item
first_is {key} i =
    ap (find (item_has_key key)) i.whole ∙ find-append (item_has_key key) i.before (i.item ∷ i.behind)
    ∙ ap (λ (o : Option HashItem). option_or o (find (item_has_key key) (i.item ∷ i.behind))) i.none
    ∙ ap (λ v. cond v (Some i.item) (find (item_has_key key) i.behind)) i.keyed

-- so many entries
pub counts : {b : Blocks} {hash size value : ℕ} → IsKind (b hash) kinds.Hash → Few size b → size ≤ 64 * 262144 →
    HasWord (b hash) 2 value →
    CountsEntries b hash value
counts kind few small h = record { kind = kind; counts = λ row k. entries_is k few small h }

-- the key is of another length
pub no_key_of : {b : Blocks} {hash want : ℕ} {key : List ℕ} → IsKind (b hash) kinds.Hash → HasWord (b hash) 0 want →
    length key ≢ want →
    IsNoKeyOf b hash key want
no_key_of kind h n = record { kind = kind; wants = λ row k. key_length_is k h; differs = n }

-- it is of that length, and its bucket's link is known
pub fronts : {b : Blocks} {hash : ℕ} (want buckets bucket : ℕ) (key : List ℕ) (front : Link) →
    IsKind (b hash) kinds.Hash → HasWord (b hash) 0 want →
    length key ≡ want → HasWord
    (b hash) 1 buckets → bucket ≡ bucket_of buckets key → front.addr ≡ hash → front.field ≡ 3 + bucket →
    FrontsBucket b hash key front
fronts {b} {hash} want buckets bucket key front kind w e n is a f = record {
  is = record { kind = kind; long = λ row k. e ∙ key_length_is k w };
  addr = a;
  field = λ row k. f ∙ ap (λ m. 3 + m) (is ∙ ap (λ m. bucket_of m key) (buckets_is k n));
}

module _ {b : Blocks} {hash size : ℕ} {key : List ℕ} {front : Link} (f : FrontsBucket b hash key front)
    (few : Few size b) (small : size ≤ 64 * 262144) where
  -- the bucket is kept there
  pub bucket_for : (row : HashRow) → KeepsHash b hash row → KeepsBucket b front (length key) (items_by row key)
  bucket_for row k =
      subst (λ n. KeepsBucket b front n (items_by row key)) (sym (f.is.long row k))
      (keeps_bucket front (bucket_of (length row.buckets) key) f.addr (f.field row k) k (few_entries k few small)
      (bucket_below key k))

  pub some_bucket : SomeHash b hash → SomeBucket b front (length key)
  some_bucket s = record { bucket = items_by s.row key; keeps = bucket_for s.row s.keeps }

  -- what is known of the bucket of the key
  pub opened_for : (row : HashRow) → KeepsHash b hash row → IsOpened (length key) front.field (hash_words row) (items_by row key)
  opened_for row k =
      let p = bucket_of (length row.buckets) key in
      subst (λ n. IsOpened n front.field (hash_words row) (items_by row key)) (sym (f.is.long row k))
      (subst (λ field. IsOpened row.key_length field (hash_words row) (items_by row key)) (sym (f.field row k))
      (opened row p k.fits (few_entries k few small) (bucket_below key k)))

  -- it has the key
  pub found_item : {place : Place} → Searches b front key (Some place) → (row : HashRow) → (k : KeepsHash b hash row) →
      IsFirst key front (items_by row key) place
  found_item s row k = s.searched (items_by row key) (bucket_for row k)

  pub finds : {value : ℕ} {place : Place} → Searches b front key (Some place) → HasWord (b place.addr) 1 value →
      FindsKey b hash key value
  finds {value} s h = record {
    is = f.is;
    finds = λ row k.
        let i = found_item s row k in
        let e = here (bucket_for row k) i.before i.item i.behind i.whole in
        ap (item_told (λ item. item.value)) (first_is i)
        ∙ ap (λ (v : ℕ). Some v) (sym (value_is e (subst (λ p. HasWord (b p) 1 value) i.at_addr h)));
  }

  unfoldable pub has : {place : Place} → Searches b front key (Some place) → HasKey b hash key
  has {place} s = record {
    is = f.is;
    addr = place.addr;
    here = λ row k.
        let i = found_item s row k in
        ap (item_told (λ item. item.addr)) (first_is i) ∙ ap (λ (v : ℕ). Some v) (sym i.at_addr);
  }

  -- the place of the key is some entry's
  pub some_place : {place : Place} → Searches b front key (Some place) → SomeHash b hash → SomePlace b front place
  some_place s k = record {
    key = key;
    bucket = items_by k.row key;
    keeps = bucket_for k.row k.keeps;
    is = s.searched (items_by k.row key) (bucket_for k.row k.keeps);
  }

  -- or it hasn't
  pub lacks : Searches b front key None → LacksKey b hash key
  lacks s = record { is = f.is; lacks = λ row k. s.searched (items_by row key) (bucket_for row k) }

-- an answer's count
pub counts_given : {b : Blocks} {size : ℕ} (hash : ℕ) (r : Result ℕ Stop) → Few size b → size ≤ 64 * 262144 →
    OnOk r (IsKind (b hash) kinds.Hash) →
    IfOk r (HasWord (b hash) 2) → IfOk r (CountsEntries b hash)
counts_given hash (Ok value) few small kind h = counts kind few small h
counts_given hash (Err stop) few small kind h = tt
