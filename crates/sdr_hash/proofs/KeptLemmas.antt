-- What the words of a hash's block say of the hash that is kept there.
use Rattle.std.proofs.Common.{◌≡◌, ℕ, ◌+◌, ◌*◌, ◌≤◌, ◌<◌, ◌^◌, List, [], ◌∷◌, ◌++◌, length, map, Some, refl, sym, ap, ◌∙◌, arith, length-append, subst}
use Rattle.std.specs.Prelude.{flat_map, sum_by}
use Rattle.std.proofs.lemmas.List.{length-map}
use Rattle.std.proofs.lemmas.List.Sums.{sum_by-cons}
use Rattle.sdr_base.specs.Blocks.{Blocks, Reaches}
use Rattle.sdr_base.specs.Entries.{Among, Few}
use Rattle.sdr_base.specs.Hashes.{HashItem, HashRow, bucket_entries, hash_block, hash_entries, item_addr, item_block}
use Rattle.sdr_base.specs.Linked.{first_of}
use Rattle.sdr_base.specs.Stored.{number_at}
use Rattle.sdr_base.specs.Words.{HasWord}
use Rattle.sdr_base.specs.declared.kind.Kind.TheVariants as kinds
use Rattle.sdr_base.proofs.LinkedLemmas.{length-linked}
use Rattle.sdr_base.proofs.StandingLemmas.{found}
use Rattle.sdr_base.proofs.WritingLemmas.{reaches, word_is}
use Rattle.sdr_hash.specs.Destroying.{entries_in}
use Rattle.sdr_hash.specs.Kept.{KeepsHash}

-- the words of a hash's block
abbrev pub hash_words : HashRow → List ℕ
hash_words row =
    row.key_length ∷ length row.buckets ∷ sum_by length row.buckets ∷ map (first_of item_addr 0) row.buckets

pub length-hash_words : (row : HashRow) → length (hash_words row) ≡ 3 + length row.buckets
length-hash_words row = let m = length-map row.buckets (first_of item_addr 0) in omega (arith, m)

-- the entries of all buckets are as many as those of each together
pub length-entries : (buckets : List (List HashItem)) → length (flat_map bucket_entries buckets) ≡ sum_by length buckets
length-entries [] = refl
length-entries (items ∷ buckets) =
    let ih = length-entries buckets in
    let a : length (flat_map bucket_entries (items ∷ buckets)) ≡ length (bucket_entries items) + length
    (flat_map bucket_entries buckets) =
    length-append (bucket_entries items) (flat_map bucket_entries buckets) in
    let s = sum_by-cons (length {A = HashItem}) items buckets in
    let l = length-linked item_addr item_block 0 0 items in omega (arith, ih, a, s, l)

-- a heap has room for few
pub entries_fit : {b : Blocks} {size : ℕ} (hash : ℕ) (row : HashRow) → Few size b → Among b (hash_entries hash row) →
    16 * (sum_by length row.buckets + 1) ≤ size
entries_fit hash row few among =
    let n = few.few (hash_entries hash row ++ among.rest) among.stands in
    let a = length-append (hash_entries hash row) among.rest in
    let l = length-entries row.buckets in omega (arith, n, a, l)

module _ {b : Blocks} {hash : ℕ} {row : HashRow} (k : KeepsHash b hash row) where
  pub block_is : b hash ≡ Some (hash_block row)
  block_is = found b hash (hash_block row) [] (flat_map bucket_entries row.buckets ++ k.rest) k.stands

  pub hash_reaches : (end : ℕ) → end ≤ 8 * (3 + length row.buckets) → Reaches (b hash) end
  hash_reaches end le =
      let l = length-hash_words row in
      reaches (b hash) kinds.Hash (hash_words row) [] end block_is (omega (arith, l, le))

  pub few_entries : {size : ℕ} → Few size b → size ≤ 64 * 262144 → sum_by length row.buckets < 2 ^ 32
  few_entries few small =
      let n = entries_fit hash row few (record { rest = k.rest; stands = k.stands }) in omega (arith, n, small)

  -- the numbers in the words of the block
  pub key_length_is : {value : ℕ} → HasWord (b hash) 0 value → value ≡ row.key_length
  key_length_is {value} h =
      let short = k.fits.shape.key.short in
      word_is (b hash) kinds.Hash (hash_words row) [] 0 value block_is (omega arith) (omega (arith, short)) h

  pub buckets_is : {value : ℕ} → HasWord (b hash) 1 value → value ≡ length row.buckets
  buckets_is {value} h =
      let few = k.fits.shape.count.few in
      word_is (b hash) kinds.Hash (hash_words row) [] 1 value block_is (omega arith) (omega (arith, few)) h

  pub entries_is : {value size : ℕ} → Few size b → size ≤ 64 * 262144 → HasWord (b hash) 2 value →
      value ≡ sum_by length row.buckets
  entries_is {value} few small h =
      let n = few_entries few small in
      word_is (b hash) kinds.Hash (hash_words row) [] 2 value block_is (omega arith) (omega (arith, n)) h

  -- and the count that its block tells
  pub entries_told : {size : ℕ} → Few size b → size ≤ 64 * 262144 → entries_in (b hash) ≡ sum_by length row.buckets
  entries_told few small =
      ap entries_in block_is
      ∙ entries_is few small (subst (λ o. HasWord o 2 (number_at 16 (hash_block row).bytes)) (sym block_is) refl)
