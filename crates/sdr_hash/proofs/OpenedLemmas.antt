-- A hash is opened at one bucket, and closed when that one has changed.
use Rattle.std.proofs.Common.{◌≡◌, ℕ, zero, suc, ◌+◌, ◌<◌, ◌^◌, List, [], ◌∷◌, ◌++◌, length, map, set, get_or, refl, sym, ap, ◌∙◌, arith, subst, append_assoc}
use Rattle.std.specs.Prelude.{All, flat_map, sum_by}
use Rattle.std.proofs.lemmas.List.{get_or-map, map-set, length-set}
use Rattle.std.proofs.lemmas.List.Elements.{All-get_or}
use Rattle.std.proofs.lemmas.List.Sums.{get_or-le-sum_by, sum_by-set}
use Rattle.sdr_base.specs.Blocks.{Block, Blocks}
use Rattle.sdr_base.specs.Entries.{Changes, Entries, BlocksAre, Swaps}
use Rattle.sdr_base.specs.Hashes.{HashItem, HashRow, bucket_entries, hash_block, hash_entries, item_addr}
use Rattle.sdr_base.specs.Linked.{first_of}
use Rattle.sdr_base.proofs.StandingLemmas.{rotated, stands_swapped_two, swaps_after, swaps_before}
use Rattle.sdr_hash.specs.Kept.{HashFits, ItemFits, KeepsHash}
use Rattle.sdr_hash.specs.Opened.{IsOpened, KeepsBucket, opened_entries, with_front, words_block}
use Rattle.sdr_hash.specs.declared.bucket.Link.{Link}
use Rattle.sdr_hash.proofs.KeptLemmas.{hash_words, length-hash_words}

-- the entries of one bucket among all
swaps_bucket : (buckets : List (List HashItem)) (p : ℕ) (items : List HashItem) → p < length buckets →
    Swaps (flat_map bucket_entries buckets) (flat_map bucket_entries (set buckets p items))
    (bucket_entries (get_or buckets p [])) (bucket_entries items)
swaps_bucket [] p items less = absurd (omega (arith, less))
swaps_bucket (x ∷ xs) zero items less = record { before = []; behind = flat_map bucket_entries xs; was = refl; is = refl }
swaps_bucket (x ∷ xs) (suc p) items less = swaps_after (bucket_entries x) (swaps_bucket xs p items (omega (arith, less)))

-- the words of a hash behind the count
front_word : (row : HashRow) (p : ℕ) → p < length row.buckets →
    get_or (hash_words row) (3 + p) 0 ≡ first_of item_addr 0 (get_or row.buckets p [])
front_word row p less =
    let e : 3 + p ≡ suc (suc (suc p)) = omega arith in
    ap (λ n. get_or (hash_words row) n 0) e ∙ get_or-map (first_of item_addr 0) row.buckets p [] 0 less

set_word : (a b c : ℕ) (words : List ℕ) (p value count : ℕ) →
    set (set (a ∷ b ∷ c ∷ words) (3 + p) value) 2 count ≡ a ∷ b ∷ count ∷ set words p value
set_word a b c words p value count =
    let e : 3 + p ≡ suc (suc (suc p)) = omega arith in
    ap (λ n. set (set (a ∷ b ∷ c ∷ words) n value) 2 count) e

-- the words of the hash with other entries in a bucket
abbrev pub with_bucket : HashRow → ℕ → List HashItem → HashRow
with_bucket row p items = record row { buckets = set row.buckets p items }

pub words_with : (row : HashRow) (p : ℕ) (items : List HashItem) (count : ℕ) → count ≡ sum_by length (set row.buckets p items) →
    with_front (hash_words row) (3 + p) items count ≡ hash_words (with_bucket row p items)
words_with row p items count e =
    set_word row.key_length (length row.buckets) (sum_by length row.buckets) (map (first_of item_addr 0) row.buckets) p
    (first_of item_addr 0 items) count
    ∙ ap (λ n. row.key_length ∷ n ∷ count ∷ set (map (first_of item_addr 0) row.buckets) p (first_of item_addr 0 items))
    (sym (length-set row.buckets p items))
    ∙ ap (λ n. row.key_length ∷ length (set row.buckets p items) ∷ n ∷ set (map (first_of item_addr 0) row.buckets) p
    (first_of item_addr 0 items)) e
    ∙ ap (λ (l : List ℕ). row.key_length ∷ length (set row.buckets p items) ∷ sum_by length (set row.buckets p items) ∷ l)
    (sym (map-set (first_of item_addr 0) row.buckets p items))

-- how the count changes with a bucket
pub count_with : (row : HashRow) (p : ℕ) (items : List HashItem) → p < length row.buckets →
    sum_by length (set row.buckets p items) + length (get_or row.buckets p []) ≡ sum_by length row.buckets + length items
count_with row p items less = sum_by-set length row.buckets p items [] less

-- what is known of a bucket by that of the hash
pub opened : (row : HashRow) (p : ℕ) → HashFits row → sum_by length row.buckets < 2 ^ 32 → p < length row.buckets →
    IsOpened row.key_length (3 + p) (hash_words row) (get_or row.buckets p [])
opened row p fits few less =
    let l = length-hash_words row in
    let most = fits.shape.count.few in
    record {
      short = fits.shape.key.short;
      behind = omega arith;
      inside = omega (arith, l, less);
      few = omega (arith, l, most);
      front = front_word row p less;
      counted = get_or-le-sum_by length row.buckets p [] less;
      small = few;
      fits = All-get_or (All (ItemFits row.key_length)) row.buckets p [] less fits.items;
    }

-- the bucket stands beside the hash's own block
opened_stands : {b : Blocks} {es es' part part' : Entries} (h : ℕ × Block) (rest : Entries) → (w : Swaps es es' part part') →
    BlocksAre b (h ∷ (es ++ rest)) → BlocksAre b (h ∷ (part ++ (w.before ++ (w.behind ++ rest))))
opened_stands {b} {part = part} h rest w s =
    rotated b h w.before part (w.behind ++ rest)
    (subst (λ (es : Entries). BlocksAre b (h ∷ es))
    (ap (λ (es : Entries). es ++ rest) w.was ∙ append_assoc w.before (part ++ w.behind) rest
    ∙ ap (λ (es : Entries). w.before ++ es) (append_assoc part w.behind rest)) s)

pub keeps_bucket : {b : Blocks} {hash : ℕ} {row : HashRow} (front : Link) (p : ℕ) → front.addr ≡ hash → front.field ≡ 3 + p →
    KeepsHash b hash row → sum_by length row.buckets < 2 ^ 32 → p < length row.buckets →
    KeepsBucket b front row.key_length (get_or row.buckets p [])
keeps_bucket {b} {hash} {row} front p a f k few less =
    let w = swaps_bucket row.buckets p [] less in
    record {
      words = hash_words row;
      rest = w.before ++ (w.behind ++ k.rest);
      stands =
          subst (λ (at : ℕ). BlocksAre b
          (opened_entries at (hash_words row) (get_or row.buckets p []) ++ (w.before ++ (w.behind ++ k.rest))))
          (sym a) (opened_stands (hash, hash_block row) k.rest w k.stands);
      opened =
          subst (λ (field : ℕ). IsOpened row.key_length field (hash_words row) (get_or row.buckets p [])) (sym f)
          (opened row p k.fits few less);
    }

-- a change of the bucket is a change of the hash
pub closed : {b b' : Blocks} (hash : ℕ) (row : HashRow) (p : ℕ) (words : List ℕ) (items : List HashItem) →
    p < length row.buckets →
    words ≡ hash_words (with_bucket row p items) →
    Changes b b' (opened_entries hash (hash_words row) (get_or row.buckets p [])) (opened_entries hash words items) →
    Changes b b' (hash_entries hash row) (hash_entries hash (with_bucket row p items))
closed {b} {b'} hash row p words items less e c = record {
  kept = λ rest s.
      subst (λ (ws : List ℕ). BlocksAre b' ((hash, words_block ws) ∷ (flat_map bucket_entries (set row.buckets p items) ++ rest))) e
      (stands_swapped_two {xs = (hash, hash_block row) ∷ []} {xs' = (hash, words_block words) ∷ []}
      {p = (hash, hash_block row) ∷ []} {p' = (hash, words_block words) ∷ []} s
      (record { before = []; behind = []; was = refl; is = refl })
      (swaps_before rest (swaps_bucket row.buckets p items less)) c);
}
