-- The buckets of a hash as lists of entries, the newest first, and what a change of one leaves.
use Rattle.std.specs.Prelude.{ℕ, ◌%◌, Bool, List, [], ◌∷◌, length, sum, find, set, get_or, nat_eq, Option, if◌then◌else◌}
use Rattle.std.specs.Cmp.Lexicographic.{pointwise}
use Rattle.sdr_base.specs.Hashes.{HashItem, HashRow}

-- the bucket of a key, among so many: the sum of its bytes modulo the buckets
abbrev pub bucket_of : ℕ → List ℕ → ℕ
bucket_of buckets key = sum key % buckets

-- whether the entry has this key
abbrev pub item_has_key : List ℕ → HashItem → Bool
item_has_key key item = pointwise nat_eq key item.key

-- the entries in the bucket of a key
abbrev pub items_by : HashRow → List ℕ → List HashItem
items_by row key = get_or row.buckets (bucket_of (length row.buckets) key) []

-- the newest entry of a key, where there is one
abbrev pub item_of : HashRow → List ℕ → Option HashItem
item_of row key = find (item_has_key key) (items_by row key)

-- the hash with other entries in the bucket of a key
abbrev pub with_items : HashRow → List ℕ → List HashItem → HashRow
with_items row key items = record row { buckets = set row.buckets (bucket_of (length row.buckets) key) items }

-- the hash with an entry in front of the bucket of its key
abbrev pub with_item : HashRow → HashItem → HashRow
with_item row item = with_items row item.key (item ∷ items_by row item.key)

-- the entries with another value in the first of a key
unfoldable pub revised : List ℕ → ℕ → List HashItem → List HashItem
revised key value [] = []
revised key value (item ∷ items) =
    if item_has_key key item then record item { value = value } ∷ items else item ∷ revised key value items

-- the hash with another value of a key
abbrev pub with_value : HashRow → List ℕ → ℕ → HashRow
with_value row key value = with_items row key (revised key value (items_by row key))

-- the entries without the first of a key
unfoldable pub removed : List ℕ → List HashItem → List HashItem
removed key [] = []
removed key (item ∷ items) = if item_has_key key item then items else item ∷ removed key items

-- the hash without a key
abbrev pub without_key : HashRow → List ℕ → HashRow
without_key row key = with_items row key (removed key (items_by row key))
