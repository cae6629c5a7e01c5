-- The keys by which items are in order.
use Rattle.std.specs.Prelude.{◌≡◌, ℕ, List, length, get_or, nat_lt, if◌then◌else◌}
use Rattle.std.specs.Cmp.{nat_cmp_total, on_total}
use Rattle.std.specs.Ordering.{nat_cmp}
use Rattle.std.specs.declared.cmp.Ordering.{Ordering}
use Rattle.byteorder.specs.Endian.{big_number}
use Rattle.sdr_list.specs.Orders.{IsPreorder}
use Rattle.sdr_list.specs.Preorders.{on_keys}

-- on keys of items the order is that of the numbers in their first eight bytes
abbrev pub ByDeadline : (List ℕ → List ℕ → Ordering) → Type 0
ByDeadline order =
    (a b : List ℕ) → length a ≡ 48 → length b ≡ 48 → order a b ≡ nat_cmp (big_number 8 a) (big_number 8 b)

-- on keys of items the order is that of the byte behind these
abbrev pub ByOrdinal : (List ℕ → List ℕ → Ordering) → Type 0
ByOrdinal order = (a b : List ℕ) → length a ≡ 48 → length b ≡ 48 → order a b ≡ nat_cmp (get_or a 8 0) (get_or b 8 0)

-- the number in the first eight bytes of a key, 0 where it has fewer
abbrev pub deadline_in : List ℕ → ℕ
deadline_in key = if nat_lt (length key) 8 then 0 else big_number 8 key

-- the byte behind them, 0 where there is none
abbrev pub rank_in : List ℕ → ℕ
rank_in key = get_or key 8 0

-- keys by that number
abbrev pub deadline_order : List ℕ → List ℕ → Ordering
deadline_order a b = nat_cmp (deadline_in a) (deadline_in b)

-- keys by that byte
abbrev pub rank_order : List ℕ → List ℕ → Ordering
rank_order a b = nat_cmp (rank_in a) (rank_in b)

-- each is a total preorder of keys
pub deadline_total : IsPreorder deadline_order
deadline_total = on_keys (on_total deadline_in nat_cmp_total)

pub rank_total : IsPreorder rank_order
rank_total = on_keys (on_total rank_in nat_cmp_total)
