-- Which orders are total preorders of keys: those of all lists of bytes, and so those by bytes and by length.
use Rattle.std.specs.Prelude.{ℕ, List, length}
use Rattle.std.specs.Cmp.{IsTotalOrder, nat_cmp_total, on_total}
use Rattle.std.specs.Cmp.Lexicographic.{nat_list_cmp_total, slice_cmp}
use Rattle.std.specs.Ordering.{nat_cmp}
use Rattle.std.specs.declared.cmp.Ordering.{Ordering}
use Rattle.sdr_list.specs.Orders.{IsPreorder}
use Rattle.sdr_list.specs.declared.orders.ListKeys.{ListKeys}
use Rattle.sdr_list.specs.declared.orders.ListKeys.TheVariants as keys

-- how two keys compare by these
abbrev pub key_order : ListKeys → List ℕ → List ℕ → Ordering
key_order keys.ByBytes a b = slice_cmp nat_cmp a b
key_order keys.ByLength a b = nat_cmp (length a) (length b)

-- a total order of all lists of bytes is a total preorder of keys
pub on_keys : {order : List ℕ → List ℕ → Ordering} → IsTotalOrder order → IsPreorder order
on_keys o = record {
  turned = λ a b p q. o.antisymm a b;
  trans = λ a b c p q r f s. o.trans a b c f s;
  alike = λ a b c p q r f. o.congr a b c f;
}

-- each is a total preorder of keys
pub order_total : (by : ListKeys) → IsPreorder (key_order by)
order_total keys.ByBytes = on_keys nat_list_cmp_total
order_total keys.ByLength = on_keys (on_total (λ (xs : List ℕ). length xs) nat_cmp_total)
