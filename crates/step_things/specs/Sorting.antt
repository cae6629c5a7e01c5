-- The order of a list that a call names.
use Rattle.std.specs.Prelude.{◌≡◌}
use Rattle.sdr_list.specs.declared.orders.ListKeys.{ListKeys as Order}
use Rattle.sdr_list.specs.declared.orders.ListKeys.TheVariants as orders
use Rattle.sdr_model.specs.declared.keys.Keys.{Keys}
use Rattle.sdr_model.specs.declared.keys.Keys.TheVariants as keys

-- lists are kept by the order that the call names
abbrev pub Sorts : Keys → Order → Type 0
Sorts keys.ByBytes by = by ≡ orders.ByBytes
Sorts keys.ByLength by = by ≡ orders.ByLength
