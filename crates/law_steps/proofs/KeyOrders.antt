-- Both orders of keys are total.
use Rattle.std.proofs.Common.{ℕ, List, length}
use Rattle.std.specs.Cmp.{IsTotalOrder}
use Rattle.std.proofs.lemmas.Cmp.{nat_cmp_total, nat_list_cmp_total, on_total}
use Rattle.sdr_model.specs.ListSteps.{compare_keys}
use Rattle.sdr_model.specs.declared.keys.Keys.{Keys}
use Rattle.sdr_model.specs.declared.keys.Keys.TheVariants as keys

pub key_order_total : (by : Keys) → IsTotalOrder (compare_keys by)
key_order_total keys.ByBytes = nat_list_cmp_total
key_order_total keys.ByLength = on_total (λ (key : List ℕ). length key) nat_cmp_total
