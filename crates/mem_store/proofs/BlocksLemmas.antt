-- Owners of blocks that are taken one after another.
use Rattle.std.proofs.Common.{◌≡◌, ◌<◌, ℕ, Bool, true, false, Some, arith, ◌∙◌, refl, cond}
use Rattle.std.specs.BTreeMap.{is_at}
use Rattle.std.specs.Cmp.{nat_cmp_total}
use Rattle.std.specs.FinMap.{get, get-insert, insert}
use Rattle.std.specs.Ordering.{nat_cmp}
use Rattle.sdr_model.specs.Things.{Owners}
use Rattle.sdr_model.proofs.ThingsLemmas.{same_address}

-- the owner of a lower block stays
pub noted_other : (owners : Owners) (addr by other of : ℕ) → other < addr → get owners other ≡ Some of
    → get (insert owners addr by) other ≡ Some of
noted_other owners addr by other of lower is =
    get-insert nat_cmp_total owners addr by other ∙ apart (is_at (nat_cmp other) addr) refl
  where
    apart : (b : Bool) → is_at (nat_cmp other) addr ≡ b → cond b (Some by) (get owners other) ≡ Some of
    apart false at = is
    apart true at = let same : other ≡ addr = same_address other addr at in absurd (omega (arith, lower))
