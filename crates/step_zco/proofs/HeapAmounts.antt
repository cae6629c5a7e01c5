-- Amounts of heap space alone.
use Rattle.std.proofs.Common.{◌≡◌, ◌+◌, ℕ, refl}
use Rattle.sdr_base.specs.declared.kind.Space.{Space}
use Rattle.sdr_base.specs.declared.kind.Space.TheVariants as spaces
use Rattle.sdr_model.specs.Amounts.{in_space}

pub in_heap-none : (space : Space) → in_space spaces.Heap 0 space ≡ 0
in_heap-none spaces.File = refl
in_heap-none spaces.Bulk = refl
in_heap-none spaces.Heap = refl

pub in_heap-add : (m n : ℕ) (space : Space) →
    in_space spaces.Heap (m + n) space ≡ in_space spaces.Heap m space + in_space spaces.Heap n space
in_heap-add m n spaces.File = refl
in_heap-add m n spaces.Bulk = refl
in_heap-add m n spaces.Heap = refl
