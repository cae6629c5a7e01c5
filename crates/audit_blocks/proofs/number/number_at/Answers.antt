use Rattle.std.proofs.Common.{◌≡◌, ◌∙◌, ◌+◌, ◌-◌, ℕ, take, drop, ap, arith}
use Rattle.byteorder.specs.Endian.{big_number}
use Rattle.sdr_base.proofs.StoredLemmas.{big_number-part}
use Rattle.sdr_base.specs.Stored.{number_at}
use Rattle.audit_blocks.proofs.number.number_at.Goals as goal

pub returns : goal.returns
unfolding number_at
returns c =
    let eight : c.args.place + 8 - c.args.place ≡ 8 = omega arith in
    c.read_u64.ensures
    ∙ ap (λ (k : ℕ). big_number 8 (take k (drop c.args.place c.args.heap.now))) eight
    ∙ big_number-part c.args.place 8 c.args.heap.now
