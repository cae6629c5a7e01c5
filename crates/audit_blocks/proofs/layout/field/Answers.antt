use Rattle.std.proofs.Common.{◌≡◌, ◌∙◌, ◌+◌, ◌-◌, ◌*◌, ℕ, take, drop, ap, arith}
use Rattle.byteorder.specs.Endian.{big_number}
use Rattle.sdr_base.proofs.StoredLemmas.{big_number-part}
use Rattle.sdr_base.specs.Stored.{number_at}
use Rattle.audit_blocks.proofs.layout.field.Goals as goal

pub returns : goal.returns
unfolding number_at
returns c =
    let eight : 8 * c.args.n + 8 - 8 * c.args.n ≡ 8 = omega arith in
    c.read_u64.ensures
    ∙ ap (λ (k : ℕ). big_number 8 (take k (drop (8 * c.args.n) c.args.first.now))) eight
    ∙ big_number-part (8 * c.args.n) 8 c.args.first.now
