-- The bytes read are the leader's.
use Rattle.std.proofs.Common.{◌≡◌, ◌∙◌, ◌+◌, ◌-◌, ℕ, take, drop, ap, arith, refl}
use Rattle.byteorder.specs.Endian.{big_number}
use Rattle.sdr_base.proofs.StoredLemmas.{big_number-part}
use Rattle.sdr_base.specs.Stored.{leader_kind, leader_length, leader_words}
use Rattle.audit_blocks.proofs.label.read_label.Goals as goal

pub returns-clause-given : goal.returns-clause-given
unfolding leader_kind leader_words leader_length
returns-clause-given c =
    let place = c.args.place in
    let three : place + 4 - (place + 1) ≡ 3 = omega arith in
    let four : place + 8 - (place + 4) ≡ 4 = omega arith in
    record {
      kind = refl;
      words =
          c.read_u24.ensures
          ∙ ap (λ (k : ℕ). big_number 3 (take k (drop (place + 1) c.args.heap.now))) three
          ∙ big_number-part (place + 1) 3 c.args.heap.now;
      length =
          c.read_u32.ensures
          ∙ ap (λ (k : ℕ). big_number 4 (take k (drop (place + 4) c.args.heap.now))) four
          ∙ big_number-part (place + 4) 4 c.args.heap.now;
    }
