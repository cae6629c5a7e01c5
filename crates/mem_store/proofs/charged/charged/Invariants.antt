use Rattle.std.proofs.Common.{◌≡◌, ◌+◌}
use Rattle.std.specs.Prelude.{sum_by}
use Rattle.sdr_base.specs.declared.kind.Space.{Space}
use Rattle.sdr_model.specs.Amounts.{amount}
use Rattle.sdr_model.specs.Charges.{thing_charge}
use Rattle.mem_parts.specs.Capped.{capped}
use Rattle.mem_store.specs.Charged.{charged, world_of}
use Rattle.mem_store.specs.Store.{now_at, things_at, things_in}
use Rattle.mem_store.proofs.charged.charged.Given as goal

abbrev pub invariant-loop-addr : goal.invariant-loop-addr
invariant-loop-addr l =
    let w = world_of (things_at now_at l.places.entries) in record {
      held : (space : Space) → amount l.charge space ≡ capped (amount l.charge space);
      sum : (space : Space) → capped (amount l.charge space + sum_by (λ e. thing_charge w l.acct space e.0 e.1) (things_in l.addr-iterator))
          ≡ capped (charged w l.acct space);
    }
