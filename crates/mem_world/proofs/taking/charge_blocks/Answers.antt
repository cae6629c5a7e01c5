use Rattle.std.proofs.Common.{subst, sym}
use Rattle.std.specs.Prelude.{Contains}
use Rattle.mem_store.specs.Draft.{Draft}
use Rattle.mem_world.proofs.taking.charge_blocks.Goals as goal

pub returns-in-Err-reserve_blocks-clause-touched : goal.returns-in-Err-reserve_blocks-clause-touched
returns-in-Err-reserve_blocks-clause-touched c addr has =
    subst (λ (d : Draft). Contains d.touched addr) (sym c.take_back.ensures)
    (c.reserve_blocks.ensures.touched addr (c.charge_account.ensures.touched addr has))
