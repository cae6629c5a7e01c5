use Rattle.std.proofs.Common.{subst, sym}
use Rattle.std.specs.Prelude.{Contains}
use Rattle.mem_store.specs.Draft.{Draft}
use Rattle.mem_world.proofs.growing.add_component.Goals as goal

pub returns-in-Err-take_component-clause-touched : goal.returns-in-Err-take_component-clause-touched
returns-in-Err-take_component-clause-touched c addr has =
    subst (λ (d : Draft). Contains d.touched addr) (sym c.take_back.ensures)
    (c.take_component.ensures.touched addr (c.charge_account.ensures.touched addr has))
