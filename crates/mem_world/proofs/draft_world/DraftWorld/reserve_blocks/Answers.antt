use Rattle.std.proofs.Common.{subst, sym}
use Rattle.std.specs.Prelude.{Contains}
use Rattle.mem_store.specs.Draft.{Draft}
use Rattle.mem_world.proofs.draft_world.DraftWorld.reserve_blocks.Goals as goal

pub returns-in-Err-clause-touched : goal.returns-in-Err-clause-touched
returns-in-Err-clause-touched c addr has =
    subst (λ (d : Draft). Contains d.touched addr) (sym c.self-2.view_is) (c.in-Err.ensures.touched addr has)
