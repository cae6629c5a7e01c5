use Rattle.std.proofs.Common.{◌∙◌, ap, sym}
use Rattle.std.specs.Prelude.{Option}
use Rattle.std.specs.FinMap as finite
use Rattle.sdr_model.proofs.MapLemmas.{inserted}
use Rattle.sdr_model.specs.declared.things.Thing.{Thing}
use Rattle.audit_world.specs.Made.{with_told}
use Rattle.audit_world.proofs.world.put_thing.Goals as goal

pub returns-in_ok-insert : goal.returns-in_ok-insert
returns-in_ok-insert c =
    inserted c.args.things.now.entries c.insert.new.self.entries c.args.addr c.in-Some.thing c.in_ok-insert.ensures.updates.0
    ∙ ap (λ (o : Option Thing). with_told o c.args.addr (finite.from_entries c.args.things.now.entries))
    (sym c.in-Some.is ∙ c.in_ok-thing.ensures)
