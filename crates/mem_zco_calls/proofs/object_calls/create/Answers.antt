use Rattle.std.proofs.Common.{◌≡◌, ◌∙◌, ap, ap₂, subst, sym}
use Rattle.std.specs.Prelude.{IfOk}
use Rattle.sdr_base.specs.declared.kind.Space.TheVariants as spaces
use Rattle.mem_world.specs.Allowed.{MayCharge}
use Rattle.sdr_model.specs.Amounts.{in_space}
use Rattle.sdr_model.specs.Charges.{object_bytes}
use Rattle.sdr_model.specs.Charging.{with_covered}
use Rattle.sdr_model.specs.Dry.{StepsDry, dry_moves, with_blocks}
use Rattle.sdr_model.specs.ObjectSteps.{with_object}
use Rattle.sdr_model.specs.Things.{object_need}
use Rattle.sdr_model.specs.Zco.{empty_object}
use Rattle.sdr_model.specs.declared.answer.Reply.TheVariants as replies
use Rattle.sdr_model.specs.declared.call.Call.{Call}
use Rattle.sdr_model.specs.declared.call.Call.TheVariants as calls
use Rattle.mem_zco_calls.proofs.ObjectCallLemmas.{one-step}
use Rattle.mem_zco_calls.proofs.object_calls.create.Goals as goal

pub returns-in-Ok : goal.returns-in-Ok
returns-in-Ok c =
    let w = c.args.world.now.now in
    let amounts = c.heap_charge.result in
    let p = c.in-Ok.field-0 in
    let call : Call = calls.Create c.args.acct c.args.number in
    let may = subst (λ v. MayCharge v c.args.acct c.args.number amounts p) c.touch.ensures.now
    (subst (λ r. IfOk r (MayCharge c.touch.new.self.now c.args.acct c.args.number amounts)) c.in-Ok.is c.in_ok-charge_blocks.ensures.allowed) in
    let taken = subst (λ r. IfOk r (λ p. c.charge_blocks.new.world.now ≡ with_blocks (with_covered c.touch.new.self.now p amounts) 1))
    c.in-Ok.is c.in_ok-charge_blocks.ensures.taken in
    let charged : c.charge_blocks.new.world.now ≡ with_blocks (with_covered w p amounts) 1 =
    taken ∙ ap (λ v. with_blocks (with_covered v p amounts) 1) c.touch.ensures.now in
    record {
      step = subst (λ a. StepsDry w call (dry_moves w call (replies.At a)) c.put.new.self.now (replies.At a)) (sym c.next-addr.ensures.value)
          (one-step w c.put.new.self.now call c.args.acct c.args.number object_need (in_space spaces.Heap object_bytes) amounts
          (λ addr. addr) (λ addr. empty_object c.args.acct) (λ addr. replies.At addr) (λ o row. row) c.heap_charge.ensures p may
          (c.put.ensures.put ∙ ap (λ v. with_object v c.next-addr.result c.empty_object.result) charged
          ∙ ap₂ (with_object (with_blocks (with_covered w p amounts) 1)) c.next-addr.ensures.value c.empty_object.ensures));
      begun = c.put.ensures.keeps.begun ∙ c.charge_blocks.ensures.keeps.begun ∙ c.touch.ensures.keeps.begun;
      same = tt;
    }
