use Rattle.std.proofs.Common.{◌≡◌, ◌∙◌, Err, ap, inl, inr, is_none, refl, sym, subst, true, arith}
use Rattle.sdr_model.specs.declared.answer.Answer.TheVariants as answers
use Rattle.sdr_machine.specs.Machine.{roll_closed}
use Rattle.sdr_machine.specs.Nesting.{noted}
use Rattle.sdr_machine.specs.Roll.{Roll, at_nesting, with_daemon}
use Rattle.sdr_machine.specs.Serving.{Calls, Locked, machine_at}
use Rattle.sdr_machine.specs.declared.came.Came.{Came}
use Rattle.sdr_machine.proofs.LockLemmas.{acts_asked, acts_failed, media_called}
use Rattle.sdr_machine.proofs.WorkLemmas.{works_called}
use Rattle.sdr_machine.proofs.ServedLemmas.{lock_failed, lock_nested, noted_depth, turn_fits}
use Rattle.sdr_machine.specs.Served.{KeepsGroundReady}
use Rattle.sdr_machine.proofs.lock.Lock.ask.Goals as goal

pub returns-in-Ok-clause-serves : goal.returns-in-Ok-clause-serves
returns-in-Ok-clause-serves g c =
    let h = c.args.holding in
    let d = c.args.daemon in
    let reply = c.in-Ok.reply in
    let a : Came = record { answer = answers.Reply reply; called = true } in
    let T = g.row.T.Denot in
    let old : Locked T = record { roll = c.self.inside.roll; base = c.self.inside.base } in
    let new : Locked T = record { roll = c.put.new.self; base = c.call.new.self } in
    let put : c.put.new.self ≡ with_daemon old.roll (at_nesting d h (noted c.args.call.now reply h.nesting)) =
    c.put.ensures ∙ ap (with_daemon old.roll) (c.at_nesting.ensures ∙ ap (at_nesting d h) c.note.ensures) in
    acts_asked g.T.HasGround _ _ (Calls (g.T.HasGround.told old.base) c.args.call.now reply) d.id _ a a old _ new c.self.view_is refl refl
    (λ called. ap (λ (r : Roll). r.failed) put ∙ ap (λ (l : Locked T). l.roll.failed) c.self.view_is ∙ c.requires.sound) c.requires.sound
    c.in-Ok.ensures.answered c.in-Ok.ensures.keeps c.in-Ok.ensures.any_moment c.in-Ok.ensures.gap
    (media_called g.T.HasGround d h c.args.call.now old _ new c.self.view_is c.requires.turn c.requires.stays c.requires.begun c.requires.undoomed c.requires.sound c.call.ensures.needs)
    (λ v v' called. called.media)
    (λ v v' line called. inl (works_called (machine_at old.roll v) (machine_at new.roll v') d h c.args.call.now reply _ v'
    c.requires.undoomed called.steps refl refl refl (λ i. record { roll = put i; before = called.before i; now = v'.now })))

pub returns-in-Err-Fault-clause-serves : goal.returns-in-Err-Fault-clause-serves
returns-in-Err-Fault-clause-serves g c =
    let h = c.args.holding in
    let d = c.args.daemon in
    let T = g.row.T.Denot in
    let old : Locked T = record { roll = c.self.inside.roll; base = c.self.inside.base } in
    let new : Locked T = record { roll = c.fail.new.roll; base = c.call.new.self } in
    let fault = c.in-Err-Fault.ensures in
    acts_failed g.T.HasGround _ _ d.id _ c.fail.result old _ new (roll_closed old.roll d)
    c.self.view_is c.fail.ensures.answer c.requires.sound (fault.fault (ap Err c.in-Err-Fault.field-0-is)) fault.keeps fault.any_moment
    (media_called g.T.HasGround d h c.args.call.now old _ new c.self.view_is c.requires.turn c.requires.stays c.requires.begun c.requires.undoomed c.requires.sound c.call.ensures.needs)
    c.fail.ensures.roll
    (λ v line faults. inr (record { asks = ap is_none c.requires.undoomed; faults = faults }))

pub call-requires-clause-going : goal.call-requires-clause-going
call-requires-clause-going g c =
    let T = g.row.T.Denot in
    let old : Locked T = record { roll = c.self.inside.roll; base = c.self.inside.base } in
    (turn_fits g.T.HasGround old c.args.self.now c.self.view_is c.self.invariant c.args.daemon c.args.holding c.requires.sound c.requires.turn).1.going c.requires.undoomed

pub invariant_of-self : goal.invariant_of-self
invariant_of-self g c =
    let h = c.args.holding in
    let d = c.args.daemon in
    let reply = c.in-Ok.reply in
    let T = g.row.T.Denot in
    let old : Locked T = record { roll = c.self.inside.roll; base = c.self.inside.base } in
    let put : c.put.new.self ≡ with_daemon old.roll (at_nesting d h (noted c.args.call.now reply h.nesting)) =
    c.put.ensures ∙ ap (with_daemon old.roll) (c.at_nesting.ensures ∙ ap (at_nesting d h) c.note.ensures) in
    lock_nested g.T.HasGround old c.args.self.now c.self.view_is c.self.invariant d h (noted c.args.call.now reply h.nesting) c.put.new.self c.call.new.self
    c.requires.turn put
    (λ was. (
      c.in-Ok.ensures.sound,
      record {
        going = c.in-Ok.ensures.going h.nesting;
        idle = λ zero.
            let same = noted_depth c.args.call.now reply h.nesting in absurd (omega (arith, same, zero, c.requires.begun));
      },
    ))

pub invariant_of-self-in-Err-Memory : goal.invariant_of-self-in-Err-Memory
invariant_of-self-in-Err-Memory g c =
    let T = g.row.T.Denot in
    subst (λ (t : T). KeepsGroundReady g.T.HasGround c.self.inside.roll t) (sym (c.in-Err-Memory.ensures.memory (ap Err c.in-Err-Memory.field-0-is))) c.self.invariant

pub invariant_of-self-in-Err-Fault : goal.invariant_of-self-in-Err-Fault
invariant_of-self-in-Err-Fault g c =
    lock_failed g.T.HasGround c.fail.new.roll c.call.new.self (g.T.HasGround.moment c.call.new.self) (ap (λ (r : Roll). r.failed) c.fail.ensures.roll)
