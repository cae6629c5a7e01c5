use Rattle.std.proofs.Common.{◌≡◌, ◌∙◌, ap, false, inl, inr, refl, subst, sym, true, true≢false, [], Some}
use Rattle.sdr_model.specs.declared.event.Event.TheVariants as events
use Rattle.sdr_machine.specs.Roll.{when_done, with_daemon, Roll, daemon_of}
use Rattle.sdr_machine.specs.Serving.{Locked, Sees, after_look, machine_at}
use Rattle.sdr_machine.proofs.GroundLemmas.{keeps_more}
use Rattle.sdr_machine.proofs.LockLemmas.{acts_asked, acts_failed, agrees_untold, media_same, no_gap_cause, sight_no_fault, sight_untold, told}
use Rattle.sdr_machine.proofs.WorkLemmas.{looks_so}
use Rattle.sdr_machine.proofs.ServedLemmas.{lock_done, lock_failed, looked_free}
use Rattle.sdr_machine.proofs.lock.Lock.look.Goals as goal

pub returns-in-Ok : goal.returns-in-Ok
returns-in-Ok g c =
    let d = c.args.daemon in
    let ticket = c.args.ticket in
    let answer = c.in-Ok.answer in
    let T = g.row.T.Denot in
    let old : Locked T = record { roll = c.self.inside.roll; base = c.self.inside.base } in
    let new : Locked T = record { roll = c.put.new.self; base = c.sight.new.base } in
    let roll : c.put.new.self ≡ with_daemon old.roll (after_look d ticket answer) = c.put.ensures ∙ ap (with_daemon old.roll) c.after_look.ensures in
    acts_asked g.T.HasGround false _ (Sees old.roll d ticket answer) d.id _ (told answer) c.told.result old _ new
    c.self.view_is c.told.ensures
    (sight_no_fault answer c.in-Ok.ensures.kind) (λ called. absurd (true≢false (sym called))) c.requires.sound c.in-Ok.ensures.seen
    (keeps_more g.T.HasGround c.in-Ok.ensures.keeps) c.in-Ok.ensures.any_moment
    (no_gap_cause answer _ _ (sight_untold answer c.in-Ok.ensures.kind))
    (media_same g.T.HasGround d.id _ old new (c.in-Ok.ensures.keeps.unasked refl))
    (λ v v' sees. agrees_untold (g.T.HasGround.told old.base) v.now.world (events.Look ticket) answer [] (sight_untold answer c.in-Ok.ensures.kind))
    (λ v v' line sees. inl (looks_so (machine_at old.roll v) (machine_at new.roll v') d _ ticket old.roll (record {
      told = record { answer = sees.seen; moves = refl; bytes = refl };
      after = λ i. record { roll = (roll ∙ ap (λ a. with_daemon old.roll (after_look d ticket a)) sees.seen) i; before = sees.still.before i; now = sees.still.now i };
    })))

pub returns-in-Err : goal.returns-in-Err
returns-in-Err g c =
    let d = c.args.daemon in
    let T = g.row.T.Denot in
    let old : Locked T = record { roll = c.self.inside.roll; base = c.self.inside.base } in
    let new : Locked T = record { roll = c.fail.new.roll; base = c.sight.new.base } in
    acts_failed g.T.HasGround false _ d.id _ c.fail.result old _ new (with_daemon old.roll (when_done d))
    c.self.view_is c.fail.ensures.answer c.requires.sound c.in-Err.ensures.fault (keeps_more g.T.HasGround c.in-Err.ensures.keeps) c.in-Err.ensures.any_moment
    (media_same g.T.HasGround d.id _ old new (c.in-Err.ensures.keeps.unasked refl))
    c.fail.ensures.roll (λ v line faults. inr faults)

pub invariant_of-self : goal.invariant_of-self
invariant_of-self g c =
    let d = c.args.daemon in
    let free = looked_free d c.args.ticket c.in-Ok.answer in
    let T = g.row.T.Denot in
    let old : Locked T = record { roll = c.self.inside.roll; base = c.self.inside.base } in
    lock_done g.T.HasGround old c.args.self.now c.self.view_is c.self.invariant d (after_look d c.args.ticket c.in-Ok.answer) c.put.new.self c.sight.new.base
    (subst (λ id. daemon_of c.args.self.now.roll id ≡ Some d) (sym free.1) c.requires.found) free.0
    (c.put.ensures ∙ ap (with_daemon old.roll) c.after_look.ensures) (λ sound. c.in-Ok.ensures.idle)

pub invariant_of-self-in-Err : goal.invariant_of-self-in-Err
invariant_of-self-in-Err g c =
    lock_failed g.T.HasGround c.fail.new.roll c.sight.new.base (g.T.HasGround.moment c.sight.new.base) (ap (λ (r : Roll). r.failed) c.fail.ensures.roll)
