use Rattle.std.proofs.Common.{[], ◌≡◌, ◌∙◌, ap, inl, inr, refl, sym, subst, true, true≢false, Err, None}
use Rattle.sdr_model.specs.declared.answer.Answer.TheVariants as answers
use Rattle.sdr_machine.specs.Crash.{LeavesOr, is_kept}
use Rattle.sdr_machine.specs.Ground.{State, NoHeap, resting}
use Rattle.sdr_model.specs.World.{empty_world}
use Rattle.sdr_machine.specs.Machine.{roll_closed}
use Rattle.sdr_machine.specs.Roll.{when_done, with_daemon, Roll}
use Rattle.sdr_machine.specs.Serving.{Locked, Settles}
use Rattle.sdr_machine.specs.Transaction.{transaction_of}
use Rattle.sdr_machine.proofs.GroundLemmas.{keeps_more}
use Rattle.sdr_machine.proofs.LockLemmas.{acts_asked, acts_failed, agrees_untold, media_same, told}
use Rattle.sdr_machine.proofs.WorkLemmas.{asks_closing, closes_so, keeps_closing}
use Rattle.sdr_machine.proofs.ServedLemmas.{kept_undoomed, lock_done, lock_failed, turn_fits}
use Rattle.sdr_machine.specs.Served.{KeepsGroundReady}
use Rattle.sdr_machine.proofs.lock.Lock.finish.Goals as goal

-- some state, where any will do
some_state : State
some_state = resting empty_world NoHeap

pub returns-in-Ok-clause-closes : goal.returns-in-Ok-clause-closes
returns-in-Ok-clause-closes g c =
    let h = c.args.holding.now in
    let d = c.args.daemon in
    let close = c.closing-close.result in
    let T = g.row.T.Denot in
    let old : Locked T = record { roll = c.self.inside.roll; base = c.self.inside.base } in
    let new : Locked T = record { roll = c.put.new.self; base = c.settle.new.base } in
    let roll : c.put.new.self ≡ roll_closed old.roll d = c.put.ensures ∙ ap (with_daemon old.roll) c.when_done.ensures in
    let keeps = ap is_kept c.closing-close.ensures ∙ keeps_closing h.number h.nesting some_state c.args.event.now (c.requires.closing some_state) in
    acts_asked g.T.HasGround _ _ (Settles close) d.id _ (told (answers.Closed close)) c.told.result old _ new
    c.self.view_is c.told.ensures refl (λ called. absurd (true≢false (sym called))) c.requires.sound c.in-Ok.ensures.left
    (keeps_more g.T.HasGround c.in-Ok.ensures.keeps)
    (subst (λ k. LeavesOr k g.T.HasGround old.base c.settle.new.base) keeps c.in-Ok.ensures.any_moment) tt
    (media_same g.T.HasGround d.id _ old new (c.in-Ok.ensures.keeps.unasked refl))
    (λ v v' left. agrees_untold (g.T.HasGround.told old.base) v.now.world c.args.event.now (answers.Closed close) [] refl)
    (λ v v' line left. inl (closes_so old.roll new.roll d h _ close v v' c.closing-close.ensures
    (record { answer = refl; moves = refl; bytes = refl }) left roll))

pub returns-in-Err-Fault-clause-closes : goal.returns-in-Err-Fault-clause-closes
returns-in-Err-Fault-clause-closes g c =
    let h = c.args.holding.now in
    let d = c.args.daemon in
    let T = g.row.T.Denot in
    let old : Locked T = record { roll = c.self.inside.roll; base = c.self.inside.base } in
    let new : Locked T = record { roll = c.fail.new.roll; base = c.settle.new.base } in
    let keeps = ap is_kept c.closing-close.ensures ∙ keeps_closing h.number h.nesting some_state c.args.event.now (c.requires.closing some_state) in
    acts_failed g.T.HasGround _ _ d.id _ c.fail.result old _ new (roll_closed old.roll d)
    c.self.view_is c.fail.ensures.answer c.requires.sound (c.in-Err-Fault.ensures.fault (ap Err c.in-Err-Fault.field-0-is))
    (keeps_more g.T.HasGround c.in-Err-Fault.ensures.keeps)
    (subst (λ k. LeavesOr k g.T.HasGround old.base c.settle.new.base) keeps c.in-Err-Fault.ensures.any_moment)
    (media_same g.T.HasGround d.id _ old new (c.in-Err-Fault.ensures.keeps.unasked refl))
    c.fail.ensures.roll
    (λ v line faults. inr (record { asks = asks_closing (transaction_of h v.now) c.args.event.now (c.requires.closing v.now); faults = faults }))

pub returns-in-Err-Memory-clause-kept : goal.returns-in-Err-Memory-clause-kept
returns-in-Err-Memory-clause-kept g c =
    let h = c.args.holding.now in
    sym (keeps_closing h.number h.nesting some_state c.args.event.now (c.requires.closing some_state)) ∙ sym (ap is_kept c.closing-close.ensures) ∙ c.in-Err-Memory.ensures.only (ap Err c.in-Err-Memory.field-0-is)

pub settle-requires-clause-sound : goal.settle-requires-clause-sound
settle-requires-clause-sound g c =
    let T = g.row.T.Denot in
    let old : Locked T = record { roll = c.self.inside.roll; base = c.self.inside.base } in
    (turn_fits g.T.HasGround old c.args.self.now c.self.view_is c.self.invariant c.args.daemon c.args.holding.now c.requires.sound c.requires.turn).0

pub settle-requires-clause-going : goal.settle-requires-clause-going
settle-requires-clause-going g c kept =
    let h = c.args.holding.now in
    let T = g.row.T.Denot in
    let old : Locked T = record { roll = c.self.inside.roll; base = c.self.inside.base } in
    (turn_fits g.T.HasGround old c.args.self.now c.self.view_is c.self.invariant c.args.daemon h c.requires.sound c.requires.turn).1.going
    (kept_undoomed h.nesting c.args.event.now (sym (ap is_kept c.closing-close.ensures) ∙ kept))

pub invariant_of-self : goal.invariant_of-self
invariant_of-self g c =
    let d = c.args.daemon in
    let T = g.row.T.Denot in
    let old : Locked T = record { roll = c.self.inside.roll; base = c.self.inside.base } in
    lock_done g.T.HasGround old c.args.self.now c.self.view_is c.self.invariant d (when_done d) c.put.new.self c.settle.new.base
    c.requires.turn.held.found refl (c.put.ensures ∙ ap (with_daemon old.roll) c.when_done.ensures) (λ sound. c.in-Ok.ensures.idle)

pub invariant_of-self-in-Err-Memory : goal.invariant_of-self-in-Err-Memory
invariant_of-self-in-Err-Memory g c =
    let T = g.row.T.Denot in
    subst (λ (t : T). KeepsGroundReady g.T.HasGround c.self.inside.roll t) (sym (c.in-Err-Memory.ensures.memory (ap Err c.in-Err-Memory.field-0-is))) c.self.invariant

pub invariant_of-self-in-Err-Fault : goal.invariant_of-self-in-Err-Fault
invariant_of-self-in-Err-Fault g c =
    lock_failed g.T.HasGround c.fail.new.roll c.settle.new.base (g.T.HasGround.moment c.settle.new.base) (ap (λ (r : Roll). r.failed) c.fail.ensures.roll)
