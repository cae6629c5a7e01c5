use Rattle.std.proofs.Common.{Bool, ◌+◌, nat_le, if◌then◌else◌, ◌==◌, ◌≡◌, ◌∙◌, arith, ap, false, inl, refl, true}
use Rattle.sdr_model.specs.declared.event.Event.TheVariants as events
use Rattle.std.proofs.lemmas.Bool.Decides.{nat_tests}
use Rattle.sdr_machine.specs.Machine.{BeginsUnder}
use Rattle.sdr_machine.specs.Nesting.{Inner, comes_to, deepened, deepest, doomed_for}
use Rattle.sdr_machine.specs.declared.nesting.Nesting.{Nesting}
use Rattle.sdr_model.specs.declared.answer.Answer.TheVariants as answers
use Rattle.sdr_model.specs.declared.answer.Reply.TheVariants as replies
use Rattle.sdr_base.specs.declared.refusal.Refusal.TheVariants as refusals
use Rattle.sdr_base.specs.declared.refusal.Reason.TheVariants as reasons
use Rattle.sdr_machine.specs.Roll.{at_nesting, with_daemon}
use Rattle.sdr_machine.specs.Serving.{Locked, is_disk_fault, machine_at}
use Rattle.sdr_machine.proofs.LockLemmas.{acts_also, acts_told, tells_media, told}
use Rattle.sdr_machine.proofs.WorkLemmas.{on_false, on_true, works_nests}
use Rattle.sdr_machine.proofs.ServedLemmas.{fits_deepened, lock_nested}
use Rattle.sdr_machine.proofs.lock.Lock.begin.Goals as goal

pub returns-then-nesting-eq0 : goal.returns-then-nesting-eq0
returns-then-nesting-eq0 g c =
    let d = c.args.daemon in
    let h = c.args.holding in
    acts_also g.T.HasGround _ _ (λ m e m'. BeginsUnder m d h e m') _ d.id events.Begin c.open.result c.args.self.now c.open.new.self refl
    (λ v v' line opens. on_true _ _ (h.nesting.depth == 0) (grind (arith, nat_tests)) opens) c.open.ensures

-- a nesting that is deepened meets no fault, and tells nothing of media
no_fault : (n : Nesting) → is_disk_fault (told (deepened n).answer) ≡ false
no_fault n = by_depth (nat_le deepest n.depth)
  where
    by_depth : (b : Bool) → is_disk_fault (told (if b then record { answer = answers.Reply (replies.Refused refusals.TooDeep); after = doomed_for (reasons.Refused 23) n } else comes_to n (n.depth + 1)).answer) ≡ false
    by_depth true = refl
    by_depth false = refl

untold : (n : Nesting) → tells_media (deepened n).answer ≡ false
untold n = by_depth (nat_le deepest n.depth)
  where
    by_depth : (b : Bool) → tells_media (if b then record { answer = answers.Reply (replies.Refused refusals.TooDeep); after = doomed_for (reasons.Refused 23) n } else comes_to n (n.depth + 1)).answer ≡ false
    by_depth true = refl
    by_depth false = refl

pub returns : goal.returns
returns g c =
    let h = c.args.holding in
    let d = c.args.daemon in
    let inner : Inner = deepened h.nesting in
    let T = g.row.T.Denot in
    let old : Locked T = record { roll = c.self.inside.roll; base = c.self.inside.base } in
    let new : Locked T = record { roll = c.put.new.self; base = c.self.inside.base } in
    let put : c.put.new.self ≡ with_daemon old.roll (at_nesting d h inner.after) =
    c.put.ensures ∙ ap (with_daemon old.roll) (c.at_nesting.ensures ∙ ap (at_nesting d h) c.begin-answer.ensures.after) in
    let within : (h.nesting.depth == 0) ≡ false = grind (arith, nat_tests) in
    acts_told g.T.HasGround _ _ d.id _ inner.answer c.told.result old _ new (with_daemon old.roll (at_nesting d h inner.after))
    c.self.view_is (c.told.ensures ∙ ap told c.begin-answer.ensures.answer) (no_fault h.nesting) (untold h.nesting) refl put (λ none. none)
    (λ v line goes. on_false _ _ _ within (inl (works_nests (machine_at old.roll v) (machine_at new.roll v) d h events.Begin _ inner (λ said t' nests. nests) goes)))

pub invariant_of-self : goal.invariant_of-self
invariant_of-self g c =
    let h = c.args.holding in
    let d = c.args.daemon in
    let T = g.row.T.Denot in
    let old : Locked T = record { roll = c.self.inside.roll; base = c.self.inside.base } in
    lock_nested g.T.HasGround old c.args.self.now c.self.view_is c.self.invariant d h (deepened h.nesting).after c.put.new.self old.base
    c.requires.turn (c.put.ensures ∙ ap (with_daemon old.roll) (c.at_nesting.ensures ∙ ap (at_nesting d h) c.begin-answer.ensures.after))
    (λ was. (was.0, fits_deepened g.T.HasGround h.nesting old.base was.1))
