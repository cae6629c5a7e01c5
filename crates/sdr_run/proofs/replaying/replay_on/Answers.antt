use Rattle.std.proofs.Common.{◌∙◌, List, ℕ, ap, subst, sym}
use Rattle.sdr_core.specs.CoreKept.{BeginsOn}
use Rattle.sdr_model.specs.declared.script.ScriptStep.{ScriptStep}
use Rattle.sdr_run.proofs.ReplayingLemmas.{begins_opened, ground_of, opened_unrun, replayed}
use Rattle.sdr_run.specs.Playing.{Output, output}
use Rattle.sdr_run.specs.Recording.{PlaysOut}
use Rattle.sdr_run.specs.Replaying.{begins_on}
use Rattle.sdr_station.specs.Grounded.{Grounded}
use Rattle.sdr_words.specs.Daemons.{daemons_of}
use Rattle.sdr_run.proofs.replaying.replay_on.Goals as goal

pub play_recorded-requires-clause-named : goal.play_recorded-requires-clause-named
play_recorded-requires-clause-named g c =
    c.deref.ensures.value ∙ c.in-Ok-daemons_of.ensures.named ∙ sym (ap daemons_of c.new-steps.ensures)

pub play_recorded-requires-clause-begins : goal.play_recorded-requires-clause-begins
play_recorded-requires-clause-begins g c =
    let ground = ground_of g.D.Disk g.M.Media g.J.HandedIn.condition in
    let was = g.J.HandedIn.was in
    let script = c.args.script.now in
    let base = c.in-Ok.base in
    subst (λ (ds : List ℕ). BeginsOn ground (begins_on g.M.Media was c.new-steps.result base) ds base)
    (sym (c.deref.ensures.value ∙ c.in-Ok-daemons_of.ensures.named))
    (subst (λ (steps : List ScriptStep). BeginsOn ground (begins_on g.M.Media was steps base) (daemons_of script) base) (sym c.new-steps.ensures)
    (begins_opened g.D.Disk g.M.Media c.args.disk c.args.media script base g.J.HandedIn.condition
    c.requires.settled c.in-Ok.ensures.opened was c.requires.handed))

pub returns-in_default-clause-shut : goal.returns-in_default-clause-shut
returns-in_default-clause-shut g c =
    opened_unrun g.D.Disk c.args.disk c.shut_unrun.result.disk c.args.media c.in-Ok.base c.shut_unrun.result.why c.in-Ok.ensures.opened
    c.shut_unrun.ensures.disk c.shut_unrun.ensures.why

pub returns-clause-shut : goal.returns-clause-shut
returns-clause-shut g c =
    let D = g.row.D.Denot in
    let M = g.row.M.Denot in
    let shut = c.shut_unrun-in-Err-play_recorded in
    opened_unrun g.D.Disk c.args.disk shut.result.disk c.args.media c.in-Ok.base shut.result.why c.in-Ok.ensures.opened
    (shut.ensures.disk ∙ ap (λ (x : Grounded D M). x.heap.cells.disk) c.in-Err-play_recorded.ensures.back.0) shut.ensures.why

pub returns-in-Ok-play_recorded-clause-ran : goal.returns-in-Ok-play_recorded-clause-ran
returns-in-Ok-play_recorded-clause-ran g c =
    let ground = ground_of g.D.Disk g.M.Media g.J.HandedIn.condition in
    let was = g.J.HandedIn.was in
    let script = c.args.script.now in
    let base = c.in-Ok.base in
    let old : Output = output g.K.Sink.taken g.K.Sink.faults c.args.out.now in
    let new : Output = output g.K.Sink.taken g.K.Sink.faults c.play_recorded.new.out in
    let ran = c.in-Ok-play_recorded.ran in
    let w = c.with_parts.ensures in
    replayed g.D.Disk g.M.Media c.args.disk c.args.media script base g.J.HandedIn.condition
    c.requires.settled c.in-Ok.ensures.opened was c.requires.handed old new ran c.with_parts.result
    (subst (λ (steps : List ScriptStep). PlaysOut ground (begins_on g.M.Media was steps base) steps base old new ran)
    c.new-steps.ensures c.in-Ok-play_recorded.ensures.ran)
    w.same w.disk w.holds w.tells w.stays w.seen w.media
