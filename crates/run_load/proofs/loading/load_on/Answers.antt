use Rattle.std.proofs.Common.{◌∙◌, List, ℕ, ap, arith, length, subst, sym}
use Rattle.sdr_core.specs.CoreKept.{BeginsOn}
use Rattle.sdr_load.specs.Schedule.{script_for}
use Rattle.sdr_model.specs.declared.script.ScriptStep.{ScriptStep}
use Rattle.run_load.proofs.LoadingLemmas.{load_is_short, loaded, sound_stands, sound_untouched}
use Rattle.sdr_run.proofs.ReplayingLemmas.{begins_opened, ground_of, opened_unrun}
use Rattle.sdr_run.specs.Replaying.{begins_on}
use Rattle.sdr_station.specs.Grounded.{Grounded}
use Rattle.sdr_words.specs.Daemons.{daemons_of}
use Rattle.run_load.proofs.loading.load_on.Goals as goal

pub play_recorded-requires-clause-steps : goal.play_recorded-requires-clause-steps
play_recorded-requires-clause-steps g c =
    omega (arith, ap (λ (steps : List ScriptStep). length steps) c.in-Ok-of.ensures.steps, load_is_short c.args.rounds, c.requires.few)

pub play_recorded-requires-clause-few : goal.play_recorded-requires-clause-few
play_recorded-requires-clause-few g c = omega (arith, ap (λ (ds : List ℕ). length ds) c.deref.ensures.value, c.in-Ok-of.ensures.few)

pub play_recorded-requires-clause-named : goal.play_recorded-requires-clause-named
play_recorded-requires-clause-named g c =
    c.deref.ensures.value ∙ c.in-Ok-of.ensures.daemons ∙ sym (ap daemons_of c.in-Ok-of.ensures.steps)

pub play_recorded-requires-clause-begins : goal.play_recorded-requires-clause-begins
play_recorded-requires-clause-begins g c =
    let ground = ground_of g.D.Disk g.M.Media g.J.HandedIn.condition in
    let was = g.J.HandedIn.was in
    let script = script_for c.args.rounds in
    let base = c.in-Ok.base in
    subst (λ (ds : List ℕ). BeginsOn ground (begins_on g.M.Media was c.in-Ok-of.outset.steps base) ds base)
    (sym (c.deref.ensures.value ∙ c.in-Ok-of.ensures.daemons))
    (subst (λ (steps : List ScriptStep). BeginsOn ground (begins_on g.M.Media was steps base) (daemons_of script) base) (sym c.in-Ok-of.ensures.steps)
    (begins_opened g.D.Disk g.M.Media c.args.disk c.args.media script base g.J.HandedIn.condition
    c.requires.settled c.in-Ok.ensures.opened was c.requires.handed))

pub sum_up-requires-clause-stands : goal.sum_up-requires-clause-stands
sum_up-requires-clause-stands g c whole =
    sound_stands g.D.Disk g.M.Media g.J.HandedIn.condition _ _ _ _ _ c.in-Ok-play_recorded.ran c.in-Ok-play_recorded.ensures.ran whole

pub sum_up-requires-clause-untouched : goal.sum_up-requires-clause-untouched
sum_up-requires-clause-untouched g c whole =
    sound_untouched g.D.Disk g.M.Media g.J.HandedIn.condition _ _ _ _ _ c.in-Ok-play_recorded.ran c.in-Ok-play_recorded.ensures.ran whole

pub returns-in_default-clause-shut : goal.returns-in_default-clause-shut
returns-in_default-clause-shut g c =
    opened_unrun g.D.Disk c.args.disk c.shut_unrun.result.disk c.args.media c.in-Ok.base c.shut_unrun.result.why c.in-Ok.ensures.opened
    c.shut_unrun.ensures.disk c.shut_unrun.ensures.why

pub returns-clause-shut : goal.returns-clause-shut
returns-clause-shut g c =
    let D = g.row.D.Denot in
    let M = g.row.M.Denot in
    let shut = c.shut_unrun-in-Err-play_recorded in
    opened_unrun g.D.Disk c.args.disk shut.result.disk c.args.media c.in-Ok.base shut.result.why c.in-Ok.ensures.opened
    (shut.ensures.disk ∙ ap (λ (x : Grounded D M). x.heap.cells.disk) c.in-Err-play_recorded.ensures.back.0) shut.ensures.why

pub returns-in-Ok-play_recorded-clause-ran : goal.returns-in-Ok-play_recorded-clause-ran
returns-in-Ok-play_recorded-clause-ran g c =
    let e = c.sum_up.ensures in
    loaded g.D.Disk g.M.Media c.args.disk c.args.media c.args.rounds c.in-Ok.base g.J.HandedIn.condition
    c.requires.settled c.in-Ok.ensures.opened g.J.HandedIn.was c.requires.handed c.in-Ok-of.outset.steps c.in-Ok-of.ensures.steps _ _
    c.in-Ok-play_recorded.ran c.sum_up.result c.in-Ok-play_recorded.ensures.ran e.journal e.end e.cause e.reads e.later e.media e.holds e.tells e.stays e.seen
