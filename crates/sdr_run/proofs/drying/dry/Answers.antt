use Rattle.std.proofs.Common.{◌≡◌, ◌∙◌, List, ℕ, ap, arith, length, subst, sym}
use Rattle.mem_machine.proofs.RunLemmas.{memory_run}
use Rattle.mem_machine.specs.MemoryRun.{MemoryRun, first_run}
use Rattle.sdr_model.specs.declared.script.ScriptStep.{ScriptStep}
use Rattle.sdr_run.proofs.DryLemmas.{dry_of}
use Rattle.sdr_run.specs.Dry.{IsDry}
use Rattle.sdr_run.specs.Playing.{Output, Plays, output}
use Rattle.sdr_words.specs.Daemons.{daemons_of}
use Rattle.sdr_run.proofs.drying.dry.Given.{Over}
use Rattle.sdr_run.proofs.drying.dry.Goals as goal

-- what is seen of the output
abbrev seen : (g : Over) → g.row.K.Denot → Output
seen g out = output g.K.Sink.taken g.K.Sink.faults out

pub play-played-requires-clause-drawn : goal.play-played-requires-clause-drawn
play-played-requires-clause-drawn g c =
    let none = ap (λ (k : MemoryRun g.row.M.Denot). k.roll.drawn) c.in-Ok-new.ensures.made in
    let many = ap (λ (steps : List ScriptStep). length steps) c.new-2.ensures in
    omega (arith, none, many, c.requires.few)

pub returns-clause-ran : goal.returns-clause-ran
returns-clause-ran g c =
    let M = g.row.M.Denot in
    let m = g.M.Media in
    let script = c.args.script.now in
    let old = seen g c.args.out.now in
    let new = seen g c.play-played.new.out in
    let last = c.play-played.new.run in
    let played = c.play-played.result in
    let begun : c.in-Ok-new.run' ≡ first_run (daemons_of script) c.args.media =
    c.in-Ok-new.ensures.made ∙ ap (λ (ds : List ℕ). first_run ds c.args.media) (c.deref.ensures.value ∙ c.in-Ok.ensures.named) in
    subst (λ (left : M). IsDry m script c.args.media old new (record { media = left; played = played })) (sym c.into_media.ensures)
    (dry_of m script c.args.media last old new played
    (subst (λ (k : MemoryRun M). Plays (memory_run m) k last script old new played) begun
    (subst (λ (steps : List ScriptStep). Plays (memory_run m) c.in-Ok-new.run' last steps old new played) c.new-2.ensures c.play-played.ensures.plays)))
