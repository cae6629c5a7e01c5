use Rattle.std.proofs.Common.{◌∙◌, ap}
use Rattle.run_live.proofs.RunsLemmas.{daemons_ran}
use Rattle.sdr_run.proofs.ReplayingLemmas.{begins_opened, opened_unrun}
use Rattle.sdr_station.specs.Grounded.{Grounded}
use Rattle.run_live.proofs.daemons.run_on.Goals as goal

pub run_on_ground-requires-clause-begins : goal.run_on_ground-requires-clause-begins
run_on_ground-requires-clause-begins g c lives outlive =
    begins_opened g.D.Disk g.M.Media c.args.disk c.args.media c.args.script c.in-Ok.base g.J.HandedIn.condition
    c.requires.settled c.in-Ok.ensures.opened g.J.HandedIn.was c.requires.handed

pub returns-in-Err-run_on_ground-clause-shut : goal.returns-in-Err-run_on_ground-clause-shut
returns-in-Err-run_on_ground-clause-shut g c =
    let D = g.row.D.Denot in
    let M = g.row.M.Denot in
    opened_unrun g.D.Disk c.args.disk c.shut_unrun.result.disk c.args.media c.in-Ok.base c.shut_unrun.result.why c.in-Ok.ensures.opened
    (c.shut_unrun.ensures.disk ∙ ap (λ (x : Grounded D M). x.heap.cells.disk) c.in-Err-run_on_ground.ensures.back) c.shut_unrun.ensures.why

pub returns-in-Ok-run_on_ground-clause-ran : goal.returns-in-Ok-run_on_ground-clause-ran
returns-in-Ok-run_on_ground-clause-ran g c =
    let p = c.into_parts.ensures in
    daemons_ran g.D.Disk g.M.Media c.args.disk c.args.media c.args.script c.in-Ok.base g.J.HandedIn.condition
    c.requires.settled c.in-Ok.ensures.opened g.J.HandedIn.was c.requires.handed c.in-Ok-run_on_ground.ran c.into_parts.result
    c.in-Ok-run_on_ground.ensures.ran p.disk p.holds p.tells p.stays p.seen p.media
