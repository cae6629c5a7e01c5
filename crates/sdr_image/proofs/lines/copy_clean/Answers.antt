use Rattle.std.proofs.Common.{◌∙◌, ◌*◌, ap, length}
use Rattle.sdr_base.specs.Parts.{part}
use Rattle.sdr_log.specs.Log.{heap_of}
use Rattle.sdr_log.proofs.BatchesLemmas.{part-within}
use Rattle.sdr_image.proofs.lines.copy_clean.Goals as goal

pub returns-in-Some-clause-given : goal.returns-in-Some-clause-given
returns-in-Some-clause-given g c =
    let heap = heap_of c.args.frame (g.D.Disk.bytes c.args.disk.now) in
    let n = length c.args.into.now in
    let own = c.requires.clean (c.args.line, c.in-Some.bytes.now) c.in-Some.ensures in
    c.copy.ensures ∙ ap (part c.args.at n) own.1 ∙ part-within (64 * c.args.line) c.args.at n 64 heap c.requires.inside

pub returns-clause-given : goal.returns-clause-given
returns-clause-given g c =
    let heap = heap_of c.args.frame (g.D.Disk.bytes c.args.disk.now) in
    let n = length c.args.into.now in
    c.copy-2.ensures
    ∙ ap (part c.args.at n) c.in_ok-bytes.ensures.given
    ∙ part-within (64 * c.args.line) c.args.at n 64 heap c.requires.inside
