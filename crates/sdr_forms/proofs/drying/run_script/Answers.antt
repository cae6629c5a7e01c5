use Rattle.std.proofs.Common.{arith, subst}
use Rattle.std.specs.Prelude.{codes}
use Rattle.sdr_core.proofs.CausedLemmas.{failed_ever}
use Rattle.sdr_forms.proofs.StillLemmas.{dry_asks, dry_done, dry_fault, dry_known, dry_part, dry_starved, unrun_asks, unrun_media, unrun_starved}
use Rattle.sdr_forms.specs.Answers.{Seen, Wrote, seen}
use Rattle.sdr_forms.proofs.drying.run_script.Given.{Over}
use Rattle.sdr_forms.proofs.drying.run_script.Goals as goal

-- what is seen of the output
abbrev of : (g : Over) → g.row.K.Denot → Seen
of g out = seen g.K.Sink.taken g.K.Sink.faults out

pub returns-in-Ok : goal.returns-in-Ok
returns-in-Ok g c =
    let m = g.M.Media in
    let script = c.args.script.now in
    let files = c.args.media in
    let old = of g c.args.output.now in
    let mid = of g c.dry.new.out in
    let new = of g c.tell_ran-status.new.output in
    let ran = c.in-Ok.ran in
    let status = c.tell_ran-status.result in
    let dry = c.in-Ok.ensures.ran in
    let told = c.tell_ran-status.ensures.told in
    record {
      known = dry_known m script files old mid new ran status dry told;
      later = omega (arith, c.dry.ensures.later, c.tell_ran-status.ensures.later);
      media = failed_ever _ _ _ dry.caused;
      asks = dry_asks m script files old mid new ran status dry told;
      done = dry_done m script files old mid new ran status dry told;
      fault = dry_fault m script files old mid new ran status dry told;
      part = dry_part m script files old mid new ran status dry told;
      starved = dry_starved m script files old mid new ran status dry told c.dry.ensures.later;
    }

-- memory was wanting before the first step
pub returns-in-Err-clause-media : goal.returns-in-Err-clause-media
returns-in-Err-clause-media g c = unrun_media g.M.Media c.args.script.now c.args.media c.in-Err.media c.in-Err.ensures.back.0

pub returns-in-Err-clause-asks : goal.returns-in-Err-clause-asks
returns-in-Err-clause-asks g c =
    unrun_asks g.M.Media c.args.script.now c.args.media c.in-Err.media c.in-Err.ensures.back.0 (of g c.args.output.now) (of g c.last_line.new.output)
    (subst (λ (out : g.row.K.Denot). Wrote (of g out) (of g c.last_line.new.output) (codes "no memory\n")) c.in-Err.ensures.back.1
    c.last_line.ensures.written)

pub returns-in-Err-clause-starved : goal.returns-in-Err-clause-starved
returns-in-Err-clause-starved g c is =
    unrun_starved g.M.Media c.args.script.now c.args.media c.in-Err.media c.in-Err.ensures.back.0 (of g c.args.output.now) (of g c.last_line.new.output)
    (subst (λ (out : g.row.K.Denot). Wrote (of g out) (of g c.last_line.new.output) (codes "no memory\n")) c.in-Err.ensures.back.1
    c.last_line.ensures.written)
