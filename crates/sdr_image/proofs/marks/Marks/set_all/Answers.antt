use Rattle.std.proofs.Common.{◌∙◌, ap, arith, List, length, cond, sym}
use Rattle.std.proofs.lemmas.List.{length-set}
use Rattle.sdr_log.specs.Log.{names_line}
use Rattle.sdr_log.specs.declared.record.Record.{Record}
use Rattle.sdr_image.specs.Marks.{stand_at}
use Rattle.sdr_image.specs.declared.marks.Stand.{Stand}
use Rattle.sdr_image.proofs.MarksLemmas.{below_all, mark_one}
use Rattle.sdr_image.proofs.marks.Marks.set_all.Goals as goal

pub set-requires-clause-below : goal.set-requires-clause-below
set-requires-clause-below c = (below_all _ _ _ _ c.in-Some.ensures.cases.0 c.loop-first.invariant.below).0

pub loop-first-preserved : goal.loop-first-preserved
loop-first-preserved c =
    let inv = c.loop-first.invariant in
    let all = below_all _ _ _ _ c.in-Some.ensures.cases.0 inv.below in
    let r = c.in-Some.first.now in
    let same = ap length c.set.ensures ∙ length-set c.loop-first.self r.line c.args.stand in
    record {
      below = λ line named. omega (arith, all.1 line named, same);
      long = same ∙ inv.long;
      placed = inv.placed;
      marked = λ line.
          ap (λ (ms : List Stand). cond (names_line c.in-Some.after.now line) c.args.stand (stand_at ms line)) c.set.ensures
          ∙ mark_one c.loop-first.self c.args.stand r c.in-Some.after.now line all.0
          ∙ ap (λ (l : List Record). cond (names_line l line) c.args.stand (stand_at c.loop-first.self line))
          (sym c.in-Some.ensures.cases.0)
          ∙ inv.marked line;
    }
