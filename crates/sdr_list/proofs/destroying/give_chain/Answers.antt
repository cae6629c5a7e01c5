-- The elements go one by one.
use Rattle.std.proofs.Common.{arith, rules}
use Rattle.sdr_base.proofs.WorksLemmas.{looks_works, works_more, works_ok, works_then}
use Rattle.sdr_list.specs.Giving.{GiveStops}
use Rattle.sdr_list.proofs.DestroyLemmas.{cursor_reaches, ended, onward, spare_left, start, stopped}
use Rattle.sdr_list.proofs.destroying.give_chain.Goals as goal

pub loop-i-init : goal.loop-i-init
loop-i-init g c = record {
  gives = rw c.check_failed.ensures.looks.same start;
  works = works_ok (looks_works c.in_ok-check_failed.ensures.looks);
}

pub give_one-requires-clause-kept : goal.give_one-requires-clause-kept
give_one-requires-clause-kept g c = c.loop-i.invariant.works.kept

pub give_one-requires-clause-spare : goal.give_one-requires-clause-spare
give_one-requires-clause-spare g c =
    spare_left c.requires.chain c.loop-i.invariant.gives (omega arith) c.requires.spare

pub give_one-requires-clause-inside : goal.give_one-requires-clause-inside
give_one-requires-clause-inside g c = cursor_reaches c.requires.chain c.loop-i.invariant.gives (omega arith)

pub loop-i-preserved : goal.loop-i-preserved
loop-i-preserved g c = record {
  gives = onward c.loop-i.invariant.gives (omega arith) c.in_ok-element.ensures.next c.in_ok-element.ensures.given;
  works = works_ok (works_more (works_then c.loop-i.invariant.works c.in_ok-element.ensures.works) (omega arith));
}

pub returns-in_err-element-clause-refused : goal.returns-in_err-element-clause-refused
returns-in_err-element-clause-refused g c =
    let s : GiveStops c.args.first c.args.count (g.O.HasHeap.heap c.args.o.now) (g.O.HasHeap.heap c.give_one.new.o)
    c.in_err-element.field-0.0 =
    stopped (g.O.HasHeap.heap c.give_one.new.o) _ c.loop-i.invariant.gives c.in_err-element.ensures.refused in search rules

pub returns-clause-given : goal.returns-clause-given
returns-clause-given g c = ended c.loop-i.invariant.gives (omega arith)
