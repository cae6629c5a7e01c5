-- The queue is walked until the ticket is found.
use Rattle.std.proofs.Common.{◌∙◌, ap, sym, refl, arith, rules}
use Rattle.sdr_base.proofs.WorksLemmas.{looks_on}
use Rattle.zco_acct.proofs.QueueLemmas.{begun, found_here, found_no_more, found_none, passes, some_here}
use Rattle.zco_acct.proofs.queue.search.Goals as goal

pub loop-i-init : goal.loop-i-init
loop-i-init g c = record {
  walks = begun (c.in_ok-addr.ensures.given ∙ ap (g.O.HasHeap.heap c.args.o.now).roots c.first_word.ensures.word);
  looks = search rules;
}

pub returns-then-addr-eq0-clause-found : goal.returns-then-addr-eq0-clause-found
returns-then-addr-eq0-clause-found g c = found_none c.loop-i.invariant.walks c.if-addr-eq0.true

pub read_ticket-requires-clause-ticket : goal.read_ticket-requires-clause-ticket
read_ticket-requires-clause-ticket g c =
    rw c.loop-i.invariant.looks.same (some_here c.requires.queue c.loop-i.invariant.walks c.if-addr-eq0.false)

pub returns-then-passes-clause-found : goal.returns-then-passes-clause-found
returns-then-passes-clause-found g c =
    found_here _ c.loop-i.invariant.walks c.if-addr-eq0.false
    (rw c.loop-i.invariant.looks.same at c.in_ok-here.ensures.told) (sym c.passes.ensures ∙ c.if-passes.true) refl

pub loop-i-preserved : goal.loop-i-preserved
loop-i-preserved g c = record {
  walks =
      passes c.loop-i.invariant.walks c.if-addr-eq0.false
      (rw c.loop-i.invariant.looks.same at c.in_ok-here.ensures.told) (sym c.passes.ensures ∙ c.if-passes.false);
  looks = looks_on c.loop-i.invariant.looks c.in_ok-here.ensures.looks;
}

pub returns-clause-found : goal.returns-clause-found
returns-clause-found g c =
    found_no_more c.loop-i.invariant.walks (g.met.O.Objects.few c.args.o.now c.requires.kept)
    (g.met.O.Objects.small c.args.o.now c.requires.kept) (omega arith)
