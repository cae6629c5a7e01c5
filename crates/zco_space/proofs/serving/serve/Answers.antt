-- The tickets are served one by one.
use Rattle.std.proofs.Common.{◌∙◌, ◌+◌, ap, sym, arith}
use Rattle.std.specs.Prelude.{Ok, Err}
use Rattle.std.proofs.lemmas.Result.{err_from_is_err_and}
use Rattle.sdr_base.proofs.WithinLemmas.{within_none, within_ok, within_stopped}
use Rattle.sdr_base.proofs.WorksLemmas.{looks_looks, looks_works, works_more, works_ok, works_stopped, works_then}
use Rattle.sdr_model.specs.Amounts.{are_within}
use Rattle.sdr_model.specs.declared.accounts.Ticket.{Ticket}
use Rattle.zco_acct.specs.Kept.{AmountsFit}
use Rattle.zco_space.specs.Served.{waiting_tickets}
use Rattle.zco_space.proofs.LinesLemmas.{grants_next, serves_same, serving_upto}
use Rattle.zco_space.proofs.ServesLemmas.{count_below, count_most, goes_on, inside_here, passes, serves_all, serves_most, serves_some, some_here, sum_fits, taken_next, unmoved}
use Rattle.zco_space.proofs.ServingLemmas.{starts}
use Rattle.zco_space.proofs.serving.serve.Goals as goal

pub loop-i-init : goal.loop-i-init
loop-i-init g c =
    let t = rw c.maxima.ensures.looks.same at c.in_ok-taken.ensures.given in
    let a = rw (c.occupied.ensures.looks.same, c.maxima.ensures.looks.same) at c.in_ok-addr.ensures.given in
    record {
      serves =
          rw (c.root.ensures.looks.same, c.occupied.ensures.looks.same, c.maxima.ensures.looks.same)
          (starts t (a ∙ ap (g.O.HasHeap.heap c.args.o.now).roots c.first_word.ensures.word));
      few = omega arith;
      fits = record { file = omega arith; bulk = omega arith; heap = omega arith };
      works =
          works_ok (looks_works (looks_looks (looks_looks c.in_ok-most.ensures.looks c.in_ok-taken.ensures.looks)
          c.in_ok-addr.ensures.looks));
      lines = λ tickets k.
          within_none _ (Ok 0)
          (c.in_ok-addr.ensures.looks.touched ∙ c.in_ok-taken.ensures.looks.touched ∙ c.in_ok-most.ensures.looks.touched);
    }

pub returns-then-addr-eq0-clause-served : goal.returns-then-addr-eq0-clause-served
returns-then-addr-eq0-clause-served g c = serves_all c.loop-i.invariant.serves c.if-addr-eq0.true

pub returns-then-addr-eq0-clause-works : goal.returns-then-addr-eq0-clause-works
returns-then-addr-eq0-clause-works g c =
    λ tickets k. let n = count_most c.loop-i.invariant.serves k in
    works_ok (works_more c.loop-i.invariant.works (omega (arith, n)))

pub returns-then-addr-eq0-clause-lines : goal.returns-then-addr-eq0-clause-lines
returns-then-addr-eq0-clause-lines g c =
    λ tickets k.
    within_ok (serving_upto c.args.acct _ _ (waiting_tickets tickets) (count_most c.loop-i.invariant.serves k)
    (c.loop-i.invariant.lines tickets k))

pub read_ticket-requires-clause-ticket : goal.read_ticket-requires-clause-ticket
read_ticket-requires-clause-ticket g c = some_here c.loop-i.invariant.serves c.requires.queue c.if-addr-eq0.false

pub returns-in_err-here-clause-works : goal.returns-in_err-here-clause-works
returns-in_err-here-clause-works g c =
    let p = err_from_is_err_and c.from_residual-in_err-here.result c.from_residual-in_err-here.ensures.1 in
    λ tickets k. let n = count_most c.loop-i.invariant.serves k in
    rw (p.1, p.2)
    (works_stopped _ (works_more (works_then c.loop-i.invariant.works (looks_works c.in_err-here.ensures.looks)) (omega (arith, n))))

pub returns-in_err-here-clause-lines : goal.returns-in_err-here-clause-lines
returns-in_err-here-clause-lines g c =
    let p = err_from_is_err_and c.from_residual-in_err-here.result c.from_residual-in_err-here.ensures.1 in
    λ tickets k.
    rw (p.1, p.2)
    (serving_upto c.args.acct _ _ (waiting_tickets tickets) (count_most c.loop-i.invariant.serves k)
    (serves_same (Err _) (c.loop-i.invariant.lines tickets k) c.in_err-here.ensures.looks.touched))

pub loop-i-preserved-then-here : goal.loop-i-preserved-then-here
loop-i-preserved-then-here g c = record {
  serves =
      rw c.read_ticket.ensures.looks.same
      (passes c.loop-i.invariant.serves c.if-addr-eq0.false c.in_ok-here.ensures.told c.if-here.true);
  few = let f = c.loop-i.invariant.few in omega (arith, f);
  fits = c.loop-i.invariant.fits;
  works = works_ok (works_more (works_then c.loop-i.invariant.works (looks_works c.in_ok-here.ensures.looks)) (omega arith));
  lines = λ tickets k. serves_same (Ok 0) (c.loop-i.invariant.lines tickets k) c.in_ok-here.ensures.looks.touched;
}

pub returns-then-not-told-clause-served : goal.returns-then-not-told-clause-served
returns-then-not-told-clause-served g c =
    rw c.read_ticket.ensures.looks.same
    (serves_some c.loop-i.invariant.serves c.in_ok-most.ensures.given c.if-addr-eq0.false c.in_ok-here.ensures.told
    c.if-here.false
    (ap (are_within c.in_ok-here.here.ticket.asked) (sym c.minus.ensures) ∙ sym c.told.ensures ∙ c.if-not-told.true))

pub returns-then-not-told-clause-works : goal.returns-then-not-told-clause-works
returns-then-not-told-clause-works g c =
    λ tickets k. let n = count_most c.loop-i.invariant.serves k in
    works_ok (works_more (works_then c.loop-i.invariant.works (looks_works c.in_ok-here.ensures.looks)) (omega (arith, n)))

pub returns-then-not-told-clause-lines : goal.returns-then-not-told-clause-lines
returns-then-not-told-clause-lines g c =
    λ tickets k.
    serving_upto c.args.acct _ _ (waiting_tickets tickets) (count_most c.loop-i.invariant.serves k)
    (serves_same (Ok _) (c.loop-i.invariant.lines tickets k) c.in_ok-here.ensures.looks.touched)

pub grant-requires-clause-inside : goal.grant-requires-clause-inside
grant-requires-clause-inside g c =
    rw c.read_ticket.ensures.looks.same
    (inside_here c.loop-i.invariant.serves c.requires.queue c.if-addr-eq0.false c.in_ok-here.ensures.told)

pub grant-requires-clause-fits : goal.grant-requires-clause-fits
grant-requires-clause-fits g c =
    let m : AmountsFit c.in_ok-most.most = record { file = omega arith; bulk = omega arith; heap = omega arith } in
    sum_fits c.in_ok-here.here.ticket.asked m c.loop-i.invariant.fits
    (ap (are_within c.in_ok-here.here.ticket.asked) (sym c.minus.ensures) ∙ sym c.told.ensures ∙ c.if-not-told.false)

pub returns-in_err-taken-2-clause-refused : goal.returns-in_err-taken-2-clause-refused
returns-in_err-taken-2-clause-refused g c =
    let p = err_from_is_err_and c.from_residual-in_err-taken-2.result c.from_residual-in_err-taken-2.ensures.1 in
    let u = rw c.read_ticket.ensures.looks.same at c.in_err-taken-2.ensures.refused in
    rw (p.1, p.2) (unmoved c.loop-i.invariant.serves (g.O.HasHeap.heap c.grant.new.o) _ u c.requires.queue)

pub returns-in_err-taken-2-clause-works : goal.returns-in_err-taken-2-clause-works
returns-in_err-taken-2-clause-works g c =
    let p = err_from_is_err_and c.from_residual-in_err-taken-2.result c.from_residual-in_err-taken-2.ensures.1 in
    let f = ap (are_within c.in_ok-here.here.ticket.asked) (sym c.minus.ensures) ∙ sym c.told.ensures ∙ c.if-not-told.false in
    λ tickets k.
    let n =
    count_below c.loop-i.invariant.serves k c.in_ok-most.ensures.given c.if-addr-eq0.false c.in_ok-here.ensures.told
    c.if-here.false f in
    rw (p.1, p.2)
    (works_stopped _ (works_more (works_then (works_then c.loop-i.invariant.works (looks_works c.in_ok-here.ensures.looks))
    c.in_err-taken-2.ensures.works) (omega (arith, n))))

pub returns-in_err-taken-2-clause-lines : goal.returns-in_err-taken-2-clause-lines
returns-in_err-taken-2-clause-lines g c =
    let p = err_from_is_err_and c.from_residual-in_err-taken-2.result c.from_residual-in_err-taken-2.ensures.1 in
    let f = ap (are_within c.in_ok-here.here.ticket.asked) (sym c.minus.ensures) ∙ sym c.told.ensures ∙ c.if-not-told.false in
    λ tickets k.
    let n =
    count_below c.loop-i.invariant.serves k c.in_ok-most.ensures.given c.if-addr-eq0.false c.in_ok-here.ensures.told
    c.if-here.false f in
    rw (p.1, p.2)
    (within_stopped _
    (serving_upto c.args.acct (c.loop-i.granted + 1) _ (waiting_tickets tickets) n
    (grants_next c.args.acct _ _ c.in_ok-here.here.ticket
    (taken_next c.loop-i.invariant.serves k c.if-addr-eq0.false c.in_ok-here.ensures.told c.if-here.false)
    (c.loop-i.invariant.lines tickets k) c.in_ok-here.ensures.looks.touched c.in_err-taken-2.ensures.lines)))

pub loop-i-preserved : goal.loop-i-preserved
loop-i-preserved g c =
    let granted = rw c.read_ticket.ensures.looks.same at c.in_ok-taken-2.ensures.granted in
    record {
      serves =
          goes_on c.loop-i.invariant.serves (g.O.HasHeap.heap c.grant.new.o) c.in_ok-most.ensures.given c.if-addr-eq0.false
          c.in_ok-here.ensures.told c.if-here.false
          (ap (are_within c.in_ok-here.here.ticket.asked) (sym c.minus.ensures) ∙ sym c.told.ensures ∙ c.if-not-told.false)
          granted;
      few = let f = c.loop-i.invariant.few in omega (arith, f);
      fits = record { file = omega arith; bulk = omega arith; heap = omega arith };
      works =
          works_ok (works_more (works_then (works_then c.loop-i.invariant.works (looks_works c.in_ok-here.ensures.looks))
          c.in_ok-taken-2.ensures.works) (omega arith));
      lines = λ tickets k.
          within_ok
          (grants_next c.args.acct _ _ c.in_ok-here.here.ticket
          (taken_next c.loop-i.invariant.serves k c.if-addr-eq0.false c.in_ok-here.ensures.told c.if-here.false)
          (c.loop-i.invariant.lines tickets k) c.in_ok-here.ensures.looks.touched c.in_ok-taken-2.ensures.lines);
    }

pub returns-clause-served : goal.returns-clause-served
returns-clause-served g c =
    serves_most c.loop-i.invariant.serves (g.met.O.Objects.few c.args.o.now c.requires.kept)
    (g.met.O.Objects.small c.args.o.now c.requires.kept) (omega arith)

pub returns-clause-works : goal.returns-clause-works
returns-clause-works g c =
    λ tickets k. let n = count_most c.loop-i.invariant.serves k in
    works_ok (works_more c.loop-i.invariant.works (omega (arith, n)))

pub returns-clause-lines : goal.returns-clause-lines
returns-clause-lines g c =
    λ tickets k.
    within_ok (serving_upto c.args.acct _ _ (waiting_tickets tickets) (count_most c.loop-i.invariant.serves k)
    (c.loop-i.invariant.lines tickets k))
