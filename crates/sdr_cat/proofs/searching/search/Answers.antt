-- The catalogue is walked until the name is found.
use Rattle.std.proofs.Common.{ℕ, ◌∙◌, refl, arith, subst}
use Rattle.sdr_cat.specs.Walks.{Compares}
use Rattle.sdr_base.proofs.WritingLemmas.{reaches_less}
use Rattle.sdr_base.proofs.WorksLemmas.{looks_on}
use Rattle.sdr_cat.proofs.WalkLemmas.{answered, found_here, found_no_more, found_none, passes, reaches_here}
use Rattle.sdr_cat.proofs.searching.search.Goals as goal

pub returns-then-addr-eq0-clause-found : goal.returns-then-addr-eq0-clause-found
returns-then-addr-eq0-clause-found g c = found_none c.args.name.now c.loop-i.invariant.walks c.if-addr-eq0.true

pub has_name-requires-clause-inside : goal.has_name-requires-clause-inside
has_name-requires-clause-inside g c =
    rw c.loop-i.invariant.looks.same
    (reaches_less _ 56 _ (reaches_here c.requires.names c.loop-i.invariant.walks c.if-addr-eq0.false) (omega arith))

pub returns-then-branch-clause-found : goal.returns-then-branch-clause-found
returns-then-branch-clause-found g c =
    let h = rw c.loop-i.invariant.looks.same at c.in_ok-has_name.ensures.compared in
    let compared = subst (λ l. Compares ((g.O.HasHeap.heap c.args.o.now).blocks c.loop-i.addr) l c.in_ok-has_name.field-0) c.stored-wanted.ensures h in
    found_here c.args.name.now _ _ c.loop-i.invariant.walks c.if-addr-eq0.false
    (λ row n i. answered c.args.name.now compared row n i ∙ c.if-branch.true) refl refl

pub word-requires-clause-inside : goal.word-requires-clause-inside
word-requires-clause-inside g c =
    rw (c.has_name.ensures.looks.same, c.loop-i.invariant.looks.same)
    (reaches_less _ 56 _ (reaches_here c.requires.names c.loop-i.invariant.walks c.if-addr-eq0.false) (omega arith))

pub loop-i-preserved : goal.loop-i-preserved
loop-i-preserved g c =
    let h = rw c.loop-i.invariant.looks.same at c.in_ok-has_name.ensures.compared in
    let compared = subst (λ l. Compares ((g.O.HasHeap.heap c.args.o.now).blocks c.loop-i.addr) l c.in_ok-has_name.field-0) c.stored-wanted.ensures h in
    let next = rw (c.has_name.ensures.looks.same, c.loop-i.invariant.looks.same) at c.in_ok-addr-2.ensures.given in
    record {
      walks =
          passes c.loop-i.invariant.walks c.if-addr-eq0.false next
          (λ row n i. answered c.args.name.now compared row n i ∙ c.if-branch.false);
      looks = looks_on (looks_on {V = ℕ} {x = 0} c.loop-i.invariant.looks c.in_ok-has_name.ensures.looks) c.in_ok-addr-2.ensures.looks;
    }

pub returns-clause-found : goal.returns-clause-found
returns-clause-found g c =
    found_no_more c.args.name.now c.loop-i.invariant.walks (g.met.O.Objects.few c.args.o.now c.requires.kept)
    (g.met.O.Objects.small c.args.o.now c.requires.kept) (omega arith)
