use Rattle.std.proofs.Common.{◌≡◌, ◌∙◌, true, false, List, refl, arith, subst, sym}
use mathlib.Core.List.{IsPrefix}
use Rattle.sdr_board.proofs.Beginnings.{prefix_self, prefix_trans}
use Rattle.sdr_board.proofs.board.Board.read.Goals as goal
use Rattle.sdr_model.specs.declared.journal.Entry.{Entry}

pub loop-init : goal.loop-init
loop-init c = (refl, refl, omega arith, prefix_self c.args.pass.now.stood, λ more. absurd (omega (arith, more)), λ more. absurd (omega (arith, more)))

pub try_read-requires : goal.try_read-requires
try_read-requires c = record { board = c.loop.invariant.0 ∙ c.requires.board }

pub returns-then-try_read-clause-seen : goal.returns-then-try_read-clause-seen
returns-then-try_read-clause-seen c =
    let l = c.try_read.ensures.looked in
    let before = c.loop.invariant.1 in
    let new = c.try_read.new.pass in
    let met : new.met ≡ false = grind (arith, c.try_read.ensures.met, c.if-try_read.true) in
    subst (λ (old : List Entry). IsPrefix old new.entries) before (subst (λ (now : List Entry). IsPrefix c.loop.pass.entries now) (sym (l.seen met)) l.all)

pub returns-then-try_read-clause-reads : goal.returns-then-try_read-clause-reads
returns-then-try_read-clause-reads c =
    let l = c.try_read.ensures.looked in
    let so_far = c.loop.invariant in
    let new = c.try_read.new.pass in
    let old = c.args.pass.now in
    let met : new.met ≡ false = grind (arith, c.try_read.ensures.met, c.if-try_read.true) in record {
      board = l.board ∙ so_far.0;
      looks = omega (arith, l.looks, so_far.2);
      few = omega (arith, l.looks, so_far.2, c.loop-test.true);
      stood = prefix_trans old.stood c.loop.pass.stood new.stood so_far.3 l.stood;
      all = subst (λ (seen : List Entry). IsPrefix seen new.stood) so_far.1 l.all;
      seen = l.seen;
      kept = λ writes. absurd (cc (met, writes));
      tried = λ writes. absurd (cc (met, writes));
    }

pub loop-preserved : goal.loop-preserved
loop-preserved c =
    let l = c.try_read.ensures.looked in
    let so_far = c.loop.invariant in
    let new = c.try_read.new.pass in
    let old = c.args.pass.now in
    let met : new.met ≡ true = grind (arith, c.try_read.ensures.met, c.if-try_read.false) in (
      l.board ∙ so_far.0,
      l.kept met ∙ so_far.1,
      omega (arith, l.looks, so_far.2),
      prefix_trans old.stood c.loop.pass.stood new.stood so_far.3 l.stood,
      λ _. met,
      λ _. subst (λ (seen : List Entry). IsPrefix seen new.stood) so_far.1 l.all,
    )

pub returns-clause-seen : goal.returns-clause-seen
returns-clause-seen c = subst (λ (now : List Entry). IsPrefix c.args.pass.now.entries now) (sym c.loop.invariant.1) (prefix_self c.args.pass.now.entries)

pub returns-clause-reads : goal.returns-clause-reads
returns-clause-reads c =
    let so_far = c.loop.invariant in
    let last = c.loop-test.false in record {
      board = so_far.0;
      looks = omega (arith, so_far.2, last);
      few = omega (arith, so_far.2, c.loop.auto.counter-end);
      stood = so_far.3;
      all = so_far.5 (omega (arith, last));
      seen = λ free. let met = so_far.4 (omega (arith, last)) in absurd (cc (met, free));
      kept = λ _. so_far.1;
      tried = λ _. omega (arith, so_far.2, last, c.loop.auto.counter-end);
    }
