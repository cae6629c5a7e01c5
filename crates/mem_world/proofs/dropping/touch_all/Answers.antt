use Rattle.std.proofs.Common.{◌∷◌, [], arith, ◌∙◌, sym, subst, take, get_or}
use Rattle.std.proofs.lemmas.List.{take_all, take_more}
use Rattle.std.proofs.lemmas.List.Elements.{All-append, All-cons, All-nil, All-weaker}
use Rattle.std.specs.List.{All}
use Rattle.std.specs.Prelude.{Contains}
use Rattle.mem_world.proofs.KeepsLemmas.{keeps_on}
use Rattle.mem_world.proofs.dropping.touch_all.Goals as goal

pub loop-addr-preserved : goal.loop-addr-preserved
loop-addr-preserved c =
    let all = c.args.addrs.now in
    let i = c.loop-addr.addr-index in
    let a = get_or all i 0 in
    let P = Contains c.touch.new.self.touched in
    let before = All-weaker (Contains c.loop-addr.world.touched) P c.touch.ensures.others (take i all) c.loop-addr.invariant.touched in
    record {
      now = c.touch.ensures.now ∙ c.loop-addr.invariant.now;
      owners = c.touch.ensures.owners ∙ c.loop-addr.invariant.owners;
      touched = subst (All P) (sym (take_more all i 0 c.loop-addr-test.true))
          (All-append P (take i all) (a ∷ []) before (All-cons P a [] c.in_ok-touch.ensures.touched (All-nil P)));
      others = λ other was. c.touch.ensures.others other (c.loop-addr.invariant.others other was);
      keeps = keeps_on c.loop-addr.invariant.keeps c.touch.ensures.keeps;
    }

pub returns-clause-touched : goal.returns-clause-touched
returns-clause-touched c =
    let all = c.args.addrs.now in
    subst (All (Contains c.loop-addr.world.touched)) (take_all c.loop-addr.addr-index all (omega arith)) c.loop-addr.invariant.touched
