use Rattle.std.proofs.Common.{◌+◌, ap, sym, ◌∙◌, drop, get_or, subst}
use Rattle.std.proofs.lemmas.List.{drop_more}
use Rattle.std.proofs.lemmas.List.Elements.{All-head, All-tail, All-weaker}
use Rattle.std.specs.List.{All}
use Rattle.std.specs.Prelude.{Contains}
use Rattle.mem_world.proofs.KeepsLemmas.{keeps_on}
use Rattle.sdr_model.specs.Gone.{without_things}
use Rattle.sdr_model.specs.World.{World}
use Rattle.mem_world.proofs.dropping.drop_all.Goals as goal

pub drop-requires : goal.drop-requires
drop-requires c =
    let all = c.args.addrs.now in
    let i = c.loop-addr.addr-index in
    let P = Contains c.loop-addr.world.touched in
    record {
      touched = All-head P (get_or all i 0) (drop (i + 1) all)
          (subst (All P) (drop_more all i 0 c.loop-addr-test.true) c.loop-addr.invariant.touched);
    }

pub loop-addr-preserved : goal.loop-addr-preserved
loop-addr-preserved c =
    let all = c.args.addrs.now in
    let i = c.loop-addr.addr-index in
    let old = c.loop-addr.world in
    let P = Contains old.touched in
    let more = drop_more all i 0 c.loop-addr-test.true in
    record {
      touched = All-weaker P (Contains c.drop.new.self.touched) c.drop.ensures.others (drop (i + 1) all)
          (All-tail P (get_or all i 0) (drop (i + 1) all) (subst (All P) more c.loop-addr.invariant.touched));
      dropped = ap (λ (w : World). without_things w (drop (i + 1) all)) c.drop.ensures.dropped
          ∙ sym (ap (without_things old.now) more) ∙ c.loop-addr.invariant.dropped;
      keeps = keeps_on c.loop-addr.invariant.keeps c.drop.ensures.keeps;
    }
