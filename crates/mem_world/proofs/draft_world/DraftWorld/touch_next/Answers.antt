use Rattle.std.proofs.Common.{◌≡◌, ◌+◌, ◌*◌, ◌∙◌, ℕ, ap, sym, subst, arith, below_more}
use Rattle.std.specs.Prelude.{Contains}
use Rattle.mem_store.specs.Draft.{Draft}
use Rattle.sdr_model.specs.Dry.{addr_after, next_addr}
use Rattle.mem_store.proofs.TakenLemmas.{addr_after-next}
use Rattle.mem_world.proofs.KeepsLemmas.{keeps_on}
use Rattle.mem_world.proofs.draft_world.DraftWorld.touch_next.Goals as goal

pub loop-k-preserved : goal.loop-k-preserved
loop-k-preserved c =
    let taken = c.args.self.now.now.taken in
    let k = c.loop-k.k in
    let was = c.loop-k.invariant in
    let addr : ℕ = 8 * (c.self.inside.taken + 1) + 8 * k in
    let here : addr ≡ addr_after taken k =
    (let same : addr ≡ next_addr (taken + k) = omega (arith, ap (λ (d : Draft). d.now.taken) c.self.view_is) in same) ∙ sym (addr_after-next taken k) in
    record {
      now = c.touch.ensures.now ∙ was.now;
      owners = c.touch.ensures.owners ∙ was.owners;
      touched = below_more _ _ (λ j lower. c.touch.ensures.others (addr_after taken j) (was.touched j lower))
          (subst (Contains c.touch.new.self.touched) here c.in_ok-touch.ensures.touched);
      others = λ other has. c.touch.ensures.others other (was.others other has);
      keeps = keeps_on was.keeps c.touch.ensures.keeps;
      first = was.first;
    }
