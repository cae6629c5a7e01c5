use Rattle.std.proofs.Common.{◌≡◌, ◌+◌, ◌*◌, ◌++◌, ◌∷◌, ◌∙◌, [], ℕ, List, ap, sym, arith, append_assoc, below_more}
use Rattle.std.specs.FinMap.{get}
use Rattle.mem_store.specs.Draft.{Draft}
use Rattle.sdr_model.specs.Dry.{addr_after, next_addr, next_addrs}
use Rattle.sdr_model.specs.World.{World}
use Rattle.mem_store.proofs.TakenLemmas.{addr_after-next, next_addrs-more}
use Rattle.mem_world.proofs.KeepsLemmas.{keeps_on}
use Rattle.mem_world.proofs.draft_world.DraftWorld.mark_blocks.Goals as goal

pub loop-k-preserved : goal.loop-k-preserved
loop-k-preserved c =
    let old = c.args.self.now.now in
    let taken = old.taken in
    let k = c.loop-k.k in
    let addr : ℕ = 8 * (c.self.inside.taken + 1) + 8 * k in
    let here : addr ≡ next_addr (taken + k) = omega (arith, ap (λ (d : Draft). d.now.taken) c.self.view_is) in
    let marks : (old.marks ++ next_addrs taken k) ++ addr ∷ [] ≡ old.marks ++ next_addrs taken (k + 1) =
    append_assoc old.marks (next_addrs taken k) (addr ∷ [])
    ∙ ap (λ (l : List ℕ). old.marks ++ l)
    (ap (λ a. next_addrs taken k ++ a ∷ []) here ∙ sym (next_addrs-more taken k)) in
    record {
      marked = c.in_ok-mark_at.ensures.marked
          ∙ ap (λ (w : World). record w { marks = w.marks ++ addr ∷ [] }) c.loop-k.invariant.marked
          ∙ ap (λ (m : List ℕ). record old { marks = m }) marks;
      owned = below_more _ _
          (λ j lower. c.in_ok-mark_at.ensures.others (addr_after taken j) c.args.owner
          (omega (arith, here, addr_after-next taken j, lower)) (c.loop-k.invariant.owned j lower))
          (ap (get c.mark_at.new.self.owners) (addr_after-next taken k ∙ sym here) ∙ c.in_ok-mark_at.ensures.owner);
      others = λ other of lower is. c.in_ok-mark_at.ensures.others other of (omega (arith, here, lower))
          (c.loop-k.invariant.others other of lower is);
      touched = λ other has. c.mark_at.ensures.touched other (c.loop-k.invariant.touched other has);
      keeps = keeps_on c.loop-k.invariant.keeps c.mark_at.ensures.keeps;
      first = c.loop-k.invariant.first;
    }
