use Rattle.std.proofs.Common.{◌≡◌, ◌+◌, ◌++◌, ◌∙◌, List, ℕ, arith, ap, take}
use Rattle.std.proofs.Math.Seq.{take-append_seam}
use Rattle.std.specs.FinMap.{get}
use Rattle.sdr_model.specs.Dry.{next_addrs}
use Rattle.sdr_model.specs.World.{World}
use Rattle.mem_store.proofs.TakenLemmas.{addr_after-next}
use Rattle.mem_world.proofs.growing.take_component.Goals as goal

pub grow-requires-clause-owned : goal.grow-requires-clause-owned
grow-requires-clause-owned c =
    let w = c.args.world.now.now in
    let taken : c.reserve_blocks.new.self.now.taken ≡ w.taken = ap (λ (w : World). w.taken) c.in_ok-reserve_blocks.ensures.marked in
    record {
      noted = ap (get c.reserve_blocks.new.self.owners) c.requires.block
          ∙ c.in_ok-reserve_blocks.ensures.owned c.args.before (omega arith);
      below = omega (arith, c.requires.block, addr_after-next w.taken c.args.before, taken);
    }

pub returns-in-Err-clause-touched : goal.returns-in-Err-clause-touched
returns-in-Err-clause-touched c addr has =
    c.unmark.ensures.others addr (c.grow.ensures.touched addr (c.reserve_blocks.ensures.touched addr has))

pub returns-in-Err-clause-same : goal.returns-in-Err-clause-same
returns-in-Err-clause-same c =
    let w = c.args.world.now.now in
    let kept : c.grow.new.self.now ≡ record w { marks = w.marks ++ next_addrs w.taken (c.args.before + 1) } =
    c.in-Err.ensures.same ∙ c.in_ok-reserve_blocks.ensures.marked in
    c.unmark.ensures.unmarked
    ∙ ap (λ (v : World). record v { marks = take c.marks-marks.result v.marks }) kept
    ∙ ap (λ (m : List ℕ). record w { marks = m })
    (ap (λ n. take n (w.marks ++ next_addrs w.taken (c.args.before + 1))) c.marks-marks.ensures
    ∙ take-append_seam w.marks (next_addrs w.taken (c.args.before + 1)))
