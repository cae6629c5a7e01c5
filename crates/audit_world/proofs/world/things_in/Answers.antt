use Rattle.std.proofs.Common.{◌≡◌, ◌∙◌, ◌*◌, ◌/◌, ℕ, List, ap, arith, length}
use Rattle.std.specs.Prelude.{Option, None}
use Rattle.sdr_base.specs.Blocks.{Block}
use Rattle.sdr_base.specs.KeptHeap.{block_in}
use Rattle.sdr_model.specs.Things.{Things}
use Rattle.audit_owners.specs.View.{view_in}
use Rattle.audit_world.proofs.InsertLemmas.{told_all, told_more, told_over}
use Rattle.audit_world.proofs.ReadyLemmas.{things_valid}
use Rattle.audit_world.specs.Made.{with_told}
use Rattle.audit_world.specs.Told.{thing_by, thing_told}
use Rattle.audit_world.proofs.world.things_in.Goals as goal

-- where no block is, no thing is
unused : (bytes : List ℕ) (words addr : ℕ) → block_in bytes addr ≡ None → thing_told (view_in bytes) words addr ≡ None
unused bytes words addr = ap (λ (b : Option Block). thing_by b (view_in bytes) words addr)

pub put_thing-requires-clause-valid : goal.put_thing-requires-clause-valid
put_thing-requires-clause-valid c = things_valid c.args.heap.now c.requires.counted (8 * c.in-Some.number)

pub loop-number-preserved : goal.loop-number-preserved
loop-number-preserved c =
    let words : ℕ = length c.args.heap.now / 8 in
    let told = thing_told (view_in c.args.heap.now) words in
    let number = c.in-Some.number in
    let next = c.in-Some.ensures.next in
    let end = next.inside in
    record {
      inside = omega (arith, end);
      told =
          c.in_ok-put_thing.ensures
          ∙ ap (λ (things : Things). with_told (told (8 * number)) (8 * number) things)
          (c.loop-number.invariant.told ∙ told_over told c.args.heap.now c.loop-number.from number (unused c.args.heap.now words) next.onward next.before)
          ∙ told_more told number;
    }

pub returns : goal.returns
returns c =
    let words : ℕ = length c.args.heap.now / 8 in
    let told = thing_told (view_in c.args.heap.now) words in
    c.loop-number.invariant.told
    ∙ told_over told c.args.heap.now c.loop-number.from words (unused c.args.heap.now words) c.loop-number.invariant.inside
    (λ word onward less. c.next_block.ensures.none c.in_default.is word onward)
    ∙ told_all told words
