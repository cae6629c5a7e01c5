use Rattle.std.proofs.Common.{◌≡◌, ◌∙◌, ap, arith, refl, sym}
use Rattle.sdr_base.specs.declared.control.TheConstants.{START}
use Rattle.audit_blocks.proofs.BitsLemmas.{bits_then, bits_wrong}
use Rattle.audit_blocks.proofs.EdgeLemmas.{in_order}
use Rattle.audit_blocks.specs.Control.{control_word}
use Rattle.audit_blocks.specs.declared.control.Edges.{Edges}
use Rattle.audit_blocks.proofs.bits.check_bits.Goals as goal

pub bounds-heap-place : goal.bounds-heap-place
bounds-heap-place c =
    let o = in_order c.args.heap.now c.requires.surveyed.edged.right in
    let start : c.args.edges.now.start ≡ control_word c.args.heap.now START = ap (λ (e : Edges). e.start) c.requires.surveyed.edged.between in
    let low = o.low in
    let high = o.high in
    let end = o.end in
    omega (arith, start, low, high, end)

pub byte_of_bits-requires-clause-few : goal.byte_of_bits-requires-clause-few
byte_of_bits-requires-clause-few c =
    let o = in_order c.args.heap.now c.requires.surveyed.edged.right in
    let start : c.args.edges.now.start ≡ control_word c.args.heap.now START = ap (λ (e : Edges). e.start) c.requires.surveyed.edged.between in
    let low = o.low in
    let high = o.high in
    let end = o.end in
    let whole = c.requires.surveyed.edged.region.whole in
    let most = c.requires.surveyed.edged.region.most in
    omega (arith, start, low, high, end, whole, most)

pub returns-then-heap-place-clause-damaged : goal.returns-then-heap-place-clause-damaged
returns-then-heap-place-clause-damaged c =
    let s = c.requires.surveyed in
    let start : c.args.edges.now.start ≡ control_word c.args.heap.now START = ap (λ (e : Edges). e.start) s.edged.between in
    let more = c.loop-place-test.true in (
      refl,
      bits_wrong c.args.heap.now c.args.spots.now s.edged.right s.long s.found c.loop-place.place c.loop-place.invariant
          (λ same. c.if-heap-place.true (same ∙ sym c.byte_of_bits.ensures)) c.loop-place.auto.place (omega (arith, start, more)),
    )

pub loop-place-preserved : goal.loop-place-preserved
loop-place-preserved c =
    let s = c.requires.surveyed in
    bits_then c.args.heap.now c.args.spots.now s.edged.right s.long s.found c.loop-place.place c.loop-place.invariant (c.if-heap-place.false ∙ c.byte_of_bits.ensures)
