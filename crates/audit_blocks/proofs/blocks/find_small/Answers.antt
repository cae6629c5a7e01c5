use Rattle.std.proofs.Common.{◌∙◌, refl, sym, ap, arith}
use Rattle.audit_blocks.proofs.EdgeLemmas.{in_order}
use Rattle.audit_blocks.proofs.SmallLemmas.{small_more, small_walked}
use Rattle.audit_blocks.specs.declared.control.Edges.{Edges}
use Rattle.audit_blocks.specs.declared.findings.Findings.{Findings}
use Rattle.audit_blocks.proofs.blocks.find_small.Goals as goal

pub read_label-label-requires : goal.read_label-label-requires
read_label-label-requires c = record {
  inside = small_more c.args.heap.now c.args.place c.requires.edges.right c.requires.edges.between c.requires.walked.whole c.requires.more;
}

pub is_small-requires-clause-low : goal.is_small-requires-clause-low
is_small-requires-clause-low c =
    let o = in_order c.args.heap.now c.requires.edges.right in
    let low = ap (λ (e : Edges). e.low) c.requires.edges.between in
    let high = o.high in
    let end = o.end in
    let whole = c.requires.edges.region.whole in
    let most = c.requires.edges.region.most in
    omega (arith, low, high, end, whole, most)

pub overflow_add-result-2 : goal.overflow_add-result-2
overflow_add-result-2 c =
    let inside = small_more c.args.heap.now c.args.place c.requires.edges.right c.requires.edges.between c.requires.walked.whole c.requires.more in
    let whole = c.requires.edges.region.whole in
    let most = c.requires.edges.region.most in
    let words = c.read_label-label.ensures.words in
    omega (arith, inside, whole, most, words)

pub bounds-spots-place : goal.bounds-spots-place
bounds-spots-place c =
    let inside = small_more c.args.heap.now c.args.place c.requires.edges.right c.requires.edges.between c.requires.walked.whole c.requires.more in
    let long = c.requires.spots in omega (arith, inside, long)

pub returns-clause-walked : goal.returns-clause-walked
returns-clause-walked c =
    small_walked c.args.heap.now c.args.place c.read_label-label.result c.read_label-label.ensures.given c.requires.walked
    (sym (c.is_small.ensures c.args.heap.now c.read_label-label.ensures.given (sym (ap (λ (e : Edges). e.low) c.requires.edges.between))) ∙ c.if-not-is_small.false)
    refl refl (ap (λ (f : Findings). f.unfit) c.note_small.ensures) (ap (λ (f : Findings). f.full) c.note_small.ensures)
    (ap (λ (f : Findings). f.touching) c.note_small.ensures) (ap (λ (f : Findings). f.edge) c.note_small.ensures)
    (ap (λ (f : Findings). f.after_free) c.note_small.ensures) c.spot.ensures
