-- The gaps that a piece meets are opened and filled.
use Rattle.std.proofs.Common.{◌≡◌, ℕ, List, sym, ap, ◌∙◌, subst}
use Rattle.std.proofs.lemmas.Result.{err_from_is_err_and}
use Rattle.sdr_base.proofs.WorksLemmas.{looks_then, works_more, works_ok, works_stopped}
use Rattle.zco_pieces.specs.Adding.{BeginAt}
use Rattle.zco_pieces.specs.Places.{AreInOrder, Rebuilt, opened}
use Rattle.zco_join.specs.declared.filled.Filled.{Filled}
use Rattle.zco_pieces.proofs.AddLemmas.{all_rebuilt, fill_lines, opened_begins, some_rebuilt, some_to_fill, to_fill}
use Rattle.zco_pieces.proofs.PlaceLemmas.{opened_order}
use Rattle.zco_pieces.proofs.rebuild.Rebuild.add.Goals as goal

-- what was opened is of the text as it is seen
opened_as : (total : ℕ) (parts xs items : List Filled) (r : Rebuilt) (offset length : ℕ) → r ≡ record { total = total; parts = parts } → xs ≡ parts →
    items ≡ opened 0 total xs offset length → items ≡ opened 0 r.total r.parts offset length
opened_as total parts xs items r offset length view same all =
    all ∙ ap (λ (ys : List Filled). opened 0 total ys offset length) same ∙ sym (ap (λ (x : Rebuilt). opened 0 x.total x.parts offset length) view)

-- and it is in order
order_as : (total : ℕ) (parts xs items : List Filled) (offset length : ℕ) → AreInOrder 0 total parts → xs ≡ parts →
    items ≡ opened 0 total xs offset length → AreInOrder 0 total items
order_as total parts xs items offset length order same all =
    subst (AreInOrder 0 total) (sym (all ∙ ap (λ (ys : List Filled). opened 0 total ys offset length) same)) (opened_order 0 total parts offset length order)

pub fill-parts-requires-clause-object : goal.fill-parts-requires-clause-object
fill-parts-requires-clause-object g c =
    let t = c.in_ok-length.ensures.told in
    some_to_fill c.args.piece.now c.source_length.ensures.looks.same t
    (opened_as c.self.inside.total c.self.inside.parts c.as_slice.result.now c.in_ok-opened.opened.items c.args.self.now c.args.piece.now.offset
    c.in_ok-length.length (sym c.self.view_is) c.as_slice.ensures c.in_ok-opened.ensures)
    (c.requires.piece t.kind)

pub fill-parts-requires-clause-behind : goal.fill-parts-requires-clause-behind
fill-parts-requires-clause-behind g c =
    let all : c.in_ok-opened.opened.items ≡ opened 0 c.self.inside.total c.self.inside.parts c.args.piece.now.offset c.in_ok-length.length =
    c.in_ok-opened.ensures ∙ ap (λ (ys : List Filled). opened 0 c.self.inside.total ys c.args.piece.now.offset c.in_ok-length.length) c.as_slice.ensures in
    subst (BeginAt c.args.piece.now.offset) (sym all)
    (opened_begins 0 c.self.inside.total c.self.inside.parts c.args.piece.now.offset c.in_ok-length.length c.self.invariant.clones)

pub invariant_of-self : goal.invariant_of-self
invariant_of-self g c =
    some_rebuilt c.args.piece.now.object c.args.ticket c.args.piece.now.offset c.in_ok-opened.opened.items c.fill-parts.result.parts
    (g.O.HasHeap.heap c.source_length.new.o) (g.O.HasHeap.heap c.fill-parts.new.o) c.self.inside.total c.in_err-outcome.field-0.0
    (rw c.in_err-outcome.was at c.fill-parts.ensures.refused) c.self.invariant.long
    (order_as c.self.inside.total c.self.inside.parts c.as_slice.result.now c.in_ok-opened.opened.items c.args.piece.now.offset c.in_ok-length.length
    c.self.invariant.order c.as_slice.ensures c.in_ok-opened.ensures)

pub returns-in_err-outcome-clause-works : goal.returns-in_err-outcome-clause-works
returns-in_err-outcome-clause-works g c =
    λ row tickets sources k.
    let p = err_from_is_err_and c.from_residual-in_err-outcome.result c.from_residual-in_err-outcome.ensures.1 in
    let all =
    opened_as c.self.inside.total c.self.inside.parts c.as_slice.result.now c.in_ok-opened.opened.items c.args.self.now c.args.piece.now.offset
    c.in_ok-length.length (sym c.self.view_is) c.as_slice.ensures c.in_ok-opened.ensures in
    let same = c.source_length.ensures.looks.same in
    let t = c.in_ok-length.ensures.told in
    let w = rw c.in_err-outcome.was at
    (c.fill-parts.ensures.works row tickets sources (to_fill same t c.args.self.now c.args.piece.now.offset all k)) in
    rw (p.1, p.2)
    (works_stopped _ (works_more (looks_then c.in_ok-length.ensures.looks w) (fill_lines same t c.args.self.now c.args.piece.now.offset all k)))

pub invariant_of-self-2 : goal.invariant_of-self-2
invariant_of-self-2 g c =
    all_rebuilt c.args.piece.now.object c.args.ticket c.args.piece.now.offset c.in_ok-opened.opened.items c.fill-parts.result.parts
    (g.O.HasHeap.heap c.source_length.new.o) (g.O.HasHeap.heap c.fill-parts.new.o) c.self.inside.total
    (rw c.in_ok-outcome.was at c.fill-parts.ensures.filled) c.self.invariant.long
    (order_as c.self.inside.total c.self.inside.parts c.as_slice.result.now c.in_ok-opened.opened.items c.args.piece.now.offset c.in_ok-length.length
    c.self.invariant.order c.as_slice.ensures c.in_ok-opened.ensures)

pub returns-clause-works : goal.returns-clause-works
returns-clause-works g c =
    λ row tickets sources k.
    let all =
    opened_as c.self.inside.total c.self.inside.parts c.as_slice.result.now c.in_ok-opened.opened.items c.args.self.now c.args.piece.now.offset
    c.in_ok-length.length (sym c.self.view_is) c.as_slice.ensures c.in_ok-opened.ensures in
    let same = c.source_length.ensures.looks.same in
    let t = c.in_ok-length.ensures.told in
    let w = rw c.in_ok-outcome.was at
    (c.fill-parts.ensures.works row tickets sources (to_fill same t c.args.self.now c.args.piece.now.offset all k)) in
    works_ok (works_more (looks_then c.in_ok-length.ensures.looks w) (fill_lines same t c.args.self.now c.args.piece.now.offset all k))
