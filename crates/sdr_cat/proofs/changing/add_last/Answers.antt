-- The entry is linked, and the last one.
use Rattle.std.proofs.Common.{◌∙◌, refl, rules}
use Rattle.std.proofs.lemmas.Result.{IfErr-weaker, on_ok_weaker}
use Rattle.sdr_base.specs.Objects.{OnlyShort}
use Rattle.sdr_base.proofs.HeapLemmas.{short_after}
use Rattle.sdr_base.proofs.WorksLemmas.{looks_then, works_then}
use Rattle.sdr_cat.proofs.ChangeLemmas.{adds_last, came_behind, chain_of, last_reaches, linked_rest, short_linked, took_entry}
use Rattle.sdr_cat.proofs.changing.add_last.Goals as goal

pub link_next-requires-clause-prev : goal.link_next-requires-clause-prev
link_next-requires-clause-prev g c =
    let k = c.requires.names.keeps in
    let t = rw c.root.ensures.looks.same at c.in_ok-added.ensures.taken in
    last_reaches c.requires.names.names (came_behind c.args.name.now c.args.kind c.args.object t (chain_of k k.rest k.stands)) (c.in_ok-last.ensures.given ∙ k.last)

pub returns-clause-added : goal.returns-clause-added
returns-clause-added g c =
    let t = rw c.root.ensures.looks.same at c.in_ok-added.ensures.taken in
    on_ok_weaker _
    (λ w. adds_last {old = g.O.HasHeap.heap c.args.o.now} {new = g.O.HasHeap.heap c.set_root.new.self} c.in_ok-last.ensures.given c.requires.short t c.in_ok-link_next.ensures.linked w)
    c.set_root.ensures.written

pub returns-in_err-link_next-clause-refused : goal.returns-in_err-link_next-clause-refused
returns-in_err-link_next-clause-refused g c =
    let t = rw c.root.ensures.looks.same at c.in_ok-added.ensures.taken in
    let s : OnlyShort 56 (g.O.HasHeap.heap c.args.o.now) (g.O.HasHeap.heap c.link_next.new.o) c.in_err-link_next.field-0.0 =
    short_after (g.O.HasHeap.heap c.take_entry.new.o) (g.O.HasHeap.heap c.link_next.new.o) _ (took_entry c.args.name.now c.args.kind c.args.object c.requires.short t) refl
    c.in_err-link_next.ensures.refused in search rules

pub returns-clause-refused : goal.returns-clause-refused
returns-clause-refused g c =
    let t = rw c.root.ensures.looks.same at c.in_ok-added.ensures.taken in
    IfErr-weaker _ _ (OnlyShort 56 (g.O.HasHeap.heap c.args.o.now) (g.O.HasHeap.heap c.set_root.new.self))
    (λ stop u. short_linked (g.O.HasHeap.heap c.link_next.new.o) (g.O.HasHeap.heap c.set_root.new.self) stop
    (took_entry c.args.name.now c.args.kind c.args.object c.requires.short t) (linked_rest c.in_ok-link_next.ensures.linked) u)
    c.set_root.ensures.refused

pub returns-clause-works : goal.returns-clause-works
returns-clause-works g c =
    looks_then c.in_ok-last.ensures.looks
    (works_then (works_then c.in_ok-added.ensures.works c.in_ok-link_next.ensures.works) c.set_root.ensures.works)
