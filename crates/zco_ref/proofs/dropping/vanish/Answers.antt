-- The raw object goes, or is named by none, and then the source goes.
use Rattle.std.proofs.Common.{rules}
use Rattle.std.proofs.lemmas.Result.{on_ok_weaker}
use Rattle.sdr_base.specs.declared.medium.Medium.TheVariants as media
use Rattle.sdr_base.proofs.HeapLemmas.{heap_blocks}
use Rattle.zco_ref.specs.Going.{VanishStops}
use Rattle.zco_ref.proofs.GoneLemmas.{first_stops, gone_heap, gone_obj, gone_plain, heap_used, obj_used, stops_as, used_after_give, used_after_word}
use Rattle.zco_ref.proofs.dropping.vanish.Goals as goal

pub give-requires-clause-used : goal.give-requires-clause-used
give-requires-clause-used g c =
    heap_used c.args.source (g.O.HasHeap.heap c.args.o.now) c.args.seen c.requires.seen c.requires.source c.in-Heap.is

pub returns-in_err-give-in-Heap-clause-refused : goal.returns-in_err-give-in-Heap-clause-refused
returns-in_err-give-in-Heap-clause-refused g c =
    let s : VanishStops c.args.seen.medium c.args.seen.subject (g.O.HasHeap.heap c.args.o.now) (g.O.HasHeap.heap c.give.new.self)
    c.in_err-give-in-Heap.field-0.0 =
    stops_as c.args.seen.medium c.args.seen.subject _ _ _ media.Heap c.in-Heap.is
    (first_stops c.args.seen.subject _ _ _ c.in_err-give-in-Heap.ensures.refused) in search rules

pub give-requires-in-Heap-clause-used : goal.give-requires-in-Heap-clause-used
give-requires-in-Heap-clause-used g c =
    used_after_give c.args.source (g.O.HasHeap.heap c.args.o.now) c.args.seen c.requires.seen c.requires.source c.in-Heap.is
    c.in_ok-give-in-Heap.ensures.given

pub set_word-requires-clause-inside : goal.set_word-requires-clause-inside
set_word-requires-clause-inside g c =
    obj_used c.args.source (g.O.HasHeap.heap c.args.o.now) c.args.seen c.requires.seen c.requires.source c.in-Obj.is

pub give-requires-in-Obj-clause-used : goal.give-requires-in-Obj-clause-used
give-requires-in-Obj-clause-used g c =
    used_after_word c.args.source (g.O.HasHeap.heap c.args.o.now) c.args.seen c.requires.seen c.requires.source
    (g.O.HasHeap.heap c.set_word.new.o) _ c.in-Obj.is (heap_blocks c.in_ok-set_word-in-Obj.ensures.written)

pub returns-in_ok-give-in-Heap-clause-gone : goal.returns-in_ok-give-in-Heap-clause-gone
returns-in_ok-give-in-Heap-clause-gone g c =
    on_ok_weaker _ (λ h. gone_heap c.args.seen c.in-Heap.is c.requires.seen c.in_ok-give-in-Heap.ensures.given h)
    c.give-in-Heap.ensures.given

pub returns-in_ok-set_word-in-Obj-clause-gone : goal.returns-in_ok-set_word-in-Obj-clause-gone
returns-in_ok-set_word-in-Obj-clause-gone g c =
    on_ok_weaker _ (λ h. gone_obj c.args.seen c.in-Obj.is c.requires.seen c.in_ok-set_word-in-Obj.ensures.written h)
    c.give-in-Obj.ensures.given

pub returns-in-File-clause-gone : goal.returns-in-File-clause-gone
returns-in-File-clause-gone g c =
    on_ok_weaker _ (λ h. gone_plain c.args.seen c.in-File.is c.requires.seen h) c.give-in-File.ensures.given
