-- The source is taken, and named in the raw object.
use Rattle.std.proofs.Common.{rules}
use Rattle.zco_ref.specs.Naming.{NamingStops}
use Rattle.zco_ref.proofs.NamedLemmas.{raw_source_made, still_reaches, unnamed_stops}
use Rattle.zco_ref.proofs.naming.raw_source.Goals as goal

pub set_word-requires-clause-inside : goal.set_word-requires-clause-inside
set_word-requires-clause-inside g c =
    let h = c.in_ok-bytes.ensures.found in
    still_reaches c.in_ok-bytes.bytes c.args.medium (c.requires.raw h.unnamed.kind)
    (rw c.expect_unnamed.ensures.looks.same at c.in_ok-source.ensures.taken)

pub returns-clause-made : goal.returns-clause-made
returns-clause-made g c =
    raw_source_made c.args.medium c.args.raw c.in_ok-bytes.ensures.found
    (rw c.expect_unnamed.ensures.looks.same at c.in_ok-source.ensures.taken) c.in_ok-set_word.ensures.written

pub returns-in_err-set_word-clause-refused : goal.returns-in_err-set_word-clause-refused
returns-in_err-set_word-clause-refused g c =
    let s : NamingStops c.args.raw (g.O.HasHeap.heap c.args.o.now) (g.O.HasHeap.heap c.set_word.new.o) c.in_err-set_word.field-0.0 =
    unnamed_stops c.args.medium c.args.raw (g.O.HasHeap.heap c.set_word.new.o) _ c.in_ok-bytes.ensures.found
    (rw c.expect_unnamed.ensures.looks.same at c.in_ok-source.ensures.taken) c.in_err-set_word.ensures.refused in search rules
