-- The raw object is made, and then its source.
use Rattle.std.proofs.lemmas.Result.{IfErr-weaker, IfOk-weaker, err_from_is_err_and}
use Rattle.sdr_base.specs.Wanting.{OnlyWanting}
use Rattle.zco_bond.specs.Rows.{RowStops}
use Rattle.zco_bond.specs.Texts.{IsSourceRow, MakesSource}
use Rattle.zco_bond.proofs.RowLemmas.{rows_want}
use Rattle.zco_bond.proofs.TextLemmas.{makes_source, raw_spare, raw_stops, some_raw, source_stops}
use Rattle.zco_bond.proofs.text.make_source.Goals as goal

pub returns-in_err-raw-clause-refused : goal.returns-in_err-raw-clause-refused
returns-in_err-raw-clause-refused g c =
    let p = err_from_is_err_and c.from_residual.result c.from_residual.ensures.1 in
    rw (p.1, p.2)
    (raw_stops c.args.text.bytes (g.O.HasHeap.heap c.args.o.now) (g.O.HasHeap.heap c.copy_text.new.o) _ c.in_err-raw.ensures.refused)

pub heap_source-requires-clause-spare : goal.heap_source-requires-clause-spare
heap_source-requires-clause-spare g c = raw_spare c.requires.text c.in_ok-raw.ensures.copied c.requires.spare

pub heap_source-requires-clause-raw : goal.heap_source-requires-clause-raw
heap_source-requires-clause-raw g c = λ kind. some_raw c.requires.text c.in_ok-raw.ensures.copied

pub returns-clause-made : goal.returns-clause-made
returns-clause-made g c =
    IfOk-weaker _ _ (MakesSource c.args.text (g.O.HasHeap.heap c.args.o.now) (g.O.HasHeap.heap c.heap_source.new.o))
    (λ source m. makes_source c.requires.text c.in_ok-raw.ensures.copied m) c.heap_source.ensures.made

pub returns-clause-refused : goal.returns-clause-refused
returns-clause-refused g c =
    let old = g.O.HasHeap.heap c.args.o.now in
    let new = g.O.HasHeap.heap c.heap_source.new.o in
    IfErr-weaker _ _ (RowStops (IsSourceRow c.args.text.bytes) old new)
    (λ stop s. source_stops c.requires.text c.in_ok-raw.ensures.copied new stop s) c.heap_source.ensures.refused

pub returns-clause-wants : goal.returns-clause-wants
returns-clause-wants g c =
    let old = g.O.HasHeap.heap c.args.o.now in
    let new = g.O.HasHeap.heap c.heap_source.new.o in
    IfErr-weaker _ _ OnlyWanting
    (λ stop s. rows_want (IsSourceRow c.args.text.bytes) old new stop (source_stops c.requires.text c.in_ok-raw.ensures.copied new stop s))
    c.heap_source.ensures.refused
