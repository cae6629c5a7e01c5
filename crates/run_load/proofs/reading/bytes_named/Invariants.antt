use Rattle.run_load.specs.Reading.{ReadsTo}
use Rattle.run_load.proofs.reading.bytes_named.Given as goal

-- the list is read up to the place to which the loop has come
abbrev pub invariant-loop : goal.invariant-loop
invariant-loop g l = ReadsTo g.D.Disk l.list l.elements l.counter l.element l.bytes l.fn.base l.base
