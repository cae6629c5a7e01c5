use Rattle.std.proofs.Common.{◌≡◌, ◌<◌, ◌^◌, ◌+◌, ◌++◌, length}
use Rattle.std.specs.Vec.Iter.{into_iter_items, into_iter_len}
use Rattle.sdr_load.specs.Statements.{numbered}
use Rattle.sdr_load.proofs.steps.numbered.Given as goal

-- the steps that are made, and those of the statements that are left, are the steps of all
abbrev pub invariant-loop-statement : goal.invariant-loop-statement
invariant-loop-statement l = record {
  rest : into_iter_len l.statement-iterator ≡ length (into_iter_items l.statement-iterator);
  room : l.line + length (into_iter_items l.statement-iterator) < 2 ^ 63;
  put : l.steps.items ++ numbered l.line (into_iter_items l.statement-iterator) ≡ numbered l.fn.first l.fn.statements.items;
}
