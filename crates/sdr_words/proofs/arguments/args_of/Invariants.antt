use Rattle.std.proofs.Common.{length}
use Rattle.sdr_words.specs.Arguments.{args_of}
use Rattle.sdr_words.specs.Fields.{fields_of}
use Rattle.sdr_words.specs.Statements.{is_bound_by}
use Rattle.sdr_words.proofs.ArgumentsLemmas.{HasArgs}
use Rattle.sdr_words.proofs.arguments.args_of.Given as goal

abbrev pub invariant-loop-shape : goal.invariant-loop-shape
invariant-loop-shape l = record {
  has : HasArgs (is_bound_by l.draft.steps l.daemon) (args_of (is_bound_by l.draft.steps l.daemon) l.fn.shapes (fields_of l.fn.rest))
      l.args.items l.shapes (fields_of l.rest);
}

abbrev pub decreases-loop-shape : goal.decreases-loop-shape
decreases-loop-shape l = length l.shapes
