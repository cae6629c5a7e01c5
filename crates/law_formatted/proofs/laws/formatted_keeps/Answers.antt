-- The law of formatted disks.
use Rattle.law_formatted.proofs.FormattedLemmas.{formatted_small, formatted_both, formatted_heap, formatted_nothing}
use Rattle.law_formatted.proofs.laws.formatted_keeps.Goals as goal

pub returns-clause-small : goal.returns-clause-small
returns-clause-small c = formatted_small

pub returns-clause-both : goal.returns-clause-both
returns-clause-both c = formatted_both

pub returns-clause-heap : goal.returns-clause-heap
returns-clause-heap c = formatted_heap

pub returns-clause-nothing : goal.returns-clause-nothing
returns-clause-nothing c = formatted_nothing
