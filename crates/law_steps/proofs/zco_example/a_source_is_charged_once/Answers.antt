use Rattle.law_steps.proofs.OnceExamples.{both_in, both_out, clone_charges, clone_gone, cloned_out, first_gone, first_heap, first_out, last_in, last_out}
use Rattle.law_steps.proofs.zco_example.a_source_is_charged_once.Goals as goal

pub returns-clause-first : goal.returns-clause-first
returns-clause-first c = first_out

pub returns-clause-first_heap : goal.returns-clause-first_heap
returns-clause-first_heap c = first_heap

pub returns-clause-clone_charges : goal.returns-clause-clone_charges
returns-clause-clone_charges c = clone_charges

pub returns-clause-cloned : goal.returns-clause-cloned
returns-clause-cloned c = cloned_out

pub returns-clause-both_out : goal.returns-clause-both_out
returns-clause-both_out c = both_out

pub returns-clause-both_in : goal.returns-clause-both_in
returns-clause-both_in c = both_in

pub returns-clause-first_gone : goal.returns-clause-first_gone
returns-clause-first_gone c = first_gone

pub returns-clause-clone_gone : goal.returns-clause-clone_gone
returns-clause-clone_gone c = clone_gone

pub returns-clause-last_out : goal.returns-clause-last_out
returns-clause-last_out c = last_out

pub returns-clause-last_in : goal.returns-clause-last_in
returns-clause-last_in c = last_in
