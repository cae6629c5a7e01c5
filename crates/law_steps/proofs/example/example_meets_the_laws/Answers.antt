use Rattle.law_steps.proofs.ExampleFits.{example_fits, example_fit_together}
use Rattle.law_steps.proofs.Examples.{empty_is_valid, example_list_goes, example_object_goes, example_fresh, example_grows, example_is, example_is_valid, example_short}
use Rattle.law_steps.proofs.example.example_meets_the_laws.Goals as goal

pub returns-clause-empty : goal.returns-clause-empty
returns-clause-empty c = empty_is_valid

pub returns-clause-valid : goal.returns-clause-valid
returns-clause-valid c = example_is_valid

pub returns-clause-fit : goal.returns-clause-fit
returns-clause-fit c = example_fit_together

pub returns-clause-fresh : goal.returns-clause-fresh
returns-clause-fresh c = example_fresh

pub returns-clause-gains : goal.returns-clause-gains
returns-clause-gains c = example_grows

pub returns-clause-stops : goal.returns-clause-stops
returns-clause-stops c = example_short

pub returns-clause-blocks : goal.returns-clause-blocks
returns-clause-blocks c = example_is

pub returns-clause-list_goes : goal.returns-clause-list_goes
returns-clause-list_goes c = example_list_goes

pub returns-clause-object_goes : goal.returns-clause-object_goes
returns-clause-object_goes c = example_object_goes

pub returns-clause-fits : goal.returns-clause-fits
returns-clause-fits c = example_fits
