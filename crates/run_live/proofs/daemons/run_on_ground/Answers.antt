use Rattle.std.proofs.Common.{◌∙◌, List, ℕ, ap, subst, sym}
use Rattle.sdr_core.specs.CoreKept.{BeginsOn}
use Rattle.run_live.specs.Daemons.{RunsOnGround}
use Rattle.sdr_model.specs.declared.script.ScriptStep.{ScriptStep}
use Rattle.run_live.proofs.RunsLemmas.{fresh_core}
use Rattle.sdr_words.specs.Daemons.{daemons_of}
use Rattle.run_live.proofs.daemons.run_on_ground.Goals as goal

pub new-requires-clause-begins : goal.new-requires-clause-begins
new-requires-clause-begins g c =
    subst (λ (daemons : List ℕ). BeginsOn g.T.HasGround g.J.Origin.begins daemons c.args.base)
    (sym (c.deref.ensures.value ∙ c.in-Ok.ensures.named ∙ ap daemons_of c.as_slice.ensures)) c.requires.begins

pub run_on_board-ran-requires-clause-fresh : goal.run_on_board-ran-requires-clause-fresh
run_on_board-ran-requires-clause-fresh g c lives outlive =
    fresh_core g.T.HasGround g.J.Origin.begins c.deref.result.now c.args.base c.in-Ok-new.core
    (c.deref.ensures.value ∙ c.in-Ok.ensures.named ∙ ap daemons_of c.as_slice.ensures ∙ c.requires.begins.daemons_are) c.requires.lasts
    c.in-Ok-new.ensures.made

pub run_on_board-ran-requires-clause-named : goal.run_on_board-ran-requires-clause-named
run_on_board-ran-requires-clause-named g c lives outlive = sym c.requires.begins.daemons_are ∙ ap daemons_of c.requires.script

pub returns-in-Ok-new-clause-ran : goal.returns-in-Ok-new-clause-ran
returns-in-Ok-new-clause-ran g c =
    subst (λ (script : List ScriptStep). RunsOnGround g.T.HasGround g.J.Origin.begins script c.run_on_board-ran.result)
    (sym c.requires.script) c.run_on_board-ran.ensures
