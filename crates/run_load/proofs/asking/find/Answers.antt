use Rattle.std.proofs.Common.{◌∙◌, refl, subst, sym}
use Rattle.run_load.proofs.ReplyLemmas.{finds}
use Rattle.run_load.specs.Asking.{AnswersByRow, IsQuestion}
use Rattle.sdr_model.specs.declared.call.Call.{Call}
use Rattle.run_load.proofs.asking.find.Goals as goal

pub ask-requires-clause-question : goal.ask-requires-clause-question
ask-requires-clause-question g c =
    subst (λ (call : Call). IsQuestion call) (sym c.requires.finds) (record { reads = refl; unasked = refl; shows = λ w w' s. s })

pub returns-clause-found : goal.returns-clause-found
returns-clause-found g c v at =
    c.object_in.ensures
    ∙ finds v.now.world c.in_ok-reply.reply (subst (λ (call : Call). AnswersByRow v.now.world call c.in_ok-reply.reply) c.requires.finds (c.in_ok-reply.ensures.answers v at))
