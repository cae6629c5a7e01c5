use Rattle.std.proofs.Common.{◌∙◌, ◌++◌, ◌∷◌, [], List, ap}
use Rattle.sdr_core.proofs.KeeperLemmas.{begun}
use Rattle.sdr_core.specs.declared.spoken.Spoken.{Spoken}
use Rattle.sdr_model.specs.declared.journal.Said.{Said}
use Rattle.sdr_core.proofs.keeper.Keeper.keep.Goals as goal

pub returns-in-Some-clause-works : goal.returns-in-Some-clause-works
returns-in-Some-clause-works c =
    let s : Spoken = record { daemon = c.args.daemon; said = c.push_reserved.new.self } in
    begun c.args.self.now.works.items c.push_reserved-in-Some.new.self.items s c.args.daemon c.args.said
    (c.push_reserved-in-Some.ensures.items ∙ ap (λ spoken. spoken.items ++ s ∷ []) c.in-Some.ensures.says.1)
    (ap (λ said. record { daemon = c.args.daemon; said = said }) (c.push_reserved.ensures.items
    ∙ ap (λ (said : List Said). said ++ c.in-Some.said ∷ []) ((λ i. (c.replace-first.ensures.value i).items) ∙ c.requires.room.blank) ∙ ap (λ (s : Said). s ∷ []) c.in-Some.ensures.says.0))
    c.in-Some.ensures.says.2
