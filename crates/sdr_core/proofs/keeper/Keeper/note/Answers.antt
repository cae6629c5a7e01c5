use Rattle.std.proofs.Common.{◌∙◌, ◌≡◌, ◌++◌, ◌∷◌, [], ap, subst, sym}
use Rattle.sdr_machine.specs.Core.{was_outside, said_by, with_said, without_work}
use Rattle.sdr_model.specs.declared.journal.What.TheVariants as whats
use Rattle.sdr_core.proofs.KeeperLemmas.{apart_either, closed_log}
use Rattle.sdr_core.proofs.SpokenLemmas.{apart-said, apart-without}
use Rattle.sdr_core.specs.Keeping.{AreApart, works_of}
use Rattle.sdr_core.specs.Logging.{log_of}
use Rattle.sdr_core.specs.Noting.{entry_noted, made_noted, under_of}
use Rattle.sdr_core.proofs.keeper.Keeper.note.Goals as goal

pub close-requires-clause-apart : goal.close-requires-clause-apart
close-requires-clause-apart c =
    subst AreApart (sym c.keep.ensures.works) (apart-said (works_of c.args.self.now.works.items) c.args.noted.now.daemon c.said-said.result c.requires.apart)

pub returns-in-None-clause-apart : goal.returns-in-None-clause-apart
returns-in-None-clause-apart c =
    subst AreApart (sym c.go_on.ensures.goes_on.works)
    (apart_either (was_outside c.said-said.result) (works_of c.args.self.now.works.items) c.args.noted.now.daemon c.said-said.result c.requires.apart)

pub returns-in-Some-clause-apart : goal.returns-in-Some-clause-apart
returns-in-Some-clause-apart c =
    subst AreApart (sym c.close.ensures.works) (apart-without (works_of c.keep.new.self.works.items) c.args.noted.now.daemon
    (subst AreApart (sym c.keep.ensures.works) (apart-said (works_of c.args.self.now.works.items) c.args.noted.now.daemon c.said-said.result c.requires.apart)))

pub returns-in-Some-clause-log : goal.returns-in-Some-clause-log
returns-in-Some-clause-log c =
    let n = c.args.noted.now in
    let old = works_of c.args.self.now.works.items in
    let e = made_noted n c.args.draft.event c.args.moves.now c.args.shown.now in
    let kept : works_of c.keep.new.self.works.items ≡ with_said old n.daemon e.said = c.keep.ensures.works ∙ ap (with_said old n.daemon) c.said-said.ensures in
    closed_log (under_of n.under) (log_of c.args.self.now) (log_of c.close.new.self) e c.in-Some.close (sym c.closed_by.ensures ∙ c.in-Some.is) c.requires.within
    (c.close.ensures.works ∙ ap (λ works. without_work works n.daemon) kept)
    (c.close.ensures.journal ∙ (λ i. (c.keep.ensures.journal i).items ++ entry_noted n (whats.Work (said_by (kept i) n.daemon) c.in-Some.close) ∷ []))
