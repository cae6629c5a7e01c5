use Rattle.std.proofs.Common.{◌∙◌, ◌≡◌, ◌++◌, ◌∷◌, [], ap, refl, subst, sym}
use Rattle.sdr_machine.specs.Core.{said_by, with_said}
use Rattle.sdr_model.specs.declared.event.Event.TheVariants as events
use Rattle.sdr_model.specs.declared.journal.What.TheVariants as whats
use Rattle.law_runs.proofs.WorkLemmas.{said_more}
use Rattle.sdr_core.proofs.KeeperLemmas.{closed_log, runs_apart}
use Rattle.sdr_core.proofs.SpokenLemmas.{apart-without, without_work-with_said}
use Rattle.sdr_core.proofs.StepLemmas.{closes_other}
use Rattle.sdr_core.specs.Keeping.{AreApart, works_of}
use Rattle.sdr_core.specs.Logging.{ClosesWithin, log_of}
use Rattle.sdr_core.specs.Noting.{entry_noted, made_noted, said_noted, under_of}
use Rattle.sdr_core.proofs.keeper.Keeper.note_leave.Goals as goal

pub returns-in-Some-clause-apart : goal.returns-in-Some-clause-apart
returns-in-Some-clause-apart c =
    subst AreApart (sym c.close_left.ensures.works) (apart-without (works_of c.args.self.now.works.items) c.args.noted.now.daemon c.requires.apart)

pub returns-in-Some-clause-log : goal.returns-in-Some-clause-log
returns-in-Some-clause-log c =
    let n = c.args.noted.now in
    let event = c.args.event.now in
    let old = works_of c.args.self.now.works.items in
    let e = made_noted n event [] [] in
    let said : c.said_of_leave-said.result ≡ e.said = c.said_of_leave-said.ensures ∙ ap (λ ev. said_noted n ev [] []) (sym c.requires.leaves) in
    let within : ClosesWithin e.said = subst (λ ev. ClosesWithin (said_noted n ev [] [])) (sym c.requires.leaves) (closes_other (events.Leaves c.args.leave) n.came.answer refl) in
    let all : said_by (with_said old n.daemon e.said) n.daemon ≡ said_by old n.daemon ++ c.said_of_leave-said.result ∷ [] =
    said_more old n.daemon e.said (runs_apart old c.requires.apart) ∙ ap (λ s. said_by old n.daemon ++ s ∷ []) (sym said) in
    closed_log (under_of n.under) (log_of c.args.self.now) (log_of c.close_left.new.self) e c.in-Some.close (sym c.closed_by.ensures ∙ c.in-Some.is) within
    (c.close_left.ensures.works ∙ sym (without_work-with_said old n.daemon e.said))
    (c.close_left.ensures.journal ∙ ap (λ s. c.args.self.now.journal.items ++ entry_noted n (whats.Work s c.in-Some.close) ∷ []) (sym all))
