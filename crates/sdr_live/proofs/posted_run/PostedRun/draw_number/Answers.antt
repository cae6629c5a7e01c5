use Rattle.std.proofs.Common.{◌≡◌, ◌∙◌, List, ap, subst, sym}
use mathlib.Core.List.{IsPrefix}
use Rattle.sdr_board.specs.Known.{Published}
use Rattle.sdr_daemon.specs.Drawing.{place_of}
use Rattle.sdr_model.specs.declared.journal.Entry.{Entry}
use Rattle.sdr_turn.proofs.EntryLemmas.{add-prefix, prefix_self, prefix_trans}
use Rattle.sdr_live.proofs.posted_run.PostedRun.draw_number.Goals as goal

pub publish-requires-clause-begins : goal.publish-requires-clause-begins
publish-requires-clause-begins g c =
    let old = c.self.inside.run.core in
    let new = c.draw_number-coming.new.self.core in
    let posted = c.self.inside.writer.entries in
    let grows : IsPrefix old.log.journal new.log.journal =
    add-prefix (λ (e : Entry). e.number) (λ (e : Entry). place_of g.J.Origin.begins.daemons e.daemon) new.lock.roll.drawn c.args.place old.log.journal new.log.journal
    c.draw_number-coming.ensures.draws.adds in
    subst (λ (l : List Entry). IsPrefix posted l) (sym c.journal.ensures) (prefix_trans posted old.log.journal new.log.journal c.self.invariant.1 grows)

pub invariant_of-self : goal.invariant_of-self
invariant_of-self g c =
    let journal = c.draw_number-coming.new.self.core.log.journal in
    let all : c.publish.new.writer.entries ≡ journal = ap (λ (w : Published). w.entries) c.publish.ensures.published ∙ c.journal.ensures in (
      ap (λ (w : Published). w.board) c.publish.ensures.published ∙ c.requires.board,
      subst (λ (l : List Entry). IsPrefix l journal) (sym all) (prefix_self journal),
    )
