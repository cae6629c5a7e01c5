use Rattle.std.proofs.Common.{◌≡◌, ◌<◌, ◌∙◌, List, sym, subst}
use Rattle.std.specs.Prelude.{false, slice_set, true}
use Rattle.sdr_log.specs.Log.{names_line}
use Rattle.sdr_log.specs.Reading.{IsMarked, Noted}
use Rattle.sdr_log.specs.declared.record.Record.{Record}
use Rattle.sdr_log.proofs.ReadingLemmas.{IsBad-refused, IsMarked-push}
use Rattle.sdr_log.proofs.noted.Noted.add.Goals as goal

pub returns-then-not-is_free-clause-bad_log : goal.returns-then-not-is_free-clause-bad_log
returns-then-not-is_free-clause-bad_log c =
    IsBad-refused c.args.self.now c.args.old
    (λ free. apart (sym (c.is_free.ensures.1 free) ∙ c.if-not-is_free.true))
  where
    apart : true ≡ false → ⊥
    apart e = cc

pub invariant_of-self-2 : goal.invariant_of-self-2
invariant_of-self-2 c =
    let old = c.self.inside in
    let marks = slice_set old.marks.items c.args.old.line true in
    subst (λ (records : List Record). IsMarked records marks) (sym c.in_ok-push.ensures.ok)
    (IsMarked-push old.records c.args.old old.marks.items c.self.invariant
    (subst (λ (n : Noted). (c.args.old.line < n.lines) × (names_line n.records c.args.old.line ≡ false))
    (sym c.self.view_is) (c.is_free.ensures.0 c.if-not-is_free.false)))
