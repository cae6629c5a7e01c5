use Rattle.std.proofs.Common.{sym, ◌∙◌}
use Rattle.std.proofs.lemmas.Bool.{eqb-true}
use Rattle.std.proofs.lemmas.List.{nil_from_length}
use Rattle.sdr_words.proofs.DraftLemmas.{AreBinders-step, AreBinders-unnamed}
use Rattle.sdr_words.proofs.draft.Draft.add.Goals as goal
use Rattle.sdr_words.proofs.draft.Draft.add.Goals.{then-not-is_empty+in_ok-insert, else-not-is_empty}

pub invariant_of-self-2 : goal.invariant_of-self-2
invariant_of-self-2 c =
    elim c.if-not-is_empty.branch [
      | then-not-is_empty+in_ok-insert w ↦
          rw (c.push_reserved.ensures.items, w.self-inside-is, c.reserve.ensures.items)
          (AreBinders-step c.self.inside.binders w.insert.new.self
          (record { daemon = c.args.daemon; name = c.args.name }) _ c.args.step
          c.self.invariant w.in_ok-insert.ensures.updates c.requires.daemon c.requires.name)
      | else-not-is_empty w ↦
          rw (c.push_reserved.ensures.items, w.self-inside-is, c.reserve.ensures.items)
          (AreBinders-unnamed c.self.inside.binders.keys _ c.args.step c.self.invariant
          (c.requires.name ∙ nil_from_length _ (eqb-true _ _ (sym c.is_empty.ensures ∙ w.if-not-is_empty.false))))
    ]
