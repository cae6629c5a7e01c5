-- The source goes, or is flagged.
use Rattle.std.proofs.Common.{◌∙◌, sym, arith}
use Rattle.std.proofs.lemmas.Result.{on_ok_weaker}
use Rattle.zco_ref.proofs.DestroyLemmas.{destroyed_used, may_go}
use Rattle.zco_ref.proofs.KeptLemmas.{source_reaches}
use Rattle.zco_ref.proofs.dropping.destroy_ref.Goals as goal

pub see-requires-clause-source : goal.see-requires-clause-source
see-requires-clause-source g c =
    let s = c.requires.source c.in_ok-expect_kind.ensures.found in
    rw c.expect_kind.ensures.looks.same (record { source = s.source; keeps = s.tied.keeps })

pub set_word-requires-clause-inside : goal.set_word-requires-clause-inside
set_word-requires-clause-inside g c =
    let s = c.requires.source c.in_ok-expect_kind.ensures.found in
    rw (c.see.ensures.looks.same, c.expect_kind.ensures.looks.same) (source_reaches s.tied.keeps 16 (omega arith))

pub returns-clause-destroyed : goal.returns-clause-destroyed
returns-clause-destroyed g c =
    let sees = rw c.expect_kind.ensures.looks.same at c.in_ok-seen.ensures.seen in
    let may = may_go c.in_ok-expect_kind.ensures.found sees (sym c.is_owner.ensures ∙ c.if-is_owner.false) c.if-seen.false in
    on_ok_weaker _
    (λ w. destroyed_used c.in_ok-seen.seen sees may (λ z. c.if-uses-eq0.false (c.uses.ensures ∙ z)) w)
    (rw (c.see.ensures.looks.same, c.expect_kind.ensures.looks.same) at c.set_word.ensures.written)
