-- Each call hands on what the next one needs.
use Rattle.std.proofs.Common.{[], ◌∷◌, sym, ap, subst, arith}
use Rattle.sdr_base.specs.declared.account.Acct.TheVariants as accts
use Rattle.test_pieces.proofs.piece_tests.rebuilt.Goals as goal

pub finish_and_send-requires-clause-clones : goal.finish_and_send-requires-clause-clones
finish_and_send-requires-clause-clones g c =
    let law = c.texts_keep.ensures in
    law.to_join accts.Outbound c.add_by_four.new.text.parts _ 1 74 7 _ c.in_ok-left.ensures.text c.in_ok-left.ensures.few (omega arith) (omega arith)

pub finish_and_send-requires-clause-wire : goal.finish_and_send-requires-clause-wire
finish_and_send-requires-clause-wire g c =
    let law = c.texts_keep.ensures in
    λ object new joins.
    law.wire [] object [] _ 8 52 new
    (law.finished accts.Outbound c.add_by_four.new.text.parts _ 1 52 0 7 object _ new c.in_ok-left.ensures.text c.in_ok-left.ensures.few (omega arith) joins)
