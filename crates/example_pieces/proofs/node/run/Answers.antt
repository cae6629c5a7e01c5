-- Each call hands on what the next one needs.
use Rattle.std.proofs.Common.{[], ◌∷◌, sym, subst, arith}
use Rattle.sdr_base.specs.declared.account.Acct.TheVariants as accts
use Rattle.law_pieces.specs.Texts.{SomeText}
use Rattle.example_pieces.proofs.node.run.Goals as goal

pub count-requires-clause-object : goal.count-requires-clause-object
count-requires-clause-object g c =
    c.texts_keep.ensures.object [] c.in_ok-object.object [] [] 1 300 _ c.in_ok-object.ensures.text

pub count-requires-2-clause-object : goal.count-requires-2-clause-object
count-requires-2-clause-object g c =
    let t = subst (λ h. SomeText h [] (c.in_ok-object.object ∷ []) 1 300) (sym c.in_ok-by_ten.ensures.looks.same) c.in_ok-object.ensures.text in
    c.texts_keep.ensures.object [] c.in_ok-object.object [] [] 1 300 _ t

pub add_all-requires-clause-payload : goal.add_all-requires-clause-payload
add_all-requires-clause-payload g c =
    let t = subst (λ h. SomeText h [] (c.in_ok-object.object ∷ []) 1 300) (sym c.in_ok-by_ten.ensures.looks.same) c.in_ok-object.ensures.text in
    let u = subst (λ h. SomeText h [] (c.in_ok-object.object ∷ []) 1 300) (sym c.in_ok-by_seven.ensures.looks.same) t in
    rw c.new-text.ensures (record { before = []; behind = []; few = omega arith; text = u })

pub finish_and_send-requires-clause-clones : goal.finish_and_send-requires-clause-clones
finish_and_send-requires-clause-clones g c =
    let h = c.in_ok-missing.ensures.text in
    c.texts_keep.ensures.to_join accts.Outbound c.add_all.new.text.parts _ 1 176 31 _ h.text h.few (omega arith) (omega arith)

pub finish_and_send-requires-clause-wire : goal.finish_and_send-requires-clause-wire
finish_and_send-requires-clause-wire g c =
    let h = c.in_ok-missing.ensures.text in
    let law = c.texts_keep.ensures in
    λ object new joins. law.wire [] object [] _ 32 82 new (law.finished accts.Outbound c.add_all.new.text.parts _ 1 82 0 31 object _ new h.text h.few (omega arith) joins)
