-- Each call hands on what the next one needs.
use Rattle.std.proofs.Common.{◌≤◌, [], ◌∷◌, length, sym, subst, arith}
use Rattle.sdr_base.specs.Objects.{Heap}
use Rattle.sdr_base.specs.declared.account.Acct.TheVariants as accts
use Rattle.zco_pieces.specs.Places.{Rebuilt}
use Rattle.law_pieces.specs.Texts.{SomeText}
use Rattle.test_pieces.proofs.piece_tests.finish_twice.Goals as goal

pub add-requires-clause-piece : goal.add-requires-clause-piece
add-requires-clause-piece g c =
    let law = c.texts_keep.ensures in
    let p = c.args.pieces.now.by_four in
    let q = c.args.pieces.now.by_five in
    let l = c.args.pieces.now.last in
    let x = c.args.object in
    let r = c.finish_early-early.new.text in
    let t = subst (λ (h : Heap). SomeText h r.parts (q.object ∷ (p.object ∷ (l.object ∷ (x ∷ [])))) 1 86) (sym c.finish_early-early.ensures.same)
    (subst (λ (v : Rebuilt). SomeText (g.O.HasHeap.heap c.args.o.now) v.parts (q.object ∷ (p.object ∷ (l.object ∷ (x ∷ [])))) 1 86) (sym c.finish_early-early.ensures.text) c.requires.text) in
    let few = subst (λ (v : Rebuilt). length v.parts ≤ 3) (sym c.finish_early-early.ensures.text) c.requires.few in
    law.to_add r (q.object ∷ (p.object ∷ [])) (x ∷ []) 1 86 3 l _ t few (omega arith)

pub finish_and_send-requires-clause-kept : goal.finish_and_send-requires-clause-kept
finish_and_send-requires-clause-kept g c =
    let law = c.texts_keep.ensures in
    let p = c.args.pieces.now.by_four in
    let q = c.args.pieces.now.by_five in
    let l = c.args.pieces.now.last in
    let x = c.args.object in
    let r = c.finish_early-early.new.text in
    let t = subst (λ (h : Heap). SomeText h r.parts (q.object ∷ (p.object ∷ (l.object ∷ (x ∷ [])))) 1 86) (sym c.finish_early-early.ensures.same)
    (subst (λ (v : Rebuilt). SomeText (g.O.HasHeap.heap c.args.o.now) v.parts (q.object ∷ (p.object ∷ (l.object ∷ (x ∷ [])))) 1 86) (sym c.finish_early-early.ensures.text) c.requires.text) in
    let few = subst (λ (v : Rebuilt). length v.parts ≤ 3) (sym c.finish_early-early.ensures.text) c.requires.few in
    let s = law.to_add r (q.object ∷ (p.object ∷ [])) (x ∷ []) 1 86 3 l _ t few (omega arith) c.in_ok-third.ensures.added.has.kind in
    (c.in_ok-third.ensures.works s.row s.tickets s.sources s.keeps).kept

pub finish_and_send-requires-clause-clones : goal.finish_and_send-requires-clause-clones
finish_and_send-requires-clause-clones g c =
    let law = c.texts_keep.ensures in
    let p = c.args.pieces.now.by_four in
    let q = c.args.pieces.now.by_five in
    let l = c.args.pieces.now.last in
    let x = c.args.object in
    let r = c.finish_early-early.new.text in
    let t = subst (λ (h : Heap). SomeText h r.parts (q.object ∷ (p.object ∷ (l.object ∷ (x ∷ [])))) 1 86) (sym c.finish_early-early.ensures.same)
    (subst (λ (v : Rebuilt). SomeText (g.O.HasHeap.heap c.args.o.now) v.parts (q.object ∷ (p.object ∷ (l.object ∷ (x ∷ [])))) 1 86) (sym c.finish_early-early.ensures.text) c.requires.text) in
    let few = subst (λ (v : Rebuilt). length v.parts ≤ 3) (sym c.finish_early-early.ensures.text) c.requires.few in
    let t1 = law.added r c.add.new.self (q.object ∷ (p.object ∷ [])) (x ∷ []) 1 72 0 3 l _ _ t few c.in_ok-third.ensures.added in
    let few1 = law.longer r c.add.new.self 0 3 l _ _ few c.in_ok-third.ensures.added in
    law.to_join accts.Outbound c.add.new.self.parts _ 1 72 7 _ t1 few1 (omega arith) (omega arith)

pub finish_and_send-requires-clause-wire : goal.finish_and_send-requires-clause-wire
finish_and_send-requires-clause-wire g c =
    let law = c.texts_keep.ensures in
    let p = c.args.pieces.now.by_four in
    let q = c.args.pieces.now.by_five in
    let l = c.args.pieces.now.last in
    let x = c.args.object in
    let r = c.finish_early-early.new.text in
    let t = subst (λ (h : Heap). SomeText h r.parts (q.object ∷ (p.object ∷ (l.object ∷ (x ∷ [])))) 1 86) (sym c.finish_early-early.ensures.same)
    (subst (λ (v : Rebuilt). SomeText (g.O.HasHeap.heap c.args.o.now) v.parts (q.object ∷ (p.object ∷ (l.object ∷ (x ∷ [])))) 1 86) (sym c.finish_early-early.ensures.text) c.requires.text) in
    let few = subst (λ (v : Rebuilt). length v.parts ≤ 3) (sym c.finish_early-early.ensures.text) c.requires.few in
    let t1 = law.added r c.add.new.self (q.object ∷ (p.object ∷ [])) (x ∷ []) 1 72 0 3 l _ _ t few c.in_ok-third.ensures.added in
    let few1 = law.longer r c.add.new.self 0 3 l _ _ few c.in_ok-third.ensures.added in
    λ object new joins. law.wire [] object [] _ 8 50 new (law.finished accts.Outbound c.add.new.self.parts _ 1 50 0 7 object _ new t1 few1 (omega arith) joins)
