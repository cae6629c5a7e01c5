-- Each call hands on what the next one needs.
use Rattle.std.proofs.Common.{◌≡◌, ◌≤◌, List, [], ◌∷◌, length, sym, ap, subst, arith}
use Rattle.zco_join.specs.declared.filled.Filled.{Filled}
use Rattle.law_pieces.specs.Texts.{SomeText}
use Rattle.test_pieces.proofs.piece_tests.add_two.Goals as goal

pub add-requires-clause-piece : goal.add-requires-clause-piece
add-requires-clause-piece g c =
    let law = c.texts_keep.ensures in
    let p = c.args.pieces.now.by_four in
    let q = c.args.pieces.now.by_five in
    let l = c.args.pieces.now.last in
    let x = c.args.object in
    let t = subst (λ (ps : List Filled). SomeText (g.O.HasHeap.heap c.args.o.now) ps (l.object ∷ (x ∷ (q.object ∷ (p.object ∷ [])))) 1 94) (sym c.requires.empty) c.requires.text in
    let few : length c.args.text.now.parts ≤ 0 = let e = ap (length {A = Filled}) c.requires.empty in omega (arith, e) in
    law.to_add c.args.text.now (l.object ∷ (x ∷ (q.object ∷ []))) [] 1 94 0 p _ t few (omega arith)

pub add-requires-2-clause-kept : goal.add-requires-2-clause-kept
add-requires-2-clause-kept g c =
    let law = c.texts_keep.ensures in
    let p = c.args.pieces.now.by_four in
    let q = c.args.pieces.now.by_five in
    let l = c.args.pieces.now.last in
    let x = c.args.object in
    let t = subst (λ (ps : List Filled). SomeText (g.O.HasHeap.heap c.args.o.now) ps (l.object ∷ (x ∷ (q.object ∷ (p.object ∷ [])))) 1 94) (sym c.requires.empty) c.requires.text in
    let few : length c.args.text.now.parts ≤ 0 = let e = ap (length {A = Filled}) c.requires.empty in omega (arith, e) in
    let s = law.to_add c.args.text.now (l.object ∷ (x ∷ (q.object ∷ []))) [] 1 94 0 p _ t few (omega arith) c.in_ok-one.ensures.added.has.kind in
    (c.in_ok-one.ensures.works s.row s.tickets s.sources s.keeps).kept

pub add-requires-2-clause-piece : goal.add-requires-2-clause-piece
add-requires-2-clause-piece g c =
    let law = c.texts_keep.ensures in
    let p = c.args.pieces.now.by_four in
    let q = c.args.pieces.now.by_five in
    let l = c.args.pieces.now.last in
    let x = c.args.object in
    let t = subst (λ (ps : List Filled). SomeText (g.O.HasHeap.heap c.args.o.now) ps (l.object ∷ (x ∷ (q.object ∷ (p.object ∷ [])))) 1 94) (sym c.requires.empty) c.requires.text in
    let few : length c.args.text.now.parts ≤ 0 = let e = ap (length {A = Filled}) c.requires.empty in omega (arith, e) in
    let t1 = law.added c.args.text.now c.add.new.self (l.object ∷ (x ∷ (q.object ∷ []))) [] 1 92 0 0 p _ _ t few c.in_ok-one.ensures.added in
    let few1 = law.longer c.args.text.now c.add.new.self 0 0 p _ _ few c.in_ok-one.ensures.added in
    law.to_add c.add.new.self (p.object ∷ (l.object ∷ (x ∷ []))) [] 1 92 1 q _ t1 few1 (omega arith)

pub returns-clause-kept : goal.returns-clause-kept
returns-clause-kept g c =
    let law = c.texts_keep.ensures in
    let p = c.args.pieces.now.by_four in
    let q = c.args.pieces.now.by_five in
    let l = c.args.pieces.now.last in
    let x = c.args.object in
    let t = subst (λ (ps : List Filled). SomeText (g.O.HasHeap.heap c.args.o.now) ps (l.object ∷ (x ∷ (q.object ∷ (p.object ∷ [])))) 1 94) (sym c.requires.empty) c.requires.text in
    let few : length c.args.text.now.parts ≤ 0 = let e = ap (length {A = Filled}) c.requires.empty in omega (arith, e) in
    let t1 = law.added c.args.text.now c.add.new.self (l.object ∷ (x ∷ (q.object ∷ []))) [] 1 92 0 0 p _ _ t few c.in_ok-one.ensures.added in
    let few1 = law.longer c.args.text.now c.add.new.self 0 0 p _ _ few c.in_ok-one.ensures.added in
    let s = law.to_add c.add.new.self (p.object ∷ (l.object ∷ (x ∷ []))) [] 1 92 1 q _ t1 few1 (omega arith) c.in_ok-two.ensures.added.has.kind in
    (c.in_ok-two.ensures.works s.row s.tickets s.sources s.keeps).kept

pub returns-clause-few : goal.returns-clause-few
returns-clause-few g c =
    let law = c.texts_keep.ensures in
    let p = c.args.pieces.now.by_four in
    let q = c.args.pieces.now.by_five in
    let l = c.args.pieces.now.last in
    let x = c.args.object in
    let t = subst (λ (ps : List Filled). SomeText (g.O.HasHeap.heap c.args.o.now) ps (l.object ∷ (x ∷ (q.object ∷ (p.object ∷ [])))) 1 94) (sym c.requires.empty) c.requires.text in
    let few : length c.args.text.now.parts ≤ 0 = let e = ap (length {A = Filled}) c.requires.empty in omega (arith, e) in
    let t1 = law.added c.args.text.now c.add.new.self (l.object ∷ (x ∷ (q.object ∷ []))) [] 1 92 0 0 p _ _ t few c.in_ok-one.ensures.added in
    let few1 = law.longer c.args.text.now c.add.new.self 0 0 p _ _ few c.in_ok-one.ensures.added in
    law.longer c.add.new.self c.add-2.new.self 0 1 q _ _ few1 c.in_ok-two.ensures.added

pub returns-clause-text : goal.returns-clause-text
returns-clause-text g c =
    let law = c.texts_keep.ensures in
    let p = c.args.pieces.now.by_four in
    let q = c.args.pieces.now.by_five in
    let l = c.args.pieces.now.last in
    let x = c.args.object in
    let t = subst (λ (ps : List Filled). SomeText (g.O.HasHeap.heap c.args.o.now) ps (l.object ∷ (x ∷ (q.object ∷ (p.object ∷ [])))) 1 94) (sym c.requires.empty) c.requires.text in
    let few : length c.args.text.now.parts ≤ 0 = let e = ap (length {A = Filled}) c.requires.empty in omega (arith, e) in
    let t1 = law.added c.args.text.now c.add.new.self (l.object ∷ (x ∷ (q.object ∷ []))) [] 1 92 0 0 p _ _ t few c.in_ok-one.ensures.added in
    let few1 = law.longer c.args.text.now c.add.new.self 0 0 p _ _ few c.in_ok-one.ensures.added in
    law.added c.add.new.self c.add-2.new.self (p.object ∷ (l.object ∷ (x ∷ []))) [] 1 86 0 1 q _ _ t1 few1 c.in_ok-two.ensures.added
