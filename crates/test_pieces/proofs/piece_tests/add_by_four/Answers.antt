-- Each call hands on what the next one needs.
use Rattle.std.proofs.Common.{◌≡◌, ◌≤◌, List, [], ◌∷◌, length, sym, ap, subst, arith}
use Rattle.zco_join.specs.declared.filled.Filled.{Filled}
use Rattle.law_pieces.specs.Texts.{SomeText}
use Rattle.test_pieces.proofs.piece_tests.add_by_four.Goals as goal

pub add-requires-clause-piece : goal.add-requires-clause-piece
add-requires-clause-piece g c =
    let law = c.texts_keep.ensures in
    let a = c.args.pieces.now.first in
    let b = c.args.pieces.now.second in
    let x = c.args.object in
    let t = subst (λ (ps : List Filled). SomeText (g.O.HasHeap.heap c.args.o.now) ps (b.object ∷ (x ∷ (a.object ∷ []))) 1 96) (sym c.requires.empty) c.requires.text in
    let few : length c.args.text.now.parts ≤ 0 = let e = ap (length {A = Filled}) c.requires.empty in omega (arith, e) in
    law.to_add c.args.text.now [] (x ∷ (a.object ∷ [])) 1 96 0 b _ t few (omega arith)

pub add-requires-2-clause-kept : goal.add-requires-2-clause-kept
add-requires-2-clause-kept g c =
    let law = c.texts_keep.ensures in
    let a = c.args.pieces.now.first in
    let b = c.args.pieces.now.second in
    let x = c.args.object in
    let t = subst (λ (ps : List Filled). SomeText (g.O.HasHeap.heap c.args.o.now) ps (b.object ∷ (x ∷ (a.object ∷ []))) 1 96) (sym c.requires.empty) c.requires.text in
    let few : length c.args.text.now.parts ≤ 0 = let e = ap (length {A = Filled}) c.requires.empty in omega (arith, e) in
    let s = law.to_add c.args.text.now [] (x ∷ (a.object ∷ [])) 1 96 0 b _ t few (omega arith) c.in_ok-one.ensures.added.has.kind in
    (c.in_ok-one.ensures.works s.row s.tickets s.sources s.keeps).kept

pub add-requires-2-clause-piece : goal.add-requires-2-clause-piece
add-requires-2-clause-piece g c =
    let law = c.texts_keep.ensures in
    let a = c.args.pieces.now.first in
    let b = c.args.pieces.now.second in
    let x = c.args.object in
    let t = subst (λ (ps : List Filled). SomeText (g.O.HasHeap.heap c.args.o.now) ps (b.object ∷ (x ∷ (a.object ∷ []))) 1 96) (sym c.requires.empty) c.requires.text in
    let few : length c.args.text.now.parts ≤ 0 = let e = ap (length {A = Filled}) c.requires.empty in omega (arith, e) in
    let t1 = law.added c.args.text.now c.add.new.self [] (x ∷ (a.object ∷ [])) 1 94 0 0 b _ _ t few c.in_ok-one.ensures.added in
    let few1 = law.longer c.args.text.now c.add.new.self 0 0 b _ _ few c.in_ok-one.ensures.added in
    law.to_add c.add.new.self [] (x ∷ (a.object ∷ [])) 1 94 1 b _ t1 few1 (omega arith)

pub add-requires-3-clause-kept : goal.add-requires-3-clause-kept
add-requires-3-clause-kept g c =
    let law = c.texts_keep.ensures in
    let a = c.args.pieces.now.first in
    let b = c.args.pieces.now.second in
    let x = c.args.object in
    let t = subst (λ (ps : List Filled). SomeText (g.O.HasHeap.heap c.args.o.now) ps (b.object ∷ (x ∷ (a.object ∷ []))) 1 96) (sym c.requires.empty) c.requires.text in
    let few : length c.args.text.now.parts ≤ 0 = let e = ap (length {A = Filled}) c.requires.empty in omega (arith, e) in
    let t1 = law.added c.args.text.now c.add.new.self [] (x ∷ (a.object ∷ [])) 1 94 0 0 b _ _ t few c.in_ok-one.ensures.added in
    let few1 = law.longer c.args.text.now c.add.new.self 0 0 b _ _ few c.in_ok-one.ensures.added in
    let s = law.to_add c.add.new.self [] (x ∷ (a.object ∷ [])) 1 94 1 b _ t1 few1 (omega arith) c.in_ok-two.ensures.added.has.kind in
    (c.in_ok-two.ensures.works s.row s.tickets s.sources s.keeps).kept

pub add-requires-3-clause-piece : goal.add-requires-3-clause-piece
add-requires-3-clause-piece g c =
    let law = c.texts_keep.ensures in
    let a = c.args.pieces.now.first in
    let b = c.args.pieces.now.second in
    let x = c.args.object in
    let t = subst (λ (ps : List Filled). SomeText (g.O.HasHeap.heap c.args.o.now) ps (b.object ∷ (x ∷ (a.object ∷ []))) 1 96) (sym c.requires.empty) c.requires.text in
    let few : length c.args.text.now.parts ≤ 0 = let e = ap (length {A = Filled}) c.requires.empty in omega (arith, e) in
    let t1 = law.added c.args.text.now c.add.new.self [] (x ∷ (a.object ∷ [])) 1 94 0 0 b _ _ t few c.in_ok-one.ensures.added in
    let few1 = law.longer c.args.text.now c.add.new.self 0 0 b _ _ few c.in_ok-one.ensures.added in
    let t2 = law.added c.add.new.self c.add-2.new.self [] (x ∷ (a.object ∷ [])) 1 88 0 1 b _ _ t1 few1 c.in_ok-two.ensures.added in
    let few2 = law.longer c.add.new.self c.add-2.new.self 0 1 b _ _ few1 c.in_ok-two.ensures.added in
    law.to_add c.add-2.new.self (b.object ∷ (x ∷ [])) [] 1 88 3 a _ t2 few2 (omega arith)

pub returns-clause-kept : goal.returns-clause-kept
returns-clause-kept g c =
    let law = c.texts_keep.ensures in
    let a = c.args.pieces.now.first in
    let b = c.args.pieces.now.second in
    let x = c.args.object in
    let t = subst (λ (ps : List Filled). SomeText (g.O.HasHeap.heap c.args.o.now) ps (b.object ∷ (x ∷ (a.object ∷ []))) 1 96) (sym c.requires.empty) c.requires.text in
    let few : length c.args.text.now.parts ≤ 0 = let e = ap (length {A = Filled}) c.requires.empty in omega (arith, e) in
    let t1 = law.added c.args.text.now c.add.new.self [] (x ∷ (a.object ∷ [])) 1 94 0 0 b _ _ t few c.in_ok-one.ensures.added in
    let few1 = law.longer c.args.text.now c.add.new.self 0 0 b _ _ few c.in_ok-one.ensures.added in
    let t2 = law.added c.add.new.self c.add-2.new.self [] (x ∷ (a.object ∷ [])) 1 88 0 1 b _ _ t1 few1 c.in_ok-two.ensures.added in
    let few2 = law.longer c.add.new.self c.add-2.new.self 0 1 b _ _ few1 c.in_ok-two.ensures.added in
    let s = law.to_add c.add-2.new.self (b.object ∷ (x ∷ [])) [] 1 88 3 a _ t2 few2 (omega arith) c.in_ok-three.ensures.added.has.kind in
    (c.in_ok-three.ensures.works s.row s.tickets s.sources s.keeps).kept

pub returns-clause-few : goal.returns-clause-few
returns-clause-few g c =
    let law = c.texts_keep.ensures in
    let a = c.args.pieces.now.first in
    let b = c.args.pieces.now.second in
    let x = c.args.object in
    let t = subst (λ (ps : List Filled). SomeText (g.O.HasHeap.heap c.args.o.now) ps (b.object ∷ (x ∷ (a.object ∷ []))) 1 96) (sym c.requires.empty) c.requires.text in
    let few : length c.args.text.now.parts ≤ 0 = let e = ap (length {A = Filled}) c.requires.empty in omega (arith, e) in
    let t1 = law.added c.args.text.now c.add.new.self [] (x ∷ (a.object ∷ [])) 1 94 0 0 b _ _ t few c.in_ok-one.ensures.added in
    let few1 = law.longer c.args.text.now c.add.new.self 0 0 b _ _ few c.in_ok-one.ensures.added in
    let t2 = law.added c.add.new.self c.add-2.new.self [] (x ∷ (a.object ∷ [])) 1 88 0 1 b _ _ t1 few1 c.in_ok-two.ensures.added in
    let few2 = law.longer c.add.new.self c.add-2.new.self 0 1 b _ _ few1 c.in_ok-two.ensures.added in
    law.longer c.add-2.new.self c.add-3.new.self 0 3 a _ _ few2 c.in_ok-three.ensures.added

pub returns-clause-text : goal.returns-clause-text
returns-clause-text g c =
    let law = c.texts_keep.ensures in
    let a = c.args.pieces.now.first in
    let b = c.args.pieces.now.second in
    let x = c.args.object in
    let t = subst (λ (ps : List Filled). SomeText (g.O.HasHeap.heap c.args.o.now) ps (b.object ∷ (x ∷ (a.object ∷ []))) 1 96) (sym c.requires.empty) c.requires.text in
    let few : length c.args.text.now.parts ≤ 0 = let e = ap (length {A = Filled}) c.requires.empty in omega (arith, e) in
    let t1 = law.added c.args.text.now c.add.new.self [] (x ∷ (a.object ∷ [])) 1 94 0 0 b _ _ t few c.in_ok-one.ensures.added in
    let few1 = law.longer c.args.text.now c.add.new.self 0 0 b _ _ few c.in_ok-one.ensures.added in
    let t2 = law.added c.add.new.self c.add-2.new.self [] (x ∷ (a.object ∷ [])) 1 88 0 1 b _ _ t1 few1 c.in_ok-two.ensures.added in
    let few2 = law.longer c.add.new.self c.add-2.new.self 0 1 b _ _ few1 c.in_ok-two.ensures.added in
    law.added c.add-2.new.self c.add-3.new.self (b.object ∷ (x ∷ [])) [] 1 74 0 3 a _ _ t2 few2 c.in_ok-three.ensures.added
