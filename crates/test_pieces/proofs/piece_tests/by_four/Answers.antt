-- Each call hands on what the next one needs.
use Rattle.std.proofs.Common.{[], ◌∷◌, sym, subst, arith}
use Rattle.law_pieces.specs.Texts.{SomeText}
use Rattle.test_pieces.proofs.piece_tests.by_four.Goals as goal

pub count-requires-clause-object : goal.count-requires-clause-object
count-requires-clause-object g c = c.texts_keep.ensures.object [] c.args.object [] [] 1 100 _ c.requires.text

pub cut-requires-clause-object : goal.cut-requires-clause-object
cut-requires-clause-object g c =
    let told = subst (λ h. SomeText h [] (c.args.object ∷ []) 1 100) (sym c.in_ok-count.ensures.looks.same) c.requires.text in
    c.texts_keep.ensures.to_cut [] c.args.object [] [] 1 100 4 0 _ told (omega arith)

pub cut-requires-2-clause-kept : goal.cut-requires-2-clause-kept
cut-requires-2-clause-kept g c =
    let told = subst (λ h. SomeText h [] (c.args.object ∷ []) 1 100) (sym c.in_ok-count.ensures.looks.same) c.requires.text in
    let s = c.texts_keep.ensures.to_cut [] c.args.object [] [] 1 100 4 0 _ told (omega arith) c.in_ok-first.ensures.cut.total.kind in
    (c.in_ok-first.ensures.works s.row s.tickets s.sources s.keeps).kept

pub cut-requires-2-clause-object : goal.cut-requires-2-clause-object
cut-requires-2-clause-object g c =
    let law = c.texts_keep.ensures in
    let told = subst (λ h. SomeText h [] (c.args.object ∷ []) 1 100) (sym c.in_ok-count.ensures.looks.same) c.requires.text in
    let one = law.cut [] c.args.object [] [] 1 98 0 4 0 _ _ _ told c.in_ok-first.ensures.cut in
    law.to_cut [] c.args.object (c.in_ok-first.first.object ∷ []) [] 1 98 4 1 _ one (omega arith)

pub returns-clause-kept : goal.returns-clause-kept
returns-clause-kept g c =
    let law = c.texts_keep.ensures in
    let told = subst (λ h. SomeText h [] (c.args.object ∷ []) 1 100) (sym c.in_ok-count.ensures.looks.same) c.requires.text in
    let one = law.cut [] c.args.object [] [] 1 98 0 4 0 _ _ _ told c.in_ok-first.ensures.cut in
    let s = law.to_cut [] c.args.object (c.in_ok-first.first.object ∷ []) [] 1 98 4 1 _ one (omega arith) c.in_ok-second.ensures.cut.total.kind in
    (c.in_ok-second.ensures.works s.row s.tickets s.sources s.keeps).kept

pub returns-clause-text : goal.returns-clause-text
returns-clause-text g c =
    let law = c.texts_keep.ensures in
    let told = subst (λ h. SomeText h [] (c.args.object ∷ []) 1 100) (sym c.in_ok-count.ensures.looks.same) c.requires.text in
    let one = law.cut [] c.args.object [] [] 1 98 0 4 0 _ _ _ told c.in_ok-first.ensures.cut in
    law.cut [] c.args.object (c.in_ok-first.first.object ∷ []) [] 1 96 0 4 1 _ _ _ one c.in_ok-second.ensures.cut
