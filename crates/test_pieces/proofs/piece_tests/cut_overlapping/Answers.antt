-- Each call hands on what the next one needs.
use Rattle.std.proofs.Common.{[], ◌∷◌, arith}
use Rattle.test_pieces.proofs.piece_tests.cut_overlapping.Goals as goal

pub cut-requires-clause-object : goal.cut-requires-clause-object
cut-requires-clause-object g c = c.texts_keep.ensures.to_cut [] c.args.object [] [] 1 100 4 0 _ c.requires.text (omega arith)

pub cut-requires-2-clause-kept : goal.cut-requires-2-clause-kept
cut-requires-2-clause-kept g c =
    let s = c.texts_keep.ensures.to_cut [] c.args.object [] [] 1 100 4 0 _ c.requires.text (omega arith) c.in_ok-by_four.ensures.cut.total.kind in
    (c.in_ok-by_four.ensures.works s.row s.tickets s.sources s.keeps).kept

pub cut-requires-2-clause-object : goal.cut-requires-2-clause-object
cut-requires-2-clause-object g c =
    let law = c.texts_keep.ensures in
    let one = law.cut [] c.args.object [] [] 1 98 0 4 0 _ _ _ c.requires.text c.in_ok-by_four.ensures.cut in
    law.to_cut [] c.args.object (c.in_ok-by_four.by_four.object ∷ []) [] 1 98 5 0 _ one (omega arith)

pub cut-requires-3-clause-kept : goal.cut-requires-3-clause-kept
cut-requires-3-clause-kept g c =
    let law = c.texts_keep.ensures in
    let one = law.cut [] c.args.object [] [] 1 98 0 4 0 _ _ _ c.requires.text c.in_ok-by_four.ensures.cut in
    let s = law.to_cut [] c.args.object (c.in_ok-by_four.by_four.object ∷ []) [] 1 98 5 0 _ one (omega arith) c.in_ok-by_five.ensures.cut.total.kind in
    (c.in_ok-by_five.ensures.works s.row s.tickets s.sources s.keeps).kept

pub cut-requires-3-clause-object : goal.cut-requires-3-clause-object
cut-requires-3-clause-object g c =
    let law = c.texts_keep.ensures in
    let one = law.cut [] c.args.object [] [] 1 98 0 4 0 _ _ _ c.requires.text c.in_ok-by_four.ensures.cut in
    let two = law.cut [] c.args.object (c.in_ok-by_four.by_four.object ∷ []) [] 1 96 0 5 0 _ _ _ one c.in_ok-by_five.ensures.cut in
    law.to_cut [] c.args.object (c.in_ok-by_five.by_five.object ∷ []) (c.in_ok-by_four.by_four.object ∷ []) 1 96 5 1 _ two (omega arith)

pub returns-clause-kept : goal.returns-clause-kept
returns-clause-kept g c =
    let law = c.texts_keep.ensures in
    let one = law.cut [] c.args.object [] [] 1 98 0 4 0 _ _ _ c.requires.text c.in_ok-by_four.ensures.cut in
    let two = law.cut [] c.args.object (c.in_ok-by_four.by_four.object ∷ []) [] 1 96 0 5 0 _ _ _ one c.in_ok-by_five.ensures.cut in
    let s = law.to_cut [] c.args.object (c.in_ok-by_five.by_five.object ∷ []) (c.in_ok-by_four.by_four.object ∷ []) 1 96 5 1 _ two (omega arith)
    c.in_ok-last.ensures.cut.total.kind in
    (c.in_ok-last.ensures.works s.row s.tickets s.sources s.keeps).kept

pub returns-clause-text : goal.returns-clause-text
returns-clause-text g c =
    let law = c.texts_keep.ensures in
    let one = law.cut [] c.args.object [] [] 1 98 0 4 0 _ _ _ c.requires.text c.in_ok-by_four.ensures.cut in
    let two = law.cut [] c.args.object (c.in_ok-by_four.by_four.object ∷ []) [] 1 96 0 5 0 _ _ _ one c.in_ok-by_five.ensures.cut in
    law.cut [] c.args.object (c.in_ok-by_five.by_five.object ∷ []) (c.in_ok-by_four.by_four.object ∷ []) 1 94 0 5 1 _ _ _ two c.in_ok-last.ensures.cut
