-- A piece is cut, and it is added.
use Rattle.std.proofs.Common.{◌+◌, ◌*◌, [], ◌∷◌, ◌++◌, arith}
use Rattle.law_pieces.specs.Texts.{room_to_add}
use Rattle.example_pieces.proofs.node.add_next.Goals as goal

pub cut-requires-clause-object : goal.cut-requires-clause-object
cut-requires-clause-object g c =
    let law = c.texts_keep.ensures in
    let p = c.requires.payload in
    let r = c.args.text.now in
    let x = c.args.object in
    law.to_cut r.parts x p.has.before p.has.behind 1 (2 + (2 * p.n + 1) * 2) c.args.most c.args.k _ p.has.text (omega arith)

pub add-requires-clause-kept : goal.add-requires-clause-kept
add-requires-clause-kept g c =
    let law = c.texts_keep.ensures in
    let p = c.requires.payload in
    let r = c.args.text.now in
    let x = c.args.object in
    let s = law.to_cut r.parts x p.has.before p.has.behind 1 (2 + (2 * p.n + 1) * 2) c.args.most c.args.k _ p.has.text (omega arith) c.in_ok-piece.ensures.cut.total.kind in
    (c.in_ok-piece.ensures.works s.row s.tickets s.sources s.keeps).kept

pub add-requires-clause-piece : goal.add-requires-clause-piece
add-requires-clause-piece g c =
    let law = c.texts_keep.ensures in
    let p = c.requires.payload in
    let r = c.args.text.now in
    let x = c.args.object in
    let t = law.cut r.parts x p.has.before p.has.behind 1 ((2 * p.n + 1) * 2) 0 c.args.most c.args.k _ _ _
    (law.less r.parts _ 1 _ ((2 * p.n + 1) * 2 + 2) _ (omega arith) p.has.text) c.in_ok-piece.ensures.cut in
    law.to_add r [] (x ∷ (p.has.before ++ p.has.behind)) 1 ((2 * p.n + 1) * 2) p.n c.in_ok-piece.piece _ t p.has.few (omega arith)

pub returns-clause-kept : goal.returns-clause-kept
returns-clause-kept g c =
    let law = c.texts_keep.ensures in
    let p = c.requires.payload in
    let r = c.args.text.now in
    let x = c.args.object in
    let t = law.cut r.parts x p.has.before p.has.behind 1 ((2 * p.n + 1) * 2) 0 c.args.most c.args.k _ _ _
    (law.less r.parts _ 1 _ ((2 * p.n + 1) * 2 + 2) _ (omega arith) p.has.text) c.in_ok-piece.ensures.cut in
    let s = law.to_add r [] (x ∷ (p.has.before ++ p.has.behind)) 1 ((2 * p.n + 1) * 2) p.n c.in_ok-piece.piece _ t p.has.few (omega arith)
    c.in_ok-missing.ensures.added.has.kind in
    (c.in_ok-missing.ensures.works s.row s.tickets s.sources s.keeps).kept

pub returns-clause-text : goal.returns-clause-text
returns-clause-text g c = record {
  adds = λ n room h.
      let law = c.texts_keep.ensures in
      let r = c.args.text.now in
      let x = c.args.object in
      let piece = c.in_ok-piece.piece in
      let t = law.cut r.parts x h.before h.behind 1 (room + room_to_add 1 n) 0 c.args.most c.args.k _ _ _
      (law.less r.parts _ 1 _ ((room + room_to_add 1 n) + 2) _ (omega arith) h.text) c.in_ok-piece.ensures.cut in
      record {
        before = piece.object ∷ [];
        behind = h.before ++ h.behind;
        few = law.longer r c.add.new.self 0 n piece _ _ h.few c.in_ok-missing.ensures.added;
        text = law.added r c.add.new.self [] (x ∷ (h.before ++ h.behind)) 1 room 0 n piece _ _ t h.few c.in_ok-missing.ensures.added;
      };
}
