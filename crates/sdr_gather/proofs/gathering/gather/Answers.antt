use Rattle.std.proofs.Common.{◌≡◌, ◌≤◌, ◌+◌, ◌∷◌, [], length, length-append, refl, rules, subst, sym, ap, ◌∙◌, arith}
use Rattle.std.proofs.lemmas.List.{nil_from_length}
use Rattle.sdr_machine.specs.Asked.{count_outside}
use Rattle.sdr_model.specs.Pieces.{piece_told, pieces_told}
use Rattle.sdr_gather.specs.Gathering.{AddsPiece, Gathering}
use Rattle.sdr_gather.proofs.GatheringLemmas.{adds-length, count_outside-cons, gathering-end, gathering-next, gathering-start, length-piece}
use Rattle.sdr_gather.proofs.gathering.gather.Goals as goal

pub loop-piece-init : goal.loop-piece-init
loop-piece-init g c = record {
  gathering = subst (λ bytes. Gathering (g.M.Media.told c.args.media.now) c.args.pieces.now c.args.pieces.now bytes) (sym c.requires.blank)
      (gathering-start (g.M.Media.told c.args.media.now) c.args.pieces.now);
  few = omega (arith, c.requires.page, ap length c.requires.blank);
  room = c.requires.room;
  page = search rules;
  told = refl;
  faults = omega arith;
  short = omega arith;
  asks = omega arith;
}

pub add_piece-requires : goal.add_piece-requires
add_piece-requires g c =
    let e : c.loop-piece.rest.now ≡ c.in-Some.piece.now ∷ c.in-Some.after.now = search c.in-Some.ensures.cases in
    let few = subst (λ l. length c.loop-piece.bytes.items + length (pieces_told l) ≤ 4096) e c.loop-piece.invariant.few in
    let all = length-append (piece_told c.in-Some.piece.now) (pieces_told c.in-Some.after.now) in
    let one = length-piece c.in-Some.piece.now in
    record {
      page = c.loop-piece.invariant.page;
      fits = omega (arith, few, all, one);
      room = omega (arith, few, all, one, c.loop-piece.invariant.room);
    }

pub loop-piece-preserved : goal.loop-piece-preserved
loop-piece-preserved g c =
    let e : c.loop-piece.rest.now ≡ c.in-Some.piece.now ∷ c.in-Some.after.now = search c.in-Some.ensures.cases in
    record {
      gathering = gathering-next _ _ c.in-Some.piece.now c.in-Some.after.now _ _
          (subst (λ l. Gathering (g.M.Media.told c.args.media.now) c.args.pieces.now l c.loop-piece.bytes.items) e c.loop-piece.invariant.gathering)
          (subst (λ told. AddsPiece told c.in-Some.piece.now c.loop-piece.bytes.items c.add_piece.new.bytes.items)
          c.loop-piece.invariant.told c.in_ok-add_piece.ensures.adds);
      few =
          let few = subst (λ l. length c.loop-piece.bytes.items + length (pieces_told l) ≤ 4096) e c.loop-piece.invariant.few in
          omega (
            arith,
            few,
            length-append (piece_told c.in-Some.piece.now) (pieces_told c.in-Some.after.now),
            length-piece c.in-Some.piece.now,
            adds-length _ c.in-Some.piece.now _ _ c.in_ok-add_piece.ensures.adds,
          );
      room = omega (arith, c.loop-piece.invariant.room, c.add_piece.ensures.reserved);
      page = c.add_piece.ensures.page ∙ c.loop-piece.invariant.page;
      told = c.add_piece.ensures.told ∙ c.loop-piece.invariant.told;
      faults = omega (arith, c.loop-piece.invariant.faults, c.add_piece.ensures.faults);
      short = omega (arith, c.loop-piece.invariant.short, c.add_piece.ensures.short);
      asks =
          let more = c.add_piece.ensures.asks in
          let before = subst (λ l. g.M.Media.asks c.loop-piece.media + count_outside l ≤ g.M.Media.asks c.args.media.now + count_outside c.args.pieces.now) e
          c.loop-piece.invariant.asks in
          omega (arith, more, before, count_outside-cons c.in-Some.piece.now c.in-Some.after.now);
    }

pub returns-clause-gathered : goal.returns-clause-gathered
returns-clause-gathered g c =
    let e : c.loop-piece.rest.now ≡ [] = nil_from_length c.loop-piece.rest.now (search c.in_default.ensures) in
    gathering-end _ _ _
    (subst (λ l. Gathering (g.M.Media.told c.args.media.now) c.args.pieces.now l c.loop-piece.bytes.items) e c.loop-piece.invariant.gathering)
