-- No call has more moves than are told.
use Rattle.std.proofs.Common.{◌/◌, ◌∙◌, arith, subst, sym}
use Rattle.sdr_model.specs.declared.call.Call.{Call}
use Rattle.sdr_station.proofs.RoomLemmas.{is_other, moves_append, moves_bond, moves_long, moves_none, moves_one}
use Rattle.sdr_station.specs.Rooming.{MovesAtMost}
use Rattle.sdr_station.proofs.station.most_moves.Goals as goal

pub returns-then-is_reading : goal.returns-then-is_reading
returns-then-is_reading c = record {
  most = moves_none c.args.size c.args.call.now (sym c.is_reading.ensures ∙ c.if-is_reading.true);
  few = omega arith;
}

pub returns-in-ListDestroy-clause-most : goal.returns-in-ListDestroy-clause-most
returns-in-ListDestroy-clause-most c = moves_long c.args.size c.args.call.now c.in-ListDestroy.is

pub returns-in-Bond-clause-most : goal.returns-in-Bond-clause-most
returns-in-Bond-clause-most c =
    let b = c.in-Bond in
    subst (λ (call : Call). MovesAtMost c.args.size call (c.args.size / 4)) (sym b.is)
    (moves_bond c.args.size b.field-0 b.field-1)

pub returns-in-AppendExtent-clause-most : goal.returns-in-AppendExtent-clause-most
returns-in-AppendExtent-clause-most c =
    let a = c.in-AppendExtent in
    subst (λ (call : Call). MovesAtMost c.args.size call 2) (sym a.is)
    (moves_append c.args.size a.field-0 a.field-1 a.field-2 a.field-3 a.field-4)

pub returns-in_default : goal.returns-in_default
returns-in_default c =
    let d = c.in_default in
    record {
      most =
          moves_one c.args.size c.args.call.now
          (is_other c.args.call.now d.not-ListDestroy d.not-HashDestroy d.not-Destroy d.not-Strip d.not-ClonePart
          d.not-Bond d.not-AppendExtent);
      few = omega arith;
    }
