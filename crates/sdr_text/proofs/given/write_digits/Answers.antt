use Rattle.std.proofs.Common.{subst, sym, arith}
use Rattle.std.proofs.lemmas.Bool.{eqb-true}
use Rattle.hex.specs.Hex.{encode_lower}
use Rattle.sdr_base.proofs.WrittenLemmas.{GoesOut, goes_more, goes_part, goes_all}
use Rattle.sdr_text.proofs.TextLemmas.{digits_split, no_digits, on_err}
use Rattle.sdr_text.proofs.given.write_digits.Goals as goal

pub loop-rest-preserved : goal.loop-rest-preserved
loop-rest-preserved g c =
    let e = digits_split c.loop-rest.rest.now c.split_at.result.0.now c.split_at.result.1.now _ c.split_at.ensures.front c.split_at.ensures.back in
    record {
      goes = goes_more _ _ _ _ _ _ (subst (GoesOut (g.K.Sink.taken c.args.out.now) (g.K.Sink.taken c.loop-rest.out) (encode_lower c.args.bytes.now)) e c.loop-rest.invariant.goes) c.in_ok-write_piece.ensures.ok;
      later = omega (arith, c.loop-rest.invariant.later, c.write_piece.ensures.cause.later);
    }

pub returns-in_err-write_piece-clause-err : goal.returns-in_err-write_piece-clause-err
returns-in_err-write_piece-clause-err g c =
    let e = digits_split c.loop-rest.rest.now c.split_at.result.0.now c.split_at.result.1.now _ c.split_at.ensures.front c.split_at.ensures.back in
    on_err _ (goes_part _ _ _ _ _ _ (subst (GoesOut (g.K.Sink.taken c.args.out.now) (g.K.Sink.taken c.loop-rest.out) (encode_lower c.args.bytes.now)) e c.loop-rest.invariant.goes) c.in_err-write_piece.ensures.err)

pub returns-clause-ok : goal.returns-clause-ok
returns-clause-ok g c = goes_all _ _ _ _ c.loop-rest.invariant.goes (no_digits c.loop-rest.rest.now (eqb-true _ _ (sym c.loop-rest-test.ensures)))
