-- What was read is shown, or why it wasn't is told.
use Rattle.std.proofs.Common.{◌≡◌, ℕ, List, length, take, refl, sym, subst, arith}
use Rattle.std.proofs.lemmas.List.{length-take}
use Rattle.std.proofs.lemmas.Result.{err_from_is_err_and}
use Rattle.step_things.proofs.CallLemmas.{comes_showing, comes_stopped}
use Rattle.step_things.proofs.ListLemmas.{IsSmall}
use Rattle.sdr_machine.specs.Agreeing.{AgreesWith}
use Rattle.sdr_model.specs.Pieces.{asked_addr, asked_count}
use Rattle.sdr_model.specs.declared.answer.Answer.TheVariants as answers
use Rattle.sdr_model.specs.declared.answer.Reply.TheVariants as replies
use Rattle.sdr_model.specs.declared.event.Event.TheVariants as events
use Rattle.step_zco.proofs.ObjectLemmas.{object_is_at}
use Rattle.step_zco_parts.specs.Giving.{asked_by}
use Rattle.step_zco_parts.proofs.AskedLemmas.{asked_in}
use Rattle.step_zco_parts.proofs.GivenCalls.{gathered_of, given_agrees, given_answered, read_refused, read_unasked, refused_agrees, refused_misses}
use Rattle.zco_wire.specs.Stopping.{ReadStops}
use Rattle.step_zco_parts.proofs.wire_calls.give.Goals as goal

pub returns-in_err-given-clause-comes : goal.returns-in_err-given-clause-comes
returns-in_err-given-clause-comes g c =
    let p = err_from_is_err_and c.from_residual.result c.from_residual.ensures.1 in
    let old = g.O.HasHeap.heap c.args.o.now in
    let new = g.O.HasHeap.heap c.read.new.o in
    let call = c.args.call.now in
    let small : IsSmall old = record {
      few = g.met.O.Objects.few c.args.o.now c.requires.kept;
      small = g.met.O.Objects.small c.args.o.now c.requires.kept;
    } in
    rw (p.1, p.2)
    (comes_stopped call old new c.args.page.now c.in_err-given.field-0.0
    (ReadStops g.M.Media old.blocks (asked_addr call) (asked_count call) (asked_by call) c.args.media.now c.read.new.media)
    c.in_err-given.ensures.stops
    (λ w refusal stands served m.
    read_refused old new w c.requires.unmoved stands served small c.in_err-given.ensures.looks.same call c.requires.reads g.M.Media c.args.media.now
    c.read.new.media c.requires.few c.args.page.now refusal m))

pub returns-in_err-given-clause-agrees : goal.returns-in_err-given-clause-agrees
returns-in_err-given-clause-agrees g c =
    let p = err_from_is_err_and c.from_residual.result c.from_residual.ensures.1 in
    let old = g.O.HasHeap.heap c.args.o.now in
    let new = g.O.HasHeap.heap c.read.new.o in
    let small : IsSmall old = record {
      few = g.met.O.Objects.few c.args.o.now c.requires.kept;
      small = g.met.O.Objects.small c.args.o.now c.requires.kept;
    } in
    rw (p.1, p.2)
    (record {
      each = λ w stands served.
          refused_agrees old new w c.requires.unmoved stands served small c.in_err-given.ensures.looks.same c.args.call.now c.requires.reads g.M.Media
          c.args.media.now c.read.new.media c.requires.few c.args.page.now (g.M.Media.told c.args.media.now) refl c.in_err-given.field-0.0
          c.in_err-given.ensures.stops;
    })

pub returns-in_err-given-clause-cause : goal.returns-in_err-given-clause-cause
returns-in_err-given-clause-cause g c =
    let p = err_from_is_err_and c.from_residual.result c.from_residual.ensures.1 in
    let old = g.O.HasHeap.heap c.args.o.now in
    let new = g.O.HasHeap.heap c.read.new.o in
    let small : IsSmall old = record {
      few = g.met.O.Objects.few c.args.o.now c.requires.kept;
      small = g.met.O.Objects.small c.args.o.now c.requires.kept;
    } in
    rw (p.1, p.2)
    (record {
      each = λ w stands served.
          refused_misses old new w c.requires.unmoved stands served small c.in_err-given.ensures.looks.same c.args.call.now c.requires.reads g.M.Media
          c.args.media.now c.read.new.media c.requires.few c.in_err-given.field-0.0 c.in_err-given.ensures.stops;
    })

pub returns-in_err-given-clause-unread : goal.returns-in_err-given-clause-unread
returns-in_err-given-clause-unread g c =
    let p = err_from_is_err_and c.from_residual.result c.from_residual.ensures.1 in
    let stop = c.in_err-given.field-0.0 in
    let unread = read_unasked g.M.Media (g.O.HasHeap.heap c.args.o.now).blocks c.args.call.now c.requires.reads c.args.media.now c.read.new.media stop
    c.in_err-given.ensures.stops in
    rw (p.1, p.2) unread

pub returns-in_err-given-clause-asks : goal.returns-in_err-given-clause-asks
returns-in_err-given-clause-asks g c =
    let heap = g.O.HasHeap.heap c.args.o.now in
    let small : IsSmall heap = record {
      few = g.met.O.Objects.few c.args.o.now c.requires.kept;
      small = g.met.O.Objects.small c.args.o.now c.requires.kept;
    } in
    record {
      each = λ w stands served.
          asked_in g.M.Media heap w stands served small c.args.call.now c.args.media.now c.read.new.media c.in_err-given.ensures.asks;
    }

pub returns-clause-comes : goal.returns-clause-comes
returns-clause-comes g c =
    let old = g.O.HasHeap.heap c.args.o.now in
    let new = g.O.HasHeap.heap c.read.new.o in
    let call = c.args.call.now in
    let given = c.in_ok-given.given in
    let bytes = take given c.read.new.into in
    let told = g.M.Media.told c.args.media.now in
    let r = c.in_ok-given.ensures.given in
    let small : IsSmall old = record {
      few = g.met.O.Objects.few c.args.o.now c.requires.kept;
      small = g.met.O.Objects.small c.args.o.now c.requires.kept;
    } in
    let same = c.in_ok-given.ensures.looks.same in
    let long : length bytes ≡ given = let t = length-take given c.read.new.into in let f = r.few in omega (arith, t, f) in
    comes_showing call old new c.args.page.now c.show.new.self bytes (replies.Bytes given) c.show.ensures
    (λ w stands served.
    let at = object_is_at old w (asked_addr call) stands served r.kind in
    given_answered old new w c.requires.unmoved stands served small same call c.requires.reads at told bytes given c.requires.few long
    (gathered_of old new w c.requires.unmoved stands served small same call c.requires.reads at told c.read.new.into given r))

pub returns-clause-agrees : goal.returns-clause-agrees
returns-clause-agrees g c =
    let old = g.O.HasHeap.heap c.args.o.now in
    let new = g.O.HasHeap.heap c.read.new.o in
    let call = c.args.call.now in
    let given = c.in_ok-given.given in
    let bytes = take given c.read.new.into in
    let told = g.M.Media.told c.args.media.now in
    let r = c.in_ok-given.ensures.given in
    let small : IsSmall old = record {
      few = g.met.O.Objects.few c.args.o.now c.requires.kept;
      small = g.met.O.Objects.small c.args.o.now c.requires.kept;
    } in
    let same = c.in_ok-given.ensures.looks.same in
    record {
      each = λ w stands served.
          let at = object_is_at old w (asked_addr call) stands served r.kind in
          subst (λ (shown : List ℕ). AgreesWith told w (events.Say call) (answers.Reply (replies.Bytes given)) shown) (sym c.show.ensures)
          (given_agrees old new w c.requires.unmoved stands served small same call c.requires.reads at told bytes given
          (gathered_of old new w c.requires.unmoved stands served small same call c.requires.reads at told c.read.new.into given r));
    }

pub returns-clause-asks : goal.returns-clause-asks
returns-clause-asks g c =
    let heap = g.O.HasHeap.heap c.args.o.now in
    let small : IsSmall heap = record {
      few = g.met.O.Objects.few c.args.o.now c.requires.kept;
      small = g.met.O.Objects.small c.args.o.now c.requires.kept;
    } in
    record {
      each = λ w stands served.
          asked_in g.M.Media heap w stands served small c.args.call.now c.args.media.now c.read.new.media c.in_ok-given.ensures.asks;
    }
