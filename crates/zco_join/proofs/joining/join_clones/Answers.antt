-- The object is made, it gets the clones' extents, and they go.
use Rattle.std.proofs.Common.{arith, inl, inr}
use Rattle.std.proofs.lemmas.Result.{err_from_is_err_and}
use Rattle.sdr_base.proofs.WorksLemmas.{works_more, works_ok, works_stopped, works_then}
use Rattle.zco_join.proofs.JoinedLemmas.{has_all, has_joined, may_go, some_may_go}
use Rattle.zco_join.proofs.JoinLemmas.{has_begun, room_first, some_begun, some_queue}
use Rattle.zco_join.proofs.joining.join_clones.Goals as goal

pub create-requires-clause-spare : goal.create-requires-clause-spare
create-requires-clause-spare g c = room_first c.requires.clones.keeps

pub create-requires-clause-queue : goal.create-requires-clause-queue
create-requires-clause-queue g c = some_queue c.requires.clones.keeps

pub returns-in_err-object-clause-refused : goal.returns-in_err-object-clause-refused
returns-in_err-object-clause-refused g c =
    let p = err_from_is_err_and c.from_residual.result c.from_residual.ensures.1 in
    rw (p.1, p.2) (inl c.in_err-object.ensures.refused)

pub returns-in_err-object-clause-works : goal.returns-in_err-object-clause-works
returns-in_err-object-clause-works g c =
    let p = err_from_is_err_and c.from_residual.result c.from_residual.ensures.1 in
    λ t k. rw (p.1, p.2) (works_stopped _ (works_more c.in_err-object.ensures.works (omega arith)))

pub append_clones-requires-clause-clones : goal.append_clones-requires-clause-clones
append_clones-requires-clause-clones g c = some_begun c.requires.clones.keeps c.in_ok-object.ensures.made

pub returns-in_err-append_clones-clause-refused : goal.returns-in_err-append_clones-clause-refused
returns-in_err-append_clones-clause-refused g c =
    let p = err_from_is_err_and c.from_residual-in_err-append_clones.result c.from_residual-in_err-append_clones.ensures.1 in
    rw (p.1, p.2)
    (inr
    (inl
    (record {
      object = c.in_ok-object.object;
      made = g.O.HasHeap.heap c.create.new.o;
      creates = c.in_ok-object.ensures.made;
      stops = λ t k. c.in_err-append_clones.ensures.refused.stops _ c.args.acct t (has_begun k c.in_ok-object.ensures.made);
    })))

pub returns-in_err-append_clones-clause-works : goal.returns-in_err-append_clones-clause-works
returns-in_err-append_clones-clause-works g c =
    let p = err_from_is_err_and c.from_residual-in_err-append_clones.result c.from_residual-in_err-append_clones.ensures.1 in
    λ t k.
    rw (p.1, p.2)
    (works_stopped _
    (works_more
    (works_then c.in_ok-object.ensures.works (c.in_err-append_clones.ensures.works _ c.args.acct t (has_begun k c.in_ok-object.ensures.made))) (omega arith)))

pub destroy_clones-requires-clause-kept : goal.destroy_clones-requires-clause-kept
destroy_clones-requires-clause-kept g c =
    let s = c.requires.clones in
    (c.in_ok-append_clones.ensures.works _ c.args.acct s.together (has_begun s.keeps c.in_ok-object.ensures.made)).kept

pub destroy_clones-requires-clause-clones : goal.destroy_clones-requires-clause-clones
destroy_clones-requires-clause-clones g c =
    let s = c.requires.clones in
    let made = c.in_ok-object.ensures.made in
    some_may_go
    (has_all s.keeps made (c.in_ok-append_clones.ensures.appended.appends _ c.args.acct s.together (has_begun s.keeps made)))

pub returns-in_err-destroy_clones-clause-refused : goal.returns-in_err-destroy_clones-clause-refused
returns-in_err-destroy_clones-clause-refused g c =
    let p = err_from_is_err_and c.from_residual-in_err-destroy_clones.result c.from_residual-in_err-destroy_clones.ensures.1 in
    rw (p.1, p.2)
    (inr
    (inr
    (record {
      object = c.in_ok-object.object;
      made = g.O.HasHeap.heap c.create.new.o;
      appended = g.O.HasHeap.heap c.append_clones.new.o;
      creates = c.in_ok-object.ensures.made;
      appends = λ t k. c.in_ok-append_clones.ensures.appended.appends _ c.args.acct t (has_begun k c.in_ok-object.ensures.made);
      stops = c.in_err-destroy_clones.ensures.refused;
    })))

pub returns-in_err-destroy_clones-clause-works : goal.returns-in_err-destroy_clones-clause-works
returns-in_err-destroy_clones-clause-works g c =
    let p = err_from_is_err_and c.from_residual-in_err-destroy_clones.result c.from_residual-in_err-destroy_clones.ensures.1 in
    let made = c.in_ok-object.ensures.made in
    λ t k.
    let b = has_begun k made in
    let h = has_all k made (c.in_ok-append_clones.ensures.appended.appends _ c.args.acct t b) in
    rw (p.1, p.2)
    (works_stopped _
    (works_more
    (works_then (works_then c.in_ok-object.ensures.works (c.in_ok-append_clones.ensures.works _ c.args.acct t b))
    (c.in_err-destroy_clones.ensures.works _ (may_go h))) (omega arith)))

pub returns-clause-joined : goal.returns-clause-joined
returns-clause-joined g c = record {
  joins = λ t k.
      let made = c.in_ok-object.ensures.made in
      has_joined (g.O.HasHeap.heap c.create.new.o) (g.O.HasHeap.heap c.append_clones.new.o) (g.O.HasHeap.heap c.destroy_clones.new.o) k made
      (c.in_ok-append_clones.ensures.appended.appends _ c.args.acct t (has_begun k made)) c.in_ok-destroy_clones.ensures.destroyed;
}

pub returns-clause-works : goal.returns-clause-works
returns-clause-works g c =
    let made = c.in_ok-object.ensures.made in
    λ t k.
    let b = has_begun k made in
    let h = has_all k made (c.in_ok-append_clones.ensures.appended.appends _ c.args.acct t b) in
    works_ok
    (works_more
    (works_then (works_then c.in_ok-object.ensures.works (c.in_ok-append_clones.ensures.works _ c.args.acct t b))
    (c.in_ok-destroy_clones.ensures.works _ (may_go h))) (omega arith))
