-- The extents of the clone are passed, and one comes after another.
use Rattle.std.proofs.Common.{◌≡◌, sym, subst, arith}
use Rattle.std.proofs.lemmas.Result.{err_from_is_err_and}
use Rattle.sdr_base.specs.Blocks.{UsesRange}
use Rattle.sdr_base.specs.Words.{HasWord}
use Rattle.sdr_base.proofs.WorksLemmas.{looks_then, looks_works, works_more, works_ok, works_stopped, works_then}
use Rattle.zco_obj.proofs.KeptLemmas.{object_reaches, object_word}
use Rattle.zco_join.proofs.ExtendLemmas.{clone_kept, extended_all, extended_failed, extended_many, extended_most, extended_next, extended_none, extended_stopped, extent_there, of_source, one_more, raw_there, room_there, source_there, stopped_first}
use Rattle.zco_join.proofs.joining.append_clone.Goals as goal

pub word-requires-clause-inside : goal.word-requires-clause-inside
word-requires-clause-inside g c =
    let s = c.requires.clone in
    let e : s.z.addr ≡ c.args.clone = s.is.addr in
    subst (λ a. UsesRange (g.O.HasHeap.heap c.args.o.now).blocks a 8 8) e (object_reaches (clone_kept s.is.has s.is.before s.z s.is.behind s.is.whole) 16 (omega arith))

pub returns-in_err-extent-clause-refused : goal.returns-in_err-extent-clause-refused
returns-in_err-extent-clause-refused g c =
    let p = err_from_is_err_and c.from_residual.result c.from_residual.ensures.1 in
    rw (p.1, p.2)
    (record {
      stops = λ start acct parts t done z left k.
          stopped_first c.args.object c.args.ticket _ (g.O.HasHeap.heap c.args.o.now) (g.O.HasHeap.heap c.word.new.o) _ c.in_err-extent.ensures.refused;
    })

pub loop-i-init : goal.loop-i-init
loop-i-init g c = record {
  goes = λ start acct parts t done z left k.
      let kept = clone_kept k.has k.before z k.behind k.whole in
      extended_none c.args.object c.args.ticket z.row.extents (g.O.HasHeap.heap c.args.o.now) (g.O.HasHeap.heap c.word.new.o) c.in_ok-extent.extent
      (object_word kept 1 c.in_ok-extent.extent (omega arith) (subst (λ a. HasWord ((g.O.HasHeap.heap c.args.o.now).blocks a) 1 c.in_ok-extent.extent) (sym k.addr) c.in_ok-extent.ensures.given))
      c.in_ok-extent.ensures.looks.same;
  works = λ start acct parts t done z left k. works_ok (looks_works c.in_ok-extent.ensures.looks);
}

pub see_link-requires-clause-kept : goal.see_link-requires-clause-kept
see_link-requires-clause-kept g c =
    let s = c.requires.clone in (c.loop-i.invariant.works s.start s.acct s.parts s.t s.done s.z s.left s.is).kept

pub see_link-requires-clause-extent : goal.see_link-requires-clause-extent
see_link-requires-clause-extent g c =
    let s = c.requires.clone in
    extent_there s.is (c.loop-i.invariant.goes s.start s.acct s.parts s.t s.done s.z s.left s.is) c.if-extent-eq0.false

pub returns-in_err-link-clause-refused : goal.returns-in_err-link-clause-refused
returns-in_err-link-clause-refused g c =
    let p = err_from_is_err_and c.from_residual-in_err-link.result c.from_residual-in_err-link.ensures.1 in
    rw (p.1, p.2)
    (record {
      stops = λ start acct parts t done z left k.
          extended_failed k (c.loop-i.invariant.goes start acct parts t done z left k) (g.O.HasHeap.heap c.see_link.new.o) _ c.in_err-link.ensures.refused;
    })

pub returns-in_err-link-clause-works : goal.returns-in_err-link-clause-works
returns-in_err-link-clause-works g c =
    let p = err_from_is_err_and c.from_residual-in_err-link.result c.from_residual-in_err-link.ensures.1 in
    λ start acct parts t done left z k.
    let m = extended_most k (c.loop-i.invariant.goes start acct parts t done z left k) in
    rw (p.1, p.2)
    (works_stopped _
    (works_more (works_then (c.loop-i.invariant.works start acct parts t done z left k) (looks_works c.in_err-link.ensures.looks)) (omega (arith, m))))

pub append_extent-requires-clause-spare : goal.append_extent-requires-clause-spare
append_extent-requires-clause-spare g c =
    let s = c.requires.clone in
    rw c.see_link.ensures.looks.same
    (room_there s.is (c.loop-i.invariant.goes s.start s.acct s.parts s.t s.done s.z s.left s.is) c.if-extent-eq0.false c.in_ok-link.link
    c.in_ok-link.ensures.seen)

pub append_extent-requires-clause-source : goal.append_extent-requires-clause-source
append_extent-requires-clause-source g c =
    let s = c.requires.clone in
    rw c.see_link.ensures.looks.same
    (source_there s.is (c.loop-i.invariant.goes s.start s.acct s.parts s.t s.done s.z s.left s.is) c.if-extent-eq0.false c.in_ok-link.link
    c.in_ok-link.ensures.seen)

pub append_extent-requires-clause-raw : goal.append_extent-requires-clause-raw
append_extent-requires-clause-raw g c =
    let s = c.requires.clone in
    rw c.see_link.ensures.looks.same
    (raw_there s.is (c.loop-i.invariant.goes s.start s.acct s.parts s.t s.done s.z s.left s.is) c.if-extent-eq0.false c.in_ok-link.link
    c.in_ok-link.ensures.seen)

pub returns-in_err-append_extent-clause-refused : goal.returns-in_err-append_extent-clause-refused
returns-in_err-append_extent-clause-refused g c =
    let p = err_from_is_err_and c.from_residual-in_err-append_extent.result c.from_residual-in_err-append_extent.ensures.1 in
    let refused = rw c.see_link.ensures.looks.same at c.in_err-append_extent.ensures.refused in
    rw (p.1, p.2)
    (record {
      stops = λ start acct parts t done z left k.
          extended_stopped k (c.loop-i.invariant.goes start acct parts t done z left k) c.if-extent-eq0.false c.in_ok-link.link c.in_ok-link.ensures.seen
          (g.O.HasHeap.heap c.append_extent.new.o) _ refused;
    })

pub returns-in_err-append_extent-clause-works : goal.returns-in_err-append_extent-clause-works
returns-in_err-append_extent-clause-works g c =
    let p = err_from_is_err_and c.from_residual-in_err-append_extent.result c.from_residual-in_err-append_extent.ensures.1 in
    let works = rw c.see_link.ensures.looks.same at c.in_err-append_extent.ensures.works_source in
    λ start acct parts t done left z k.
    let l = c.loop-i.invariant.goes start acct parts t done z left k in
    let m = one_more k l c.if-extent-eq0.false in
    let source = of_source k l c.if-extent-eq0.false c.in_ok-link.link c.in_ok-link.ensures.seen in
    rw (p.1, p.2)
    (works_stopped _
    (works_more (works_then (c.loop-i.invariant.works start acct parts t done z left k) (looks_then c.in_ok-link.ensures.looks (works source))) m))

pub loop-i-preserved : goal.loop-i-preserved
loop-i-preserved g c =
    let appended = rw c.see_link.ensures.looks.same at c.in_ok-append_extent.ensures.appended in
    let works = rw c.see_link.ensures.looks.same at c.in_ok-append_extent.ensures.works_source in
    record {
      goes = λ start acct parts t done z left k.
          extended_next k (c.loop-i.invariant.goes start acct parts t done z left k) c.if-extent-eq0.false c.in_ok-link.link c.in_ok-link.ensures.seen
          (g.O.HasHeap.heap c.append_extent.new.o) appended;
      works = λ start acct parts t done z left k.
          let l = c.loop-i.invariant.goes start acct parts t done z left k in
          let source = of_source k l c.if-extent-eq0.false c.in_ok-link.link c.in_ok-link.ensures.seen in
          works_ok
          (works_more (works_then (c.loop-i.invariant.works start acct parts t done z left k) (looks_then c.in_ok-link.ensures.looks (works source)))
          (omega arith));
    }

pub returns-after-loop-i-clause-appended : goal.returns-after-loop-i-clause-appended
returns-after-loop-i-clause-appended g c = record {
  appends = λ start acct parts t done z left k. extended_many k (c.loop-i.invariant.goes start acct parts t done z left k) (omega arith);
}

pub returns-after-loop-i-clause-works : goal.returns-after-loop-i-clause-works
returns-after-loop-i-clause-works g c =
    λ start acct parts t done left z k.
    works_ok (works_more (c.loop-i.invariant.works start acct parts t done z left k) (extended_most k (c.loop-i.invariant.goes start acct parts t done z left k)))

pub returns-then-extent-eq0-clause-appended : goal.returns-then-extent-eq0-clause-appended
returns-then-extent-eq0-clause-appended g c = record {
  appends = λ start acct parts t done z left k. extended_all k (c.loop-i.invariant.goes start acct parts t done z left k) c.if-extent-eq0.true;
}

pub returns-then-extent-eq0-clause-works : goal.returns-then-extent-eq0-clause-works
returns-then-extent-eq0-clause-works g c =
    λ start acct parts t done left z k.
    works_ok (works_more (c.loop-i.invariant.works start acct parts t done z left k) (extended_most k (c.loop-i.invariant.goes start acct parts t done z left k)))
