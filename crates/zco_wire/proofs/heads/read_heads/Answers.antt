-- The chain is walked, and each header or trailer gone over.
use Rattle.std.proofs.Common.{◌∙◌, refl, arith}
use Rattle.sdr_base.proofs.WorksLemmas.{looks_looks, looks_ok, looks_on}
use Rattle.zco_wire.proofs.WalkLemmas.{heads_at_full, heads_at_most, heads_at_zero, heads_on, heads_start, some_head}
use Rattle.zco_wire.proofs.heads.read_heads.Goals as goal

pub loop-i-init : goal.loop-i-init
loop-i-init g c = record {
  walks = heads_start c.args.at c.args.into.now c.requires.room;
  room = c.requires.room;
  same = refl;
  looks = looks_ok c.in_ok-check_failed.ensures.looks;
}

pub see_capsule-requires-clause-capsule : goal.see_capsule-requires-clause-capsule
see_capsule-requires-clause-capsule g c =
    rw c.loop-i.invariant.looks.same (some_head c.loop-i.invariant.walks c.requires.chain.is c.if-head-eq0.false)

pub read_head-requires-clause-head : goal.read_head-requires-clause-head
read_head-requires-clause-head g c =
    rw (c.see_capsule.ensures.looks.same, c.loop-i.invariant.looks.same)
    (some_head c.loop-i.invariant.walks c.requires.chain.is c.if-head-eq0.false)

pub read_head-requires-clause-seen : goal.read_head-requires-clause-seen
read_head-requires-clause-seen g c = rw c.see_capsule.ensures.looks.same c.in_ok-seen.ensures.seen

pub read_head-requires-clause-page : goal.read_head-requires-clause-page
read_head-requires-clause-page g c = let s = c.loop-i.invariant.same in let p = c.requires.page in omega (arith, s, p)

pub loop-i-preserved : goal.loop-i-preserved
loop-i-preserved g c =
    let l = c.loop-i.invariant in
    let seen = rw l.looks.same at c.in_ok-seen.ensures.seen in
    let read = rw (c.see_capsule.ensures.looks.same, l.looks.same) at c.in_ok-cursor.ensures.read in
    let n = heads_on l.walks c.in_ok-seen.seen c.if-head-eq0.false seen read l.same in
    record {
      walks = n;
      room = let r = c.in_ok-cursor.ensures.room in let s = c.read_head.ensures.same in omega (arith, r, s);
      same = c.read_head.ensures.same ∙ l.same;
      looks = looks_on l.looks (looks_looks c.in_ok-seen.ensures.looks c.in_ok-cursor.ensures.looks);
    }

pub returns-after-loop-i-clause-read : goal.returns-after-loop-i-clause-read
returns-after-loop-i-clause-read g c = heads_at_most c.loop-i.invariant.walks (omega arith)

pub returns-then-head-eq0-clause-read : goal.returns-then-head-eq0-clause-read
returns-then-head-eq0-clause-read g c = heads_at_zero c.loop-i.invariant.walks c.if-head-eq0.true

pub returns-then-full-clause-read : goal.returns-then-full-clause-read
returns-then-full-clause-read g c =
    heads_at_full c.loop-i.invariant.walks c.if-full.true c.loop-i.invariant.same
