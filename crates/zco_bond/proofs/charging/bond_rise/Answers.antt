-- The chain is walked, and what its headers or trailers charge more is summed.
use Rattle.std.proofs.Common.{arith}
use Rattle.sdr_base.proofs.WorksLemmas.{looks_ok, looks_on}
use Rattle.zco_bond.proofs.RiseLemmas.{rise_is, rise_most, rise_there, rises_all, rises_many, rises_on, rises_start}
use Rattle.zco_bond.proofs.charging.bond_rise.Goals as goal

pub loop-i-init : goal.loop-i-init
loop-i-init g c = record {
  sums = rises_start _ c.args.first;
  most = omega arith;
  looks = looks_ok c.in_ok-check_failed.ensures.looks;
}

pub see_capsule-requires-clause-capsule : goal.see_capsule-requires-clause-capsule
see_capsule-requires-clause-capsule g c =
    rw c.loop-i.invariant.looks.same (rise_there c.loop-i.invariant.sums c.requires.chain.is c.if-addr-eq0.false)

pub returns-after-loop-i-clause-told : goal.returns-after-loop-i-clause-told
returns-after-loop-i-clause-told g c = rises_many c.loop-i.invariant.sums (omega arith)

pub returns-then-addr-eq0-clause-told : goal.returns-then-addr-eq0-clause-told
returns-then-addr-eq0-clause-told g c = rises_all c.loop-i.invariant.sums c.if-addr-eq0.true

pub loop-i-preserved : goal.loop-i-preserved
loop-i-preserved g c =
    let e = c.extent_amounts-extent.ensures in
    let b = c.capsule_bytes.ensures in
    record {
      sums =
          rises_on c.loop-i.invariant.sums c.in_ok-seen.seen c.if-addr-eq0.false
          (rw c.loop-i.invariant.looks.same at c.in_ok-seen.ensures.seen) _ (rise_is c.extent_amounts-extent.result c.in_ok-seen.seen.bytes c.capsule_bytes.result e b);
      most =
          let m = c.loop-i.invariant.most in
          let s = rise_most c.extent_amounts-extent.result c.in_ok-seen.seen.bytes c.capsule_bytes.result e b in omega (arith, m, s);
      looks = looks_on c.loop-i.invariant.looks c.in_ok-seen.ensures.looks;
    }
