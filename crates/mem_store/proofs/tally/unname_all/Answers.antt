use Rattle.std.proofs.Common.{◌≡◌, ◌∷◌, arith, ap, rules}
use Rattle.sdr_model.specs.Zco.{naming}
use Rattle.mem_store.proofs.TallyLemmas.{naming-run, naming-rest}
use Rattle.mem_store.proofs.tally.unname_all.Goals as goal

pub loop-extent-preserved : goal.loop-extent-preserved
loop-extent-preserved c =
    let extent = c.in-Some.extent.now in
    let after = c.in-Some.after.now in
    let run = c.leading-run.result in
    let is : c.loop-extent.rest.now ≡ extent ∷ after = first_of (search rules, grind arith) in
    record {
      counts = λ at.
          omega (
            arith,
            c.in_ok-name_less.ensures.counts at,
            c.loop-extent.invariant.counts at,
            ap (naming at) is,
            naming-run extent after run at (c.leading-run.ensures.naming at),
            naming-rest at run after,
          );
      sums = λ acct sums. c.in_ok-name_less.ensures.sums acct (c.loop-extent.invariant.sums acct sums);
    }
