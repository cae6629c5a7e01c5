use Rattle.std.proofs.Common.{◌≡◌, ◌++◌, ℕ, drop, take, unwrap_or}
use Rattle.std.specs.BTreeMap.{get}
use Rattle.std.specs.Ordering.{nat_cmp}
use Rattle.sdr_model.specs.Gone.{gone_things}
use Rattle.sdr_model.specs.Zco.{naming}
use Rattle.mem_zco_calls.proofs.gone.gone_things.Given as goal

abbrev pub invariant-loop-extent : goal.invariant-loop-extent
invariant-loop-extent l = record {
  seen : (source : ℕ) → unwrap_or (get nat_cmp l.seen source) 0 ≡ naming source (take l.extent-index l.extents);
  gone : l.gone ++ gone_things l.world.now l.extents (drop l.extent-index l.extents)
      ≡ gone_things l.world.now l.extents l.extents;
}
