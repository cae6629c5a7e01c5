-- In a heap region whose bytes stand for a world, owners, counts and queues are right.
use Rattle.std.proofs.Common.{ℕ, List}
use Rattle.sdr_base.specs.Pools.{Pools}
use Rattle.sdr_stands.specs.Standing.{StandsForWhole}
use Rattle.audit_counts.specs.Checked.{IsRightRegion}
use Rattle.sdr_model.specs.World.{World}
use Rattle.audit_owners.specs.Owned.{AreBytes}
use Rattle.sdr_audit.proofs.CountLemmas.{counts_kept}
use Rattle.sdr_audit.proofs.KeyLemmas.{keyed_right}
use Rattle.sdr_audit.proofs.MembersLemmas.{region}
use Rattle.sdr_audit.proofs.OccupiedLemmas.{occupancies_told}
use Rattle.sdr_audit.proofs.QueueLemmas.{queues_lawful}
use Rattle.sdr_audit.proofs.RuleLemmas.{rules_kept}
use Rattle.sdr_audit.proofs.WorldLemmas.{world_owned}

pub world_right : (bytes : List ℕ) (w : World) (P : Pools) → StandsForWhole bytes w P → AreBytes bytes → IsRightRegion bytes
world_right bytes w P s are = record {
  owned = world_owned bytes w P (region bytes w P s) s;
  counted = record {
    keyed = keyed_right bytes w P s are;
    counts = counts_kept bytes w P s are;
    kept = rules_kept bytes w P s are;
    occupancies = occupancies_told bytes w P s are;
  };
  queued = queues_lawful bytes w P s;
}
