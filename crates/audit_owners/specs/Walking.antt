-- How far a walk over the chains of owners has come.
use Rattle.std.specs.Prelude.{ℕ, Bool, List, ◌++◌}
use Rattle.audit_owners.specs.Chains.{ChainComes, ChainsReach}
use Rattle.audit_owners.specs.Marks.{AreMarked}
use Rattle.audit_owners.specs.View.{View}
use Rattle.audit_owners.specs.declared.chain.Step.{Step}
use Rattle.audit_owners.specs.declared.owner.Owner.{Owner}

-- the chains of these owners are right, and just the blocks that they reach are marked
pub record HasWalked (heap : View) (owners : List Owner) (marks : List Bool) : Type 0 where
  pub reached : List ℕ
  pub chains : ChainsReach heap owners reached
  pub marked : AreMarked reached marks

-- the same, and another chain has come to a link, and its blocks up to there are marked too
pub record IsWalking (heap : View) (owners : List Owner) (step : Step) (marks : List Bool) : Type 0 where
  pub reached : List ℕ
  pub addrs : List ℕ
  pub comes : ChainComes heap owners step.owner reached addrs step.before step.link
  pub marked : AreMarked (reached ++ addrs) marks
