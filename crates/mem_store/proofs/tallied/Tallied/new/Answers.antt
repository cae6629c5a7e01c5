use Rattle.sdr_base.specs.declared.account.Acct.TheVariants as accts
use Rattle.mem_store.proofs.RawsLemmas.{AreNoted-empty}
use Rattle.mem_store.proofs.tallied.Tallied.new.Goals as goal

pub returns : goal.returns
returns c = record {
  inbound = c.new.ensures accts.Inbound;
  outbound = c.new-2.ensures accts.Outbound;
  raws = AreNoted-empty _;
}
