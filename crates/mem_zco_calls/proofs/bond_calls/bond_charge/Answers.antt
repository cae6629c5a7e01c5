use Rattle.mem_zco_calls.proofs.BondCallLemmas.{rise-amounts}
use Rattle.mem_zco_calls.proofs.bond_calls.bond_charge.Goals as goal

pub returns : goal.returns
returns c = rise-amounts c.heap_charge.result c.args.capsules.now c.rise.result c.heap_charge.ensures c.rise.ensures
