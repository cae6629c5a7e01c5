use Rattle.std.proofs.Common.{ap, arith}
use Rattle.sdr_base.specs.declared.account.Acct.TheVariants as accts
use Rattle.sdr_model.specs.Zco.{naming}
use Rattle.sdr_text_world.proofs.TiedLemmas.{told_inbound, told_outbound, uses_in-object}
use Rattle.sdr_text_world.proofs.tied.Tied.add_object.Goals as goal

pub count_extents-requires : goal.count_extents-requires
count_extents-requires c = record {
  few = λ at.
      let e = uses_in-object at accts.Inbound accts.Inbound c.args.z.now c.in-Inbound.is in
      let f = ap (naming at) c.as_slice.ensures in
      let h = c.requires.few accts.Inbound at in
      omega (arith, e, f, h);
}

pub count_extents-requires-in-Outbound : goal.count_extents-requires-in-Outbound
count_extents-requires-in-Outbound c = record {
  few = λ at.
      let e = uses_in-object at accts.Outbound accts.Outbound c.args.z.now c.in-Outbound.is in
      let f = ap (naming at) c.as_slice-in-Outbound.ensures in
      let h = c.requires.few accts.Outbound at in
      omega (arith, e, f, h);
}

pub returns-in-Inbound : goal.returns-in-Inbound
returns-in-Inbound c = record {
  told = told_inbound c.args.addr c.args.z.now c.args.self.now c.count_extents.new.counts c.as_slice.result.now c.as_slice.ensures
      c.count_extents.result c.in-Inbound.is c.count_extents.ensures.counted;
}

pub returns-in-Outbound : goal.returns-in-Outbound
returns-in-Outbound c = record {
  told = told_outbound c.args.addr c.args.z.now c.args.self.now c.count_extents-in-Outbound.new.counts c.as_slice-in-Outbound.result.now
      c.as_slice-in-Outbound.ensures c.count_extents-in-Outbound.result c.in-Outbound.is c.count_extents-in-Outbound.ensures.counted;
}
