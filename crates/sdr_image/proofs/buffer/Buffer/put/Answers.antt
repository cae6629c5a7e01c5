use Rattle.std.proofs.Common.{◌≤◌, ◌<◌, ◌+◌, ◌∙◌, ap, arith, length}
use Rattle.std.proofs.lemmas.List.{length-set}
use Rattle.sdr_base.proofs.PartsLemmas.{length-overwrite}
use Rattle.sdr_log.specs.declared.record.Record.{Record}
use Rattle.sdr_image.specs.Buffer.{Changes}
use Rattle.sdr_image.proofs.BufferLemmas.{AreLines-set, whole_at}
use Rattle.sdr_image.proofs.buffer.Buffer.put.Goals as goal

pub invariant_of-self : goal.invariant_of-self
invariant_of-self c =
    let b = c.self.inside in
    let inv = c.self.invariant in
    let lt : c.args.place < length b.news.items =
    omega (arith, c.requires.below, ap (λ (v : Changes). length v.news) c.self.view_is) in
    let old = ap (λ (r : Record). length r.bytes) c.index_mut.ensures.value
    ∙ whole_at b.news.items c.args.place c.index_mut.result.now inv.whole' lt in
    let fits : c.args.at + length c.args.from.now ≤ length c.index_mut.result.now.bytes =
    omega (arith, old, c.requires.inside) in
    let new = ap length c.put_at.ensures
    ∙ length-overwrite c.args.at c.args.from.now c.index_mut.result.now.bytes fits ∙ old in
    record {
      long = length-set b.news.items c.args.place _ ∙ inv.long;
      few = inv.few;
      whole = inv.whole;
      whole' = AreLines-set b.news.items c.args.place _ inv.whole' new;
      reserved = inv.reserved;
      reserved' = inv.reserved';
    }
