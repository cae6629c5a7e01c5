use Rattle.std.proofs.Common.{◌∙◌, List, Option, length, ap, arith, is_some}
use Rattle.std.specs.Prelude.{filter}
use Rattle.sdr_log.specs.declared.record.Record.{Record}
use Rattle.sdr_image.proofs.CacheLemmas.{entries_count, entries_few}
use Rattle.sdr_image.proofs.cache.Cache.len.Goals as goal

pub returns-clause-len : goal.returns-clause-len
returns-clause-len c =
    c.count_lines.ensures
    ∙ ap (λ (places : List (Option Record)). length (filter is_some places)) c.deref.ensures.value
    ∙ entries_count c.self.inside.places.items
    ∙ ap length c.self.view_is

pub returns-clause-few : goal.returns-clause-few
returns-clause-few c =
    omega (
      arith,
      c.count_lines.ensures,
      entries_few c.deref.result.now,
      ap length c.deref.ensures.value,
      c.self.invariant.long,
    )
