-- The words, and the name behind them.
use Rattle.std.proofs.Common.{◌∙◌}
use Rattle.sdr_base.proofs.ObjectsLemmas.{layout-words}
use Rattle.sdr_cat.proofs.NameLemmas.{bytes_are}
use Rattle.sdr_cat.proofs.linking.entry_bytes.Goals as goal

pub returns : goal.returns
returns c =
    bytes_are 0 c.args.kind c.args.object c.args.name.now _ _ (c.write_u64_into.ensures ∙ layout-words _)
    (c.copy_from_slice.ensures.after ∙ c.stored.ensures)
