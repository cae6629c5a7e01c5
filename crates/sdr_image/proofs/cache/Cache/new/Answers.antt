use Rattle.std.proofs.Common.{◌∙◌, List, Option, ap, sym, subst}
use Rattle.std.specs.List.{range_with_len}
use Rattle.std.proofs.lemmas.List.FromFn.{length-range_with_len}
use Rattle.sdr_log.specs.declared.record.Record.{Record}
use Rattle.sdr_image.specs.Cache.{IsTable, entries_of}
use Rattle.sdr_image.proofs.CacheLemmas.{none_kept, none_table}
use Rattle.sdr_image.proofs.cache.Cache.new.Goals as goal

pub invariant_of-result : goal.invariant_of-result
invariant_of-result c =
    subst (λ (places : List (Option Record)). IsTable places) (sym c.in_ok-no_lines.ensures)
    (none_table (range_with_len 0 256) (length-range_with_len 0 256))

pub returns : goal.returns
returns c = ap entries_of c.in_ok-no_lines.ensures ∙ none_kept (range_with_len 0 256)
