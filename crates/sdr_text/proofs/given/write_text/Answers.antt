use Rattle.std.proofs.KnownBytes.{Appends-trans}
use Rattle.sdr_text.proofs.TextLemmas.{part_later, on_err_map}
use Rattle.sdr_text.proofs.given.write_text.Goals as goal

pub returns-clause-err : goal.returns-clause-err
returns-clause-err g c =
    on_err_map _ (part_later _ _ _ _ _ (Appends-trans _ _ _ _ _ c.in_ok-write_all.ensures.ok c.in_ok-write_all-2.ensures.ok)) c.write_all-3.ensures.err
