use Rattle.std.specs.Prelude.{flat_map}
use Rattle.sdr_text.specs.JournalText.{entry_line, printed_in, said_line}
use Rattle.sdr_text.proofs.PartLemmas.{part_behind}
use Rattle.sdr_text.proofs.TextLemmas.{on_err, part_front}
use Rattle.sdr_text.proofs.journal.write_one.Goals as goal

pub returns-in_err-write_front-clause-err : goal.returns-in_err-write_front-clause-err
returns-in_err-write_front-clause-err g c =
    on_err _
    (part_front _ _ (entry_line c.args.entry.now) (flat_map said_line (printed_in c.args.entry.now.what))
    c.in_err-write_front.ensures.err)

pub returns-clause-err : goal.returns-clause-err
returns-clause-err g c =
    part_behind c.write_inner.result _ _ _ (entry_line c.args.entry.now) (flat_map said_line (printed_in c.args.entry.now.what))
    c.in_ok-write_front.ensures.ok c.write_inner.ensures.err
