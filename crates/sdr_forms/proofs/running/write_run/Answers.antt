use Rattle.std.proofs.Common.{List, ◌++◌, ℕ, Result, Ok, Err, OnOk}
use Rattle.std.proofs.KnownBytes.{Appends-trans}
use Rattle.std.specs.Io.KnownBytes.{Appends}
use Rattle.std.specs.declared.option.Option.{Option}
use Rattle.sdr_forms.specs.Running.{line_asked}
use Rattle.sdr_text.proofs.PartLemmas.{part_behind}
use Rattle.sdr_text.proofs.TextLemmas.{on_err, part_front}
use Rattle.sdr_text.specs.JournalText.{journal_text}
use Rattle.sdr_forms.proofs.running.write_run.Goals as goal

-- where what comes behind is written whole, so is the whole
whole_behind : {T E : Type 0} (r : Result T E) (old now new : Option (List ℕ)) (text more : List ℕ) → Appends old now text → OnOk r (Appends now new more)
    → OnOk r (Appends old new (text ++ more))
whole_behind (Ok x) old now new text more front back = Appends-trans old now new text more front back
whole_behind (Err e) old now new text more front back = tt

pub returns-in_err-write_entries-clause-err : goal.returns-in_err-write_entries-clause-err
returns-in_err-write_entries-clause-err g c =
    on_err _
    (part_front _ _ (journal_text c.args.journal.now) (line_asked c.args.asked c.args.totals.now)
    c.in_err-write_entries.ensures.err)

pub returns-clause-ok : goal.returns-clause-ok
returns-clause-ok g c =
    whole_behind c.write_asked.result _ _ _ (journal_text c.args.journal.now) (line_asked c.args.asked c.args.totals.now)
    c.in_ok-write_entries.ensures.ok c.write_asked.ensures.ok

pub returns-clause-err : goal.returns-clause-err
returns-clause-err g c =
    part_behind c.write_asked.result _ _ _ (journal_text c.args.journal.now) (line_asked c.args.asked c.args.totals.now)
    c.in_ok-write_entries.ensures.ok c.write_asked.ensures.err
