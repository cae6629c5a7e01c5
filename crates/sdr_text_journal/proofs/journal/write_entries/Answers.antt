use Rattle.std.proofs.Common.{◌≡◌, [], ap}
use Rattle.sdr_buffer.proofs.WaitingLemmas.{part_passed, passed_err, passed_ok}
use Rattle.sdr_buffer.specs.Waiting.{Waiting}
use Rattle.sdr_text.proofs.TextLemmas.{on_err}
use Rattle.sdr_text_journal.proofs.journal.write_entries.Goals as goal

pub returns-in_err-put_journal-clause-err : goal.returns-in_err-put_journal-clause-err
returns-in_err-put_journal-clause-err g c =
    let none : c.new-waiting.result.bytes ≡ [] = ap (λ (w : Waiting). w.bytes) c.new-waiting.ensures in
    on_err _ (part_passed _ _ _ _ _ none c.put_journal.ensures.grows c.in_err-put_journal.ensures.err)

pub returns-clause-ok : goal.returns-clause-ok
returns-clause-ok g c =
    let none : c.new-waiting.result.bytes ≡ [] = ap (λ (w : Waiting). w.bytes) c.new-waiting.ensures in
    passed_ok c.pass_on.result _ _ _ _ _ _ _ none c.in_ok-put_journal.ensures.ok c.pass_on.ensures.same c.pass_on.ensures.empty

pub returns-clause-err : goal.returns-clause-err
returns-clause-err g c =
    let none : c.new-waiting.result.bytes ≡ [] = ap (λ (w : Waiting). w.bytes) c.new-waiting.ensures in
    passed_err c.pass_on.result _ _ _ _ _ _ _ none c.in_ok-put_journal.ensures.ok c.pass_on.ensures.same c.put_journal.ensures.grows
    c.pass_on.ensures.err
