use Rattle.std.proofs.Common.{rules, IfErr, OnOk, subst}
use Rattle.sdr_base.specs.Cells.{IsRegionSize}
use Rattle.sdr_audit.proofs.StandLemmas.{none_stands, right_stands}
use Rattle.sdr_audit.specs.Checked.{IsRight, TellsFirst}
use Rattle.sdr_audit.proofs.checking.check_copied.Goals as goal

pub returns-clause-none : goal.returns-clause-none
returns-clause-none g c =
    let bytes = g.C.Cells.bytes c.args.c.now in
    let wrong : IfErr c.check_words.result (TellsFirst bytes) = search rules in
    none_stands bytes c.in_ok-read_copy.ensures.bytes c.check_words.result wrong

pub returns-clause-stands : goal.returns-clause-stands
returns-clause-stands g c =
    let bytes = g.C.Cells.bytes c.args.c.now in
    let right : OnOk c.check_words.result (IsRight bytes) = search rules in
    right_stands bytes c.in_ok-read_copy.ensures.bytes c.check_words.result (subst IsRegionSize c.size.ensures.bytes c.size.ensures.lines) right
