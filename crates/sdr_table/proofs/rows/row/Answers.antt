-- The row's bytes are read where they stand.
use Rattle.std.proofs.Common.{arith, length-take-le}
use Rattle.sdr_base.proofs.WritingLemmas.{reaches_less}
use Rattle.sdr_table.proofs.RowLemmas.{row_reaches, row_read}
use Rattle.sdr_table.proofs.rows.row.Goals as goal

pub get-requires-clause-inside : goal.get-requires-clause-inside
get-requires-clause-inside g c =
    let short = c.if-size-gt-LONGEST_ROW.false in
    let n = length-take-le c.in_ok-size.size c.args.into.now (omega (arith, short, c.told-into, c.fits-into)) in
    rw c.row_size.ensures.looks.same
    (reaches_less _ _ _ (row_reaches (c.requires.table c.in_ok-size.ensures.given.kind) c.in_ok-size.ensures.given) (omega (arith, n)))

pub returns-clause-given : goal.returns-clause-given
returns-clause-given g c =
    row_read c.get.new.into _ _ c.in_ok-size.ensures.given c.if-size-gt-LONGEST_ROW.false
    (let short = c.if-size-gt-LONGEST_ROW.false in
    length-take-le c.in_ok-size.size c.args.into.now (omega (arith, short, c.told-into, c.fits-into)))
    (rw c.row_size.ensures.looks.same at c.in_ok-get.ensures.given)
