-- No call gives more bytes than are told.
use Rattle.std.proofs.Common.{ℕ, ap, subst, sym}
use Rattle.sdr_station.proofs.GivenLemmas.{most_given}
use Rattle.sdr_station.proofs.TellingLemmas.{bytes_none, bytes_read, bytes_so_many}
use Rattle.sdr_station.specs.Telling.{BytesAtMost}
use Rattle.sdr_station.proofs.tells.most_bytes.Goals as goal

pub returns-in_default-clause-most : goal.returns-in_default-clause-most
returns-in_default-clause-most c =
    let n = c.in_default in
    bytes_none c.args.call.now n.not-Read n.not-Stage n.not-Transmit n.not-ReceiveHeaders n.not-ReceiveSource n.not-ReceiveTrailers
    n.not-StringRead n.not-Row n.not-Entry

pub returns-in-StringRead-clause-most : goal.returns-in-StringRead-clause-most
returns-in-StringRead-clause-most c = bytes_so_many c.args.call.now 255 (ap most_given c.in-StringRead.is)

pub returns-in-Entry-clause-most : goal.returns-in-Entry-clause-most
returns-in-Entry-clause-most c = bytes_so_many c.args.call.now 31 (ap most_given c.in-Entry.is)

pub returns-in-Row-clause-most : goal.returns-in-Row-clause-most
returns-in-Row-clause-most c = bytes_so_many c.args.call.now 4096 (ap most_given c.in-Row.is)

pub returns-in-Read-clause-most : goal.returns-in-Read-clause-most
returns-in-Read-clause-most c =
    subst (λ (n : ℕ). BytesAtMost c.args.call.now n) (sym c.min.ensures) (bytes_read c.args.call.now c.in-Read.count c.in-Read.is)
