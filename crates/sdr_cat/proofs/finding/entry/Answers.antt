-- The entry is where the count ended.
use Rattle.std.proofs.Common.{arith}
use Rattle.sdr_base.proofs.WritingLemmas.{reaches_less}
use Rattle.sdr_cat.proofs.EntryLemmas.{lacks_entry, reads_entry, some_there}
use Rattle.sdr_cat.proofs.FindLemmas.{entry_reaches, name_short}
use Rattle.sdr_cat.proofs.finding.entry.Goals as goal

pub returns-then-addr-eq0-clause-refused : goal.returns-then-addr-eq0-clause-refused
returns-then-addr-eq0-clause-refused g c = lacks_entry c.in_ok-addr.ensures.given c.if-addr-eq0.true

pub get-requires-clause-inside : goal.get-requires-clause-inside
get-requires-clause-inside g c =
    rw c.entry_at.ensures.looks.same
    (reaches_less _ 56 _ (entry_reaches (some_there c.in_ok-addr.ensures.given c.if-addr-eq0.false c.requires.names)) (omega arith))

pub told-requires-clause-entry : goal.told-requires-clause-entry
told-requires-clause-entry g c =
    rw (c.get.ensures.looks.same, c.entry_at.ensures.looks.same)
    (some_there c.in_ok-addr.ensures.given c.if-addr-eq0.false c.requires.names)

pub put_name-length-requires : goal.put_name-length-requires
put_name-length-requires g c =
    record {
      short =
          name_short c.get.new.into (some_there c.in_ok-addr.ensures.given c.if-addr-eq0.false c.requires.names)
          (rw c.entry_at.ensures.looks.same at c.in_ok-get.ensures.given);
    }

pub returns-clause-given : goal.returns-clause-given
returns-clause-given g c =
    reads_entry c.in_ok-addr.ensures.given c.get.new.into c.if-addr-eq0.false (rw c.entry_at.ensures.looks.same at c.in_ok-get.ensures.given)
    (rw (c.get.ensures.looks.same, c.entry_at.ensures.looks.same) at c.in_ok-kind.ensures.told)
    c.put_name-length.ensures.length c.put_name-length.ensures.copied
