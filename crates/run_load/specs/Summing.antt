-- What a load comes to.
use Rattle.std.specs.Prelude.{List, length}
use Rattle.run_load.specs.Listed.{bytes_named, load_elements}
use Rattle.run_load.specs.declared.summary.ListRead.{ListRead}
use Rattle.run_load.specs.declared.summary.Summary.{Summary}
use Rattle.sdr_board.specs.Totals.{totals}
use Rattle.sdr_model.specs.World.{World}
use Rattle.sdr_model.specs.declared.journal.Entry.{Entry}

-- the list that the name `load` finds in a world: its elements, and the bytes of the raw objects that their data name
abbrev pub load_list : World → ListRead
load_list w = record { elements = length (load_elements w); bytes = bytes_named w (load_elements w) }

-- how many transactions of a journal ended, and how many were cancelled, and what a list is
abbrev pub summed : List Entry → ListRead → Summary
summed journal list =
    record { ended = (totals journal).ended; cancelled = (totals journal).cancelled; elements = list.elements; bytes = list.bytes }

-- the summary of a journal, and of the world that stands behind it
abbrev pub summary_of : List Entry → World → Summary
summary_of journal w = summed journal (load_list w)
