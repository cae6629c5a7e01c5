-- What the rule keeps of a reader and of the writer.
use Rattle.std.specs.Prelude.{ℕ, ◌+◌, true, false, List, [], length}
use Rattle.sdr_board.specs.Known.{longer}
use Rattle.sdr_board.specs.declared.view.View.{View}
use Rattle.sdr_model.specs.declared.journal.Entry.{Entry}

-- a reader that never looked, and was told of these entries
abbrev pub reader_view : List Entry → View
reader_view seen = record { writes = false; begun = 0; written = []; seen = seen; told = []; stood = seen; looks = 0; met = false; front = 0 }

-- the writer while it rests, which published these entries last
abbrev pub writer_view : List Entry → View
writer_view seen = record { writes = true; begun = length seen; written = []; seen = seen; told = []; stood = []; looks = 0; met = false; front = 0 }

-- the writer while it writes: the totals of so many entries, of which it has written these words
abbrev pub writing_view : List Entry → ℕ → List ℕ → View
writing_view seen begun written = record (writer_view seen) { begun = begun; written = written }

-- the reader, which looks: these entries stand on the board, and totals of so many are begun
abbrev pub with_look : View → List Entry → ℕ → View
with_look v stood front = record v { stood = stood; looks = v.looks + 1; met = false; front = front }

-- the reader, which knows that totals of so many entries are begun
abbrev pub with_front : View → ℕ → View
with_front v front = record v { front = front }

-- the reader, which has seen what stood on the board
abbrev pub with_seen : View → View
with_seen v = record v { seen = v.stood }

-- the reader, which has met the writer
abbrev pub with_met : View → View
with_met v = record v { met = true }

-- the reader, which was told what another has seen
abbrev pub with_told : View → View → View
with_told v other = record v { told = other.seen }

-- the reader, which has seen the longer of what it had seen and was told
abbrev pub with_longer : View → View
with_longer v = record v { seen = longer v.seen v.told }
