-- Media in memory, as contracts see them, and how they answer a read.
use Rattle.std.specs.Prelude.{◌≡◌, ◌==◌, ◌↔◌, ℕ, List, [], Bool, Result, Ok, Err, Some}
use Rattle.std.specs.Prelude.{Contains, IsErr, bytes_eq, drop, find, length}
use Rattle.std.specs.declared.option.Option.{Option}
use Rattle.std.specs.Option.{option_map_or}
use Rattle.sdr_base.specs.Media.{Told}
use Rattle.sdr_media.specs.Counts.{answered, asked, failed}
use Rattle.sdr_media.specs.declared.counts.Counts.{Counts}

-- the files by path and the items by number, the calls so far with their faults and short answers, and
-- the numbers of the calls that fail
pub record Stock : Type 0 where
  pub files : List (List ℕ × List ℕ)
  pub items : List (ℕ × List ℕ)
  pub counts : Counts
  pub failing : List ℕ

-- what stands beside the first key that passes, no bytes where none does
abbrev pub held : {K : Type 0} → (K → Bool) → List (K × List ℕ) → List ℕ
held is entries = option_map_or (λ entry. entry.1) (find (λ entry. is entry.0) entries) []

-- what the first file of a path holds
abbrev pub file_held : List ℕ → List (List ℕ × List ℕ) → List ℕ
file_held path files = held (λ key. bytes_eq key path) files

-- what the first item of a number holds
abbrev pub item_held : ℕ → List (ℕ × List ℕ) → List ℕ
item_held number items = held (λ key. key == number) items

-- what each path and each number holds, by these files and items
abbrev pub told_by : List (List ℕ × List ℕ) → List (ℕ × List ℕ) → Told
told_by files items = record { files = λ path. file_held path files; items = λ number. item_held number items }

-- what the media tell
abbrev pub told_of : Stock → Option Told
told_of m = Some (told_by m.files m.items)

-- after one call more
abbrev pub called : Stock → Stock
called m = record m { counts = asked m.counts }

-- after a read that was answered so where so many bytes were asked for
abbrev pub read_by : {E : Type 0} → Result ℕ E → ℕ → Stock → Stock
read_by (Ok n) want m = record m { counts = answered n want (asked m.counts) }
read_by (Err _) want m = record m { counts = failed (asked m.counts) }

-- what stands behind the bytes that were given is as before, and all of it where the read failed
abbrev pub LeavesRest : {E : Type 0} → Result ℕ E → List ℕ → List ℕ → Type 0
LeavesRest (Ok n) before after = drop n after ≡ drop n before
LeavesRest (Err _) before after = after ≡ before

-- how a read is answered, what the media are then, and what it leaves of the buffer: it fails just where the call's
-- number is listed
pub record AnswersRead {E : Type 0} (result : Result ℕ E) (old new : Stock) (before after : List ℕ) : Type 0 where
  pub fails : IsErr result ↔ Contains old.failing new.counts.asks
  pub read : new ≡ read_by result (length after) old
  pub rest : LeavesRest result before after
