-- Lines of the heap region that are changed all or none, in one batch.
use Rattle.std.specs.Prelude.{◌≡◌, ℕ, ◌*◌, List, [], ◌∷◌, map, IsPermutation}
use Rattle.std.specs.List.Sorted.{IsNonDecreasingBy}
use Rattle.sdr_base.specs.declared.line.TheConstants.{LINE}
use Rattle.sdr_base.specs.Parts.{overwrite, part}
use Rattle.sdr_log.specs.Batch.{with_batch}
use Rattle.sdr_log.specs.Calls.{with_records}
use Rattle.sdr_log.specs.declared.frame.Frame.{Frame}
use Rattle.sdr_log.specs.declared.record.Record.{Record}

-- the disk with new lines in its heap region, and in the log region the batch of the old ones behind a closed gate
abbrev pub changed : Frame → List Record → List Record → List ℕ → List ℕ
changed f olds news disk = overwrite LINE (0 ∷ []) (with_records f news (with_batch 0 olds disk))

-- the line, with the bytes that it has in a heap
abbrev pub line_in : List ℕ → ℕ → Record
line_in heap line = record { line = line; bytes = part (LINE * line) LINE heap }

-- these lines of the disk are changed, by rising number, from what they are in one heap to what they are in another
pub record HasChanged (f : Frame) (old new touched x y : List ℕ) : Type 0 where
  pub olds : List Record
  pub news : List Record
  pub were : IsPermutation (map (line_in old) touched) olds
  pub are : IsPermutation (map (line_in new) touched) news
  pub rising : IsNonDecreasingBy (λ r. r.line) olds
  pub rising' : IsNonDecreasingBy (λ r. r.line) news
  pub written : y ≡ changed f olds news x
