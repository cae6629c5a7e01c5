-- Which disk a word names.
use Rattle.std.specs.Prelude.{◌≡◌, ◌≢◌, ◌<◌, ◌^◌, ℕ, List, ◌++◌, codes, decimal}
use Rattle.sdr_system.specs.declared.place.Place.{Place}
use Rattle.sdr_system.specs.declared.place.Place.TheVariants.{Memory, File, Sized}

-- the word is a path, `=` and a number of 64 bits
pub record NamesSize (word path : List ℕ) (bytes : ℕ) : Type 0 where
  pub spelled : word ≡ path ++ codes "=" ++ decimal bytes
  pub fits : bytes < 2 ^ 64

-- behind no `=` of the word stands just a number
abbrev pub NamesNoSize : List ℕ → Type 0
NamesNoSize word = (path : List ℕ) (bytes : ℕ) → ¬ (NamesSize word path bytes)

-- the word names this disk
abbrev pub IsPlace : List ℕ → Place → Type 0
IsPlace word Memory = word ≡ codes "-"
IsPlace word (File path) = (word ≢ codes "-") × NamesNoSize word × (path.now ≡ word)
IsPlace word (Sized path bytes) = NamesSize word path.now bytes
