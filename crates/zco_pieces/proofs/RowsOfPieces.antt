-- Worked rows: what of a piece is wanted, and which places no piece covers.
use Rattle.std.proofs.Common.{◌≡◌, ℕ, [], ◌∷◌, refl}
use Rattle.std.specs.Int.{div_ceil}
use Rattle.zco_pieces.specs.Places.{Range, cut_length, first_missing, missing_of, opened, uncovered}
use Rattle.zco_join.specs.declared.filled.Filled.{Filled}

abbrev part : ℕ → ℕ → ℕ → Filled
part offset length object = record { offset = offset; length = length; object = object }

abbrev range : ℕ → ℕ → Range
range offset length = record { offset = offset; length = length }

-- six bytes by four: two pieces, of four bytes and of two
two_pieces : div_ceil 6 4 ≡ 2
two_pieces = refl

first_piece : cut_length 6 4 0 ≡ 4
first_piece = refl

last_piece : cut_length 6 4 1 ≡ 2
last_piece = refl

-- of the bytes 0 to 5, where 0 to 4 are filled, the last one is wanted
overlapping : opened 0 6 (part 0 4 8 ∷ []) 0 5 ≡ part 0 4 8 ∷ part 4 1 0 ∷ []
overlapping = refl

-- a piece that meets two gaps
between : opened 0 10 (part 2 3 8 ∷ part 7 1 16 ∷ []) 1 8 ≡ part 1 1 0 ∷ part 2 3 8 ∷ part 5 2 0 ∷ part 7 1 16 ∷ part 8 1 0 ∷ []
between = refl

-- one that meets none
filled_before : opened 0 6 (part 0 4 8 ∷ []) 1 2 ≡ part 0 4 8 ∷ []
filled_before = refl

-- one byte is missing then, the last one
one_missing : missing_of (record { total = 6; parts = part 0 4 8 ∷ part 4 1 16 ∷ [] }) ≡ 1
one_missing = refl

first_of_them : first_missing 0 (part 0 4 8 ∷ part 4 1 16 ∷ []) ≡ 5
first_of_them = refl

-- and so many places no piece covers
one_uncovered : uncovered 6 (range 0 4 ∷ range 0 5 ∷ []) ≡ 1
one_uncovered = refl

none_uncovered : uncovered 6 (range 4 2 ∷ range 4 2 ∷ range 0 4 ∷ []) ≡ 0
none_uncovered = refl
