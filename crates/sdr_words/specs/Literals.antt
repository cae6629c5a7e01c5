-- The literals of bytes.
use Rattle.std.specs.Prelude.{ℕ, List, [], ◌∷◌, Bool, ◌&&◌, ◌||◌, ◌==◌, nat_le, if◌then◌else◌, Option, Some, None, option_and_then, replicate}
use Rattle.std.specs.List.{list_all}
use Rattle.std.specs.Result.{result_ok}
use Rattle.hex.specs.Hex.{decode_of}
use Rattle.sdr_words.specs.Words.{at_most, as_number, quoted_of}

-- whether a byte is a hexadecimal digit in lower case
abbrev pub is_lower_digit : ℕ → Bool
is_lower_digit b = (nat_le 48 b && nat_le b 57) || (nat_le 97 b && nat_le b 102)

-- the bytes of an even count of hexadecimal digits in lower case
abbrev pub hex_bytes : List ℕ → Option (List ℕ)
hex_bytes digits = if list_all is_lower_digit digits then result_ok (decode_of digits) else None

-- a literal of this many bytes is no longer than it may be
abbrev pub most_copies : ℕ
most_copies = 4096

-- so many copies of the one byte, where there is one, and there are not too many
abbrev pub copies_of : Option (List ℕ) → Option ℕ → Option (List ℕ)
copies_of (Some (b ∷ [])) (Some count) = Some (replicate count b)
copies_of bytes count = None

-- the bytes that two digits, `*` and a count spell: so many copies of the byte
abbrev pub filled_of : List ℕ → Option (List ℕ)
filled_of (high ∷ low ∷ star ∷ count) =
    if star == 42
    then copies_of (hex_bytes (high ∷ low ∷ [])) (option_and_then (at_most most_copies) (as_number count))
    else None
filled_of rest = None

-- the bytes that a literal spells: a quoted text, `x` and digits, or `f`, a byte and how many copies of it
abbrev pub literal_of : List ℕ → Option (List ℕ)
literal_of [] = None
literal_of (b ∷ rest) =
    if b == 34 then quoted_of (b ∷ rest)
    else if b == 120 then hex_bytes rest
    else if b == 102 then filled_of rest
    else None
