-- The words of a script: numbers, names, quoted texts and daemons.
use Rattle.std.specs.Prelude.{ℕ, ◌-◌, ◌^◌, List, length, take, slice_range, Bool, not, ◌&&◌, ◌||◌, ◌==◌, nat_le, nat_lt, if◌then◌else◌, slice_index, Option, Some, None, option_and_then}
use Rattle.std.specs.Char.{is_ascii_digit, is_ascii_alphabetic, is_ascii_alphanumeric}
use Rattle.std.specs.List.{list_all}
use Rattle.std.specs.Str.Parse.{digits_value}
use Rattle.sdr_text.specs.Text.{is_text_byte}

-- whether bytes are decimal digits without a leading zero, or the digit 0
abbrev pub is_decimal : List ℕ → Bool
is_decimal bytes =
    nat_lt 0 (length bytes) && list_all is_ascii_digit bytes && (length bytes == 1 || not (slice_index bytes 0 == 48))

-- the number that a field is: decimal, and of 64 bits
abbrev pub as_number : List ℕ → Option ℕ
as_number field =
    if is_decimal field && nat_lt (digits_value 10 field) (2 ^ 64)
    then Some (digits_value 10 field)
    else None

-- a number where it is no greater than the most
abbrev pub at_most : ℕ → ℕ → Option ℕ
at_most most n = if nat_le n most then Some n else None

-- whether a byte may stand in a name
abbrev pub is_name_byte : ℕ → Bool
is_name_byte b = is_ascii_alphanumeric b || b == 95

-- whether a field is a name: a letter, then letters, digits and _, at most 31 in all
abbrev pub is_name : List ℕ → Bool
is_name field = is_ascii_alphabetic (slice_index field 0) && list_all is_name_byte field && nat_le (length field) 31

-- the bytes but the first and the last
abbrev pub inner : List ℕ → List ℕ
inner field = slice_range field 1 (length field - 1)

-- whether a field stands in quotation marks
abbrev pub is_quoted : List ℕ → Bool
is_quoted field = nat_le 2 (length field) && slice_index field 0 == 34 && slice_index field (length field - 1) == 34

-- the bytes that a quoted field spells: those between its quotation marks
abbrev pub quoted_of : List ℕ → Option (List ℕ)
quoted_of field = if is_quoted field && list_all is_text_byte (inner field) then Some (inner field) else None

-- a number where it is a daemon's
abbrev pub among_daemons : ℕ → Option ℕ
among_daemons n = if nat_le 1 n && nat_le n 16 then Some n else None

-- the daemon that a field names: a number from 1 to 16, and a colon
abbrev pub as_daemon : List ℕ → Option ℕ
as_daemon field =
    if slice_index field (length field - 1) == 58
    then option_and_then among_daemons (as_number (take (length field - 1) field))
    else None
