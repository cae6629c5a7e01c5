-- The limits of things, in bytes where nothing else is said.
use Rattle.std.specs.Prelude.{ℕ, ◌^◌, Bool, nat_lt, ◌||◌}

-- a raw object, and the rows of a table together; a table also has at most so many rows, and a row so many bytes
abbrev pub longest_raw : ℕ
longest_raw = 1048576

-- a string
abbrev pub longest_string : ℕ
longest_string = 255

-- a name in the catalogue, which has at least one
abbrev pub longest_name : ℕ
longest_name = 31

-- a key of a hash, which has at least one
abbrev pub longest_key : ℕ
longest_key = 255

-- the buckets of a hash, of which there is at least one
abbrev pub most_buckets : ℕ
most_buckets = 256

-- what one read gives
abbrev pub longest_read : ℕ
longest_read = 4096

-- the key of a list's comparison
abbrev pub longest_sort_key : ℕ
longest_sort_key = 64

-- the path of a file, which has at least one
abbrev pub longest_path : ℕ
longest_path = 255

-- a header or trailer, which has at least one
abbrev pub longest_capsule : ℕ
longest_capsule = 1024

-- a source
abbrev pub longest_source : ℕ
longest_source = 2 ^ 40

-- no file's path has so many bytes
abbrev pub is_no_path : ℕ → Bool
is_no_path bytes = nat_lt bytes 1 || nat_lt longest_path bytes

-- no header or trailer has so many bytes
abbrev pub is_no_capsule : ℕ → Bool
is_no_capsule bytes = nat_lt bytes 1 || nat_lt longest_capsule bytes

-- no name has so many bytes
abbrev pub is_no_name : ℕ → Bool
is_no_name bytes = nat_lt bytes 1 || nat_lt longest_name bytes
