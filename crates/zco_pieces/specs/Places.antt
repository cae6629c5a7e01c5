-- The places of a text that are filled, and what of a piece fills more of them.
use Rattle.std.specs.Prelude.{◌≢◌, ◌+◌, ◌-◌, ◌*◌, ◌^◌, ◌≤◌, ◌==◌, ◌&&◌, ℕ, Bool, not, List, [], ◌∷◌, ◌++◌, max, min, nat_le, nat_lt, sum_by, count_by, All, if◌then◌else◌}
use Rattle.std.specs.List.{list_any, range_with_len}
use Rattle.zco_join.specs.declared.filled.Filled.{Filled}

-- a text that is rebuilt: its length, and the parts that are filled
pub record Rebuilt : Type 0 where
  pub total : ℕ
  pub parts : List Filled

-- so many bytes from a place on
pub record Range : Type 0 where
  pub offset : ℕ
  pub length : ℕ

-- whether a place lies within so many bytes from an offset on
abbrev pub lies_in : ℕ → ℕ → ℕ → Bool
lies_in offset length place = nat_le offset place && nat_lt place (offset + length)

-- From a place on the parts rise and don't overlap, each has a byte, and all lie within the text.
abbrev pub AreInOrder : ℕ → ℕ → List Filled → Type 0
AreInOrder from total [] = from ≤ total
AreInOrder from total (p ∷ ps) = (from ≤ p.offset) × (1 ≤ p.length) × AreInOrder (p.offset + p.length) total ps

-- the parts of a text that is rebuilt: they are in order, and each has a clone
pub record IsRebuilt (r : Rebuilt) : Type 0 where
  pub long : r.total ≤ 2 ^ 40
  pub order : AreInOrder 0 r.total r.parts
  pub clones : All (λ p. p.object ≢ 0) r.parts

-- so many bytes are filled
abbrev pub filled_length : List Filled → ℕ
filled_length = sum_by (λ p. p.length)

-- so many bytes aren't
abbrev pub missing_of : Rebuilt → ℕ
missing_of r = r.total - filled_length r.parts

-- the first place from one on that no part fills
abbrev pub first_missing : ℕ → List Filled → ℕ
first_missing from [] = from
first_missing from (p ∷ ps) = if p.offset == from then first_missing (p.offset + p.length) ps else from

-- what a piece of so many bytes from an offset on has between two places, as a part without a clone: none where it has no byte there
abbrev pub gap : ℕ → ℕ → ℕ → ℕ → List Filled
gap from to offset length =
    let first = max from offset in
    let end = min to (offset + length) in
    if nat_lt first end then record { offset = first; length = end - first; object = 0 } ∷ [] else []

-- the parts of a text from a place on, and between them the gaps that such a piece meets
abbrev pub opened : ℕ → ℕ → List Filled → ℕ → ℕ → List Filled
opened from total [] offset length = gap from total offset length
opened from total (p ∷ ps) offset length =
    gap from p.offset offset length ++ p ∷ opened (p.offset + p.length) total ps offset length

-- whether some part fills a place
abbrev pub is_filled : List Filled → ℕ → Bool
is_filled parts place = list_any (λ p. lies_in p.offset p.length place) parts

-- whether some range covers a place
abbrev pub is_covered : List Range → ℕ → Bool
is_covered ranges place = list_any (λ r. lies_in r.offset r.length place) ranges

-- so many places of a text of a length no range covers
abbrev pub uncovered : ℕ → List Range → ℕ
uncovered total ranges = count_by (λ place. not (is_covered ranges place)) (range_with_len 0 total)

-- so many bytes has the piece of a number, from 0 on, where each has at most so many: as many as are left, or the most
abbrev pub cut_length : ℕ → ℕ → ℕ → ℕ
cut_length length most k = min most (length - k * most)
