-- Names, and the entries that have them.
use Rattle.std.specs.Prelude.{◌≡◌, ◌≤◌, ◌<◌, ◌⊎◌, ℕ, List, [], ◌∷◌, length, nat_eq, Bool, if◌then◌else◌}
use Rattle.std.specs.Cmp.Lexicographic.{pointwise}
use Rattle.sdr_base.specs.Catalogue.{NameRow}
use Rattle.sdr_base.specs.declared.refusal.Refusal.TheVariants as refusals
use Rattle.sdr_base.specs.declared.stop.Stop.{Stop}
use Rattle.sdr_base.specs.declared.stop.Stop.TheVariants.{Refused}
use Rattle.sdr_base.specs.declared.limits.TheConstants.{LONGEST_NAME}

-- a name has a byte at least, and not too many
pub record IsName (name : List ℕ) : Type 0 where
  pub some : 1 ≤ length name
  pub short : length name ≤ LONGEST_NAME

-- the name is refused for its length
abbrev pub IsBadName : List ℕ → Stop → Type 0
IsBadName name (Refused (refusals.BadLength count most)) =
    (count ≡ length name) × (most ≡ LONGEST_NAME) × ((length name ≡ 0) ⊎ (LONGEST_NAME < length name))
IsBadName name stop = ⊥

-- whether the entry is of this name
abbrev pub is_named : List ℕ → NameRow → Bool
is_named name row = pointwise nat_eq name row.name

-- the entries without the first of a name
unfoldable pub without_name : List ℕ → List NameRow → List NameRow
without_name name [] = []
without_name name (row ∷ rows) = if is_named name row then rows else row ∷ without_name name rows
