-- Lists whose elements are in the order of their keys.
use Rattle.std.specs.Prelude.{◌≡◌, ℕ, List, [], ◌∷◌, false, ⊤}
use Rattle.std.specs.Ordering.{is_gt}
use Rattle.std.specs.declared.cmp.Ordering.{Ordering}
use Rattle.sdr_base.specs.Blocks.{Blocks}
use Rattle.sdr_base.specs.Lists.{ListElement, ListRow, KeepsList}
use Rattle.sdr_list.specs.Kept.{with_element}
use Rattle.sdr_list.specs.Orders.{sort_key}

-- each element's key is less than or equal to the next one's
abbrev pub IsInOrder : (List ℕ → List ℕ → Ordering) → Blocks → List ListElement → Type 0
IsInOrder order blocks [] = ⊤
IsInOrder order blocks (x ∷ []) = ⊤
IsInOrder order blocks (x ∷ y ∷ xs) =
    (is_gt (order (sort_key blocks x.datum) (sort_key blocks y.datum)) ≡ false) × IsInOrder order blocks (y ∷ xs)

-- where whichever list is kept was in order, it is with a new element at this place
pub record StaysInOrder (order : List ℕ → List ℕ → Ordering) (blocks : Blocks) (list : ℕ) (place : ListRow → ℕ) (datum addr : ℕ) : Type 0 where
  pub stays : (row : ListRow) → KeepsList blocks list row → IsInOrder order blocks row.elements →
      IsInOrder order blocks (with_element row (place row) addr datum).elements
