-- A vector's items, written anew.
use Rattle.std.proofs.Common.{◌≡◌, ℕ, List, ◌++◌, length, take, drop}
use Rattle.std.proofs.lemmas.List.{take_at}

-- where all of them are written
pub items_anew : {T : Type 0} (len : ℕ) (new old : List T) → length new ≡ len → take len (new ++ drop (length new) old) ≡ new
items_anew len new old is = take_at new (drop (length new) old) len is
