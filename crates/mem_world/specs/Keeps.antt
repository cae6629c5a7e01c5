-- What each change of a world in the making leaves.
use Rattle.mem_store.specs.Draft.{Draft}
use Rattle.std.specs.Prelude.{◌≡◌, ℕ, Contains, true}

-- The world at the begin is as it was, and accounts that may be changed still may.
pub record SameBegin (old new : Draft) : Type 0 where
  pub begun : new.begun ≡ old.begun
  pub saved : old.saved ≡ true → new.saved ≡ true

-- what was touched still is
abbrev pub StayTouched : Draft → Draft → Type 0
StayTouched old new = (addr : ℕ) → Contains old.touched addr → Contains new.touched addr
