-- What a holder finds.
use Rattle.std.specs.Prelude.{◌≡◌, ℕ, ◌+◌, ◌<◌, List, All}
use mathlib.Core.List.{IsPrefix}
use Rattle.sdr_turn.specs.declared.known.Known.{Known}
use Rattle.sdr_turn.specs.Entries.{own, made_at, Rise}

-- what a seat finds that takes the value with the number n, and knew this before
pub record IsFound {V E : Type 0} (entries : V → List E) (number maker : E → ℕ) (turns : V → ℕ) (rests : V → Type 0) (k : Known E) (n : ℕ) (value : V) : Type 0 where
  pub turns_are : turns value + 1 ≡ n  -- all numbers below n had their turn, and no other
  pub rested : rests value
  pub begins : IsPrefix k.seen (entries value)  -- its entries begin with all that the seat had seen
  pub mine : own number k.numbers (entries value) ≡ k.mine  -- those of the seat's numbers are just what it added, in order
  pub made : made_at maker k.place (entries value) ≡ k.mine  -- and so are those that were made at its place
  pub rise : Rise number (entries value)  -- so each is there once
  pub below : All (λ e. number e < n) (entries value)
  pub ahead : k.front < n  -- the seat never saw this number done
