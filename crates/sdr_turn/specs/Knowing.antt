-- What a seat knows after each call, and when that agrees with the value.
use Rattle.std.specs.Prelude.{◌≡◌, ℕ, ◌-◌, ◌<◌, ◌≤◌, true, false, List, [], ◌∷◌, ◌++◌, length, drop, All}
use mathlib.Core.List.{IsPrefix}
use Rattle.sdr_turn.specs.declared.known.Known.{Known}
use Rattle.sdr_turn.specs.Entries.{own, made_at, Rise}

-- what the seat at this place knows that has done nothing yet
abbrev pub nothing : {E : Type 0} → ℕ → Known E
nothing place = record { place = place; numbers = []; number = 0; took = false; front = 0; seen = []; mine = [] }

-- what it knows after it drew this number: it holds it, and doesn't have the value
abbrev pub after_draw : {E : Type 0} → Known E → ℕ → Known E
after_draw k n = record k { numbers = k.numbers ++ n ∷ []; number = n; took = false }

-- what it knows after it looked, when so many numbers were done
abbrev pub after_look : {E : Type 0} → Known E → ℕ → Known E
after_look k done = record k { front = done }

-- what it knows after it took the value, which has these entries: all numbers below its own were done
abbrev pub after_take : {E : Type 0} → Known E → List E → Known E
after_take k entries = record k { took = true; front = k.number - 1; seen = entries }

-- what it knows after it gave the value back with these entries: its number is done, and what is new among them it added itself
abbrev pub after_give : {E : Type 0} → Known E → List E → Known E
after_give k entries = record k { number = 0; took = false; front = k.number; seen = entries; mine = k.mine ++ drop (length k.seen) entries }

-- what a seat knows agrees with a value that has these entries, where so many numbers are drawn and done
pub record Agrees {E : Type 0} (number maker : E → ℕ) (entries : List E) (drawn done : ℕ) (k : Known E) : Type 0 where
  pub numbers : All (λ n. (0 < n) × (n ≤ drawn)) k.numbers
  pub rise : Rise (λ n. n) k.numbers
  pub front : k.front ≤ done
  pub begins : IsPrefix k.seen entries  -- the entries begin with what it has seen
  pub mine : own number k.numbers entries ≡ k.mine  -- those of its numbers are just what it added, each once and in order
  pub made : made_at maker k.place entries ≡ k.mine  -- and so are those that were made at its place
