-- Numbered entries with their makers, lists of numbers, and which entries are one's own.
use Rattle.std.specs.Prelude.{◌≡◌, ℕ, ◌<◌, ◌≤◌, ◌==◌, ◌⊎◌, Bool, true, List, [], ◌∷◌, ◌++◌, filter, All, AllPairs}
use Rattle.std.specs.List.{count_by, list_any}

-- whether the number is among these
abbrev pub has : List ℕ → ℕ → Bool
has numbers n = list_any (λ m. m == n) numbers

-- how often the number is among these
abbrev pub times : ℕ → List ℕ → ℕ
times n numbers = count_by (λ m. m == n) numbers

-- no number is in both lists
abbrev pub Apart : List ℕ → List ℕ → Type 0
Apart ms ns = (n : ℕ) → has ms n ≡ true → has ns n ≡ true → ⊥

-- the entries whose number is among these
abbrev pub own : {E : Type 0} → (E → ℕ) → List ℕ → List E → List E
own number numbers entries = filter (λ e. has numbers (number e)) entries

-- the entries that the seat at this place made
abbrev pub made_at : {E : Type 0} → (E → ℕ) → ℕ → List E → List E
made_at maker place entries = filter (λ e. maker e == place) entries

-- the numbers rise strictly
abbrev pub Rise : {E : Type 0} → (E → ℕ) → List E → Type 0
Rise number entries = AllPairs (λ e f. number e < number f) entries

-- no entry has a number above this
abbrev pub AtMost : {E : Type 0} → (E → ℕ) → ℕ → List E → Type 0
AtMost number most entries = All (λ e. number e ≤ most) entries

-- the entries after a turn: those before it, or these and one more, of the turn's number and made at this place
abbrev pub MayAdd : {E : Type 0} → (E → ℕ) → (E → ℕ) → ℕ → ℕ → List E → List E → Type 0
MayAdd {E} number maker n place before after = (after ≡ before) ⊎ ((e : E) × (number e ≡ n) × (maker e ≡ place) × (after ≡ before ++ e ∷ []))
