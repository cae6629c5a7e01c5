-- Amounts, space by space.
use Rattle.std.proofs.Common.{◌≡◌, ◌≤◌, ◌+◌, ◌-◌, ℕ, Bool, true, false, None, refl, sym, subst, if◌then◌else◌, arith}
use Rattle.std.proofs.lemmas.Bool.Decides.{nat_tests}
use Rattle.sdr_base.specs.declared.account.Amounts.{Amounts}
use Rattle.sdr_base.specs.declared.kind.Space.{Space}
use Rattle.sdr_base.specs.declared.kind.Space.TheVariants as spaces
use Rattle.sdr_model.specs.AccountSteps.{with_amount}
use Rattle.sdr_model.specs.Amounts.{amount, amounts_by, are_within, first_above, is_same_space, minus, no_amounts, plus}

-- an amount that is within another is at most it in each space
pub within_in : (a b : Amounts) (space : Space) → are_within a b ≡ true → amount a space ≤ amount b space
within_in a b spaces.File is = grind (arith, nat_tests)
within_in a b spaces.Bulk is = grind (arith, nat_tests)
within_in a b spaces.Heap is = grind (arith, nat_tests)

pub amount-minus : (a b : Amounts) (space : Space) → amount (minus a b) space ≡ amount a space - amount b space
amount-minus a b spaces.File = refl
amount-minus a b spaces.Bulk = refl
amount-minus a b spaces.Heap = refl

pub amount-plus : (a b : Amounts) (space : Space) → amount (plus a b) space ≡ amount a space + amount b space
amount-plus a b spaces.File = refl
amount-plus a b spaces.Bulk = refl
amount-plus a b spaces.Heap = refl

pub nothing_in : (space : Space) → amount no_amounts space ≡ 0
nothing_in spaces.File = refl
nothing_in spaces.Bulk = refl
nothing_in spaces.Heap = refl

pub amount-by : (of : Space → ℕ) (space : Space) → amount (amounts_by of) space ≡ of space
amount-by of spaces.File = refl
amount-by of spaces.Bulk = refl
amount-by of spaces.Heap = refl

-- amounts that are the same in each space are the same
pub same_amounts : (a b : Amounts) → ((space : Space) → amount a space ≡ amount b space) → a ≡ b
same_amounts a b same = λ i. record { file = same spaces.File i; bulk = same spaces.Bulk i; heap = same spaces.Heap i }

-- where no space is above another, each is at most it
pub first_above-none : (a b : Amounts) (space : Space) → first_above a b ≡ None → amount a space ≤ amount b space
first_above-none a b spaces.File is = grind (arith, nat_tests)
first_above-none a b spaces.Bulk is = grind (arith, nat_tests)
first_above-none a b spaces.Heap is = grind (arith, nat_tests)

cond_small : (b : Bool) (x y most : ℕ) → x ≤ most → y ≤ most → (if b then x else y) ≤ most
cond_small true x y most p q = p
cond_small false x y most p q = q

-- amounts of which each is small, with another small one
pub with_amount_small : (a : Amounts) (space : Space) (value most : ℕ) → value ≤ most → ((s : Space)
    → amount a s ≤ most)
    → (other : Space) → amount (with_amount a space value) other ≤ most
with_amount_small a space value most small all other =
    subst (λ n. n ≤ most) (sym (amount-by (λ other. if is_same_space space other then value else amount a other) other))
    (cond_small (is_same_space space other) value (amount a other) most small (all other))
