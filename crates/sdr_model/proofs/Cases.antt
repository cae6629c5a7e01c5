-- Facts that go by cases, taken apart.
use Rattle.std.proofs.Common.{◌≡◌, Bool, true, false, Option, Some, None, Ok, Err, MatchBool, MatchOption, is_some, refl, sym, true≢false}
use Rattle.std.specs.Option.{option_map}
use Rattle.std.specs.Prelude.{Result, IfOk, IfSome, IsSome, OnErr, OnOk}

-- what follows from both sides of a test
pub in_bool : {P Q R : Type 0} (b : Bool) → MatchBool b P Q → (P → R) → (Q → R) → R
in_bool true h f g = f h
in_bool false h f g = g h

-- what follows from both sides of an option
pub in_option : {T P R : Type 0} {Q : T → Type 0} (o : Option T) → MatchOption o P Q → (P → R) → ((x : T) → Q x → R) → R
in_option None h f g = f h
in_option (Some x) h f g = g x h

-- what follows from two facts of a value
pub in_ok : {T E Q : Type 0} {P R : T → Type 0} (r : Result T E) → IfOk r P → OnOk r Q → ((x : T) → P x → Q → R x) → IfOk r R
in_ok (Ok x) p q both = both x p q
in_ok (Err e) p q both = p

-- what follows from both outcomes
pub in_result : {T E P Q R : Type 0} (r : Result T E) → OnOk r P → OnErr r Q → (P → R) → (Q → R) → R
in_result (Ok x) p q f g = f p
in_result (Err e) p q f g = g q

-- what follows whatever a test tells
pub by_test : {R : Type 0} (b : Bool) → (b ≡ true → R) → (b ≡ false → R) → R
by_test true f g = f refl
by_test false f g = g refl

-- the same, where the option is known in the second
pub in_option_is : {T P R : Type 0} {Q : T → Type 0} (o : Option T) → MatchOption o P Q → (P → R) → ((x : T) → o ≡ Some x → Q x → R) → R
in_option_is None h f g = f h
in_option_is (Some x) h f g = g x refl h

-- a fact stands at an error too
pub on_err_always : {T E P : Type 0} (r : Result T E) → P → OnErr r P
on_err_always (Ok x) p = tt
on_err_always (Err e) p = p

-- what holds of all values holds of one, if there is one
pub if_some_always : {T : Type 0} {P : T → Type 0} (o : Option T) → ((x : T) → P x) → IfSome o P
if_some_always None all = tt
if_some_always (Some x) all = all x

-- a value that is there
pub some_is : {T : Type 0} (o : Option T) → IsSome o → (x : T) × (o ≡ Some x)
some_is None none = absurd (true≢false (sym none))
some_is (Some x) some = (x, refl)

-- what is made of a value is there where the value is
pub mapped_some : {T U : Type 0} (f : T → U) (o : Option T) → is_some (option_map f o) ≡ is_some o
mapped_some f None = refl
mapped_some f (Some x) = refl

-- where the test is false, the second holds
pub on_false : (P Q : Type 0) (b : Bool) → b ≡ false → Q → MatchBool b P Q
on_false P Q true e q = absurd (true≢false e)
on_false P Q false e q = q
