-- Lists that begin with others.
use Rattle.std.proofs.Common.{◌≡◌, ◌≤◌, Bool, true, false, List, [], ◌∷◌, ◌++◌, drop, length, refl, ap, sym, ◌∙◌, arith, append-nil, append_assoc, length-append}
use Rattle.std.specs.Prelude.{cond, nat_le}
use Rattle.std.proofs.lemmas.Bool.Decides.{nat_tests}
use mathlib.Core.List.{IsPrefix}
use Rattle.sdr_board.specs.Known.{longer}
use Rattle.sdr_model.specs.declared.journal.Entry.{Entry}

-- each list begins with itself
pub prefix_self : {A : Type 0} (xs : List A) → IsPrefix xs xs
prefix_self xs = ([], append-nil xs)

pub prefix_trans : {A : Type 0} (xs ys zs : List A) → IsPrefix xs ys → IsPrefix ys zs → IsPrefix xs zs
prefix_trans xs ys zs p q = (p.0 ++ q.0, sym (append_assoc xs p.0 q.0) ∙ (ap (λ w. w ++ q.0) p.1 ∙ q.1))

pub prefix_length : {A : Type 0} (xs ys : List A) → IsPrefix xs ys → length xs ≤ length ys
prefix_length xs ys p = omega (arith, sym (ap length p.1) ∙ length-append xs p.0)

-- a beginning as long as the whole is the whole
pub prefix_whole : {A : Type 0} (xs ys : List A) → IsPrefix xs ys → length ys ≤ length xs → xs ≡ ys
prefix_whole [] [] p le = refl
prefix_whole [] (y ∷ ys) p le = absurd (omega arith)
prefix_whole (x ∷ xs) [] p le = absurd (cc (p.1))
prefix_whole (x ∷ xs) (y ∷ ys) p le =
    let rest = prefix_whole xs ys (p.0, cc (p.1)) (omega arith) in cc (p.1, rest)

-- a list is a beginning of it and what is behind that
pub prefix_drop : {A : Type 0} (xs ys : List A) → IsPrefix xs ys → xs ++ drop (length xs) ys ≡ ys
prefix_drop [] ys p = refl
prefix_drop (x ∷ xs) [] p = absurd (cc (p.1))
prefix_drop (x ∷ xs) (y ∷ ys) p =
    let rest = prefix_drop xs ys (p.0, cc (p.1)) in cc (p.1, rest)

-- of two beginnings of one list the shorter begins the longer
pub prefix_shorter : {A : Type 0} (xs ys zs : List A) → IsPrefix xs zs → IsPrefix ys zs → length xs ≤ length ys → IsPrefix xs ys
prefix_shorter [] ys zs p q le = (ys, refl)
prefix_shorter (x ∷ xs) [] zs p q le = absurd (omega arith)
prefix_shorter (x ∷ xs) (y ∷ ys) [] p q le = absurd (cc (p.1))
prefix_shorter (x ∷ xs) (y ∷ ys) (z ∷ zs) p q le =
    let heads : x ≡ y = cc (p.1, q.1) in
    let rest = prefix_shorter xs ys zs (p.0, cc (p.1)) (q.0, cc (q.1)) (omega arith) in
    (rest.0, cc (heads, rest.1))

-- the longer of two beginnings begins the list, and with either of them
pub longer_of : (xs ys zs : List Entry) → IsPrefix xs zs → IsPrefix ys zs → IsPrefix (longer xs ys) zs × IsPrefix xs (longer xs ys) × IsPrefix ys (longer xs ys)
longer_of xs ys zs p q = by_case (nat_le (length xs) (length ys)) refl
  where
    by_case : (b : Bool) → nat_le (length xs) (length ys) ≡ b → IsPrefix (cond b ys xs) zs × IsPrefix xs (cond b ys xs) × IsPrefix ys (cond b ys xs)
    by_case true is = let le : length xs ≤ length ys = grind (arith, nat_tests) in (q, prefix_shorter xs ys zs p q le, prefix_self ys)
    by_case false is = let le : length ys ≤ length xs = grind (arith, nat_tests) in (p, prefix_self xs, prefix_shorter ys xs zs q p le)
