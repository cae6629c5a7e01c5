-- Arguments read one after another.
use Rattle.std.proofs.Common.{◌≡◌, ◌++◌, ℕ, List, [], ◌∷◌, Bool, Option, None, Some, refl, ap, sym, ◌∙◌, append_assoc, append-nil}
use Rattle.std.proofs.Common.{option_map}
use Rattle.sdr_model.specs.declared.script.Arg.{Arg}
use Rattle.sdr_words.specs.Arguments.{◌>>=◌, arg_of, args_of}
use Rattle.sdr_words.specs.declared.verb.Shape.{Shape}

-- these arguments behind others
abbrev pub with_front : List Arg → Option (List Arg) → Option (List Arg)
with_front front given = option_map (λ more. front ++ more) given

-- What all fields give is what the rest of them gives, behind the arguments that were read.
pub record HasArgs (is_bound : List ℕ → Bool) (all : Option (List Arg)) (args : List Arg) (shapes : List Shape) (fields : List (List ℕ)) : Type 0 where
  pub gives : all ≡ with_front args (args_of is_bound shapes fields)

front-nil : (given : Option (List Arg)) → given ≡ with_front [] given
front-nil None = refl
front-nil (Some xs) = refl

front-next : (args : List Arg) (arg : Arg) (given : Option (List Arg))
    → with_front args (given >>= λ more. Some (arg ∷ more)) ≡ with_front (args ++ arg ∷ []) given
front-next args arg None = refl
front-next args arg (Some more) = ap Some (sym (append_assoc args (arg ∷ []) more))

module _ (is_bound : List ℕ → Bool) where
  pub HasArgs-none : (shapes : List Shape) (fields : List (List ℕ)) → HasArgs is_bound (args_of is_bound shapes fields) [] shapes fields
  HasArgs-none shapes fields = record { gives = front-nil (args_of is_bound shapes fields) }

  module _ (all : Option (List Arg)) (args : List Arg) where
    pub HasArgs-next : (shape : Shape) (shapes : List Shape) (field : List ℕ) (fields : List (List ℕ)) (arg : Arg)
        → HasArgs is_bound all args (shape ∷ shapes) (field ∷ fields) → arg_of is_bound shape field ≡ Some arg
        → HasArgs is_bound all (args ++ arg ∷ []) shapes fields
    HasArgs-next shape shapes field fields arg has is = record {
      gives = has.gives ∙ ap (λ o. with_front args (o >>= λ arg. args_of is_bound shapes fields >>= λ more. Some (arg ∷ more))) is
          ∙ front-next args arg (args_of is_bound shapes fields);
    }

    pub HasArgs-refused : (shape : Shape) (shapes : List Shape) (field : List ℕ) (fields : List (List ℕ))
        → HasArgs is_bound all args (shape ∷ shapes) (field ∷ fields) → arg_of is_bound shape field ≡ None → all ≡ None
    HasArgs-refused shape shapes field fields has is =
        has.gives ∙ ap (λ o. with_front args (o >>= λ arg. args_of is_bound shapes fields >>= λ more. Some (arg ∷ more))) is

    pub HasArgs-few : (shape : Shape) (shapes : List Shape) → HasArgs is_bound all args (shape ∷ shapes) [] → all ≡ None
    HasArgs-few shape shapes has = has.gives

    pub HasArgs-many : (field : List ℕ) (fields : List (List ℕ)) → HasArgs is_bound all args [] (field ∷ fields) → all ≡ None
    HasArgs-many field fields has = has.gives

    pub HasArgs-all : HasArgs is_bound all args [] [] → all ≡ Some args
    HasArgs-all has = has.gives ∙ ap Some (append-nil args)
