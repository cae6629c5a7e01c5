-- What a line's fields say as arguments.
use Rattle.std.specs.Prelude.{ℕ, List, [], ◌∷◌, Bool, ◌&&◌, if◌then◌else◌, Option, Some, None, option_map, option_and_then, codes, nat_eq}
use Rattle.std.specs.Cmp.Lexicographic.{pointwise}
use Rattle.sdr_base.specs.declared.account.Acct.{Acct}
use Rattle.sdr_base.specs.declared.account.Acct.TheVariants as accounts
use Rattle.sdr_base.specs.declared.kind.Space.TheVariants as spaces
use Rattle.sdr_base.specs.declared.kind.Space as kinds
use Rattle.sdr_model.specs.declared.keys.Keys.{Keys}
use Rattle.sdr_model.specs.declared.keys.Keys.TheVariants as keys
use Rattle.sdr_model.specs.declared.script.Arg.{Arg}
use Rattle.sdr_model.specs.declared.script.Arg.TheVariants as args
use Rattle.sdr_words.specs.Literals.{literal_of}
use Rattle.sdr_words.specs.Words.{at_most, is_name, as_number}
use Rattle.sdr_words.specs.declared.verb.Shape.{Shape}
use Rattle.sdr_words.specs.declared.verb.Shape.TheVariants as shapes

-- what is refused stays refused
infixl 10 ◌>>=◌
abbrev pub ◌>>=◌ : {A B : Type 0} → Option A → (A → Option B) → Option B
(Some x) >>= f = f x
None >>= f = None

-- the number that a field gave, else the name that it is, where that is bound
abbrev pub number_or_name : Option ℕ → (List ℕ → Bool) → List ℕ → Option Arg
number_or_name (Some n) is_bound field = Some (args.Number n)
number_or_name None is_bound field = if is_name field && is_bound field then Some (args.Named field) else None

-- the value that a field gives: a number, or a name that is bound
abbrev pub as_value : (List ℕ → Bool) → List ℕ → Option Arg
as_value is_bound field = number_or_name (as_number field) is_bound field

-- the number that a field is, where it is no greater than the most
abbrev pub plain_of : ℕ → List ℕ → Option Arg
plain_of most field = option_map args.Number (option_and_then (at_most most) (as_number field))

-- the account that a field is
abbrev pub as_account : List ℕ → Option Acct
as_account field =
    if pointwise nat_eq field (codes "in") then Some accounts.Inbound
    else if pointwise nat_eq field (codes "out") then Some accounts.Outbound
    else None

-- the space that a field is
abbrev pub as_space : List ℕ → Option kinds.Space
as_space field =
    if pointwise nat_eq field (codes "file") then Some spaces.File
    else if pointwise nat_eq field (codes "bulk") then Some spaces.Bulk
    else if pointwise nat_eq field (codes "heap") then Some spaces.Heap
    else None

-- the order of keys that a field is
abbrev pub as_order : List ℕ → Option Keys
as_order field =
    if pointwise nat_eq field (codes "bytes") then Some keys.ByBytes
    else if pointwise nat_eq field (codes "length") then Some keys.ByLength
    else None

-- the argument of a shape that a field gives, which may use the names that are bound
abbrev pub arg_of : (List ℕ → Bool) → Shape → List ℕ → Option Arg
arg_of is_bound shapes.Value field = as_value is_bound field
arg_of is_bound shapes.Type field = plain_of 4294967295 field
arg_of is_bound shapes.Priority field = plain_of 255 field
arg_of is_bound shapes.Text field = option_map args.Text (literal_of field)
arg_of is_bound shapes.Account field = option_map args.Account (as_account field)
arg_of is_bound shapes.Space field = option_map args.In (as_space field)
arg_of is_bound shapes.Order field = option_map args.By (as_order field)

-- the arguments of these shapes that fields give, one each
abbrev pub args_of : (List ℕ → Bool) → List Shape → List (List ℕ) → Option (List Arg)
args_of is_bound [] [] = Some []
args_of is_bound (shape ∷ shapes) (field ∷ fields) = do
  arg ← arg_of is_bound shape field
  args ← args_of is_bound shapes fields
  Some (arg ∷ args)
args_of is_bound shapes fields = None
