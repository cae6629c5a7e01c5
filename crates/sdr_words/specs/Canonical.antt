-- The canonical line of a step.
use Rattle.std.specs.Prelude.{◌≡◌, ℕ, ◌≤◌, ◌<◌, ◌^◌, ◌⊎◌, List, [], ◌∷◌, ◌++◌, length, map, Bool, true, codes, decimal}
use Rattle.std.specs.List.{join_with_byte}
use Rattle.hex.specs.Hex.{IsBytes}
use Rattle.sdr_base.specs.declared.account.Acct.{Acct}
use Rattle.sdr_base.specs.declared.account.Acct.TheVariants as accounts
use Rattle.sdr_base.specs.declared.kind.Space as kinds
use Rattle.sdr_base.specs.declared.kind.Space.TheVariants as spaces
use Rattle.sdr_model.specs.declared.keys.Keys.{Keys}
use Rattle.sdr_model.specs.declared.keys.Keys.TheVariants as keys
use Rattle.sdr_model.specs.declared.script.Arg.{Arg}
use Rattle.sdr_model.specs.declared.script.Arg.TheVariants as args
use Rattle.sdr_model.specs.declared.script.ScriptStep.{ScriptStep}
use Rattle.sdr_text.specs.Text.{bytes_text}
use Rattle.sdr_words.specs.Statements.{is_bound_by}
use Rattle.sdr_words.specs.Verbs.{verb_names, name_at, shapes_at}
use Rattle.sdr_words.specs.Words.{is_name}
use Rattle.sdr_words.specs.declared.verb.Shape.{Shape}
use Rattle.sdr_words.specs.declared.verb.Shape.TheVariants as shapes

-- the word of an account
abbrev pub account_text : Acct → List ℕ
account_text accounts.Inbound = codes "in"
account_text accounts.Outbound = codes "out"

-- the word of a space
abbrev pub space_text : kinds.Space → List ℕ
space_text spaces.File = codes "file"
space_text spaces.Bulk = codes "bulk"
space_text spaces.Heap = codes "heap"

-- the word of an order of keys
abbrev pub order_text : Keys → List ℕ
order_text keys.ByBytes = codes "bytes"
order_text keys.ByLength = codes "length"

-- the field of an argument: bytes are written as `x` and their digits
abbrev pub arg_text : Arg → List ℕ
arg_text (args.Number n) = decimal n
arg_text (args.Named name) = name
arg_text (args.Text bytes) = bytes_text bytes
arg_text (args.Account account) = account_text account
arg_text (args.In space) = space_text space
arg_text (args.By order) = order_text order

-- the fields by which a line binds a name, none where it binds none
abbrev pub name_fields : List ℕ → List (List ℕ)
name_fields [] = []
name_fields (b ∷ bs) = (b ∷ bs) ∷ codes "=" ∷ []

-- the fields of a step
abbrev pub fields_for : ScriptStep → List (List ℕ)
fields_for step =
    (decimal step.daemon ++ codes ":") ∷ name_fields step.name ++ name_at step.verb ∷ map arg_text step.args

-- the canonical line of a step: its fields, with one space between each two
abbrev pub line_for : ScriptStep → List ℕ
line_for step = join_with_byte 32 (fields_for step)

-- the argument is one of this shape, where these names are bound
abbrev pub IsArg : (List ℕ → Bool) → Shape → Arg → Type 0
IsArg is_bound shapes.Value (args.Number n) = n < 2 ^ 64
IsArg is_bound shapes.Value (args.Named name) = (is_name name ≡ true) × (is_bound name ≡ true)
IsArg is_bound shapes.Type (args.Number n) = n ≤ 4294967295
IsArg is_bound shapes.Priority (args.Number n) = n ≤ 255
IsArg is_bound shapes.Text (args.Text bytes) = IsBytes bytes
IsArg is_bound shapes.Account (args.Account account) = Unit {0}
IsArg is_bound shapes.Space (args.In space) = Unit {0}
IsArg is_bound shapes.Order (args.By order) = Unit {0}
IsArg is_bound shape arg = ⊥

-- the arguments have these shapes, one each
abbrev pub AreArgs : (List ℕ → Bool) → List Shape → List Arg → Type 0
AreArgs is_bound [] [] = Unit {0}
AreArgs is_bound (shape ∷ shapes) (arg ∷ args) = IsArg is_bound shape arg × AreArgs is_bound shapes args
AreArgs is_bound shapes args = ⊥

-- the step is one that a script may have behind these
pub record IsStep (earlier : List ScriptStep) (step : ScriptStep) : Type 0 where
  pub first_daemon : 1 ≤ step.daemon
  pub last_daemon : step.daemon ≤ 16
  pub name : (step.name ≡ []) ⊎ (is_name step.name ≡ true)
  pub verb : step.verb < length verb_names
  pub args : AreArgs (is_bound_by earlier step.daemon) (shapes_at step.verb) step.args
