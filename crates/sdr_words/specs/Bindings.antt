-- What names hold while a script runs.
use Rattle.std.specs.Prelude.{ℕ, List, [], ◌∷◌, ◌++◌, Bool, ◌&&◌, ◌==◌, nat_eq, if◌then◌else◌, refl}
use Rattle.std.specs.Cmp.Lexicographic.{pointwise}
use Rattle.std.specs.Coded.{Coded, code_by, coded×, coded_ℕ, coded_list}
use Rattle.sdr_model.specs.declared.answer.Answer.{Answer}
use Rattle.sdr_model.specs.declared.answer.Answer.TheVariants as answers
use Rattle.sdr_model.specs.declared.answer.Reply.{Reply}
use Rattle.sdr_model.specs.declared.answer.Reply.TheVariants as replies
use Rattle.sdr_model.specs.declared.event.Event.{Event}
use Rattle.sdr_model.specs.declared.script.Arg.{Arg}
use Rattle.sdr_model.specs.declared.script.Arg.TheVariants as args
use Rattle.sdr_model.specs.declared.script.ScriptStep.{ScriptStep}
use Rattle.sdr_words.specs.Events.{event_by, nothing_given}
use Rattle.sdr_words.specs.Verbs.{verb_at}
use Rattle.sdr_words.specs.declared.given.Given.{Given}

-- what a name of a daemon holds
pub record Binding : Type 0 where
  pub daemon : ℕ
  pub name : List ℕ
  pub value : ℕ

-- whether the binding is of this daemon's name
abbrev pub is_binding_of : ℕ → List ℕ → Binding → Bool
is_binding_of daemon name b = daemon == b.daemon && pointwise nat_eq name b.name

-- what a name of a daemon holds, 0 where it is not bound
abbrev pub value_in : List Binding → ℕ → List ℕ → ℕ
value_in [] daemon name = 0
value_in (b ∷ bindings) daemon name = if is_binding_of daemon name b then b.value else value_in bindings daemon name

-- the bindings with this one: in the place of the name's older one, else at the end
abbrev pub with_binding : List Binding → Binding → List Binding
with_binding [] new = new ∷ []
with_binding (b ∷ bindings) new =
    if is_binding_of new.daemon new.name b
    then record b { value = new.value } ∷ bindings
    else b ∷ with_binding bindings new

-- the number that a reply gives to a name
abbrev pub value_of_reply : Reply → ℕ
value_of_reply (replies.At addr) = addr
value_of_reply (replies.Value value) = value
value_of_reply (replies.Pair first second) = second
value_of_reply (replies.Named count kind addr) = addr
value_of_reply (replies.Ticket number granted) = number
value_of_reply reply = 0

-- the number that an answer gives to a name
abbrev pub value_given : Answer → ℕ
value_given (answers.Reply reply) = value_of_reply reply
value_given answer = 0

-- what is given with one argument of this daemon more
abbrev pub with_arg : List Binding → ℕ → Given → Arg → Given
with_arg bindings daemon g (args.Number n) = record g { numbers = g.numbers ++ n ∷ [] }
with_arg bindings daemon g (args.Named name) = record g { numbers = g.numbers ++ value_in bindings daemon name ∷ [] }
with_arg bindings daemon g (args.Text text) = record g { text = text }
with_arg bindings daemon g (args.Account account) = record g { account = account }
with_arg bindings daemon g (args.In space) = record g { space = space }
with_arg bindings daemon g (args.By order) = record g { order = order }

-- what is given with these arguments more
abbrev pub with_args : List Binding → ℕ → Given → List Arg → Given
with_args bindings daemon g [] = g
with_args bindings daemon g (arg ∷ args) = with_args bindings daemon (with_arg bindings daemon g arg) args

-- what the arguments of a daemon give
abbrev pub given_of : List Binding → ℕ → List Arg → Given
given_of bindings daemon args = with_args bindings daemon nothing_given args

-- the event of a step, with what its names hold
abbrev pub event_of : List Binding → ScriptStep → Event
event_of bindings step = event_by (verb_at step.verb) (given_of bindings step.daemon step.args)

-- the bindings where a name of a daemon is given a value, and as before where there is no name
abbrev pub name_given : List Binding → ℕ → List ℕ → ℕ → List Binding
name_given bindings daemon [] value = bindings
name_given bindings daemon (b ∷ bs) value =
    with_binding bindings (record { daemon = daemon; name = b ∷ bs; value = value })

-- the bindings after a step was answered
abbrev pub bound : List Binding → ScriptStep → Answer → List Binding
bound bindings step answer = name_given bindings step.daemon step.name (value_given answer)

-- a binding as numbers and a list
abbrev pub coded_binding : Coded Binding
coded_binding = code_by (ℕ × (List ℕ × ℕ)) (coded× coded_ℕ (coded× (coded_list coded_ℕ) coded_ℕ))
    (λ b. (b.daemon, (b.name, b.value)))
    (λ p. record { daemon = p.0; name = p.1.0; value = p.1.1 })
    (λ _. refl)
