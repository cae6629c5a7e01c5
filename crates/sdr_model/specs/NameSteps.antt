-- The steps of the catalogue.
use Rattle.std.specs.Prelude.{ℕ, List, [], ◌∷◌, ◌++◌, length, slice_get, MatchOption}
use Rattle.sdr_base.specs.declared.refusal.Refusal.TheVariants as refusals
use Rattle.sdr_model.specs.Limits.{longest_name, is_no_name}
use Rattle.sdr_model.specs.Names.{name_of, without_name}
use Rattle.sdr_model.specs.Steps.{Outcome, RefusedIf, RefusedWithout, Refuses, ReadsBytes, Does, Takes, gave}
use Rattle.sdr_model.specs.Things.{name_need}
use Rattle.sdr_model.specs.World.{World}
use Rattle.sdr_model.specs.declared.answer.Reply.TheVariants as replies
use Rattle.sdr_model.specs.declared.name.Name.{Name}

-- The call is refused where the name has no byte or too many, and else goes on with its entry, if it has one.
abbrev pub OnName : World → Outcome → List ℕ → Type 0 → (Name → Type 0) → Type 0
OnName w o name missing found =
    RefusedIf w o (is_no_name (length name)) (refusals.BadLength (length name) longest_name)
    (MatchOption (name_of w.names name) missing found)

-- a new name is last in the catalogue
abbrev pub Catlg : World → Outcome → List ℕ → ℕ → ℕ → Type 0
Catlg w o name kind object =
    OnName w o name
    (Takes w o name_need
    (λ addr. record w { names = w.names ++ record { block = addr; name = name; kind = kind; object = object } ∷ [] })
    (λ addr. replies.Done))
    (λ n. Refuses w o (refusals.NameTaken n.object))

-- the type and the object of the name are given
abbrev pub Find : World → Outcome → List ℕ → Type 0
Find w o name = OnName w o name (Refuses w o refusals.NotFound) (λ n. ReadsBytes w o [] (replies.Pair n.kind n.object))

-- the name goes
abbrev pub Uncatlg : World → Outcome → List ℕ → Type 0
Uncatlg w o name =
    OnName w o name (Refuses w o refusals.NotFound)
    (λ n. Does o (gave (n.block ∷ [])) (record w { names = without_name w.names name }) replies.Done)

-- the entry at a place, from 0, is given: its name, type and object
abbrev pub Entry : World → Outcome → ℕ → Type 0
Entry w o place =
    RefusedWithout w o (slice_get w.names place) refusals.NotFound
    (λ n. ReadsBytes w o n.name (replies.Named (length n.name) n.kind n.object))
