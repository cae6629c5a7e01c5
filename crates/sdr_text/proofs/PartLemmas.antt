-- A text that is written in several calls.
use Rattle.std.proofs.Common.{◌≡◌, ◌∷◌, ℕ, List, ◌++◌, Result, Ok, Err, OnErr, OnOk, subst}
use Rattle.std.proofs.KnownBytes.{Appends-trans}
use Rattle.std.specs.declared.option.Option.{Option}
use Rattle.std.specs.Io.KnownBytes.{Appends}
use Rattle.std.specs.Prelude.{flat_map}
use Rattle.sdr_base.proofs.WrittenLemmas.{GoesOut, goes_more, goes_part}
use Rattle.sdr_base.specs.Written.{AppendsPart}
use Rattle.sdr_text.proofs.TextLemmas.{part_later}

-- of several calls, the last one's result is returned
module _ {T E : Type 0} (result : Result T E) (old now new : Option (List ℕ)) (text more : List ℕ) (front : Appends old now text) where
  -- the last piece went out behind the others
  pub whole_behind : OnOk result (Appends now new more) → OnOk result (Appends old new (text ++ more))
  whole_behind = elim result as (λ r. OnOk r (Appends now new more) → OnOk r (Appends old new (text ++ more))) [
    | Ok x ↦ λ last. Appends-trans old now new text more front last
    | Err e ↦ λ none. tt
  ]

  -- a part of it went out
  pub part_behind : OnErr result (AppendsPart now new more) → OnErr result (AppendsPart old new (text ++ more))
  part_behind = elim result as (λ r. OnErr r (AppendsPart now new more) → OnErr r (AppendsPart old new (text ++ more))) [
    | Ok x ↦ λ none. tt
    | Err e ↦ λ last. part_later old now new text more front last
  ]

-- the texts of items are written one after another, and here is the next one
module _ {X : Type 0} (text : X → List ℕ) (old now later : Option (List ℕ)) (all : List X)
    {rest after : List X} {x : X} (is : rest ≡ x ∷ after)
    (goes : GoesOut old now (flat_map text all) (flat_map text rest)) where
  next_goes : GoesOut old now (flat_map text all) (text x ++ flat_map text after)
  next_goes = subst (λ l. GoesOut old now (flat_map text all) (flat_map text l)) is goes

  -- it went out
  pub next_whole : Appends now later (text x) → GoesOut old later (flat_map text all) (flat_map text after)
  next_whole went = goes_more old now later (flat_map text all) (text x) (flat_map text after) next_goes went

  -- a part of it went out, and nothing more
  pub next_part : AppendsPart now later (text x) → AppendsPart old later (flat_map text all)
  next_part went = goes_part old now later (flat_map text all) (text x) (flat_map text after) next_goes went
