use Rattle.std.proofs.Common.{ap, subst, sym, ◌∙◌, ◌==◌, None, Some}
use Rattle.std.specs.Prelude.{position}
use Rattle.sdr_core.specs.Keeping.{AreSpacious, StandsAt, works_of}
use Rattle.sdr_core.specs.declared.spoken.Spoken.{Spoken}
use Rattle.sdr_core.proofs.PlaceLemmas.{found_place, none_works, own_said, own_spacious, without_at, without_spacious}
use Rattle.sdr_core.proofs.SpokenLemmas.{without_work-none}
use Rattle.sdr_core.proofs.spoken.take_spoken.Goals as goal

pub returns-in-None-clause-others : goal.returns-in-None-clause-others
returns-in-None-clause-others c =
    let items = c.args.spoken.now.items in
    let none = found_place items c.args.daemon None (sym c.in-None.is ∙ c.place_of.ensures.value ∙ ap (position (λ (s : Spoken). s.daemon == c.args.daemon)) c.as_slice.ensures.value) in
    sym (without_work-none (works_of items) c.args.daemon (none_works items c.args.daemon none))

pub returns-in-None-clause-own : goal.returns-in-None-clause-own
returns-in-None-clause-own c = found_place c.args.spoken.now.items c.args.daemon None (sym c.in-None.is ∙ c.place_of.ensures.value ∙ ap (position (λ (s : Spoken). s.daemon == c.args.daemon)) c.as_slice.ensures.value)

pub returns-in-Some-clause-others : goal.returns-in-Some-clause-others
returns-in-Some-clause-others c =
    let items = c.args.spoken.now.items in
    let at : StandsAt items c.args.daemon c.in-Some.place = found_place items c.args.daemon (Some c.in-Some.place)
    (sym c.in-Some.is ∙ c.place_of.ensures.value ∙ ap (position (λ (s : Spoken). s.daemon == c.args.daemon)) c.as_slice.ensures.value) in
    ap works_of c.remove.ensures.items ∙ without_at items c.args.daemon c.in-Some.place at c.requires

pub returns-in-Some-clause-own : goal.returns-in-Some-clause-own
returns-in-Some-clause-own c =
    let items = c.args.spoken.now.items in
    let at : StandsAt items c.args.daemon c.in-Some.place = found_place items c.args.daemon (Some c.in-Some.place)
    (sym c.in-Some.is ∙ c.place_of.ensures.value ∙ ap (position (λ (s : Spoken). s.daemon == c.args.daemon)) c.as_slice.ensures.value) in
    own_said items c.args.daemon c.in-Some.place c.remove.result at c.remove.ensures.value c.requires

pub returns-in-Some-clause-spacious : goal.returns-in-Some-clause-spacious
returns-in-Some-clause-spacious c =
    let items = c.args.spoken.now.items in
    let at : StandsAt items c.args.daemon c.in-Some.place = found_place items c.args.daemon (Some c.in-Some.place)
    (sym c.in-Some.is ∙ c.place_of.ensures.value ∙ ap (position (λ (s : Spoken). s.daemon == c.args.daemon)) c.as_slice.ensures.value) in
    λ all. (
      subst AreSpacious (sym c.remove.ensures.items) (without_spacious items c.args.daemon c.in-Some.place at all),
      own_spacious items c.args.daemon c.in-Some.place c.remove.result at c.remove.ensures.value all,
    )
