use Rattle.std.proofs.Common.{ap, arith, refl, sym, ◌∙◌, ◌==◌, None, Some}
use Rattle.std.specs.Prelude.{position}
use Rattle.sdr_core.specs.Keeping.{StandsAt}
use Rattle.sdr_core.specs.declared.spoken.Spoken.{Spoken}
use Rattle.sdr_core.proofs.PlaceLemmas.{found_place, has_space, said_at, set_spacious}
use Rattle.sdr_core.proofs.spoken.say.Goals as goal

pub push_reserved-requires : goal.push_reserved-requires
push_reserved-requires c =
    let items = c.args.spoken.now.items in
    let at : StandsAt items c.args.daemon c.in-Some.place = found_place items c.args.daemon (Some c.in-Some.place)
    (sym c.in-Some.is ∙ c.place_of.ensures.value ∙ ap (position (λ (s : Spoken). s.daemon == c.args.daemon)) c.as_slice.ensures.value) in
    let two = has_space items c.args.daemon c.in-Some.place c.index_mut.result.now at c.index_mut.ensures.value 2 c.requires in
    omega (arith, two)

pub returns-in-Some-clause-says : goal.returns-in-Some-clause-says
returns-in-Some-clause-says c =
    let items = c.args.spoken.now.items in
    let at : StandsAt items c.args.daemon c.in-Some.place = found_place items c.args.daemon (Some c.in-Some.place)
    (sym c.in-Some.is ∙ c.place_of.ensures.value ∙ ap (position (λ (s : Spoken). s.daemon == c.args.daemon)) c.as_slice.ensures.value) in
    said_at items c.args.daemon c.in-Some.place c.index_mut.result.now at c.index_mut.ensures.value _ c.args.said
    (ap (λ said. record { daemon = c.index_mut.result.now.daemon; said = said }) c.push_reserved.ensures.items)

pub returns-in-None-clause-says : goal.returns-in-None-clause-says
returns-in-None-clause-says c =
    let items = c.args.spoken.now.items in
    (refl, refl, found_place items c.args.daemon None (sym c.in-None.is ∙ c.place_of.ensures.value ∙ ap (position (λ (s : Spoken). s.daemon == c.args.daemon)) c.as_slice.ensures.value))

pub returns-in-Some-clause-spacious : goal.returns-in-Some-clause-spacious
returns-in-Some-clause-spacious c =
    let items = c.args.spoken.now.items in
    let at : StandsAt items c.args.daemon c.in-Some.place = found_place items c.args.daemon (Some c.in-Some.place)
    (sym c.in-Some.is ∙ c.place_of.ensures.value ∙ ap (position (λ (s : Spoken). s.daemon == c.args.daemon)) c.as_slice.ensures.value) in
    let two = has_space items c.args.daemon c.in-Some.place c.index_mut.result.now at c.index_mut.ensures.value 2 c.requires in
    λ all. set_spacious items c.args.daemon c.in-Some.place c.index_mut.result.now at c.index_mut.ensures.value _ all
    (omega (arith, two, c.push_reserved.ensures.len, c.push_reserved.ensures.capacity))
