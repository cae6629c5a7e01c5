use Rattle.std.proofs.Common.{ap, sym, ◌∙◌, ◌==◌, ◌+◌, ◌≤◌, None, Some, vec_len, vec_capacity, arith, refl}
use Rattle.std.specs.Prelude.{position}
use Rattle.sdr_core.specs.Keeping.{StandsAt}
use Rattle.sdr_core.specs.declared.spoken.Spoken.{Spoken}
use Rattle.sdr_core.proofs.PlaceLemmas.{found_place, may_begin, on_ok, own_spacious, reserved_has, reserved_same, set_spacious}
use Rattle.sdr_core.proofs.spoken.reserve_said.Goals as goal

pub returns-in-Some-clause-same : goal.returns-in-Some-clause-same
returns-in-Some-clause-same c =
    let items = c.args.spoken.now.items in
    let at : StandsAt items c.args.daemon c.in-Some.place = found_place items c.args.daemon (Some c.in-Some.place)
    (sym c.in-Some.is ∙ c.place_of.ensures.value ∙ ap (position (λ (s : Spoken). s.daemon == c.args.daemon)) c.as_slice.ensures.value) in
    reserved_same items c.args.daemon c.in-Some.place c.index_mut.result.now at c.index_mut.ensures.value _
    (ap (λ said. record { daemon = c.index_mut.result.now.daemon; said = said }) c.reserve.ensures.items)

pub returns-in-Some-clause-ok : goal.returns-in-Some-clause-ok
returns-in-Some-clause-ok c =
    let items = c.args.spoken.now.items in
    let at : StandsAt items c.args.daemon c.in-Some.place = found_place items c.args.daemon (Some c.in-Some.place)
    (sym c.in-Some.is ∙ c.place_of.ensures.value ∙ ap (position (λ (s : Spoken). s.daemon == c.args.daemon)) c.as_slice.ensures.value) in
    on_ok c.reserve.result (vec_len c.reserve.new.self + 2 ≤ vec_capacity c.reserve.new.self) _ c.reserve.ensures.ok
    (λ fits. reserved_has items c.args.daemon c.in-Some.place c.index_mut.result.now at c.index_mut.ensures.value 2 _ refl (omega arith))

pub returns-in-None-clause-ok : goal.returns-in-None-clause-ok
returns-in-None-clause-ok c =
    let items = c.args.spoken.now.items in
    may_begin 2 items c.args.daemon
    (found_place items c.args.daemon None (sym c.in-None.is ∙ c.place_of.ensures.value ∙ ap (position (λ (s : Spoken). s.daemon == c.args.daemon)) c.as_slice.ensures.value))

pub returns-in-Some-clause-spacious : goal.returns-in-Some-clause-spacious
returns-in-Some-clause-spacious c =
    let items = c.args.spoken.now.items in
    let at : StandsAt items c.args.daemon c.in-Some.place = found_place items c.args.daemon (Some c.in-Some.place)
    (sym c.in-Some.is ∙ c.place_of.ensures.value ∙ ap (position (λ (s : Spoken). s.daemon == c.args.daemon)) c.as_slice.ensures.value) in
    λ all. let own = own_spacious items c.args.daemon c.in-Some.place c.index_mut.result.now at c.index_mut.ensures.value all in
    set_spacious items c.args.daemon c.in-Some.place c.index_mut.result.now at c.index_mut.ensures.value _ all
    (omega (arith, own, c.reserve.ensures.len, c.reserve.ensures.capacity))
