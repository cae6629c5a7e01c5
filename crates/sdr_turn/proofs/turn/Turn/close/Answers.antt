use Rattle.std.proofs.Common.{◌∙◌, ap, subst}
use Rattle.std.specs.Prelude.{All, AllPairs, map}
use Rattle.std.proofs.lemmas.Simd.{map-map}
use Rattle.sdr_turn.specs.declared.known.Known.{Known}
use Rattle.sdr_turn.specs.Entries.{Apart}
use Rattle.sdr_turn.specs.Knowing.{Agrees}
use Rattle.sdr_turn.specs.Seats.{Seated}
use Rattle.sdr_turn.proofs.SeatLemmas.{All-from_map}
use Rattle.sdr_turn.proofs.turn.Turn.close.Goals as goal

pub returns-clause-agree : goal.returns-clause-agree
returns-clause-agree g c =
    let K = g.V.Kept in
    let value = c.value_at_end.result in
    let agrees = Agrees K.number K.maker (K.entries value) (K.turns value) (K.turns value) in
    All-from_map agrees (λ (s : Seated g.row.V-Entry.Denot). s.knows) c.args.seats.items (subst (All agrees) c.gather-whole.ensures.told c.value_at_end.ensures.agree)

pub returns-clause-apart : goal.returns-clause-apart
returns-clause-apart g c =
    let numbers = λ (k : Known g.row.V-Entry.Denot). k.numbers in
    let knows = λ (s : Seated g.row.V-Entry.Denot). s.knows in
    subst (AllPairs Apart) (ap (map numbers) c.gather-whole.ensures.told ∙ map-map numbers knows c.args.seats.items) c.value_at_end.ensures.apart
