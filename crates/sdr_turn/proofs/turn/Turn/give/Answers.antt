use Rattle.std.proofs.Common.{◌≡◌, ◌∙◌, ◌+◌, ◌%◌, ◌^◌, ℕ, List, [], ◌∷◌, sym, ap, subst, arith}
use Rattle.std.specs.Prelude.{Option, Some}
use Rattle.atomic_table.specs.Table.{Allows, Me, rest}
use Rattle.sdr_turn.specs.declared.known.Known.{Known}
use Rattle.sdr_turn.specs.declared.view.View.{View}
use Rattle.sdr_turn.specs.Entries.{MayAdd}
use Rattle.sdr_turn.specs.Serving.{IsServing}
use Rattle.sdr_turn.specs.Plays.{GivesValue}
use Rattle.sdr_turn.specs.Seats.{carried}
use Rattle.sdr_turn.proofs.GiveLemmas.{may_give}
use Rattle.sdr_turn.proofs.turn.Turn.give.Goals as goal

pub fetch_add-before-requires : goal.fetch_add-before-requires
fetch_add-before-requires g c =
    let i = c.seat.invariant in
    let v = c.seat.inside.table_seat.me.0 in
    let y = c.held.inside.value in
    let held : y ≡ c.args.held = c.held.view_is in
    let K = g.V.Kept in
    let shared = c.self.inside.table.shared in
    let x = c.exchange-slot.ensures in
    let knows = ap (λ s. s.knows) c.seat.view_is in
    let out = ap (λ k. k.took) knows ∙ c.requires.took in
    let number = ap (λ k. k.number) knows in
    let has = i.holds out in
    let adds = subst (λ (k : Known g.row.V-Entry.Denot). MayAdd K.number K.maker k.number k.place k.seen (K.entries y)) (sym knows) (subst (λ (v : g.row.V.Denot). MayAdd K.number K.maker c.args.seat.now.knows.number c.args.seat.now.knows.place c.args.seat.now.knows.seen (K.entries v)) (sym held) c.requires.adds) in
    let me : c.exchange-slot.new.seat.me ≡ (v, (0, Some y) ∷ []) = x.3 ∙ ap (λ (slots : List (ℕ × Option g.row.V.Denot)). (v, (0, Some y) ∷ rest slots)) (i.carries ∙ ap carried out) in (
      x.0 ∙ ap (λ s. s.lock) c.seat.view_is ∙ c.requires.seat ∙ sym (ap (λ t. t.id) c.self.view_is),
      omega (arith, c.self.invariant.0),
      subst (λ (m : Me (Option g.row.V.Denot) (View g.row.V-Entry.Denot)). Allows (IsServing K.entries K.number K.maker K.turns K.rests shared.key) shared.table_id.slots c.exchange-slot.new.seat.id m 1 (λ n. (n + 1) % 2 ^ 64) (GivesValue K.entries K.maker m))
          (sym me)
          (may_give K.entries K.number K.maker K.turns K.rests shared.key shared.table_id.slots c.exchange-slot.new.seat.id v y c.self.invariant.1 i.alone i.placed (omega (arith, i.place_is, i.few)) (i.drawn_is ∙ sym i.numbers) out has (ap K.turns held ∙ c.requires.turn ∙ sym number) (subst K.rests (sym held) c.requires.rests) adds),
    )
