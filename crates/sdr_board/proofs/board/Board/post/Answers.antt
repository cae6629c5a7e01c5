use Rattle.std.proofs.Common.{◌≡◌, ◌∙◌, sym, ap, subst, arith}
use Rattle.std.specs.Prelude.{⊤}
use Rattle.atomic_table.specs.Table.{Allows, Me}
use Rattle.sdr_board.specs.Plays.{Beginning, Ending}
use Rattle.sdr_board.specs.Posted.{IsPosted}
use Rattle.sdr_board.specs.Totals.{words_of}
use Rattle.sdr_board.specs.Views.{writing_view}
use Rattle.sdr_board.specs.declared.totals.Totals.{Totals}
use Rattle.sdr_board.specs.declared.view.View.{View}
use Rattle.sdr_board.proofs.WriterSteps.{begins, ends}
use Rattle.sdr_board.proofs.board.Board.post.Goals as goal

abbrev Mine : Type 0
Mine = Me ⊤ View

pub store-requires : goal.store-requires
store-requires g c =
    let place = c.args.place.now in
    let new = c.args.last.entries in
    let slots = c.self.inside.table.shared.table_id.slots in (
      c.requires.board ∙ sym c.self.view_is,
      omega (arith, c.self.invariant),
      subst (λ (v : View). Allows (IsPosted {S = ⊤}) slots place.id (v, place.me.1) 1 (λ _. new) (λ _. Beginning (v, place.me.1) new)) (sym c.requires.writer)
          (begins slots place.id new place.me.0.seen place.me.1 c.requires.totals.1),
    )

pub store-requires-2 : goal.store-requires-2
store-requires-2 g c =
    let place = c.args.place.now in
    let seen = place.me.0.seen in
    let last = c.args.last in
    let new = last.entries in
    let journal = g.N.Naming.journal in
    let slots = c.self.inside.table.shared.table_id.slots in
    let seat = c.write.new.place in
    let counted = ap (λ (t : Totals). t.entries) c.requires.totals.0 in
    let all : seat.me ≡ (writing_view seen new (words_of last), place.me.1) =
    c.write.ensures.written ∙ ap (λ (m : Mine). (writing_view m.0.seen m.0.begun (words_of last), m.1)) c.store.ensures.2 in (
      c.write.ensures.board ∙ sym c.self.view_is,
      omega (arith, c.self.invariant),
      subst (λ (m : Mine). Allows (IsPosted {S = ⊤}) slots seat.id m 0 (λ _. new) (λ _. Ending journal m new)) (sym all)
          (ends slots seat.id new new seen journal (words_of last) place.me.1 counted counted (ap words_of c.requires.totals.0) c.requires.begins),
    )
