use Rattle.std.proofs.Common.{◌≡◌, ◌∙◌, ◌==◌, true, List, sym, ap, arith, eq-eqb, length, subst}
use Rattle.std.specs.Prelude.{⊤}
use Rattle.std.specs.Prelude.{MatchBool}
use Rattle.std.proofs.lemmas.Bool.Decides.{nat_tests}
use Rattle.atomic_table.specs.Table.{Me}
use Rattle.sdr_board.specs.Totals.{totals, words_of}
use Rattle.sdr_board.specs.Views.{with_met, with_seen}
use Rattle.sdr_board.specs.declared.view.View.{View}
use Rattle.sdr_board.proofs.ReaderSteps.{looks, checks}
use Rattle.sdr_board.proofs.board.Board.look.Goals as goal
use Rattle.sdr_model.specs.declared.journal.Entry.{Entry}

abbrev Mine : Type 0
Mine = Me ⊤ View

pub load-entries-requires : goal.load-entries-requires
load-entries-requires c =
    let me = c.args.place.now.me in (
      c.requires.board ∙ sym c.self.view_is,
      omega (arith, c.self.invariant),
      looks c.self.inside.table.shared.table_id.slots c.args.place.now.id me.0 me.1,
    )

pub load-requires : goal.load-requires
load-requires c =
    let seat = c.peek-words.new.place in
    let writes = ap (λ (m : Mine). m.0.writes) c.peek-words.ensures.view ∙ (ap (λ (m : Mine). m.0.writes) c.load-entries.ensures.2.2 ∙ c.requires.reads) in (
      c.peek-words.ensures.board ∙ sym c.self.view_is,
      omega (arith, c.self.invariant),
      checks c.self.inside.table.shared.table_id.slots seat.id seat.me.0 seat.me.1 writes,
    )

pub returns-clause-totals : goal.returns-clause-totals
returns-clause-totals c =
    let looked = c.load-entries.ensures.2 in
    let log = looked.0 in
    let before = c.peek-words.new.place.me in
    let found = c.load.result in
    let at_look : c.load-entries.new.seat.me.0.stood ≡ log = ap (λ (m : Mine). m.0.stood) looked.2 in
    let at_check : before.0.stood ≡ log = ap (λ (m : Mine). m.0.stood) c.peek-words.ensures.view ∙ at_look in
    let same : found ≡ c.load-entries.result = grind (arith, nat_tests, c.if-load-entries.false) in
    let count : found ≡ length log = same ∙ looked.5 in
    let hit : (found == length before.0.stood) ≡ true = eq-eqb found (length before.0.stood) (count ∙ ap (λ (l : List Entry). length l) (sym at_check)) in
    let after : c.load.new.seat.me ≡ (with_seen before.0, before.1) =
    subst (λ b. MatchBool b (◌≡◌ {A = Mine} c.load.new.seat.me (with_seen before.0, before.1)) (◌≡◌ {A = Mine} c.load.new.seat.me (with_met before.0, before.1))) hit c.load.ensures.2.1 in
    let words : c.peek-words.result ≡ words_of (totals log) =
    c.peek-words.ensures.words (omega (arith, c.load.ensures.2.0, count, ap (λ (l : List Entry). length l) at_look)) ∙ ap (λ (l : List Entry). words_of (totals l)) at_look in (
      c.from_words.ensures (totals log) looked.5 words ∙ ap totals (sym (ap (λ (m : Mine). m.0.stood) after ∙ at_check)),
      ap (λ (m : Mine). m.0.seen) after ∙ sym (ap (λ (m : Mine). m.0.stood) after),
    )
