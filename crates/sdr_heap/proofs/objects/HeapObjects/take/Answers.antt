-- The block is chosen, gets its label and its mark, and that is a move.
use Rattle.std.proofs.Common.{◌≡◌, List, Some, None, refl, ap, ◌∙◌, sym, subst, arith}
use Rattle.std.proofs.lemmas.Result.{err_from_is_err_and}
use Rattle.sdr_base.specs.Moves.{Moves}
use Rattle.sdr_base.specs.Rules.{words_for}
use Rattle.sdr_base.specs.declared.moves.Move.{Move}
use Rattle.sdr_base.proofs.LeavingLemmas.{full_leaves}
use Rattle.sdr_base.proofs.TransactionLemmas.{reason_answer, reason_stopped, reason_then, touches_answer, touches_more}
use Rattle.sdr_base.proofs.TransactionLemmas.{touches_stopped, touches_then}
use Rattle.sdr_base.specs.KeptHeap.{KeepsRegion}
use Rattle.sdr_heap.specs.Noted.{Held, marked_in, moves_in}
use Rattle.sdr_heap.proofs.HeldLemmas.{full_short, kept_inside, moved_short, moved_took, none_same, stopped}
use Rattle.sdr_heap.proofs.HeldWorksLemmas.{held_unmoved, held_works}
use Rattle.sdr_heap.proofs.MarkLemmas.{marked-set}
use Rattle.sdr_heap.proofs.SeenLemmas.{chosen_for, heap_took, some_bare, takes_steps, took_mark}
use Rattle.sdr_heap.proofs.objects.HeapObjects.take.Goals as goal

pub label-requires : goal.label-requires
label-requires g c =
    let many : c.max-words.result ≡ words_for c.args.need = omega arith in
    record {
      bare = some_bare _ _ c.args.need c.in-Some.addr
          (kept_inside g.C.Cells.bytes _ _ c.self.view_is c.requires.kept)
          (chosen_for c.args.need c.max-words.result c.in_ok-addr.field-0 _ _ _ many c.in-Some.is
          c.in_ok-addr.ensures.chosen);
    }

pub mark-requires : goal.mark-requires
mark-requires g c =
    let many : c.max-words.result ≡ words_for c.args.need = omega arith in
    let m = took_mark g.C.Cells.bytes _ _ _ _ c.args.kind c.args.need c.in-Some.addr c.self.view_is c.requires.kept
    (c.in_ok-label.ensures.size ∙ c.in_ok-addr.ensures.size)
    (chosen_for c.args.need c.max-words.result c.in_ok-addr.field-0 _ _ _ many c.in-Some.is
    c.in_ok-addr.ensures.chosen) c.in_ok-label.ensures.labelled c.self.invariant.words in
    record { inside = m.inside }

pub returns-clause-taken : goal.returns-clause-taken
returns-clause-taken g c =
    let many : c.max-words.result ≡ words_for c.args.need = omega arith in
    let kept = kept_inside g.C.Cells.bytes _ _ c.self.view_is c.requires.kept in
    let chooses = chosen_for c.args.need c.max-words.result c.in_ok-addr.field-0 (Some c.in-Some.addr)
    (g.C.Cells.bytes c.self.inside.cells) (g.C.Cells.bytes c.choose.new.c) many c.in-Some.is
    c.in_ok-addr.ensures.chosen in
    let m = took_mark g.C.Cells.bytes _ _ _ _ c.args.kind c.args.need c.in-Some.addr c.self.view_is c.requires.kept
    (c.in_ok-label.ensures.size ∙ c.in_ok-addr.ensures.size) chooses c.in_ok-label.ensures.labelled
    c.self.invariant.words in
    heap_took g.C.Cells.bytes _ _ c.label.new.c c.mark.new.self _ _ c.args.kind c.args.need c.in-Some.addr
    c.self.view_is
    (takes_steps _ _ _ c.args.kind c.args.need c.in-Some.addr kept.pools kept.keeps chooses
    c.in_ok-label.ensures.labelled)
    (ap marked_in c.mark.ensures ∙ marked-set c.self.inside.marks c.in-Some.addr m.whole m.inside)
    c.push-2.ensures.noted c.push-2.ensures.spare

pub returns-in_err-addr-clause-refused : goal.returns-in_err-addr-clause-refused
returns-in_err-addr-clause-refused g c =
    let p = err_from_is_err_and c.from_residual.result c.from_residual.ensures.1 in
    rw (p.1, p.2)
    (full_short _ _ (held_unmoved g.C.Cells.bytes _ _ c.choose.new.c c.self.view_is) c.in_err-addr.ensures.refused)

pub returns-in_err-addr-clause-works : goal.returns-in_err-addr-clause-works
returns-in_err-addr-clause-works g c =
    let p = err_from_is_err_and c.from_residual.result c.from_residual.ensures.1 in
    rw (p.1, p.2)
    (held_works g.C.Cells.bytes g.C.Cells.transaction g.C.Cells.quiet g.met.C.Cells.quiet_trans
    _ _ _ _ _ c.self.view_is refl c.requires.kept (stopped _ _ c.in_err-addr.ensures.refused)
    (touches_stopped _ _ _ _ (touches_more c.in_err-addr.ensures.room (omega arith)))
    (reason_stopped _ _ _ c.in_err-addr.ensures.cause) c.in_err-addr.ensures.quiet)

pub returns-in_default-clause-works : goal.returns-in_default-clause-works
returns-in_default-clause-works g c =
    let n = c.self.inside.size in
    let x = g.C.Cells.bytes c.self.inside.cells in
    let y = g.C.Cells.bytes c.choose.new.c in
    let old = moves_in c.self.inside.moves.places.items c.self.inside.moves.used in
    let many : c.max-words.result ≡ words_for c.args.need = omega arith in
    let chooses = chosen_for c.args.need c.max-words.result c.in_ok-addr.field-0 None x y many c.in_default.is
    c.in_ok-addr.ensures.chosen in
    let kept = kept_inside g.C.Cells.bytes _ _ c.self.view_is c.requires.kept in
    held_works g.C.Cells.bytes g.C.Cells.transaction g.C.Cells.quiet g.met.C.Cells.quiet_trans
    _ _ _ _ _ c.self.view_is refl c.requires.kept
    (subst (λ (moves : List Move). Moves (KeepsRegion n x) (KeepsRegion n y) old moves) (sym c.push.ensures.noted)
    (moved_short n x y c.args.need old (none_same x y (words_for c.args.need) kept.pools kept.keeps chooses) chooses))
    (touches_answer _ tt (touches_more c.in_ok-addr.ensures.room (omega arith)))
    (reason_answer _ c.in_ok-addr.ensures.cause.explained c.in_ok-addr.ensures.cause) c.in_ok-addr.ensures.quiet

pub returns-in_err-label-clause-refused : goal.returns-in_err-label-clause-refused
returns-in_err-label-clause-refused g c =
    let p = err_from_is_err_and c.from_residual-in_err-label.result c.from_residual-in_err-label.ensures.1 in
    rw (p.1, p.2)
    (full_short _ _ (held_unmoved g.C.Cells.bytes _ _ c.label.new.c c.self.view_is) c.in_err-label.ensures.refused)

pub returns-in_err-label-clause-works : goal.returns-in_err-label-clause-works
returns-in_err-label-clause-works g c =
    let p = err_from_is_err_and c.from_residual-in_err-label.result c.from_residual-in_err-label.ensures.1 in
    rw (p.1, p.2)
    (held_works g.C.Cells.bytes g.C.Cells.transaction g.C.Cells.quiet g.met.C.Cells.quiet_trans
    _ _ _ _ _ c.self.view_is refl c.requires.kept (stopped _ _ c.in_err-label.ensures.refused)
    (touches_stopped _ _ _ _
    (touches_more (touches_then c.in_ok-addr.ensures.room c.in_err-label.ensures.room) (omega arith)))
    (reason_stopped _ _ _ (reason_then c.in_ok-addr.ensures.cause c.in_err-label.ensures.cause))
    (g.met.C.Cells.quiet_trans _ _ _ c.in_ok-addr.ensures.quiet c.in_err-label.ensures.quiet))

pub returns-clause-works : goal.returns-clause-works
returns-clause-works g c =
    let n = c.self.inside.size in
    let x = g.C.Cells.bytes c.self.inside.cells in
    let y = g.C.Cells.bytes c.label.new.c in
    let old = moves_in c.self.inside.moves.places.items c.self.inside.moves.used in
    let many : c.max-words.result ≡ words_for c.args.need = omega arith in
    let room = touches_then c.in_ok-addr.ensures.room c.in_ok-label.ensures.room in
    let cause = reason_then c.in_ok-addr.ensures.cause c.in_ok-label.ensures.cause in
    held_works g.C.Cells.bytes g.C.Cells.transaction g.C.Cells.quiet g.met.C.Cells.quiet_trans
    _ _ _ _ _ c.self.view_is refl c.requires.kept
    (subst (λ (moves : List Move). Moves (KeepsRegion n x) (KeepsRegion n y) old moves) (sym c.push-2.ensures.noted)
    (moved_took n x (g.C.Cells.bytes c.choose.new.c) y c.args.kind c.args.need c.in-Some.addr old
    (c.in_ok-label.ensures.size ∙ c.in_ok-addr.ensures.size)
    (chosen_for c.args.need c.max-words.result c.in_ok-addr.field-0 (Some c.in-Some.addr) x _ many c.in-Some.is
    c.in_ok-addr.ensures.chosen) c.in_ok-label.ensures.labelled))
    (touches_answer _ tt (touches_more room (omega arith)))
    (reason_answer _ cause.explained cause)
    (g.met.C.Cells.quiet_trans _ _ _ c.in_ok-addr.ensures.quiet c.in_ok-label.ensures.quiet)

pub returns-in_err-addr-clause-untouched : goal.returns-in_err-addr-clause-untouched
returns-in_err-addr-clause-untouched g c =
    let p = err_from_is_err_and c.from_residual.result c.from_residual.ensures.1 in
    rw (p.1, p.2)
    (full_leaves (g.C.Cells.transaction c.args.self.now.cells) (g.C.Cells.transaction c.choose.new.c) _ c.in_err-addr.ensures.refused)

pub returns-in_default-clause-untouched : goal.returns-in_default-clause-untouched
returns-in_default-clause-untouched g c =
    let same = rw c.in_default.is at c.in_ok-addr.ensures.none in
    same ∙ ap (λ (h : Held g.row.C.Denot). (g.C.Cells.transaction h.cells).touched) c.self.view_is

pub returns-in_err-label-clause-untouched : goal.returns-in_err-label-clause-untouched
returns-in_err-label-clause-untouched g c =
    let p = err_from_is_err_and c.from_residual-in_err-label.result c.from_residual-in_err-label.ensures.1 in
    rw (p.1, p.2)
    (full_leaves (g.C.Cells.transaction c.args.self.now.cells) (g.C.Cells.transaction c.label.new.c) _ c.in_err-label.ensures.refused)
