-- Those that weren't filled are left out.
use Rattle.std.proofs.Common.{◌≡◌, ℕ, List, ◌++◌, length, sym, ap, ◌∙◌, subst, arith, take, rules}
use Rattle.std.specs.Prelude.{filter}
use Rattle.std.proofs.lemmas.Fn.{filter_same}
use Rattle.std.proofs.lemmas.List.{take-append-le, take_all}
use Rattle.std.proofs.lemmas.Result.{IfErr-weaker, on_ok_weaker}
use Rattle.sdr_base.specs.declared.stop.Stop.{Stop}
use Rattle.zco_pieces.specs.Adding.{FillsParts, FillsSome, has_clone}
use Rattle.zco_join.specs.declared.filled.Filled.{Filled}
use Rattle.zco_pieces.proofs.AddLemmas.{fills_kept}
use Rattle.zco_pieces.proofs.adding.fill.Goals as goal

-- the vector holds just what was written back
written : (n : ℕ) (xs ys : List Filled) → length xs ≡ n → take n (xs ++ ys) ≡ xs
written n xs ys e = take-append-le n xs ys (omega (arith, e)) ∙ take_all n xs (omega (arith, e))

pub returns-clause-filled : goal.returns-clause-filled
returns-clause-filled g c =
    let now = c.fill_gaps-outcome.new.parts in
    let kept : c.of.result ≡ filter has_clone now =
    c.of.ensures ∙ filter_same _ has_clone _ (λ x b f' k. search rules) _ _ c.retain.ensures.filtered
    ∙ ap (filter has_clone) (written _ now _ (omega (arith, c.fill_gaps-outcome.auto.parts, c.deref_mut.ensures.len))) in
    let f = rw c.deref_mut.ensures.value at c.fill_gaps-outcome.ensures.filled in
    let A : List Filled → Type 0 = λ xs.
    FillsParts c.args.piece.now.object c.args.ticket c.args.piece.now.offset c.args.parts.items xs (g.O.HasHeap.heap c.args.o.now)
    (g.O.HasHeap.heap c.fill_gaps-outcome.new.o) in
    on_ok_weaker c.fill_gaps-outcome.result
    (λ (x : A now). subst A (sym (kept ∙ fills_kept c.args.piece.now.object c.args.ticket c.args.piece.now.offset c.args.parts.items now _ _ x)) x) f

pub returns-clause-refused : goal.returns-clause-refused
returns-clause-refused g c =
    let now = c.fill_gaps-outcome.new.parts in
    let kept : c.of.result ≡ filter has_clone now =
    c.of.ensures ∙ filter_same _ has_clone _ (λ x b f' k. search rules) _ _ c.retain.ensures.filtered
    ∙ ap (filter has_clone) (written _ now _ (omega (arith, c.fill_gaps-outcome.auto.parts, c.deref_mut.ensures.len))) in
    let f = rw c.deref_mut.ensures.value at c.fill_gaps-outcome.ensures.refused in
    IfErr-weaker c.fill_gaps-outcome.result _ _
    (λ (stop : Stop) (x : FillsSome c.args.piece.now.object c.args.ticket c.args.piece.now.offset c.args.parts.items now
    (g.O.HasHeap.heap c.args.o.now) (g.O.HasHeap.heap c.fill_gaps-outcome.new.o) stop). record { parts = now; some = x; kept = kept }) f

pub returns-clause-works : goal.returns-clause-works
returns-clause-works g c =
    λ row tickets sources k.
    rw c.deref_mut.ensures.value at (c.fill_gaps-outcome.ensures.works row tickets sources (rw c.deref_mut.ensures.value k))
