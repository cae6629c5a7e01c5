-- A label, and then zeros.
use Rattle.std.proofs.Common.{rules, ◌%◌, ◌≡◌, ◌∙◌, ℕ, List, length, ap, sym, subst, arith}
use Rattle.std.proofs.lemmas.Result.{on_ok_weaker}
use Rattle.std.specs.Prelude.{replicate}
use Rattle.sdr_base.specs.Parts.{overwrite}
use Rattle.sdr_base.specs.Stored.{leader_words, with_leader}
use Rattle.sdr_base.specs.declared.kind.Kind.{Kind}
use Rattle.sdr_heap.specs.Calls.{Labels}
use Rattle.sdr_base.specs.KeptHeap.{used_place}
use Rattle.sdr_heap.proofs.LabelLemmas.{bare_place, labels}
use Rattle.sdr_heap.proofs.blocks.label.Goals as goal

-- the bytes with a label
abbrev led_at : List ℕ → ℕ → Kind → ℕ → List ℕ
led_at x addr kind need = with_leader (used_place x addr) kind (leader_words (used_place x addr) x) need x

pub used_place-requires-clause-least : goal.used_place-requires-clause-least
used_place-requires-clause-least g c = (bare_place _ _ _ c.requires.bare).least

pub read_leader-requires : goal.read_leader-requires
read_leader-requires g c =
    let b = bare_place _ _ _ c.requires.bare in
    record {
      inside = omega (arith, b.before, b.inside, c.in_ok-place.ensures.place, ap length c.in_ok-place.ensures.same);
    }

pub write_leader-requires-clause-inside : goal.write_leader-requires-clause-inside
write_leader-requires-clause-inside g c =
    let b = bare_place _ _ _ c.requires.bare in
    omega (
      arith,
      b.before,
      b.inside,
      c.in_ok-place.ensures.place,
      ap length c.in_ok-place.ensures.same,
      ap length c.in_ok-words.ensures.same,
    )

pub write_leader-requires-clause-words : goal.write_leader-requires-clause-words
write_leader-requires-clause-words g c =
    let b = bare_place _ _ _ c.requires.bare in
    let same : c.in_ok-words.field-0.words ≡ leader_words (used_place (g.C.Cells.bytes c.args.c.now) c.args.addr)
    (g.C.Cells.bytes c.args.c.now) =
    c.in_ok-words.ensures.words ∙ ap (leader_words c.in_ok-place.place) c.in_ok-place.ensures.same
    ∙ ap (λ (p : ℕ). leader_words p (g.C.Cells.bytes c.args.c.now)) c.in_ok-place.ensures.place in
    omega (arith, b.words, same)

pub write_leader-requires-clause-count : goal.write_leader-requires-clause-count
write_leader-requires-clause-count g c = (bare_place _ _ _ c.requires.bare).count

pub returns-in_err-write_leader-clause-room : goal.returns-in_err-write_leader-clause-room
returns-in_err-write_leader-clause-room g c =
    let b = bare_place _ _ _ c.requires.bare in
    let whole : c.in_ok-place.place % 8 ≡ 0 = subst (λ (p : ℕ). p % 8 ≡ 0) (sym c.in_ok-place.ensures.place) b.whole in
    let line = c.in_err-write_leader.ensures.line whole in
    search rules

pub clear-requires-clause-inside : goal.clear-requires-clause-inside
clear-requires-clause-inside g c =
    let b = bare_place _ _ _ c.requires.bare in
    omega (
      arith,
      b.inside,
      c.in_ok-write_leader.ensures.size,
      ap length c.in_ok-place.ensures.same,
      ap length c.in_ok-words.ensures.same,
    )

pub returns-clause-labelled : goal.returns-clause-labelled
returns-clause-labelled g c =
    let x = g.C.Cells.bytes c.args.c.now in
    let same : g.C.Cells.bytes c.read_leader.new.c ≡ x = c.in_ok-words.ensures.same ∙ c.in_ok-place.ensures.same in
    let place = c.in_ok-place.place in
    let words : c.in_ok-words.field-0.words ≡ leader_words place x =
    c.in_ok-words.ensures.words ∙ ap (leader_words place) c.in_ok-place.ensures.same in
    let led : g.C.Cells.bytes c.write_leader.new.c ≡ led_at x c.args.addr c.args.kind c.args.need =
    c.in_ok-write_leader.ensures.written
    ∙ ap (with_leader place c.args.kind c.in_ok-words.field-0.words c.args.need) same
    ∙ ap (λ (w : ℕ). with_leader place c.args.kind w c.args.need x) words
    ∙ ap (λ (p : ℕ). with_leader p c.args.kind (leader_words p x) c.args.need x) c.in_ok-place.ensures.place in
    on_ok_weaker c.clear.result
    (λ is. subst (Labels c.args.addr c.args.kind c.args.need x)
    (sym (is ∙ ap (overwrite c.args.addr (replicate c.args.need 0)) led))
    (labels x c.args.addr c.args.kind c.args.need c.requires.bare)) c.clear.ensures.cleared

pub returns-clause-room : goal.returns-clause-room
returns-clause-room g c =
    let b = bare_place _ _ _ c.requires.bare in
    let whole : c.in_ok-place.place % 8 ≡ 0 = subst (λ (p : ℕ). p % 8 ≡ 0) (sym c.in_ok-place.ensures.place) b.whole in
    let line = c.in_ok-write_leader.ensures.line whole in
    search rules
