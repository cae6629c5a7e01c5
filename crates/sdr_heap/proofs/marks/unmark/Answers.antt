use Rattle.std.proofs.Common.{◌≡◌, ◌≢◌, ◌∙◌, ℕ, Bool, true, false, List, length, drop, get_or, refl, sym, ap, arith}
use Rattle.std.proofs.Common.{length-drop}
use Rattle.std.specs.Prelude.{replicate}
use Rattle.std.proofs.lemmas.List.{ext_get_or, get_or-replicate, length-replicate}
use Rattle.sdr_heap.proofs.marks.unmark.Goals as goal

-- where no word is marked, all marks are off
all_off : (marks : List Bool) → ((word : ℕ) → get_or marks word false ≢ true) → marks ≡ replicate (length marks) false
all_off marks none =
    ext_get_or false marks (replicate (length marks) false) (sym (length-replicate {A = Bool} (length marks) false))
    (λ word lt. off (get_or marks word false) (none word) ∙ sym (get_or-replicate (length marks) word false false lt))
  where
    off : (mark : Bool) → mark ≢ true → mark ≡ false
    off true on = absurd (on refl)
    off false on = refl

pub returns : goal.returns
returns c =
    let end : length (drop c.loop-word.word-index c.args.listed.now) ≡ 0 =
    omega (arith, length-drop c.loop-word.word-index c.args.listed.now, c.loop-word-test.false) in
    all_off c.loop-word.marks
    (λ word is. let left = c.loop-word.invariant.left word is in omega (arith, end, left.1))
    ∙ ap (λ (n : ℕ). replicate n false) c.loop-word.invariant.many
