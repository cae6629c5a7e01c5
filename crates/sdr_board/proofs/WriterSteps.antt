-- Each step of the writer is allowed.
use Rattle.std.proofs.Common.{◌≡◌, ◌≢◌, ℕ, suc, ◌<◌, ◌≤◌, true, List, [], ◌∷◌, ◌++◌, drop, length, set, refl, sym, ◌∙◌, ap, subst, arith}
use mathlib.Core.List.{IsPrefix}
use mathlib.Core.Option.{some}
use lib.ListN.{get_elem?}
use Rattle.atomic_table.specs.Table.{State, Allows}
use Rattle.sdr_board.specs.Plays.{Beginning, Writing, Ending}
use Rattle.sdr_board.specs.Posted.{posted, board_words, Fits, IsPosted}
use Rattle.sdr_board.specs.Totals.{totals, words_of}
use Rattle.sdr_board.specs.Views.{writer_view, writing_view}
use Rattle.sdr_board.specs.declared.view.View.{View}
use Rattle.sdr_board.proofs.Beginnings.{prefix_self, prefix_trans}
use Rattle.sdr_board.proofs.Rules.{changed, allowed}
use Rattle.sdr_model.specs.declared.journal.Entry.{Entry}

-- the first word that isn't written yet is written
next_word : (all written : List ℕ) (x : ℕ) → length written < length all → set (written ++ drop (length written) all) (length written) x ≡ (written ++ x ∷ []) ++ drop (length (written ++ x ∷ [])) all
next_word [] written x lt = absurd (omega (arith, lt))
next_word (y ∷ all) [] x lt = refl
next_word (y ∷ all) (z ∷ written) x lt = ap (λ (l : List ℕ). z ∷ l) (next_word all written x (omega (arith, lt)))

module _ {S : Type 0} where
  abbrev Rule : State S View → Type 0
  Rule = IsPosted

  -- who isn't the writer's seat doesn't write
  silent : (s : State S View) (k : Rule s) (id j : ℕ) (v u : View) → get_elem? s.views id ≡ some v → v.writes ≡ true → j ≢ id → get_elem? s.views j ≡ some u → u.writes ≡ true → ⊥
  silent s k id j v u at writes ne e t = ne (((k.fits j u e).writes t).0 ∙ sym (((k.fits id v at).writes writes).0))

  -- what the others know stays so where the entries published and begun grow
  still_fit : (s : State S View) (k : Rule s) (id : ℕ) (v : View) (log : List Entry) (begun : ℕ) (written : List ℕ) → get_elem? s.views id ≡ some v → v.writes ≡ true → IsPrefix k.log log → k.begun ≤ begun
      → (j : ℕ) (u : View) → j ≢ id → get_elem? s.views j ≡ some u → Fits log begun written k.writer j u
  still_fit s k id v log begun written at writes longer more j u ne e =
      let g = k.fits j u e in record {
        seen = prefix_trans u.seen k.log log g.seen longer;
        told = prefix_trans u.told k.log log g.told longer;
        stood = prefix_trans u.stood k.log log g.stood longer;
        front = omega (arith, g.front, more);
        writes = λ t. absurd (silent s k id j v u at writes ne e t);
      }

  pub begins : (slots id new : ℕ) (seen : List Entry) (carry : List (ℕ × S)) → length seen < new
      → Allows Rule slots id (writer_view seen, carry) 1 (λ _. new) (λ _. Beginning (writer_view seen, carry) new)
  begins slots id new seen carry more =
      allowed slots id 1 (writer_view seen, carry) (λ _. new) (λ _. Beginning (writer_view seen, carry) new)
      (λ s k at.
      let f = k.fits id (writer_view seen) at in
      let mine = f.writes refl in
      let long : length seen ≡ length k.log = ap (λ (l : List Entry). length l) mine.1 in
      let w = writing_view seen new [] in (
        w,
        subst (λ (ws : List ℕ). Rule (record { words = board_words k.log new ws; homes = s.homes; views = set s.views id w })) mine.3
            (changed s k id w k.log new [] (omega (arith, long, more)) (λ e. refl)
            (record { seen = f.seen; told = f.told; stood = f.stood; front = omega arith; writes = λ t. (mine.0, mine.1, refl, refl) })
            (still_fit s k id (writer_view seen) k.log new [] at refl (prefix_self k.log) (omega (arith, mine.2, more)))),
        refl,
      ))

  pub writes_word : (slots id place x begun : ℕ) (seen : List Entry) (written : List ℕ) (carry : List (ℕ × S)) → length written < 9 → length seen < begun → place ≡ suc (suc (length written))
      → Allows Rule slots id (writing_view seen begun written, carry) place (λ _. x) (λ _. Writing (writing_view seen begun written, carry) x)
  writes_word slots id place x begun seen written carry room more is =
      subst (λ p. Allows Rule slots id (writing_view seen begun written, carry) p (λ _. x) (λ _. Writing (writing_view seen begun written, carry) x)) (sym is)
      (allowed slots id (suc (suc (length written))) (writing_view seen begun written, carry) (λ _. x) (λ _. Writing (writing_view seen begun written, carry) x)
      (λ s k at.
      let v = writing_view seen begun written in
      let f = k.fits id v at in
      let mine = f.writes refl in
      let long : length seen ≡ length k.log = ap (λ (l : List Entry). length l) mine.1 in
      let longer = written ++ x ∷ [] in
      let w = writing_view seen begun longer in
      let words : set (posted k.log k.written) (length written) x ≡ posted k.log longer = ap (λ (ws : List ℕ). set (posted k.log ws) (length written) x) (sym mine.3) ∙ next_word (words_of (totals k.log)) written x room in (
        w,
        subst (λ (ws : List ℕ). Rule (record { words = length k.log ∷ k.begun ∷ ws; homes = s.homes; views = set s.views id w })) (sym words)
            (changed s k id w k.log k.begun longer k.within (λ e. absurd (omega (arith, e, mine.2, long, more)))
            (record { seen = f.seen; told = f.told; stood = f.stood; front = omega arith; writes = λ t. (mine.0, mine.1, mine.2, refl) })
            (still_fit s k id v k.log k.begun longer at refl (prefix_self k.log) (omega arith))),
        refl,
      )))

  pub ends : (slots id new begun : ℕ) (seen journal : List Entry) (written : List ℕ) (carry : List (ℕ × S)) → new ≡ length journal → begun ≡ length journal
      → written ≡ words_of (totals journal) → IsPrefix seen journal
      → Allows Rule slots id (writing_view seen begun written, carry) 0 (λ _. new) (λ _. Ending journal (writing_view seen begun written, carry) new)
  ends slots id new begun seen journal written carry new_is begun_is all later =
      allowed slots id 0 (writing_view seen begun written, carry) (λ _. new) (λ _. Ending journal (writing_view seen begun written, carry) new)
      (λ s k at.
      let v = writing_view seen begun written in
      let f = k.fits id v at in
      let mine = f.writes refl in
      let long : length seen ≡ length k.log = ap (λ (l : List Entry). length l) mine.1 in
      let second : k.begun ≡ length journal = sym mine.2 ∙ begun_is in
      let others : posted k.log k.written ≡ posted journal [] = ap (posted k.log) (sym mine.3 ∙ all) in
      let longer : IsPrefix k.log journal = subst (λ (l : List Entry). IsPrefix l journal) mine.1 later in
      let w = writer_view journal in (
        w,
        subst (λ n. Rule (record { words = n ∷ k.begun ∷ posted k.log k.written; homes = s.homes; views = set s.views id w })) (sym new_is)
            (subst (λ n. Rule (record { words = length journal ∷ n ∷ posted k.log k.written; homes = s.homes; views = set s.views id w })) (sym second)
            (subst (λ (ws : List ℕ). Rule (record { words = length journal ∷ length journal ∷ ws; homes = s.homes; views = set s.views id w })) (sym others)
            (changed s k id w journal (length journal) [] (omega arith) (λ e. refl)
            (record { seen = prefix_self journal; told = (journal, refl); stood = (journal, refl); front = omega arith; writes = λ t. (mine.0, refl, refl, refl) })
            (still_fit s k id v journal (length journal) [] at refl longer (omega (arith, second)))))),
        refl,
      ))
