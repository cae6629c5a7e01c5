-- Each step of a reader is allowed.
use Rattle.std.proofs.Common.{◌≡◌, ⊎_elim, ℕ, ◌≤◌, ◌==◌, Bool, true, false, List, [], ◌++◌, length, set, refl, sym, ◌∙◌, ap, subst, arith, le_refl, ◌+◌, ◌<◌, ◌∷◌, suc, get_or, take}
use Rattle.std.specs.Prelude.{MatchBool, slice_index}
use Rattle.std.proofs.lemmas.List.{set-get_or, take_more, take_more_set}
use mathlib.Core.Option.{some}
use lib.ListN.{get_elem?}
use Rattle.atomic_table.specs.Table.{State, Me, Allows, Splits, Joins}
use Rattle.atomic_table.proofs.Lists.{at_set, at_snoc, set_again}
use Rattle.sdr_board.specs.Plays.{Looking, Peeking, Checking, Comparing}
use Rattle.sdr_board.specs.Posted.{board_words, Fits, IsPosted}
use Rattle.sdr_board.specs.Totals.{totals, words_of}
use Rattle.sdr_board.specs.Views.{reader_view, with_look, with_front, with_seen, with_met, with_told, with_longer}
use Rattle.sdr_board.specs.declared.view.View.{View}
use Rattle.sdr_board.proofs.Beginnings.{prefix_self, longer_of}
use Rattle.sdr_board.proofs.Rules.{settled, reader_fits, changed, allowed}
use Rattle.sdr_model.specs.declared.journal.Entry.{Entry}

-- a word is as it was where no more totals are begun
as_it_was : (log stood : List Entry) (begun place : ℕ) (written : List ℕ) → begun ≡ length log → stood ≡ log → written ≡ []
    → slice_index (board_words log begun written) place ≡ slice_index (board_words stood (length stood) []) place
as_it_was log stood begun place written rests same empty = ap (λ (b : ℕ). slice_index (board_words log b written) place) rests
    ∙ (ap (λ (ws : List ℕ). slice_index (board_words log (length log) ws) place) empty ∙ ap (λ (l : List Entry). slice_index (board_words l (length l) []) place) (sym same))

module _ {S : Type 0} where
  abbrev Rule : State S View → Type 0
  Rule = IsPosted

  -- a step of a seat that writes nothing
  same_words : (s : State S View) (k : Rule s) (id : ℕ) (w : View) → Fits k.log k.begun k.written k.writer id w
      → Rule (record { words = board_words k.log k.begun k.written; homes = s.homes; views = set s.views id w })
  same_words s k id w mine = changed s k id w k.log k.begun k.written k.within k.rest mine (λ j u ne e. k.fits j u e)

  pub looks : (slots id : ℕ) (v : View) (carry : List (ℕ × S)) → Allows Rule slots id (v, carry) 0 (λ n. n) (Looking (v, carry))
  looks slots id v carry =
      allowed slots id 0 (v, carry) (λ n. n) (Looking (v, carry))
      (λ s k at.
      let f = k.fits id v at in (
        with_look v k.log k.begun,
        same_words s k id (with_look v k.log k.begun) (record { seen = f.seen; told = f.told; stood = prefix_self k.log; front = le_refl k.begun; writes = f.writes }),
        (k.log, k.begun, refl, f.seen, f.stood, refl),
      ))

  pub peeks : (slots id place : ℕ) (v : View) (carry : List (ℕ × S)) → Allows Rule slots id (v, carry) place (λ n. n) (Peeking place (v, carry))
  peeks slots id place v carry =
      allowed slots id place (v, carry) (λ n. n) (Peeking place (v, carry))
      (λ s k at.
      let f = k.fits id v at in (
        with_front v k.begun,
        subst (λ (ws : List ℕ). Rule (record { words = ws; homes = s.homes; views = set s.views id (with_front v k.begun) })) (sym (set-get_or (board_words k.log k.begun k.written) place 0))
            (same_words s k id (with_front v k.begun) (record { seen = f.seen; told = f.told; stood = f.stood; front = le_refl k.begun; writes = f.writes })),
        (k.begun, refl, f.front, λ le. let t = settled k.log v.stood k.begun f.stood k.within le in as_it_was k.log v.stood k.begun place k.written t.0 t.1 (k.rest t.0)),
      ))

  pub checks : (slots id : ℕ) (v : View) (carry : List (ℕ × S)) → v.writes ≡ false → Allows Rule slots id (v, carry) 1 (λ n. n) (Checking (v, carry))
  checks slots id v carry reads =
      allowed slots id 1 (v, carry) (λ n. n) (Checking (v, carry)) (λ s k at. by_case s k at (k.begun == length v.stood) refl)
    where
      Goes : (s : State S View) → Rule s → Bool → Type 0
      Goes s k b = (w : View) × Rule (record { words = board_words k.log k.begun k.written; homes = s.homes; views = set s.views id w })
          × ((v.front ≤ k.begun) × MatchBool b (◌≡◌ {A = Me S View} (w, carry) (with_seen v, carry)) (◌≡◌ {A = Me S View} (w, carry) (with_met v, carry)))

      by_case : (s : State S View) (k : Rule s) → get_elem? s.views id ≡ some v → (b : Bool) → (k.begun == length v.stood) ≡ b → Goes s k b
      by_case s k at true is =
          let f = k.fits id v at in (
            with_seen v,
            same_words s k id (with_seen v) (record { seen = f.stood; told = f.told; stood = f.stood; front = f.front; writes = λ t. absurd (cc (reads, t)) }),
            (f.front, refl),
          )
      by_case s k at false is =
          let f = k.fits id v at in (
            with_met v,
            same_words s k id (with_met v) (record { seen = f.seen; told = f.told; stood = f.stood; front = f.front; writes = f.writes }),
            (f.front, refl),
          )

  pub compares : (slots id : ℕ) (v : View) (carry : List (ℕ × S)) → v.writes ≡ false → Allows Rule slots id (v, carry) 0 (λ n. n) (Comparing (v, carry))
  compares slots id v carry reads =
      allowed slots id 0 (v, carry) (λ n. n) (Comparing (v, carry))
      (λ s k at.
      let f = k.fits id v at in
      let l = longer_of v.seen v.told k.log f.seen f.told in (
        with_longer v,
        same_words s k id (with_longer v) (record { seen = l.0; told = f.told; stood = f.stood; front = f.front; writes = λ t. absurd (cc (reads, t)) }),
        (refl, l.1, l.2),
      ))

  pub splits : (id : ℕ) (v : View) → Splits Rule id v v (reader_view v.seen)
  splits id v s k at =
      let f = k.fits id v at in record {
        log = k.log;
        begun = k.begun;
        written = k.written;
        writer = k.writer;
        words = k.words;
        within = k.within;
        rest = k.rest;
        fits = λ j u e. ⊎_elim (λ old. k.fits j u (subst (λ (l : List View). get_elem? l j ≡ some u) (set_again s.views id v at) old))
            (λ new. subst (λ (x : View). Fits k.log k.begun k.written k.writer j x) new (reader_fits k.log k.begun k.written k.writer j v.seen f.seen))
            (at_snoc (set s.views id v) (reader_view v.seen) u j e);
      }

  pub joins : (id : ℕ) (v : View) (other : ℕ) (w : View) → Joins Rule id v other w (with_told v w) (reader_view [])
  joins id v other w s k at apart there =
      let both = with_told v w in
      let theirs : get_elem? s.views other ≡ some w = ⊎_elim (λ t. absurd (apart t.0)) (λ t. t.1) (at_set s.views id other both w there) in
      let f = k.fits id v at in
      let g = k.fits other w theirs in record {
        log = k.log;
        begun = k.begun;
        written = k.written;
        writer = k.writer;
        words = k.words;
        within = k.within;
        rest = k.rest;
        fits = λ j u e. ⊎_elim
            (λ t. subst (λ (x : View). Fits k.log k.begun k.written k.writer j x) t.1 (reader_fits k.log k.begun k.written k.writer j [] (k.log, refl)))
            (λ t. ⊎_elim
            (λ r. subst (λ (x : View). Fits k.log k.begun k.written k.writer j x) r.1 (subst (λ i. Fits k.log k.begun k.written k.writer i both) (sym r.0) (record { seen = f.seen; told = g.seen; stood = f.stood; front = f.front; writes = f.writes })))
            (λ r. k.fits j u r.1)
            (at_set s.views id j both u t.1))
            (at_set (set s.views id both) other j (reader_view []) u e);
      }

-- the words read are those of the totals so far, with the next word
pub next_read : (stood : List Entry) (words : List ℕ) (i x : ℕ) → i < length words → i < 9 → take i words ≡ take i (words_of (totals stood)) → x ≡ slice_index (board_words stood (length stood) []) (2 + i)
    → take (i + 1) (set words i x) ≡ take (i + 1) (words_of (totals stood))
next_read stood words i x less few before is =
    let all = words_of (totals stood) in
    let on : 2 + i ≡ suc (suc i) = omega arith in
    let here : x ≡ get_or all i 0 = is ∙ ap (slice_index (board_words stood (length stood) [])) on in
    take_more_set words i x less ∙ (ap (λ (ws : List ℕ). ws ++ x ∷ []) before ∙ ap (λ (y : ℕ). take i all ++ y ∷ []) here) ∙ sym (take_more all i 0 few)
