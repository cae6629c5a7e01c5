-- What the rule of a board makes of a step of one seat.
use Rattle.std.proofs.Common.{◌≡◌, ◌≢◌, ⊎_elim, ℕ, zero, suc, ◌≤◌, List, [], ◌∷◌, length, set, refl, sym, subst, arith}
use Rattle.std.specs.Prelude.{slice_index, slice_set}
use mathlib.Core.List.{IsPrefix}
use mathlib.Core.Option.{some, some-injective, some-ne-none}
use lib.ListN.{get_elem?}
use Rattle.atomic_table.specs.Table.{State, Me, Act, keeps, Valid, homes_after, carried_after, Allows, opening}
use Rattle.atomic_table.proofs.Lists.{at_set}
use Rattle.sdr_board.specs.Posted.{board_words, Fits, IsPosted}
use Rattle.sdr_board.specs.Views.{reader_view, writer_view}
use Rattle.sdr_board.specs.declared.view.View.{View}
use Rattle.sdr_board.proofs.Beginnings.{prefix_length, prefix_whole}
use Rattle.sdr_model.specs.declared.journal.Entry.{Entry}

-- where no totals of more entries are begun than stood on the board, those of these entries stand there, and none are being written
pub settled : (log stood : List Entry) (begun : ℕ) → IsPrefix stood log → length log ≤ begun → begun ≤ length stood → (begun ≡ length log) × (stood ≡ log)
settled log stood begun p within le = let short = prefix_length stood log p in (omega (arith, short), prefix_whole stood log p (omega arith))

-- a reader that was told of some first entries
pub reader_fits : (log : List Entry) (begun : ℕ) (written : List ℕ) (writer j : ℕ) (seen : List Entry) → IsPrefix seen log → Fits log begun written writer j (reader_view seen)
reader_fits log begun written writer j seen p = record { seen = p; told = (log, refl); stood = p; front = omega arith; writes = λ t. absurd cc }

module _ {S : Type 0} where
  abbrev Rule : State S View → Type 0
  Rule = IsPosted

  -- the rule after a step of one seat
  pub changed : (s : State S View) (k : Rule s) (id : ℕ) (w : View) (log : List Entry) (begun : ℕ) (written : List ℕ) → length log ≤ begun → (begun ≡ length log → written ≡ [])
      → Fits log begun written k.writer id w → ((j : ℕ) (u : View) → j ≢ id → get_elem? s.views j ≡ some u → Fits log begun written k.writer j u)
      → Rule (record { words = board_words log begun written; homes = s.homes; views = set s.views id w })
  changed s k id w log begun written within rest mine others = record {
    log = log;
    begun = begun;
    written = written;
    writer = k.writer;
    words = refl;
    within = within;
    rest = rest;
    fits = λ j u e. ⊎_elim (λ t. subst (λ (x : View). Fits log begun written k.writer j x) t.1 (subst (λ i. Fits log begun written k.writer i w) (sym t.0) mine)) (λ t. others j u t.0 t.1) (at_set s.views id j w u e);
  }

  -- a step is allowed where it is with the words of the rule
  pub allowed : (slots id i : ℕ) (me : Me S View) (f : ℕ → ℕ) (then : ℕ → Me S View → Type 0)
      → ((s : State S View) → (k : Rule s) → get_elem? s.views id ≡ some me.0
      → (w : View) × Rule (record { words = slice_set (board_words k.log k.begun k.written) i (f (slice_index (board_words k.log k.begun k.written) i)); homes = s.homes; views = slice_set s.views id w })
      × then (slice_index (board_words k.log k.begun k.written) i) (w, me.1))
      → Allows Rule slots id me i f then
  allowed slots id i me f then each s k many at fits =
      let t = each s k at in
      subst (λ (ws : List ℕ). (w : View) × (a : Act S) × Valid s.homes me.1 a
      × Rule (record { words = slice_set ws i (f (slice_index ws i)); homes = homes_after s.homes me.1 a; views = slice_set s.views id w })
      × then (slice_index ws i) (w, carried_after me.1 a))
      (sym k.words) (t.0, keeps, tt, t.1, t.2)

  -- a new board
  pub opens : (homes : List S) → Rule (opening (0 ∷ 0 ∷ 0 ∷ 0 ∷ 0 ∷ 0 ∷ 0 ∷ 0 ∷ 0 ∷ 0 ∷ 0 ∷ []) homes (writer_view []))
  opens homes = record {
    log = [];
    begun = 0;
    written = [];
    writer = 0;
    words = refl;
    within = omega arith;
    rest = λ e. refl;
    fits = λ i v e. only i v e;
  }
    where
      only : (i : ℕ) (v : View) → get_elem? (writer_view [] ∷ []) i ≡ some v → Fits [] 0 [] 0 i v
      only zero v e = subst (Fits [] 0 [] 0 0) (some-injective (writer_view []) v e) (record { seen = ([], refl); told = ([], refl); stood = ([], refl); front = omega arith; writes = λ t. (refl, refl, refl, refl) })
      only (suc i) v e = absurd (some-ne-none v (sym e))
