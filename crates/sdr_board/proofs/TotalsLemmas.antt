-- The totals of a journal add up, and those with one entry more are those of one entry more.
use Rattle.std.proofs.Common.{◌≡◌, ℕ, ◌+◌, ◌<◌, Bool, cond, List, [], ◌∷◌, ◌++◌, length, sum_by, refl, sym, ◌∙◌, ap, arith, append_assoc, get_or, length-append, take}
use Rattle.std.proofs.lemmas.List.{take_more}
use Rattle.std.proofs.lemmas.List.Sums.{sum_by-cons, sum_by_push}
use Rattle.sdr_board.specs.Totals.{is_ended, is_cancelled, is_exited, is_faulted, is_look, is_left, is_taking, is_giving, moves_in, last_number, capped, totals, AddsUp, with_entry}
use Rattle.sdr_base.specs.declared.moves.Move.{Move}
use Rattle.sdr_board.specs.declared.totals.Totals.{Totals}
use Rattle.sdr_model.specs.declared.answer.Close.TheVariants as closes
use Rattle.sdr_model.specs.declared.journal.Entry.{Entry}
use Rattle.sdr_model.specs.declared.journal.What.TheVariants as whats
use Rattle.sdr_model.specs.declared.journal.What.{What}

-- one, where it is of this kind
abbrev one : (What → Bool) → Entry → ℕ
one kind e = cond (kind e.what) 1 0

-- it is of one kind
one_kind : (w : What) → cond (is_ended w) 1 0 + cond (is_cancelled w) 1 0 + cond (is_exited w) 1 0 + cond (is_faulted w) 1 0 + cond (is_look w) 1 0 + cond (is_left w) 1 0 ≡ 1
one_kind (whats.Work said closes.Ended) = refl
one_kind (whats.Work said closes.Exited) = refl
one_kind (whats.Work said (closes.Cancelled reason)) = refl
one_kind (whats.Work said closes.Faulted) = refl
one_kind (whats.Waits ticket) = refl
one_kind (whats.Awarded ticket) = refl
one_kind (whats.Stalled ticket) = refl
one_kind (whats.Leaves leave) = refl

-- the entries are those of each outcome, the looks and the leaves
pub adds_up : (entries : List Entry) → AddsUp (totals entries)
adds_up [] = refl
adds_up (e ∷ es) =
    omega (arith, one_kind e.what, adds_up es, sum_by-cons (one is_ended) e es, sum_by-cons (one is_cancelled) e es, sum_by-cons (one is_exited) e es, sum_by-cons (one is_faulted) e es, sum_by-cons (one is_look) e es, sum_by-cons (one is_left) e es)

pub adds_up-with_entry : (t : Totals) (e : Entry) → AddsUp t → AddsUp (with_entry t e)
adds_up-with_entry t e sum = omega (arith, one_kind e.what, sum)

last_number-push : (es : List Entry) (e : Entry) → last_number (es ++ e ∷ []) ≡ e.number
last_number-push [] e = refl
last_number-push (f ∷ []) e = refl
last_number-push (f ∷ g ∷ es) e = last_number-push (g ∷ es) e

-- a sum that stops at the largest number is reckoned step by step
pub capped-plus : (a b : ℕ) → capped (capped a + b) ≡ capped (a + b)
capped-plus a b = omega arith

-- the totals of one entry more
pub totals-push : (es : List Entry) (e : Entry) → totals (es ++ e ∷ []) ≡ with_entry (totals es) e
totals-push es e =
    let entries : length (es ++ e ∷ []) ≡ length es + 1 = length-append es (e ∷ []) in
    let number = last_number-push es e in
    let ended = sum_by_push (one is_ended) es e in
    let cancelled = sum_by_push (one is_cancelled) es e in
    let exited = sum_by_push (one is_exited) es e in
    let faulted = sum_by_push (one is_faulted) es e in
    let looks = sum_by_push (one is_look) es e in
    let left = sum_by_push (one is_left) es e in
    let taken = moves is_taking in
    let given = moves is_giving in
    λ k. record {
      entries = entries k;
      number = number k;
      ended = ended k;
      cancelled = cancelled k;
      exited = exited k;
      faulted = faulted k;
      looks = looks k;
      left = left k;
      taken = taken k;
      given = given k;
    }
  where
    moves : (kind : Move → Bool) → capped (sum_by (λ x. moves_in kind x.what) (es ++ e ∷ [])) ≡ capped (capped (sum_by (λ x. moves_in kind x.what) es) + moves_in kind e.what)
    moves kind = ap capped (sum_by_push (λ x. moves_in kind x.what) es e) ∙ sym (capped-plus (sum_by (λ x. moves_in kind x.what) es) (moves_in kind e.what))

-- the totals of first entries, with the next one
pub totals-more : (before entries : List Entry) (i : ℕ) (e : Entry) → i < length entries → e ≡ get_or entries i e
    → totals (before ++ take (i + 1) entries) ≡ with_entry (totals (before ++ take i entries)) e
totals-more before entries i e less is =
    ap totals (ap (λ (l : List Entry). before ++ l) (take_more entries i e less ∙ ap (λ (x : Entry). take i entries ++ x ∷ []) (sym is)) ∙ sym (append_assoc before (take i entries) (e ∷ [])))
    ∙ totals-push (before ++ take i entries) e
