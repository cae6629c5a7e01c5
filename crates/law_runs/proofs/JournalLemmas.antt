-- A journal with one more entry.
use Rattle.std.proofs.Common.{◌≡◌, ◌≤◌, ◌<◌, ◌∙◌, ◌==◌, ◌&&◌, ℕ, List, [], ◌∷◌, ◌++◌, Bool, true, false, Option, Some, MatchBool, refl, sym, ap, subst, cond, arith, find, take, length, append_assoc, append-nil, true≢false}
use Rattle.std.specs.List.{list_all}
use Rattle.std.specs.Prelude.{All, ⊤}
use Rattle.std.proofs.lemmas.List.Elements.{All-cons, All-nil}
use Rattle.std.proofs.lemmas.List.{reverse-append}
use Rattle.sdr_base.specs.Media.{Told}
use Rattle.sdr_model.specs.declared.journal.Entry.{Entry}
use Rattle.sdr_machine.specs.Ground.{State}
use Rattle.sdr_machine.specs.Legal.{EndsWithLeaves, Lead, MayFollow, Rise, is_fault, is_leave, last_entry}
use Rattle.law_runs.specs.Rising.{MomentsRise, NumbersRise}

-- the entries lead on by one more that may stand behind them
pub lead_more : (told : Option Told) (daemons : List ℕ) (before : List Entry) (s : State) (entries : List Entry) (s' : State) (e : Entry) (s'' : State)
    → Lead told daemons before s entries s' → MayFollow told daemons (before ++ entries) s' e.number e.daemon e.what s''
    → Lead told daemons before s (entries ++ e ∷ []) s''
lead_more told daemons before s [] s' e s'' lead stands =
    let from : MayFollow told daemons before s e.number e.daemon e.what s'' =
    subst (λ x. MayFollow told daemons before x e.number e.daemon e.what s'') lead
    (subst (λ xs. MayFollow told daemons xs s' e.number e.daemon e.what s'') (append-nil before) stands) in
    record { after = s''; stands = from; rest = refl }
lead_more told daemons before s (first ∷ entries) s' e s'' lead stands = record {
  after = lead.after;
  stands = lead.stands;
  rest =
      lead_more told daemons (before ++ first ∷ []) lead.after entries s' e s'' lead.rest
      (subst (λ xs. MayFollow told daemons xs s' e.number e.daemon e.what s'') (sym (append_assoc before (first ∷ []) entries)) stands);
}

-- the number of the last entry, and the moment at which it was done
abbrev pub last_number : ℕ → List Entry → ℕ
last_number number [] = number
last_number number (e ∷ entries) = last_number e.number entries

abbrev pub last_done : ℕ → List Entry → ℕ
last_done done [] = done
last_done done (e ∷ entries) = last_done e.done entries

pub last_number-more : (number : ℕ) (entries : List Entry) (e : Entry) → last_number number (entries ++ e ∷ []) ≡ e.number
last_number-more number [] e = refl
last_number-more number (first ∷ entries) e = last_number-more first.number entries e

pub last_done-more : (done : ℕ) (entries : List Entry) (e : Entry) → last_done done (entries ++ e ∷ []) ≡ e.done
last_done-more done [] e = refl
last_done-more done (first ∷ entries) e = last_done-more first.done entries e

-- one that comes behind the last keeps the numbers rising, and the moments
pub numbers_more : (number : ℕ) (entries : List Entry) (e : Entry) → NumbersRise number entries → last_number number entries < e.number → NumbersRise number (entries ++ e ∷ [])
numbers_more number [] e rise higher = (higher, tt)
numbers_more number (first ∷ entries) e rise higher = (rise.0, numbers_more first.number entries e rise.1 higher)

pub moments_more : (done : ℕ) (entries : List Entry) (e : Entry) → MomentsRise done entries → last_done done entries ≤ e.begun → e.begun ≤ e.done
    → MomentsRise done (entries ++ e ∷ [])
moments_more done [] e rise later lasts = (later, lasts, tt)
moments_more done (first ∷ entries) e rise later lasts = (rise.0, rise.1, moments_more first.done entries e rise.2 later lasts)

-- so both rise
pub both_rise : (number done : ℕ) (entries : List Entry) → NumbersRise number entries → MomentsRise done entries → Rise number done entries
both_rise number done [] numbers moments = tt
both_rise number done (e ∷ entries) numbers moments =
    (record { higher = numbers.0; later = moments.0; in_time = moments.1 }, both_rise e.number e.done entries numbers.1 moments.2)

-- the last entry of the daemon whose entry is added, and of any other
pub last_entry-own : (journal : List Entry) (e : Entry) (id : ℕ) → (e.daemon == id) ≡ true → last_entry (journal ++ e ∷ []) id ≡ Some e
last_entry-own journal e id own =
    ap (find (λ (x : Entry). x.daemon == id)) (reverse-append journal (e ∷ [])) ∙ ap (λ b. cond b (Some e) (last_entry journal id)) own

pub last_entry-other : (journal : List Entry) (e : Entry) (id : ℕ) → (e.daemon == id) ≡ false → last_entry (journal ++ e ∷ []) id ≡ last_entry journal id
last_entry-other journal e id other =
    ap (find (λ (x : Entry). x.daemon == id)) (reverse-append journal (e ∷ [])) ∙ ap (λ b. cond b (Some e) (last_entry journal id)) other

-- no disk fault is met in the journal so far
abbrev pub AreSound : List Entry → Type 0
AreSound [] = ⊤
AreSound (e ∷ entries) = (is_fault e.what ≡ false) × AreSound entries

pub sound_more : (entries : List Entry) (e : Entry) → AreSound entries → is_fault e.what ≡ false → AreSound (entries ++ e ∷ [])
sound_more [] e sound whole = (whole, tt)
sound_more (first ∷ entries) e sound whole = (sound.0, sound_more entries e sound.1 whole)

-- any entry may stand behind them
pub ends_after_sound : (entries : List Entry) (e : Entry) → AreSound entries → EndsWithLeaves (entries ++ e ∷ [])
ends_after_sound [] e sound = by (is_fault e.what)
  where
    by : (b : Bool) → MatchBool b (true ≡ true) ⊤
    by true = refl
    by false = tt
ends_after_sound (first ∷ entries) e sound =
    subst (λ b. MatchBool b (list_all (λ (x : Entry). is_leave x.what) (entries ++ e ∷ []) ≡ true) (EndsWithLeaves (entries ++ e ∷ []))) (sym sound.0)
    (ends_after_sound entries e sound.1)

all_leaves_more : (entries : List Entry) (e : Entry) → list_all (λ (x : Entry). is_leave x.what) entries ≡ true → is_leave e.what ≡ true
    → list_all (λ (x : Entry). is_leave x.what) (entries ++ e ∷ []) ≡ true
all_leaves_more [] e all leaves = ap (λ b. b && true) leaves
all_leaves_more (first ∷ entries) e all leaves = by (is_leave first.what) all (λ rest. all_leaves_more entries e rest leaves)
  where
    by : (b : Bool) → (b && list_all (λ (x : Entry). is_leave x.what) entries) ≡ true
        → (list_all (λ (x : Entry). is_leave x.what) entries ≡ true → list_all (λ (x : Entry). is_leave x.what) (entries ++ e ∷ []) ≡ true)
        → (b && list_all (λ (x : Entry). is_leave x.what) (entries ++ e ∷ [])) ≡ true
    by true all rest = rest all
    by false all rest = absurd (true≢false (sym all))

-- a leave may always
pub ends_with_leave : (entries : List Entry) (e : Entry) → EndsWithLeaves entries → is_leave e.what ≡ true → EndsWithLeaves (entries ++ e ∷ [])
ends_with_leave [] e ends leaves = by (is_fault e.what)
  where
    by : (b : Bool) → MatchBool b (true ≡ true) ⊤
    by true = refl
    by false = tt
ends_with_leave (first ∷ entries) e ends leaves = by (is_fault first.what) ends (λ rest. ends_with_leave entries e rest leaves)
  where
    by : (b : Bool) → MatchBool b (list_all (λ (x : Entry). is_leave x.what) entries ≡ true) (EndsWithLeaves entries)
        → (EndsWithLeaves entries → EndsWithLeaves (entries ++ e ∷ []))
        → MatchBool b (list_all (λ (x : Entry). is_leave x.what) (entries ++ e ∷ []) ≡ true) (EndsWithLeaves (entries ++ e ∷ []))
    by true all rest = all_leaves_more entries e all leaves
    by false ends rest = rest ends

-- all entries are the first so many
pub take_all : (entries : List Entry) → take (length entries) entries ≡ entries
take_all [] = refl
take_all (e ∷ entries) = ap (λ rest. e ∷ rest) (take_all entries)

-- where numbers rise, none is above the last
pub rise_below : (number : ℕ) (entries : List Entry) → NumbersRise number entries → number ≤ last_number number entries
rise_below number [] rise = omega arith
rise_below number (e ∷ entries) rise =
    let rest : e.number ≤ last_number e.number entries = rise_below e.number entries rise.1 in
    let higher : number < e.number = rise.0 in
    omega arith

pub all_below : (number most : ℕ) (entries : List Entry) → NumbersRise number entries → last_number number entries ≤ most → All (λ (e : Entry). e.number ≤ most) entries
all_below number most [] rise last = All-nil (λ (e : Entry). e.number ≤ most)
all_below number most (e ∷ entries) rise last =
    All-cons (λ (e : Entry). e.number ≤ most) e entries (let below = rise_below e.number entries rise.1 in omega arith)
    (all_below e.number most entries rise.1 last)

pub all_above : (number above : ℕ) (entries : List Entry) → NumbersRise number entries → last_number number entries < above → All (λ (e : Entry). e.number < above) entries
all_above number above [] rise last = All-nil (λ (e : Entry). e.number < above)
all_above number above (e ∷ entries) rise last =
    All-cons (λ (e : Entry). e.number < above) e entries (let below = rise_below e.number entries rise.1 in omega arith)
    (all_above e.number above entries rise.1 last)
